-- How the rows of a cipher are built: param counts up from a first value for each nonce length, over the tag lengths in their order.
use Rattle.std.specs.Prelude.{ℕ, ◌+◌, cond, Some, None, Option, ◌==◌}
use Rattle.mode.specs.Set.{Fields}

abbrev pub entry : ℕ → ℕ → ℕ → ℕ → ℕ → Option Fields
entry code width n t param = Some (record { code = code; width = width; nonce = n; tag = t; param = param })

-- blocks of 16 bytes: tags of 8, 12, 16 and 4 bytes, nonces of 12, 8 and 14
abbrev pub wide_tags : ℕ → ℕ → ℕ → ℕ → Option Fields
wide_tags code n t first =
    cond (t == 8) (entry code 16 n t (first + 0))
    (cond (t == 12) (entry code 16 n t (first + 1))
    (cond (t == 16) (entry code 16 n t (first + 2))
    (cond (t == 4) (entry code 16 n t (first + 3)) None)))

abbrev pub wide_column : ℕ → ℕ → ℕ → ℕ → Option Fields
wide_column code first n t =
    cond (n == 12) (wide_tags code n t first)
    (cond (n == 8) (wide_tags code n t (first + 0x10))
    (cond (n == 14) (wide_tags code n t (first + 0x20)) None))

-- blocks of 8 bytes: tags of 4, 6 and 8 bytes, nonces of 6 and 4
abbrev pub narrow_tags : ℕ → ℕ → ℕ → ℕ → Option Fields
narrow_tags code n t first =
    cond (t == 4) (entry code 8 n t (first + 0))
    (cond (t == 6) (entry code 8 n t (first + 1))
    (cond (t == 8) (entry code 8 n t (first + 2)) None))

abbrev pub narrow_column : ℕ → ℕ → ℕ → ℕ → Option Fields
narrow_column code first n t =
    cond (n == 6) (narrow_tags code n t first) (cond (n == 4) (narrow_tags code n t (first + 0x10)) None)

-- either, by the bytes of a block
abbrev pub column : ℕ → ℕ → ℕ → ℕ → ℕ → Option Fields
column code width first n t = cond (width == 16) (wide_column code first n t) (narrow_column code first n t)

-- where the lengths of nonce and tag stand among those of a width
abbrev pub nonce_place : ℕ → ℕ → Option ℕ
nonce_place width n =
    cond (width == 16)
    (cond (n == 12) (Some 0) (cond (n == 8) (Some 1) (cond (n == 14) (Some 2) None)))
    (cond (width == 8) (cond (n == 6) (Some 0) (cond (n == 4) (Some 1) None)) None)

abbrev pub tag_place : ℕ → ℕ → Option ℕ
tag_place width t =
    cond (width == 16)
    (cond (t == 8) (Some 0) (cond (t == 12) (Some 1) (cond (t == 16) (Some 2) (cond (t == 4) (Some 3) None))))
    (cond (width == 8) (cond (t == 4) (Some 0) (cond (t == 6) (Some 1) (cond (t == 8) (Some 2) None))) None)
