-- Values worked by hand.
use Rattle.std.specs.Prelude.{◌≡◌, [], ◌∷◌, ◌++◌, take, drop, Some, None, refl}
use Rattle.blocks.specs.Blocks.{Bytes, ◌⊕◌}
use Rattle.cloc.specs.Cloc.{HASH, tag_block, sealed_by, opened_by, full_runs, wrong_tag_runs}

-- at b = 8: an empty label and empty contents take 2 runs
empty_runs : full_runs 8 0 0 ≡ 2
empty_runs = refl

-- a label of 8 bytes and contents of 9 take 6, and 4 where the tag is wrong
some_runs : (full_runs 8 8 9 ≡ 6) × (wrong_tag_runs 8 8 9 ≡ 4)
some_runs = (refl, refl)

-- a small cipher of 4 bytes: a key is added, and the bytes are rotated
abbrev small : Bytes → Bytes
small X = drop 1 (X ⊕ (5 ∷ 6 ∷ 7 ∷ 8 ∷ [])) ++ take 1 (X ⊕ (5 ∷ 6 ∷ 7 ∷ 8 ∷ []))

-- V of param 9, nonce (1, 2) and a label of three blocks, of which the first begins with a bit 1 and the last is short
abbrev small_v : Bytes
small_v = HASH 4 small 9 (1 ∷ 2 ∷ []) (0xff ∷ 1 ∷ 2 ∷ 3 ∷ 4 ∷ 5 ∷ 6 ∷ 7 ∷ 8 ∷ [])

-- two blocks of contents under it, with a tag of 3 bytes
small_sealed :
    sealed_by 4 small 3 small_v (10 ∷ 20 ∷ 30 ∷ 40 ∷ 50 ∷ 60 ∷ []) ≡
    record { ciphertext = 0x05 ∷ 0x93 ∷ 0x98 ∷ 0x5c ∷ 0xa7 ∷ 0xa3 ∷ []; tag = 0xde ∷ 0x81 ∷ 0xff ∷ [] }
unfolding HASH tag_block
small_sealed = refl

small_opened : opened_by 4 small 3 small_v (0x05 ∷ 0x93 ∷ 0x98 ∷ 0x5c ∷ 0xa7 ∷ 0xa3 ∷ []) (0xde ∷ 0x81 ∷ 0xff ∷ []) ≡ Some (10 ∷ 20 ∷ 30 ∷ 40 ∷ 50 ∷ 60 ∷ [])
unfolding HASH tag_block
small_opened = refl

-- another tag opens nothing
small_refused : opened_by 4 small 3 small_v (0x05 ∷ 0x93 ∷ 0x98 ∷ 0x5c ∷ 0xa7 ∷ 0xa3 ∷ []) (0xde ∷ 0x81 ∷ 0xfe ∷ []) ≡ None
unfolding HASH tag_block
small_refused = refl

-- the tag of an empty label and empty contents
small_empty : sealed_by 4 small 4 (HASH 4 small 9 (1 ∷ 2 ∷ []) []) [] ≡ record { ciphertext = []; tag = 0x00 ∷ 0x06 ∷ 0x83 ∷ 0x81 ∷ [] }
unfolding HASH tag_block
small_empty = refl
