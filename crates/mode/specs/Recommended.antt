-- The parameter sets of the CLOC and SILC v3 submission, as its tables define param.
use Rattle.std.specs.Prelude.{ℕ, cond, ◌&&◌, List, [], ◌∷◌, ◌++◌, Some, None, codes, Option, ◌==◌}
use Prim.Native.String.{String}
use Rattle.std.specs.Str.{bytes_eq}
use Rattle.mode.specs.Set.{Fields}

-- a row of a table: the cipher E with its block width, the lengths of nonce and tag, all in bytes, and param
pub record Row : Type 0 where
  pub cipher : List ℕ
  pub width : ℕ
  pub nonce : ℕ
  pub tag : ℕ
  pub param : ℕ

abbrev pub row : String → ℕ → ℕ → ℕ → ℕ → Row
row name b n t p = record { cipher = codes name; width = b; nonce = n; tag = t; param = p }

-- the rows of AES-128, which are the same in both tables
abbrev pub aes : List Row
aes =
    row "AES-128" 16 12 8 0xc0
    ∷ row "AES-128" 16 12 12 0xc1
    ∷ row "AES-128" 16 12 16 0xc2
    ∷ row "AES-128" 16 12 4 0xc3
    ∷ row "AES-128" 16 8 8 0xd0
    ∷ row "AES-128" 16 8 12 0xd1
    ∷ row "AES-128" 16 8 16 0xd2
    ∷ row "AES-128" 16 8 4 0xd3
    ∷ row "AES-128" 16 14 8 0xe0
    ∷ row "AES-128" 16 14 12 0xe1
    ∷ row "AES-128" 16 14 16 0xe2
    ∷ row "AES-128" 16 14 4 0xe3
    ∷ []

-- Table 1, of CLOC
abbrev pub cloc : List Row
cloc = aes ++ (
    row "TWINE-80" 8 6 4 0xc4
    ∷ row "TWINE-80" 8 6 6 0xc5
    ∷ row "TWINE-80" 8 6 8 0xc6
    ∷ row "TWINE-80" 8 4 4 0xd4
    ∷ row "TWINE-80" 8 4 6 0xd5
    ∷ row "TWINE-80" 8 4 8 0xd6
    ∷ [])

-- Table 2, of SILC
abbrev pub silc : List Row
silc = aes ++ (
    row "PRESENT-80" 8 6 4 0xc4
    ∷ row "PRESENT-80" 8 6 6 0xc5
    ∷ row "PRESENT-80" 8 6 8 0xc6
    ∷ row "PRESENT-80" 8 4 4 0xd4
    ∷ row "PRESENT-80" 8 4 6 0xd5
    ∷ row "PRESENT-80" 8 4 8 0xd6
    ∷ row "LED-80" 8 6 4 0xc8
    ∷ row "LED-80" 8 6 6 0xc9
    ∷ row "LED-80" 8 6 8 0xca
    ∷ row "LED-80" 8 4 4 0xd8
    ∷ row "LED-80" 8 4 6 0xd9
    ∷ row "LED-80" 8 4 8 0xda
    ∷ [])

-- the table of the mode with this code
abbrev pub table_of : ℕ → List Row
table_of code = cond (code == 1) cloc (cond (code == 2) silc [])

-- the set of the first row with this cipher, nonce length and tag length
abbrev pub found : ℕ → List ℕ → ℕ → ℕ → List Row → Option Fields
found code cipher n t [] = None
found code cipher n t (r ∷ rows) =
    cond (bytes_eq cipher r.cipher && (n == r.nonce && t == r.tag))
    (Some (record { code = code; width = r.width; nonce = n; tag = t; param = r.param }))
    (found code cipher n t rows)

-- what a lookup comes to
abbrev pub recommended : ℕ → List ℕ → ℕ → ℕ → Option Fields
recommended code cipher n t = found code cipher n t (table_of code)
