-- A state by its four columns, each in the 16 lowest bits of a number, row 0 the highest, and what a nibble of a column adds to a
-- column of the next state.
use Rattle.std.specs.Prelude.{◌≡◌, ℕ, ◌+◌, ◌-◌, ◌*◌, ◌/◌, ◌%◌, ◌^◌, List, [], ◌∷◌, bit_xor, slice_index}
use Rattle.led.specs.Led.{S, M, at, state, rc, times}

-- the nibble of row r of a column
abbrev pub nib : ℕ → ℕ → ℕ
nib w r = w / 16 ^ (3 - r) % 16

-- the nibbles of a column
abbrev pub Nibs : ℕ → ℕ → ℕ → ℕ → ℕ → Type 0
Nibs w p q u v = (nib w 0 ≡ p) × (nib w 1 ≡ q) × (nib w 2 ≡ u) × (nib w 3 ≡ v)

-- the state with these columns
abbrev pub columns : ℕ → ℕ → ℕ → ℕ → List ℕ
columns a b c d = state (λ r i. nib (slice_index (a ∷ b ∷ c ∷ d ∷ []) i) r)

-- the column of four nibbles
abbrev pub pack : ℕ → ℕ → ℕ → ℕ → ℕ
pack p q u v = p * 2 ^ 12 + q * 2 ^ 8 + u * 2 ^ 4 + v

-- column k of M times S x
unfoldable pub part : ℕ → ℕ → ℕ
part k x = pack (times 4 (at M 0 k) (S x)) (times 4 (at M 1 k) (S x)) (times 4 (at M 2 k) (S x)) (times 4 (at M 3 k) (S x))

-- the sum of these products for the four nibbles that ShiftRows brings into one column
abbrev pub whole : ℕ → ℕ → ℕ → ℕ → ℕ
whole p q u v = bit_xor (bit_xor (part 0 p) (part 1 q)) (bit_xor (part 2 u) (part 3 v))

-- what the constants of round n add to the second column: the bits of rc
abbrev pub spread : ℕ → ℕ
spread n = pack (rc n / 8) (rc n % 8) (rc n / 8) (rc n % 8)
