-- Bytes as lists of 4-bit words, the leftmost first.
use Rattle.std.specs.Prelude.{ℕ, ◌+◌, ◌*◌, ◌/◌, ◌%◌, List, [], ◌∷◌, map, slice_index}
use Rattle.std.specs.List.{range_with_len}

-- the list of f i for the i below n
abbrev pub each : ℕ → (ℕ → ℕ) → List ℕ
each n f = map f (range_with_len 0 n)

unfoldable pub nibbles : List ℕ → List ℕ
nibbles [] = []
nibbles (b ∷ bs) = b / 16 ∷ b % 16 ∷ nibbles bs

-- the n bytes of 2 n nibbles
abbrev pub bytes : ℕ → List ℕ → List ℕ
bytes n xs = each n (λ i. slice_index xs (2 * i) * 16 + slice_index xs (2 * i + 1))
