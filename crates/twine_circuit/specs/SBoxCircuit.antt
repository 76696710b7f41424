-- The S-box as a circuit: seventeen gates and a complement in place of a table, so that no index is a secret. The wires at the start are
-- the four words that hold bits 0, 1, 2 and 3, and a word of ones for the complement.
use Rattle.std.specs.Prelude.{ℕ, List, [], ◌∷◌, slice_index}
use Rattle.bits.specs.Circuit.{Gate, xor, and, or, run, outs}

abbrev pub gates : List Gate
gates =
    xor 4 0 ∷ or 4 3 ∷ xor 0 3 ∷ xor 6 5 ∷ and 1 3 ∷ xor 0 1 ∷ and 2 7 ∷ xor 0 6 ∷ and 0 11 ∷ xor 0 6 ∷ and 11 10 ∷ xor 3 13 ∷ or 0 5 ∷ xor 0 2 ∷ or 7 16 ∷
    and 0 9 ∷ xor 0 4 ∷ xor 0 8 ∷ []

-- the wires that hold bits 0, 1, 2 and 3 of S
abbrev pub places : List ℕ
places = 12 ∷ 8 ∷ 0 ∷ 4 ∷ []

unfoldable pub circuit : ℕ → List ℕ → List ℕ
circuit ones p = outs places (run gates (slice_index p 0 ∷ slice_index p 1 ∷ slice_index p 2 ∷ slice_index p 3 ∷ ones ∷ []))
