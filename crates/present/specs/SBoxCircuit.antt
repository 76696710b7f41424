-- The S-box as a circuit: thirteen gates and a complement in place of a table, so that no index is a secret. The wires at the start are
-- the four words that hold bits 0, 1, 2 and 3, and a word of ones for the complement.
use Rattle.std.specs.Prelude.{ℕ, List, [], ◌∷◌, slice_index}
use Rattle.bits.specs.Circuit.{Gate, xor, and, or, run, outs}

abbrev pub gates : List Gate
gates = xor 1 2 ∷ and 3 0 ∷ xor 5 0 ∷ xor 3 0 ∷ and 3 1 ∷ xor 4 1 ∷ xor 1 8 ∷ or 7 0 ∷ xor 2 0 ∷ xor 9 13 ∷ xor 3 0 ∷ xor 2 0 ∷ or 1 6 ∷ xor 10 0 ∷ []

-- the wires that hold bits 0, 1, 2 and 3 of S
abbrev pub places : List ℕ
places = 10 ∷ 5 ∷ 0 ∷ 2 ∷ []

abbrev pub start : ℕ → List ℕ → List ℕ
start ones p = slice_index p 0 ∷ slice_index p 1 ∷ slice_index p 2 ∷ slice_index p 3 ∷ ones ∷ []

unfoldable pub circuit : ℕ → List ℕ → List ℕ
circuit ones p = outs places (run gates (start ones p))
