-- Bytes on bit planes: eight words, of which word j holds bit j of every byte; the bits of the words at one place are a lane.
use Rattle.std.specs.Prelude.{ℕ, ◌+◌, ◌*◌, List, [], ◌∷◌, slice_index}
use Rattle.std.specs.List.{range_with_len}
use Rattle.bits.specs.Digits.{bit}
use Rattle.bits.specs.Circuit.{outs}

-- the list of f 0 to f 7
abbrev pub eight : (ℕ → ℕ) → List ℕ
eight f = f 0 ∷ f 1 ∷ f 2 ∷ f 3 ∷ f 4 ∷ f 5 ∷ f 6 ∷ f 7 ∷ []

-- the byte of eight bits, and the bits of a byte, the lowest first
abbrev pub byte_of : List ℕ → ℕ
byte_of p =
    slice_index p 0 + 2 * (slice_index p 1 + 2 * (slice_index p 2 + 2 * (slice_index p 3 + 2 * (slice_index p 4 + 2 * (slice_index p 5 + 2 * (slice_index p 6 + 2 * slice_index p 7))))))

abbrev pub bits_of : ℕ → List ℕ
bits_of x = eight (bit x)

-- the byte in lane i of eight planes
abbrev pub lane : List ℕ → ℕ → ℕ
lane p i = byte_of (eight (λ j. bit (slice_index p j) i))

-- the first n of some words, as the wires at the start of a circuit
abbrev pub wires : ℕ → List ℕ → List ℕ
wires n p = outs (range_with_len 0 n) p
