-- Words by lanes: a lane is a 4-bit word whose bits stand apart in a word of w bits. Bit k of lane i stands at the place ρ (4 i + k).
use Rattle.std.specs.Prelude.{ℕ, ◌+◌, ◌*◌, ◌/◌, ◌%◌, ◌^◌, List, [], ◌∷◌, bit_and, bit_or, slice_index}
use Rattle.bits.specs.Digits.{sum, bit}

unfoldable pub lane : (ℕ → ℕ) → ℕ → ℕ → ℕ
lane ρ x i = sum 4 (λ k. bit x (ρ (4 * i + k)) * 2 ^ k)

-- the four words that a circuit takes of a word whose lanes have their bits d places apart
abbrev pub planes : ℕ → ℕ → List ℕ
planes d x = x ∷ x / 2 ^ d ∷ x / 2 ^ (2 * d) ∷ x / 2 ^ (3 * d) ∷ []

-- and the word of w bits that is put together from the four that it gives; the mask m has the lowest bit of each lane
abbrev pub gathered : ℕ → ℕ → ℕ → List ℕ → ℕ
gathered w d m ys =
    bit_or (bit_or (bit_or (bit_and (slice_index ys 0) m) (bit_and (slice_index ys 1) m * 2 ^ d % 2 ^ w)) (bit_and (slice_index ys 2) m * 2 ^ (2 * d) % 2 ^ w)) (bit_and (slice_index ys 3) m * 2 ^ (3 * d) % 2 ^ w)
