-- The bytes of a key or a block as a number.
use Rattle.std.specs.Prelude.{◌≡◌, ℕ, ◌+◌, ◌*◌, ◌/◌, ◌%◌, ◌^◌, List, [], ◌∷◌, length, slice_index, refl}
use Rattle.std.proofs.Common.{ap, ◌∙◌, div-one, arith}
use Rattle.bits.proofs.Listed.{listed}
use Rattle.present.specs.Block.{number, number_from, bytes, present80}

pub number_eight :
    (xs : List ℕ) → length xs ≡ 8 →
    number xs ≡ slice_index xs 0 * 2 ^ 56 + slice_index xs 1 * 2 ^ 48 + slice_index xs 2 * 2 ^ 40 + slice_index xs 3 * 2 ^ 32 + slice_index xs 4 * 2 ^ 24 + slice_index xs 5 * 2 ^ 16 + slice_index xs 6 * 2 ^ 8 + slice_index xs 7
unfolding number_from
number_eight xs e = ap number (listed 8 xs e) ∙ omega arith

pub number_ten :
    (xs : List ℕ) → length xs ≡ 10 →
    number xs ≡ slice_index xs 0 * 2 ^ 72 + slice_index xs 1 * 2 ^ 64 + slice_index xs 2 * 2 ^ 56 + slice_index xs 3 * 2 ^ 48 + slice_index xs 4 * 2 ^ 40 + slice_index xs 5 * 2 ^ 32 + slice_index xs 6 * 2 ^ 24 + slice_index xs 7 * 2 ^ 16 + slice_index xs 8 * 2 ^ 8 + slice_index xs 9
unfolding number_from
number_ten xs e = ap number (listed 10 xs e) ∙ omega arith

pub bytes_eight :
    (n : ℕ) → (n / 2 ^ 56 % 256) ∷ (n / 2 ^ 48 % 256) ∷ (n / 2 ^ 40 % 256) ∷ (n / 2 ^ 32 % 256) ∷ (n / 2 ^ 24 % 256) ∷ (n / 2 ^ 16 % 256) ∷ (n / 2 ^ 8 % 256) ∷ (n % 256) ∷ [] ≡ bytes 8 n
bytes_eight n = rw div-one

pub block_length : (key block : List ℕ) → length (present80 key block) ≡ 8
unfolding present80
block_length key block = refl
