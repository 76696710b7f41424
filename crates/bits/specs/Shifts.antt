-- A permutation of the bits of a word as a union of masked shifts, as data. w is the width of the word.
use Rattle.std.specs.Prelude.{ℕ, ◌*◌, ◌/◌, ◌%◌, ◌^◌, List, [], ◌∷◌, bit_and, bit_or}

-- under a mask: the word as it is, shifted to the right, shifted to the left
pub data Shift : Type 0 where
  stay : ℕ → Shift
  right : ℕ → ℕ → Shift
  left : ℕ → ℕ → Shift

abbrev pub shift : ℕ → Shift → ℕ → ℕ
shift w (stay m) x = bit_and x m
shift w (right k m) x = bit_and (x / 2 ^ k) m
shift w (left k m) x = bit_and (x * 2 ^ k % 2 ^ w) m

abbrev pub joined : ℕ → ℕ → List Shift → ℕ → ℕ
joined w acc [] x = acc
joined w acc (t ∷ ts) x = joined w (bit_or acc (shift w t x)) ts x

abbrev pub union : ℕ → List Shift → ℕ → ℕ
union w [] x = 0
union w (t ∷ ts) x = joined w (shift w t x) ts x
