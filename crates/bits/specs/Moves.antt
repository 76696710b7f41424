-- A delta swap: the bits under the mask change places with those s places above them.
use Rattle.std.specs.Prelude.{ℕ, ◌+◌, ◌-◌, ◌*◌, ◌/◌, ◌%◌, ◌^◌, cond, ◌==◌, bit_and, bit_xor}
use Rattle.bits.specs.Digits.{bit}

-- w is the width of the word
unfoldable pub swap : ℕ → ℕ → ℕ → ℕ → ℕ
swap w s m x = bit_xor (bit_xor x (bit_and (bit_xor x (x / 2 ^ s)) m)) (bit_and (bit_xor x (x / 2 ^ s)) m * 2 ^ s % 2 ^ w)

-- the place that the bit at q comes from
abbrev pub from : ℕ → ℕ → ℕ → ℕ → ℕ
from w s m q = cond (bit m q == 1) (s + q) (cond (bit (m * 2 ^ s % 2 ^ w) q == 1) (q - s) q)
