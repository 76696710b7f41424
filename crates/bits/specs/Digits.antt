-- Numbers by their digits: bits and 4-bit words, counted from the right.
use Rattle.std.specs.Prelude.{ℕ, zero, suc, ◌+◌, ◌/◌, ◌%◌, ◌^◌}

-- the sum of f i over the i below n
abbrev pub sum : ℕ → (ℕ → ℕ) → ℕ
sum zero f = 0
sum (suc n) f = sum n f + f n

-- the i-th bit, and the i-th 4-bit word
abbrev pub bit : ℕ → ℕ → ℕ
bit n i = n / 2 ^ i % 2

abbrev pub word : ℕ → ℕ → ℕ
word n i = n / 16 ^ i % 16
