-- FIPS 197, section 4: bytes as elements of the finite field GF(2^8). Bit i of a byte is the coefficient of x^i.
use Rattle.std.specs.Prelude.{ℕ, zero, suc, ◌*◌, ◌/◌, ◌%◌, cond, ◌==◌, bit_xor, nat_lt}

infixl 70 ◌⊕◌
infixl 75 ◌•◌
-- 4.1: the sum of two bytes, and of two words
abbrev pub ◌⊕◌ : ℕ → ℕ → ℕ
a ⊕ b = bit_xor a b

-- 4.2: x times b, modulo x^8 + x^4 + x^3 + x + 1
unfoldable pub x_times : ℕ → ℕ
x_times b = cond (nat_lt b 128) (2 * b) (2 * b ⊕ 0x11b)

-- the sum of a, x times a, x^2 times a .. at the places of the bits that are set among the n lowest of b
unfoldable pub times : ℕ → ℕ → ℕ → ℕ
times zero a b = 0
times (suc n) a b = cond (b % 2 == 1) a 0 ⊕ times n (x_times a) (b / 2)

-- 4.2: the product of two bytes
abbrev pub ◌•◌ : ℕ → ℕ → ℕ
a • b = times 8 a b
