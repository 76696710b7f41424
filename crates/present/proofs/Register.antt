-- The bound of the key register after an update, as the code computes it, and the round keys that it gives.
use Rattle.std.proofs.Common.{◌≡◌, ℕ, ◌+◌, ◌-◌, ◌*◌, ◌/◌, ◌%◌, ◌^◌, ◌<◌, refl, ap, add-one, arith}
use lib.Bits.{bit_xor, xor_lt}
use Rattle.present.specs.Present.{updated, register, round_key}

abbrev turned : ℕ → ℕ
turned k = k % 2 ^ 19 * 2 ^ 61 % 2 ^ 128 + k / 2 ^ 19

pub update_lt : (k i h : ℕ) → i < 64 → h < 16 → bit_xor (h * 2 ^ 76 % 2 ^ 128 + turned k % 2 ^ 76) (i * 2 ^ 15 % 2 ^ 128) < 2 ^ 80
update_lt k i h counter high = xor_lt 80 (h * 2 ^ 76 % 2 ^ 128 + turned k % 2 ^ 76) (i * 2 ^ 15 % 2 ^ 128) (omega arith) (omega arith)

pub register_none : (key : ℕ) → register key 0 ≡ key
unfolding register
register_none key = refl

pub register_more : (key i : ℕ) → register key (i + 1) ≡ updated (i + 1) (register key i)
unfolding register
register_more key i = rw add-one refl

pub round_key_of : (key i : ℕ) → register key i / 2 ^ 16 ≡ round_key key (i + 1)
unfolding round_key
round_key_of key i = let e : i ≡ i + 1 - 1 = omega arith in ap (λ n. register key n / 2 ^ 16) e
