-- The S-box is the affine map of the inverse: by computation at each byte.
use Rattle.std.proofs.Common.{◌≡◌, ℕ, zero, suc, ◌-◌, ◌<◌, [], ◌∷◌, map, refl, ap, arith}
use Rattle.std.specs.List.{range_with_len}
use Rattle.bits.proofs.Everywhere.{everywhere}
use Rattle.aes.specs.Field.{x_times, times, ◌•◌}
use Rattle.aes.specs.Sbox.{S, InverseOf, AffineOf, AffineOfInverse, bit, affine_bit}

square : ℕ → ℕ
square a = a • a

-- a to the power 254, which is 2 + 4 + .. + 128
inverse : ℕ → ℕ
inverse a =
    let p = square a in let q = square p in let r = square q in let s = square r in let t = square s in let u = square t in let v = square u in
    p • (q • (r • (s • (t • (u • v)))))

one : (a : ℕ) → 0 < a → a < 256 → a • inverse a ≡ 1
unfolding inverse square x_times times
one zero low high = absurd (omega arith)
one (suc a) low high = everywhere 0 255 (λ k. suc k • inverse (suc k)) (λ k. 1) refl a (omega arith)

is_inverse : (a : ℕ) → a < 256 → InverseOf a (inverse a)
unfolding inverse square x_times times
is_inverse a h =
    let small : inverse a - 255 ≡ 0 = everywhere 0 256 (λ k. inverse k - 255) (λ k. 0) refl a h in
    (omega arith, λ e. ap inverse e, λ low. one a low h)

is_affine : (a : ℕ) → a < 256 → AffineOf (inverse a) (S a)
unfolding inverse square x_times times S
is_affine a h =
    everywhere 0 8 (bit (S a)) (affine_bit (inverse a))
    (everywhere (0 ∷ []) 256 (λ k. map (bit (S k)) (range_with_len 0 8)) (λ k. map (affine_bit (inverse k)) (range_with_len 0 8)) refl a h)

pub S_law : (a : ℕ) → a < 256 → AffineOfInverse a (S a)
S_law a h = (inverse a, is_inverse a h, is_affine a h)
