-- Nibbles of sums and of crossed columns, and the columns of a sum of states.
use Rattle.std.proofs.Common.{◌≡◌, ℕ, ◌/◌, ◌%◌, ◌^◌, ◌<◌, refl, ap, ◌∙◌, mod-eq_of_lt, arith}
use lib.Bits.{bit_and, bit_or, bit_xor, and_shr, or_shr, xor_shr, and_mod, or_mod, xor_mod, and_mask, and_zero_r, or_zero_l, or_zero_r}
use Rattle.led.specs.Led.{◌⊕◌}
use Rattle.led.specs.Columns.{nib, Nibs, columns}
use Rattle.bits.proofs.Listed.{sixteen_eq}

pub nib_xor : (x y t : ℕ) → bit_xor x y / 2 ^ t % 16 ≡ bit_xor (x / 2 ^ t % 16) (y / 2 ^ t % 16)
nib_xor x y t = ap (λ v. v % 16) (xor_shr x y t) ∙ xor_mod (x / 2 ^ t) (y / 2 ^ t) 4

nib_and : (x y t : ℕ) → bit_and x y / 2 ^ t % 16 ≡ bit_and (x / 2 ^ t % 16) (y / 2 ^ t % 16)
nib_and x y t = ap (λ v. v % 16) (and_shr x y t) ∙ and_mod (x / 2 ^ t) (y / 2 ^ t) 4

nib_or : (x y t : ℕ) → bit_or x y / 2 ^ t % 16 ≡ bit_or (x / 2 ^ t % 16) (y / 2 ^ t % 16)
nib_or x y t = ap (λ v. v % 16) (or_shr x y t) ∙ or_mod (x / 2 ^ t) (y / 2 ^ t) 4

kept : (x : ℕ) → x < 16 → bit_and x 15 ≡ x
kept x h = and_mask x 4 ∙ mod-eq_of_lt h

-- a nibble of x where the mask m has ones and n zeros, and the reverse
left : (x y m n t : ℕ) → m / 2 ^ t % 16 ≡ 15 → n / 2 ^ t % 16 ≡ 0 → bit_or (bit_and x m) (bit_and y n) / 2 ^ t % 16 ≡ x / 2 ^ t % 16
left x y m n t e z =
    let p : ℕ = x / 2 ^ t % 16 in
    let q : ℕ = y / 2 ^ t % 16 in
    let one : bit_and x m / 2 ^ t % 16 ≡ p = nib_and x m t ∙ ap (bit_and p) e ∙ kept p (omega arith) in
    let two : bit_and y n / 2 ^ t % 16 ≡ 0 = nib_and y n t ∙ ap (bit_and q) z ∙ and_zero_r q in
    nib_or (bit_and x m) (bit_and y n) t ∙ ap (λ v. bit_or v (bit_and y n / 2 ^ t % 16)) one ∙ ap (bit_or p) two ∙ or_zero_r p

right : (x y m n t : ℕ) → m / 2 ^ t % 16 ≡ 0 → n / 2 ^ t % 16 ≡ 15 → bit_or (bit_and x m) (bit_and y n) / 2 ^ t % 16 ≡ y / 2 ^ t % 16
right x y m n t z e =
    let p : ℕ = x / 2 ^ t % 16 in
    let q : ℕ = y / 2 ^ t % 16 in
    let one : bit_and x m / 2 ^ t % 16 ≡ 0 = nib_and x m t ∙ ap (bit_and p) z ∙ and_zero_r p in
    let two : bit_and y n / 2 ^ t % 16 ≡ q = nib_and y n t ∙ ap (bit_and q) e ∙ kept q (omega arith) in
    nib_or (bit_and x m) (bit_and y n) t ∙ ap (λ v. bit_or v (bit_and y n / 2 ^ t % 16)) one ∙ ap (bit_or 0) two ∙ or_zero_l q

pub crossed_nibs : (x y : ℕ) → Nibs (bit_or (bit_and x 0xf0f0) (bit_and y 0x0f0f)) (nib x 0) (nib y 1) (nib x 2) (nib y 3)
crossed_nibs x y = (
  left x y 0xf0f0 0x0f0f 12 refl refl,
  right x y 0xf0f0 0x0f0f 8 refl refl,
  left x y 0xf0f0 0x0f0f 4 refl refl,
  right x y 0xf0f0 0x0f0f 0 refl refl,
)

pub columns_eq : {a b c d p q u v : ℕ} → a ≡ p → b ≡ q → c ≡ u → d ≡ v → columns a b c d ≡ columns p q u v
columns_eq {a} {b} {c} {d} {p} {q} {u} {v} e f g h =
    ap (λ x. columns x b c d) e ∙ ap (λ x. columns p x c d) f ∙ ap (λ x. columns p q x d) g ∙ ap (λ x. columns p q u x) h

pub plus_is : (a b c d p q u v : ℕ) → columns (bit_xor a p) (bit_xor b q) (bit_xor c u) (bit_xor d v) ≡ columns a b c d ⊕ columns p q u v
plus_is a b c d p q u v =
    sixteen_eq (nib_xor a p 12) (nib_xor b q 12) (nib_xor c u 12) (nib_xor d v 12) (nib_xor a p 8) (nib_xor b q 8) (nib_xor c u 8) (nib_xor d v 8)
    (nib_xor a p 4) (nib_xor b q 4) (nib_xor c u 4) (nib_xor d v 4) (nib_xor a p 0) (nib_xor b q 0) (nib_xor c u 0) (nib_xor d v 0)
