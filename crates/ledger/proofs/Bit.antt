use Rattle.std.proofs.Common.{◌≡◌, ℕ, suc, ◌+◌, ◌-◌, ◌*◌, ◌/◌, ◌%◌, ◌^◌, ◌<◌, ◌≤◌, max, sym, ap, ◌∙◌, subst, inl, inr, mul_assoc, one-mul, pow-suc, arith, pow-add, shr-shr}
use native.Mathlib.Nat.{div-eq_of_lt}
use lib.Bits.{bit_or, or_shr, or_step}
use lib.Pow.{shl-shr, field, mod-mod-pow, ones_split, high, ones_lt, pow-lt}
use Rattle.std.proofs.lemmas.Nat.{pow_pos}
use Rattle.std.proofs.lemmas.Bool.{cases_lt}
use Rattle.ledger.specs.Marks.{bit}

or_parity : (u v : ℕ) → bit_or u v % 2 ≡ max (u % 2) (v % 2)
or_parity u v = omega (arith, or_step u v)

pub bit_of_or : (a b i : ℕ) → bit (bit_or a b) i ≡ max (bit a i) (bit b i)
bit_of_or a b i = ap (λ x. x % 2) (or_shr a b i) ∙ or_parity (a / 2 ^ i) (b / 2 ^ i)

-- an even number times anything
even_left : (a e : ℕ) → (a * 2 ^ suc e) % 2 ≡ 0
even_left a e = let h : a * 2 ^ suc e ≡ (a * 2 ^ e) * 2 = rw (pow-suc, mul_assoc) in omega arith

-- a shifted number has its bits further up
pub bit_up : (a d i : ℕ) → d ≤ i → bit (a * 2 ^ d) i ≡ bit a (i - d)
bit_up a d i h =
    let e : i ≡ d + (i - d) = omega arith in
    let s = sym (shr-shr (a * 2 ^ d) d (i - d)) in
    let q : (a * 2 ^ d) / 2 ^ i ≡ a / 2 ^ (i - d) =
    ap (λ x. (a * 2 ^ d) / 2 ^ x) e ∙ s ∙ ap (λ x. x / 2 ^ (i - d)) (shl-shr a d) in
    ap (λ x. x % 2) q

-- and zeros below
pub bit_down : (a d i : ℕ) → i < d → bit (a * 2 ^ d) i ≡ 0
bit_down a d i h =
    let e : d ≡ suc (d - i - 1) + i = omega arith in
    let p : 2 ^ d ≡ 2 ^ suc (d - i - 1) * 2 ^ i = ap (λ x. 2 ^ x) e ∙ pow-add 2 (suc (d - i - 1)) i in
    let q : a * 2 ^ d ≡ (a * 2 ^ suc (d - i - 1)) * 2 ^ i = ap (λ x. a * x) p ∙ sym (mul_assoc a (2 ^ suc (d - i - 1)) (2 ^ i)) in
    let s : (a * 2 ^ d) / 2 ^ i ≡ a * 2 ^ suc (d - i - 1) = ap (λ x. x / 2 ^ i) q ∙ shl-shr (a * 2 ^ suc (d - i - 1)) i in
    ap (λ x. x % 2) s ∙ even_left a (d - i - 1)

pub bit_mod : (n i : ℕ) → i < 64 → bit (n % 2 ^ 64) i ≡ bit n i
bit_mod n i h =
    let e : (63 - i + 1) + i ≡ 64 = omega arith in
    let f : n % 2 ^ ((63 - i + 1) + i) / 2 ^ i ≡ n / 2 ^ i % 2 ^ (63 - i + 1) = field n (63 - i + 1) i in
    let g : n % 2 ^ 64 / 2 ^ i ≡ n / 2 ^ i % 2 ^ (63 - i + 1) = subst (λ x. n % 2 ^ x / 2 ^ i ≡ n / 2 ^ i % 2 ^ (63 - i + 1)) e f in
    ap (λ x. x % 2) g ∙ mod-mod-pow (n / 2 ^ i) (63 - i) 1

pub bit_one : (j : ℕ) → bit (2 ^ j) j ≡ 1
bit_one j = let e : 2 ^ j / 2 ^ j ≡ 1 = subst (λ x. x / 2 ^ j ≡ 1) (one-mul (2 ^ j)) (shl-shr 1 j) in ap (λ x. x % 2) e

pub bit_other : (j i : ℕ) → (j ≡ i → ⊥) → bit (2 ^ j) i ≡ 0
bit_other j i ne =
    elim (cases_lt i j) [
      | inl h ↦ subst (λ x. bit x i ≡ 0) (one-mul (2 ^ j)) (bit_down 1 j i h)
      | inr h ↦ let l : j < i = omega arith in ap (λ x. x % 2) (div-eq_of_lt (pow-lt l))
    ]

pub bit_ones : (i : ℕ) → i < 64 → bit 18446744073709551615 i ≡ 1
bit_ones i h =
    let e : (63 - i + 1) + i ≡ 64 = omega arith in
    let s : 2 ^ ((63 - i + 1) + i) - 1 ≡ (2 ^ (63 - i + 1) - 1) * 2 ^ i + (2 ^ i - 1) = ones_split (63 - i + 1) i in
    let s' : 2 ^ 64 - 1 ≡ (2 ^ (63 - i + 1) - 1) * 2 ^ i + (2 ^ i - 1) = subst (λ x. 2 ^ x - 1 ≡ (2 ^ (63 - i + 1) - 1) * 2 ^ i + (2 ^ i - 1)) e s in
    let q : (2 ^ 64 - 1) / 2 ^ i ≡ 2 ^ (63 - i + 1) - 1 = ap (λ x. x / 2 ^ i) s' ∙ high (2 ^ (63 - i + 1) - 1) i (ones_lt i) in
    ap (λ x. x % 2) q ∙ omega (arith, pow-add 2 (63 - i) 1, pow_pos (63 - i))
