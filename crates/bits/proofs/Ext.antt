-- Two numbers of k bits are equal if all their bits are; the bits of shifts, masks and bitwise operations.
use Rattle.std.proofs.Common.{◌≡◌, ℕ, zero, suc, ◌+◌, ◌-◌, ◌*◌, ◌/◌, ◌%◌, ◌^◌, ◌<◌, ◌≤◌, sym, ap, ◌∙◌, ⊎_elim, mul_assoc, mul_comm, pow-suc, arith, pow-add, shr-shr}
use native.Mathlib.Nat.{div-div-eq-div-mul}
use Rattle.std.proofs.lemmas.Bool.{cases_lt}
use lib.Arith.{lt-one}
use lib.Pow.{shl-shr, field, mod-mod-pow}
use lib.Bits.{bit_and, bit_or, bit_xor, and_shr, or_shr, xor_shr, and_mod, or_mod, xor_mod, and_zero_r, shifted_even}
use Rattle.bits.specs.Digits.{bit}

pub bit_half : (a i : ℕ) → bit (a / 2) i ≡ bit a (suc i)
bit_half a i = ap (λ x. x % 2) (div-div-eq-div-mul a 2 (2 ^ i) ∙ ap (λ p. a / p) (mul_comm 2 (2 ^ i) ∙ sym (pow-suc 2 i)))

pub bit_lt : (a i : ℕ) → bit a i < 2
bit_lt a i = omega arith

pub ext : (k a b : ℕ) → a < 2 ^ k → b < 2 ^ k → ((i : ℕ) → i < k → bit a i ≡ bit b i) → a ≡ b
ext zero a b ha hb h = lt-one ha ∙ sym (lt-one hb)
ext (suc k) a b ha hb h =
    let p = pow-suc 2 k in
    let z : a / 1 % 2 ≡ b / 1 % 2 = h 0 (omega arith) in
    let e : a / 2 ≡ b / 2 = ext k (a / 2) (b / 2) (omega arith) (omega arith) (λ i l. bit_half a i ∙ h (suc i) (omega arith) ∙ sym (bit_half b i)) in
    omega arith

pub bit_of_xor : (a b i : ℕ) → bit (bit_xor a b) i ≡ bit_xor (bit a i) (bit b i)
bit_of_xor a b i = ap (λ x. x % 2) (xor_shr a b i) ∙ xor_mod (a / 2 ^ i) (b / 2 ^ i) 1

pub bit_of_and : (a b i : ℕ) → bit (bit_and a b) i ≡ bit_and (bit a i) (bit b i)
bit_of_and a b i = ap (λ x. x % 2) (and_shr a b i) ∙ and_mod (a / 2 ^ i) (b / 2 ^ i) 1

pub bit_of_or : (a b i : ℕ) → bit (bit_or a b) i ≡ bit_or (bit a i) (bit b i)
bit_of_or a b i = ap (λ x. x % 2) (or_shr a b i) ∙ or_mod (a / 2 ^ i) (b / 2 ^ i) 1

pub bit_shr : (a k i : ℕ) → bit (a / 2 ^ k) i ≡ bit a (k + i)
bit_shr a k i = ap (λ x. x % 2) (shr-shr a k i)

pub bit_mod : (k a i : ℕ) → i < k → bit (a % 2 ^ k) i ≡ bit a i
bit_mod k a i h =
    let j : ℕ = k - i - 1 in
    let e : k ≡ j + 1 + i = omega arith in
    ap (λ n. a % 2 ^ n / 2 ^ i % 2) e ∙ ap (λ x. x % 2) (field a (j + 1) i) ∙ mod-mod-pow (a / 2 ^ i) j 1

pub bit_shl_low : (a s q : ℕ) → q < s → bit (a * 2 ^ s) q ≡ 0
bit_shl_low a s q h =
    let j : ℕ = s - q - 1 in
    let e : s ≡ suc j + q = omega arith in
    ap (λ p. a * p / 2 ^ q % 2) (ap (λ n. 2 ^ n) e ∙ pow-add 2 (suc j) q) ∙ ap (λ x. x / 2 ^ q % 2) (sym (mul_assoc a (2 ^ suc j) (2 ^ q)))
    ∙ ap (λ x. x % 2) (shl-shr (a * 2 ^ suc j) q) ∙ shifted_even a j

pub bit_shl_high : (a s q : ℕ) → s ≤ q → bit (a * 2 ^ s) q ≡ bit a (q - s)
bit_shl_high a s q h =
    let e : q ≡ s + (q - s) = omega arith in
    ap (λ n. a * 2 ^ s / 2 ^ n % 2) e ∙ ap (λ x. x % 2) (sym (shr-shr (a * 2 ^ s) s (q - s))) ∙ ap (λ x. x / 2 ^ (q - s) % 2) (shl-shr a s)

-- a masked word, shifted left: its bit is the word's where the shifted mask has a one
pub bit_masked : (w y m s q : ℕ) → q < w → bit (bit_and y m * 2 ^ s % 2 ^ w) q ≡ bit_and (bit y (q - s)) (bit (m * 2 ^ s % 2 ^ w) q)
bit_masked w y m s q h =
    bit_mod w (bit_and y m * 2 ^ s) q h
    ∙ ⊎_elim
    (λ l. bit_shl_low (bit_and y m) s q l ∙ sym (ap (bit_and (bit y (q - s))) (bit_mod w (m * 2 ^ s) q h ∙ bit_shl_low m s q l) ∙ and_zero_r (bit y (q - s))))
    (λ g. bit_shl_high (bit_and y m) s q g ∙ bit_of_and y m (q - s) ∙ ap (bit_and (bit y (q - s))) (sym (bit_mod w (m * 2 ^ s) q h ∙ bit_shl_high m s q g)))
    (cases_lt q s)
