-- Additive maps. Two of them are equal if they agree at the words with one bit: one computed test for a whole linear layer.
use Rattle.std.proofs.Common.{◌≡◌, ℕ, zero, suc, ◌+◌, ◌-◌, ◌*◌, ◌/◌, ◌%◌, ◌^◌, ◌<◌, ◌≤◌, sym, refl, ap, ◌∙◌, ap₂, ⊎_elim, add-zero, one-mul, pow-suc, arith, pow_pos}
use lib.Arith.{lt-one}
use lib.Bits.{bit_and, bit_xor, and_zero_r, xor_self, xor_comm, xor_assoc, xor_shifted, xor_block, xor_mod, xor_shr, and_le_l, xor_lt}
use Rattle.std.proofs.lemmas.Bool.{cases_lt}
use Rattle.bits.specs.Digits.{bit}
use Rattle.bits.specs.Linear.{Linear, whole, plus, under, up, down, after, value}
use Rattle.bits.proofs.Ext.{ext, bit_lt, bit_of_xor, bit_of_and}

abbrev pub Additive : (ℕ → ℕ) → Type 0
Additive f = (a b : ℕ) → f (bit_xor a b) ≡ bit_xor (f a) (f b)

additive_zero : (f : ℕ → ℕ) → Additive f → f 0 ≡ 0
additive_zero f h = h 0 0 ∙ xor_self (f 0)

pub agree : (k : ℕ) (f g : ℕ → ℕ) → Additive f → Additive g → ((i : ℕ) → i < k → f (2 ^ i) ≡ g (2 ^ i)) → (x : ℕ) → x < 2 ^ k → f x ≡ g x
agree zero f g F G e x h = ap f (lt-one h) ∙ additive_zero f F ∙ sym (ap g (lt-one h) ∙ additive_zero g G)
agree (suc k) f g F G e x h = ⊎_elim (λ l. agree k f g F G (λ i m. e i (omega arith)) x l) (above_of (λ y l. agree k f g F G (λ i m. e i (omega arith)) y l)) (cases_lt x (2 ^ k))
  where
    above_of : ((y : ℕ) → y < 2 ^ k → f y ≡ g y) → 2 ^ k ≤ x → f x ≡ g x
    above_of rest l =
        let p = pow-suc 2 k in
        let y : ℕ = x - 2 ^ k in
        let small : y < 2 ^ k = omega arith in
        let o : 1 * 2 ^ k ≡ 2 ^ k = one-mul (2 ^ k) in
        let s : bit_xor (1 * 2 ^ k) y ≡ 1 * 2 ^ k + y = xor_shifted 1 k y small in
        let t : x ≡ 1 * 2 ^ k + y = omega arith in
        let z : x ≡ bit_xor (2 ^ k) y = t ∙ sym s ∙ ap (λ n. bit_xor n y) o in
        ap f z ∙ F (2 ^ k) y ∙ ap₂ bit_xor (e k (omega arith)) (rest y small) ∙ sym (ap g z ∙ G (2 ^ k) y)

pub interchange : (a b c d : ℕ) → bit_xor (bit_xor a b) (bit_xor c d) ≡ bit_xor (bit_xor a c) (bit_xor b d)
interchange a b c d =
    xor_assoc a b (bit_xor c d) ∙ ap (bit_xor a) (sym (xor_assoc b c d) ∙ ap (λ x. bit_xor x d) (xor_comm b c) ∙ xor_assoc c b d) ∙ sym (xor_assoc a c (bit_xor b d))

-- on single bits
and_xor_bit : (p q r : ℕ) → p < 2 → q < 2 → r < 2 → bit_and (bit_xor p q) r ≡ bit_xor (bit_and p r) (bit_and q r)
and_xor_bit p q zero hp hq hr = and_zero_r (bit_xor p q) ∙ sym (ap₂ bit_xor (and_zero_r p) (and_zero_r q))
and_xor_bit zero zero (suc zero) hp hq hr = refl
and_xor_bit zero (suc zero) (suc zero) hp hq hr = refl
and_xor_bit (suc zero) zero (suc zero) hp hq hr = refl
and_xor_bit (suc zero) (suc zero) (suc zero) hp hq hr = refl
and_xor_bit p q (suc (suc r)) hp hq hr = absurd (omega arith)
and_xor_bit p (suc (suc q)) (suc zero) hp hq hr = absurd (omega arith)
and_xor_bit (suc (suc p)) zero (suc zero) hp hq hr = absurd (omega arith)
and_xor_bit (suc (suc p)) (suc zero) (suc zero) hp hq hr = absurd (omega arith)

below_power : (n : ℕ) → n < 2 ^ n
below_power zero = pow_pos 0
below_power (suc n) = let h = below_power n in let p = pow-suc 2 n in omega arith

and_xor : (m a b : ℕ) → bit_and (bit_xor a b) m ≡ bit_xor (bit_and a m) (bit_and b m)
and_xor m a b =
    let k : ℕ = a + b in
    let p = below_power (a + b) in
    let ha : a < 2 ^ k = omega arith in
    let hb : b < 2 ^ k = omega arith in
    let x = xor_lt k a b ha hb in
    let l = and_le_l (bit_xor a b) m in let q = and_le_l a m in let r = and_le_l b m in
    ext k (bit_and (bit_xor a b) m) (bit_xor (bit_and a m) (bit_and b m)) (omega arith) (xor_lt k (bit_and a m) (bit_and b m) (omega arith) (omega arith))
    (λ i h. bit_of_and (bit_xor a b) m i ∙ ap (λ x. bit_and x (bit m i)) (bit_of_xor a b i) ∙ and_xor_bit (bit a i) (bit b i) (bit m i) (bit_lt a i) (bit_lt b i) (bit_lt m i)
    ∙ sym (bit_of_xor (bit_and a m) (bit_and b m) i ∙ ap₂ bit_xor (bit_of_and a m i) (bit_of_and b m i)))

shl_xor : (w s a b : ℕ) → bit_xor a b * 2 ^ s % 2 ^ w ≡ bit_xor (a * 2 ^ s % 2 ^ w) (b * 2 ^ s % 2 ^ w)
shl_xor w s a b =
    let e : bit_xor (a * 2 ^ s + 0) (b * 2 ^ s + 0) ≡ bit_xor a b * 2 ^ s + 0 = xor_block s a b 0 0 (pow_pos s) (pow_pos s) in
    let f : bit_xor (a * 2 ^ s) (b * 2 ^ s) ≡ bit_xor a b * 2 ^ s = sym (ap₂ bit_xor (add-zero (a * 2 ^ s)) (add-zero (b * 2 ^ s))) ∙ e ∙ add-zero (bit_xor a b * 2 ^ s) in
    ap (λ n. n % 2 ^ w) (sym f) ∙ xor_mod (a * 2 ^ s) (b * 2 ^ s) w

pub additive : (w : ℕ) (e : Linear) → Additive (value w e)
additive w whole a b = refl
additive w (plus e f) a b = ap₂ bit_xor (additive w e a b) (additive w f a b) ∙ interchange (value w e a) (value w e b) (value w f a) (value w f b)
additive w (under m e) a b = ap (λ n. bit_and n m) (additive w e a b) ∙ and_xor m (value w e a) (value w e b)
additive w (up s e) a b = ap (λ n. n * 2 ^ s % 2 ^ w) (additive w e a b) ∙ shl_xor w s (value w e a) (value w e b)
additive w (down s e) a b = ap (λ n. n / 2 ^ s) (additive w e a b) ∙ xor_shr (value w e a) (value w e b) s
additive w (after e f) a b = ap (value w e) (additive w f a b) ∙ additive w e (value w f a) (value w f b)
