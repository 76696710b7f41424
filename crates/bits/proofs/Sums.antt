-- A sum of digits times powers of a base has those digits; the base is suc c.
use Rattle.std.proofs.Common.{◌≡◌, ℕ, zero, suc, ◌+◌, ◌-◌, ◌*◌, ◌/◌, ◌%◌, ◌^◌, ◌<◌, ◌≤◌, sym, refl, ap, ◌∙◌, subst, ⊎_elim, mul-le-mul_right, mod-eq_of_lt, mul_assoc, mul_comm, pow-suc, zero-add, mul-suc, arith, pow-add}
use native.Mathlib.Nat.{add-mul-div_right, add-mul-mod_self_right, div-eq_of_lt, pow-zero, div-div-eq-div-mul}
use Rattle.std.proofs.lemmas.Bool.{cases_lt}
use Rattle.bits.specs.Digits.{sum, bit}

pub sum_cong : (n : ℕ) (f g : ℕ → ℕ) → ((i : ℕ) → i < n → f i ≡ g i) → sum n f ≡ sum n g
sum_cong zero f g h = refl
sum_cong (suc n) f g h =
    let a : sum n f ≡ sum n g = sum_cong n f g (λ i l. h i (omega arith)) in
    let b : f n ≡ g n = h n (omega arith) in cc

pub power_pos : (c k : ℕ) → 0 < suc c ^ k
power_pos c zero = let e = pow-zero (suc c) in omega arith
power_pos c (suc k) = let h = power_pos c k in let e = pow-suc (suc c) k in let m = mul-suc (suc c ^ k) c in omega arith

module _ (c : ℕ) (d : ℕ → ℕ) (small : (i : ℕ) → d i < suc c) where
  pub sum_lt : (n : ℕ) → sum n (λ i. d i * suc c ^ i) < suc c ^ n
  sum_lt zero = power_pos c 0
  sum_lt (suc n) =
      let h = sum_lt n in let e = pow-suc (suc c) n in let s = small n in let k = mul-suc (suc c ^ n) c in let q = mul_comm c (suc c ^ n) in
      let m : d n * suc c ^ n ≤ c * suc c ^ n = mul-le-mul_right (suc c ^ n) (omega arith) in
      omega arith

  pub digit : (n k : ℕ) → k < n → sum n (λ i. d i * suc c ^ i) / suc c ^ k % suc c ≡ d k
  digit zero k h = absurd (omega arith)
  digit (suc n) k h = ⊎_elim (λ l. below l (digit n k l)) here (cases_lt k n)
    where
      B : ℕ
      B = suc c

      R : ℕ
      R = sum n (λ i. d i * suc c ^ i)

      below : k < n → R / suc c ^ k % suc c ≡ d k → sum (suc n) (λ i. d i * suc c ^ i) / suc c ^ k % suc c ≡ d k
      below l ih =
          let j : ℕ = n - k - 1 in
          let e : n ≡ suc j + k = omega arith in
          let p : suc c ^ n ≡ suc c ^ j * suc c * suc c ^ k = ap (λ m. suc c ^ m) e ∙ pow-add (suc c) (suc j) k ∙ ap (λ x. x * suc c ^ k) (pow-suc (suc c) j) in
          let q : d n * suc c ^ n ≡ d n * (suc c ^ j * suc c) * suc c ^ k = ap (λ x. d n * x) p ∙ sym (mul_assoc (d n) (suc c ^ j * suc c) (suc c ^ k)) in
          let r : d n * (suc c ^ j * suc c) ≡ d n * suc c ^ j * suc c = sym (mul_assoc (d n) (suc c ^ j) (suc c)) in
          ap (λ t. (R + t) / suc c ^ k % suc c) (q ∙ ap (λ x. x * suc c ^ k) r) ∙ ap (λ t. t % suc c) (add-mul-div_right R (d n * suc c ^ j * suc c) (power_pos c k))
          ∙ add-mul-mod_self_right (R / suc c ^ k) (d n * suc c ^ j) (suc c) ∙ ih

      here : n ≤ k → sum (suc n) (λ i. d i * suc c ^ i) / suc c ^ k % suc c ≡ d k
      here l =
          let e : k ≡ n = omega arith in
          let q : (R + d n * suc c ^ n) / suc c ^ n ≡ R / suc c ^ n + d n = add-mul-div_right R (d n) (power_pos c n) in
          let z : R / suc c ^ n ≡ 0 = div-eq_of_lt (sum_lt n) in
          let g : (R + d n * suc c ^ n) / suc c ^ n % suc c ≡ d n = ap (λ t. t % suc c) (q ∙ ap (λ t. t + d n) z ∙ zero-add (d n)) ∙ mod-eq_of_lt (small n) in
          subst (λ m. (R + d n * suc c ^ n) / suc c ^ m % suc c ≡ d m) (sym e) g

pow16 : (i : ℕ) → 2 ^ (4 * i) ≡ 16 ^ i
pow16 zero = refl
pow16 (suc i) =
    let e : 4 * suc i ≡ 4 * i + 4 = omega arith in
    ap (λ m. 2 ^ m) e ∙ pow-add 2 (4 * i) 4 ∙ ap (λ x. x * 16) (pow16 i) ∙ sym (pow-suc 16 i)

-- bit j of the i-th 4-bit word
pub bit_word : (x i j : ℕ) → bit x (4 * i + j) ≡ x / 16 ^ i / 2 ^ j % 2
bit_word x i j =
    ap (λ p. x / p % 2) (pow-add 2 (4 * i) j ∙ ap (λ p. p * 2 ^ j) (pow16 i)) ∙ ap (λ t. t % 2) (sym (div-div-eq-div-mul x (16 ^ i) (2 ^ j)))
