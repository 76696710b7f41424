-- The bits of a delta swap.
use Rattle.std.proofs.Common.{◌≡◌, ℕ, zero, suc, ◌+◌, ◌-◌, ◌*◌, ◌/◌, ◌%◌, ◌^◌, ◌<◌, ◌≤◌, cond, eqb, sym, refl, ap, ◌∙◌, ap₂, ⊎_elim, lt_of_le_of_lt, mod-lt, arith, pow_pos}
use lib.Bits.{bit_and, bit_xor, and_zero_r, and_mask, xor_zero_r, xor_self, xor_assoc, xor_comm, xor_lt, and_le_r}
use Rattle.std.proofs.lemmas.Bool.{cases_lt}
use Rattle.bits.specs.Digits.{bit}
use Rattle.bits.specs.Moves.{swap, from}
use Rattle.bits.proofs.Ext.{bit_lt, bit_of_xor, bit_of_and, bit_shr, bit_mod, bit_masked, bit_shl_low}

and_one : (w : ℕ) → w < 2 → bit_and w 1 ≡ w
and_one w h = and_mask w 1 ∙ omega arith

xor_bit : (a b : ℕ) → a < 2 → b < 2 → bit_xor a b < 2
xor_bit a b ha hb = xor_lt 1 a b ha hb

undone : (a b : ℕ) → bit_xor a (bit_xor a b) ≡ b
undone a b = sym (xor_assoc a a b) ∙ ap (λ x. bit_xor x b) (xor_self a)

-- the value at q, of the two masks' bits M and N there
abbrev at : ℕ → ℕ → ℕ → ℕ → ℕ → ℕ → ℕ
at a b c e M N = bit_xor (bit_xor a (bit_and (bit_xor a b) M)) (bit_and (bit_xor c e) N)

module _ (x s q : ℕ) where
  a : ℕ
  a = bit x q

  b : ℕ
  b = bit x (s + q)

  c : ℕ
  c = bit x (q - s)

  e : ℕ
  e = bit x (s + (q - s))

  cases : (M N : ℕ) → M < 2 → N < 2 → (N ≡ 1 → s ≤ q) → bit_and M N ≡ 0 → at a b c e M N ≡ bit x (cond (eqb M 1) (s + q) (cond (eqb N 1) (q - s) q))
  unfolding a b c e
  cases zero zero hM hN h k = simp (and_zero_r, xor_zero_r)
  cases (suc zero) zero hM hN h k =
      let z = and_one (bit_xor a b) (xor_bit a b (bit_lt x q) (bit_lt x (s + q))) in
      let u = undone a b in simp (and_zero_r, xor_zero_r, z, u)
  cases zero (suc zero) hM hN h k =
      let l : s ≤ q = h refl in
      let z = and_one (bit_xor c e) (xor_bit c e (bit_lt x (q - s)) (bit_lt x (s + (q - s)))) in
      let f : s + (q - s) ≡ q = omega arith in
      let g : e ≡ a = ap (bit x) f in
      simp (and_zero_r, xor_zero_r, z) (ap (λ v. bit_xor a (bit_xor c v)) g ∙ ap (bit_xor a) (xor_comm c a) ∙ undone a c)
  cases (suc zero) (suc zero) hM hN h k = absurd (let z : ◌≡◌ {A = ℕ} 1 0 = k in omega arith)
  cases (suc (suc M)) N hM hN h k = absurd (omega arith)
  cases zero (suc (suc N)) hM hN h k = absurd (omega arith)
  cases (suc zero) (suc (suc N)) hM hN h k = absurd (omega arith)

pub swap_bit : (w x s m q : ℕ) → q < w → bit_and (bit m q) (bit (m * 2 ^ s % 2 ^ w) q) ≡ 0 → bit (swap w s m x) q ≡ bit x (from w s m q)
unfolding swap a b c e
swap_bit w x s m q h apart =
    let d : ℕ = bit_xor x (x / 2 ^ s) in
    let t : ℕ = bit_and d m in
    let n : ℕ = m * 2 ^ s % 2 ^ w in
    let diff : (i : ℕ) → bit d i ≡ bit_xor (bit x i) (bit x (s + i)) = λ i. bit_of_xor x (x / 2 ^ s) i ∙ ap (bit_xor (bit x i)) (bit_shr x s i) in
    let one : bit t q ≡ bit_and (bit_xor (bit x q) (bit x (s + q))) (bit m q) = bit_of_and d m q ∙ ap (λ v. bit_and v (bit m q)) (diff q) in
    let two : bit (t * 2 ^ s % 2 ^ w) q ≡ bit_and (bit_xor (bit x (q - s)) (bit x (s + (q - s)))) (bit n q) =
    bit_masked w d m s q h ∙ ap (λ v. bit_and v (bit n q)) (diff (q - s)) in
    let up : bit n q ≡ 1 → s ≤ q =
    λ g. ⊎_elim (λ l. absurd (let z : bit n q ≡ 0 = bit_mod w (m * 2 ^ s) q h ∙ bit_shl_low m s q l in omega arith)) (λ l. l) (cases_lt q s) in
    bit_of_xor (bit_xor x t) (t * 2 ^ s % 2 ^ w) q ∙ ap₂ bit_xor (bit_of_xor x t q ∙ ap (bit_xor (bit x q)) one) two
    ∙ cases x s q (bit m q) (bit n q) (bit_lt m q) (bit_lt n q) up apart

pub swap_lt : (w x s m : ℕ) → x < 2 ^ w → m < 2 ^ w → swap w s m x < 2 ^ w
unfolding swap
swap_lt w x s m hx hm =
    xor_lt w _ _ (xor_lt w x _ hx (lt_of_le_of_lt (and_le_r (bit_xor x (x / 2 ^ s)) m) hm)) (mod-lt (bit_and (bit_xor x (x / 2 ^ s)) m * 2 ^ s) (pow_pos w))
