-- The lanes of a word, and a circuit that is applied to all of them at once.
use Rattle.std.proofs.Common.{◌≡◌, ℕ, zero, suc, ◌+◌, ◌-◌, ◌*◌, ◌/◌, ◌%◌, ◌^◌, ◌<◌, ◌≤◌, cond, eqb, ◌≢◌, List, [], ◌∷◌, map, length, get_or, sym, refl, ap, ◌∙◌, ap₂, ⊎_elim, arith, eq-eqb, ne_eqb}
use lib.Bits.{bit_and, bit_or, bit_xor, and_zero_r, or_zero_r, xor_zero_l, xor_zero_r, and_mask, xor_lt}
use Rattle.std.specs.List.{range_with_len}
use Rattle.std.proofs.lemmas.List.FromFn.{fill_by_all, length-map-range_with_len, get_or-map-range_with_len}
use Rattle.std.proofs.lemmas.Bool.{cases_lt}
use Rattle.bits.specs.Digits.{bit}
use Rattle.bits.specs.Lanes.{lane, planes, gathered}
use Rattle.bits.specs.Linear.{Linear, value}
use Rattle.bits.specs.Nibbles.{each}
use Rattle.bits.proofs.Everywhere.{everywhere}
use Rattle.bits.proofs.Listed.{listed}
use Rattle.bits.proofs.Sums.{sum_lt, digit}
use Rattle.bits.proofs.Ext.{ext, bit_lt, bit_of_or, bit_of_and, bit_of_xor, bit_shr, bit_masked}
use Rattle.bits.proofs.Lift.{bits, wire_bits}
use Rattle.bits.proofs.Linear.{Additive, additive, agree}

module _ (ρ : ℕ → ℕ) where
  pub lane_bit : (x i k : ℕ) → k < 4 → bit (lane ρ x i) k ≡ bit x (ρ (4 * i + k))
  unfolding lane
  lane_bit x i k h = digit 1 (λ j. bit x (ρ (4 * i + j))) (λ j. bit_lt x (ρ (4 * i + j))) 4 k h

  pub lane_lt : (x i : ℕ) → lane ρ x i < 16
  unfolding lane
  lane_lt x i = sum_lt 1 (λ j. bit x (ρ (4 * i + j))) (λ j. bit_lt x (ρ (4 * i + j))) 4

  pub lane_xor : (i : ℕ) → Additive (λ x. lane ρ x i)
  lane_xor i x y =
      ext 4 (lane ρ (bit_xor x y) i) (bit_xor (lane ρ x i) (lane ρ y i)) (lane_lt (bit_xor x y) i) (xor_lt 4 (lane ρ x i) (lane ρ y i) (lane_lt x i) (lane_lt y i))
      (λ k h. lane_bit (bit_xor x y) i k h ∙ bit_of_xor x y (ρ (4 * i + k)) ∙ sym (bit_of_xor (lane ρ x i) (lane ρ y i) k ∙ ap₂ bit_xor (lane_bit x i k h) (lane_bit y i k h)))

abbrev pub four : ℕ → List ℕ
four w = bit w 0 ∷ bit w 1 ∷ bit w 2 ∷ bit w 3 ∷ []

four_at : (w k : ℕ) → k < 4 → get_or (four w) k 0 ≡ bit w k
four_at w zero h = refl
four_at w (suc zero) h = refl
four_at w (suc (suc zero)) h = refl
four_at w (suc (suc (suc zero))) h = refl
four_at w (suc (suc (suc (suc k)))) h = absurd (omega arith)

-- a one at k = j alone
abbrev one : ℕ → ℕ → ℕ
one k j = cond (eqb k j) 1 0

and_one : (w : ℕ) → w < 2 → bit_and w 1 ≡ w
and_one w h = and_mask w 1 ∙ omega arith

abbrev chosen : (ℕ → ℕ) → ℕ → ℕ
chosen w j = bit_or (bit_or (bit_or (bit_and (w 0) (one 0 j)) (bit_and (w 1) (one 1 j))) (bit_and (w 2) (one 2 j))) (bit_and (w 3) (one 3 j))

pick : (w : ℕ → ℕ) → ((k : ℕ) → w k < 2) → (j : ℕ) → j < 4 → chosen w j ≡ w j
pick w s zero h = let a = and_one (w 0) (s 0) in simp (and_zero_r, or_zero_r, a)
pick w s (suc zero) h = let a = and_one (w 1) (s 1) in simp (and_zero_r, or_zero_r, a)
pick w s (suc (suc zero)) h = let a = and_one (w 2) (s 2) in simp (and_zero_r, or_zero_r, a)
pick w s (suc (suc (suc zero))) h = let a = and_one (w 3) (s 3) in simp (and_zero_r, a)
pick w s (suc (suc (suc (suc k)))) h = absurd (omega arith)

-- what is asked of the places and the mask, computed at each l: the bits of a lane are d apart, all are in the word, where there is a one
-- for complements, and the mask shifted by k * d has a one at bit k of a lane alone
abbrev pub found : ℕ → (ℕ → ℕ) → ℕ → ℕ → ℕ → ℕ → List ℕ
found w ρ d m o l =
    ρ l ∷ bit o (ρ l) ∷ (suc (ρ l) - w) ∷ bit m (ρ l) ∷ bit (m * 2 ^ d % 2 ^ w) (ρ l) ∷ bit (m * 2 ^ (2 * d) % 2 ^ w) (ρ l) ∷ bit (m * 2 ^ (3 * d) % 2 ^ w) (ρ l) ∷ []

abbrev pub wanted : (ℕ → ℕ) → ℕ → ℕ → List ℕ
wanted ρ d l = (ρ (4 * (l / 4)) + l % 4 * d) ∷ 1 ∷ 0 ∷ one 0 (l % 4) ∷ one 1 (l % 4) ∷ one 2 (l % 4) ∷ one 3 (l % 4) ∷ []

-- n lanes in words of w bits; o has the ones
abbrev pub Fit : ℕ → ℕ → (ℕ → ℕ) → ℕ → ℕ → ℕ → Type 0
Fit w n ρ d m o = (l : ℕ) → l < 4 * n → found w ρ d m o l ≡ wanted ρ d l

-- a circuit on four words and a word of ones works bit by bit, and is the S-box S on single bits
abbrev pub Lifts : (ℕ → List ℕ → List ℕ) → Type 0
Lifts c = (o x y z t i : ℕ) → bits i (c o (x ∷ y ∷ z ∷ t ∷ [])) ≡ c (bit o i) (bit x i ∷ bit y i ∷ bit z i ∷ bit t i ∷ [])

abbrev pub Is : (ℕ → List ℕ → List ℕ) → (ℕ → ℕ) → Type 0
Is c S = (v : ℕ) → v < 16 → c 1 (four v) ≡ four (S v)

module _ (w n : ℕ) (ρ : ℕ → ℕ) (d m o : ℕ) (fit : Fit w n ρ d m o) (c : ℕ → List ℕ → List ℕ) (lifts : Lifts c) (S : ℕ → ℕ) (is : Is c S) (small : (v : ℕ) → v < 16 → S v < 16)
    (x i : ℕ) (h : i < n) where
  B : ℕ
  B = ρ (4 * i)

  ys : List ℕ
  ys = c o (planes d x)

  place : (k : ℕ) → k < 4 → ρ (4 * i + k) ≡ B + k * d
  unfolding B
  place k g =
      let p : (4 * i + k) / 4 ≡ i = omega arith in
      let r : (4 * i + k) % 4 ≡ k = omega arith in
      ap (λ v. get_or v 0 0) (fit (4 * i + k) (omega arith)) ∙ ap₂ (λ a b. ρ (4 * a) + b * d) p r

  -- the k-th bit of the lane
  input : (k : ℕ) → k < 4 → bit x (k * d + B) ≡ bit (lane ρ x i) k
  input k g =
      let p = place k g in
      let f : k * d + B ≡ ρ (4 * i + k) = omega arith in
      ap (bit x) f ∙ sym (lane_bit ρ x i k g)

  output : bits B ys ≡ four (S (lane ρ x i))
  unfolding B ys
  output =
      let v : ℕ = lane ρ x i in
      let u : bit o B ≡ 1 = ap (λ t. get_or t 1 0) (fit (4 * i) (omega arith)) in
      let a : bit x B ≡ bit v 0 = ap (bit x) (let z : B ≡ 0 * d + B = omega arith in z) ∙ input 0 (omega arith) in
      let b : bit (x / 2 ^ d) B ≡ bit v 1 = bit_shr x d B ∙ ap (bit x) (let z : d + B ≡ 1 * d + B = omega arith in z) ∙ input 1 (omega arith) in
      let e : bit (x / 2 ^ (2 * d)) B ≡ bit v 2 = bit_shr x (2 * d) B ∙ input 2 (omega arith) in
      let f : bit (x / 2 ^ (3 * d)) B ≡ bit v 3 = bit_shr x (3 * d) B ∙ input 3 (omega arith) in
      let g : c (bit o B) (bit x B ∷ bit (x / 2 ^ d) B ∷ bit (x / 2 ^ (2 * d)) B ∷ bit (x / 2 ^ (3 * d)) B ∷ []) ≡ c 1 (four v) = cc in
      lifts o x (x / 2 ^ d) (x / 2 ^ (2 * d)) (x / 2 ^ (3 * d)) B ∙ g ∙ is v (lane_lt ρ x i)

  at_place : (j : ℕ) → j < 4 → bit (gathered w d m ys) (ρ (4 * i + j)) ≡ bit (S (lane ρ x i)) j
  unfolding B ys
  at_place j g =
      let l : ℕ = 4 * i + j in
      let q : ℕ = ρ l in
      let r : (4 * i + j) % 4 ≡ j = omega arith in
      let F : found w ρ d m o l ≡ wanted ρ d l = fit l (omega arith) in
      let y0 : ℕ = get_or ys 0 0 in let y1 : ℕ = get_or ys 1 0 in let y2 : ℕ = get_or ys 2 0 in let y3 : ℕ = get_or ys 3 0 in
      let t0 : ℕ = bit_and y0 m in let t1 : ℕ = bit_and y1 m * 2 ^ d % 2 ^ w in let t2 : ℕ = bit_and y2 m * 2 ^ (2 * d) % 2 ^ w in let t3 : ℕ = bit_and y3 m * 2 ^ (3 * d) % 2 ^ w in
      let below : suc q - w ≡ 0 = ap (λ v. get_or v 2 0) F in
      let lt : q < w = omega (arith, below) in
      let p : ℕ → ℕ = λ k. bit (get_or ys k 0) (q - k * d) in
      let e0 : bit t0 q ≡ bit_and (p 0) (one 0 j) =
      bit_of_and y0 m q ∙ ap₂ (λ u v. bit_and (bit y0 u) v) (let z : q ≡ q - 0 * d = omega arith in z) (ap (λ v. get_or v 3 0) F ∙ ap (one 0) r) in
      let e1 : bit t1 q ≡ bit_and (p 1) (one 1 j) =
      bit_masked w y1 m d q lt ∙ ap₂ (λ u v. bit_and (bit y1 u) v) (let z : q - d ≡ q - 1 * d = omega arith in z) (ap (λ v. get_or v 4 0) F ∙ ap (one 1) r) in
      let e2 : bit t2 q ≡ bit_and (p 2) (one 2 j) = bit_masked w y2 m (2 * d) q lt ∙ ap (bit_and (p 2)) (ap (λ v. get_or v 5 0) F ∙ ap (one 2) r) in
      let e3 : bit t3 q ≡ bit_and (p 3) (one 3 j) = bit_masked w y3 m (3 * d) q lt ∙ ap (bit_and (p 3)) (ap (λ v. get_or v 6 0) F ∙ ap (one 3) r) in
      let u : bit (gathered w d m ys) q ≡ bit_or (bit_or (bit_or (bit t0 q) (bit t1 q)) (bit t2 q)) (bit t3 q) =
      bit_of_or (bit_or (bit_or t0 t1) t2) t3 q ∙ ap (λ v. bit_or v (bit t3 q)) (bit_of_or (bit_or t0 t1) t2 q ∙ ap (λ v. bit_or v (bit t2 q)) (bit_of_or t0 t1 q)) in
      let s : bit_or (bit_or (bit_or (bit t0 q) (bit t1 q)) (bit t2 q)) (bit t3 q) ≡ chosen p j = cc in
      let a = place j g in
      let b : q - j * d ≡ B = omega arith in
      u ∙ s ∙ pick p (λ k. bit_lt (get_or ys k 0) (q - k * d)) j g ∙ ap (bit (get_or ys j 0)) b
      ∙ wire_bits ys j B ∙ ap (λ v. get_or v j 0) output ∙ four_at (S (lane ρ x i)) j g

  pub substituted : lane ρ (gathered w d m (c o (planes d x))) i ≡ S (lane ρ x i)
  unfolding ys
  substituted =
      ext 4 (lane ρ (gathered w d m ys) i) (S (lane ρ x i)) (lane_lt ρ (gathered w d m ys) i) (small (lane ρ x i) (lane_lt ρ x i))
      (λ k g. lane_bit ρ (gathered w d m ys) i k g ∙ at_place k g)

pub each_eq : (n : ℕ) (f g : ℕ → ℕ) → ((i : ℕ) → i < n → f i ≡ g i) → each n f ≡ each n g
each_eq n f g h = fill_by_all g (each n f) n 0 (length-map-range_with_len f 0 n) (λ k l. get_or-map-range_with_len f 0 n k k 0 l (omega arith) ∙ h k l)

-- a list of known length that has these lanes
pub lanes_are : (ρ : ℕ → ℕ) (n x : ℕ) (vs : List ℕ) → length vs ≡ n → ((i : ℕ) → i < n → lane ρ x i ≡ get_or vs i 0) → each n (lane ρ x) ≡ vs
lanes_are ρ n x vs e h = each_eq n (lane ρ x) (λ i. get_or vs i 0) h ∙ sym (listed n vs e)

pub each_at : (n : ℕ) (f g : ℕ → ℕ) → each n f ≡ each n g → (i : ℕ) → i < n → f i ≡ g i
each_at n f g e i h = sym (get_or-map-range_with_len f 0 n i i 0 h (omega arith)) ∙ ap (λ xs. get_or xs i 0) e ∙ get_or-map-range_with_len g 0 n i i 0 h (omega arith)

-- a linear map by lanes: it gives g i in lane i of every word if it does so in the w words that have one bit
pub lanes_agree :
    (w n : ℕ) (ρ : ℕ → ℕ) (e : Linear) (g : ℕ → ℕ → ℕ) → ((i : ℕ) → Additive (g i)) → map (λ b. each n (λ i. lane ρ (value w e (2 ^ b)) i)) (range_with_len 0 w) ≡ map (λ b. each n (λ i. g i (2 ^ b))) (range_with_len 0 w) →
    (x : ℕ) → x < 2 ^ w → (i : ℕ) → i < n → lane ρ (value w e x) i ≡ g i x
lanes_agree w n ρ e g G test x h i l =
    agree w (λ y. lane ρ (value w e y) i) (g i) (λ a b. ap (λ y. lane ρ y i) (additive w e a b) ∙ lane_xor ρ i (value w e a) (value w e b)) (G i)
    (λ b m. each_at n (λ j. lane ρ (value w e (2 ^ b)) j) (λ j. g j (2 ^ b)) (everywhere [] w (λ k. each n (λ j. lane ρ (value w e (2 ^ k)) j)) (λ k. each n (λ j. g j (2 ^ k))) test b m) i l)
    x h

-- the sum of f 0 to f n
abbrev pub xors : ℕ → (ℕ → ℕ) → ℕ
xors zero f = f 0
xors (suc n) f = bit_xor (xors n f) (f (suc n))

lane_xors : (ρ : ℕ → ℕ) (n : ℕ) (f : ℕ → ℕ) (i : ℕ) → lane ρ (xors n f) i ≡ xors n (λ j. lane ρ (f j) i)
lane_xors ρ zero f i = refl
lane_xors ρ (suc n) f i = lane_xor ρ i (xors n f) (f (suc n)) ∙ ap (λ v. bit_xor v (lane ρ (f (suc n)) i)) (lane_xors ρ n f i)

xors_none : (n : ℕ) (f : ℕ → ℕ) → ((j : ℕ) → j ≤ n → f j ≡ 0) → xors n f ≡ 0
xors_none zero f h = h 0 (omega arith)
xors_none (suc n) f h = ap₂ bit_xor (xors_none n f (λ j l. h j (omega arith))) (h (suc n) (omega arith))

xors_one : (n : ℕ) (f : ℕ → ℕ) (i : ℕ) → i ≤ n → ((j : ℕ) → j ≤ n → j ≢ i → f j ≡ 0) → xors n f ≡ f i
xors_one zero f i h z = let e : 0 ≡ i = omega arith in ap f e
xors_one (suc n) f i h z =
    ⊎_elim
    (λ l. ap₂ bit_xor (xors_one n f i (omega arith) (λ j m ne. z j (omega arith) ne)) (z (suc n) (omega arith) (λ e. omega arith)) ∙ xor_zero_r (f i))
    (λ g. let e : suc n ≡ i = omega arith in ap (λ v. bit_xor v (f (suc n))) (xors_none n f (λ j m. z j (omega arith) (λ e. omega arith))) ∙ xor_zero_l (f (suc n)) ∙ ap f e)
    (cases_lt i (suc n))

-- words put into lanes one by one: f j has the word v j in lane j, and zeros in the others
pub filled : (ρ : ℕ → ℕ) (n : ℕ) (f v : ℕ → ℕ) → ((j i : ℕ) → j ≤ n → i ≤ n → lane ρ (f j) i ≡ cond (eqb j i) (v j) 0) → (i : ℕ) → i ≤ n → lane ρ (xors n f) i ≡ v i
filled ρ n f v h i l =
    lane_xors ρ n f i ∙ xors_one n (λ j. lane ρ (f j) i) i l (λ j m ne. h j i m l ∙ ap (λ t. cond t (v j) 0) (ne_eqb j i ne)) ∙ h i i l l ∙ ap (λ t. cond t (v i) 0) (eq-eqb i i refl)
