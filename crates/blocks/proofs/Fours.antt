-- Blocks of four words of q bytes: the tweaks are powers of f2, and words as numbers.
use Rattle.std.proofs.Common.{◌≡◌, ℕ, zero, suc, ◌+◌, ◌-◌, ◌*◌, ◌/◌, ◌%◌, ◌<◌, ◌≤◌, min, [], ◌∷◌, ◌++◌, length, get_or, take, drop, sym, refl, ap, ◌∙◌, ⊎_elim, arith, length-append, length-drop, length-take}
use lib.Bits.{bit_xor, bit_or, xor_mod, xor_shr, or_mod, or_shr, or_zero_r}
use Rattle.std.proofs.lemmas.List.{take_at, drop_at, take_all, take-append-drop, drop-drop}
use Rattle.blocks.specs.Blocks.{Bytes, ◌⊕◌}
use Rattle.blocks.specs.Pads.{fix1}
use Rattle.blocks.specs.Words.{IsBlock, held, word, on_words, four, f1, f2, g1, h, power, little}
use Rattle.blocks.proofs.Xors.{length_xor, xor_swaps, xor_mid, xor_append, take_xor}

module _ (q : ℕ) (a b c d : Bytes) (la : length a ≡ q) (lb : length b ≡ q) (lc : length c ≡ q) (ld : length d ≡ q) where
  length_four : length (four a b c d) ≡ 4 * q
  length_four = let x = length-append a (b ++ (c ++ d)) in let y = length-append b (c ++ d) in let z = length-append c d in omega arith

  quarter : length (four a b c d) / 4 ≡ q
  quarter = let l = length_four in omega arith

  word_is : (i : ℕ) → word i (four a b c d) ≡ take q (drop (i * q) (four a b c d))
  word_is i = ap (λ k. take k (drop (i * k) (four a b c d))) quarter

  drop_1 : drop (1 * q) (four a b c d) ≡ b ++ (c ++ d)
  drop_1 = drop_at a (b ++ (c ++ d)) (1 * q) (omega arith)

  drop_2 : drop (2 * q) (four a b c d) ≡ c ++ d
  drop_2 = ap (λ k. drop k (four a b c d)) (let z : 2 * q ≡ 1 * q + q = omega arith in z) ∙ sym (drop-drop q (1 * q) (four a b c d)) ∙ ap (drop q) drop_1 ∙ drop_at b (c ++ d) q lb

  drop_3 : drop (3 * q) (four a b c d) ≡ d
  drop_3 = ap (λ k. drop k (four a b c d)) (let z : 3 * q ≡ 2 * q + q = omega arith in z) ∙ sym (drop-drop q (2 * q) (four a b c d)) ∙ ap (drop q) drop_2 ∙ drop_at c d q lc

  pub on_four : (f : Bytes → Bytes → Bytes → Bytes → Bytes) → on_words f (four a b c d) ≡ f a b c d
  on_four f =
      let X = four a b c d in
      let w1 : word 0 X ≡ a = word_is 0 ∙ ap (λ k. take q (drop k X)) (let z : 0 * q ≡ 0 = omega arith in z) ∙ take_at a (b ++ (c ++ d)) q la in
      let w2 : word 1 X ≡ b = word_is 1 ∙ ap (take q) drop_1 ∙ take_at b (c ++ d) q lb in
      let w3 : word 2 X ≡ c = word_is 2 ∙ ap (take q) drop_2 ∙ take_at c d q lc in
      let w4 : word 3 X ≡ d = word_is 3 ∙ ap (take q) drop_3 ∙ take_all q d (omega arith) in
      ap (λ w. f w (word 1 X) (word 2 X) (word 3 X)) w1 ∙ ap (λ w. f a w (word 2 X) (word 3 X)) w2 ∙ ap (λ w. f a b w (word 3 X)) w3 ∙ ap (f a b c) w4

-- every block of 4 q bytes is such
pub fours : (q : ℕ) (X : Bytes) → length X ≡ 4 * q → X ≡ four (take q X) (take q (drop q X)) (take q (drop (2 * q) X)) (drop (3 * q) X)
fours q X e =
    let s1 = take-append-drop q X in
    let s2 = take-append-drop q (drop q X) in
    let d2 : drop q (drop q X) ≡ drop (2 * q) X = drop-drop q q X ∙ ap (λ k. drop k X) (let z : q + q ≡ 2 * q = omega arith in z) in
    let s3 = take-append-drop q (drop (2 * q) X) in
    let d3 : drop q (drop (2 * q) X) ≡ drop (3 * q) X = drop-drop q (2 * q) X ∙ ap (λ k. drop k X) (let z : 2 * q + q ≡ 3 * q = omega arith in z) in
    sym s1 ∙ ap (λ Z. take q X ++ Z) (sym s2 ∙ ap (λ Z. take q (drop q X) ++ Z) (d2 ∙ sym s3 ∙ ap (λ Z. take q (drop (2 * q) X) ++ Z) d3))

-- f2 twice is g1, g1 twice is h, h twice is f1
module _ (q : ℕ) (a b c d : Bytes) (la : length a ≡ q) (lb : length b ≡ q) (lc : length c ≡ q) (ld : length d ≡ q) where
  lab : length (a ⊕ b) ≡ q
  lab = length_xor a b ∙ la

  lbc : length (b ⊕ c) ≡ q
  lbc = length_xor b c ∙ lb

  lcd : length (c ⊕ d) ≡ q
  lcd = length_xor c d ∙ lc

  labd : length ((a ⊕ b) ⊕ d) ≡ q
  labd = length_xor (a ⊕ b) d ∙ lab

  pub f2_four : f2 (four a b c d) ≡ four b c d (a ⊕ b)
  f2_four = on_four q a b c d la lb lc ld (λ w1 w2 w3 w4. four w2 w3 w4 (w1 ⊕ w2))

  g1_four : g1 (four a b c d) ≡ four c d (a ⊕ b) (b ⊕ c)
  g1_four = on_four q a b c d la lb lc ld (λ w1 w2 w3 w4. four w3 w4 (w1 ⊕ w2) (w2 ⊕ w3))

  h_four : h (four a b c d) ≡ four (a ⊕ b) (b ⊕ c) (c ⊕ d) ((a ⊕ b) ⊕ d)
  h_four = on_four q a b c d la lb lc ld (λ w1 w2 w3 w4. four (w1 ⊕ w2) (w2 ⊕ w3) (w3 ⊕ w4) (w1 ⊕ w2 ⊕ w4))

  f1_four : f1 (four a b c d) ≡ four (a ⊕ c) (b ⊕ d) ((a ⊕ b) ⊕ c) ((b ⊕ c) ⊕ d)
  f1_four = on_four q a b c d la lb lc ld (λ w1 w2 w3 w4. four (w1 ⊕ w3) (w2 ⊕ w4) (w1 ⊕ w2 ⊕ w3) (w2 ⊕ w3 ⊕ w4))

-- one step more, on words
module _ (q : ℕ) (a b c d : Bytes) (la : length a ≡ q) (lb : length b ≡ q) (lc : length c ≡ q) (ld : length d ≡ q) where
  f2_f2 : f2 (f2 (four a b c d)) ≡ g1 (four a b c d)
  f2_f2 = ap f2 (f2_four q a b c d la lb lc ld) ∙ f2_four q b c d (a ⊕ b) lb lc ld (lab q a b c d la lb lc ld) ∙ sym (g1_four q a b c d la lb lc ld)

  g1_g1 : g1 (g1 (four a b c d)) ≡ h (four a b c d)
  g1_g1 =
      let ab = lab q a b c d la lb lc ld in
      ap g1 (g1_four q a b c d la lb lc ld)
      ∙ g1_four q c d (a ⊕ b) (b ⊕ c) lc ld ab (lbc q a b c d la lb lc ld)
      ∙ ap (λ z. four (a ⊕ b) (b ⊕ c) (c ⊕ d) z) (xor_swaps d (a ⊕ b) (ld ∙ sym ab))
      ∙ sym (h_four q a b c d la lb lc ld)

  h_h : h (h (four a b c d)) ≡ f1 (four a b c d)
  h_h =
      let ab = lab q a b c d la lb lc ld in
      let bc = lbc q a b c d la lb lc ld in
      let cd = lcd q a b c d la lb lc ld in
      let abd = labd q a b c d la lb lc ld in
      let u = a ⊕ b in
      let v = b ⊕ c in
      let e1 = xor_mid a b c (la ∙ sym lb) (lb ∙ sym lc) in
      let e2 = xor_mid b c d (lb ∙ sym lc) (lc ∙ sym ld) in
      let e3 : (c ⊕ d) ⊕ (u ⊕ d) ≡ u ⊕ c = ap (λ z. (c ⊕ d) ⊕ z) (xor_swaps u d (ab ∙ sym ld)) ∙ xor_mid c d u (lc ∙ sym ld) (ld ∙ sym ab) ∙ xor_swaps c u (lc ∙ sym ab) in
      let e4 : (u ⊕ v) ⊕ (u ⊕ d) ≡ v ⊕ d = ap (λ z. z ⊕ (u ⊕ d)) (xor_swaps u v (ab ∙ sym bc)) ∙ xor_mid v u d (bc ∙ sym ab) (ab ∙ sym ld) in
      ap h (h_four q a b c d la lb lc ld)
      ∙ h_four q u v (c ⊕ d) (u ⊕ d) ab bc cd abd
      ∙ ap (λ z. four z (v ⊕ (c ⊕ d)) ((c ⊕ d) ⊕ (u ⊕ d)) ((u ⊕ v) ⊕ (u ⊕ d))) e1
      ∙ ap (λ z. four (a ⊕ c) z ((c ⊕ d) ⊕ (u ⊕ d)) ((u ⊕ v) ⊕ (u ⊕ d))) e2
      ∙ ap (λ z. four (a ⊕ c) (b ⊕ d) z ((u ⊕ v) ⊕ (u ⊕ d))) e3
      ∙ ap (λ z. four (a ⊕ c) (b ⊕ d) (u ⊕ c) z) e4
      ∙ sym (f1_four q a b c d la lb lc ld)

-- the same of a block, cut into words
module _ (q : ℕ) (X : Bytes) (e : length X ≡ 4 * q) where
  l1 : length (take q X) ≡ q
  l1 = length-take q X ∙ (let z : min q (length X) ≡ q = omega arith in z)

  l2 : length (take q (drop q X)) ≡ q
  l2 = length-take q (drop q X) ∙ (let x = length-drop q X in let z : min q (length (drop q X)) ≡ q = omega arith in z)

  l3 : length (take q (drop (2 * q) X)) ≡ q
  l3 = length-take q (drop (2 * q) X) ∙ (let x = length-drop (2 * q) X in let z : min q (length (drop (2 * q) X)) ≡ q = omega arith in z)

  l4 : length (drop (3 * q) X) ≡ q
  l4 = length-drop (3 * q) X ∙ (let z : length X - 3 * q ≡ q = omega arith in z)

  -- what holds of any four words holds of X
  pub by_words : (P : Bytes → Type 0) → ((a b c d : Bytes) → length a ≡ q → length b ≡ q → length c ≡ q → length d ≡ q → P (four a b c d)) → P X
  by_words P f = rw (fours q X e) (f _ _ _ _ l1 l2 l3 l4)

  f2_twice : f2 (f2 X) ≡ g1 X
  f2_twice = by_words (λ Z. f2 (f2 Z) ≡ g1 Z) (f2_f2 q)

  g1_twice : g1 (g1 X) ≡ h X
  g1_twice = by_words (λ Z. g1 (g1 Z) ≡ h Z) (g1_g1 q)

  h_twice : h (h X) ≡ f1 X
  h_twice = by_words (λ Z. h (h Z) ≡ f1 Z) (h_h q)

  keeps_f2 : length (f2 X) ≡ length X
  keeps_f2 = by_words (λ Z. length (f2 Z) ≡ length Z) (λ a b c d la lb lc ld. ap length (f2_four q a b c d la lb lc ld) ∙ length_four q b c d (a ⊕ b) lb lc ld (lab q a b c d la lb lc ld) ∙ sym (length_four q a b c d la lb lc ld))

-- g1, h and f1 are the second, fourth and eighth power of f2
module _ (q : ℕ) where
  power_2 : (X : Bytes) → length X ≡ 4 * q → power 2 f2 X ≡ g1 X
  power_2 X e = f2_twice q X e

  keeps_2 : (X : Bytes) → length X ≡ 4 * q → length (power 2 f2 X) ≡ length X
  keeps_2 X e = keeps_f2 q (f2 X) (keeps_f2 q X e ∙ e) ∙ keeps_f2 q X e

  power_4 : (X : Bytes) → length X ≡ 4 * q → power 4 f2 X ≡ h X
  power_4 X e = power_2 (power 2 f2 X) (keeps_2 X e ∙ e) ∙ ap g1 (power_2 X e) ∙ g1_twice q X e

  keeps_4 : (X : Bytes) → length X ≡ 4 * q → length (power 4 f2 X) ≡ length X
  keeps_4 X e = keeps_2 (power 2 f2 X) (keeps_2 X e ∙ e) ∙ keeps_2 X e

  power_8 : (X : Bytes) → length X ≡ 4 * q → power 8 f2 X ≡ f1 X
  power_8 X e = power_4 (power 4 f2 X) (keeps_4 X e ∙ e) ∙ ap h (power_4 X e) ∙ h_twice q X e

  keeps_8 : (X : Bytes) → length X ≡ 4 * q → length (power 8 f2 X) ≡ length X
  keeps_8 X e = keeps_4 (power 4 f2 X) (keeps_4 X e ∙ e) ∙ keeps_4 X e

-- the same at the two widths
module _ (X : Bytes) (w : IsBlock X) where
  quartered : length X ≡ 4 * (length X / 4)
  quartered = ⊎_elim (λ e. omega arith) (λ e. omega arith) w

  pub g1_power : g1 X ≡ power 2 f2 X
  g1_power = sym (power_2 (length X / 4) X quartered)

  pub h_power : h X ≡ power 4 f2 X
  h_power = sym (power_4 (length X / 4) X quartered)

  pub f1_power : f1 X ≡ power 8 f2 X
  f1_power = sym (power_8 (length X / 4) X quartered)

  pub length_f2 : length (f2 X) ≡ length X
  length_f2 = keeps_f2 (length X / 4) X quartered

  pub length_g1 : length (g1 X) ≡ length X
  length_g1 = ap length g1_power ∙ keeps_2 (length X / 4) X quartered

  pub length_h : length (h X) ≡ length X
  length_h = ap length h_power ∙ keeps_4 (length X / 4) X quartered

  pub length_f1 : length (f1 X) ≡ length X
  length_f1 = ap length f1_power ∙ keeps_8 (length X / 4) X quartered

-- exclusive or of two words as numbers is that of their bytes
little_xor : (q m n : ℕ) → little q (bit_xor m n) ≡ little q m ⊕ little q n
little_xor q m n =
    let e0 : bit_xor m n % 256 ≡ bit_xor (m % 256) (n % 256) = xor_mod m n 8 in
    let e1 : bit_xor m n / 256 % 256 ≡ bit_xor (m / 256 % 256) (n / 256 % 256) = ap (λ z. z % 256) (xor_shr m n 8) ∙ xor_mod (m / 256) (n / 256) 8 in
    let e2 : bit_xor m n / 65536 % 256 ≡ bit_xor (m / 65536 % 256) (n / 65536 % 256) = ap (λ z. z % 256) (xor_shr m n 16) ∙ xor_mod (m / 65536) (n / 65536) 8 in
    let e3 : bit_xor m n / 16777216 % 256 ≡ bit_xor (m / 16777216 % 256) (n / 16777216 % 256) = ap (λ z. z % 256) (xor_shr m n 24) ∙ xor_mod (m / 16777216) (n / 16777216) 8 in
    let all : little 4 (bit_xor m n) ≡ little 4 m ⊕ little 4 n = cc in
    ap (take q) all ∙ take_xor q (little 4 m) (little 4 n)

xor_three : (q k m n : ℕ) → little q (bit_xor (bit_xor k m) n) ≡ (little q k ⊕ little q m) ⊕ little q n
xor_three q k m n = little_xor q (bit_xor k m) n ∙ ap (λ Z. Z ⊕ little q n) (little_xor q k m)

same_four : {a b c d a' b' c' d' : Bytes} → a ≡ a' → b ≡ b' → c ≡ c' → d ≡ d' → four a b c d ≡ four a' b' c' d'
same_four p q r s = cc

-- the tweaks on the words of a block
module _ (q k m n r : ℕ) (le : q ≤ 4) where
  l : (n : ℕ) → length (little q n) ≡ q
  l n = length-take q (little 4 n) ∙ (let z : min q 4 ≡ q = omega arith in z)

  abbrev on : (Bytes → Bytes) → Bytes
  on f = f (four (little q k) (little q m) (little q n) (little q r))

  f1_held : four (little q (bit_xor k n)) (little q (bit_xor m r)) (little q (bit_xor (bit_xor k m) n)) (little q (bit_xor (bit_xor m n) r)) ≡ on f1
  f1_held = same_four (little_xor q k n) (little_xor q m r) (xor_three q k m n) (xor_three q m n r) ∙ sym (f1_four q _ _ _ _ (l k) (l m) (l n) (l r))

  f2_held : four (little q m) (little q n) (little q r) (little q (bit_xor k m)) ≡ on f2
  f2_held = ap (four (little q m) (little q n) (little q r)) (little_xor q k m) ∙ sym (f2_four q _ _ _ _ (l k) (l m) (l n) (l r))

  g1_held : four (little q n) (little q r) (little q (bit_xor k m)) (little q (bit_xor m n)) ≡ on g1
  g1_held = same_four refl refl (little_xor q k m) (little_xor q m n) ∙ sym (g1_four q _ _ _ _ (l k) (l m) (l n) (l r))

  h_held : four (little q (bit_xor k m)) (little q (bit_xor m n)) (little q (bit_xor n r)) (little q (bit_xor (bit_xor k m) r)) ≡ on h
  h_held = same_four (little_xor q k m) (little_xor q m n) (little_xor q n r) (xor_three q k m r) ∙ sym (h_four q _ _ _ _ (l k) (l m) (l n) (l r))

quarters : (X : Bytes) → IsBlock X → (0 < length X / 4) × (length X / 4 ≤ 4)
quarters X k = ⊎_elim (λ e. (omega arith, omega arith)) (λ e. (omega arith, omega arith)) k

module _ (X w : Bytes) (k : IsBlock X) (e : held (length X / 4) w ≡ X) where
  abbrev at : ℕ → ℕ
  at i = get_or w i 0

  pub f1_stored : held (length X / 4) (bit_xor (at 0) (at 2) ∷ bit_xor (at 1) (at 3) ∷ bit_xor (bit_xor (at 0) (at 1)) (at 2) ∷ bit_xor (bit_xor (at 1) (at 2)) (at 3) ∷ []) ≡ f1 X
  f1_stored = f1_held (length X / 4) (at 0) (at 1) (at 2) (at 3) (quarters X k).1 ∙ ap f1 e

  pub f2_stored : held (length X / 4) (at 1 ∷ at 2 ∷ at 3 ∷ bit_xor (at 0) (at 1) ∷ []) ≡ f2 X
  f2_stored = f2_held (length X / 4) (at 0) (at 1) (at 2) (at 3) (quarters X k).1 ∙ ap f2 e

  pub g1_stored : held (length X / 4) (at 2 ∷ at 3 ∷ bit_xor (at 0) (at 1) ∷ bit_xor (at 1) (at 2) ∷ []) ≡ g1 X
  g1_stored = g1_held (length X / 4) (at 0) (at 1) (at 2) (at 3) (quarters X k).1 ∙ ap g1 e

  pub h_stored : held (length X / 4) (bit_xor (at 0) (at 1) ∷ bit_xor (at 1) (at 2) ∷ bit_xor (at 2) (at 3) ∷ bit_xor (bit_xor (at 0) (at 1)) (at 3) ∷ []) ≡ h X
  h_stored = h_held (length X / 4) (at 0) (at 1) (at 2) (at 3) (quarters X k).1 ∙ ap h e

-- exclusive or of blocks is that of their words
pub held_xor : (q : ℕ) (x y : Bytes) →
    held q (bit_xor (get_or x 0 0) (get_or y 0 0) ∷ bit_xor (get_or x 1 0) (get_or y 1 0) ∷ bit_xor (get_or x 2 0) (get_or y 2 0) ∷ bit_xor (get_or x 3 0) (get_or y 3 0) ∷ []) ≡ held q x ⊕ held q y
held_xor q x y =
    let w = λ (z : Bytes) (i : ℕ). little q (get_or z i 0) in
    let l = λ (i : ℕ). length-take q (little 4 (get_or x i 0)) ∙ sym (length-take q (little 4 (get_or y i 0))) in
    let s = λ (i : ℕ). little_xor q (get_or x i 0) (get_or y i 0) in
    same_four (s 0) (s 1) (s 2) (s 3)
    ∙ sym (xor_append (w x 0) (w y 0) (w x 1 ++ (w x 2 ++ w x 3)) (w y 1 ++ (w y 2 ++ w y 3)) (l 0)
    ∙ ap (λ Z. (w x 0 ⊕ w y 0) ++ Z) (xor_append (w x 1) (w y 1) (w x 2 ++ w x 3) (w y 2 ++ w y 3) (l 1)
    ∙ ap (λ Z. (w x 1 ⊕ w y 1) ++ Z) (xor_append (w x 2) (w y 2) (w x 3) (w y 3) (l 2))))

-- fix1 on the first word
take_fix1 : (q : ℕ) (X : Bytes) → take q (fix1 X) ≡ fix1 (take q X)
take_fix1 zero X = refl
take_fix1 (suc q) [] = refl
take_fix1 (suc q) (x ∷ X) = refl

little_or : (q n : ℕ) → little q (bit_or n 128) ≡ fix1 (little q n)
little_or q n =
    let e0 : bit_or n 128 % 256 ≡ bit_or (n % 256) 128 = or_mod n 128 8 in
    let e1 : bit_or n 128 / 256 % 256 ≡ n / 256 % 256 = ap (λ z. z % 256) (or_shr n 128 8 ∙ or_zero_r (n / 256)) in
    let e2 : bit_or n 128 / 65536 % 256 ≡ n / 65536 % 256 = ap (λ z. z % 256) (or_shr n 128 16 ∙ or_zero_r (n / 65536)) in
    let e3 : bit_or n 128 / 16777216 % 256 ≡ n / 16777216 % 256 = ap (λ z. z % 256) (or_shr n 128 24 ∙ or_zero_r (n / 16777216)) in
    let all : little 4 (bit_or n 128) ≡ fix1 (little 4 n) = cc in
    ap (take q) all ∙ take_fix1 q (little 4 n)

fix1_append : (P Q : Bytes) → 0 < length P → fix1 (P ++ Q) ≡ fix1 P ++ Q
fix1_append [] Q h = absurd (omega arith)
fix1_append (x ∷ P) Q h = refl

pub held_fix1 : (q : ℕ) (x : Bytes) → 0 < q → held q (bit_or (get_or x 0 0) 128 ∷ get_or x 1 0 ∷ get_or x 2 0 ∷ get_or x 3 0 ∷ []) ≡ fix1 (held q x)
held_fix1 q x h =
    let w = λ (i : ℕ). little q (get_or x i 0) in
    let l : 0 < length (w 0) = omega (arith, length-take q (little 4 (get_or x 0 0))) in
    ap (λ Z. four Z (w 1) (w 2) (w 3)) (little_or q (get_or x 0 0)) ∙ sym (fix1_append (w 0) (w 1 ++ (w 2 ++ w 3)) l)
