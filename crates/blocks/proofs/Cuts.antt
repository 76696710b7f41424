-- Blocks cut one at a time, put together again, and told apart from the last.
use Rattle.std.proofs.Common.{◌≡◌, ℕ, zero, suc, ◌+◌, ◌-◌, ◌*◌, ◌/◌, ◌%◌, ◌<◌, ◌≤◌, min, List, [], ◌∷◌, ◌++◌, map, length, take, drop, sym, refl, ap, ◌∙◌, ⊎_elim, arith, length-append, length-drop, length-take}
use native.Mathlib.Nat.{add-div_right, div-eq_of_lt, div-eq_of_lt-le, add-mul, one-mul}
use Rattle.std.proofs.lemmas.List.{append-nil, append_assoc, take_all, drop_all, take_at, drop_at, nil_from_length, take-append-drop}
use Rattle.std.proofs.lemmas.Bool.{cases_lt}
use Rattle.std.proofs.lemmas.Grind.{div_ceil_times}
use Rattle.blocks.specs.Blocks.{Bytes, ◌⊕◌, parts, cut, blocks, front, last, join}
use Rattle.blocks.specs.Chain.{chain}

-- one part fewer after b bytes
pub parts_more : (b n : ℕ) → 0 < b → 0 < n → parts b n ≡ suc (parts b (n - b))
parts_more b n hb hn = ⊎_elim few many (cases_lt n b)
  where
    few : n < b → parts b n ≡ suc (parts b (n - b))
    few h =
        let e : n + (b - 1) ≡ (n - 1) + b = omega arith in
        let z : (n - b) + (b - 1) ≡ b - 1 = omega arith in
        let p : (n - 1) / b ≡ 0 = div-eq_of_lt (omega arith) in
        let q : (b - 1) / b ≡ 0 = div-eq_of_lt (omega arith) in
        let r = add-div_right (n - 1) hb in
        let s : parts b (n - b) ≡ 0 = ap (λ x. x / b) z ∙ q in
        let t : parts b n ≡ (n - 1) / b + 1 = ap (λ x. x / b) e ∙ r in omega (arith, s, t, p)

    many : b ≤ n → parts b n ≡ suc (parts b (n - b))
    many h =
        let e : n + (b - 1) ≡ ((n - b) + (b - 1)) + b = omega arith in
        let t : parts b n ≡ parts b (n - b) + 1 = ap (λ x. x / b) e ∙ add-div_right ((n - b) + (b - 1)) hb in omega (arith, t)

-- as many as n / b, and one where bytes are left over
pub parts_ceil : (b n : ℕ) → 0 < b → parts b n ≡ n / b + min 1 (n % b)
parts_ceil b n hb =
    let k : ℕ = n / b + min 1 (n % b) in
    let t = div_ceil_times n b hb in
    let e : (k + 1) * b ≡ k * b + b = add-mul k 1 b ∙ ap (λ m. k * b + m) (one-mul b) in
    div-eq_of_lt-le {k = k} b {m = n + (b - 1)} (omega (arith, t.1)) (omega (arith, t.0, e))

pub parts_none : (b : ℕ) → 0 < b → parts b 0 ≡ 0
parts_none b hb = div-eq_of_lt (omega arith)

pub blocks_more : (b : ℕ) (X : Bytes) → 0 < b → 0 < length X → blocks b X ≡ take b X ∷ blocks b (drop b X)
blocks_more b X hb hX =
    let e : parts b (length X) ≡ suc (parts b (length (drop b X))) = parts_more b (length X) hb hX ∙ ap (λ n. suc (parts b n)) (sym (length-drop b X)) in
    ap (λ n. cut n b X) e

pub blocks_none : (b : ℕ) (X : Bytes) → 0 < b → length X ≡ 0 → blocks b X ≡ []
blocks_none b X hb e = ap (λ n. cut n b X) (ap (parts b) e ∙ parts_none b hb)

-- as many blocks as there are parts
pub length_cut : (n b : ℕ) (X : Bytes) → length (cut n b X) ≡ n
length_cut zero b X = refl
length_cut (suc n) b X = ap suc (length_cut n b (drop b X))

module _ (b : ℕ) (hb : 0 < b) where
  parts_zero : (n : ℕ) → parts b n ≡ 0 → n ≡ 0
  parts_zero n e = ⊎_elim (λ h. omega (arith, parts_more b n hb h)) (λ h. omega arith) (cases_lt 0 n)

  parts_suc : (n k : ℕ) → parts b n ≡ suc k → (0 < n) × (parts b (n - b) ≡ k)
  parts_suc n k e = ⊎_elim (λ h. (h, omega (arith, parts_more b n hb h))) (λ h. let z : n ≡ 0 = omega arith in absurd (omega (arith, parts_none b hb, ap (parts b) z))) (cases_lt 0 n)

  -- what is cut joins to what it was
  join_cut : (n : ℕ) (X : Bytes) → parts b (length X) ≡ n → join (cut n b X) ≡ X
  join_cut zero X e = sym (nil_from_length X (parts_zero (length X) e))
  join_cut (suc n) X e =
      let d : parts b (length (drop b X)) ≡ n = ap (parts b) (length-drop b X) ∙ (parts_suc (length X) n e).1 in
      ap (λ Y. take b X ++ Y) (join_cut n (drop b X) d) ∙ take-append-drop b X

  pub join_blocks : (X : Bytes) → join (blocks b X) ≡ X
  join_blocks X = join_cut (parts b (length X)) X refl

  -- lists that are as long, one by one, as the blocks of X are cut so again
  recut : (n : ℕ) (X : Bytes) (Ys : List Bytes) → parts b (length X) ≡ n → map length Ys ≡ map length (cut n b X) → (length (join Ys) ≡ length X) × (cut n b (join Ys) ≡ Ys)
  recut zero X [] e m = (sym (parts_zero (length X) e), refl)
  recut zero X (Y ∷ Ys) e m = let z : ◌≡◌ {A = ℕ} 0 1 = cc in absurd (omega arith)
  recut (suc n) X [] e m = let z : ◌≡◌ {A = ℕ} 0 1 = cc in absurd (omega arith)
  recut (suc n) X (Y ∷ Ys) e m =
      let d : parts b (length (drop b X)) ≡ n = ap (parts b) (length-drop b X) ∙ (parts_suc (length X) n e).1 in
      let y : length Y ≡ length (take b X) = cc in
      let ys : map length Ys ≡ map length (cut n b (drop b X)) = cc in
      let r = recut n (drop b X) Ys d ys in
      let yl : length Y ≡ min b (length X) = y ∙ length-take b X in
      let rl : length (join Ys) ≡ length X - b = r.0 ∙ length-drop b X in
      let one : take b (Y ++ join Ys) ≡ Y = ⊎_elim
      (λ h. take_all b (Y ++ join Ys) (omega (arith, length-append Y (join Ys))) ∙ ap (λ Z. Y ++ Z) (nil_from_length (join Ys) (omega arith)) ∙ append-nil Y)
      (λ h. take_at Y (join Ys) b (omega arith)) (cases_lt (length X) b) in
      let rest : drop b (Y ++ join Ys) ≡ join Ys = ⊎_elim
      (λ h. drop_all b (Y ++ join Ys) (omega (arith, length-append Y (join Ys))) ∙ sym (nil_from_length (join Ys) (omega arith)))
      (λ h. drop_at Y (join Ys) b (omega arith)) (cases_lt (length X) b) in
      (omega (arith, length-append Y (join Ys)), ap (λ Z. Z ∷ cut n b (drop b (Y ++ join Ys))) one ∙ ap (λ Z. Y ∷ Z) (ap (cut n b) rest ∙ r.1))

  pub recut_blocks : (X : Bytes) (Ys : List Bytes) → map length Ys ≡ map length (blocks b X) → (length (join Ys) ≡ length X) × (blocks b (join Ys) ≡ Ys)
  recut_blocks X Ys m =
      let r = recut (parts b (length X)) X Ys refl m in
      (r.0, ap (λ k. cut (parts b k) b (join Ys)) r.0 ∙ r.1)

  -- one block that is not the last, and the last
  pub front_more : (X : Bytes) → b < length X → (front (blocks b X) ≡ take b X ∷ front (blocks b (drop b X))) × (last (blocks b X) ≡ last (blocks b (drop b X)))
  front_more X h =
      let l = length-drop b X in
      let e = blocks_more b X hb (omega arith) in
      let f = blocks_more b (drop b X) hb (omega arith) in
      let t : blocks b X ≡ take b X ∷ (take b (drop b X) ∷ blocks b (drop b (drop b X))) = e ∙ ap (λ Z. take b X ∷ Z) f in
      (ap front t ∙ ap (λ Z. take b X ∷ front Z) (sym f), ap last t ∙ ap last (sym f))

  pub blocks_one : (X : Bytes) → 0 < length X → length X ≤ b → blocks b X ≡ X ∷ []
  blocks_one X k h =
      let d : blocks b (drop b X) ≡ [] = blocks_none b (drop b X) hb (length-drop b X ∙ (let z : length X - b ≡ 0 = omega arith in z)) in
      blocks_more b X hb k ∙ ap (λ Z. take b X ∷ Z) d ∙ ap (λ Z. Z ∷ []) (take_all b X h)

  pub front_none : (X : Bytes) → length X ≤ b → (front (blocks b X) ≡ []) × (last (blocks b X) ≡ X)
  front_none X h = ⊎_elim
      (λ k. let t = blocks_one X k h in (ap front t, ap last t))
      (λ k. let n : length X ≡ 0 = omega arith in
      let t = blocks_none b X hb n in
      (ap front t, ap last t ∙ sym (nil_from_length X n)))
      (cases_lt 0 (length X))

-- all blocks are those before the last, and the last
pub front_last : (Xs : List Bytes) → 0 < length Xs → Xs ≡ front Xs ++ (last Xs ∷ [])
front_last [] h = absurd (omega arith)
front_last (X ∷ []) h = refl
front_last (X ∷ (Y ∷ Ys)) h = ap (λ Z. X ∷ Z) (front_last (Y ∷ Ys) (omega arith))

join_front : (Xs : List Bytes) → join Xs ≡ join (front Xs) ++ last Xs
join_front [] = refl
join_front (X ∷ []) = append-nil X
join_front (X ∷ (Y ∷ Ys)) = ap (λ Z. X ++ Z) (join_front (Y ∷ Ys)) ∙ sym (append_assoc X (join (front (Y ∷ Ys))) (last (Y ∷ Ys)))

-- the last block lies at the end
pub last_drop : (b : ℕ) (X : Bytes) → 0 < b → (length (last (blocks b X)) ≤ length X) × (drop (length X - length (last (blocks b X))) X ≡ last (blocks b X))
last_drop b X hb =
    let P = join (front (blocks b X)) in
    let L = last (blocks b X) in
    let e : X ≡ P ++ L = sym (join_blocks b hb X) ∙ join_front (blocks b X) in
    let n : length X ≡ length P + length L = ap length e ∙ length-append P L in
    (omega arith, ap (drop (length X - length L)) e ∙ drop_at P L (length X - length L) (omega arith))

-- it has 1 to b bytes where there are any
pub last_length : (b : ℕ) (X : Bytes) → 0 < b → 0 < length X → (0 < length (last (blocks b X))) × (length (last (blocks b X)) ≤ b)
last_length b X hb hX = each (parts b (length X)) X refl hX
  where
    each : (n : ℕ) (X : Bytes) → parts b (length X) ≡ n → 0 < length X → (0 < length (last (blocks b X))) × (length (last (blocks b X)) ≤ b)
    each zero X e h = absurd (omega (arith, parts_more b (length X) hb h))
    each (suc n) X e h = ⊎_elim
        (λ k. let d = length-drop b X in
        let p : parts b (length (drop b X)) ≡ n = (let q = ap (parts b) d in omega (arith, q, parts_more b (length X) hb h)) in
        let r = each n (drop b X) p (omega arith) in
        let t = ap length (front_more b hb X k).1 in (omega arith, omega arith))
        (λ k. let t = ap length (front_none b hb X k).1 in (omega arith, omega arith))
        (cases_lt b (length X))

-- the chain over a list, then over another
pub chain_append : (E : Bytes → Bytes) (S : Bytes) (Xs Ys : List Bytes) → chain E S (Xs ++ Ys) ≡ chain E (chain E S Xs) Ys
chain_append E S [] Ys = refl
chain_append E S (X ∷ Xs) Ys = chain_append E (E (S ⊕ X)) Xs Ys

-- the chain over all blocks is one run more than over those before the last
pub chain_last : (E : Bytes → Bytes) (S : Bytes) (b : ℕ) (X : Bytes) → 0 < b → 0 < length X → chain E S (blocks b X) ≡ E (chain E S (front (blocks b X)) ⊕ last (blocks b X))
chain_last E S b X hb hX =
    let n : 0 < length (blocks b X) = (let q = length_cut (parts b (length X)) b X in let p = parts_more b (length X) hb hX in omega arith) in
    ap (chain E S) (front_last (blocks b X) n) ∙ chain_append E S (front (blocks b X)) (last (blocks b X) ∷ [])
