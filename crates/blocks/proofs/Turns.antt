-- One turn of a loop over blocks: what is left gives what the whole gives.
use Rattle.std.proofs.Common.{◌≡◌, ℕ, ◌+◌, ◌<◌, ◌≤◌, Bool, true, false, cond, List, [], ◌∷◌, ◌++◌, length, take, drop, sym, refl, ap, ◌∙◌, ⊎_elim, arith, length-drop}
use Rattle.std.proofs.lemmas.List.{append_assoc, append-nil, nil_from_length}
use Rattle.std.proofs.lemmas.Bool.{cases_lt}
use Rattle.blocks.specs.Blocks.{Bytes, ◌⊕◌, blocks, front, last, join}
use Rattle.blocks.specs.Pads.{fix1}
use Rattle.blocks.specs.Chain.{chain, enc_blocks, dec_blocks, enc, dec, crypted}
use Rattle.blocks.proofs.Cuts.{blocks_more, blocks_none, blocks_one, front_more}

-- the chain over the blocks before the last: Y is the first of X, and R is left
pub front_turn : (b : ℕ) (E : Bytes → Bytes) (S S' X Y R : Bytes) → 0 < b → b < length X → Y ≡ take b X → R ≡ drop b X → S' ≡ E (S ⊕ Y) →
    (chain E S' (front (blocks b R)) ≡ chain E S (front (blocks b X))) × (last (blocks b R) ≡ last (blocks b X))
front_turn b E S S' X Y R hb h f d s =
    let m = front_more b hb X h in (
      ap (λ Z. chain E S' (front (blocks b Z))) d
          ∙ ap (λ Z. chain E Z (front (blocks b (drop b X)))) (s ∙ ap (λ Z. E (S ⊕ Z)) f)
          ∙ ap (chain E S) (sym m.0),
      ap (λ Z. last (blocks b Z)) d ∙ sym m.1,
    )

-- a full block: Y is the first of X and R is left, T is the stream block E(V), and P, which stands behind O in Z, is Y ⊕ T
module _ (b : ℕ) (E : Bytes → Bytes) (V V' X Y R T P O Z : Bytes) (hb : 0 < b) (h : b ≤ length X) (f : Y ≡ take b X) (d : R ≡ drop b X) (t : T ≡ E V) (p : P ≡ Y ⊕ T) (z : Z ≡ O ++ P) where
  cut_one : blocks b X ≡ Y ∷ blocks b R
  cut_one = blocks_more b X hb (omega arith) ∙ ap (λ W. W ∷ blocks b (drop b X)) (sym f) ∙ ap (λ W. Y ∷ blocks b W) (sym d)

  written : (W : Bytes) → Z ++ W ≡ O ++ ((Y ⊕ E V) ++ W)
  written W = ap (λ q. q ++ W) (z ∙ ap (λ q. O ++ q) (p ∙ ap (λ q. Y ⊕ q) t)) ∙ append_assoc O (Y ⊕ E V) W

  enc_turn : V' ≡ fix1 (Y ⊕ T) → Z ++ enc b E V' R ≡ O ++ enc b E V X
  enc_turn v =
      written (enc b E V' R) ∙ ap (λ q. O ++ ((Y ⊕ E V) ++ enc b E q R)) (v ∙ ap (λ q. fix1 (Y ⊕ q)) t)
      ∙ ap (λ q. O ++ join (enc_blocks E V q)) (sym cut_one)

  dec_turn : V' ≡ fix1 Y → Z ++ dec b E V' R ≡ O ++ dec b E V X
  dec_turn v =
      written (dec b E V' R) ∙ ap (λ q. O ++ ((Y ⊕ E V) ++ dec b E q R)) v
      ∙ ap (λ q. O ++ join (dec_blocks E V q)) (sym cut_one)

  pub crypted_turn : (t : Bool) → V' ≡ fix1 (cond t Y (Y ⊕ T)) → Z ++ crypted b E t V' R ≡ O ++ crypted b E t V X
  crypted_turn true = dec_turn
  crypted_turn false = enc_turn

-- the last block, or none
module _ (b : ℕ) (E : Bytes → Bytes) (V X : Bytes) (hb : 0 < b) (h : length X ≤ b) where
  last_one : (F : List Bytes → List Bytes) → F (X ∷ []) ≡ (X ⊕ E V) ∷ [] → F [] ≡ [] → join (F (blocks b X)) ≡ X ⊕ E V
  last_one F one none = ⊎_elim
      (λ k. ap (λ q. join (F q)) (blocks_one b hb X k h) ∙ ap join one ∙ append-nil (X ⊕ E V))
      (λ k. let n : length X ≡ 0 = omega arith in
      ap (λ q. join (F q)) (blocks_none b X hb n) ∙ ap join none ∙ ap (λ q. q ⊕ E V) (sym (nil_from_length X n)))
      (cases_lt 0 (length X))

  enc_last : enc b E V X ≡ X ⊕ E V
  enc_last = last_one (enc_blocks E V) refl refl

  dec_last : dec b E V X ≡ X ⊕ E V
  dec_last = last_one (dec_blocks E V) refl refl

  pub crypted_last : (t : Bool) → crypted b E t V X ≡ X ⊕ E V
  crypted_last true = dec_last
  crypted_last false = enc_last

-- P is written behind the first k bytes of O, as its last part
pub written_last : (O P : Bytes) (k n : ℕ) → length O ≤ k + n → take k O ++ (P ++ drop n (drop k O)) ≡ take k O ++ P
written_last O P k n h =
    let l = length-drop n (drop k O) in
    let m = length-drop k O in
    ap (λ Z. take k O ++ (P ++ Z)) (nil_from_length (drop n (drop k O)) (omega arith)) ∙ ap (λ Z. take k O ++ Z) (append-nil P)
