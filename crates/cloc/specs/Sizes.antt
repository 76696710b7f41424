-- V and the block that the tag is cut of have b bytes, where E keeps the length of a block.
use Rattle.std.specs.Prelude.{◌≡◌, ℕ, ◌≤◌, min, Bool, true, false, cond, ◌⊎◌, List, [], ◌∷◌, length, take}
use Rattle.std.proofs.Common.{arith, ap, ◌∙◌, length-take}
use Rattle.std.proofs.Math.Logic.{⊎_elim}
use Rattle.std.proofs.lemmas.Bool.{cases_Bool}
use Rattle.blocks.specs.Blocks.{Bytes, ◌⊕◌, msb1, blocks, front, last}
use Rattle.blocks.specs.Chain.{chain}
use Rattle.blocks.specs.Pads.{ozp, fix0}
use Rattle.blocks.specs.Words.{f1, f2, g1, g2}
use Rattle.blocks.proofs.Cuts.{blocks_more}
use Rattle.blocks.proofs.Fours.{length_f1, length_f2, length_g1, length_h}
use Rattle.blocks.proofs.Lengths.{length_fix0, length_chain}
use Rattle.blocks.proofs.Padded.{length_ozp}
use Rattle.blocks.proofs.Spends.{width_bounds}
use Rattle.blocks.proofs.Xors.{length_xor}
use Rattle.cloc.specs.Cloc.{is_full, label_blocks, SH1, SHa, HASH, tag_block, PRF}
use Rattle.cloc.specs.Forms.{at_width}

module _ (b : ℕ) (E : Bytes → Bytes) (w : (b ≡ 8) ⊎ (b ≡ 16)) (k : (X : Bytes) → length X ≡ b → length (E X) ≡ b) where
  -- f1 or f2, by a test
  length_either : (t : Bool) (X Y : Bytes) → length X ≡ b → length Y ≡ b → length (cond t (f1 X) (f2 Y)) ≡ b
  length_either true X Y e f = length_f1 X (at_width (length X) b e w) ∙ e
  length_either false X Y e f = length_f2 Y (at_width (length Y) b f w) ∙ f

  length_SH1 : (X : Bytes) → length X ≤ b → length (SH1 b E X) ≡ b
  length_SH1 X l =
      let Y = E (fix0 (ozp b X)) in
      let n : length Y ≡ b = k (fix0 (ozp b X)) (length_fix0 (ozp b X) ∙ length_ozp b X l) in
      ⊎_elim (λ t. rw t (length_h Y (at_width (length Y) b n w) ∙ n)) (λ t. rw t n) (cases_Bool (msb1 (ozp b X)))

  length_SHa : (X : Bytes) (Xs : List Bytes) → length X ≤ b → length (SHa b E (X ∷ Xs)) ≡ b
  length_SHa X [] l = length_SH1 X l
  length_SHa X (Y ∷ Ys) l =
      let S = chain E (SH1 b E X) (front (Y ∷ Ys)) in
      k (S ⊕ ozp b (last (Y ∷ Ys))) (length_xor S (ozp b (last (Y ∷ Ys))) ∙ length_chain b E k (SH1 b E X) (front (Y ∷ Ys)) (length_SH1 X l))

  length_label : (A : Bytes) → length (SHa b E (label_blocks b A)) ≡ b
  length_label [] = length_SHa [] [] (omega arith)
  length_label (x ∷ A) =
      let hb = (width_bounds b w).0 in
      let X : Bytes = x ∷ A in
      let t = length-take b X in
      ap (λ Z. length (SHa b E Z)) (blocks_more b X hb (omega arith)) ∙ length_SHa (take b X) _ (omega arith)

  pub length_HASH : (param : ℕ) (N A : Bytes) → length (HASH b E param N A) ≡ b
  unfolding HASH
  length_HASH param N A =
      let S = SHa b E (label_blocks b A) in
      let e : length (S ⊕ ozp b (param ∷ N)) ≡ b = length_xor S (ozp b (param ∷ N)) ∙ length_label A in
      length_either (is_full b (last (label_blocks b A))) _ _ e e

  pub length_tag_block : (V C : Bytes) → length V ≡ b → length (tag_block b E V C) ≡ b
  unfolding tag_block
  length_tag_block V [] e = k (g1 V) (length_g1 V (at_width (length V) b e w) ∙ e)
  length_tag_block V (c ∷ C) e =
      let S = chain E (E (g2 V)) (front (blocks b (c ∷ C))) in
      let X = last (blocks b (c ∷ C)) in
      let s : length S ≡ b = length_chain b E k (E (g2 V)) (front (blocks b (c ∷ C))) (k (g2 V) (length_f2 V (at_width (length V) b e w) ∙ e)) in
      ⊎_elim
      (λ t. rw t (k (f1 (S ⊕ X)) (let l : length (S ⊕ X) ≡ b = length_xor S X ∙ s in length_f1 (S ⊕ X) (at_width (length (S ⊕ X)) b l w) ∙ l)))
      (λ t. rw t (k (f2 (S ⊕ ozp b X)) (let l : length (S ⊕ ozp b X) ≡ b = length_xor S (ozp b X) ∙ s in length_f2 (S ⊕ ozp b X) (at_width (length (S ⊕ ozp b X)) b l w) ∙ l)))
      (cases_Bool (is_full b X))

  -- the tag has as many bytes as are asked for
  pub length_PRF : (t param : ℕ) (N A C : Bytes) → t ≤ b → length (PRF b E t (HASH b E param N A) C) ≡ t
  length_PRF t param N A C l =
      let e = length_tag_block (HASH b E param N A) C (length_HASH param N A) in
      length-take t (tag_block b E (HASH b E param N A) C) ∙ (let z : min t (length (tag_block b E (HASH b E param N A) C)) ≡ t = omega arith in z)
