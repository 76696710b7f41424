-- HASH and PRF as the code comes to them: by the first block and the others, and by the last block padded whether it is full or not.
use Rattle.std.specs.Prelude.{◌≡◌, ℕ, ◌+◌, ◌-◌, ◌<◌, ◌≤◌, max, Bool, cond, ◌⊎◌, [], ◌∷◌, length, take, drop}
use Rattle.std.proofs.Common.{arith, sym, ◌∙◌, subst, ⊎_elim, length-drop}
use Rattle.std.proofs.Math.Path.{refl, ap}
use Rattle.std.proofs.lemmas.Bool.{cases_lt, cases_Bool, eqb-true, le-ltb}
use Rattle.blocks.specs.Blocks.{Bytes, ◌⊕◌, parts, blocks, front, last}
use Rattle.blocks.specs.Chain.{chain}
use Rattle.blocks.specs.Pads.{ozp}
use Rattle.blocks.specs.Words.{f1, f2, g1, g2}
use Rattle.blocks.proofs.Cuts.{parts_more, parts_none, blocks_more, blocks_one}
use Rattle.blocks.proofs.Spends.{parts_one}
use Rattle.cloc.specs.Cloc.{is_full, label_blocks, SH1, SHa, HASH, SPm, tag_block}

-- the width of a block, said of its length
pub at_width : (n b : ℕ) → n ≡ b → (b ≡ 8) ⊎ (b ≡ 16) → (n ≡ 8) ⊎ (n ≡ 16)
at_width n b e w = subst (λ k. (k ≡ 8) ⊎ (k ≡ 16)) (sym e) w

-- what the blocks of X leave, said of the cipher as it was before earlier runs
pub padded_as : (b b' : ℕ) (E E' : Bytes → Bytes) (S S' X Z : Bytes) → b' ≡ b → E' ≡ E → S' ≡ S →
    Z ≡ chain E' S' (front (blocks b' X)) ⊕ ozp b' (last (blocks b' X)) → Z ≡ chain E S (front (blocks b X)) ⊕ ozp b (last (blocks b X))
padded_as b b' E E' S S' X Z w e s z =
    z ∙ ap (λ k. chain E' S' (front (blocks k X)) ⊕ ozp k (last (blocks k X))) w
    ∙ ap (λ k. chain k S' (front (blocks b X)) ⊕ ozp b (last (blocks b X))) e
    ∙ ap (λ k. chain E k (front (blocks b X)) ⊕ ozp b (last (blocks b X))) s

module _ (b : ℕ) (hb : 0 < b) where
  -- a label of one block
  label_one : (A : Bytes) → length A ≤ b → label_blocks b A ≡ A ∷ []
  label_one [] l = refl
  label_one (x ∷ A) l = blocks_one b hb (x ∷ A) (omega arith) l

  -- a longer label
  label_more : (A : Bytes) → b < length A → label_blocks b A ≡ take b A ∷ blocks b (drop b A)
  label_more [] l = absurd (omega arith)
  label_more (x ∷ A) l = blocks_more b (x ∷ A) hb (omega arith)

  others : (A : Bytes) → b < length A → blocks b (drop b A) ≡ take b (drop b A) ∷ blocks b (drop b (drop b A))
  others A l = blocks_more b (drop b A) hb (let d = length-drop b A in omega arith)

  -- its cipher runs
  pub runs_one : (a : ℕ) → a ≤ b → max 1 (parts b a) ≡ 1
  runs_one a l = ⊎_elim
      (λ k. let p = parts_one b a k l in omega arith)
      (λ k. let z : a ≡ 0 = omega arith in let q = ap (parts b) z in let n = parts_none b hb in omega arith)
      (cases_lt 0 a)

  pub runs_more : (a r : ℕ) → b < a → r ≡ a - b → (max 1 (parts b a) ≡ 1 + parts b r) × (0 < parts b r)
  runs_more a r l e =
      let p = parts_more b a hb (omega arith) in
      let q = ap (parts b) e in
      let s = parts_more b r hb (omega arith) in (omega arith, omega arith)

  module _ (E : Bytes → Bytes) where
    -- V of S_H[a] and of whether A[a] is full
    hash_of : (param : ℕ) (N A S V : Bytes) (full : Bool) → S ≡ SHa b E (label_blocks b A) → full ≡ is_full b (last (label_blocks b A)) →
        V ≡ cond full (f1 (S ⊕ ozp b (param ∷ N))) (f2 (S ⊕ ozp b (param ∷ N))) → V ≡ HASH b E param N A
    unfolding HASH
    hash_of param N A S V full s f v =
        v ∙ ap (λ Z. cond full (f1 (Z ⊕ ozp b (param ∷ N))) (f2 (Z ⊕ ozp b (param ∷ N)))) s
        ∙ ap (λ q. cond q (f1 (SHa b E (label_blocks b A) ⊕ ozp b (param ∷ N))) (f2 (SHa b E (label_blocks b A) ⊕ ozp b (param ∷ N)))) f

    pub hash_one : (param : ℕ) (N A S V : Bytes) (full : Bool) → length A ≤ b → S ≡ SH1 b E A → full ≡ is_full b A →
        V ≡ cond full (f1 (S ⊕ ozp b (param ∷ N))) (f2 (S ⊕ ozp b (param ∷ N))) → V ≡ HASH b E param N A
    hash_one param N A S V full l s f v =
        let o = label_one A l in
        hash_of param N A S V full (s ∙ ap (SHa b E) (sym o)) (f ∙ ap (λ Z. is_full b (last Z)) (sym o)) v

    -- A1 is the first block of the label and R what is behind it
    pub hash_more : (param : ℕ) (N A A1 R S V : Bytes) (full : Bool) → b < length A → A1 ≡ take b A → R ≡ drop b A →
        S ≡ E (chain E (SH1 b E A1) (front (blocks b R)) ⊕ ozp b (last (blocks b R))) → full ≡ is_full b (last (blocks b R)) →
        V ≡ cond full (f1 (S ⊕ ozp b (param ∷ N))) (f2 (S ⊕ ozp b (param ∷ N))) → V ≡ HASH b E param N A
    hash_more param N A A1 R S V full l a r s f v =
        let t = others A l in
        let o : label_blocks b A ≡ take b A ∷ (take b (drop b A) ∷ blocks b (drop b (drop b A))) = label_more A l ∙ ap (λ Z. take b A ∷ Z) t in
        let u = ap (blocks b) r ∙ t in
        hash_of param N A S V full
        (s ∙ ap (λ Z. E (chain E (SH1 b E Z) (front (blocks b R)) ⊕ ozp b (last (blocks b R)))) a
        ∙ ap (λ Zs. E (chain E (SH1 b E (take b A)) (front Zs) ⊕ ozp b (last Zs))) u ∙ ap (SHa b E) (sym o))
        (f ∙ ap (λ Zs. is_full b (last Zs)) u ∙ ap (λ Zs. is_full b (last Zs)) (sym o)) v

    pub tag_none : (V C : Bytes) → length C ≡ 0 → tag_block b E V C ≡ E (g1 V)
    unfolding tag_block
    tag_none V [] e = refl
    tag_none V (c ∷ C) e = absurd (omega arith)

    tag_some : (V C : Bytes) → 0 < length C → tag_block b E V C ≡ SPm b E (chain E (E (g2 V)) (front (blocks b C))) (last (blocks b C))
    unfolding tag_block
    tag_some V [] h = absurd (omega arith)
    tag_some V (c ∷ C) h = refl

    -- ozp leaves a full block as it is
    last_run : (S X : Bytes) → E (cond (is_full b X) (f1 (S ⊕ ozp b X)) (f2 (S ⊕ ozp b X))) ≡ SPm b E S X
    last_run S X = ⊎_elim
        (λ t. let u = le-ltb (length X) b (let e = eqb-true (length X) b t in omega arith) in let o : ozp b X ≡ X = rw u in rw t (ap (λ Z. E (f1 (S ⊕ Z))) o))
        (λ f. rw f)
        (cases_Bool (is_full b X))

    -- S is what all blocks and the padded last one leave, F what is run on
    pub tag_last : (V C S F : Bytes) (full : Bool) → 0 < length C → S ≡ chain E (E (g2 V)) (front (blocks b C)) ⊕ ozp b (last (blocks b C)) →
        full ≡ is_full b (last (blocks b C)) → F ≡ cond full (f1 S) (f2 S) → E F ≡ tag_block b E V C
    tag_last V C S F full h s t f =
        ap E (f ∙ ap (λ q. cond q (f1 S) (f2 S)) t ∙ ap (λ Z. cond (is_full b (last (blocks b C))) (f1 Z) (f2 Z)) s)
        ∙ last_run (chain E (E (g2 V)) (front (blocks b C))) (last (blocks b C)) ∙ sym (tag_some V C h)
