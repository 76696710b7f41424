-- Decryption undoes encryption, and the reverse.
use Rattle.std.proofs.Common.{◌≡◌, ℕ, ◌<◌, List, [], ◌∷◌, map, length, sym, refl, ap, ◌∙◌}
use Rattle.blocks.specs.Blocks.{Bytes, ◌⊕◌, blocks, join}
use Rattle.blocks.specs.Pads.{fix1}
use Rattle.blocks.specs.Chain.{enc_blocks, dec_blocks, enc, dec}
use Rattle.blocks.specs.Laws.{Invertible}
use Rattle.blocks.proofs.Cuts.{join_blocks, recut_blocks}
use Rattle.blocks.proofs.Xors.{xor_back, length_xor}

module _ (E : Bytes → Bytes) where
  enc_lengths : (V : Bytes) (Ms : List Bytes) → map length (enc_blocks E V Ms) ≡ map length Ms
  enc_lengths V [] = refl
  enc_lengths V (M ∷ Ms) = ap (λ n. n ∷ map length (enc_blocks E (fix1 (M ⊕ E V)) Ms)) (length_xor M (E V)) ∙ ap (λ ns. length M ∷ ns) (enc_lengths (fix1 (M ⊕ E V)) Ms)

  dec_lengths : (V : Bytes) (Cs : List Bytes) → map length (dec_blocks E V Cs) ≡ map length Cs
  dec_lengths V [] = refl
  dec_lengths V (C ∷ Cs) = ap (λ n. n ∷ map length (dec_blocks E (fix1 C) Cs)) (length_xor C (E V)) ∙ ap (λ ns. length C ∷ ns) (dec_lengths (fix1 C) Cs)

  dec_enc_blocks : (V : Bytes) (Ms : List Bytes) → dec_blocks E V (enc_blocks E V Ms) ≡ Ms
  dec_enc_blocks V [] = refl
  dec_enc_blocks V (M ∷ Ms) =
      ap (λ Z. Z ∷ dec_blocks E (fix1 (M ⊕ E V)) (enc_blocks E (fix1 (M ⊕ E V)) Ms)) (xor_back M (E V))
      ∙ ap (λ Zs. M ∷ Zs) (dec_enc_blocks (fix1 (M ⊕ E V)) Ms)

  enc_dec_blocks : (V : Bytes) (Cs : List Bytes) → enc_blocks E V (dec_blocks E V Cs) ≡ Cs
  enc_dec_blocks V [] = refl
  enc_dec_blocks V (C ∷ Cs) =
      ap (λ Z. Z ∷ enc_blocks E (fix1 Z) (dec_blocks E (fix1 C) Cs)) (xor_back C (E V))
      ∙ ap (λ Zs. C ∷ Zs) (enc_dec_blocks (fix1 C) Cs)

module _ (b : ℕ) (E : Bytes → Bytes) (hb : 0 < b) where
  pub dec_enc : (V M : Bytes) → dec b E V (enc b E V M) ≡ M
  dec_enc V M =
      let r = recut_blocks b hb M (enc_blocks E V (blocks b M)) (enc_lengths E V (blocks b M)) in
      ap (λ Zs. join (dec_blocks E V Zs)) r.1 ∙ ap join (dec_enc_blocks E V (blocks b M)) ∙ join_blocks b hb M

  pub enc_dec : (V C : Bytes) → enc b E V (dec b E V C) ≡ C
  enc_dec V C =
      let r = recut_blocks b hb C (dec_blocks E V (blocks b C)) (dec_lengths E V (blocks b C)) in
      ap (λ Zs. join (enc_blocks E V Zs)) r.1 ∙ ap join (enc_dec_blocks E V (blocks b C)) ∙ join_blocks b hb C

  pub invertible : Invertible b E
  invertible = record {
    undoes = dec_enc;
    redoes = enc_dec;
    ciphertexts = λ V M. (recut_blocks b hb M (enc_blocks E V (blocks b M)) (enc_lengths E V (blocks b M))).0;
    contents = λ V C. (recut_blocks b hb C (dec_blocks E V (blocks b C)) (dec_lengths E V (blocks b C))).0;
    apart = λ V M M' e. sym (dec_enc V M) ∙ ap (dec b E V) e ∙ dec_enc V M';
  }
