-- A message under a tag: opening gives M exactly when sealing M gives C and T. P gives the tag of a ciphertext, as a mode defines it.
use Rattle.std.proofs.Common.{◌≡◌, ℕ, ◌<◌, true, cond, Some, None, sym, ap, ◌∙◌, ⊎_elim}
use Rattle.std.specs.Str.{bytes_eq}
use Rattle.std.proofs.lemmas.Slice.Eq.{bytes_eq-Decides}
use Rattle.std.proofs.lemmas.Bool.{cases_Bool}
use Rattle.blocks.specs.Blocks.{Bytes}
use Rattle.blocks.specs.Chain.{enc, dec}
use Rattle.blocks.proofs.Undone.{dec_enc, enc_dec}

module _ (b : ℕ) (E : Bytes → Bytes) (hb : 0 < b) (P : Bytes → Bytes) (V M C T : Bytes) where
  pub opened_sealed : cond (bytes_eq T (P C)) (Some (dec b E V C)) None ≡ Some M → (enc b E V M ≡ C) × (P (enc b E V M) ≡ T)
  opened_sealed e = ⊎_elim
      (λ h. let p : Some (dec b E V C) ≡ Some M = rw h at e in
      let m : dec b E V C ≡ M = cc in
      let c : enc b E V M ≡ C = ap (enc b E V) (sym m) ∙ enc_dec b E hb V C in
      (c, ap P c ∙ sym ((bytes_eq-Decides T (P C)).0 h)))
      (λ h. let p : None ≡ Some M = rw h at e in (cc, cc))
      (cases_Bool (bytes_eq T (P C)))

  pub sealed_opened : enc b E V M ≡ C → P (enc b E V M) ≡ T → cond (bytes_eq T (P C)) (Some (dec b E V C)) None ≡ Some M
  sealed_opened c t =
      let h : bytes_eq T (P C) ≡ true = (bytes_eq-Decides T (P C)).1 (sym (ap P (sym c) ∙ t)) in
      let d : dec b E V C ≡ M = ap (dec b E V) (sym c) ∙ dec_enc b E hb V M in
      rw h (ap Some d)
