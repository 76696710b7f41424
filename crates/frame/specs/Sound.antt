-- The law of a mode, of every such mode: opening gives M exactly when sealing M gives C and T.
use Rattle.std.specs.Prelude.{◌≡◌, ℕ, ◌+◌, ◌<◌, ◌≤◌, ◌⊎◌, length, Some}
use Rattle.std.proofs.Common.{arith, ap, ◌∙◌}
use Rattle.blocks.specs.Blocks.{Bytes, parts}
use Rattle.blocks.specs.Chain.{enc}
use Rattle.blocks.proofs.Spends.{width_bounds}
use Rattle.blocks.proofs.Tagged as tagged
use Rattle.blocks.proofs.Undone.{invertible}
use Rattle.mode.specs.Meaning.{Lawful}
use Rattle.frame.specs.Framed.{sealed_by, opened_by, framed}

-- full calls decrypt or encrypt, which a call with a wrong tag does not
pub record RunCounts (b : ℕ) (hash tag : ℕ → ℕ) (full few : ℕ → ℕ → ℕ) : Type 0 where
  pub whole : (a x : ℕ) → full a x ≡ hash a + tag x + parts b x
  pub rest : (a x : ℕ) → few a x ≡ hash a + tag x

module _ (b : ℕ) (E : Bytes → Bytes) (PRF : ℕ → Bytes → Bytes → Bytes) (hb : 0 < b) (t : ℕ) (V M C T : Bytes) where
  opened_sealed : opened_by b E PRF t V C T ≡ Some M → sealed_by b E PRF t V M ≡ record { ciphertext = C; tag = T }
  opened_sealed e =
      let h = tagged.opened_sealed b E hb (PRF t V) V M C T e in
      ap (λ x. record { ciphertext = x; tag = PRF t V (enc b E V M) }) h.0 ∙ ap (λ x. record { ciphertext = C; tag = x }) h.1

  sealed_opened : sealed_by b E PRF t V M ≡ record { ciphertext = C; tag = T } → opened_by b E PRF t V C T ≡ Some M
  sealed_opened e = tagged.sealed_opened b E hb (PRF t V) V M C T (ap (λ s. s.ciphertext) e) (ap (λ s. s.tag) e)

pub framed_lawful : (b : ℕ) (E : Bytes → Bytes) (PRF HASH : ℕ → Bytes → Bytes → Bytes) (code : ℕ) (hash tag : ℕ → ℕ) (full few : ℕ → ℕ → ℕ) →
    (b ≡ 8) ⊎ (b ≡ 16) →
    ((t param : ℕ) (N A C : Bytes) → t ≤ b → length N < b → length (PRF t (HASH param N A) C) ≡ t) →
    RunCounts b hash tag full few → Lawful (framed b E PRF code HASH full few)
framed_lawful b E PRF HASH code hash tag full few w k runs =
    let hb = (width_bounds b w).0 in
    record {
      undoes = λ s N A C T M h n e. opened_sealed b E PRF hb s.tag (HASH s.param N A) M C T e;
      gives = λ s N A C T M h n e. sealed_opened b E PRF hb s.tag (HASH s.param N A) M C T e;
      long = λ s N A M h. (invertible b E hb).ciphertexts (HASH s.param N A) M;
      tagged = λ s N A M h.
          let e = h.width in
          let n = h.nonce in
          let p = s.nonces in
          let q = s.tags in
          k s.tag s.param N A (enc b E (HASH s.param N A) M) (omega arith) (omega arith);
      fewer = λ a x h i. let f = runs.whole a x in let g = runs.rest a x in omega arith;
    }
