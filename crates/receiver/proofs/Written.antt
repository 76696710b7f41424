-- A tube that is written of what sealing gives is read as sealed so.
use Rattle.std.proofs.Common.{◌≡◌, ℕ, List, length, sym, refl, ap, ◌∙◌, arith}
use Rattle.mode.specs.declared.set.ParameterSet.{ParameterSet}
use Rattle.mode.specs.Meaning.{Meaning, Admitted}
use Rattle.mode.proofs.Laws.{headed}
use Rattle.tube.specs.Form.{Ranged, placed}
use Rattle.tube.specs.Write.{nonce_of}
use Rattle.tube.proofs.Numbers.{nonce_length, nonce_value}
use Rattle.tube.proofs.Sections.{reads_back}
use Rattle.receiver.specs.Sent.{Readable}

seal_same : (m : Meaning) (s : ParameterSet) (M n n' a a' c c' t t' : List ℕ) → n' ≡ n → a' ≡ a → c' ≡ c → t' ≡ t
    → m.sealing s n a M ≡ record { ciphertext = c; tag = t } → m.sealing s n' a' M ≡ record { ciphertext = c'; tag = t' }
seal_same m s M n n' a a' c c' t t' en ea ec et e =
    ap (λ y. m.sealing s y a' M) en ∙ ap (λ y. m.sealing s n y M) ea ∙ e
    ∙ ap (λ y. record { ciphertext = y; tag = t }) (sym ec) ∙ ap (λ y. record { ciphertext = c'; tag = y }) (sym et)

pub readable : Readable
readable m s k a M law ours hk la lM =
    let n = nonce_of s.nonce k in
    let x = m.sealing s n a M in
    let c = x.ciphertext in
    let t = x.tag in
    let ln : length n ≡ s.nonce = nonce_length s.nonce k in
    let adm : Admitted m s n a M = record { code = ours.0; width = ours.1; nonce = ln; label = la; contents = lM } in
    let lt : length t ≡ s.tag = law.tagged s n a M adm in
    let lc : length c ≡ length M = law.long s n a M (headed m s n a M adm) in
    let r : Ranged (length n) (length a) (length c) (length t) = record {
      nonces = (omega (arith, s.nonces.0), omega (arith, s.nonces.1, s.widths.1));
      labels = la;
      bodies = omega arith;
      tags = (omega (arith, s.tags.0), omega (arith, s.tags.1, s.widths.1));
    } in
    let b = reads_back s.code s.param n a c t r in
    record {
      tube = placed s.code s.param n a c t;
      form = b.reads;
      code = refl;
      param = refl;
      nonce = ln;
      tag = lt;
      number = nonce_value s.nonce k hk;
      label = b.label;
      seals = seal_same m s M n _ a _ c _ t _ b.nonce b.label b.contents b.tag refl;
    }
