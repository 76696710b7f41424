-- What an open leaves of its output part beyond the contents.
use Rattle.std.proofs.Common.{◌≡◌, ℕ, ◌≤◌, false, cond, not, List, length, drop, is_some, is_ok, Some, None, Ok, Err, Option, Result, sym, refl, ap, ◌∙◌, subst}
use Rattle.std.proofs.lemmas.List.{drop_at}
use Rattle.std.proofs.lemmas.Bool.{eqb-true}
use Rattle.refusal.specs.Cause.{first, unless}
use Rattle.mode.specs.declared.set.ParameterSet.{ParameterSet}
use Rattle.mode.specs.Meaning.{Meaning, Lawful, Admitted}
use Rattle.mode.specs.Opening.{given}
use Rattle.mode.proofs.Firsts.{first_none, not_not}
use Rattle.mode.proofs.Laws.{opened_length}
use Rattle.tube.specs.declared.fault.TubeFault.{TubeFault}
use Rattle.tube.specs.declared.tube.Tube.{Tube}
use Rattle.tube.specs.Part.{part}
use Rattle.tube.specs.Read.{parsed}
use Rattle.tube.proofs.Parts.{length_part}
use Rattle.tube.proofs.Past.{parsed_within}
use Rattle.ledger.specs.declared.standing.Standing.{Standing}
use Rattle.link.specs.declared.fault.EndFault.{EndFault}
use Rattle.receiver.specs.declared.answer.Opened.{Opened}
use Rattle.receiver.specs.Open.{open_verdict, open_causes, opening, sections, answer_to, Verdict, handed, refused, answer_of, out_of}
use Rattle.receiver.proofs.Tables.{never}

form_of : (r : Result Tube TubeFault) → not (is_ok r) ≡ false → r ≡ Ok (sections r)
form_of (Ok t) e = refl
form_of (Err f) e = never (ap (λ x. cond x 0 1) e)

some_of : (o : Option (List ℕ)) → not (is_some o) ≡ false → o ≡ Some (given o)
some_of (Some M) e = refl
some_of None e = never (ap (λ x. cond x 0 1) e)

module _ (m : Meaning) (law : Lawful m) (left : ℕ) (s : ParameterSet) (high : ℕ) (stands : ℕ → Standing) (bytes : List ℕ) (out work : ℕ) where
  abbrev t : Tube
  t = sections (parsed bytes)

  abbrev M : List ℕ
  M = given (opening m s bytes t)

  given_long : first (open_causes m left s high stands bytes out work) ≡ None → length M ≡ t.contents.len
  given_long e =
      let h = first_none (open_causes m left s high stands bytes out work) e in
      let w = parsed_within bytes t (form_of (parsed bytes) h.1.1.1.0) in
      let n : t.nonce.len ≡ s.nonce = eqb-true t.nonce.len s.nonce (not_not _ h.1.1.1.1.1.1.0) in
      let g : t.tag.len ≡ s.tag = eqb-true t.tag.len s.tag (not_not _ h.1.1.1.1.1.1.1.0) in
      let gives : opening m s bytes t ≡ Some M = some_of (opening m s bytes t) h.1.1.1.1.1.1.1.1.1.1.1.1.1.1.0 in
      let admitted : Admitted m s (part bytes t.nonce) (part bytes t.label) (part bytes t.contents) = record {
        code = eqb-true s.code m.code (not_not _ h.1.0);
        width = eqb-true s.width m.width (not_not _ h.1.1.0);
        nonce = length_part bytes t.nonce w.nonce ∙ n;
        label = subst (λ x. x ≤ 4096) (sym (length_part bytes t.label w.label)) w.labels;
        contents = subst (λ x. x ≤ 1048576) (sym (length_part bytes t.contents w.contents)) w.bodies;
      } in
      opened_length m law s (part bytes t.nonce) (part bytes t.label) (part bytes t.contents) (part bytes t.tag) M admitted (length_part bytes t.tag w.tag ∙ g) gives
      ∙ length_part bytes t.contents w.contents

  long_by : (o : Option EndFault) → first (open_causes m left s high stands bytes out work) ≡ o → (a : Opened) (N : List ℕ)
      → unless o refused (handed (answer_to t (m.open_runs t.label.len t.contents.len)) M) ≡ handed a N → length N ≡ a.contents_len
  long_by None e a N q =
      let f : answer_to t (m.open_runs t.label.len t.contents.len) ≡ a = cc in
      let g : M ≡ N = cc in
      ap length (sym g) ∙ given_long e ∙ ap (λ x. x.contents_len) f
  long_by (Some f) e a N q = never (cc)

  -- the contents have the length that is answered
  handed_long : (a : Opened) (N : List ℕ) → open_verdict m left s high stands bytes out work ≡ handed a N → length N ≡ a.contents_len
  handed_long a N q = long_by (first (open_causes m left s high stands bytes out work)) refl a N q

  rest_by : (v : Verdict) → open_verdict m left s high stands bytes out work ≡ v → (a : Opened) (before after : List ℕ) → Ok a ≡ answer_of v → after ≡ out_of v before
      → drop a.contents_len after ≡ drop a.contents_len before
  rest_by (refused f) q a before after e w = never (cc)
  rest_by (handed b N) q a before after e w =
      let f : a ≡ b = cc in
      let l : length N ≡ a.contents_len = handed_long b N q ∙ ap (λ x. x.contents_len) (sym f) in
      ap (drop a.contents_len) w ∙ drop_at N (drop (length N) before) a.contents_len l ∙ ap (λ n. drop n before) l

  -- beyond them the output part is as it was
  pub rest_handed : (a : Opened) (before after : List ℕ) → Ok a ≡ answer_of (open_verdict m left s high stands bytes out work) → after ≡ out_of (open_verdict m left s high stands bytes out work) before
      → drop a.contents_len after ≡ drop a.contents_len before
  rest_handed = rest_by (open_verdict m left s high stands bytes out work) refl

-- a refused open writes nothing
pub rest_refused : (v : Verdict) (f : EndFault) (before after : List ℕ) → ◌≡◌ {A = Result Opened EndFault} (Err f) (answer_of v) → after ≡ out_of v before → after ≡ before
rest_refused (handed a N) f before after e w = never (cc)
rest_refused (refused g) f before after e w = w
