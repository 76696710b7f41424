-- Every run keeps the promises.
use Rattle.std.proofs.Common.{◌≡◌, ℕ, ◌+◌, ◌-◌, ◌<◌, ◌≤◌, false, leb, List, ◌∷◌, ◌++◌, length, take, drop, Some, None, Ok, Err, Option, Result, sym, refl, ap, ◌∙◌, subst, inl, inr, arith}
use lib.Seq.{take-append_seam}
use Rattle.std.proofs.lemmas.Bool.{cases_eq, or_parts, leb-false}
use Rattle.refusal.specs.Cause.{first, unless}
use Rattle.cipher.specs.Left.{no_end, spent}
use Rattle.mode.specs.declared.set.ParameterSet.{ParameterSet}
use Rattle.mode.specs.Meaning.{Meaning, Lawful, Admitted, Headed}
use Rattle.mode.specs.Opening.{given}
use Rattle.tube.specs.declared.tube.Tube.{Tube}
use Rattle.tube.specs.Part.{part}
use Rattle.tube.specs.Read.{parsed, Within}
use Rattle.tube.proofs.Parts.{length_part}
use Rattle.tube.proofs.Past.{parsed_within}
use Rattle.ledger.specs.declared.ledger.Ledger.{Ledger}
use Rattle.ledger.specs.History.{highest, signed, among, standing_of, Represents}
use Rattle.ledger.specs.Marks.{by_marks}
use Rattle.ledger.proofs.Kept.{by_history}
use Rattle.link.specs.declared.fault.EndFault.{EndFault}
use Rattle.link.specs.Numbers.{last_of}
use Rattle.receiver.specs.declared.answer.Opened.{Opened}
use Rattle.receiver.specs.declared.states.Holding.{Holding}
use Rattle.receiver.specs.declared.states.Listening.{Listening}
use Rattle.receiver.specs.Open.{open_verdict, opening, sections, answer_to, Verdict, handed, refused, answer_of, out_of}
use Rattle.receiver.specs.Step.{verdict_at, answered}
use Rattle.receiver.specs.Step as step
use Rattle.receiver.specs.Trace.{Event, opens, Opening, count_in, counted, signed_in, written_in, Ours, IsDue, SealedAs, Hands, Deserves, causes_by, Right, Once, Counted, Promised}
use Rattle.receiver.specs.Run.{Keeps, GoesOn, Run, made, opened, returned, State, listening, holding, state_of, Promise}
use Rattle.receiver.specs.Run as run
use Rattle.receiver.proofs.Tables.{never, verdict_left, spent_end, spent_less}
use Rattle.receiver.proofs.Judge.{accepts, passes_all, costs, verdict_of}

-- ---- exact opening, of one open
module _ (m : Meaning) (s : ParameterSet) (floor left : ℕ) (ks : List ℕ) (law : Lawful m) where
  -- of a tube that is due
  module _ (k : Ours m s) (bytes : List ℕ) (t : Tube) (q : parsed bytes ≡ Ok t) (d : IsDue s floor ks t) where
    w : Within t (length bytes)
    w = parsed_within bytes t q

    head : Headed m s (part bytes t.nonce) (part bytes t.label)
    head = record {
      code = k.0;
      width = k.1;
      nonce = length_part bytes t.nonce w.nonce ∙ d.nonce;
      label = subst (λ x. x ≤ 4096) (sym (length_part bytes t.label w.label)) w.labels;
    }

    admitted : (M : List ℕ) → length M ≡ t.contents.len → Admitted m s (part bytes t.nonce) (part bytes t.label) M
    admitted M e = record { code = k.0; width = k.1; nonce = head.nonce; label = head.label; contents = subst (λ x. x ≤ 1048576) (sym e) w.bodies }

    tag_long : length (part bytes t.tag) ≡ s.tag
    tag_long = length_part bytes t.tag w.tag ∙ d.tag

    sealed_long : (M : List ℕ) → SealedAs m s bytes t M → length M ≡ t.contents.len
    sealed_long M e =
        sym (law.long s (part bytes t.nonce) (part bytes t.label) M head)
        ∙ ap (λ x. length x.ciphertext) e ∙ length_part bytes t.contents w.contents

    pub opens_to : (M : List ℕ) → SealedAs m s bytes t M → opening m s bytes t ≡ Some M
    opens_to M e =
        law.gives s (part bytes t.nonce) (part bytes t.label) (part bytes t.contents) (part bytes t.tag) M (admitted M (sealed_long M e)) tag_long e

    pub seals_from : (M : List ℕ) → opening m s bytes t ≡ Some M → SealedAs m s bytes t M
    seals_from M e =
        law.undoes s (part bytes t.nonce) (part bytes t.label) (part bytes t.contents) (part bytes t.tag) M
        (admitted (part bytes t.contents) (length_part bytes t.contents w.contents)) tag_long e

    pub only_one : (M N : List ℕ) → SealedAs m s bytes t M → SealedAs m s bytes t N → M ≡ N
    only_one M N e f = let a = opens_to M e in let b = opens_to N f in cc

  written_hands : (t : Tube) (M out : List ℕ) (full : ℕ) → length M ≡ t.contents.len → written_in (Ok (answer_to t full)) (M ++ drop (length M) out) ≡ M
  written_hands t M out full e = ap (λ x. take x (M ++ drop (length M) out)) (sym e) ∙ take-append_seam M (drop (length M) out)

  -- of an open whose answer and contents are those of its verdict
  module _ (o : Opening) (out : List ℕ) (v : Verdict) (ev : v ≡ verdict_of m s floor left ks o.tube o.room o.work (parsed o.tube))
      (ea : o.answer ≡ answer_of v) (eo : o.contents ≡ written_in (answer_of v) (out_of v out)) where
    abbrev t : Tube
    t = sections (parsed o.tube)

    abbrev good : Verdict
    good = handed (answer_to t (m.open_runs t.label.len t.contents.len)) (given (opening m s o.tube t))

    -- by the first cause
    is : (f : Option EndFault) → first (causes_by m s floor left ks o) ≡ f → v ≡ unless f refused good
    is f e = ev ∙ ap (λ x. unless x refused good) e

    forward : (f : Option EndFault) → first (causes_by m s floor left ks o) ≡ f → (M : List ℕ) → Hands m o M → Deserves m s floor left ks o M
    forward (Some f) e M h = let b = h.answer in let c : o.answer ≡ Err f = ea ∙ ap answer_of (is (Some f) e) in never (cc)
    forward None e M h =
        let a = accepts m s floor left ks o.tube o.room o.work (parsed o.tube) e in
        let N = given (opening m s o.tube t) in
        let p = a.passes in
        let seals = seals_from p.ours o.tube t p.form p.due N a.gives in
        let long = sealed_long p.ours o.tube t p.form p.due N seals in
        let same : M ≡ N = sym h.written ∙ eo ∙ ap (λ x. written_in (answer_of x) (out_of x out)) (is None e) ∙ written_hands t N out (m.open_runs t.label.len t.contents.len) long in
        record { tube = t; form = p.form; ours = p.ours; due = p.due; suffice = p.suffice; seals = subst (λ x. SealedAs m s o.tube t x) (sym same) seals }

    backward : (M : List ℕ) → Deserves m s floor left ks o M → Hands m o M
    backward M d =
        let u = d.tube in
        let full = m.open_runs u.label.len u.contents.len in
        let g = opens_to d.ours o.tube u d.form d.due M d.seals in
        let e : v ≡ handed (answer_to u full) M =
        ev ∙ ap (verdict_of m s floor left ks o.tube o.room o.work) d.form
        ∙ ap (λ x. unless x refused (handed (answer_to u full) (given (opening m s o.tube u)))) (passes_all m s floor left ks o.tube o.room o.work u M d.ours d.due d.suffice g)
        ∙ ap (λ x. handed (answer_to u full) (given x)) g in
        record {
          tube = u;
          form = d.form;
          answer = ea ∙ ap answer_of e;
          written = eo ∙ ap (λ x. written_in (answer_of x) (out_of x out)) e ∙ written_hands u M out full (sealed_long d.ours o.tube u d.form d.due M d.seals);
        }

    denial : (x : Option EndFault) → first (causes_by m s floor left ks o) ≡ x → (f : EndFault) → (o.answer ≡ Err f → x ≡ Some f) × (x ≡ Some f → o.answer ≡ Err f)
    denial None e f = let c = ea ∙ ap answer_of (is None e) in ((λ h. never (cc)), (λ h. never (cc)))
    denial (Some g) e f = let c : o.answer ≡ Err g = ea ∙ ap answer_of (is (Some g) e) in ((λ h. cc), (λ h. cc))

    pub right : Right m s floor left ks o
    right = record {
      hands = λ M. (forward (first (causes_by m s floor left ks o)) refl M, backward M);
      alone = λ t M N k q d. only_one k o.tube t q d M N;
      refuses = denial (first (causes_by m s floor left ks o)) refl;
    }

    -- an answer costs no more than is left
    affordable : (f : Option EndFault) → first (causes_by m s floor left ks o) ≡ f → count_in (answer_of v) ≤ left
    affordable None e =
        let a = accepts m s floor left ks o.tube o.room o.work (parsed o.tube) e in
        subst (λ x. count_in (answer_of x) ≤ left) (sym (is None e)) a.passes.suffice.runs
    affordable (Some f) e = subst (λ x. count_in (answer_of x) ≤ left) (sym (is (Some f) e)) (costs m s floor left ks o.tube o.room o.work law f e)

    pub afford : count_in (answer_of v) ≤ left
    afford = affordable (first (causes_by m s floor left ks o)) refl

    -- an accepted open answers a number that is due
    due_by : (f : Option EndFault) → first (causes_by m s floor left ks o) ≡ f → (a : Opened) → Ok a ≡ answer_of v
        → (floor < a.number) × (a.number ≤ last_of s) × (signed floor ks a.number ≡ false)
    due_by None e a h =
        let d = (accepts m s floor left ks o.tube o.room o.work (parsed o.tube) e).passes.due in
        let g : ◌≡◌ {A = Result Opened EndFault} (Ok a) (Ok (answer_to t (m.open_runs t.label.len t.contents.len))) = h ∙ ap answer_of (is None e) in
        let b : a ≡ answer_to t (m.open_runs t.label.len t.contents.len) = cc in
        let n : a.number ≡ t.number = ap (λ x. x.number) b in
        let u : signed floor ks a.number ≡ false = ap (signed floor ks) n ∙ d.unsigned in
        (leb-false a.number floor (or_parts (leb a.number floor) (among a.number ks) u).0, subst (λ x. x ≤ last_of s) (sym n) d.most, u)
    due_by (Some f) e a h = let g = h ∙ ap answer_of (is (Some f) e) in never (cc)

    pub due_answer : (a : Opened) → Ok a ≡ answer_of v → (floor < a.number) × (a.number ≤ last_of s) × (signed floor ks a.number ≡ false)
    due_answer = due_by (first (causes_by m s floor left ks o)) refl

-- ---- counted runs
counted_step : (start c left n : ℕ) → start ≤ no_end → Counted start c left → n ≤ left → Counted start (n + c) (spent left n)
counted_step start c left n b f h =
    elim (cases_eq start no_end) [
      | inl e ↦ record { is = spent_end left n (f.is ∙ spent_end start c e) ∙ sym (spent_end start (n + c) e); most = λ ne. absurd (ne e) }
      | inr ne ↦
          let k = f.most ne in
          let l : left ≡ start - c = f.is ∙ spent_less start c ne in
          let ne' : left ≡ no_end → ⊥ = λ e. ne (omega arith) in
          let a : left - n ≡ start - (n + c) = omega arith in
          record { is = spent_less left n ne' ∙ a ∙ sym (spent_less start (n + c) ne); most = λ _. omega arith }
    ]

counted_none : (start : ℕ) → Counted start 0 start
counted_none start =
    elim (cases_eq start no_end) [
      | inl e ↦ record { is = e ∙ sym (spent_end start 0 e); most = λ ne. absurd (ne e) }
      | inr ne ↦ let a : start ≡ start - 0 = omega arith in record { is = a ∙ sym (spent_less start 0 ne); most = λ _. omega arith }
    ]

-- ---- every run
module _ (m : Meaning) (s : ParameterSet) (floor start : ℕ) (law : Lawful m) (bound : start ≤ no_end) where
  record Base (past : List Event) (x : ParameterSet) (led : Ledger) (left : ℕ) : Type 0 where
    same : x ≡ s
    tells : Represents led.high led.marks floor (signed_in past)
    promised : Promised m s floor start past left

  abbrev Inv : List Event → State → ℕ → Type 0
  Inv past (listening l) left = Base past l.set l.ledger left
  Inv past (holding h) left = Base past h.end.set h.end.ledger left × Once s floor h.number past

  -- the verdict by the marks is the verdict by the history
  by_past : (past : List Event) (l : Listening) (left : ℕ) → Base past l.set l.ledger left → (bytes : List ℕ) (out work : ℕ)
      → verdict_at m left l bytes out work ≡ open_verdict m left s (highest floor (signed_in past)) (standing_of floor (signed_in past)) bytes out work
  by_past past l left b bytes out work =
      let high = l.ledger.high in
      let marks = l.ledger.marks in
      ap (λ x. open_verdict m left x high (by_marks high marks) bytes out work) b.same
      ∙ ap (λ x. open_verdict m left s x (by_marks high marks) bytes out work) b.tells.top
      ∙ ap (λ x. open_verdict m left s (highest floor (signed_in past)) (λ _. x) bytes out work) (by_history high marks floor (signed_in past) b.tells (sections (parsed bytes)).number)

  after_open : (past : List Event) (l : Listening) (rest : ℕ) (o : Opening) (r : Result (Holding × Opened) (Listening × EndFault)) → step.Kept l r
      → Base (opens o ∷ past) l.set l.ledger rest → o.answer ≡ answered r
      → ((a : Opened) → Ok a ≡ answered r → (floor < a.number) × (a.number ≤ last_of s) × (signed floor (signed_in past) a.number ≡ false))
      → Inv (opens o ∷ past) (state_of r) rest
  after_open past l rest o (Ok x) k b ea d =
      let f = d x.1 refl in (
        subst (λ z. Base (opens o ∷ past) z.set z.ledger rest) (sym k.0) b,
        record {
          straight = (x.1, ea, sym k.1);
          above = subst (λ n. floor < n) (sym k.1) f.0;
          within = subst (λ n. n ≤ last_of s) (sym k.1) f.1;
          first = ap (signed floor (signed_in past)) k.1 ∙ f.2;
        },
      )
  after_open past l rest o (Err y) k b ea d = subst (λ z. Base (opens o ∷ past) z.set z.ledger rest) (sym k) b

  holds : (past : List Event) (st : State) (left : ℕ) → Run m s floor start past st left → Inv past st left
  holds _ _ _ (made l f) = record { same = f.set; tells = f.ledger.history; promised = record { each = tt; once = tt; runs = counted_none start } }
  holds _ _ _ (opened past l left rest bytes out work after cleared r go p) =
      let b = holds past (listening l) left go in
      let o : Opening = record { tube = bytes; room = length out; work = length work; answer = answered r; contents = written_in (answered r) after } in
      let v = verdict_at m left l bytes (length out) (length work) in
      let ks = signed_in past in
      let ev = by_past past l left b bytes (length out) (length work) in
      let eo : o.contents ≡ written_in (answer_of v) (out_of v out) = ap (λ x. written_in x after) p.answers ∙ ap (written_in (answer_of v)) p.written in
      let ok = right m s floor left ks law o out v ev p.answers eo in
      let cost : count_in (answered r) ≤ left = subst (λ x. count_in x ≤ left) (sym p.answers) (afford m s floor left ks law o out v ev p.answers eo) in
      let fell : rest ≡ spent left (count_in (answered r)) = p.spends ∙ verdict_left v left ∙ ap (λ x. spent left (count_in x)) (sym p.answers) in
      let runs : Counted start (count_in (answered r) + counted past) rest =
      subst (λ x. Counted start (count_in (answered r) + counted past) x) (sym fell) (counted_step start (counted past) left (count_in (answered r)) bound b.promised.runs cost) in
      after_open past l rest o r p.kept (record {
        same = b.same;
        tells = b.tells;
        promised = record { each = (subst (λ x. Right m s floor x ks o) b.promised.runs.is ok, b.promised.each); once = b.promised.once; runs = runs };
      }) refl (λ a ea. due_answer m s floor left ks law o out v ev p.answers eo a (ea ∙ p.answers))
  holds _ _ _ (run.signed past h l left go p) =
      let b = holds past (holding h) left go in
      let o = b.1 in
      record {
        same = p.set ∙ b.0.same;
        tells = p.entered.history floor (signed_in past) b.0.tells;
        promised = record {
          each = (o, b.0.promised.each);
          once = (o.above, o.within, (or_parts (leb h.number floor) (among h.number (signed_in past)) o.first).1, b.0.promised.once);
          runs = b.0.promised.runs;
        };
      }
  holds _ _ _ (returned past h l left go p) =
      let b = holds past (holding h) left go in
      record {
        same = p.set ∙ b.0.same;
        tells = subst (λ x. Represents x.high x.marks floor (signed_in past)) (sym p.ledger) b.0.tells;
        promised = record { each = (tt, b.0.promised.each); once = b.0.promised.once; runs = b.0.promised.runs };
      }

  base_of : (past : List Event) (st : State) (left : ℕ) → Inv past st left → Promised m s floor start past left
  base_of past (listening l) left b = b.promised
  base_of past (holding h) left b = b.0.promised

pub promise : Promise
promise m s floor start past st left law bound r = base_of m s floor start law bound past st left (holds m s floor start law bound past st left r)

-- the promises after one more call
pub keeps : (m : Meaning) (st : State) (left : ℕ) (e : Event) (st' : State) (left' : ℕ) → Lawful m → GoesOn m st left e st' left' → Keeps m st left e left'
keeps m st left e st' left' law go s floor start past bound r = promise m s floor start (e ∷ past) st' left' law bound (go s floor start past r)
