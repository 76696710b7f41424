-- What an open comes to at each of its checks up to 18.
use Rattle.std.proofs.Common.{◌≡◌, ℕ, not, List, ◌++◌, Some, Ok, Err, Option, Result, sym, refl, ap, ◌∙◌}
use Rattle.refusal.specs.Cause.{Cause, first, unless}
use Rattle.mode.specs.declared.set.ParameterSet.{ParameterSet}
use Rattle.mode.specs.Meaning.{Meaning}
use Rattle.mode.specs.Causes.{work_causes, foreign_causes}
use Rattle.mode.specs.Opening.{given}
use Rattle.mode.proofs.Firsts.{stops, passes, work_passes, none_first}
use Rattle.std.proofs.lemmas.Bool.{eq-eqb}
use Rattle.tube.specs.declared.tube.Tube.{Tube}
use Rattle.tube.specs.Read.{parsed}
use Rattle.ledger.specs.declared.standing.Standing.{Standing}
use Rattle.link.specs.declared.fault.EndFault.{EndFault}
use Rattle.link.specs.Numbers.{last_of}
use Rattle.receiver.specs.Open.{carried, sections, due_causes, last_causes, open_causes, open_verdict, last_verdict, opening, answer_to, Verdict, handed, refused, answer_of, out_of, left_of}
use Rattle.receiver.specs.Trace.{Ours, fault_count}
use Rattle.receiver.proofs.Tables.{carried_none, stopped, passed, free_first, free_left}

-- ---- a verdict that is a refusal without cost
pub record Denied (v : Verdict) (f : EndFault) (out : List ℕ) (left : ℕ) : Type 0 where
  pub answers : Err f ≡ answer_of v
  pub stays : out ≡ out_of v out
  pub rests : left ≡ left_of v left

pub denied : (v : Verdict) (f : EndFault) (out : List ℕ) (left : ℕ) → v ≡ refused f → fault_count f ≡ 0 → Denied v f out left
denied v f out left e z = record { answers = sym (ap answer_of e); stays = sym (ap (λ x. out_of x out) e); rests = free_left f left z ∙ sym (ap (λ x. left_of x left) e) }

-- ---- all of them
module _ (m : Meaning) (left : ℕ) (s : ParameterSet) (high : ℕ) (stands : ℕ → Standing) (bytes : List ℕ) (out work : ℕ) where
  abbrev foreign : List (Cause EndFault)
  foreign = carried (foreign_causes m.code m.width s)

  abbrev rest : List (Cause EndFault)
  rest = due_causes s (last_of s) high stands (parsed bytes) ++ last_causes m left s bytes out (sections (parsed bytes))

  abbrev good : Verdict
  good = handed (answer_to (sections (parsed bytes)) (m.open_runs (sections (parsed bytes)).label.len (sections (parsed bytes)).contents.len)) (given (opening m s bytes (sections (parsed bytes))))

  by : (o : Option EndFault) → first (open_causes m left s high stands bytes out work) ≡ o → open_verdict m left s high stands bytes out work ≡ unless o refused good
  by o e = ap (λ p. unless p refused good) e

  module _ (w : work ≡ 64) where
    after_work : first (open_causes m left s high stands bytes out work) ≡ first (foreign ++ rest)
    after_work = passes (carried (work_causes work)) (foreign ++ rest) (carried_none (work_causes work) (work_passes work w))

    module _ (k : Ours m s) where
      after_foreign : first (open_causes m left s high stands bytes out work) ≡ first rest
      after_foreign = after_work ∙ passes foreign rest (none_first foreign (ap not (eq-eqb s.code m.code k.0), (ap not (eq-eqb s.width m.width k.1), tt)))

      -- what checks 14 to 18 answered, by a last number that is the set's
      module _ (last : ℕ) (l : last ≡ last_of s) where
        due_here : (r : Result Tube EndFault) → r ≡ unless (first (due_causes s last high stands (parsed bytes))) Err (Ok (sections (parsed bytes)))
            → r ≡ unless (first (due_causes s (last_of s) high stands (parsed bytes))) Err (Ok (sections (parsed bytes)))
        due_here r e = e ∙ ap (λ x. unless {V = Result Tube EndFault} (first (due_causes s x high stands (parsed bytes))) Err (Ok (sections (parsed bytes)))) l

        -- refused by 14 to 18
        pub open_undue : (f : EndFault) → Err f ≡ unless (first (due_causes s last high stands (parsed bytes))) Err (Ok (sections (parsed bytes)))
            → (open_verdict m left s high stands bytes out work ≡ refused f) × (fault_count f ≡ 0)
        open_undue f e =
            let d = due_causes s (last_of s) high stands (parsed bytes) in
            let c : first d ≡ Some f = stopped (first d) (sections (parsed bytes)) f (due_here (Err f) e) in
            (by (Some f) (after_foreign ∙ stops d (last_causes m left s bytes out (sections (parsed bytes))) f c), free_first d f (refl, (refl, (refl, (refl, (refl, (refl, (refl, (refl, (refl, tt))))))))) c)

        -- the last checks decide
        pub open_due : (t : Tube) → Ok t ≡ unless (first (due_causes s last high stands (parsed bytes))) Err (Ok (sections (parsed bytes)))
            → last_verdict m left s bytes out t ≡ open_verdict m left s high stands bytes out work
        open_due t e =
            let d = due_causes s (last_of s) high stands (parsed bytes) in
            let c = passed (first d) (sections (parsed bytes)) t (due_here (Ok t) e) in
            ap (last_verdict m left s bytes out) c.1 ∙ sym (by (first (last_causes m left s bytes out (sections (parsed bytes)))) (after_foreign ∙ passes d (last_causes m left s bytes out (sections (parsed bytes))) c.0))
