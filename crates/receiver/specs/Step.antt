-- The calls of a receiving end, by its set and its ledger.
use Rattle.std.specs.Prelude.{◌≡◌, ℕ, ◌+◌, ◌^◌, ◌<◌, ◌≤◌, true, List, Ok, Err, Result}
use Rattle.mode.specs.declared.set.ParameterSet.{ParameterSet}
use Rattle.mode.specs.Meaning.{Meaning}
use Rattle.tube.specs.declared.tube.Tube.{Tube}
use Rattle.tube.specs.Read.{Within}
use Rattle.ledger.specs.declared.ledger.Ledger.{Ledger}
use Rattle.ledger.specs.Calls.{MaySign, Fresh as FreshLedger}
use Rattle.ledger.specs.Marks.{by_marks, may_sign}
use Rattle.link.specs.declared.fault.EndFault.{EndFault}
use Rattle.link.specs.declared.fault.EndFault.TheVariants.{Start}
use Rattle.link.specs.Numbers.{last_of}
use Rattle.receiver.specs.declared.answer.Opened.{Opened}
use Rattle.receiver.specs.declared.states.Holding.{Holding}
use Rattle.receiver.specs.declared.states.Listening.{Listening}
use Rattle.receiver.specs.Open.{Verdict, open_verdict}

-- an end that takes the numbers up to the floor as signed, and no other
pub record Fresh (s : ParameterSet) (floor : ℕ) (l : Listening) : Type 0 where
  pub set : l.set ≡ s
  pub ledger : FreshLedger floor (last_of s) l.ledger

-- there is one where the floor is at most the last number; else refusal 5
abbrev pub Made : ParameterSet → ℕ → Result Listening EndFault → Type 0
Made s floor (Ok l) = Fresh s floor l
Made s floor (Err f) = (f ≡ Start floor) × (last_of s < floor)

-- how an open comes out, by the marks of the end's ledger
abbrev pub verdict_at : Meaning → ℕ → Listening → List ℕ → ℕ → ℕ → Verdict
verdict_at m left l bytes out work = open_verdict m left l.set l.ledger.high (by_marks l.ledger.high l.ledger.marks) bytes out work

-- the answer without the end
abbrev pub answered : Result (Holding × Opened) (Listening × EndFault) → Result Opened EndFault
answered (Ok x) = Ok x.1
answered (Err y) = Err y.1

-- the end goes on as it was, and holds the number answered where there is one
abbrev pub Kept : Listening → Result (Holding × Opened) (Listening × EndFault) → Type 0
Kept l (Ok x) = (x.0.end ≡ l) × (x.0.number ≡ x.1.number)
Kept l (Err y) = y.0 ≡ l

-- the label that is answered lies in the tube, and the contents in the output part
abbrev pub Fits : ℕ → ℕ → Result Opened EndFault → Type 0
Fits tube out (Ok a) = (a.label.at + a.label.len ≤ tube) × (a.contents_len ≤ out)
Fits tube out (Err f) = Unit {0}

-- a number that may be held: it may be signed
abbrev pub Due : Ledger → ℕ → Type 0
Due l k = may_sign l.limit l.high l.marks k ≡ true

-- what is known of a tube of so many bytes that passes the checks up to 18
pub record Fitting (s : ParameterSet) (l : Ledger) (size : ℕ) (t : Tube) : Type 0 where
  pub within : Within t size
  pub nonce : t.nonce.len ≡ s.nonce
  pub tag : t.tag.len ≡ s.tag
  pub small : t.number < 2 ^ 64
  pub due : MaySign l t.number
