-- The last checks of an open, and the mode's call.
use Rattle.std.proofs.Common.{ℕ, false, leb, List, IfOk, Some, None, Option, ap, ◌∙◌}
use Rattle.std.proofs.lemmas.Bool.{cond-true, le-leb}
use Rattle.refusal.specs.Cause.{unless}
use Rattle.link.specs.declared.fault.EndFault.{EndFault}
use Rattle.receiver.specs.declared.answer.Opened.{Opened}
use Rattle.receiver.specs.Open.{handed, refused, answer_of}
use Rattle.receiver.specs.Step as step
use Rattle.ledger.specs.declared.ledger.Ledger.{Ledger}
use Rattle.ledger.specs.Calls.{MaySign}
use Rattle.ledger.specs.Marks.{by_marks, is_open}

-- what holds of a tube holds of what is answered for it
pub answered_of : (o : Option EndFault) (a : Opened) (M : List ℕ) (P : Opened → Type 0) → P a → IfOk (answer_of (unless o refused (handed a M))) P
answered_of None a M P h = h
answered_of (Some f) a M P h = tt

-- a number that may be signed may be held
pub may_due : (l : Ledger) (k : ℕ) → MaySign l k → step.Due l k
may_due l k h = cond-true (leb k l.limit) (is_open (by_marks l.high l.marks k)) false (le-leb k l.limit h.0) ∙ ap is_open h.1
