-- For the proof alone: ends and their runs, which the contract of no public call names.
use Rattle.std.specs.Prelude.{◌≡◌, ℕ, ◌+◌, Bool, true, false, List, [], ◌∷◌, Ok, Err, fold, Result}
use Rattle.mode.specs.declared.set.ParameterSet.{ParameterSet}
use Rattle.mode.specs.Meaning.{Meaning}
use Rattle.link.specs.declared.fault.EndFault.{EndFault}
use Rattle.receiver.specs.declared.answer.Opened.{Opened}
use Rattle.receiver.specs.declared.end.End.{End}
use Rattle.receiver.specs.declared.end.End.TheVariants as the_end
use Rattle.receiver.specs.Run.{Run, State, listening, holding}
use Rattle.receiver.specs.Trace.{Event, opens}
use Rattle.exchange.specs.declared.records.ReceiveCall.{ReceiveCall}
use Rattle.exchange.specs.declared.records.ReceiveLine.{ReceiveLine}
use Rattle.exchange.specs.declared.records.ReceiveOutcome.{ReceiveOutcome}
use Rattle.exchange.specs.declared.records.ReceiveOutcome.TheVariants as outcome
use Rattle.exchange.specs.Receives.{bytes_at, entered, trace_after, size_of, held_after}

abbrev pub state_in : End → State
state_in (the_end.Listens l) = listening l
state_in (the_end.Holds h) = holding h

abbrev pub holds : End → Bool
holds (the_end.Listens l) = false
holds (the_end.Holds h) = true

-- the place after a record's contents, and whether a number is held
abbrev pub reach : ℕ → List ReceiveLine → ℕ
reach place lines = fold (λ n (x : ReceiveLine). n + size_of x.outcome) place lines

abbrev pub held_by : Bool → List ReceiveLine → Bool
held_by held lines = fold (λ h (x : ReceiveLine). held_after h x.outcome) held lines

-- one more line, and a record, go on with every run that led to the end
abbrev pub Leads : Meaning → List ℕ → List ℕ → ReceiveCall → State → ℕ → ReceiveOutcome → State → ℕ → Type 0
Leads m wire out c st left o st' left' = (s : ParameterSet) (floor start : ℕ) (past : List Event)
    → Run m s floor start past st left → Run m s floor start (entered wire out past c o) st' left'

abbrev pub LeadsAll : Meaning → List ℕ → List ℕ → State → ℕ → List ReceiveLine → State → ℕ → Type 0
LeadsAll m wire out st left lines st' left' = (s : ParameterSet) (floor start : ℕ) (past : List Event)
    → Run m s floor start past st left → Run m s floor start (trace_after wire out past lines) st' left'

-- an open does
abbrev pub OpenTo : Meaning → List ℕ → ℕ → ℕ → State → ℕ → Result Opened EndFault → List ℕ → State → ℕ → Type 0
OpenTo m tube room work st left answer contents st' left' = (s : ParameterSet) (floor start : ℕ) (past : List Event)
    → Run m s floor start past st left → Run m s floor start (opens record { tube = tube; room = room; work = work; answer = answer; contents = contents } ∷ past) st' left'

abbrev pub Tried : Meaning → List ℕ → ℕ → ℕ → List ℕ → State → ℕ → ReceiveOutcome → State → ℕ → Type 0
Tried m tube room work out st left (outcome.Handed a at) st' left' = OpenTo m tube room work st left (Ok a) (bytes_at out at a.contents_len) st' left'
Tried m tube room work out st left (outcome.Refused f) st' left' = OpenTo m tube room work st left (Err f) [] st' left'
Tried m tube room work out st left (outcome.Signed k) st' left' = ⊥
Tried m tube room work out st left outcome.GivenBack st' left' = ⊥
Tried m tube room work out st left outcome.Passed st' left' = ⊥

abbrev pub Placed : ℕ → ReceiveOutcome → Type 0
Placed used (outcome.Handed a at) = at ≡ used
Placed used (outcome.Refused f) = Unit {0}
Placed used (outcome.Signed k) = ⊥
Placed used outcome.GivenBack = ⊥
Placed used outcome.Passed = ⊥
