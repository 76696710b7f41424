-- The lists of calls of a receiving end, and the promises over all of them.
use Rattle.std.specs.Prelude.{◌≡◌, ℕ, ◌≤◌, List, [], ◌∷◌, length, Ok, Err, Result}
use Rattle.cipher.specs.Left.{no_end}
use Rattle.mode.specs.declared.set.ParameterSet.{ParameterSet}
use Rattle.mode.specs.Meaning.{Meaning, Lawful}
use Rattle.mode.specs.Work.{work_after}
use Rattle.ledger.specs.Calls.{Entered}
use Rattle.link.specs.declared.fault.EndFault.{EndFault}
use Rattle.receiver.specs.declared.answer.Opened.{Opened}
use Rattle.receiver.specs.declared.states.Holding.{Holding}
use Rattle.receiver.specs.declared.states.Listening.{Listening}
use Rattle.receiver.specs.Open.{answer_of, out_of, left_of}
use Rattle.receiver.specs.Step.{verdict_at, answered, Kept, Fresh}
use Rattle.receiver.specs.Trace.{Event, opens, signs, returns, written_in, Promised}

-- what one open did: its answer, the output part, what is left, the work memory, and the end
pub record Opens (m : Meaning) (left : ℕ) (l : Listening) (bytes out work : List ℕ) (r : Result (Holding × Opened) (Listening × EndFault)) (after cleared : List ℕ) (rest : ℕ) : Type 0 where
  pub answers : answered r ≡ answer_of (verdict_at m left l bytes (length out) (length work))
  pub written : after ≡ out_of (verdict_at m left l bytes (length out) (length work)) out
  pub spends : rest ≡ left_of (verdict_at m left l bytes (length out) (length work)) left
  pub wiped : cleared ≡ work_after work
  pub kept : Kept l r

-- what one signature did: the number held is entered
pub record Signs (h : Holding) (l : Listening) : Type 0 where
  pub set : l.set ≡ h.end.set
  pub entered : Entered h.end.ledger h.number l.ledger

-- what giving back did: the end listens as before
pub record Returns (h : Holding) (l : Listening) : Type 0 where
  pub set : l.set ≡ h.end.set
  pub ledger : l.ledger ≡ h.end.ledger

-- the event that an open is
abbrev pub event_of : List ℕ → List ℕ → List ℕ → Result Opened EndFault → List ℕ → Event
event_of bytes out work answer after = opens record { tube = bytes; room = length out; work = length work; answer = answer; contents = written_in answer after }

-- an end in either state
pub data State : Type 0 where
  listening : Listening → State
  holding : Holding → State

abbrev pub state_of : Result (Holding × Opened) (Listening × EndFault) → State
state_of (Ok x) = holding x.0
state_of (Err y) = listening y.0

-- The runs of an end over a mode that had `start` left: how the end was made, and each call since, with the events, the state and what is
-- left after it.
pub data Run (m : Meaning) (s : ParameterSet) (floor start : ℕ) : List Event → State → ℕ → Type 0 where
  made : (l : Listening) → Fresh s floor l → Run m s floor start [] (listening l) start
  opened : (past : List Event) (l : Listening) (left rest : ℕ) (bytes out work after cleared : List ℕ) (r : Result (Holding × Opened) (Listening × EndFault))
      → Run m s floor start past (listening l) left → Opens m left l bytes out work r after cleared rest
      → Run m s floor start (event_of bytes out work (answered r) after ∷ past) (state_of r) rest
  signed : (past : List Event) (h : Holding) (l : Listening) (left : ℕ) → Run m s floor start past (holding h) left → Signs h l
      → Run m s floor start (signs h.number ∷ past) (listening l) left
  returned : (past : List Event) (h : Holding) (l : Listening) (left : ℕ) → Run m s floor start past (holding h) left → Returns h l
      → Run m s floor start (returns ∷ past) (listening l) left

-- every run of every end over every mode keeps the promises
abbrev pub Promise : Type 0
Promise = (m : Meaning) (s : ParameterSet) (floor start : ℕ) (past : List Event) (st : State) (left : ℕ) → Lawful m → start ≤ no_end
    → Run m s floor start past st left → Promised m s floor start past left

-- one more call goes on with every run that led to the end
abbrev pub GoesOn : Meaning → State → ℕ → Event → State → ℕ → Type 0
GoesOn m st left e st' left' = (s : ParameterSet) (floor start : ℕ) (past : List Event) → Run m s floor start past st left → Run m s floor start (e ∷ past) st' left'

-- and keeps the promises, of the calls before it and of itself
abbrev pub Keeps : Meaning → State → ℕ → Event → ℕ → Type 0
Keeps m st left e left' = (s : ParameterSet) (floor start : ℕ) (past : List Event) → start ≤ no_end → Run m s floor start past st left → Promised m s floor start (e ∷ past) left'
