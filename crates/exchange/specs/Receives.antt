-- The calls of a receiving end in an exchange, and the record of what came of them.
use Rattle.std.specs.Prelude.{◌≡◌, ℕ, ◌+◌, ◌-◌, Bool, true, false, not, ◌&&◌, List, [], ◌∷◌, ◌++◌, take, drop, Ok, Err, fold, Result, nat_le}
use Rattle.tube.specs.Part.{part}
use Rattle.link.specs.declared.fault.EndFault.{EndFault}
use Rattle.receiver.specs.declared.answer.Opened.{Opened}
use Rattle.receiver.specs.Trace.{Event, opens, signs, returns}
use Rattle.exchange.specs.declared.records.ReceiveCall.{ReceiveCall}
use Rattle.exchange.specs.declared.records.ReceiveCall.TheVariants as call
use Rattle.exchange.specs.declared.records.ReceiveLine.{ReceiveLine}
use Rattle.exchange.specs.declared.records.ReceiveOutcome.{ReceiveOutcome}
use Rattle.exchange.specs.declared.records.ReceiveOutcome.TheVariants as outcome
use Rattle.exchange.specs.Sends.{lent_work}

-- so many bytes from a place on
abbrev pub bytes_at : List ℕ → ℕ → ℕ → List ℕ
bytes_at bytes at len = take len (drop at bytes)

-- ---- the record answers the calls asked

-- how many bytes a line handed over
abbrev pub size_of : ReceiveOutcome → ℕ
size_of (outcome.Handed a at) = a.contents_len
size_of (outcome.Refused f) = 0
size_of (outcome.Signed k) = 0
size_of outcome.GivenBack = 0
size_of outcome.Passed = 0

-- whether the end holds a number after a line
abbrev pub held_after : Bool → ReceiveOutcome → Bool
held_after held (outcome.Handed a at) = true
held_after held (outcome.Refused f) = false
held_after held (outcome.Signed k) = false
held_after held outcome.GivenBack = false
held_after held outcome.Passed = held

-- the state admits a call, and it lies in the parts lent: a wire of so many bytes, so many of the output part left, so much work memory
abbrev pub admits : ℕ → ℕ → ℕ → Bool → ReceiveCall → Bool
admits wire room work held (call.Open o) = not held && (nat_le (o.tube.at + o.tube.len) wire && (nat_le o.room room && nat_le o.work work))
admits wire room work held call.Sign = held
admits wire room work held call.GiveBack = held

abbrev pub IsOpen : ReceiveCall → Type 0
IsOpen (call.Open o) = Unit {0}
IsOpen call.Sign = ⊥
IsOpen call.GiveBack = ⊥

-- an outcome is the call's own, contents stand at the next place, and a call is passed over exactly where it is not admitted
abbrev pub Fits : ℕ → ℕ → ℕ → Bool → ℕ → ReceiveCall → ReceiveOutcome → Type 0
Fits wire room work held place c (outcome.Handed a at) = (admits wire room work held c ≡ true) × IsOpen c × (at ≡ place)
Fits wire room work held place c (outcome.Refused f) = (admits wire room work held c ≡ true) × IsOpen c
Fits wire room work held place c (outcome.Signed k) = (admits wire room work held c ≡ true) × (c ≡ call.Sign)
Fits wire room work held place c outcome.GivenBack = (admits wire room work held c ≡ true) × (c ≡ call.GiveBack)
Fits wire room work held place c outcome.Passed = admits wire room work held c ≡ false

-- and so line after line
abbrev pub Lined : ℕ → ℕ → ℕ → Bool → ℕ → List ReceiveLine → Type 0
Lined wire out work held place [] = Unit {0}
Lined wire out work held place (x ∷ xs) =
    Fits wire (out - place) work held place x.call x.outcome × Lined wire out work (held_after held x.outcome) (place + size_of x.outcome) xs

abbrev pub call_in : ReceiveLine → ReceiveCall
call_in x = x.call

-- ---- the events of a record

-- the event that an open is, of what was asked
abbrev pub asked : List ℕ → List Event → ReceiveCall → Result Opened EndFault → List ℕ → List Event
asked wire past (call.Open o) answer contents =
    opens record { tube = part wire o.tube; room = o.room; work = o.work; answer = answer; contents = contents } ∷ past
asked wire past call.Sign answer contents = past
asked wire past call.GiveBack answer contents = past

-- the events after one more line: the contents stand in the output part at the place that the line names
abbrev pub entered : List ℕ → List ℕ → List Event → ReceiveCall → ReceiveOutcome → List Event
entered wire out past c (outcome.Handed a at) = asked wire past c (Ok a) (bytes_at out at a.contents_len)
entered wire out past c (outcome.Refused f) = asked wire past c (Err f) []
entered wire out past c (outcome.Signed k) = signs k ∷ past
entered wire out past c outcome.GivenBack = returns ∷ past
entered wire out past c outcome.Passed = past

-- the events of a record, the latest first, after those before it
abbrev pub trace_after : List ℕ → List ℕ → List Event → List ReceiveLine → List Event
trace_after wire out past lines = fold (λ past (x : ReceiveLine). entered wire out past x.call x.outcome) past lines

abbrev pub trace : List ℕ → List ℕ → List ReceiveLine → List Event
trace wire out lines = trace_after wire out [] lines

-- the contents that opens handed over, one after another
abbrev pub handed_over : List Event → List ℕ
handed_over [] = []
handed_over (opens o ∷ past) = handed_over past ++ o.contents
handed_over (signs k ∷ past) = handed_over past
handed_over (returns ∷ past) = handed_over past

-- ---- the work memory

abbrev pub work_of_call : ReceiveCall → List ℕ → List ℕ
work_of_call (call.Open o) work = lent_work o.work work
work_of_call call.Sign work = work
work_of_call call.GiveBack work = work

-- after one line: an open that was made leaves its part as a call does
abbrev pub work_of_line : ReceiveCall → ReceiveOutcome → List ℕ → List ℕ
work_of_line c (outcome.Handed a at) work = work_of_call c work
work_of_line c (outcome.Refused f) work = work_of_call c work
work_of_line c (outcome.Signed k) work = work
work_of_line c outcome.GivenBack work = work
work_of_line c outcome.Passed work = work

-- after all lines of a record
abbrev pub work_after_receives : List ReceiveLine → List ℕ → List ℕ
work_after_receives lines work = fold (λ w (x : ReceiveLine). work_of_line x.call x.outcome w) work lines
