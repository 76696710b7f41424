-- An exchange: a sending end makes every send asked for, then a receiving end answers every call asked for.
use Rattle.std.specs.Prelude.{◌≡◌, ℕ, false, not, List, [], ◌∷◌, ◌++◌, map, length, take, drop, Ok, nat_le}
use Rattle.refusal.specs.Cause.{Cause}
use Rattle.cipher.specs.Left.{spent}
use Rattle.mode.specs.declared.set.ParameterSet.{ParameterSet}
use Rattle.mode.specs.Meaning.{Meaning}
use Rattle.tube.specs.declared.tube.Tube.{Tube}
use Rattle.tube.specs.Form.{Iff}
use Rattle.tube.specs.Part.{part}
use Rattle.tube.specs.Read.{parsed}
use Rattle.link.specs.declared.fault.EndFault.{EndFault}
use Rattle.link.specs.declared.fault.EndFault.TheVariants.{Start}
use Rattle.link.specs.Numbers.{last_of}
use Rattle.sender.specs.Carry.{Carries}
use Rattle.sender.specs.New as sender
use Rattle.receiver.specs.Trace.{Event, opens, signs, returns, Opening, counted, signed_in, Ours, IsDue, Suffice, SealedAs, Hands, Counted, Promised}
use Rattle.exchange.specs.declared.records.ReceiveCall.{ReceiveCall}
use Rattle.exchange.specs.declared.records.ReceiveLine.{ReceiveLine}
use Rattle.exchange.specs.declared.records.SendLine.{SendLine}
use Rattle.exchange.specs.declared.records.SendOrder.{SendOrder}
use Rattle.exchange.specs.Sends.{Sends, SentTube, send_all, bytes_of, Numbered, Each, runs_of, work_after_sends}
use Rattle.exchange.specs.Receives.{Lined, call_in, trace, handed_over, work_after_receives}

-- what is asked: the set, the first number to send, the floor of the numbers to receive, the bytes where labels and contents stand, the
-- sends and the calls
pub record Asked : Type 0 where
  pub set : ParameterSet
  pub start : ℕ
  pub floor : ℕ
  pub bytes : List ℕ
  pub orders : List SendOrder
  pub calls : List ReceiveCall

abbrev pub asking : ParameterSet → ℕ → ℕ → List ℕ → List SendOrder → List ReceiveCall → Asked
asking s start floor bytes orders calls = record { set = s; start = start; floor = floor; bytes = bytes; orders = orders; calls = calls }

-- what may change: wire, output part, work memory, both records, and what is left to the sender's and the receiver's mode
pub record Lent : Type 0 where
  pub wire : List ℕ
  pub out : List ℕ
  pub work : List ℕ
  pub sent : List SendLine
  pub lines : List ReceiveLine
  pub sender : ℕ
  pub receiver : ℕ

abbrev pub lent : List ℕ → List ℕ → List ℕ → List SendLine → List ReceiveLine → ℕ → ℕ → Lent
lent wire out work sent lines sender receiver =
    record { wire = wire; out = out; work = work; sent = sent; lines = lines; sender = sender; receiver = receiver }

-- 5: the floor is above the last number
abbrev pub floor_causes : ParameterSet → ℕ → List (Cause EndFault)
floor_causes s floor = record { applies = not (nat_le floor (last_of s)); names = Start floor } ∷ []

-- the causes against making both ends: the sender's, then the receiver's
abbrev pub start_causes : ParameterSet → ℕ → ℕ → List (Cause EndFault)
start_causes s start floor = sender.start_causes s start ++ floor_causes s floor

-- ---- the sends

-- the sends, as many as there are lines for
abbrev pub sends_of : Meaning → Asked → Lent → Sends
sends_of m a before =
    send_all m a.set a.bytes (length before.wire) (length before.work) a.start before.sender (take (length before.sent) a.orders)

-- The lines of the record are those of the sends, and the lines beyond as they were. The tubes stand one after another in the wire, and its
-- rest is as it was. The k-th tube has the number start + k, and carries its label and contents under this number by the sender's sealing.
-- What is left is the start less the counts of the sends.
pub record SendsDone (m : Meaning) (a : Asked) (before after : Lent) : Type 0 where
  pub recorded : after.sent ≡ (sends_of m a before).lines ++ drop (length a.orders) before.sent
  pub wired : after.wire ≡ bytes_of (sends_of m a before).tubes ++ drop (length (bytes_of (sends_of m a before).tubes)) before.wire
  pub numbered : Numbered a.start (sends_of m a before).tubes
  pub carried : Each (λ x. Carries m a.set x.number x.label x.contents x.tube) (sends_of m a before).tubes
  pub runs : Counted before.sender (runs_of (sends_of m a before).tubes) after.sender

-- ---- the calls

-- the lines of the record, and the events that they tell
abbrev pub lines_of : Asked → Lent → List ReceiveLine
lines_of a after = take (length a.calls) after.lines

abbrev pub events_of : Asked → Lent → List Event
events_of a after = trace after.wire after.out (lines_of a after)

-- The record answers the calls asked, in order and as many as there are lines for, each by an outcome of its own; the lines beyond are as
-- they were. The promises hold of its events: every open was exact, every signature the first of its number, no number signed twice, every
-- run counted. The output part is the contents handed over, one after another, and its rest as it was.
pub record ReceivesDone (m : Meaning) (a : Asked) (before after : Lent) : Type 0 where
  pub asked : map call_in (lines_of a after) ≡ take (length before.lines) a.calls
  pub lined : Lined (length after.wire) (length before.out) (length before.work) false 0 (lines_of a after)
  pub beyond : drop (length a.calls) after.lines ≡ drop (length a.calls) before.lines
  pub promised : Promised m a.set a.floor before.receiver (events_of a after) after.receiver
  pub written : after.out ≡ handed_over (events_of a after) ++ drop (length (handed_over (events_of a after))) before.out

-- ---- both together

-- both sealing functions agree at the set, which is the receiver's
abbrev pub Agree : Meaning → Meaning → ParameterSet → Type 0
Agree a b s = Ours b s × ((N A M : List ℕ) → a.sealing s N A M ≡ b.sealing s N A M)

-- An open of a tube that was sent: it has the form and the number it was sent with, its label is the label sent, it is sealed of the contents
-- sent; and the open hands M over if and only if M is those contents, the tube is due, and buffers and what is left suffice.
pub record OpensAs (m : Meaning) (s : ParameterSet) (floor left : ℕ) (ks : List ℕ) (x : SentTube) (o : Opening) : Type 0 where
  pub tube : Tube
  pub form : parsed o.tube ≡ Ok tube
  pub number : tube.number ≡ x.number
  pub label : part o.tube tube.label ≡ x.label
  pub seals : SealedAs m s o.tube tube x.contents
  pub hands : (M : List ℕ) → Iff (Hands m o M) ((M ≡ x.contents) × IsDue s floor ks tube × Suffice m left o.room o.work tube)

-- every open of its tube among the events
abbrev pub Delivers : Meaning → ParameterSet → ℕ → ℕ → SentTube → List Event → Type 0
Delivers m s floor start x [] = Unit {0}
Delivers m s floor start x (opens o ∷ past) = (o.tube ≡ x.tube → OpensAs m s floor (spent start (counted past)) (signed_in past) x o) × Delivers m s floor start x past
Delivers m s floor start x (signs k ∷ past) = Delivers m s floor start x past
Delivers m s floor start x (returns ∷ past) = Delivers m s floor start x past

-- The whole of an exchange. Every call leaves the work memory that it was lent as zeros, but for refusal 6. Where both sealing functions
-- agree, every tube sent is delivered.
pub record Exchanged (sm rm : Meaning) (a : Asked) (before after : Lent) : Type 0 where
  pub sends : SendsDone sm a before after
  pub receives : ReceivesDone rm a before after
  pub worked : after.work ≡ work_after_receives (lines_of a after) (work_after_sends (sends_of sm a before).lines before.work)
  pub joined : Agree sm rm a.set → Each (λ x. Delivers rm a.set a.floor before.receiver x (events_of a after)) (sends_of sm a before).tubes
