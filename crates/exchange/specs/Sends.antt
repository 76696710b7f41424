-- The sends of an exchange: orders of so many bytes lent, a wire and a work memory of so many, taken in turn.
use Rattle.std.specs.Prelude.{◌≡◌, ℕ, ◌+◌, ◌-◌, Bool, cond, ◌&&◌, List, [], ◌∷◌, ◌++◌, length, take, drop, Ok, Err, fold, Result, nat_le}
use Rattle.cipher.specs.Left.{spent}
use Rattle.mode.specs.declared.set.ParameterSet.{ParameterSet}
use Rattle.mode.specs.Meaning.{Meaning}
use Rattle.mode.specs.Work.{work_after}
use Rattle.tube.specs.Part.{part}
use Rattle.link.specs.declared.fault.EndFault.{EndFault}
use Rattle.sender.specs.declared.sent.Sent.{Sent}
use Rattle.sender.specs.Send.{SendVerdict, sent, unsent, send_verdict, send_answer}
use Rattle.exchange.specs.declared.records.SendLine.{SendLine}
use Rattle.exchange.specs.declared.records.SendOrder.{SendOrder}
use Rattle.exchange.specs.declared.records.SendOutcome.{SendOutcome}
use Rattle.exchange.specs.declared.records.SendOutcome.TheVariants as outcome

abbrev pub label_of : List ℕ → SendOrder → List ℕ
label_of bytes o = part bytes o.label

abbrev pub contents_of : List ℕ → SendOrder → List ℕ
contents_of bytes o = part bytes o.contents

-- an order lies in the parts lent: so many bytes, so many of the wire left, so much work memory
abbrev pub lies : ℕ → ℕ → ℕ → SendOrder → Bool
lies bytes room work o =
    nat_le (o.label.at + o.label.len) bytes && (nat_le (o.contents.at + o.contents.len) bytes && (nat_le o.room room && nat_le o.work work))

-- how its send comes out under the next number k
abbrev pub verdict_to : Meaning → ℕ → ParameterSet → ℕ → List ℕ → SendOrder → SendVerdict
verdict_to m left s k bytes o = send_verdict m left s k (label_of bytes o) (contents_of bytes o) o.room o.work

-- an accepted send: its number, what it was given, its tube, and how many cipher runs it took
pub record SentTube : Type 0 where
  pub number : ℕ
  pub label : List ℕ
  pub contents : List ℕ
  pub tube : List ℕ
  pub count : ℕ

-- the sends so far: the next number, what is left, the tubes sent, and the lines of the record
pub record Sends : Type 0 where
  pub next : ℕ
  pub left : ℕ
  pub tubes : List SentTube
  pub lines : List SendLine

-- the bytes of the tubes, one after another
abbrev pub bytes_of : List SentTube → List ℕ
bytes_of [] = []
bytes_of (x ∷ xs) = x.tube ++ bytes_of xs

-- one send more: an accepted one takes the next number, a refused one none
abbrev pub added : Sends → SendOrder → List ℕ → List ℕ → SendVerdict → Sends
added p o A M (sent x tube) = record {
  next = p.next + 1;
  left = spent p.left x.count;
  tubes = p.tubes ++ (record { number = p.next; label = A; contents = M; tube = tube; count = x.count } ∷ []);
  lines = p.lines ++ (record { order = o; outcome = outcome.Sent x } ∷ []);
}
added p o A M (unsent f) = record { next = p.next; left = p.left; tubes = p.tubes; lines = p.lines ++ (record { order = o; outcome = outcome.Refused f } ∷ []) }

-- one that does not lie in the parts lent
abbrev pub passed_over : Sends → SendOrder → Sends
passed_over p o = record { next = p.next; left = p.left; tubes = p.tubes; lines = p.lines ++ (record { order = o; outcome = outcome.Passed } ∷ []) }

-- one order more: its output part begins where the last tube ended
abbrev pub ordered : Meaning → ParameterSet → List ℕ → ℕ → ℕ → Sends → SendOrder → Sends
ordered m s bytes wire work p o =
    cond (lies (length bytes) (wire - length (bytes_of p.tubes)) work o)
    (added p o (label_of bytes o) (contents_of bytes o) (verdict_to m p.left s p.next bytes o))
    (passed_over p o)

-- all orders in turn, from a number on
abbrev pub send_all : Meaning → ParameterSet → List ℕ → ℕ → ℕ → ℕ → ℕ → List SendOrder → Sends
send_all m s bytes wire work start left orders =
    fold (λ p o. ordered m s bytes wire work p o) (record { next = start; left = left; tubes = []; lines = [] }) orders

-- ---- laws, in the subject's words

-- the numbers follow one another from k on
abbrev pub Numbered : ℕ → List SentTube → Type 0
Numbered k [] = Unit {0}
Numbered k (x ∷ xs) = (x.number ≡ k) × Numbered (k + 1) xs

-- it holds of each
abbrev pub Each : (SentTube → Type 0) → List SentTube → Type 0
Each P [] = Unit {0}
Each P (x ∷ xs) = P x × Each P xs

-- how many cipher runs they took together
abbrev pub runs_of : List SentTube → ℕ
runs_of [] = 0
runs_of (x ∷ xs) = x.count + runs_of xs

-- ---- the work memory

-- after a call that was lent its first n bytes
abbrev pub lent_work : ℕ → List ℕ → List ℕ
lent_work n work = work_after (take n work) ++ drop n work

-- after an order, which is no call if it was passed over
abbrev pub work_by : SendOutcome → ℕ → List ℕ → List ℕ
work_by (outcome.Sent x) n work = lent_work n work
work_by (outcome.Refused f) n work = lent_work n work
work_by outcome.Passed n work = work

abbrev pub send_work : List ℕ → SendLine → List ℕ
send_work work x = work_by x.outcome x.order.work work

-- after all lines of a record
abbrev pub work_after_sends : List SendLine → List ℕ → List ℕ
work_after_sends lines work = fold (λ w x. send_work w x) work lines

-- ---- what came of one send

abbrev pub said_of : Result Sent EndFault → SendOutcome
said_of (Ok x) = outcome.Sent x
said_of (Err f) = outcome.Refused f

abbrev pub outcome_of : SendVerdict → SendOutcome
outcome_of v = said_of (send_answer v)

abbrev pub tube_in : SendVerdict → List ℕ
tube_in (sent x tube) = tube
tube_in (unsent f) = []

abbrev pub len_of : SendOutcome → ℕ
len_of (outcome.Sent x) = x.len
len_of (outcome.Refused f) = 0
len_of outcome.Passed = 0
