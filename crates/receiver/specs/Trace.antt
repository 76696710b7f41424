-- What a receiving end promises of every list of its calls, by its history alone: the floor that it was made with, the events since, and
-- the allowance that its mode had at the start. The events stand latest first.
use Rattle.std.specs.Prelude.{◌≡◌, ℕ, ◌+◌, ◌<◌, ◌≤◌, false, List, [], ◌∷◌, take, Some, Ok, Err, Result, ◌≢◌}
use Rattle.refusal.specs.Cause.{Cause, first}
use Rattle.cipher.specs.Left.{no_end, spent}
use Rattle.mode.specs.declared.fault.ModeFault.{ModeFault}
use Rattle.mode.specs.declared.fault.ModeFault.TheVariants as mode
use Rattle.mode.specs.declared.set.ParameterSet.{ParameterSet}
use Rattle.mode.specs.Meaning.{Meaning}
use Rattle.tube.specs.declared.tube.Tube.{Tube}
use Rattle.tube.specs.Form.{Iff}
use Rattle.tube.specs.Part.{part}
use Rattle.tube.specs.Read.{parsed}
use Rattle.ledger.specs.History.{highest, among, signed, standing_of}
use Rattle.link.specs.declared.fault.EndFault.{EndFault}
use Rattle.link.specs.declared.fault.EndFault.TheVariants as fault
use Rattle.link.specs.Numbers.{last_of}
use Rattle.receiver.specs.declared.answer.Opened.{Opened}
use Rattle.receiver.specs.Open.{answer_to, open_causes}

-- ---- Events

-- an open: the tube, the lengths of output part and work memory, the answer, and the contents that it wrote
pub record Opening : Type 0 where
  pub tube : List ℕ
  pub room : ℕ
  pub work : ℕ
  pub answer : Result Opened EndFault
  pub contents : List ℕ

-- the contents that an open wrote, of its answer and its output part afterwards
abbrev pub written_in : Result Opened EndFault → List ℕ → List ℕ
written_in (Ok a) after = take a.contents_len after
written_in (Err f) after = []

-- what can be done with a receiving end: open a tube, sign the number held, give it back
pub data Event : Type 0 where
  opens : Opening → Event
  signs : ℕ → Event
  returns : Event

-- the numbers signed, the latest first
abbrev pub signed_in : List Event → List ℕ
signed_in [] = []
signed_in (opens o ∷ past) = signed_in past
signed_in (signs k ∷ past) = k ∷ signed_in past
signed_in (returns ∷ past) = signed_in past

-- how many runs a refusal has cost: none, but where the tag was wrong
abbrev pub mode_count : ModeFault → ℕ
mode_count (mode.Cipher f) = 0
mode_count (mode.Set field) = 0
mode_count (mode.Work length) = 0
mode_count (mode.Foreign code width) = 0
mode_count (mode.Nonce length) = 0
mode_count (mode.Long label contents) = 0
mode_count (mode.Part wanted) = 0
mode_count (mode.Short count left) = 0
mode_count (mode.Tag count) = count

abbrev pub fault_count : EndFault → ℕ
fault_count (fault.Mode f) = mode_count f
fault_count (fault.Tube f) = 0
fault_count (fault.Start k) = 0
fault_count (fault.Last k) = 0
fault_count (fault.Differs section) = 0
fault_count fault.Range = 0
fault_count (fault.Old k h) = 0
fault_count (fault.Signed k) = 0

-- the count of runs in an answer
abbrev pub count_in : Result Opened EndFault → ℕ
count_in (Ok a) = a.count
count_in (Err f) = fault_count f

-- the sum of the counts
abbrev pub counted : List Event → ℕ
counted [] = 0
counted (opens o ∷ past) = count_in o.answer + counted past
counted (signs k ∷ past) = counted past
counted (returns ∷ past) = counted past

-- ---- Exact opening

-- the mode is of the end's set
abbrev pub Ours : Meaning → ParameterSet → Type 0
Ours m s = (s.code ≡ m.code) × (s.width ≡ m.width)

-- the tube is due: it is of the end's set, and its number from 1 to the last, not old and not signed, by the floor and the numbers ks signed
pub record IsDue (s : ParameterSet) (floor : ℕ) (ks : List ℕ) (t : Tube) : Type 0 where
  pub code : t.code ≡ s.code
  pub param : t.param ≡ s.param
  pub nonce : t.nonce.len ≡ s.nonce
  pub tag : t.tag.len ≡ s.tag
  pub least : 1 ≤ t.number
  pub most : t.number ≤ last_of s
  pub recent : highest floor ks < t.number + 64
  pub unsigned : signed floor ks t.number ≡ false

-- work memory, output part and what is left suffice
pub record Suffice (m : Meaning) (left out work : ℕ) (t : Tube) : Type 0 where
  pub memory : work ≡ 64
  pub room : t.contents.len ≤ out
  pub runs : m.open_runs t.label.len t.contents.len ≤ left

-- sealing contents M under the tube's nonce and label gives its ciphertext and tag
abbrev pub SealedAs : Meaning → ParameterSet → List ℕ → Tube → List ℕ → Type 0
SealedAs m s bytes t M =
    m.sealing s (part bytes t.nonce) (part bytes t.label) M ≡ record { ciphertext = part bytes t.contents; tag = part bytes t.tag }

-- an open hands M over: it is accepted, writes M and gives the whole answer
pub record Hands (m : Meaning) (o : Opening) (M : List ℕ) : Type 0 where
  pub tube : Tube
  pub form : parsed o.tube ≡ Ok tube
  pub answer : o.answer ≡ Ok (answer_to tube (m.open_runs tube.label.len tube.contents.len))
  pub written : o.contents ≡ M

-- an open should hand M over: the tube has the form, is due, and is sealed so; the mode is of the set; and buffers and left suffice
pub record Deserves (m : Meaning) (s : ParameterSet) (floor left : ℕ) (ks : List ℕ) (o : Opening) (M : List ℕ) : Type 0 where
  pub tube : Tube
  pub form : parsed o.tube ≡ Ok tube
  pub ours : Ours m s
  pub due : IsDue s floor ks tube
  pub suffice : Suffice m left o.room o.work tube
  pub seals : SealedAs m s o.tube tube M

-- the causes against an open, by the history
abbrev pub causes_by : Meaning → ParameterSet → ℕ → ℕ → List ℕ → Opening → List (Cause EndFault)
causes_by m s floor left ks o = open_causes m left s (highest floor ks) (standing_of floor ks) o.tube o.room o.work

-- Exact opening, of one open with so much left after the numbers ks were signed: it hands M over exactly where it should, there is one such
-- M at the most, and it is refused by f exactly where f is the first cause in order.
pub record Right (m : Meaning) (s : ParameterSet) (floor left : ℕ) (ks : List ℕ) (o : Opening) : Type 0 where
  pub hands : (M : List ℕ) → Iff (Hands m o M) (Deserves m s floor left ks o M)
  pub alone : (t : Tube) (M N : List ℕ) → Ours m s → parsed o.tube ≡ Ok t → IsDue s floor ks t → SealedAs m s o.tube t M → SealedAs m s o.tube t N → M ≡ N
  pub refuses : (f : EndFault) → Iff (o.answer ≡ Err f) (first (causes_by m s floor left ks o) ≡ Some f)

-- ---- Signed once

-- the event before was the open that handed the contents with this number over
abbrev pub Handed : ℕ → List Event → Type 0
Handed k [] = ⊥
Handed k (opens o ∷ past) = (a : Opened) × (o.answer ≡ Ok a) × (a.number ≡ k)
Handed k (signs j ∷ past) = ⊥
Handed k (returns ∷ past) = ⊥

-- Signed once, of one signature: straight after that open, of a number above the floor and up to the last, for the first time.
pub record Once (s : ParameterSet) (floor k : ℕ) (past : List Event) : Type 0 where
  pub straight : Handed k past
  pub above : floor < k
  pub within : k ≤ last_of s
  pub first : signed floor (signed_in past) k ≡ false

-- No number twice, of all signatures together: each is above the floor, up to the last, and none of those before it.
abbrev pub NoneTwice : ℕ → ℕ → List ℕ → Type 0
NoneTwice floor last [] = Unit {0}
NoneTwice floor last (k ∷ ks) = (floor < k) × (k ≤ last) × (among k ks ≡ false) × NoneTwice floor last ks

-- ---- Counted runs

-- Counted runs: what is left is the start less the counts, which never exceed it; a start without end stays.
pub record Counted (start runs left : ℕ) : Type 0 where
  pub is : left ≡ spent start runs
  pub most : (start ≢ no_end) → runs ≤ start

-- ---- All of them

-- the promises on one event, after the events before it
abbrev pub Stands : Meaning → ParameterSet → ℕ → ℕ → Event → List Event → Type 0
Stands m s floor start (opens o) past = Right m s floor (spent start (counted past)) (signed_in past) o
Stands m s floor start (signs k) past = Once s floor k past
Stands m s floor start returns past = Unit {0}

-- and on each event of a list
abbrev pub Each : Meaning → ParameterSet → ℕ → ℕ → List Event → Type 0
Each m s floor start [] = Unit {0}
Each m s floor start (e ∷ past) = Stands m s floor start e past × Each m s floor start past

-- The promises on a list of events with so much left after it: every open was exact and every signature the first of its number; no number
-- was signed twice; and every run is counted.
pub record Promised (m : Meaning) (s : ParameterSet) (floor start : ℕ) (past : List Event) (left : ℕ) : Type 0 where
  pub each : Each m s floor start past
  pub once : NoneTwice floor (last_of s) (signed_in past)
  pub runs : Counted start (counted past) left
