-- An open of a receiving end: of the meaning m of the mode with so much left, the end's set s, the highest number and how numbers stand in
-- its ledger, the bytes of a tube, and the lengths of the output part and the work memory.
use Rattle.std.specs.Prelude.{ℕ, Bool, true, false, not, List, [], ◌∷◌, ◌++◌, length, drop, is_ok, Ok, Err, Option, Result, ◌==◌, nat_le}
use Rattle.refusal.specs.Cause.{Cause, first, unless}
use Rattle.cipher.specs.Left.{spent}
use Rattle.mode.specs.declared.fault.ModeFault.{ModeFault}
use Rattle.mode.specs.declared.fault.ModeFault.TheVariants as mode
use Rattle.mode.specs.declared.set.ParameterSet.{ParameterSet}
use Rattle.mode.specs.Meaning.{Meaning}
use Rattle.mode.specs.Causes.{work_causes, foreign_causes, left_causes, tag_causes}
use Rattle.mode.specs.Opening.{given, left_after as left_after_mode}
use Rattle.tube.specs.declared.fault.Section.TheVariants.{Set, Number, Tag}
use Rattle.tube.specs.declared.fault.TubeFault.{TubeFault}
use Rattle.tube.specs.declared.fault.TubeFault.TheVariants.{Form}
use Rattle.tube.specs.declared.tube.Tube.{Tube}
use Rattle.tube.specs.Part.{part}
use Rattle.tube.specs.Read.{parsed}
use Rattle.ledger.specs.declared.standing.Standing.{Standing}
use Rattle.ledger.specs.declared.standing.Standing.TheVariants as standing
use Rattle.link.specs.declared.fault.EndFault.{EndFault}
use Rattle.link.specs.declared.fault.EndFault.TheVariants as fault
use Rattle.link.specs.Numbers.{last_of}
use Rattle.receiver.specs.declared.answer.Opened.{Opened}

-- causes of a mode, whose faults an end carries whole
abbrev pub carried : List (Cause ModeFault) → List (Cause EndFault)
carried [] = []
carried (c ∷ cs) = record { applies = c.applies; names = fault.Mode c.names } ∷ carried cs

-- what was read, where it has the form; else nothing that matters
abbrev pub sections : Result Tube TubeFault → Tube
sections (Ok t) = t
sections (Err f) = record {
  code = 0;
  param = 0;
  number = 0;
  nonce = record { at = 0; len = 0 };
  label = record { at = 0; len = 0 };
  contents = record { at = 0; len = 0 };
  tag = record { at = 0; len = 0 };
}

abbrev pub form_fault : Result Tube TubeFault → TubeFault
form_fault (Ok t) = Form Set 0
form_fault (Err f) = f

-- 14: the tube has the wrong form
abbrev pub form_causes : Result Tube TubeFault → List (Cause EndFault)
form_causes read = record { applies = not (is_ok read); names = fault.Tube (form_fault read) } ∷ []

-- 15: the tube is not of the end's set: section 1, code and param, then the lengths of nonce (section 2) and tag (section 5)
abbrev pub ours_causes : ParameterSet → Tube → List (Cause EndFault)
ours_causes s t =
    record { applies = not (t.code == s.code); names = fault.Differs Set }
    ∷ record { applies = not (t.param == s.param); names = fault.Differs Set }
    ∷ record { applies = not (t.nonce.len == s.nonce); names = fault.Differs Number }
    ∷ record { applies = not (t.tag.len == s.tag); names = fault.Differs Tag }
    ∷ []

abbrev pub is_old : Standing → Bool
is_old standing.Old = true
is_old standing.Signed = false
is_old standing.Open = false

abbrev pub is_signed : Standing → Bool
is_signed standing.Old = false
is_signed standing.Signed = true
is_signed standing.Open = false

-- 16, 17, 18: the number is 0 or above the last; it stands old; it stands signed
abbrev pub number_causes : ℕ → ℕ → Standing → ℕ → List (Cause EndFault)
number_causes last high stands k =
    record { applies = not (nat_le 1 k); names = fault.Range }
    ∷ record { applies = not (nat_le k last); names = fault.Range }
    ∷ record { applies = is_old stands; names = fault.Old k high }
    ∷ record { applies = is_signed stands; names = fault.Signed k }
    ∷ []

-- 14 to 18
abbrev pub due_causes : ParameterSet → ℕ → ℕ → (ℕ → Standing) → Result Tube TubeFault → List (Cause EndFault)
due_causes s last high stands read =
    form_causes read ++ (ours_causes s (sections read) ++ number_causes last high (stands (sections read).number) (sections read).number)

-- 10: the output part is too short for the contents
abbrev pub room_causes : ℕ → ℕ → List (Cause EndFault)
room_causes out size = record { applies = not (nat_le size out); names = fault.Mode (mode.Part size) } ∷ []

-- what opening gives for the sections of a tube
abbrev pub opening : Meaning → ParameterSet → List ℕ → Tube → Option (List ℕ)
opening m s bytes t = m.opening s (part bytes t.nonce) (part bytes t.label) (part bytes t.contents) (part bytes t.tag)

-- 10, 11, 12
abbrev pub last_causes : Meaning → ℕ → ParameterSet → List ℕ → ℕ → Tube → List (Cause EndFault)
last_causes m left s bytes out t =
    room_causes out t.contents.len
    ++ (carried (left_causes (m.open_runs t.label.len t.contents.len) left)
    ++ carried (tag_causes (opening m s bytes t) (m.refused_runs t.label.len t.contents.len)))

-- The causes against an open, in order: 6, 7, 14, 15, 16, 17, 18, 10, 11, 12.
abbrev pub open_causes : Meaning → ℕ → ParameterSet → ℕ → (ℕ → Standing) → List ℕ → ℕ → ℕ → List (Cause EndFault)
open_causes m left s high stands bytes out work =
    carried (work_causes work)
    ++ (carried (foreign_causes m.code m.width s)
    ++ (due_causes s (last_of s) high stands (parsed bytes)
    ++ last_causes m left s bytes out (sections (parsed bytes))))

-- what a check of these causes answers
abbrev pub checked : List (Cause EndFault) → Result (Unit {0}) EndFault
checked causes = unless (first causes) Err (Ok tt)

-- how an open comes out: what it answers with the contents, or a fault
pub data Verdict : Type 0 where
  handed : Opened → List ℕ → Verdict
  refused : EndFault → Verdict

-- the answer for a tube whose open made so many runs
abbrev pub answer_to : Tube → ℕ → Opened
answer_to t runs = record { number = t.number; label = t.label; contents_len = t.contents.len; count = runs }

-- refused by the first cause that applies, else what opening gives
abbrev pub open_verdict : Meaning → ℕ → ParameterSet → ℕ → (ℕ → Standing) → List ℕ → ℕ → ℕ → Verdict
open_verdict m left s high stands bytes out work =
    unless (first (open_causes m left s high stands bytes out work)) refused
    (handed (answer_to (sections (parsed bytes)) (m.open_runs (sections (parsed bytes)).label.len (sections (parsed bytes)).contents.len)) (given (opening m s bytes (sections (parsed bytes)))))

-- the same of a tube that passes the checks up to 18
abbrev pub last_verdict : Meaning → ℕ → ParameterSet → List ℕ → ℕ → Tube → Verdict
last_verdict m left s bytes out t =
    unless (first (last_causes m left s bytes out t)) refused
    (handed (answer_to t (m.open_runs t.label.len t.contents.len)) (given (opening m s bytes t)))

-- what the call answers
abbrev pub answer_of : Verdict → Result Opened EndFault
answer_of (handed a M) = Ok a
answer_of (refused f) = Err f

-- the output part afterwards, of what it was: the contents and then what stood there, or all as it was
abbrev pub out_of : Verdict → List ℕ → List ℕ
out_of (handed a M) out = M ++ drop (length M) out
out_of (refused f) out = out

-- what is left after a refusal: all, but for what a wrong tag has cost
abbrev pub left_after : EndFault → ℕ → ℕ
left_after (fault.Mode f) left = left_after_mode f left
left_after (fault.Tube f) left = left
left_after (fault.Start k) left = left
left_after (fault.Last k) left = left
left_after (fault.Differs section) left = left
left_after fault.Range left = left
left_after (fault.Old k h) left = left
left_after (fault.Signed k) left = left

-- what is left afterwards
abbrev pub left_of : Verdict → ℕ → ℕ
left_of (handed a M) left = spent left a.count
left_of (refused f) left = left_after f left
