-- A call of open: of a mode's meaning m with so much left, a set s, nonce N, label A, ciphertext C, tag T, and the lengths of the output
-- part and the work memory.
use Rattle.std.specs.Prelude.{ℕ, List, [], ◌++◌, length, Some, None, Ok, Err, Option, Result}
use Rattle.refusal.specs.Cause.{Cause, first, unless}
use Rattle.cipher.specs.Left.{spent}
use Rattle.mode.specs.declared.fault.ModeFault.{ModeFault}
use Rattle.mode.specs.declared.fault.ModeFault.TheVariants.{Cipher, Set, Work, Foreign, Nonce, Long, Part, Short, Tag}
use Rattle.mode.specs.declared.set.ParameterSet.{ParameterSet}
use Rattle.mode.specs.Causes.{work_causes, fit_causes, left_causes, tag_causes}
use Rattle.mode.specs.Meaning.{Meaning}

-- the causes against it, in order: 6, 7 to 10, 11, 12
abbrev pub open_causes : Meaning → ℕ → ParameterSet → List ℕ → List ℕ → List ℕ → List ℕ → ℕ → ℕ → List (Cause ModeFault)
open_causes m left s N A C T out work =
    work_causes work ++ (fit_causes m.code m.width s (length N) (length A) (length C) out (length T)
    ++ (left_causes (m.open_runs (length A) (length C)) left ++ tag_causes (m.opening s N A C T) (m.refused_runs (length A) (length C))))

-- how it comes out: the contents with the count of runs, or a fault
pub data OpenVerdict : Type 0 where
  opened : List ℕ → ℕ → OpenVerdict
  refused : ModeFault → OpenVerdict

-- the contents that opening gives
abbrev pub given : Option (List ℕ) → List ℕ
given (Some M) = M
given None = []

-- refused by the first cause that applies, else what the opening function gives
abbrev pub open_verdict : Meaning → ℕ → ParameterSet → List ℕ → List ℕ → List ℕ → List ℕ → ℕ → ℕ → OpenVerdict
open_verdict m left s N A C T out work =
    unless (first (open_causes m left s N A C T out work)) refused (opened (given (m.opening s N A C T)) (m.open_runs (length A) (length C)))

-- what the call answers
abbrev pub open_answer : OpenVerdict → Result ℕ ModeFault
open_answer (opened M count) = Ok count
open_answer (refused f) = Err f

-- the output part afterwards, of what it was: all of it is the contents, which are as long
abbrev pub open_out : OpenVerdict → List ℕ → List ℕ
open_out (opened M count) out = M
open_out (refused f) out = out

-- What is left after a refusal: all, but where the tag differs, which is found by runs of the cipher.
abbrev pub left_after : ModeFault → ℕ → ℕ
left_after (Tag count) left = spent left count
left_after (Cipher f) left = left
left_after (Set field) left = left
left_after (Work length) left = left
left_after (Foreign code width) left = left
left_after (Nonce length) left = left
left_after (Long label contents) left = left
left_after (Part wanted) left = left
left_after (Short count rest) left = left

-- what is left afterwards
abbrev pub open_left : OpenVerdict → ℕ → ℕ
open_left (opened M count) left = spent left count
open_left (refused f) left = left_after f left
