-- A call of seal: of a mode's meaning m with so much left, a set s, nonce N, label A, contents M, and the lengths of the output part, the
-- tag part and the work memory.
use Rattle.std.specs.Prelude.{ℕ, List, ◌++◌, length, Ok, Err, Result}
use Rattle.refusal.specs.Cause.{Cause, first, unless}
use Rattle.cipher.specs.Left.{spent}
use Rattle.mode.specs.declared.fault.ModeFault.{ModeFault}
use Rattle.mode.specs.declared.set.ParameterSet.{ParameterSet}
use Rattle.mode.specs.Causes.{work_causes, fit_causes, left_causes}
use Rattle.mode.specs.Meaning.{Meaning, Sealed}

-- the causes against it, in order: 6, 7 to 10, 11
abbrev pub seal_causes : Meaning → ℕ → ParameterSet → List ℕ → List ℕ → List ℕ → ℕ → ℕ → ℕ → List (Cause ModeFault)
seal_causes m left s N A M out tag work =
    work_causes work ++ (fit_causes m.code m.width s (length N) (length A) (length M) out tag ++ left_causes (m.seal_runs (length A) (length M)) left)

-- how it comes out: ciphertext and tag with the count of runs, or a fault
pub data SealVerdict : Type 0 where
  sealed : Sealed → ℕ → SealVerdict
  unsealed : ModeFault → SealVerdict

-- refused by the first cause that applies, else what the sealing function gives
abbrev pub seal_verdict : Meaning → ℕ → ParameterSet → List ℕ → List ℕ → List ℕ → ℕ → ℕ → ℕ → SealVerdict
seal_verdict m left s N A M out tag work =
    unless (first (seal_causes m left s N A M out tag work)) unsealed (sealed (m.sealing s N A M) (m.seal_runs (length A) (length M)))

-- what the call answers
abbrev pub seal_answer : SealVerdict → Result ℕ ModeFault
seal_answer (sealed x count) = Ok count
seal_answer (unsealed f) = Err f

-- the output part afterwards, of what it was: all of it is the ciphertext, which is as long
abbrev pub seal_out : SealVerdict → List ℕ → List ℕ
seal_out (sealed x count) out = x.ciphertext
seal_out (unsealed f) out = out

-- the tag part afterwards
abbrev pub seal_tag : SealVerdict → List ℕ → List ℕ
seal_tag (sealed x count) tag = x.tag
seal_tag (unsealed f) tag = tag

-- what is left afterwards
abbrev pub seal_left : SealVerdict → ℕ → ℕ
seal_left (sealed x count) left = spent left count
seal_left (unsealed f) left = left
