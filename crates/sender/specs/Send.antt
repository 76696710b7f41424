-- A call of send: of a mode's meaning m with so much left, an end's set s and next number k, label A, contents M, and the lengths of the
-- output part and the work memory.
use Rattle.std.specs.Prelude.{◌≡◌, ℕ, ◌+◌, ◌≤◌, not, List, [], ◌∷◌, ◌++◌, length, drop, Ok, Err, Result, ◌==◌, nat_le}
use Rattle.refusal.specs.Cause.{Cause, first, unless}
use Rattle.cipher.specs.Left.{spent}
use Rattle.mode.specs.declared.fault.ModeFault.TheVariants.{Work, Foreign, Long, Part, Short}
use Rattle.mode.specs.declared.set.ParameterSet.{ParameterSet}
use Rattle.mode.specs.Limits.{label_limit, contents_limit, work_length}
use Rattle.mode.specs.Meaning.{Meaning}
use Rattle.tube.specs.Write.{tube_of, size_of, nonce_of}
use Rattle.link.specs.declared.fault.EndFault.{EndFault}
use Rattle.link.specs.declared.fault.EndFault.TheVariants.{Mode, Last}
use Rattle.link.specs.Numbers.{last_of}
use Rattle.sender.specs.declared.sent.Sent.{Sent}

-- how many bytes the tube has, of a label of a and contents of x bytes
abbrev pub tube_size : ParameterSet → ℕ → ℕ → ℕ
tube_size s a x = size_of s.nonce a x s.tag

-- the causes against it, in order: 6, 7, 9, 13 (the last number was sent), 10 (no room for the tube), 11
abbrev pub send_causes : Meaning → ℕ → ParameterSet → ℕ → ℕ → ℕ → ℕ → ℕ → List (Cause EndFault)
send_causes m left s k a x out work =
    record { applies = not (work == work_length); names = Mode (Work work) }
    ∷ record { applies = not (s.code == m.code); names = Mode (Foreign m.code m.width) }
    ∷ record { applies = not (s.width == m.width); names = Mode (Foreign m.code m.width) }
    ∷ record { applies = not (nat_le a label_limit); names = Mode (Long a x) }
    ∷ record { applies = not (nat_le x contents_limit); names = Mode (Long a x) }
    ∷ record { applies = not (nat_le k (last_of s)); names = Last (last_of s) }
    ∷ record { applies = not (nat_le (tube_size s a x) out); names = Mode (Part (tube_size s a x)) }
    ∷ record { applies = not (nat_le (m.seal_runs a x) left); names = Mode (Short (m.seal_runs a x) left) }
    ∷ []

-- the tube of label A and contents M under a nonce N: the writing of the set's code and param, the nonce, the label, and the ciphertext
-- and the tag that the mode's sealing function gives
abbrev pub sealed_tube : Meaning → ParameterSet → List ℕ → List ℕ → List ℕ → List ℕ
sealed_tube m s N A M = tube_of s.code s.param N A (m.sealing s N A M).ciphertext (m.sealing s N A M).tag

-- how a send comes out: its answer and the tube, or a fault
pub data SendVerdict : Type 0 where
  sent : Sent → List ℕ → SendVerdict
  unsent : EndFault → SendVerdict

-- refused by the first cause that applies, else the tube under the nonce of the next number
abbrev pub send_verdict : Meaning → ℕ → ParameterSet → ℕ → List ℕ → List ℕ → ℕ → ℕ → SendVerdict
send_verdict m left s k A M out work =
    unless (first (send_causes m left s k (length A) (length M) out work)) unsent
    (sent (record { len = tube_size s (length A) (length M); count = m.seal_runs (length A) (length M) }) (sealed_tube m s (nonce_of s.nonce k) A M))

-- what the call answers
abbrev pub send_answer : SendVerdict → Result Sent EndFault
send_answer (sent x tube) = Ok x
send_answer (unsent f) = Err f

-- the output part afterwards, of what it was: the tube, then the rest as it was
abbrev pub send_out : SendVerdict → List ℕ → List ℕ
send_out (sent x tube) out = tube ++ drop (length tube) out
send_out (unsent f) out = out

-- what is left afterwards
abbrev pub send_left : SendVerdict → ℕ → ℕ
send_left (sent x tube) left = spent left x.count
send_left (unsent f) left = left

-- the next number afterwards: a refusal uses up none
abbrev pub send_next : SendVerdict → ℕ → ℕ
send_next (sent x tube) k = k + 1
send_next (unsent f) k = k

-- what is known once the checks after 6 are passed
pub record Passes (m : Meaning) (left : ℕ) (s : ParameterSet) (k a x out : ℕ) : Type 0 where
  pub codes : s.code ≡ m.code
  pub widths : s.width ≡ m.width
  pub labels : a ≤ label_limit
  pub texts : x ≤ contents_limit
  pub numbers : k ≤ last_of s
  pub rooms : tube_size s a x ≤ out
  pub runs : m.seal_runs a x ≤ left
