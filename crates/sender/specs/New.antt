-- Making a sending end.
use Rattle.std.specs.Prelude.{ℕ, not, ◌&&◌, List, [], ◌∷◌, Ok, Err, Result, nat_le}
use Rattle.refusal.specs.Cause.{Cause, first, unless}
use Rattle.mode.specs.declared.set.ParameterSet.{ParameterSet}
use Rattle.link.specs.declared.fault.EndFault.{EndFault}
use Rattle.link.specs.declared.fault.EndFault.TheVariants.{Start}
use Rattle.link.specs.Numbers.{last_of}
use Rattle.sender.specs.declared.sending.Sending.{Sending}

-- 5: the start is not from 1 to the last number
abbrev pub start_causes : ParameterSet → ℕ → List (Cause EndFault)
start_causes s start = record { applies = not (nat_le 1 start && nat_le start (last_of s)); names = Start start } ∷ []

-- the set and the next number of an end, by which it is known
pub record Fields : Type 0 where
  pub set : ParameterSet
  pub next : ℕ

-- what making an end comes to: its first tube takes the number start
abbrev pub new_sending : ParameterSet → ℕ → Result Fields EndFault
new_sending s start = unless (first (start_causes s start)) Err (Ok (record { set = s; next = start }))

-- an answer that holds an end, seen by its fields
abbrev pub shown : Result Sending EndFault → Result Fields EndFault
shown (Ok e) = Ok (record { set = e.set; next = e.next })
shown (Err f) = Err f
