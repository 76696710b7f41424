-- A table of causes: a call is refused by the first line that applies, and carried out where none does.
use Rattle.std.specs.Prelude.{Bool, cond, List, [], ◌∷◌, Some, None, Option}

-- a line of the table: whether it applies, and the fault that it names
pub record Cause (F : Type 0) : Type 0 where
  pub applies : Bool
  pub names : F

-- the fault of the first line that applies
abbrev pub first : {F : Type 0} → List (Cause F) → Option F
first [] = None
first (c ∷ cs) = cond c.applies (Some c.names) (first cs)

-- what a call comes to: `bad` of the first cause, or `good` where there is none
abbrev pub unless : {F V : Type 0} → Option F → (F → V) → V → V
unless None bad good = good
unless (Some f) bad good = bad f
