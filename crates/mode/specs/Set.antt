-- The rule of parameter sets: which five bytes make one, and which field is named where they do not.
use Rattle.std.specs.Prelude.{ℕ, ◌+◌, not, ◌&&◌, ◌||◌, List, [], ◌∷◌, Some, None, Ok, Err, Option, Result, ◌==◌, nat_le}
use Rattle.refusal.specs.Cause.{Cause, first, unless}
use Rattle.mode.specs.declared.fault.ModeFault.{ModeFault}
use Rattle.mode.specs.declared.fault.ModeFault.TheVariants.{Set}
use Rattle.mode.specs.declared.set.field.SetField.TheVariants.{Code, Width, Nonce, Tag}
use Rattle.mode.specs.declared.set.ParameterSet.{ParameterSet}

-- the five fields of a set, by which it is known
pub record Fields : Type 0 where
  pub code : ℕ
  pub width : ℕ
  pub nonce : ℕ
  pub tag : ℕ
  pub param : ℕ

abbrev pub fields_of : ParameterSet → Fields
fields_of s = record { code = s.code; width = s.width; nonce = s.nonce; tag = s.tag; param = s.param }

-- the rule, field by field: code 1 or 2, width 8 or 16, nonce from 1 to width - 2, tag from 1 to width
abbrev pub set_causes : ℕ → ℕ → ℕ → ℕ → List (Cause ModeFault)
set_causes code width nonce tag =
    record { applies = not (code == 1 || code == 2); names = Set Code }
    ∷ record { applies = not (width == 8 || width == 16); names = Set Width }
    ∷ record { applies = not (nat_le 1 nonce && nat_le (nonce + 2) width); names = Set Nonce }
    ∷ record { applies = not (nat_le 1 tag && nat_le tag width); names = Set Tag }
    ∷ []

-- what making a set of these fields comes to
abbrev pub new_set : ℕ → ℕ → ℕ → ℕ → ℕ → Result Fields ModeFault
new_set code width nonce tag param =
    unless (first (set_causes code width nonce tag)) Err (Ok (record { code = code; width = width; nonce = nonce; tag = tag; param = param }))

-- an answer that holds a set, seen by its fields
abbrev pub shown_result : Result ParameterSet ModeFault → Result Fields ModeFault
shown_result (Ok s) = Ok (fields_of s)
shown_result (Err f) = Err f

abbrev pub shown_option : Option ParameterSet → Option Fields
shown_option (Some s) = Some (fields_of s)
shown_option None = None
