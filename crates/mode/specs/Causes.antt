-- The causes against a call, by the numbers 6 to 12. The tables of the calls are made of these, in the order in which they are checked.
-- n, a, x, out, tag and work are lengths in bytes: of nonce, label, contents or ciphertext, output part, tag and work memory.
use Rattle.std.specs.Prelude.{◌≡◌, ℕ, ◌≤◌, not, List, [], ◌∷◌, ◌++◌, is_some, Ok, Err, Option, Result, ◌==◌, nat_le}
use Rattle.refusal.specs.Cause.{Cause, first, unless}
use Rattle.mode.specs.declared.fault.ModeFault.{ModeFault}
use Rattle.mode.specs.declared.fault.ModeFault.TheVariants.{Work, Foreign, Nonce, Long, Part, Short, Tag}
use Rattle.mode.specs.declared.set.ParameterSet.{ParameterSet}
use Rattle.mode.specs.Limits.{label_limit, contents_limit, work_length}

-- 6: the work memory has not 64 bytes
abbrev pub work_causes : ℕ → List (Cause ModeFault)
work_causes work = record { applies = not (work == work_length); names = Work work } ∷ []

-- 7: the set is not of the mode's code or width
abbrev pub foreign_causes : ℕ → ℕ → ParameterSet → List (Cause ModeFault)
foreign_causes code width s =
    record { applies = not (s.code == code); names = Foreign code width }
    ∷ record { applies = not (s.width == width); names = Foreign code width }
    ∷ []

-- 8: the nonce has not the set's length
abbrev pub nonce_causes : ParameterSet → ℕ → List (Cause ModeFault)
nonce_causes s n = record { applies = not (n == s.nonce); names = Nonce n } ∷ []

-- 9: label or contents are above the limit
abbrev pub limit_causes : ℕ → ℕ → List (Cause ModeFault)
limit_causes a x =
    record { applies = not (nat_le a label_limit); names = Long a x }
    ∷ record { applies = not (nat_le x contents_limit); names = Long a x }
    ∷ []

-- 10: the output part is not as long as the contents, then the tag not as the set says
abbrev pub part_causes : ParameterSet → ℕ → ℕ → ℕ → List (Cause ModeFault)
part_causes s x out tag =
    record { applies = not (out == x); names = Part x }
    ∷ record { applies = not (tag == s.tag); names = Part s.tag }
    ∷ []

-- 11: the call, if accepted, makes more runs than are left
abbrev pub left_causes : ℕ → ℕ → List (Cause ModeFault)
left_causes runs left = record { applies = not (nat_le runs left); names = Short runs left } ∷ []

-- 12: opening gives none, which takes so many runs to find out
abbrev pub tag_causes : Option (List ℕ) → ℕ → List (Cause ModeFault)
tag_causes found runs = record { applies = not (is_some found); names = Tag runs } ∷ []

-- 7 to 10 of a mode's call
abbrev pub fit_causes : ℕ → ℕ → ParameterSet → ℕ → ℕ → ℕ → ℕ → ℕ → List (Cause ModeFault)
fit_causes code width s n a x out tag = foreign_causes code width s ++ (nonce_causes s n ++ (limit_causes a x ++ part_causes s x out tag))

-- what is known once they are passed
pub record Fits (code width : ℕ) (s : ParameterSet) (n a x out tag : ℕ) : Type 0 where
  pub codes : s.code ≡ code
  pub widths : s.width ≡ width
  pub nonces : n ≡ s.nonce
  pub labels : a ≤ label_limit
  pub texts : x ≤ contents_limit
  pub outs : out ≡ x
  pub tags : tag ≡ s.tag

-- what a check of these causes answers
abbrev pub checked : List (Cause ModeFault) → Result (Unit {0}) ModeFault
checked causes = unless (first causes) Err (Ok tt)
