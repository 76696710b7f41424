-- The first cause of a table that is made of parts, and what the checks of the parts say of it.
use Rattle.std.proofs.Common.{◌≡◌, ℕ, ◌≤◌, Bool, true, false, cond, not, List, [], ◌∷◌, ◌++◌, Some, None, Ok, Err, Option, Result, sym, refl, ap, ◌∙◌, arith}
use Rattle.std.proofs.lemmas.Bool.{le-leb, eq-eqb}
use Rattle.refusal.specs.Cause.{Cause, first, unless}
use Rattle.mode.specs.declared.fault.ModeFault.{ModeFault}
use Rattle.mode.specs.declared.set.ParameterSet.{ParameterSet}
use Rattle.mode.specs.Causes.{checked, work_causes, fit_causes, left_causes, Fits}

never : {A : Type 0} → ◌≡◌ {A = ℕ} 0 1 → A
never z = absurd (omega arith)

module _ {F : Type 0} where
  stops_by : (b : Bool) (x f : F) (o p : Option F) → cond b (Some x) o ≡ Some f → (o ≡ Some f → p ≡ Some f) → cond b (Some x) p ≡ Some f
  stops_by true x f o p e h = e
  stops_by false x f o p e h = h e

  -- a cause in the front part is the first of the whole
  pub stops : (xs ys : List (Cause F)) (f : F) → first xs ≡ Some f → first (xs ++ ys) ≡ Some f
  stops [] ys f e = let z : ◌≡◌ {A = ℕ} 0 1 = cc in never z
  stops (x ∷ xs) ys f e = stops_by x.applies x.names f (first xs) (first (xs ++ ys)) e (stops xs ys f)

  passes_by : (b : Bool) (x : F) (o p q : Option F) → cond b (Some x) o ≡ None → (o ≡ None → p ≡ q) → cond b (Some x) p ≡ q
  passes_by true x o p q e h = let z : ◌≡◌ {A = ℕ} 0 1 = cc in never z
  passes_by false x o p q e h = h e

  -- where the front part has none, the rest decides
  pub passes : (xs ys : List (Cause F)) → first xs ≡ None → first (xs ++ ys) ≡ first ys
  passes [] ys e = refl
  passes (x ∷ xs) ys e = passes_by x.applies x.names (first xs) (first (xs ++ ys)) (first ys) e (passes xs ys)

  -- no cause of the table applies
  abbrev pub NoneOf : List (Cause F) → Type 0
  NoneOf [] = Unit {0}
  NoneOf (x ∷ xs) = (x.applies ≡ false) × NoneOf xs

  pub none_first : (xs : List (Cause F)) → NoneOf xs → first xs ≡ None
  none_first [] h = refl
  none_first (x ∷ xs) h = ap (λ b. cond b (Some x.names) (first xs)) h.0 ∙ none_first xs h.1

  none_by : (b : Bool) (x : F) (o : Option F) → cond b (Some x) o ≡ None → (b ≡ false) × (o ≡ None)
  none_by true x o e = let z : ◌≡◌ {A = ℕ} 0 1 = cc in never z
  none_by false x o e = (refl, e)

  pub first_none : (xs : List (Cause F)) → first xs ≡ None → NoneOf xs
  first_none [] e = tt
  first_none (x ∷ xs) e = let h = none_by x.applies x.names (first xs) e in (h.0, first_none xs h.1)

pub not_not : (b : Bool) → not b ≡ false → b ≡ true
not_not true e = refl
not_not false e = let z : ◌≡◌ {A = ℕ} 0 1 = ap (λ x. cond x 1 0) (sym e) in never z

stopped_by : (o : Option ModeFault) (f : ModeFault) → ◌≡◌ {A = Result (Unit {0}) ModeFault} (Err f) (unless o Err (Ok tt)) → o ≡ Some f
stopped_by None f e = let z : ◌≡◌ {A = ℕ} 0 1 = cc in never z
stopped_by (Some g) f e = cc

-- what a check that refused says of its causes
pub stopped : (xs : List (Cause ModeFault)) (f : ModeFault) → Err f ≡ checked xs → first xs ≡ Some f
stopped xs f e = stopped_by (first xs) f e

-- the parts that a passed check leaves behind
pub work_passes : (work : ℕ) → work ≡ 64 → first (work_causes work) ≡ None
work_passes work e = none_first (work_causes work) (ap not (eq-eqb work 64 e), tt)

pub left_passes : (runs left : ℕ) → runs ≤ left → first (left_causes runs left) ≡ None
left_passes runs left h = none_first (left_causes runs left) (ap not (le-leb runs left h), tt)

module _ (code width : ℕ) (s : ParameterSet) (n a x out tag : ℕ) where
  pub fits_passes : Fits code width s n a x out tag → first (fit_causes code width s n a x out tag) ≡ None
  fits_passes h =
      none_first (fit_causes code width s n a x out tag) (
        ap not (eq-eqb s.code code h.codes),
        (
          ap not (eq-eqb s.width width h.widths),
          (
            ap not (eq-eqb n s.nonce h.nonces),
            (
              ap not (le-leb a 4096 h.labels),
              (
                ap not (le-leb x 1048576 h.texts),
                (
                  ap not (eq-eqb out x h.outs),
                  (ap not (eq-eqb tag s.tag h.tags), tt),
                ),
              ),
            ),
          ),
        ),
      )
