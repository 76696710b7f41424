-- The first cause of an end's table: causes that a mode names, and what they cost.
use Rattle.std.proofs.Common.{◌≡◌, ℕ, ◌-◌, Bool, true, false, cond, eqb, ◌⊎◌, List, [], ◌∷◌, ◌++◌, Some, None, Ok, Err, Option, Result, sym, refl, ap, ◌∙◌, inl, inr, arith}
use Rattle.std.proofs.lemmas.Bool.{cond-true, cond-false, eq-eqb, ne_eqb, cases_eq}
use Rattle.refusal.specs.Cause.{Cause, first, unless}
use Rattle.cipher.specs.Left.{no_end, spent}
use Rattle.mode.specs.declared.fault.ModeFault.{ModeFault}
use Rattle.mode.specs.declared.fault.ModeFault.TheVariants as mode
use Rattle.link.specs.declared.fault.EndFault.{EndFault}
use Rattle.link.specs.declared.fault.EndFault.TheVariants as fault
use Rattle.receiver.specs.Open.{carried, left_after, Verdict, handed, refused, answer_of, left_of}
use Rattle.receiver.specs.Trace.{mode_count, fault_count, count_in}

pub never : {A : Type 0} → ◌≡◌ {A = ℕ} 0 1 → A
never z = absurd (omega arith)

none_by : (b : Bool) (x : ModeFault) (o : Option ModeFault) (p : Option EndFault) → cond b (Some x) o ≡ None → (o ≡ None → p ≡ None) → cond b (Some (fault.Mode x)) p ≡ None
none_by true x o p e h = never (cc)
none_by false x o p e h = h e

pub carried_none : (xs : List (Cause ModeFault)) → first xs ≡ None → first (carried xs) ≡ None
carried_none [] e = refl
carried_none (x ∷ xs) e = none_by x.applies x.names (first xs) (first (carried xs)) e (carried_none xs)

-- what a check answers, of the first cause that applies
pub stopped : {T : Type 0} (o : Option EndFault) (v : T) (f : EndFault) → ◌≡◌ {A = Result T EndFault} (Err f) (unless o Err (Ok v)) → o ≡ Some f
stopped None v f e = never (cc)
stopped (Some g) v f e = cc

pub passed : {T : Type 0} (o : Option EndFault) (v w : T) → ◌≡◌ {A = Result T EndFault} (Ok w) (unless o Err (Ok v)) → (o ≡ None) × (w ≡ v)
passed None v w e = (refl, (cc))
passed (Some g) v w e = never (cc)

-- causes that cost no runs
abbrev pub Free : List (Cause EndFault) → Type 0
Free [] = Unit {0}
Free (x ∷ xs) = (fault_count x.names ≡ 0) × Free xs

free_by : (b : Bool) (x f : EndFault) (o : Option EndFault) → fault_count x ≡ 0 → cond b (Some x) o ≡ Some f → (o ≡ Some f → fault_count f ≡ 0) → fault_count f ≡ 0
free_by true x f o z e h = let g : x ≡ f = cc in ap fault_count (sym g) ∙ z
free_by false x f o z e h = h e

pub free_first : (xs : List (Cause EndFault)) (f : EndFault) → Free xs → first xs ≡ Some f → fault_count f ≡ 0
free_first [] f h e = never (cc)
free_first (x ∷ xs) f h e = free_by x.applies x.names f (first xs) h.0 e (free_first xs f h.1)

split_by : (b : Bool) (x f : EndFault) (o p q : Option EndFault) → fault_count x ≡ 0 → cond b (Some x) p ≡ Some f
    → (p ≡ Some f → (fault_count f ≡ 0) ⊎ ((o ≡ None) × (q ≡ Some f))) → (fault_count f ≡ 0) ⊎ ((cond b (Some x) o ≡ None) × (q ≡ Some f))
split_by true x f o p q z e h = let g : x ≡ f = cc in inl (ap fault_count (sym g) ∙ z)
split_by false x f o p q z e h = h e

-- a table whose front part costs nothing
pub free_split : (xs ys : List (Cause EndFault)) (f : EndFault) → Free xs → first (xs ++ ys) ≡ Some f → (fault_count f ≡ 0) ⊎ ((first xs ≡ None) × (first ys ≡ Some f))
free_split [] ys f h e = inr (refl, e)
free_split (x ∷ xs) ys f h e = split_by x.applies x.names f (first xs) (first (xs ++ ys)) (first ys) h.0 e (free_split xs ys f h.1)

-- what is left falls by the count of the answer
pub spent_end : (left n : ℕ) → left ≡ no_end → spent left n ≡ no_end
spent_end left n e = cond-true (eqb left no_end) _ _ (eq-eqb left no_end e)

pub spent_less : (left n : ℕ) → (left ≡ no_end → ⊥) → spent left n ≡ left - n
spent_less left n e = cond-false (eqb left no_end) _ _ (ne_eqb left no_end e)

pub spent_none : (left : ℕ) → spent left 0 ≡ left
spent_none left =
    elim (cases_eq left no_end) [
      | inl e ↦ spent_end left 0 e ∙ sym e
      | inr e ↦ spent_less left 0 e ∙ omega arith
    ]

mode_left : (f : ModeFault) (left : ℕ) → left_after (fault.Mode f) left ≡ spent left (mode_count f)
mode_left (mode.Cipher f) left = sym (spent_none left)
mode_left (mode.Set a) left = sym (spent_none left)
mode_left (mode.Work a) left = sym (spent_none left)
mode_left (mode.Foreign a b) left = sym (spent_none left)
mode_left (mode.Nonce a) left = sym (spent_none left)
mode_left (mode.Long a b) left = sym (spent_none left)
mode_left (mode.Part a) left = sym (spent_none left)
mode_left (mode.Short a b) left = sym (spent_none left)
mode_left (mode.Tag a) left = refl

pub fault_left : (f : EndFault) (left : ℕ) → left_after f left ≡ spent left (fault_count f)
fault_left (fault.Mode f) left = mode_left f left
fault_left (fault.Tube f) left = sym (spent_none left)
fault_left (fault.Start k) left = sym (spent_none left)
fault_left (fault.Last k) left = sym (spent_none left)
fault_left (fault.Differs k) left = sym (spent_none left)
fault_left fault.Range left = sym (spent_none left)
fault_left (fault.Old k h) left = sym (spent_none left)
fault_left (fault.Signed k) left = sym (spent_none left)

pub verdict_left : (v : Verdict) (left : ℕ) → left_of v left ≡ spent left (count_in (answer_of v))
verdict_left (handed a M) left = refl
verdict_left (refused f) left = fault_left f left

pub free_left : (f : EndFault) (left : ℕ) → fault_count f ≡ 0 → left ≡ left_after f left
free_left f left z = sym (fault_left f left ∙ ap (spent left) z ∙ spent_none left)
