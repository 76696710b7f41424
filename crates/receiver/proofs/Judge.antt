-- An open by the history: what it is to pass every cause of the table, and what a refusal costs.
use Rattle.std.proofs.Common.{◌≡◌, ℕ, ◌+◌, ◌≤◌, Bool, true, false, cond, not, leb, List, [], ◌∷◌, ◌++◌, is_some, is_ok, Some, None, Ok, Err, Option, Result, refl, ap, ◌∙◌, inl, inr, arith}
use Rattle.std.proofs.lemmas.Bool.{cond-false, le-leb, lt-leb, eq-eqb, leb-true, leb-false, eqb-true}
use Rattle.refusal.specs.Cause.{Cause, first, unless}
use Rattle.mode.specs.declared.fault.ModeFault.TheVariants as mode
use Rattle.mode.specs.declared.set.ParameterSet.{ParameterSet}
use Rattle.mode.specs.Causes.{work_causes, foreign_causes, left_causes, tag_causes}
use Rattle.mode.specs.Meaning.{Meaning, Lawful}
use Rattle.mode.specs.Opening.{given}
use Rattle.mode.proofs.Firsts.{none_first, first_none, not_not}
use Rattle.tube.specs.declared.fault.TubeFault.{TubeFault}
use Rattle.tube.specs.declared.tube.Tube.{Tube}
use Rattle.tube.specs.Read.{parsed}
use Rattle.tube.proofs.Past.{parsed_within}
use Rattle.ledger.specs.declared.standing.Standing.TheVariants as standing
use Rattle.ledger.specs.History.{highest, signed, standing_of}
use Rattle.link.specs.declared.fault.EndFault.{EndFault}
use Rattle.link.specs.declared.fault.EndFault.TheVariants as fault
use Rattle.link.specs.Numbers.{last_of}
use Rattle.receiver.specs.Open.{carried, sections, due_causes, room_causes, opening, answer_to, is_old, is_signed, Verdict, handed, refused}
use Rattle.receiver.specs.Trace.{Ours, IsDue, Suffice, fault_count}
use Rattle.receiver.proofs.Tables.{never, free_split}

-- what one passed line says
form_of : (r : Result Tube TubeFault) → not (is_ok r) ≡ false → r ≡ Ok (sections r)
form_of (Ok t) e = refl
form_of (Err f) e = never (ap (λ x. cond x 0 1) e)

some_of : (o : Option (List ℕ)) → not (is_some o) ≡ false → o ≡ Some (given o)
some_of (Some M) e = refl
some_of None e = never (ap (λ x. cond x 0 1) e)

open_of : (old sg : Bool) → is_old (cond old standing.Old (cond sg standing.Signed standing.Open)) ≡ false → is_signed (cond old standing.Old (cond sg standing.Signed standing.Open)) ≡ false
    → (old ≡ false) × (sg ≡ false)
open_of true sg e f = never (ap (λ x. cond x 0 1) e)
open_of false true e f = never (ap (λ x. cond x 0 1) f)
open_of false false e f = (refl, refl)

tag_names : (o : Option (List ℕ)) (n : ℕ) (f : EndFault) → first (carried (tag_causes o n)) ≡ Some f → f ≡ fault.Mode (mode.Tag n)
tag_names (Some M) n f e = never (cc)
tag_names None n f e = cc

module _ (m : Meaning) (s : ParameterSet) (floor left : ℕ) (ks : List ℕ) (bytes : List ℕ) (out work : ℕ) where
  -- the table, of what was read
  abbrev early : Result Tube TubeFault → List (Cause EndFault)
  early r =
      carried (work_causes work)
      ++ (carried (foreign_causes m.code m.width s)
      ++ (due_causes s (last_of s) (highest floor ks) (standing_of floor ks) r
      ++ (room_causes out (sections r).contents.len
      ++ carried (left_causes (m.open_runs (sections r).label.len (sections r).contents.len) left))))

  abbrev late : Result Tube TubeFault → List (Cause EndFault)
  late r = carried (tag_causes (opening m s bytes (sections r)) (m.refused_runs (sections r).label.len (sections r).contents.len))

  abbrev pub verdict_of : Result Tube TubeFault → Verdict
  verdict_of r =
      unless (first (early r ++ late r)) refused
      (handed (answer_to (sections r) (m.open_runs (sections r).label.len (sections r).contents.len)) (given (opening m s bytes (sections r))))

  -- the lines before the tag's are passed
  pub record Passes (r : Result Tube TubeFault) : Type 0 where
    pub form : r ≡ Ok (sections r)
    pub ours : Ours m s
    pub due : IsDue s floor ks (sections r)
    pub suffice : Suffice m left out work (sections r)

  early_passes : (r : Result Tube TubeFault) → first (early r) ≡ None → Passes r
  early_passes r e =
      let t = sections r in
      let h = first_none (early r) e in
      let h2 = h.1.1.1.1 in
      let h3 = h2.1.1.1.1 in
      let st = open_of (leb (t.number + 64) (highest floor ks)) (signed floor ks t.number) h3.1.1.0 h3.1.1.1.0 in
      let h4 = h3.1.1.1.1 in
      record {
        form = form_of r h.1.1.1.0;
        ours = (eqb-true s.code m.code (not_not _ h.1.0), eqb-true s.width m.width (not_not _ h.1.1.0));
        due = record {
          code = eqb-true t.code s.code (not_not _ h2.0);
          param = eqb-true t.param s.param (not_not _ h2.1.0);
          nonce = eqb-true t.nonce.len s.nonce (not_not _ h2.1.1.0);
          tag = eqb-true t.tag.len s.tag (not_not _ h2.1.1.1.0);
          least = leb-true 1 t.number (not_not _ h3.0);
          most = leb-true t.number (last_of s) (not_not _ h3.1.0);
          recent = leb-false (t.number + 64) (highest floor ks) st.0;
          unsigned = st.1;
        };
        suffice = record {
          memory = eqb-true work 64 (not_not _ h.0);
          room = leb-true t.contents.len out (not_not _ h4.0);
          runs = leb-true (m.open_runs t.label.len t.contents.len) left (not_not _ h4.1.0);
        };
      }

  -- and the tag's too
  pub record Accepts (r : Result Tube TubeFault) : Type 0 where
    pub passes : Passes r
    pub gives : opening m s bytes (sections r) ≡ Some (given (opening m s bytes (sections r)))

  all_early : (xs ys : List (Cause EndFault)) → first (xs ++ ys) ≡ None → (first xs ≡ None) × (first ys ≡ None)
  all_early [] ys e = (refl, e)
  all_early (x ∷ xs) ys e = both x.applies x.names (first xs) (first (xs ++ ys)) (first ys) e (all_early xs ys)
    where
      both : (b : Bool) (x : EndFault) (o p q : Option EndFault) → cond b (Some x) p ≡ None → (p ≡ None → (o ≡ None) × (q ≡ None)) → (cond b (Some x) o ≡ None) × (q ≡ None)
      both true x o p q e h = never (cc)
      both false x o p q e h = h e

  pub accepts : (r : Result Tube TubeFault) → first (early r ++ late r) ≡ None → Accepts r
  accepts r e =
      let h = all_early (early r) (late r) e in
      record { passes = early_passes r h.0; gives = some_of (opening m s bytes (sections r)) (first_none (late r) h.1).0 }

  -- a tube that is due passes, where buffers and left suffice and opening gives contents
  pub passes_all : (t : Tube) (M : List ℕ) → Ours m s → IsDue s floor ks t → Suffice m left out work t → opening m s bytes t ≡ Some M → first (early (Ok t) ++ late (Ok t)) ≡ None
  passes_all t M k d u g =
      let old : leb (t.number + 64) (highest floor ks) ≡ false = lt-leb (t.number + 64) (highest floor ks) d.recent in
      let stands : standing_of floor ks t.number ≡ standing.Open = cond-false (leb (t.number + 64) (highest floor ks)) _ _ old ∙ cond-false (signed floor ks t.number) _ _ d.unsigned in
      none_first (early (Ok t) ++ late (Ok t)) (
        ap not (eq-eqb work 64 u.memory),
        (
          ap not (eq-eqb s.code m.code k.0),
          (
            ap not (eq-eqb s.width m.width k.1),
            (
              refl,
              (
                ap not (eq-eqb t.code s.code d.code),
                (
                  ap not (eq-eqb t.param s.param d.param),
                  (
                    ap not (eq-eqb t.nonce.len s.nonce d.nonce),
                    (
                      ap not (eq-eqb t.tag.len s.tag d.tag),
                      (
                        ap not (le-leb 1 t.number d.least),
                        (
                          ap not (le-leb t.number (last_of s) d.most),
                          (
                            ap is_old stands,
                            (
                              ap is_signed stands,
                              (
                                ap not (le-leb t.contents.len out u.room),
                                (
                                  ap not (le-leb (m.open_runs t.label.len t.contents.len) left u.runs),
                                  (ap (λ o. not (is_some o)) g, tt),
                                ),
                              ),
                            ),
                          ),
                        ),
                      ),
                    ),
                  ),
                ),
              ),
            ),
          ),
        ),
      )

  -- a refusal costs no more than is left
  pub costs : Lawful m → (f : EndFault) → first (early (parsed bytes) ++ late (parsed bytes)) ≡ Some f → fault_count f ≤ left
  costs law f e =
      let r = parsed bytes in
      let t = sections (parsed bytes) in
      elim (free_split (early r) (late r) f (refl, (refl, (refl, (refl, (refl, (refl, (refl, (refl, (refl, (refl, (refl, (refl, (refl, (refl, tt)))))))))))))) e) [
        | inl z ↦ omega arith
        | inr h ↦
            let p = early_passes r h.0 in
            let w = parsed_within bytes t p.form in
            let n : f ≡ fault.Mode (mode.Tag (m.refused_runs t.label.len t.contents.len)) = tag_names (opening m s bytes t) _ f h.1 in
            let c : fault_count f ≡ m.refused_runs t.label.len t.contents.len = ap fault_count n in
            omega (arith, law.fewer t.label.len t.contents.len w.labels w.bodies, p.suffice.runs)
      ]
