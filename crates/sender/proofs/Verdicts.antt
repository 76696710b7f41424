-- What a send comes to, by its table.
use Rattle.std.proofs.Common.{◌≡◌, ℕ, not, List, length, Some, None, Ok, Err, Option, Result, ap, ◌∙◌, arith}
use Rattle.std.proofs.lemmas.Bool.{le-leb, eq-eqb, leb-true, eqb-true}
use Rattle.refusal.specs.Cause.{first, unless}
use Rattle.mode.specs.declared.set.ParameterSet.{ParameterSet}
use Rattle.mode.specs.Meaning.{Meaning}
use Rattle.mode.proofs.Firsts.{none_first, first_none, not_not}
use Rattle.tube.specs.Write.{nonce_of}
use Rattle.link.specs.declared.fault.EndFault.{EndFault}
use Rattle.link.specs.Numbers.{last_of}
use Rattle.sender.specs.Send.{send_causes, send_verdict, sent, unsent, sealed_tube, tube_size, Passes}

never : {A : Type 0} → ◌≡◌ {A = ℕ} 0 1 → A
never z = absurd (omega arith)

pub same_ok : {A B : Type 0} (x y : A) → ◌≡◌ {A = Result A B} (Ok x) (Ok y) → x ≡ y
same_ok x y e = cc

pub not_err : {A B C : Type 0} (x : A) (f : B) → ◌≡◌ {A = Result A B} (Err f) (Ok x) → C
not_err x f e = let z : ◌≡◌ {A = ℕ} 0 1 = cc in never z

refused_by : {F V : Type 0} (o : Option F) (bad : F → V) (good : V) (f : F) → ◌≡◌ {A = Result (Unit {0}) F} (Err f) (unless o Err (Ok tt)) → unless o bad good ≡ bad f
refused_by None bad good f e = not_err tt f e
refused_by (Some g) bad good f e = let q : g ≡ f = cc in ap bad q

module _ (m : Meaning) (left : ℕ) (s : ParameterSet) (k : ℕ) where
  -- no cause applies: the checks are passed
  pub accepted : (a x out work : ℕ) → first (send_causes m left s k a x out work) ≡ None → Passes m left s k a x out
  accepted a x out work e =
      let h = first_none (send_causes m left s k a x out work) e in
      record {
        codes = eqb-true s.code m.code (not_not _ h.1.0);
        widths = eqb-true s.width m.width (not_not _ h.1.1.0);
        labels = leb-true a 4096 (not_not _ h.1.1.1.0);
        texts = leb-true x 1048576 (not_not _ h.1.1.1.1.0);
        numbers = leb-true k (last_of s) (not_not _ h.1.1.1.1.1.0);
        rooms = leb-true (tube_size s a x) out (not_not _ h.1.1.1.1.1.1.0);
        runs = leb-true (m.seal_runs a x) left (not_not _ h.1.1.1.1.1.1.1.0);
      }

  module _ (A M : List ℕ) (out work : ℕ) (w : work ≡ 64) where
    -- sent
    pub verdict_sent : Passes m left s k (length A) (length M) out
        → send_verdict m left s k A M out work
        ≡ sent (record { len = tube_size s (length A) (length M); count = m.seal_runs (length A) (length M) }) (sealed_tube m s (nonce_of s.nonce k) A M)
    verdict_sent h =
        ap (λ o. unless o unsent (sent (record { len = tube_size s (length A) (length M); count = m.seal_runs (length A) (length M) }) (sealed_tube m s (nonce_of s.nonce k) A M)))
        (none_first (send_causes m left s k (length A) (length M) out work) (
          ap not (eq-eqb work 64 w),
          (
            ap not (eq-eqb s.code m.code h.codes),
            (
              ap not (eq-eqb s.width m.width h.widths),
              (
                ap not (le-leb (length A) 4096 h.labels),
                (
                  ap not (le-leb (length M) 1048576 h.texts),
                  (
                    ap not (le-leb k (last_of s) h.numbers),
                    (
                      ap not (le-leb (tube_size s (length A) (length M)) out h.rooms),
                      (ap not (le-leb (m.seal_runs (length A) (length M)) left h.runs), tt),
                    ),
                  ),
                ),
              ),
            ),
          ),
        ))

    -- refused by 7, 9, 13, 10 or 11
    pub verdict_unsent : (f : EndFault) → ◌≡◌ {A = Result (Unit {0}) EndFault} (Err f) (unless (first (send_causes m left s k (length A) (length M) out 64)) Err (Ok tt)) → send_verdict m left s k A M out work ≡ unsent f
    verdict_unsent f e =
        ap (send_verdict m left s k A M out) w
        ∙ refused_by (first (send_causes m left s k (length A) (length M) out 64)) unsent
        (sent (record { len = tube_size s (length A) (length M); count = m.seal_runs (length A) (length M) }) (sealed_tube m s (nonce_of s.nonce k) A M)) f e
