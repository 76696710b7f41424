-- What a seal comes to that passes each of its checks, in their order.
use Rattle.std.proofs.Common.{◌≡◌, ℕ, ◌≤◌, List, ◌++◌, length, None, Option, ap, ◌∙◌}
use Rattle.refusal.specs.Cause.{Cause, first, unless}
use Rattle.mode.specs.declared.fault.ModeFault.{ModeFault}
use Rattle.mode.specs.declared.set.ParameterSet.{ParameterSet}
use Rattle.mode.specs.Causes.{work_causes, fit_causes, left_causes, Fits}
use Rattle.mode.specs.Meaning.{Meaning}
use Rattle.mode.specs.Sealing.{sealed, unsealed, seal_causes, seal_verdict}
use Rattle.mode.proofs.Firsts.{passes, work_passes, fits_passes, left_passes}

module _ (m : Meaning) (left : ℕ) (s : ParameterSet) (N A M : List ℕ) (out tag work : ℕ) where
  abbrev fit : List (Cause ModeFault)
  fit = fit_causes m.code m.width s (length N) (length A) (length M) out tag

  abbrev short : List (Cause ModeFault)
  short = left_causes (m.seal_runs (length A) (length M)) left

  by : (o : Option ModeFault) → first (seal_causes m left s N A M out tag work) ≡ o → seal_verdict m left s N A M out tag work ≡ unless o unsealed (sealed (m.sealing s N A M) (m.seal_runs (length A) (length M)))
  by o e = ap (λ p. unless p unsealed (sealed (m.sealing s N A M) (m.seal_runs (length A) (length M)))) e

  module _ (w : work ≡ 64) where
    after_work : first (seal_causes m left s N A M out tag work) ≡ first (fit ++ short)
    after_work = passes (work_causes work) (fit ++ short) (work_passes work w)

    module _ (h : Fits m.code m.width s (length N) (length A) (length M) out tag) where
      after_fit : first (seal_causes m left s N A M out tag work) ≡ first (left_causes (m.seal_runs (length A) (length M)) left)
      after_fit = after_work ∙ passes fit short (fits_passes m.code m.width s (length N) (length A) (length M) out tag h)

      -- sealed
      pub seal_passes : m.seal_runs (length A) (length M) ≤ left → seal_verdict m left s N A M out tag work ≡ sealed (m.sealing s N A M) (m.seal_runs (length A) (length M))
      seal_passes l = by None (after_fit ∙ left_passes (m.seal_runs (length A) (length M)) left l)
