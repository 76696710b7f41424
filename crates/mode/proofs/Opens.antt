-- What an open comes to that passes each check before the tag, in their order.
use Rattle.std.proofs.Common.{◌≡◌, ℕ, ◌≤◌, List, ◌++◌, length, Some, None, Option, refl, ap, ◌∙◌}
use Rattle.refusal.specs.Cause.{Cause, first, unless}
use Rattle.mode.specs.declared.fault.ModeFault.{ModeFault}
use Rattle.mode.specs.declared.fault.ModeFault.TheVariants.{Tag}
use Rattle.mode.specs.declared.set.ParameterSet.{ParameterSet}
use Rattle.mode.specs.Causes.{work_causes, fit_causes, left_causes, tag_causes, Fits}
use Rattle.mode.specs.Meaning.{Meaning}
use Rattle.mode.specs.Opening.{OpenVerdict, opened, refused, given, open_causes, open_verdict}
use Rattle.mode.proofs.Firsts.{passes, work_passes, fits_passes, left_passes}

-- what opening decides, once every check before the tag is passed
abbrev pub by_tag : Option (List ℕ) → ℕ → ℕ → OpenVerdict
by_tag (Some M) full few = opened M full
by_tag None full few = refused (Tag few)

tag_decides : (o : Option (List ℕ)) (full few : ℕ) → unless (first (tag_causes o few)) refused (opened (given o) full) ≡ by_tag o full few
tag_decides (Some M) full few = refl
tag_decides None full few = refl

module _ (m : Meaning) (left : ℕ) (s : ParameterSet) (N A C T : List ℕ) (out work : ℕ) where
  abbrev fit : List (Cause ModeFault)
  fit = fit_causes m.code m.width s (length N) (length A) (length C) out (length T)

  abbrev short : List (Cause ModeFault)
  short = left_causes (m.open_runs (length A) (length C)) left

  abbrev wrong : List (Cause ModeFault)
  wrong = tag_causes (m.opening s N A C T) (m.refused_runs (length A) (length C))

  by : (o : Option ModeFault) → first (open_causes m left s N A C T out work) ≡ o → open_verdict m left s N A C T out work ≡ unless o refused (opened (given (m.opening s N A C T)) (m.open_runs (length A) (length C)))
  by o e = ap (λ p. unless p refused (opened (given (m.opening s N A C T)) (m.open_runs (length A) (length C)))) e

  module _ (w : work ≡ 64) where
    after_work : first (open_causes m left s N A C T out work) ≡ first (fit ++ (short ++ wrong))
    after_work = passes (work_causes work) (fit ++ (short ++ wrong)) (work_passes work w)

    module _ (h : Fits m.code m.width s (length N) (length A) (length C) out (length T)) where
      after_fit : first (open_causes m left s N A C T out work) ≡ first (short ++ wrong)
      after_fit = after_work ∙ passes fit (short ++ wrong) (fits_passes m.code m.width s (length N) (length A) (length C) out (length T) h)

      module _ (l : m.open_runs (length A) (length C) ≤ left) where
        -- the tag decides
        pub open_by_tag : open_verdict m left s N A C T out work ≡ by_tag (m.opening s N A C T) (m.open_runs (length A) (length C)) (m.refused_runs (length A) (length C))
        open_by_tag =
            by (first wrong) (after_fit ∙ passes short wrong (left_passes (m.open_runs (length A) (length C)) left l))
            ∙ tag_decides (m.opening s N A C T) (m.open_runs (length A) (length C)) (m.refused_runs (length A) (length C))
