-- Asking how many cipher runs a call makes, by the lengths of label and contents.
use Rattle.std.specs.Prelude.{ℕ, Ok, Err, Result}
use Rattle.refusal.specs.Cause.{first, unless}
use Rattle.mode.specs.declared.count.RunCount.{RunCount}
use Rattle.mode.specs.declared.count.RunCount.TheVariants.{Sealing, Opening, WrongTag}
use Rattle.mode.specs.declared.fault.ModeFault.{ModeFault}
use Rattle.mode.specs.Causes.{limit_causes}
use Rattle.mode.specs.Meaning.{Meaning}

-- the three counts of a mode
abbrev pub runs_of : Meaning → RunCount → ℕ → ℕ → ℕ
runs_of m Sealing a x = m.seal_runs a x
runs_of m Opening a x = m.open_runs a x
runs_of m WrongTag a x = m.refused_runs a x

-- the count, or refusal 9
abbrev pub counted : Meaning → RunCount → ℕ → ℕ → Result ℕ ModeFault
counted m which a x = unless (first (limit_causes a x)) Err (Ok (runs_of m which a x))
