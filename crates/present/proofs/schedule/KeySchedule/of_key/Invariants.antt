use Rattle.std.proofs.Common.{◌≡◌, ℕ, ◌+◌, ◌%◌, ◌^◌, ◌<◌, length, get_or}
use Rattle.present.specs.Present.{register, round_key}
use Rattle.present.specs.Block.{number}
use Rattle.present.specs.RoundKeys.{pLayers}
use Rattle.present.proofs.schedule.KeySchedule.of_key.Given as goal

abbrev pub invariant-loop-i : goal.invariant-loop-i
invariant-loop-i l =
    (l.register ≡ register (number l.key) l.i) × (l.register < 2 ^ 80) × (length l.round_key-items ≡ 32) ×
    ((j : ℕ) → j < l.i → pLayers (j % 3) (get_or l.round_key-items j 0) ≡ round_key (number l.key) (j + 1))
