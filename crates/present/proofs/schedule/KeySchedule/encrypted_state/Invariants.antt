use Rattle.std.proofs.Common.{◌≡◌, ℕ, ◌*◌, List}
use Rattle.present.specs.Present.{rounds}
use Rattle.present.specs.Block.{number}
use Rattle.present.specs.RoundKeys.{RoundKeys}
use Rattle.present.proofs.schedule.KeySchedule.encrypted_state.Given as goal

abbrev pub invariant-loop-a : goal.invariant-loop-a
invariant-loop-a l = (key : List ℕ) → RoundKeys key l.self.keys → l.x ≡ rounds (number key) l.initial.x (3 * l.a-index)
