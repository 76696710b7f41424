use Rattle.std.proofs.Common.{◌≡◌}
use Rattle.aes.specs.Fips197.{KeyExpansion, rounds}
use Rattle.aes.proofs.expanded.ExpandedSchedule1616.encrypt.Given as goal

abbrev pub invariant-loop-key : goal.invariant-loop-key
invariant-loop-key g l = g.S.State.bytes l.s ≡ rounds (KeyExpansion l.self.key) l.block l.key-index
