use Rattle.std.proofs.Common.{◌≡◌, ◌+◌, ◌-◌}
use Rattle.twine.proofs.Placing.{rest}
use Rattle.twine.proofs.round.joined.Given as goal

abbrev pub invariant-loop-i : goal.invariant-loop-i
invariant-loop-i l = l.x + rest l.fn.words.values (16 - l.i) ≡ rest l.fn.words.values 16
