use Rattle.std.proofs.Common.{◌≡◌}
use Rattle.led.specs.Led.{steps, in_turn}
use Rattle.led.proofs.rounds.encrypted.Given as goal

abbrev pub invariant-loop-i : goal.invariant-loop-i
invariant-loop-i g l =
    let cells = g.S.State.cells in cells l.x ≡ steps 80 (in_turn (cells l.first) (cells l.second)) (cells l.initial.x) l.i
