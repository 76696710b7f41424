use Rattle.std.proofs.Common.{◌≡◌}
use Rattle.twine_circuit.proofs.Packing.{first}
use Rattle.twine_circuit.proofs.lanes.packed.Given as goal

abbrev pub invariant-loop-i : goal.invariant-loop-i
invariant-loop-i l = l.x ≡ first l.fn.words.values l.i
