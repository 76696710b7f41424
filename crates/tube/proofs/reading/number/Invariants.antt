use Rattle.std.proofs.Common.{◌≡◌, ◌*◌, ◌^◌, ◌<◌, take}
use Rattle.tube.specs.Read.{value}
use Rattle.tube.proofs.reading.number.Given as goal

abbrev pub invariant-loop-b : goal.invariant-loop-b
invariant-loop-b l = (l.sum ≡ value (take l.b-index l.bytes)) × (l.sum < 2 ^ (8 * l.b-index))
