use Rattle.std.proofs.Common.{ap₂, arith}
use lib.Bits.{bit_xor}
use Rattle.twine_circuit.proofs.Rounds.{round_is}
use Rattle.twine_circuit.proofs.round.round.Goals as goal

pub returns : goal.returns
returns c =
    round_is c.args.x c.args.key.lanes c.sub_lanes.result _ (omega arith) (omega arith) c.sub_lanes.ensures (ap₂ bit_xor c.turned.ensures c.crossed.ensures)
