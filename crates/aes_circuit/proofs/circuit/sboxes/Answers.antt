use Rattle.aes_circuit.specs.SboxCircuit.{sboxes}
use Rattle.aes_circuit.proofs.SboxLanes.{staged}
use Rattle.aes_circuit.proofs.circuit.sboxes.Goals as goal

pub returns : goal.returns
unfolding sboxes
returns c =
    let T = c.top.ensures in
    staged 0xffff_ffff_ffff_ffff c.args.p T.low T.high T.sums c.norm.ensures c.inverse-t.ensures c.products.ensures c.products-2.ensures c.bottom.ensures
