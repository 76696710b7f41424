use Rattle.std.proofs.Common.{◌∙◌, arith}
use Rattle.aes_circuit.proofs.PlaneBytes.{out_is}
use Rattle.aes_circuit.proofs.planes.PlanesState.to_bytes.Goals as goal

pub returns : goal.returns
returns c =
    c.to_le_bytes.ensures
    ∙ out_is c.out_of_planes-x.result _ c.args.self.even c.args.self.odd (omega arith) (omega arith) c.out_of_planes-x.ensures
