use Rattle.std.proofs.Common.{◌∙◌, ap₂}
use Rattle.aes_circuit.specs.Planes.{bytes_of}
use Rattle.aes_circuit.proofs.PlaneSteps.{sub_is}
use Rattle.aes_circuit.proofs.planes.Planes.sub_bytes.Goals as goal

pub returns : goal.returns
returns c =
    ap₂ bytes_of c.packed.ensures c.packed-2.ensures ∙ sub_is c.args.self.even c.args.self.odd c.sboxes.result c.sboxes.ensures
