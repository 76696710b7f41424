use Rattle.std.proofs.Common.{◌∙◌, ap₂}
use Rattle.aes_circuit.specs.Planes.{bytes_of}
use Rattle.aes_circuit.proofs.PlaneSteps.{second_is}
use Rattle.aes_circuit.proofs.planes.Planes.second_rows.Goals as goal

pub returns : goal.returns
returns c = ap₂ bytes_of c.second.ensures c.second-2.ensures ∙ second_is c.args.self.even c.args.self.odd
