use Rattle.std.proofs.Common.{◌∙◌, ap₂}
use Rattle.aes_circuit.specs.Planes.{bytes_of}
use Rattle.aes_circuit.proofs.PlaneSteps.{next_is}
use Rattle.aes_circuit.proofs.planes.Planes.next_rows.Goals as goal

pub returns : goal.returns
returns c = ap₂ bytes_of c.next.ensures c.next-2.ensures ∙ next_is c.args.self.even c.args.self.odd
