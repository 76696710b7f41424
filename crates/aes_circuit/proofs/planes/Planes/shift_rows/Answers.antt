use Rattle.std.proofs.Common.{◌∙◌, ap₂}
use Rattle.aes_circuit.specs.Planes.{bytes_of}
use Rattle.aes_circuit.proofs.PlaneSteps.{shift_is}
use Rattle.aes_circuit.proofs.planes.Planes.shift_rows.Goals as goal

pub returns : goal.returns
returns c = ap₂ bytes_of c.shifted.ensures c.shifted-2.ensures ∙ shift_is c.args.self.even c.args.self.odd
