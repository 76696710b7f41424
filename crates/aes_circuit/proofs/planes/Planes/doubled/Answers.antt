use Rattle.std.proofs.Common.{arith}
use Rattle.aes_circuit.proofs.PlaneSteps.{double_is}
use Rattle.aes_circuit.proofs.planes.Planes.doubled.Goals as goal

pub returns : goal.returns
returns c = double_is c.args.self.even c.args.self.odd (omega arith)
