use Rattle.aes_circuit.proofs.PlaneSteps.{plus_is}
use Rattle.aes_circuit.proofs.planes.PlanesState.plus.Goals as goal

pub returns : goal.returns
returns c = plus_is c.args.self.even c.args.self.odd c.args.key.even c.args.key.odd
