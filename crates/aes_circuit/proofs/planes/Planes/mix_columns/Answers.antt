use Rattle.aes_circuit.specs.Planes.{bytes}
use Rattle.aes_circuit.proofs.PlaneSteps.{mixed_is, bytes_lt}
use Rattle.aes_circuit.proofs.planes.Planes.mix_columns.Goals as goal

pub returns : goal.returns
returns c =
    mixed_is (bytes c.args.self) (bytes c.next_rows-a.result) (bytes c.plus-y.result) (bytes c.second_rows-z.result) (bytes c.doubled-d.result) (bytes c.plus.result)
    (bytes c.plus-2.result) (bytes_lt c.args.self.even c.args.self.odd) c.next_rows-a.ensures c.plus-y.ensures c.second_rows-z.ensures c.doubled-d.ensures
    c.plus.ensures c.plus-2.ensures
