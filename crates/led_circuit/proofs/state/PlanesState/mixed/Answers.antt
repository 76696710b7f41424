use Rattle.std.proofs.Common.{ap, ◌∙◌, arith}
use Rattle.bits.specs.Linear.{value}
use Rattle.led.specs.Led.{MixColumnsSerial, ShiftRows}
use Rattle.led_circuit.specs.Planes.{cells, mixing}
use Rattle.led_circuit.proofs.RoundLayers.{linear_layers}
use Rattle.led_circuit.proofs.state.PlanesState.mixed.Goals as goal

pub returns : goal.returns
returns c =
    ap cells (c.mixed_columns.ensures ∙ ap (value 64 mixing) c.shifted_rows.ensures) ∙ linear_layers c.sub_cells.result (omega arith)
    ∙ ap (λ m. MixColumnsSerial (ShiftRows m)) c.sub_cells.ensures
