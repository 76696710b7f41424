-- The number, the layer and the values of each fault of an end. A carried fault keeps its own.
use Rattle.std.specs.Prelude.{ℕ}
use Rattle.refusal.specs.declared.layer.Layer.{Layer}
use Rattle.refusal.specs.declared.layer.Layer.TheVariants as layer
use Rattle.refusal.specs.declared.values.Values.{Values}
use Rattle.refusal.specs.declared.values.Values.TheVariants as values
use Rattle.mode.specs.Fault as mode
use Rattle.tube.specs.Fault as tube
use Rattle.link.specs.declared.fault.EndFault.{EndFault}
use Rattle.link.specs.declared.fault.EndFault.TheVariants.{Mode, Tube, Start, Last, Differs, Range, Old, Signed}

abbrev pub number_of : EndFault → ℕ
number_of (Mode f) = mode.number_of f
number_of (Tube f) = tube.number_of f
number_of (Start k) = 5
number_of (Last k) = 13
number_of (Differs section) = 15
number_of Range = 16
number_of (Old k h) = 17
number_of (Signed k) = 18

abbrev pub layer_of : EndFault → Layer
layer_of (Mode f) = mode.layer_of f
layer_of (Tube f) = tube.layer_of f
layer_of (Start k) = layer.End
layer_of (Last k) = layer.End
layer_of (Differs section) = layer.End
layer_of Range = layer.End
layer_of (Old k h) = layer.End
layer_of (Signed k) = layer.End

abbrev pub values_of : EndFault → Values
values_of (Mode f) = mode.values_of f
values_of (Tube f) = tube.values_of f
values_of (Start k) = values.One k
values_of (Last k) = values.One k
values_of (Differs section) = values.One (tube.count_of section)
values_of Range = values.None
values_of (Old k h) = values.Two k h
values_of (Signed k) = values.One k
