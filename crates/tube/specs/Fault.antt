-- The number, the layer and the values of the fault of a tube.
use Rattle.std.specs.Prelude.{ℕ}
use Rattle.refusal.specs.declared.layer.Layer.{Layer}
use Rattle.refusal.specs.declared.layer.Layer.TheVariants as layer
use Rattle.refusal.specs.declared.values.Values.{Values}
use Rattle.refusal.specs.declared.values.Values.TheVariants as values
use Rattle.tube.specs.declared.fault.Section.{Section}
use Rattle.tube.specs.declared.fault.Section.TheVariants.{Set, Number, Label, Contents, Tag, Beyond}
use Rattle.tube.specs.declared.fault.TubeFault.{TubeFault}
use Rattle.tube.specs.declared.fault.TubeFault.TheVariants.{Form}

abbrev pub number_of : TubeFault → ℕ
number_of (Form section place) = 14

abbrev pub layer_of : TubeFault → Layer
layer_of (Form section place) = layer.Tube

-- the sections counted from 1; 6 is the bytes that follow the last
abbrev pub count_of : Section → ℕ
count_of Set = 1
count_of Number = 2
count_of Label = 3
count_of Contents = 4
count_of Tag = 5
count_of Beyond = 6

-- the least and the most bytes that a section may have
abbrev pub least : Section → ℕ
least Set = 2
least Number = 1
least Label = 0
least Contents = 0
least Tag = 1
least Beyond = 0

abbrev pub most : Section → ℕ
most Set = 2
most Number = 16
most Label = 4096
most Contents = 1048576
most Tag = 16
most Beyond = 0

abbrev pub values_of : TubeFault → Values
values_of (Form section place) = values.Two (count_of section) place
