-- The number, the layer and the values of each fault of a mode. A fault of the cipher keeps its own.
use Rattle.std.specs.Prelude.{ℕ}
use Rattle.refusal.specs.declared.layer.Layer.{Layer}
use Rattle.refusal.specs.declared.layer.Layer.TheVariants as layer
use Rattle.refusal.specs.declared.values.Values.{Values}
use Rattle.refusal.specs.declared.values.Values.TheVariants as values
use Rattle.cipher.specs.Fault as cipher
use Rattle.mode.specs.declared.set.field.SetField.{SetField}
use Rattle.mode.specs.declared.set.field.SetField.TheVariants as field
use Rattle.mode.specs.declared.fault.ModeFault.{ModeFault}
use Rattle.mode.specs.declared.fault.ModeFault.TheVariants.{Cipher, Set, Work, Foreign, Nonce, Long, Part, Short, Tag}

-- the fields of a set by number, in the order of its rule
abbrev pub field_number : SetField → ℕ
field_number field.Code = 1
field_number field.Width = 2
field_number field.Nonce = 3
field_number field.Tag = 4

abbrev pub number_of : ModeFault → ℕ
number_of (Cipher f) = cipher.number_of f
number_of (Set f) = 4
number_of (Work length) = 6
number_of (Foreign code width) = 7
number_of (Nonce length) = 8
number_of (Long label contents) = 9
number_of (Part wanted) = 10
number_of (Short count left) = 11
number_of (Tag count) = 12

abbrev pub layer_of : ModeFault → Layer
layer_of (Cipher f) = cipher.layer_of f
layer_of (Set f) = layer.Mode
layer_of (Work length) = layer.Mode
layer_of (Foreign code width) = layer.Mode
layer_of (Nonce length) = layer.Mode
layer_of (Long label contents) = layer.Mode
layer_of (Part wanted) = layer.Mode
layer_of (Short count left) = layer.Mode
layer_of (Tag count) = layer.Mode

abbrev pub values_of : ModeFault → Values
values_of (Cipher f) = cipher.values_of f
values_of (Set f) = values.One (field_number f)
values_of (Work length) = values.One length
values_of (Foreign code width) = values.Two code width
values_of (Nonce length) = values.One length
values_of (Long label contents) = values.Two label contents
values_of (Part wanted) = values.One wanted
values_of (Short count left) = values.Two count left
values_of (Tag count) = values.One count
