-- The number, the layer and the values of each fault of a cipher.
use Rattle.std.specs.Prelude.{ℕ}
use Rattle.refusal.specs.declared.layer.Layer.{Layer}
use Rattle.refusal.specs.declared.layer.Layer.TheVariants as layer
use Rattle.refusal.specs.declared.values.Values.{Values}
use Rattle.refusal.specs.declared.values.Values.TheVariants as values
use Rattle.cipher.specs.declared.fault.CipherFault.{CipherFault}
use Rattle.cipher.specs.declared.fault.CipherFault.TheVariants.{KeyLength, BlockLength, Spent}

abbrev pub number_of : CipherFault → ℕ
number_of (KeyLength n) = 1
number_of (BlockLength n) = 2
number_of Spent = 3

abbrev pub layer_of : CipherFault → Layer
layer_of (KeyLength n) = layer.Cipher
layer_of (BlockLength n) = layer.Cipher
layer_of Spent = layer.Cipher

abbrev pub values_of : CipherFault → Values
values_of (KeyLength n) = values.One n
values_of (BlockLength n) = values.One n
values_of Spent = values.None
