use Rattle.std.proofs.Common.{refl, arith}
use Rattle.aes.specs.Sbox.{S}
use Rattle.aes.proofs.Inverse.{S_law}
use Rattle.aes.proofs.tables.sub_byte.Goals as goal

pub returns : goal.returns
unfolding S
returns c = record { is = refl; law = S_law c.args.byte (omega arith) }
