use Rattle.std.proofs.Common.{arith}
use Rattle.std.proofs.lemmas.List.FromFn.{get_or-map-range_with_len}
use Rattle.aes.specs.Field.{x_times, times}
use Rattle.aes.specs.Sbox.{S}
use Rattle.aes.specs.Tables.{te0}
use Rattle.aes.proofs.tables.te0.Goals as goal

-- antt computes the word at each byte, and compares it with the table's
pub returns : goal.returns
unfolding te0 x_times times S
returns c = get_or-map-range_with_len te0 0 256 c.args.byte c.args.byte 0 (omega arith) (omega arith)
