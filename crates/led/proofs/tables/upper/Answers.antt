use Rattle.std.proofs.Common.{◌/◌, ◌%◌, arith}
use lib.Bits.{bit_xor}
use Rattle.std.proofs.lemmas.List.FromFn.{get_or-map-range_with_len}
use Rattle.led.specs.Led.{times}
use Rattle.led.specs.Columns.{part}
use Rattle.led.proofs.tables.upper.Goals as goal

pub returns : goal.returns
unfolding part times
returns c = get_or-map-range_with_len (λ i. bit_xor (part 0 (i / 16)) (part 1 (i % 16))) 0 256 c.args.byte c.args.byte 0 (omega arith) (omega arith)
