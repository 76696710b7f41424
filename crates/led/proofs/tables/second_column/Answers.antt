use Rattle.std.proofs.Common.{◌%◌, arith}
use Rattle.std.proofs.lemmas.List.FromFn.{get_or-map-range_with_len}
use Rattle.led.specs.Led.{rc}
use Rattle.led.specs.Columns.{spread}
use Rattle.led.proofs.tables.second_column.Goals as goal

pub returns : goal.returns
unfolding rc
returns c = get_or-map-range_with_len spread 0 48 (c.args.round % 48) (c.args.round % 48) 0 (omega arith) (omega arith)
