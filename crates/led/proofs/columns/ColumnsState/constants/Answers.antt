use Rattle.std.proofs.Common.{◌%◌, [], refl, ap, ◌∙◌, arith}
use Rattle.bits.proofs.Everywhere.{everywhere}
use Rattle.led.specs.Led.{rc, constants}
use Rattle.led.specs.Columns.{spread, columns}
use Rattle.led.proofs.columns.ColumnsState.constants.Goals as goal

pub returns : goal.returns
unfolding rc
returns c =
    ap (λ b. columns 0x5423 b 0 0) c.second_column.ensures
    ∙ everywhere [] 48 (λ i. columns 0x5423 (spread i) 0 0) (constants 80) refl (c.args.round % 48) (omega arith)
