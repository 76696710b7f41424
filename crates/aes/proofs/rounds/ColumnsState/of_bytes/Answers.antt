use Rattle.std.proofs.Common.{ap, ◌∙◌, arith}
use Rattle.aes.specs.Fips197.{state_of}
use Rattle.aes.proofs.Columns.{columns_back}
use Rattle.aes.proofs.rounds.ColumnsState.of_bytes.Goals as goal

pub returns : goal.returns
returns c = ap state_of c.columns_of.ensures ∙ columns_back c.args.block.now (omega (arith, c.told-block)) (c.fits-block)
