use Rattle.std.proofs.Common.{sym, ◌∙◌}
use Rattle.blocks.proofs.Cuts.{parts_ceil}
use Rattle.blocks.proofs.steps.count_blocks.Goals as goal

pub returns : goal.returns
returns c = c.div_ceil.ensures ∙ sym (parts_ceil c.args.b c.args.n c.requires.width)
