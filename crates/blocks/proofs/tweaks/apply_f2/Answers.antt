use Rattle.std.proofs.Common.{◌∙◌}
use Rattle.blocks.proofs.Fours.{f2_stored}
use Rattle.blocks.proofs.tweaks.apply_f2.Goals as goal

pub returns : goal.returns
returns c = c.store_words.ensures ∙ f2_stored c.args.block.now c.load_words.result c.requires c.load_words.ensures
