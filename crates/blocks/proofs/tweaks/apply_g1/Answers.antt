use Rattle.std.proofs.Common.{◌∙◌}
use Rattle.blocks.proofs.Fours.{g1_stored, g1_power}
use Rattle.blocks.proofs.tweaks.apply_g1.Goals as goal

pub returns : goal.returns
returns c =
    let e = c.store_words.ensures ∙ g1_stored c.args.block.now c.load_words.result c.requires c.load_words.ensures in
    record { block = e; power = e ∙ g1_power c.args.block.now c.requires }
