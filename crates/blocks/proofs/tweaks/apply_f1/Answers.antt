use Rattle.std.proofs.Common.{◌∙◌}
use Rattle.blocks.proofs.Fours.{f1_stored, f1_power}
use Rattle.blocks.proofs.tweaks.apply_f1.Goals as goal

pub returns : goal.returns
returns c =
    let e = c.store_words.ensures ∙ f1_stored c.args.block.now c.load_words.result c.requires c.load_words.ensures in
    record { block = e; power = e ∙ f1_power c.args.block.now c.requires }
