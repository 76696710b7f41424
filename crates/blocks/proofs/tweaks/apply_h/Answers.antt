use Rattle.std.proofs.Common.{◌∙◌}
use Rattle.blocks.proofs.Fours.{h_stored, h_power}
use Rattle.blocks.proofs.tweaks.apply_h.Goals as goal

pub returns : goal.returns
returns c =
    let e = c.store_words.ensures ∙ h_stored c.args.block.now c.load_words.result c.requires c.load_words.ensures in
    record { block = e; power = e ∙ h_power c.args.block.now c.requires }
