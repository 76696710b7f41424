use Rattle.std.proofs.Common.{length, ap, ◌∙◌}
use Rattle.blocks.specs.Blocks.{◌⊕◌}
use Rattle.blocks.specs.Pads.{ozp}
use Rattle.blocks.proofs.Padded.{laid}
use Rattle.blocks.proofs.padding.write_ozp.Goals as goal

pub returns : goal.returns
returns c =
    let F = c.fill.new.self in
    c.xor_ozp.ensures ∙ ap (λ n. F ⊕ ozp n c.args.x.now) c.fill.ensures.len
    ∙ laid (length c.args.block.now) F c.args.x.now c.requires (c.fill.ensures.after (λ y e. e))
