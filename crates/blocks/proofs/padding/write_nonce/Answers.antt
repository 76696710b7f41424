use Rattle.std.proofs.Common.{arith, length-set}
use Rattle.blocks.proofs.Padded.{started}
use Rattle.blocks.proofs.padding.write_nonce.Goals as goal

pub returns : goal.returns
returns c = started c.args.block.now c.fill.new.self c.args.nonce.now c.copy_from_slice.new.self c.args.param _ c.requires (c.fill.ensures.after (λ y e. e)) c.copy_from_slice.ensures.after (simp length-set (omega arith))
