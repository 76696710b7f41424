use Rattle.std.proofs.Common.{arith}
use Rattle.blocks.proofs.Padded.{g_turned}
use Rattle.blocks.proofs.tweaks.apply_g.Goals as goal

pub returns-then-n-ge2 : goal.returns-then-n-ge2
returns-then-n-ge2 c = g_turned c.args.block.now c.rotate_left.new.self (omega arith) c.rotate_left.ensures.after
