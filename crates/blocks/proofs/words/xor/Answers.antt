use Rattle.blocks.proofs.Fours.{held_xor}
use Rattle.blocks.proofs.words.xor.Goals as goal

pub returns : goal.returns
returns c q = held_xor q c.args.x c.args.y
