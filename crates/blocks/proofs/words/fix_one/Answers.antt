use Rattle.blocks.proofs.Fours.{held_fix1}
use Rattle.blocks.proofs.words.fix_one.Goals as goal

pub returns : goal.returns
returns c q h = held_fix1 q c.args.x h
