use Rattle.led.proofs.Xors.{crossed_nibs}
use Rattle.led.proofs.columns.crossed.Goals as goal

pub returns : goal.returns
returns c = crossed_nibs c.args.x c.args.y
