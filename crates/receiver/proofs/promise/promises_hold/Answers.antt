use Rattle.receiver.proofs.Whole.{promise}
use Rattle.receiver.proofs.promise.promises_hold.Goals as goal

pub returns : goal.returns
returns c = promise
