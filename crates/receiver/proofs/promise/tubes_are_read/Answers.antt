use Rattle.receiver.proofs.Written.{readable}
use Rattle.receiver.proofs.promise.tubes_are_read.Goals as goal

pub returns : goal.returns
returns c = readable
