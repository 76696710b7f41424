use Rattle.std.proofs.Common.{arith}
use Rattle.present.proofs.Register.{update_lt}
use Rattle.present.proofs.schedule.update.Goals as goal

pub returns-clause-small : goal.returns-clause-small
returns-clause-small c = update_lt c.args.register c.args.counter c.sbox-high.result (omega arith) (omega arith)
