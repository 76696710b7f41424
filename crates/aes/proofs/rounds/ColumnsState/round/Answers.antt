use Rattle.std.proofs.Common.{get_or}
use Rattle.aes.proofs.Columns.{round_is}
use Rattle.aes.proofs.rounds.ColumnsState.round.Goals as goal

pub returns : goal.returns
returns c =
    let s = get_or c.args.self.0 in let k = get_or c.args.key.0 in
    let e = round_is (s 0 0) (s 1 0) (s 2 0) (s 3 0) (k 0 0) (k 1 0) (k 2 0) (k 3 0) in cc
