use Rattle.twine.proofs.Placing.{kept_is, kept_small}
use Rattle.twine.proofs.round.kept.Goals as goal

pub invariant_of-result : goal.invariant_of-result
invariant_of-result c =
    record { small = kept_small c.args.x _ (kept_is c.args.x c.to_be_bytes-a.result c.to_be_bytes-a.ensures) }
