use Rattle.twine.proofs.Placing.{woven_small}
use Rattle.twine.proofs.round.last_round.Goals as goal

pub invariant_of-joined : goal.invariant_of-joined
invariant_of-joined c = record { small = woven_small c.kept.result.values c.sums.result.values c.kept.result.small c.sums.result.small }
