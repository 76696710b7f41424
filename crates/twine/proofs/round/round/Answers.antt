use Rattle.twine.proofs.Placing.{permuted_small}
use Rattle.twine.proofs.round.round.Goals as goal

pub invariant_of-joined : goal.invariant_of-joined
invariant_of-joined c = record { small = permuted_small c.kept.result.values c.sums.result.values c.kept.result.small c.sums.result.small }
