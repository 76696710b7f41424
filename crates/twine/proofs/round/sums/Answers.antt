use Rattle.std.proofs.Common.{ℕ, List, [], ◌∷◌, ◌∙◌, arith}
use Rattle.bits.proofs.Listed.{AllBelow, below_at, eight_eq}
use Rattle.twine.proofs.Placing.{sums_are}
use Rattle.twine.proofs.round.sums.Goals as goal

pub invariant_of-result : goal.invariant_of-result
invariant_of-result c =
    let m : List ℕ =
    c.mix.result.value ∷ c.mix-2.result.value ∷ c.mix-3.result.value ∷ c.mix-4.result.value ∷ c.mix-5.result.value ∷ c.mix-6.result.value ∷ c.mix-7.result.value ∷ c.mix-8.result.value ∷ [] in
    let small : AllBelow 16 m =
    (c.mix.result.small, (c.mix-2.result.small, (c.mix-3.result.small, (c.mix-4.result.small, (c.mix-5.result.small, (c.mix-6.result.small, (c.mix-7.result.small, (c.mix-8.result.small, tt)))))))) in
    record { small = below_at 16 (omega arith) m small }

pub returns : goal.returns
returns c =
    let key = c.args.key.now in
    eight_eq c.mix.ensures c.mix-2.ensures c.mix-3.ensures c.mix-4.ensures c.mix-5.ensures c.mix-6.ensures c.mix-7.ensures c.mix-8.ensures
    ∙ sums_are c.args.x key.bits key.spaced c.to_be_bytes-b.result c.to_be_bytes-b.ensures
