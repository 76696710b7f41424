use Rattle.std.proofs.Common.{◌≡◌, ℕ, ◌-◌, ◌<◌, sym, refl, subst, arith}
use Rattle.std.proofs.lemmas.List.FromFn.{get_or-map-range_with_len}
use Rattle.bits.proofs.Everywhere.{everywhere}
use Rattle.twine.specs.Split.{mixed}
use Rattle.twine.proofs.round.mix.Goals as goal

mixed_small : (b : ℕ) → b < 256 → mixed b < 16
unfolding mixed
mixed_small b h = let z : mixed b - 15 ≡ 0 = everywhere 0 256 (λ k. mixed k - 15) (λ k. 0) refl b h in omega arith

pub returns : goal.returns
unfolding mixed
returns c = get_or-map-range_with_len mixed 0 256 c.args.byte c.args.byte 0 (omega arith) (omega arith)

pub invariant_of-result : goal.invariant_of-result
unfolding mixed
invariant_of-result c =
    record { small = subst (λ t. t < 16) (sym (get_or-map-range_with_len mixed 0 256 c.args.byte c.args.byte 0 (omega arith) (omega arith))) (mixed_small c.args.byte (omega arith)) }
