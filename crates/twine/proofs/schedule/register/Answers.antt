use Rattle.std.proofs.Common.{ℕ, List, ◌/◌, ◌%◌, cond, eqb, get_or, sym, ap, ◌∙◌, rules}
use Rattle.std.proofs.lemmas.List.FromFn.{fill_by_all}
use Rattle.bits.specs.Nibbles.{nibbles}
use Rattle.bits.proofs.Listed.{listed}
use Rattle.twine.proofs.schedule.register.Goals as goal

pub returns : goal.returns
unfolding nibbles
returns c =
    let m = c.from_fn.ensures.items in
    let key : List ℕ = c.args.key.now in
    fill_by_all (λ i. cond (eqb (i % 2) 0) (get_or key (i / 2) 0 / 16) (get_or key (i / 2) 0 % 16)) c.from_fn.result 20 0 m.long (λ i h. let z = m.at i 0 h in search rules)
    ∙ sym (ap nibbles (listed 10 key c.told-key))
