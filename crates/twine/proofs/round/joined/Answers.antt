use Rattle.std.proofs.Common.{◌≡◌, ◌+◌, ◌-◌, sym, ap, ◌∙◌, arith, rules}
use Rattle.bits.proofs.Listed.{listed}
use Rattle.twine.proofs.States.{split_is}
use Rattle.twine.proofs.Placing.{rest}
use Rattle.twine.proofs.round.joined.Goals as goal

pub returns : goal.returns
returns c =
    let n = c.args.words in
    let i : c.loop-i.i ≡ 16 = omega arith in
    let e : c.loop-i.x + rest n.values 0 ≡ rest n.values 16 = ap (λ k. c.loop-i.x + rest n.values (16 - k)) (sym i) ∙ c.loop-i.invariant in
    split_is n.values n.small c.loop-i.x (omega arith) ∙ sym (listed 16 n.values (search rules))
