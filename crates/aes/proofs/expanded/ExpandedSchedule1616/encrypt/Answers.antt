use Rattle.std.proofs.Common.{◌≡◌, ap, ◌∙◌, arith, rules}
use Rattle.aes.specs.Fips197.{KeyExpansion, rounds}
use Rattle.aes.proofs.Steps.{after_first, key_at, next_at, start_step, round_step, last_step}
use Rattle.aes.proofs.expanded.ExpandedSchedule1616.encrypt.Goals as goal

pub loop-key-init : goal.loop-key-init
loop-key-init g c =
    let bytes = g.S.State.bytes in let t = c.args.self.now in let w = KeyExpansion t.key in
    start_step w c.args.block.now _ _ _ c.of_bytes.ensures (key_at bytes w t.keys t.whole 0 (omega arith) c.index-self-0.result) c.plus-s.ensures

pub loop-key-preserved : goal.loop-key-preserved
loop-key-preserved g c =
    let bytes = g.S.State.bytes in let t = c.args.self.now in let w = KeyExpansion t.key in let i = c.loop-key.key-index in
    let k = c.key-item.result in
    round_step w c.args.block.now _ _ _ i c.loop-key.invariant
    (ap bytes (c.key-item.is ∙ search (rules, after_first)) ∙ next_at bytes w t.keys t.whole i (omega arith) k) c.round-s.ensures

pub returns : goal.returns
returns g c =
    let bytes = g.S.State.bytes in let t = c.args.self.now in let w = KeyExpansion t.key in
    let n : c.loop-key.key-index ≡ 9 = omega arith in
    c.to_bytes.ensures
    ∙ last_step t.key c.args.block.now _ _ _ (c.loop-key.invariant ∙ ap (rounds w c.args.block.now) n)
    (key_at bytes w t.keys t.whole 10 (omega arith) c.index-self-10.result) c.last_round.ensures
