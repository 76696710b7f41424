use Rattle.std.proofs.Common.{◌≡◌, ℕ, suc, List, length, sym, ap, ◌∙◌, arith, rules}
use Rattle.bits.specs.Nibbles.{nibbles}
use Rattle.twine.specs.Twine.{rounds, permuted, substituted, RK, enc}
use Rattle.twine.proofs.Keys.{rounds_none, rounds_more, at_round}
use Rattle.twine_circuit.specs.Halves.{words, key_words, unshuffled}
use Rattle.twine_circuit.specs.declared.round_key.LaneKey.{LaneKey}
use Rattle.twine_circuit.proofs.round.encrypted.Goals as goal

abbrev held : LaneKey → List ℕ
held k = key_words k.lanes

pub loop-key-init : goal.loop-key-init
loop-key-init c = λ key scheduled. sym (rounds_none (RK (nibbles key)) (words c.args.state))

pub loop-key-preserved : goal.loop-key-preserved
loop-key-preserved c =
    λ key scheduled.
    let keys = c.args.keys.now in
    let i = c.loop-key.key-index in
    let rk = RK (nibbles key) in
    let m : length keys ≡ 36 = search rules in
    let e = at_round held key keys scheduled i (record { lanes = 0 }) (omega arith) in
    c.round-x.ensures ∙ ap (λ k. permuted (substituted k (words c.loop-key.x))) e
    ∙ ap (λ s. permuted (substituted (rk (suc i)) s)) (c.loop-key.invariant key scheduled)
    ∙ sym (rounds_more rk (words c.args.state) i)

pub returns : goal.returns
unfolding enc
returns c =
    λ key scheduled.
    let rk = RK (nibbles key) in
    let s = words c.args.state in
    let m : length c.args.keys.now ≡ 36 = search rules in
    let i : c.loop-key.key-index ≡ 36 = omega arith in
    ap unshuffled (c.loop-key.invariant key scheduled ∙ ap (rounds rk s) i ∙ rounds_more rk s 35)
