use Rattle.std.proofs.Common.{◌≡◌, ℕ, suc, ◌<◌, List, length, sym, ap, ◌∙◌, arith, rules}
use Rattle.std.proofs.lemmas.List.{get_or-take, length-take}
use Rattle.bits.specs.Nibbles.{nibbles}
use Rattle.twine.specs.Twine.{rounds, permuted, substituted, RK, enc}
use Rattle.twine.specs.Split.{split, key_words}
use Rattle.twine.specs.declared.round_key.SpacedKey.{SpacedKey}
use Rattle.twine.proofs.Keys.{rounds_none, rounds_more, at_round}
use Rattle.twine.proofs.round.encrypted.Goals as goal

abbrev words : SpacedKey → List ℕ
words k = key_words k.bits

pub loop-key-init : goal.loop-key-init
loop-key-init c = λ key scheduled. sym (rounds_none (RK (nibbles key)) (split c.args.state))

pub loop-key-preserved : goal.loop-key-preserved
loop-key-preserved c =
    λ key scheduled.
    let keys = c.args.keys.now in
    let i = c.loop-key.key-index in
    let k = c.key-item.result in
    let rk = RK (nibbles key) in
    let l : i < 35 = let n = length-take 35 keys in omega arith in
    let e : words k ≡ rk (suc i) = ap words (c.key-item.is ∙ get_or-take 35 keys i k l) ∙ at_round words key keys scheduled i k (omega arith) in
    c.round-x.ensures ∙ ap (λ y. permuted (substituted y (split c.loop-key.x))) e ∙ ap (λ s. permuted (substituted (rk (suc i)) s)) (c.loop-key.invariant key scheduled)
    ∙ sym (rounds_more rk (split c.args.state) i)

pub returns : goal.returns
unfolding enc
returns c =
    λ key scheduled.
    let keys = c.args.keys.now in
    let rk = RK (nibbles key) in
    let i : c.loop-key.key-index ≡ 35 = let n = length-take 35 keys in let m : length keys ≡ 36 = search rules in omega arith in
    c.last_round.ensures
    ∙ ap (λ y. substituted y (split c.loop-key.x)) (at_round words key keys scheduled 35 c.index-keys-35.result (omega arith))
    ∙ ap (substituted (rk 36)) (c.loop-key.invariant key scheduled ∙ ap (rounds rk (split c.args.state)) i)
