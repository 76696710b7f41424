use Rattle.std.proofs.Common.{◌≡◌, ◌+◌, ◌≢◌, [], get_or, replicate, refl, sym, ap, ◌∙◌, arith, length-set, get_or-set_same, get_or-set_other, below_more}
use Rattle.std.proofs.lemmas.List.FromFn.{fill_by_all}
use Rattle.bits.proofs.Everywhere.{everywhere}
use Rattle.aes.specs.Fips197.{KeyExpansion, Rcon, SubWord}
use Rattle.aes.specs.declared.schedule.TheConstants.{RCON}
use Rattle.aes.specs.Rounds.{round_words, round_keys}
use Rattle.aes.proofs.Words.{first_words, next_words}
use Rattle.aes.proofs.schedule.key_expansion.Goals as goal

pub loop-round-init : goal.loop-round-init
loop-round-init g c = (refl, λ k h. let z : k ≡ 0 = omega arith in ap (λ i. get_or (replicate 11 c.columns_of-keys.result) i []) z ∙ c.columns_of-keys.ensures ∙ first_words c.args.key.now ∙ ap (round_words (KeyExpansion c.args.key.now)) (sym z))

pub loop-round-preserved : goal.loop-round-preserved
loop-round-preserved g c =
    let keys = c.loop-round.keys in let j = c.loop-round.round in
    let k : get_or RCON j 0 ≡ Rcon (j + 1) = everywhere 0 10 (λ i. get_or RCON i 0) (λ i. Rcon (i + 1)) refl j (omega arith) in
    let s = c.sub_word.ensures ∙ ap SubWord c.rot_word.ensures in
    let e = next_words c.args.key.now j (omega arith) (get_or keys j []) c.sub_word.result (get_or RCON j 0) _ _ _ (c.loop-round.invariant.1 j (omega arith)) s k refl refl refl in (
      length-set keys (j + 1) _ ∙ c.loop-round.invariant.0,
      below_more _ (j + 1)
          (λ i h. let n : i ≢ j + 1 = omega arith in get_or-set_other keys (j + 1) i _ [] n ∙ c.loop-round.invariant.1 i h)
          (get_or-set_same keys (j + 1) _ [] (omega arith) ∙ e),
    )

pub returns : goal.returns
unfolding round_keys
returns g c = fill_by_all (round_words (KeyExpansion c.args.key.now)) c.loop-round.keys 11 [] c.loop-round.invariant.0 (λ k h. c.loop-round.invariant.1 k (omega arith))
