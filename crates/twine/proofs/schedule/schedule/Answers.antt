use Rattle.std.proofs.Common.{◌≡◌, ℕ, suc, ◌+◌, ◌-◌, ◌<◌, length, [], map, get_or, set, replicate, sym, refl, ap, ◌∙◌, subst, arith, length-set, below_more}
use Rattle.std.proofs.lemmas.List.{get_or-set_same, get_or-set_other, map-set, length-map}
use Rattle.std.proofs.lemmas.List.FromFn.{fill_by_all}
use Rattle.bits.specs.Nibbles.{nibbles}
use Rattle.bits.proofs.Everywhere.{everywhere}
use Rattle.twine.specs.Twine.{WK, RK, CON, power, round_key, update}
use Rattle.twine.specs.Split.{round_keys}
use Rattle.twine.specs.declared.schedule.TheConstants.{CONSTANTS}
use Rattle.twine.proofs.Keys.{register_none, register_more}
use Rattle.twine.proofs.schedule.schedule.Goals as goal

pub returns : goal.returns
unfolding round_keys
returns g c =
    let ws = map g.K.RoundKey.words c.loop-r.keys in
    fill_by_all (λ i. RK (nibbles c.args.key.now) (suc i)) ws 36 [] (length-map c.loop-r.keys g.K.RoundKey.words ∙ c.loop-r.invariant.1)
    (λ j h. c.loop-r.invariant.2 j (omega arith))

pub loop-r-init : goal.loop-r-init
loop-r-init g c =
    let K = nibbles c.args.key.now in
    let v = g.K.RoundKey.words c.of_register-keys.result in
    let e : c.register-wk.result.values ≡ WK K 0 = c.register-wk.ensures ∙ sym (register_none K) in (
      e,
      refl,
      below_more (λ j. get_or (replicate 36 v) j [] ≡ RK K (suc j)) 0 (λ j h. absurd (omega arith)) (c.of_register-keys.ensures ∙ ap round_key e),
    )

pub updated-wk-requires : goal.updated-wk-requires
updated-wk-requires g c =
    let r = c.loop-r.r in
    let z : get_or CONSTANTS r 0 - 63 ≡ 0 = everywhere 0 35 (λ i. get_or CONSTANTS i 0 - 63) (λ i. 0) refl r (omega arith) in omega arith

pub loop-r-preserved : goal.loop-r-preserved
unfolding power
loop-r-preserved g c =
    let K = nibbles c.args.key.now in
    let r : ℕ = c.loop-r.r in
    let w = g.K.RoundKey.words in
    let ws = map w c.loop-r.keys in
    let v = c.of_register.result in
    let long : length ws ≡ 36 = length-map c.loop-r.keys w ∙ c.loop-r.invariant.1 in
    let k : get_or CONSTANTS r 0 ≡ CON (suc r) = everywhere 0 35 (λ i. get_or CONSTANTS i 0) (λ i. CON (suc i)) refl r (omega arith) in
    let e : c.updated-wk.result.values ≡ WK K (r + 1) =
    c.updated-wk.ensures ∙ ap (λ k. update k c.loop-r.wk.values) k ∙ ap (update (CON (suc r))) c.loop-r.invariant.0 ∙ sym (register_more K r) in (
      e,
      length-set c.loop-r.keys (r + 1) v ∙ c.loop-r.invariant.1,
      subst (λ ks. (j : ℕ) → j < r + 1 + 1 → get_or ks j [] ≡ RK K (suc j)) (sym (map-set w c.loop-r.keys (r + 1) v))
          (below_more (λ j. get_or (set ws (r + 1) (w v)) j [] ≡ RK K (suc j)) (r + 1)
          (λ j h. get_or-set_other ws (r + 1) j (w v) [] (omega arith) ∙ c.loop-r.invariant.2 j h)
          (get_or-set_same ws (r + 1) (w v) [] (omega arith) ∙ c.of_register.ensures ∙ ap round_key e)),
    )
