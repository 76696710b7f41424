use Rattle.std.proofs.Common.{◌≡◌, ℕ, ◌+◌, ◌/◌, ◌%◌, ◌^◌, ◌<◌, ◌≢◌, [], ◌++◌, length, get_or, set, append-nil, sym, ap, ◌∙◌, arith, length-set, get_or-set_other, get_or-set_same, rules, below_more}
use Rattle.present.specs.Present.{updated, round_key}
use Rattle.present.specs.Block.{number}
use Rattle.present.specs.RoundKeys.{pLayers}
use Rattle.present.proofs.Register.{register_none, register_more, round_key_of}
use Rattle.present.specs.Bytes.{number_ten}
use Rattle.present.proofs.schedule.KeySchedule.of_key.Goals as goal

pub loop-i-init : goal.loop-i-init
loop-i-init c =
    let l : length c.args.key.now ≡ 10 = search rules in
    let n = number_ten c.args.key.now l in
    let z = register_none (number c.args.key.now) in
    let p : c.copy_from_slice.new.self ++ [] ≡ c.args.key.now = ap (λ xs. xs ++ []) c.copy_from_slice.ensures.after ∙ append-nil c.args.key.now in
    let w = rw p at c.from_be_bytes-register.ensures in
    (omega arith, omega arith, omega arith, λ j h. absurd (omega arith))

pub loop-i-preserved : goal.loop-i-preserved
loop-i-preserved c =
    let K : ℕ = number c.args.key.now in
    let v : ℕ = c.moved_back.result in
    let i : ℕ = c.loop-i.i in
    let e : c.loop-i.register / 2 ^ 16 ≡ round_key K (i + 1) = ap (λ x. x / 2 ^ 16) c.loop-i.invariant.0 ∙ round_key_of K i in
    let next : c.update-register.result ≡ updated (i + 1) c.loop-i.register = c.update-register.ensures.is in
    let len : i < length c.loop-i.round_key-items = omega arith in
    let here : pLayers (i % 3) (get_or (set c.loop-i.round_key-items i v) i 0) ≡ round_key K (i + 1) =
    ap (pLayers (i % 3)) (get_or-set_same c.loop-i.round_key-items i v 0 len) ∙ c.moved_back.ensures ∙ e in (
      next ∙ ap (updated (i + 1)) c.loop-i.invariant.0 ∙ sym (register_more K i),
      omega arith,
      length-set c.loop-i.round_key-items i v ∙ c.loop-i.invariant.2,
      below_more (λ j. pLayers (j % 3) (get_or (set c.loop-i.round_key-items i v) j 0) ≡ round_key K (j + 1)) i
          (λ j h. let ne : j ≢ i = omega arith in ap (pLayers (j % 3)) (get_or-set_other c.loop-i.round_key-items i j v 0 ne) ∙ c.loop-i.invariant.3 j h) here,
    )
