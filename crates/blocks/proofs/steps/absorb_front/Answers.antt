use Rattle.std.proofs.Common.{◌<◌, length, take, drop, ap, ◌∙◌, arith, length-drop}
use Rattle.blocks.proofs.Spends.{width_bounds, spent_front}
use Rattle.blocks.proofs.Turns.{front_turn}
use Rattle.blocks.proofs.steps.absorb_front.Goals as goal

pub loop-rest-preserved : goal.loop-rest-preserved
loop-rest-preserved g c =
    let b = g.C.Cipher.width c.args.cipher.now in
    let E = g.C.Cipher.E c.args.cipher.now in
    let hb = (width_bounds b (g.met.C.Cipher.widths c.args.cipher.now)).0 in
    let hl = g.met.C.Allowance.bounded c.loop-rest.cipher in
    let i = c.loop-rest.invariant in
    let r = c.run_one.ensures.ran in
    let X = c.loop-rest.rest.now in
    let h : b < length X = omega arith in
    let f = c.split_at.ensures.front ∙ ap (λ k. take k X) c.requires.width in
    let d = c.split_at.ensures.back ∙ ap (λ k. drop k X) c.requires.width in
    let s = c.run_one.ensures.block ∙ ap (λ e. e c.xor_into.new.block) i.1 ∙ ap E c.xor_into.ensures in
    let t = front_turn b E c.loop-rest.state c.run_one.new.block X c.split_at.result.0.now c.split_at.result.1.now hb h f d s in
    let l = spent_front b (length X) (length c.split_at.result.1.now) _ _ hb h (ap length d ∙ length-drop b X) hl i.4 r.left in
    (r.width ∙ i.0, r.same ∙ i.1, t.0 ∙ i.2, t.1 ∙ i.3, l.0, l.1 ∙ i.5)
