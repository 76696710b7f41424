use Rattle.std.proofs.Common.{◌+◌, ◌≤◌, not, nat_eq, length, take, drop, sym, ap, ◌∙◌, arith, length-drop}
use Rattle.std.proofs.lemmas.Slice.{take-put_mid}
use Rattle.blocks.proofs.Xors.{length_xor}
use Rattle.blocks.proofs.Spends.{width_bounds, spent_block}
use Rattle.blocks.proofs.Turns.{crypted_turn}
use Rattle.blocks.proofs.steps.crypt.Goals as goal

pub loop-rest-preserved : goal.loop-rest-preserved
loop-rest-preserved g c =
    let b = g.C.Cipher.width c.args.cipher.now in
    let E = g.C.Cipher.E c.args.cipher.now in
    let t = not (nat_eq g.row.DECRYPTS 0) in
    let hb = (width_bounds b (g.met.C.Cipher.widths c.args.cipher.now)).0 in
    let hl = g.met.C.Allowance.bounded c.loop-rest.cipher in
    let i = c.loop-rest.invariant in
    let r = c.run_one.ensures.ran in
    let X = c.loop-rest.rest.now in
    let V = c.loop-rest.state in
    let O = c.loop-rest.out in
    let k = c.loop-rest.done in
    let P = c.crypt_block.new.out in
    let h : b ≤ length X = omega arith in
    let f = c.split_at.ensures.front ∙ ap (λ m. take m X) c.requires.width in
    let d = c.split_at.ensures.back ∙ ap (λ m. drop m X) c.requires.width in
    let l = spent_block b (length X) (length c.split_at.result.1.now) _ _ hb h (ap length d ∙ length-drop b X) hl i.3 r.left in
    let lp = ap length c.crypt_block.ensures.out ∙ length_xor c.split_at.result.0.now c.run_one.new.block ∙ c.split_at.ensures.front_len in
    let z = take-put_mid k _ O P (k + length c.args.state.now) (ap (λ m. k + m) (sym lp)) (omega arith) in
    let o = crypted_turn b E V c.crypt_block.new.state X c.split_at.result.0.now c.split_at.result.1.now c.run_one.new.block P (take k O) _
    hb h f d (c.run_one.ensures.block ∙ ap (λ q. q V) i.1) c.crypt_block.ensures.out z t c.crypt_block.ensures.state in
    (r.width ∙ i.0, r.same ∙ i.1, o ∙ i.2, l.0, l.1 ∙ i.4, omega arith)
