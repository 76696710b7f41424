use Rattle.std.proofs.Common.{◌≡◌, ◌-◌, length, drop, ap, ◌∙◌, arith}
use Rattle.blocks.specs.Blocks.{◌⊕◌, blocks, front, last}
use Rattle.blocks.specs.Chain.{chain}
use Rattle.blocks.specs.Pads.{ozp}
use Rattle.blocks.proofs.Cuts.{last_drop}
use Rattle.blocks.proofs.Spends.{width_bounds}
use Rattle.cloc.proofs.subroutines.absorb_ozp.Goals as goal

pub overflow_sub-text : goal.overflow_sub-text
overflow_sub-text g c =
    let b = g.C.Cipher.width c.args.cipher.now in
    let hb = (width_bounds b (g.met.C.Cipher.widths c.args.cipher.now)).0 in
    let T = c.args.text.now in
    let a = c.in_ok-n.ensures.answers in
    let m : c.in_ok-n.n ≡ length (last (blocks b T)) = cc in
    omega (arith, (last_drop b T hb).0)

pub returns-clause-state : goal.returns-clause-state
returns-clause-state g c =
    let b = g.C.Cipher.width c.args.cipher.now in
    let E = g.C.Cipher.E c.args.cipher.now in
    let hb = (width_bounds b (g.met.C.Cipher.widths c.args.cipher.now)).0 in
    let T = c.args.text.now in
    let S = c.absorb_front.new.state in
    let a = c.in_ok-n.ensures.answers in
    let m : c.in_ok-n.n ≡ length (last (blocks b T)) = cc in
    let l = c.split_at.ensures.back ∙ ap (λ k. drop (length T - k) T) m ∙ (last_drop b T hb).1 in
    let s : length S ≡ b = c.absorb_front.auto.state ∙ c.requires.width in
    c.xor_ozp.ensures ∙ ap (λ k. S ⊕ ozp k c.split_at.result.1.now) s ∙ ap (λ Z. Z ⊕ ozp b c.split_at.result.1.now) c.absorb_front.ensures.state
    ∙ ap (λ Z. chain E c.args.state.now (front (blocks b T)) ⊕ ozp b Z) l
