use Rattle.std.proofs.Common.{◌≡◌, ◌+◌, ◌-◌, ◌<◌, length, drop, sym, ap, ◌∙◌, arith}
use Rattle.blocks.specs.Blocks.{◌⊕◌, parts, blocks, front, last}
use Rattle.blocks.specs.Chain.{chain}
use Rattle.blocks.proofs.Xors.{xor_zap}
use Rattle.blocks.proofs.Cuts.{parts_more, chain_last, last_drop}
use Rattle.blocks.proofs.Spends.{width_bounds, ran_as, ran_then}
use Rattle.blocks.proofs.steps.absorb.Goals as goal

pub overflow_sub-text : goal.overflow_sub-text
overflow_sub-text g c =
    let b = g.C.Cipher.width c.args.cipher.now in
    let hb = (width_bounds b (g.met.C.Cipher.widths c.args.cipher.now)).0 in
    let T = c.args.text.now in
    let a = c.in_ok-n.ensures.answers in
    let m : c.in_ok-n.n ≡ length (last (blocks b T)) = cc in
    omega (arith, (last_drop b T hb).0)

pub returns : goal.returns
returns g c =
    let b = g.C.Cipher.width c.args.cipher.now in
    let E = g.C.Cipher.E c.args.cipher.now in
    let hb = (width_bounds b (g.met.C.Cipher.widths c.args.cipher.now)).0 in
    let hl = g.met.C.Allowance.bounded c.args.cipher.now in
    let r = c.absorb_front.ensures.ran in
    let S = c.args.state.now in
    let T = c.args.text.now in
    let h : 0 < length T = omega arith in
    let p = parts_more b (length T) hb h in
    let a = c.in_ok-n.ensures.answers in
    let m : c.in_ok-n.n ≡ length (last (blocks b T)) = cc in
    let L = c.split_at.ensures.back ∙ ap (λ k. drop (length T - k) T) m ∙ (last_drop b T hb).1 in
    let F = chain E S (front (blocks b T)) in
    let s : c.run_one.new.block ≡ E (F ⊕ last (blocks b T)) =
    c.run_one.ensures.block ∙ ap (λ e. e c.xor_into.new.block) r.same ∙ ap E (c.xor_into.ensures ∙ ap (λ Z. Z ⊕ c.split_at.result.1.now) c.absorb_front.ensures.state ∙ ap (λ Z. F ⊕ Z) L) in
    record {
      answers = c.run_one.ensures.answers;
      state = s ∙ sym (chain_last E S b T hb h);
      zap = λ _. s ∙ ap E (sym (xor_zap b F (last (blocks b T))));
      ran = ran_as (let q : parts b (length T) - 1 + 1 ≡ parts b (length T) = omega arith in q) (ran_then (parts b (length T) - 1) 1 hl (omega arith) r c.run_one.ensures.ran);
    }
