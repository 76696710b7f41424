use Rattle.std.proofs.Common.{◌≡◌, ◌<◌, length, sym, ap, ◌∙◌, arith}
use Rattle.std.proofs.lemmas.Bool.{eqb-true, eqb-false}
use Rattle.blocks.specs.Blocks.{msb, blocks, last}
use Rattle.blocks.specs.Words.{f2}
use Rattle.blocks.proofs.Spends.{width_bounds}
use Rattle.cloc.specs.Cloc.{is_full, tag_block}
use Rattle.cloc.specs.Forms.{tag_none, tag_last, padded_as}
use Rattle.cloc.proofs.cloc.ClocSchemeScheme.tag.Goals as goal

pub returns-then-is_empty-clause-state : goal.returns-then-is_empty-clause-state
returns-then-is_empty-clause-state g c =
    let b = g.C.Cipher.width c.args.cipher.now in
    let E = g.C.Cipher.E c.args.cipher.now in
    let hb = (width_bounds b (g.met.C.Cipher.widths c.args.cipher.now)).0 in
    let z = eqb-true (length c.args.text.now) 0 (sym c.is_empty.ensures ∙ c.if-is_empty.true) in
    let n = tag_none b hb E c.args.state.now c.args.text.now z in
    let s : c.run_one.new.block ≡ tag_block b E c.args.state.now c.args.text.now = cc in
    λ t. ap (msb t) s

pub returns-clause-state : goal.returns-clause-state
returns-clause-state g c =
    let b = g.C.Cipher.width c.args.cipher.now in
    let E = g.C.Cipher.E c.args.cipher.now in
    let hb = (width_bounds b (g.met.C.Cipher.widths c.args.cipher.now)).0 in
    let r1 = c.run_one-2.ensures.ran in
    let V = c.args.state.now in
    let X = c.args.text.now in
    let full = c.in_ok-full.full in
    let e = eqb-false (length X) 0 (sym c.is_empty.ensures ∙ c.if-is_empty.false) in
    let h : 0 < length X = omega arith in
    let s : c.run_one-2.new.block ≡ E (f2 V) = cc in
    let z = padded_as b _ E _ _ _ X _ r1.width r1.same s c.absorb_ozp.ensures.state in
    let o = c.in_ok-full.ensures.answers in
    let f : full ≡ is_full (g.C.Cipher.width c.run_one-2.new.cipher) (last (blocks (g.C.Cipher.width c.run_one-2.new.cipher) X)) = cc in
    λ t. ap (msb t)
    (c.run_one-3.ensures.block ∙ ap (λ e. e c.finish.new.block) (c.absorb_ozp.ensures.ran.same ∙ r1.same)
    ∙ tag_last b hb E V X c.absorb_ozp.new.state c.finish.new.block full h z (f ∙ ap (λ k. is_full k (last (blocks k X))) r1.width) c.finish.ensures)
