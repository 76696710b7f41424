use Rattle.std.proofs.Common.{◌≡◌, ◌+◌, ◌-◌, ◌<◌, ◌≤◌, max, cond, eqb, ◌∷◌, length, take, drop, ap, ◌∙◌, arith, length-drop}
use Rattle.blocks.specs.Blocks.{◌⊕◌, parts, blocks, last}
use Rattle.blocks.specs.Pads.{ozp}
use Rattle.blocks.specs.Words.{f1, f2}
use Rattle.blocks.proofs.Spends.{width_bounds, ran_as, ran_then}
use Rattle.cloc.specs.Cloc.{is_full}
use Rattle.cloc.specs.Forms.{at_width, runs_more, hash_one, hash_more, padded_as}
use Rattle.cloc.proofs.cloc.ClocSchemeScheme.hash.Goals as goal

pub returns-then-label-b-clause-state : goal.returns-then-label-b-clause-state
returns-then-label-b-clause-state g c =
    let b = g.C.Cipher.width c.args.cipher.now in
    let E = g.C.Cipher.E c.args.cipher.now in
    let hb = (width_bounds b (g.met.C.Cipher.widths c.args.cipher.now)).0 in
    let A = c.args.label.now in
    let X = c.args.param ∷ c.args.nonce.now in
    let S = c.start.new.state in
    let full = eqb (length A) (length c.args.state.now) in
    let l : length A ≤ b = omega arith in
    let s : length S ≡ b = c.start.auto.state ∙ c.requires.width in
    hash_one b hb E c.args.param c.args.nonce.now A S c.bind_nonce.new.block full l c.start.ensures.state (ap (eqb (length A)) c.requires.width)
    (c.bind_nonce.ensures ∙ ap (λ k. cond full (f1 (S ⊕ ozp k X)) (f2 (S ⊕ ozp k X))) s)

pub bind_nonce-requires-2-clause-width : goal.bind_nonce-requires-2-clause-width
bind_nonce-requires-2-clause-width g c =
    let s : length c.run_one.new.block ≡ g.C.Cipher.width c.args.cipher.now =
    c.run_one.auto.block ∙ c.absorb_ozp.auto.state ∙ c.start-2.auto.state ∙ c.requires.width in
    at_width _ _ s (g.met.C.Cipher.widths c.args.cipher.now)

pub returns-clause-state : goal.returns-clause-state
returns-clause-state g c =
    let b = g.C.Cipher.width c.args.cipher.now in
    let E = g.C.Cipher.E c.args.cipher.now in
    let hb = (width_bounds b (g.met.C.Cipher.widths c.args.cipher.now)).0 in
    let r1 = c.start-2.ensures.ran in
    let r2 = c.absorb_ozp.ensures.ran in
    let A = c.args.label.now in
    let X = c.args.param ∷ c.args.nonce.now in
    let R = c.split_at.result.1.now in
    let S = c.run_one.new.block in
    let full = c.in_ok-full.full in
    let l : b < length A = omega arith in
    let d : R ≡ drop b A = c.split_at.ensures.back ∙ ap (λ k. drop k A) c.requires.width in
    let a : c.split_at.result.0.now ≡ take b A = c.split_at.ensures.front ∙ ap (λ k. take k A) c.requires.width in
    let z = padded_as b _ E _ _ _ R _ r1.width r1.same c.start-2.ensures.state c.absorb_ozp.ensures.state in
    let s = c.run_one.ensures.block ∙ ap (λ e. e c.absorb_ozp.new.state) (r2.same ∙ r1.same) ∙ ap E z in
    let o = c.in_ok-full.ensures.answers in
    let f : full ≡ is_full (g.C.Cipher.width c.start-2.new.cipher) (last (blocks (g.C.Cipher.width c.start-2.new.cipher) R)) = cc in
    let n : length S ≡ b = c.run_one.auto.block ∙ c.absorb_ozp.auto.state ∙ c.start-2.auto.state ∙ c.requires.width in
    hash_more b hb E c.args.param c.args.nonce.now A c.split_at.result.0.now R S c.bind_nonce-2.new.block full l a d s
    (f ∙ ap (λ k. is_full k (last (blocks k R))) r1.width) (c.bind_nonce-2.ensures ∙ ap (λ k. cond full (f1 (S ⊕ ozp k X)) (f2 (S ⊕ ozp k X))) n)

pub returns-clause-ran : goal.returns-clause-ran
returns-clause-ran g c =
    let b = g.C.Cipher.width c.args.cipher.now in
    let hb = (width_bounds b (g.met.C.Cipher.widths c.args.cipher.now)).0 in
    let hl = g.met.C.Allowance.bounded c.args.cipher.now in
    let r1 = c.start-2.ensures.ran in
    let A = c.args.label.now in
    let R = c.split_at.result.1.now in
    let l : b < length A = omega arith in
    let d : R ≡ drop b A = c.split_at.ensures.back ∙ ap (λ k. drop k A) c.requires.width in
    let m = runs_more b hb (length A) (length R) l (ap length d ∙ length-drop b A) in
    let p = parts b (length R) in
    let r = ran_then 1 (p - 1) hl (omega arith) r1 (ran_as (ap (λ k. parts k (length R) - 1) r1.width) c.absorb_ozp.ensures.ran) in
    ran_as (let e : 1 + (p - 1) + 1 ≡ max 1 (parts b (length A)) = omega arith in e) (ran_then (1 + (p - 1)) 1 hl (omega arith) r c.run_one.ensures.ran)
