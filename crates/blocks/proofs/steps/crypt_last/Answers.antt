use Rattle.std.proofs.Common.{◌≡◌, ◌<◌, length, take, sym, refl, ap, ◌∙◌, arith}
use Rattle.blocks.specs.Blocks.{◌⊕◌}
use Rattle.blocks.proofs.Xors.{xor_swap}
use Rattle.blocks.proofs.Spends.{ran_as, parts_one}
use Rattle.blocks.proofs.steps.crypt_last.Goals as goal

pub returns : goal.returns
returns g c =
    let b = g.C.Cipher.width c.args.cipher.now in
    let E = g.C.Cipher.E c.args.cipher.now in
    let X = c.args.text.now in
    let T = c.run_one.new.block in
    let h : 0 < length X = omega arith in
    let len : length T ≡ b = c.run_one.auto.block ∙ c.requires.width in
    record {
      answers = refl;
      out = c.copy_from_slice.ensures.after ∙ c.split_at.ensures.front ∙ ap (take (length X)) c.xor_into.ensures ∙ xor_swap T X (omega arith) ∙ ap (λ Z. X ⊕ Z) c.run_one.ensures.block;
      ran = ran_as (sym (parts_one b (length X) h c.requires.text)) c.run_one.ensures.ran;
    }
