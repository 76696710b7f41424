use Rattle.std.proofs.Common.{ap, ◌∙◌}
use Rattle.blocks.specs.Chain.{dec}
use Rattle.blocks.proofs.Spends.{width_bounds}
use Rattle.blocks.proofs.Undone.{dec_enc, invertible}
use Rattle.blocks.proofs.steps.encrypt.Goals as goal

pub returns : goal.returns
returns g c =
    let b = g.C.Cipher.width c.args.cipher.now in
    let E = g.C.Cipher.E c.args.cipher.now in
    let hb = (width_bounds b (g.met.C.Cipher.widths c.args.cipher.now)).0 in
    let V = c.args.state.now in
    record {
      answers = c.crypt.ensures.answers;
      out = c.crypt.ensures.out;
      undone = ap (dec b E V) c.crypt.ensures.out ∙ dec_enc b E hb V c.args.text.now;
      ran = c.crypt.ensures.ran;
      law = invertible b E hb;
    }
