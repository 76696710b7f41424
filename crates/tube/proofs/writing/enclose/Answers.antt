use Rattle.std.proofs.Common.{◌≡◌, true, length, Some, None, sym, ap, ◌∙◌, arith}
use Rattle.std.proofs.lemmas.Bool.{cond-true}
use Rattle.tube.specs.Write.{size_of}
use Rattle.tube.specs.Put.{fits}
use Rattle.tube.proofs.Laying.{around}
use Rattle.tube.proofs.writing.enclose.Goals as goal

pub returns : goal.returns
returns c =
    let n = c.args.nonce.now in
    let a = c.args.label.now in
    let m = c.args.size in
    let t = c.args.tag.now in
    let out = c.args.out.now in
    let head = c.put_head-at.ensures in
    let f : fits (length n) (length a) m (length t) (length out) ≡ true = sym c.if-not-fits.ensures in
    let size : c.put_section.result ≡ size_of (length n) (length a) m (length t) = omega (arith, head.next, c.put_section.ensures.next) in
    record {
      answers = ap Some size ∙ sym (cond-true (fits (length n) (length a) m (length t) (length out)) (Some (size_of (length n) (length a) m (length t))) None f);
      out = around c.args.code c.args.param n a m t out c.put_head-at.new.out c.put_section.new.out c.put_head-at.result head.next f head.out c.put_section.ensures.out;
    }
