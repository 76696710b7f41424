use Rattle.std.proofs.Common.{sym}
use Rattle.tube.proofs.Laying.{write_ends}
use Rattle.tube.proofs.writing.write.Goals as goal

pub returns : goal.returns
returns c =
    let w = write_ends c.args.code c.args.param c.args.nonce.now c.args.label.now c.args.ciphertext.now c.args.tag.now
    c.args.out.now c.put.new.out c.enclose.new.out c.enclose.result
    (sym c.if-not-fits.ensures) c.put.auto.out c.put.ensures.out c.enclose.ensures.answers c.enclose.ensures.out in
    record { answers = w.0; out = w.1; reads = w.2 }
