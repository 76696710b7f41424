use Rattle.std.proofs.Common.{◌≡◌, length, sym, ap, ◌∙◌, arith}
use Rattle.std.proofs.lemmas.Grind.{common_steps}
use Rattle.tube.specs.Write.{nonce_of}
use Rattle.tube.specs.Read.{value}
use Rattle.tube.proofs.Numbers.{nonce_value, filled}
use Rattle.tube.proofs.writing.fill.Goals as goal

pub loop-byte-preserved : goal.loop-byte-preserved
loop-byte-preserved c =
    c.loop-byte.invariant ∙ filled (length c.args.bytes.now) c.loop-byte.byte-index c.loop-byte.rest c.loop-byte.bytes c.loop-byte-test.true (sym c.loop-byte.auto.bytes)

pub returns-clause-back : goal.returns-clause-back
returns-clause-back c = λ h.
    let b : c.reverse.new.self ≡ nonce_of (length c.args.bytes.now) c.args.number = grind (arith, common_steps) in
    ap value b ∙ nonce_value (length c.args.bytes.now) c.args.number h
