use Rattle.std.proofs.Common.{◌≡◌, length, sym, ap, ◌∙◌, rules}
use Rattle.bits.specs.Nibbles.{nibbles}
use Rattle.bits.proofs.Listed.{listed, sixteen_eq}
use Rattle.led.proofs.columns.ColumnsState.of_bytes.Goals as goal

pub returns : goal.returns
unfolding nibbles
returns c =
    let A = c.packed.ensures in let B = c.packed-2.ensures in let C = c.packed-3.ensures in let D = c.packed-4.ensures in
    let e : length c.args.block ≡ 8 = search rules in
    sixteen_eq A.0 B.0 C.0 D.0 A.1 B.1 C.1 D.1 A.2 B.2 C.2 D.2 A.3 B.3 C.3 D.3
    ∙ sym (ap nibbles (listed 8 c.args.block e))
