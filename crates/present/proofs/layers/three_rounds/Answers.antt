use Rattle.std.proofs.Common.{ap, ◌∙◌, arith, lit<}
use lib.Bits.{bit_xor}
use Rattle.present.specs.Present.{pLayer}
use Rattle.present.proofs.Permutation.{three_rounds}
use Rattle.present.proofs.SBoxes.{behind, fit_4, fit_16}
use Rattle.present.proofs.layers.three_rounds.Goals as goal

pub returns : goal.returns
returns c =
    let s = c.s_box_layer-s.result in
    let t = c.sboxes_apart-t.result in
    three_rounds c.args.x c.args.a c.args.b c.args.c s t c.sboxes_apart.result (omega arith) c.s_box_layer-s.ensures
    (ap pLayer c.sboxes_apart-t.ensures ∙ behind 1 4 0x000f_000f_000f_000f fit_4 (lit< tt) (bit_xor s c.args.b))
    (ap (λ n. pLayer (pLayer n)) c.sboxes_apart.ensures ∙ behind 2 16 0xffff fit_16 (lit< tt) (bit_xor t c.args.c))
