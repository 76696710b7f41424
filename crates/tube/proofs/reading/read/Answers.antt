use Rattle.std.proofs.Common.{ℕ, ◌<◌, length, get_or, sym, ◌∙◌, arith}
use Rattle.tube.specs.Read.{Within}
use Rattle.tube.specs.Form.{Rewritten}
use Rattle.tube.proofs.Past.{parsed_within, made_if}
use Rattle.tube.proofs.Formed.{formed, parsed_rewritten}
use Rattle.tube.proofs.reading.read.Goals as goal

pub returns : goal.returns
returns c =
    let byte : (i : ℕ) → get_or c.args.bytes.now i 0 < 256 = λ i. omega (arith, c.type_inv.bytes i) in
    record {
      value = c.parse.ensures;
      form = λ t. let f = formed c.args.bytes.now byte t in ((λ e. f.0 (sym c.parse.ensures ∙ e)), (λ r. c.parse.ensures ∙ f.1 r));
      within = made_if c.parse.result (λ t. Within t (length c.args.bytes.now)) (λ t e. parsed_within c.args.bytes.now t (sym c.parse.ensures ∙ e));
      again = made_if c.parse.result (λ t. Rewritten t c.args.bytes.now) (λ t e. parsed_rewritten c.args.bytes.now byte t (sym c.parse.ensures ∙ e));
    }
