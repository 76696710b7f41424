use Rattle.std.proofs.Common.{◌∙◌}
use Rattle.ledger.proofs.Kept.{by_history}
use Rattle.ledger.proofs.ledger.Ledger.standing.Goals as goal

pub returns : goal.returns
returns c = record {
  marks = c.told.ensures;
  history = λ floor ks r. c.told.ensures ∙ by_history c.args.self.now.high c.args.self.now.marks floor ks r c.args.number;
}
