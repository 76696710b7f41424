use Rattle.std.proofs.Common.{refl}
use Rattle.receiver.specs.Trace.{returns as gives}
use Rattle.receiver.specs.Run.{returned, holding, listening}
use Rattle.receiver.proofs.Whole.{keeps}
use Rattle.receiver.proofs.states.Holding.give_back.Goals as goal

pub returns : goal.returns
returns c =
    let h = c.args.self in
    record {
      did = record { set = refl; ledger = refl };
      runs = λ m left s floor start past r. returned past h _ left r (record { set = refl; ledger = refl });
      promise = λ m left law. keeps m (holding h) left gives (listening h.end) left law (λ s floor start past r. returned past h h.end left r (record { set = refl; ledger = refl }));
    }
