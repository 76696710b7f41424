use Rattle.std.proofs.Common.{refl, ◌∙◌}
use Rattle.receiver.specs.declared.states.Listening.{Listening}
use Rattle.receiver.specs.Trace.{signs}
use Rattle.receiver.specs.Run.{signed, holding, listening}
use Rattle.receiver.proofs.Whole.{keeps}
use Rattle.receiver.proofs.states.Holding.sign.Goals as goal

pub returns : goal.returns
returns c =
    let h = c.args.self in
    let e = c.enter.ensures in
    let l : Listening = record { set = h.end.set; ledger = c.enter.result; limit = e.limit ∙ h.end.limit } in
    record {
      did = record { set = refl; entered = e };
      runs = λ m left s floor start past r. signed past h _ left r (record { set = refl; entered = e });
      promise = λ m left law. keeps m (holding h) left (signs h.number) (listening l) left law (λ s floor start past r. signed past h l left r (record { set = refl; entered = e }));
    }
