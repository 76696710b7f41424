use Rattle.std.proofs.Common.{◌≡◌, ◌≤◌, false, [], ◌++◌, length, take, drop, sym, refl, ap, ◌∙◌, subst, arith}
use Rattle.cipher.specs.Left.{no_end}
use Rattle.receiver.specs.Run.{Run, made}
use Rattle.receiver.proofs.Whole.{promise}
use Rattle.exchange.specs.Sends.{send_all, bytes_of, work_after_sends, runs_of}
use Rattle.exchange.specs.Receives.{trace, Lined, work_after_receives}
use Rattle.exchange.specs.Leads.{state_in, reach}
use Rattle.receiver.specs.Trace.{Counted}
use Rattle.sender.specs.Carry.{Carries}
use Rattle.exchange.specs.Exchanged.{Delivers}
use Rattle.exchange.proofs.Laws.{Holds, all_good, each_map, delivers}
use Rattle.exchange.proofs.Lines.{hands_all, out_whole}
use Rattle.exchange.proofs.call.run_both.Goals as goal

pub returns : goal.returns
returns g c =
    let sm = g.S.Mode.meaning c.args.sender.now in
    let rm = g.R.Mode.meaning c.args.receiver.now in
    let sl = g.S.Allowance.remaining c.args.sender.now in
    let rl = g.R.Allowance.remaining c.args.receiver.now in
    let s = c.args.set.now in
    let start = c.args.start in
    let floor = c.args.floor in
    let bytes = c.args.bytes.now in
    let wire = c.args.wire.now in
    let out = c.args.out.now in
    let work = c.args.work.now in
    let W = length wire in
    let K = length work in
    let orders = c.args.orders.now in
    let calls = c.args.calls.now in
    let T = take (length c.args.sent.now) orders in
    let P0 = send_all sm c.args.end.set bytes W K c.args.end.next sl T in
    let P = send_all sm s bytes W K start sl T in
    let eP : P0 ≡ P = ap (λ x. send_all sm x bytes W K c.args.end.next sl T) c.requires.first.0 ∙ ap (λ x. send_all sm s bytes W K x sl T) c.requires.first.1 in
    let low : 1 ≤ start = subst (λ x. 1 ≤ x) c.requires.first.1 c.args.end.order.0 in
    let sbound : sl ≤ no_end = omega (arith, g.met.S.Allowance.bounded c.args.sender.now) in
    let rbound : rl ≤ no_end = omega (arith, g.met.R.Allowance.bounded c.args.receiver.now) in
    let law = g.met.S.Mode.lawful c.args.sender.now in
    let read-law = g.met.R.Mode.lawful c.args.receiver.now in
    let good = all_good sm rm s law read-law start sl low sbound bytes W K T in
    let did = c.receive_all-end.ensures in
    let wire' = c.send_all.new.wire in
    let out' = c.receive_all-end.new.out in
    let L = take (length calls) c.receive_all-end.new.lines in
    let run : Run rm s floor rl (trace wire' out' L) (state_in c.receive_all-end.result) (g.R.Allowance.remaining c.receive_all-end.new.mode)
    = did.runs s floor rl [] (made c.args.listening c.requires.fresh) in
    let pr = promise rm s floor rl _ _ _ read-law rbound run in
    let lined : Lined (length wire') (length out) K false 0 L = subst (λ k. Lined (length wire') (length out) k false 0 L) c.send_all.auto.work did.lined in
    record {
      whole = record {
        sends = record {
          recorded = c.send_all.ensures.lines ∙ ap (λ p. p.lines ++ drop (length orders) c.args.sent.now) eP;
          wired = c.send_all.ensures.wire ∙ ap (λ p. bytes_of p.tubes ++ drop (length (bytes_of p.tubes)) wire) eP;
          numbered = good.numbered;
          carried = each_map (Holds sm rm s law read-law start sl low sbound) (λ x. Carries sm s x.number x.label x.contents x.tube) P.tubes (λ x h. h.carried) good.each;
          runs = subst (λ n. Counted sl (runs_of P.tubes) n) (sym (c.send_all.ensures.left ∙ ap (λ p. p.left) eP)) good.runs;
        };
        receives = record {
          asked = did.asked;
          lined = lined;
          beyond = did.kept;
          promised = pr;
          written = out_whole (reach 0 L) out out' _ (hands_all wire' out' (length wire') (length out) K L false 0 [] lined refl) (omega (arith, did.fits, c.receive_all-end.auto.out)) did.rest;
        };
        worked = did.work ∙ ap (work_after_receives L) (c.send_all.ensures.work ∙ ap (λ p. work_after_sends p.lines work) eP);
        joined = λ agree. each_map (Holds sm rm s law read-law start sl low sbound) (λ x. Delivers rm s floor rl x (trace wire' out' L)) P.tubes
            (λ x h. delivers sm rm s law read-law start sl low sbound agree floor rl x (trace wire' out' L) pr.each h) good.each;
      };
      same = (c.send_all.ensures.same, did.same);
    }
