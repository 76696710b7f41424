use Rattle.std.proofs.Common.{◌≡◌, ◌++◌, length, drop, Ok, sym, refl, ap, ◌∙◌, rules}
use Rattle.tube.specs.Write.{nonce_of}
use Rattle.tube.proofs.Numbers.{nonce_length}
use Rattle.sender.specs.Send.{send_answer, send_out, send_left, send_next, sealed_tube, tube_size}
use Rattle.sender.proofs.Tubes.{carries, sealed_length}
use Rattle.sender.proofs.Verdicts.{same_ok, verdict_sent}
use Rattle.sender.proofs.sending.Sending.send.Goals as goal

pub returns : goal.returns
returns g c =
    let m = g.M.Mode.meaning c.args.mode.now in
    let left = g.M.Allowance.remaining c.args.mode.now in
    let law = g.met.M.Mode.lawful c.args.mode.now in
    let s = c.args.self.now.set in
    let k = c.args.self.now.next in
    let A = c.args.label.now in
    let M = c.args.contents.now in
    let out = c.args.out.now in
    let h = c.in_ok-check.ensures.admits in
    let w : length c.args.work.now ≡ 64 = search rules in
    let v = verdict_sent m left s k A M (length out) (length c.args.work.now) w h in
    let e : c.in_ok-sent.sent ≡ record { len = tube_size s (length A) (length M); count = m.seal_runs (length A) (length M) } =
    same_ok c.in_ok-sent.sent (record { len = tube_size s (length A) (length M); count = m.seal_runs (length A) (length M) }) c.in_ok-sent.ensures.answers in
    let W = sealed_tube m s (nonce_of s.nonce k) A M in
    let l : length W ≡ tube_size s (length A) (length M) = sealed_length m law left s (nonce_of s.nonce k) A M k (length out) h (nonce_length s.nonce k) in
    record {
      answers = ap Ok e ∙ ap send_answer (sym v);
      out = c.write_tube.ensures.out ∙ ap (λ i. W ++ drop i out) (sym l) ∙ ap (λ y. send_out y out) (sym v);
      left = c.write_tube.ensures.left ∙ ap (λ y. send_left y left) (sym v);
      next = ap (λ y. send_next y k) (sym v);
      kept = refl;
      work = search rules;
      same = c.write_tube.ensures.same;
      carries = carries m law left s k A M (length out) h c.args.self.now.order.0 c.in_ok-sent.sent.len c.write_tube.new.out out (ap (λ y. y.len) e) c.write_tube.ensures.out;
    }
