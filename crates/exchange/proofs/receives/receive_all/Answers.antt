use Rattle.std.proofs.Common.{◌≡◌, ◌+◌, ◌<◌, ◌≤◌, min, [], ◌∷◌, ◌++◌, map, length, get_or, take, drop, set, sym, ap, ◌∙◌, subst, arith}
use Rattle.std.proofs.lemmas.List.{take_more_set, take_more, take_all, drop-set-lt, map_push, length-take-le}
use Rattle.std.proofs.lemmas.List.Sums.{fold_push}
use Rattle.exchange.specs.declared.records.ReceiveCall.{ReceiveCall}
use Rattle.exchange.specs.declared.records.ReceiveCall.TheVariants.{Open}
use Rattle.exchange.specs.declared.records.ReceiveLine.{ReceiveLine}
use Rattle.exchange.specs.Receives.{call_in, held_after, Lined, size_of, work_of_line, work_after_receives}
use Rattle.exchange.specs.Leads.{LeadsAll, state_in, holds, held_by, reach}
use Rattle.exchange.proofs.Cuts.{take_min, drop_min, drop_past}
use Rattle.exchange.proofs.Lines.{leads_more, lined_more, fits_same, reach_push, held_push, drop_further}
use Rattle.exchange.proofs.receives.receive_all.Goals as goal

none : ReceiveCall
none = Open (record { tube = record { at = 0; len = 0 }; room = 0; work = 0 })

pub loop-i-preserved : goal.loop-i-preserved
unfolding none
loop-i-preserved g c =
    let m = g.M.Mode.meaning c.args.mode.now in
    let i = c.loop-i.i in
    let n = c.min-n.result in
    let calls = take n c.args.calls.now in
    let lines = c.loop-i.lines in
    let L = take i lines in
    let call = get_or calls i none in
    let did = c.step-next.ensures in
    let o = c.step-next.result.1 in
    let x : ReceiveLine = record { call = call; outcome = o } in
    let inv = c.loop-i.invariant in
    let W = length c.args.wire.now in
    let O = length c.args.out.now in
    let K = length c.args.work.now in
    let held = holds c.args.end in
    let used = c.loop-i.used in
    let lc : i < length calls = c.loop-i-test.true in
    let ll : i < length lines = omega (arith, c.min-n.ensures, c.loop-i.auto.lines, length-take-le n c.args.calls.now (omega (arith, c.min-n.ensures))) in
    let items : take (i + 1) (set lines i x) ≡ L ++ x ∷ [] = take_more_set lines i x ll in
    let fit = fits_same W O (length c.loop-i.out) K (length c.loop-i.work) (held_by held L) (holds c.loop-i.end) (reach 0 L) used call o c.loop-i.auto.out c.loop-i.auto.work inv.3 inv.5 did.lined in
    let size = c.length-used.ensures in (
      did.same ∙ inv.0,
      ap (map call_in) items ∙ map_push call_in L x ∙ ap (λ l. l ++ call ∷ []) inv.1 ∙ sym (take_more calls i none lc),
      subst (λ l. LeadsAll m c.args.wire.now c.step-next.new.out (state_in c.args.end) (g.M.Allowance.remaining c.args.mode.now) l (state_in c.step-next.result.0) (g.M.Allowance.remaining c.step-next.new.mode)) (sym items)
          (leads_more m (g.M.Mode.meaning c.loop-i.mode) c.args.wire.now c.loop-i.out c.step-next.new.out W O K held used (state_in c.args.end) (state_in c.loop-i.end) (state_in c.step-next.result.0)
          (g.M.Allowance.remaining c.args.mode.now) (g.M.Allowance.remaining c.loop-i.mode) (g.M.Allowance.remaining c.step-next.new.mode) L x
          inv.0 inv.4 inv.5 did.front inv.2 did.runs),
      did.held ∙ ap (λ h. held_after h o) inv.3 ∙ sym (held_push held L x) ∙ ap (held_by held) (sym items),
      subst (λ l. Lined W O K held 0 l) (sym items) (lined_more W O K held 0 L x inv.4 fit),
      ap (λ n. used + n) size ∙ ap (λ n. n + size_of o) inv.5 ∙ sym (reach_push L x) ∙ ap (reach 0) (sym items),
      omega (arith, size, did.fits, c.loop-i.auto.out),
      drop-set-lt (i + 1) lines i x (omega arith) ∙ drop_past i lines c.args.lines.now inv.7,
      subst (λ n. drop (used + n) c.step-next.new.out ≡ drop (used + n) c.args.out.now) (sym size)
          (drop_further used (size_of o) c.args.out.now c.loop-i.out c.step-next.new.out inv.8 did.rest),
      did.work ∙ ap (work_of_line call o) inv.9
          ∙ sym (fold_push (λ w (y : ReceiveLine). work_of_line y.call y.outcome w) c.args.work.now L x) ∙ ap (λ l. work_after_receives l c.args.work.now) (sym items),
    )

pub returns : goal.returns
returns g c =
    let inv = c.loop-i.invariant in
    let i = c.loop-i.i in
    let calls = c.args.calls.now in
    let lines = c.loop-i.lines in
    let n = c.min-n.result in
    let e : i ≡ min (length calls) (length c.args.lines.now) = omega (arith, c.min-n.ensures, c.loop-i.auto.i-end, c.loop-i-test.false, length-take-le n calls (omega (arith, c.min-n.ensures))) in
    let q : take i lines ≡ take (length calls) lines = take_min i lines (length calls) (omega (arith, e, c.loop-i.auto.lines)) in
    let r : c.loop-i.used ≡ reach 0 (take (length calls) lines) = inv.5 ∙ ap (reach 0) q in
    record {
      same = inv.0;
      asked = ap (map call_in) (sym q) ∙ inv.1 ∙ take_all i (take n calls) (omega (arith, c.loop-i-test.false)) ∙ take_min n calls (length c.args.lines.now) c.min-n.ensures;
      runs = subst (λ l. LeadsAll (g.M.Mode.meaning c.args.mode.now) c.args.wire.now c.loop-i.out (state_in c.args.end) (g.M.Allowance.remaining c.args.mode.now) l (state_in c.loop-i.end) (g.M.Allowance.remaining c.loop-i.mode)) q inv.2;
      lined = subst (λ l. Lined (length c.args.wire.now) (length c.args.out.now) (length c.args.work.now) (holds c.args.end) 0 l) q inv.4;
      kept = sym (drop_min i lines (length calls) (e ∙ ap (min (length calls)) (sym c.loop-i.auto.lines))) ∙ inv.7 ∙ drop_min i c.args.lines.now (length calls) e;
      fits = subst (λ k. k ≤ length c.args.out.now) r inv.6;
      rest = subst (λ k. drop k c.loop-i.out ≡ drop k c.args.out.now) r inv.8;
      work = inv.9 ∙ ap (λ l. work_after_receives l c.args.work.now) q;
    }
