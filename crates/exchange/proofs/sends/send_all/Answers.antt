use Rattle.std.proofs.Common.{◌≡◌, ◌+◌, ◌-◌, ◌<◌, [], ◌∷◌, ◌++◌, length, get_or, take, sym, ap, ◌∙◌, subst, arith}
use Rattle.std.proofs.lemmas.List.{take_more_set, drop-set-lt, length-take-le}
use Rattle.std.proofs.lemmas.List.Sums.{fold_more, fold_push}
use Rattle.exchange.specs.declared.records.SendLine.{SendLine}
use Rattle.exchange.specs.declared.records.SendOrder.{SendOrder}
use Rattle.exchange.specs.Sends.{lies, label_of, contents_of, verdict_to, send_all, bytes_of, ordered, send_work, work_by, work_after_sends}
use Rattle.exchange.proofs.Cuts.{drop_past}
use Rattle.exchange.proofs.Orders.{After, after, same_outcome, turn_next, turn_left, turn_used, turn_wire}
use Rattle.exchange.proofs.sends.send_all.Goals as goal

none : SendOrder
none = record { label = record { at = 0; len = 0 }; contents = record { at = 0; len = 0 }; room = 0; work = 0 }

pub loop-i-preserved : goal.loop-i-preserved
unfolding none
loop-i-preserved g c =
    let m = g.S.Mode.meaning c.args.mode.now in
    let m' = g.S.Mode.meaning c.loop-i.mode in
    let left = g.S.Allowance.remaining c.args.mode.now in
    let left' = g.S.Allowance.remaining c.loop-i.mode in
    let s = c.args.end.now.set in
    let s' = c.loop-i.end.set in
    let k' = c.loop-i.end.next in
    let bytes = c.args.bytes.now in
    let W = length c.args.wire.now in
    let K = length c.args.work.now in
    let i = c.loop-i.i in
    let n = c.min-n.result in
    let orders = take n c.args.orders.now in
    let o = get_or orders i none in
    let used = c.loop-i.used in
    let inv = c.loop-i.invariant in
    let P = send_all m s bytes W K c.args.end.now.next left (take i orders) in
    let Q = send_all m s bytes W K c.args.end.now.next left (take (i + 1) orders) in
    let lt : i < length orders = c.loop-i-test.true in
    let ll : i < length c.loop-i.lines = omega (arith, c.min-n.ensures, c.loop-i.auto.lines, length-take-le n c.args.orders.now (omega (arith, c.min-n.ensures))) in
    let VL = verdict_to m' left' s' k' bytes o in
    let VP = verdict_to m P.left s P.next bytes o in
    let bL = lies (length bytes) (length c.loop-i.wire - used) (length c.loop-i.work) o in
    let bP = lies (length bytes) (W - length (bytes_of P.tubes)) K o in
    let eb : bL ≡ bP =
    ap (λ x. lies (length bytes) (x - used) (length c.loop-i.work) o) c.loop-i.auto.wire
    ∙ ap (λ x. lies (length bytes) (W - x) (length c.loop-i.work) o) inv.4
    ∙ ap (λ x. lies (length bytes) (W - length (bytes_of P.tubes)) x o) c.loop-i.auto.work in
    let ev : VL ≡ VP =
    ap (λ x. verdict_to x left' s' k' bytes o) inv.0 ∙ ap (λ x. verdict_to m x s' k' bytes o) inv.3
    ∙ ap (λ x. verdict_to m P.left x k' bytes o) inv.1 ∙ ap (λ x. verdict_to m P.left s x bytes o) inv.2 in
    let h : After bP VP P o Q =
    subst (λ q. After bP VP P o q)
    (sym (fold_more (λ q x. ordered m s bytes W K q x) (record { next = c.args.end.now.next; left = left; tubes = []; lines = [] }) orders i none lt))
    (after bP VP P o (label_of bytes o) (contents_of bytes o)) in
    let did = c.send_one-outcome.ensures in
    let len = c.length-used.result in
    let el = c.length-used.ensures ∙ did.long in
    let x : SendLine = record { order = o; outcome = c.send_one-outcome.result } in
    let items = take_more_set c.loop-i.lines i x ll in (
      did.same ∙ inv.0,
      did.kept ∙ inv.1,
      turn_next bL bP VL VP eb ev P Q o h k' _ inv.2 did.next,
      turn_left bL bP VL VP eb ev P Q o h left' _ inv.3 did.left,
      turn_used bL bP VL VP eb ev P Q o h used len inv.4 el,
      turn_wire bL bP VL VP eb ev P Q o h used len c.loop-i.wire c.send_one-outcome.new.wire c.args.wire.now inv.4 el inv.5 did.wire,
      items ∙ ap (λ l. l ++ x ∷ []) inv.6
          ∙ ap (λ r. P.lines ++ (record { order = o; outcome = r } ∷ [])) (did.came ∙ same_outcome bL bP VL VP eb ev) ∙ sym h.lines,
      drop-set-lt (i + 1) c.loop-i.lines i x (omega arith) ∙ drop_past i c.loop-i.lines c.args.lines.now inv.7,
      omega (arith, c.length-used.ensures, did.fits, c.loop-i.auto.wire),
      did.work ∙ ap (work_by c.send_one-outcome.result o.work) inv.9
          ∙ sym (fold_push (λ w (y : SendLine). send_work w y) c.args.work.now (take i c.loop-i.lines) x) ∙ ap (λ l. work_after_sends l c.args.work.now) (sym items),
    )
