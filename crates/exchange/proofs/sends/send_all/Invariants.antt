use Rattle.std.proofs.Common.{◌≡◌, ◌≤◌, ◌++◌, length, take, drop}
use Rattle.exchange.specs.Sends.{send_all, bytes_of, work_after_sends}
use Rattle.exchange.proofs.sends.send_all.Given as goal

abbrev pub invariant-loop-i : goal.invariant-loop-i
invariant-loop-i g l =
    (g.S.Mode.meaning l.mode ≡ g.S.Mode.meaning l.initial.mode)
    × (l.end.set ≡ l.initial.end.set)
    × (l.end.next ≡ (send_all (g.S.Mode.meaning l.initial.mode) l.initial.end.set l.bytes (length l.initial.wire) (length l.initial.work) l.initial.end.next (g.S.Allowance.remaining l.initial.mode) (take l.i l.order-items)).next)
    × (g.S.Allowance.remaining l.mode ≡ (send_all (g.S.Mode.meaning l.initial.mode) l.initial.end.set l.bytes (length l.initial.wire) (length l.initial.work) l.initial.end.next (g.S.Allowance.remaining l.initial.mode) (take l.i l.order-items)).left)
    × (l.used ≡ length (bytes_of (send_all (g.S.Mode.meaning l.initial.mode) l.initial.end.set l.bytes (length l.initial.wire) (length l.initial.work) l.initial.end.next (g.S.Allowance.remaining l.initial.mode) (take l.i l.order-items)).tubes))
    × (l.wire ≡ bytes_of (send_all (g.S.Mode.meaning l.initial.mode) l.initial.end.set l.bytes (length l.initial.wire) (length l.initial.work) l.initial.end.next (g.S.Allowance.remaining l.initial.mode) (take l.i l.order-items)).tubes ++ drop l.used l.initial.wire)
    × (take l.i l.lines ≡ (send_all (g.S.Mode.meaning l.initial.mode) l.initial.end.set l.bytes (length l.initial.wire) (length l.initial.work) l.initial.end.next (g.S.Allowance.remaining l.initial.mode) (take l.i l.order-items)).lines)
    × (drop l.i l.lines ≡ drop l.i l.initial.lines)
    × (l.used ≤ length l.initial.wire)
    × (l.work ≡ work_after_sends (take l.i l.lines) l.initial.work)
