use Rattle.std.proofs.Common.{◌≡◌, ◌≤◌, map, length, take, drop}
use Rattle.exchange.specs.Receives.{call_in, Lined, work_after_receives}
use Rattle.exchange.specs.Leads.{LeadsAll, state_in, holds, held_by, reach}
use Rattle.exchange.proofs.receives.receive_all.Given as goal

abbrev pub invariant-loop-i : goal.invariant-loop-i
invariant-loop-i g l =
    (g.M.Mode.meaning l.mode ≡ g.M.Mode.meaning l.initial.mode)
    × (map call_in (take l.i l.lines) ≡ take l.i l.call-items)
    × LeadsAll (g.M.Mode.meaning l.initial.mode) l.wire l.out (state_in l.initial.end) (g.M.Allowance.remaining l.initial.mode) (take l.i l.lines) (state_in l.end) (g.M.Allowance.remaining l.mode)
    × (holds l.end ≡ held_by (holds l.initial.end) (take l.i l.lines))
    × Lined (length l.wire) (length l.initial.out) (length l.initial.work) (holds l.initial.end) 0 (take l.i l.lines)
    × (l.used ≡ reach 0 (take l.i l.lines))
    × (l.used ≤ length l.initial.out)
    × (drop l.i l.lines ≡ drop l.i l.initial.lines)
    × (drop l.used l.out ≡ drop l.used l.initial.out)
    × (l.work ≡ work_after_receives (take l.i l.lines) l.initial.work)
