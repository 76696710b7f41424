use Rattle.std.proofs.Common.{◌≡◌, ℕ, suc, ◌+◌, ◌<◌, [], map, length, get_or}
use Rattle.bits.specs.Nibbles.{nibbles}
use Rattle.twine.specs.Twine.{WK, RK}
use Rattle.twine.proofs.schedule.schedule.Given as goal

abbrev pub invariant-loop-r : goal.invariant-loop-r
invariant-loop-r g l =
    (l.wk.values ≡ WK (nibbles l.key) l.r) × (length l.keys ≡ 36) ×
    ((j : ℕ) → j < l.r + 1 → get_or (map g.K.RoundKey.words l.keys) j [] ≡ RK (nibbles l.key) (suc j))
