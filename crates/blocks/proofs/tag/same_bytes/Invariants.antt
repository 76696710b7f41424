use Rattle.std.proofs.Common.{◌≡◌, eqb, length, take}
use Rattle.std.specs.Str.{bytes_eq}
use Rattle.blocks.proofs.tag.same_bytes.Given as goal

-- nothing differs so far exactly where the fronts are the same
abbrev pub invariant-loop-x : goal.invariant-loop-x
invariant-loop-x l = eqb l.differ 0 ≡ bytes_eq (take (length l.yielded) l.a) (take (length l.yielded) l.b)
