-- The work memory after a call: 64 bytes become zeros on every return, another number of bytes is refused and stays.
use Rattle.std.specs.Prelude.{ℕ, cond, List, length, replicate, ◌==◌}
use Rattle.mode.specs.Limits.{work_length}

abbrev pub work_after : List ℕ → List ℕ
work_after work = cond (length work == work_length) (replicate work_length 0) work
