-- The numbers of a link.
use Rattle.std.specs.Prelude.{ℕ, ◌-◌, ◌*◌, ◌^◌, min}
use Rattle.mode.specs.declared.set.ParameterSet.{ParameterSet}

-- L, the last number of a set: 2^(8 min(n, 6)) - 1 for a nonce of n bytes
abbrev pub last_of : ParameterSet → ℕ
last_of s = 2 ^ (8 * min s.nonce 6) - 1
