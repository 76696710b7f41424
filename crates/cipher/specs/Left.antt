-- The allowance: how many cipher runs are left, a whole number up to 2^64 - 1, where 2^64 - 1 means that there is no end.
use Rattle.std.specs.Prelude.{ℕ, ◌-◌, cond, ◌==◌}

abbrev pub no_end : ℕ
no_end = 18446744073709551615

-- what is left after n runs: an allowance without end stays as it is
abbrev pub spent : ℕ → ℕ → ℕ
spent left n = cond (left == no_end) no_end (left - n)
