-- The 64 marks of a ledger whose highest number is `high`: mark i says whether high - i is signed.
use Rattle.std.specs.Prelude.{ℕ, ◌+◌, ◌-◌, ◌*◌, ◌/◌, ◌%◌, ◌^◌, Bool, true, false, cond, ◌==◌, bit_or, nat_le, nat_lt}
use Rattle.ledger.specs.declared.standing.Standing.{Standing}
use Rattle.ledger.specs.declared.standing.Standing.TheVariants.{Old, Signed, Open}

-- bit i of a number, the lowest at 0
abbrev pub bit : ℕ → ℕ → ℕ
bit n i = n / 2 ^ i % 2

-- the marks with number k among them: set in place up to the highest number, and moved up where k is the new highest
abbrev pub marked : ℕ → ℕ → ℕ → ℕ
marked high marks k =
    cond (nat_le k high)
    (bit_or marks (2 ^ (high - k)))
    (cond (nat_lt (k - high) 64) (bit_or ((marks * 2 ^ (k - high)) % 2 ^ 64) 1) 1)

-- how a number stands by its mark: old below the 64 numbers with a mark, open above them
abbrev pub by_marks : ℕ → ℕ → ℕ → Standing
by_marks high marks k =
    cond (nat_le (k + 64) high) Old
    (cond (nat_le k high) (cond (bit marks (high - k) == 1) Signed Open) Open)

abbrev pub is_open : Standing → Bool
is_open Old = false
is_open Signed = false
is_open Open = true

-- a number may be signed where it is not above the limit and stands open
abbrev pub may_sign : ℕ → ℕ → ℕ → ℕ → Bool
may_sign limit high marks k = cond (nat_le k limit) (is_open (by_marks high marks k)) false
