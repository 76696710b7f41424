-- What a ledger means: its floor, and the list of the numbers signed since, the newest first.
use Rattle.std.specs.Prelude.{◌≡◌, ℕ, ◌+◌, ◌-◌, ◌<◌, max, Bool, true, false, cond, ◌||◌, List, [], ◌∷◌, ◌==◌, nat_le}
use Rattle.ledger.specs.Marks.{bit}
use Rattle.ledger.specs.declared.standing.Standing.{Standing}
use Rattle.ledger.specs.declared.standing.Standing.TheVariants.{Old, Signed, Open}

-- the highest number: the larger of the floor and all numbers signed
abbrev pub highest : ℕ → List ℕ → ℕ
highest floor [] = floor
highest floor (k ∷ ks) = max k (highest floor ks)

abbrev pub among : ℕ → List ℕ → Bool
among k [] = false
among k (x ∷ xs) = k == x || among k xs

-- a number is signed if it is up to the floor, or was signed before
abbrev pub signed : ℕ → List ℕ → ℕ → Bool
signed floor ks k = nat_le k floor || among k ks

-- a number is old if it is the highest number less 64 or below (as integers: none is old while the highest is below 64); else it is
-- signed or open
abbrev pub standing_of : ℕ → List ℕ → ℕ → Standing
standing_of floor ks k =
    cond (nat_le (k + 64) (highest floor ks)) Old (cond (signed floor ks k) Signed Open)

abbrev pub flag : Bool → ℕ
flag true = 1
flag false = 0

-- the highest number and the 64 marks say what was signed (high - i is 0 for i beyond high, and 0 is up to the floor)
pub record Represents (high marks floor : ℕ) (ks : List ℕ) : Type 0 where
  pub top : high ≡ highest floor ks
  pub tells : (i : ℕ) → i < 64 → bit marks i ≡ flag (signed floor ks (high - i))
