-- What making a ledger and signing a number come to.
use Rattle.std.specs.Prelude.{◌≡◌, ℕ, ◌<◌, ◌≤◌, max, List, [], ◌∷◌, Some, None, Ok, Err, Option, Result, ◌≢◌}
use Rattle.ledger.specs.declared.standing.Standing.TheVariants.{Open}
use Rattle.ledger.specs.declared.ledger.Ledger.{Ledger}
use Rattle.ledger.specs.Marks.{marked, by_marks}
use Rattle.ledger.specs.History.{Represents, standing_of}

-- a ledger in which nothing is signed but the numbers up to the floor f
pub record Fresh (f last : ℕ) (l : Ledger) : Type 0 where
  pub order : f ≤ last
  pub floor : l.floor ≡ f
  pub high : l.high ≡ f
  pub marks : l.marks ≡ 18446744073709551615
  pub limit : l.limit ≡ last
  pub history : Represents l.high l.marks f []

-- there is one where the floor is at most the limit, and there alone
abbrev pub Made : ℕ → ℕ → Option Ledger → Type 0
Made f last (Some l) = Fresh f last l
Made f last None = last < f

-- a number may be signed where it is not above the limit and stands open
abbrev pub MaySign : Ledger → ℕ → Type 0
MaySign l k = (k ≤ l.limit) × (by_marks l.high l.marks k ≡ Open)

-- k may be signed and is entered: for every history that the ledger means, k stood open, and the new ledger means k and that history
pub record Entered (l : Ledger) (k : ℕ) (after : Ledger) : Type 0 where
  pub may : MaySign l k
  pub floor : after.floor ≡ l.floor
  pub high : after.high ≡ max k l.high
  pub marks : after.marks ≡ marked l.high l.marks k
  pub limit : after.limit ≡ l.limit
  pub stood : (f : ℕ) (ks : List ℕ) → Represents l.high l.marks f ks → standing_of f ks k ≡ Open
  pub history : (f : ℕ) (ks : List ℕ) → Represents l.high l.marks f ks → Represents after.high after.marks f (k ∷ ks)

-- k may not be signed, and the ledger is as it was: in no history that it means does k stand open, or it is above the limit
pub record Refused (l : Ledger) (k : ℕ) (after : Ledger) : Type 0 where
  pub barred : MaySign l k → ⊥
  pub stood : (f : ℕ) (ks : List ℕ) → Represents l.high l.marks f ks → k ≤ l.limit → standing_of f ks k ≢ Open
  pub same : after ≡ l

-- a number that may be signed is entered, and any other refused
abbrev pub Signing : Ledger → ℕ → Result Ledger Ledger → Type 0
Signing l k (Ok after) = Entered l k after
Signing l k (Err after) = Refused l k after
