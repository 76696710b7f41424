-- What a mode is, and the law that every mode keeps. Whoever uses a mode knows no more of it than this.
use Rattle.std.specs.Prelude.{◌≡◌, ℕ, ◌≤◌, List, length, Some, Option}
use Rattle.mode.specs.declared.set.ParameterSet.{ParameterSet}
use Rattle.mode.specs.Limits.{label_limit, contents_limit}

-- a ciphertext with its tag
pub record Sealed : Type 0 where
  pub ciphertext : List ℕ
  pub tag : List ℕ

-- The meaning of a mode: its code and block width; the sealing function of set, nonce N, label A and contents M; the opening function of
-- set, N, A, ciphertext C and tag T, which gives contents or none; and how many cipher runs sealing, an accepted opening, and an opening
-- whose tag is wrong make, by the lengths of A and M.
pub record Meaning : Type 0 where
  pub code : ℕ
  pub width : ℕ
  pub sealing : ParameterSet → List ℕ → List ℕ → List ℕ → Sealed
  pub opening : ParameterSet → List ℕ → List ℕ → List ℕ → List ℕ → Option (List ℕ)
  pub seal_runs : ℕ → ℕ → ℕ
  pub open_runs : ℕ → ℕ → ℕ
  pub refused_runs : ℕ → ℕ → ℕ

-- what a call admits: the set is the mode's, the nonce has its length, the label keeps its limit
pub record Headed (m : Meaning) (s : ParameterSet) (N A : List ℕ) : Type 0 where
  pub code : s.code ≡ m.code
  pub width : s.width ≡ m.width
  pub nonce : length N ≡ s.nonce
  pub label : length A ≤ label_limit

-- and so do contents or ciphertext X
pub record Admitted (m : Meaning) (s : ParameterSet) (N A X : List ℕ) : Type 0 where
  pub code : s.code ≡ m.code
  pub width : s.width ≡ m.width
  pub nonce : length N ≡ s.nonce
  pub label : length A ≤ label_limit
  pub contents : length X ≤ contents_limit

-- The law, of all that a call admits. Opening C and T gives M exactly when sealing M gives C and T: `undoes` says that it gives no other,
-- and `gives` that it does give M. The ciphertext is as long as the contents, above their limit too. The tag has the length that the set
-- says. A wrong tag is found by no more runs than an accepted opening takes.
pub record Lawful (m : Meaning) : Type 0 where
  pub undoes : (s : ParameterSet) (N A C T M : List ℕ) → Admitted m s N A C → length T ≡ s.tag → m.opening s N A C T ≡ Some M → m.sealing s N A M ≡ record { ciphertext = C; tag = T }
  pub gives : (s : ParameterSet) (N A C T M : List ℕ) → Admitted m s N A M → length T ≡ s.tag → m.sealing s N A M ≡ record { ciphertext = C; tag = T } → m.opening s N A C T ≡ Some M
  pub long : (s : ParameterSet) (N A M : List ℕ) → Headed m s N A → length (m.sealing s N A M).ciphertext ≡ length M
  pub tagged : (s : ParameterSet) (N A M : List ℕ) → Admitted m s N A M → length (m.sealing s N A M).tag ≡ s.tag
  pub fewer : (a x : ℕ) → a ≤ label_limit → x ≤ contents_limit → m.refused_runs a x ≤ m.open_runs a x
