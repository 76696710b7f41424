-- What a tube that was sent carries, whatever mode sealed it.
use Rattle.std.specs.Prelude.{◌≡◌, ℕ, ◌≤◌, List, Some}
use Rattle.mode.specs.declared.set.ParameterSet.{ParameterSet}
use Rattle.mode.specs.Meaning.{Meaning}
use Rattle.tube.specs.Form.{ReadsBack}
use Rattle.tube.specs.Read.{value}
use Rattle.tube.specs.Write.{tube_of, nonce_of}
use Rattle.link.specs.Numbers.{last_of}

-- The bytes carry label A and contents M under the number k: there are a ciphertext C and a tag T, those of the mode's sealing function
-- under the nonce of k, and the bytes are the writing of the set's code and param, that nonce, A, C and T. They read back as these five,
-- with the number k, which is one from 1 to the last; and the mode's opening function gives M of them.
pub record Carries (m : Meaning) (s : ParameterSet) (k : ℕ) (A M bytes : List ℕ) : Type 0 where
  pub ciphertext : List ℕ
  pub tag : List ℕ
  pub seals : m.sealing s (nonce_of s.nonce k) A M ≡ record { ciphertext = ciphertext; tag = tag }
  pub is : bytes ≡ tube_of s.code s.param (nonce_of s.nonce k) A ciphertext tag
  pub reads : ReadsBack s.code s.param (nonce_of s.nonce k) A ciphertext tag bytes
  pub number : value (nonce_of s.nonce k) ≡ k
  pub range : (1 ≤ k) × (k ≤ last_of s)
  pub opens : m.opening s (nonce_of s.nonce k) A ciphertext tag ≡ Some M
