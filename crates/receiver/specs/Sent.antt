-- Tubes that are written of what sealing gives.
use Rattle.std.specs.Prelude.{◌≡◌, ℕ, ◌^◌, ◌<◌, ◌≤◌, List, length, Ok}
use Rattle.mode.specs.declared.set.ParameterSet.{ParameterSet}
use Rattle.mode.specs.Limits.{label_limit, contents_limit}
use Rattle.mode.specs.Meaning.{Meaning, Sealed, Lawful}
use Rattle.tube.specs.declared.tube.Tube.{Tube}
use Rattle.tube.specs.Part.{part}
use Rattle.tube.specs.Read.{parsed}
use Rattle.tube.specs.Write.{tube_of, nonce_of}
use Rattle.receiver.specs.Trace.{Ours, SealedAs}

-- the tube of a set's number k, a label A and what sealing gave
abbrev pub sealed_tube : ParameterSet → ℕ → List ℕ → Sealed → List ℕ
sealed_tube s k A x = tube_of s.code s.param (nonce_of s.nonce k) A x.ciphertext x.tag

-- bytes have the form, are of the set, carry the number k and the label A, and are sealed of contents M
pub record Sent (m : Meaning) (s : ParameterSet) (k : ℕ) (A M bytes : List ℕ) : Type 0 where
  pub tube : Tube
  pub form : parsed bytes ≡ Ok tube
  pub code : tube.code ≡ s.code
  pub param : tube.param ≡ s.param
  pub nonce : tube.nonce.len ≡ s.nonce
  pub tag : tube.tag.len ≡ s.tag
  pub number : tube.number ≡ k
  pub label : part bytes tube.label ≡ A
  pub seals : SealedAs m s bytes tube M

-- every tube that is made so is read as what it was made of, under every lawful mode of the set
abbrev pub Readable : Type 0
Readable = (m : Meaning) (s : ParameterSet) (k : ℕ) (A M : List ℕ) → Lawful m → Ours m s → k < 256 ^ s.nonce → length A ≤ label_limit → length M ≤ contents_limit
    → Sent m s k A M (sealed_tube s k A (m.sealing s (nonce_of s.nonce k) A M))
