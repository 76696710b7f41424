-- What encryption and decryption come to, over a cipher of width b and function E.
use Rattle.std.specs.Prelude.{◌≡◌, ℕ, length}
use Rattle.blocks.specs.Blocks.{Bytes}
use Rattle.blocks.specs.Chain.{enc, dec}

-- decryption undoes encryption and the reverse, both keep the length, and under one V no two contents give the same ciphertext
pub record Invertible (b : ℕ) (E : Bytes → Bytes) : Type 0 where
  pub undoes : (V M : Bytes) → dec b E V (enc b E V M) ≡ M
  pub redoes : (V C : Bytes) → enc b E V (dec b E V C) ≡ C
  pub ciphertexts : (V M : Bytes) → length (enc b E V M) ≡ length M
  pub contents : (V C : Bytes) → length (dec b E V C) ≡ length C
  pub apart : (V M M' : Bytes) → enc b E V M ≡ enc b E V M' → M ≡ M'
