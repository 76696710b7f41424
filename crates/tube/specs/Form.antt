-- The form of a tube, as a relation between bytes and what they read to.
use Rattle.std.specs.Prelude.{◌≡◌, ℕ, ◌+◌, ◌≤◌, List, length, Ok}
use Rattle.tube.specs.declared.tube.Tube.{Tube}
use Rattle.tube.specs.Part.{part}
use Rattle.tube.specs.Write.{tube_of}
use Rattle.tube.specs.Read.{value, parsed}

abbrev pub Iff : Type 0 → Type 0 → Type 0
Iff A B = (A → B) × (B → A)

-- the lengths of nonce, label, ciphertext and tag are within their ranges
pub record Ranged (n a m t : ℕ) : Type 0 where
  pub nonces : (1 ≤ n) × (n ≤ 16)
  pub labels : a ≤ 4096
  pub bodies : m ≤ 1048576
  pub tags : (1 ≤ t) × (t ≤ 16)

-- what a tube of five sections carries, and where
abbrev pub placed : ℕ → ℕ → List ℕ → List ℕ → List ℕ → List ℕ → Tube
placed code param nonce label ciphertext tag = record {
  code = code;
  param = param;
  number = value nonce;
  nonce = record { at = 10; len = length nonce };
  label = record { at = 14 + length nonce; len = length label };
  contents = record { at = 18 + length nonce + length label; len = length ciphertext };
  tag = record { at = 22 + length nonce + length label + length ciphertext; len = length tag };
}

-- the bytes are the writing of five sections, each within its range, and the tube tells what and where they are
pub record Reads (bytes : List ℕ) (t : Tube) : Type 0 where
  pub nonce : List ℕ
  pub label : List ℕ
  pub ciphertext : List ℕ
  pub tag : List ℕ
  pub is : bytes ≡ tube_of t.code t.param nonce label ciphertext tag
  pub ranged : Ranged (length nonce) (length label) (length ciphertext) (length tag)
  pub tells : t ≡ placed t.code t.param nonce label ciphertext tag

-- what reads is the writing of what it reads to
abbrev pub Rewritten : Tube → List ℕ → Type 0
Rewritten t bytes = tube_of t.code t.param (part bytes t.nonce) (part bytes t.label) (part bytes t.contents) (part bytes t.tag) ≡ bytes

-- bytes that five sections were written to read back as those sections
pub record ReadsBack (code param : ℕ) (n a c t bytes : List ℕ) : Type 0 where
  pub reads : parsed bytes ≡ Ok (placed code param n a c t)
  pub nonce : part bytes (placed code param n a c t).nonce ≡ n
  pub label : part bytes (placed code param n a c t).label ≡ a
  pub contents : part bytes (placed code param n a c t).contents ≡ c
  pub tag : part bytes (placed code param n a c t).tag ≡ t
