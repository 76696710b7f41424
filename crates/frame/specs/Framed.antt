-- A mode of a HASH and a PRF over a cipher of block length b and function E, as CLOC and SILC both are. N is the nonce, A the label
-- (associated data), M the contents (plaintext), C the ciphertext, T the tag, and t its length in bytes.
use Rattle.std.specs.Prelude.{ℕ, cond, Some, None, Option}
use Rattle.std.specs.Str.{bytes_eq}
use Rattle.blocks.specs.Blocks.{Bytes}
use Rattle.blocks.specs.Chain.{enc, dec}
use Rattle.mode.specs.Meaning.{Meaning, Sealed}

-- of PRF by t, V and C
module _ (b : ℕ) (E : Bytes → Bytes) (PRF : ℕ → Bytes → Bytes → Bytes) where
  -- encryption, once V is known: C ← ENC(V, M), T ← PRF(V, C)
  abbrev pub sealed_by : ℕ → Bytes → Bytes → Sealed
  sealed_by t V M = record { ciphertext = enc b E V M; tag = PRF t V (enc b E V M) }

  -- decryption, once V is known: T* ← PRF(V, C), none if T* differs from T, else M ← DEC(V, C)
  abbrev pub opened_by : ℕ → Bytes → Bytes → Bytes → Option Bytes
  opened_by t V C T = cond (bytes_eq T (PRF t V C)) (Some (dec b E V C)) None

  -- the mode of a code, of HASH by param, N and A, and of how many runs a full call and one with a wrong tag make: V ← HASH(N, A)
  abbrev pub framed : ℕ → (ℕ → Bytes → Bytes → Bytes) → (ℕ → ℕ → ℕ) → (ℕ → ℕ → ℕ) → Meaning
  framed code HASH full few = record {
    code = code;
    width = b;
    sealing = λ s N A M. sealed_by s.tag (HASH s.param N A) M;
    opening = λ s N A C T. opened_by s.tag (HASH s.param N A) C T;
    seal_runs = full;
    open_runs = full;
    refused_runs = few;
  }
