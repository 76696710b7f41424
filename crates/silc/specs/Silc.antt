-- SILC, laid out like Fig. 9 and Fig. 10 of the CLOC and SILC v3 submission, over a cipher of width b, in bytes, and function E. N is the
-- nonce, A the label (associated data), M the contents (plaintext), C the ciphertext, T the tag, t its length in bytes, param the byte of
-- the parameter set.
use Rattle.std.specs.Prelude.{ℕ, ◌+◌, ◌-◌, ◌*◌, cond, ◌∷◌, length, Some, None, Option, ◌==◌}
use Rattle.std.specs.Str.{bytes_eq}
use Rattle.blocks.specs.Blocks.{Bytes, ◌⊕◌, msb, parts, blocks, front, last}
use Rattle.blocks.specs.Pads.{zap, zpp, Len}
use Rattle.blocks.specs.Words.{g}
use Rattle.blocks.specs.Chain.{chain, enc, dec}
use Rattle.mode.specs.Meaning.{Meaning, Sealed}

module _ (b : ℕ) (E : Bytes → Bytes) where
  -- S[x], as HASH and PRF chain (X[1], …, X[x]) ← X from S[0]: S[i] ← E(S[i − 1] ⊕ X[i]) for i = 1 to x − 1, and
  -- S[x] ← E(S[x − 1] ⊕ zap(X[x])); S[0] itself if X is empty
  abbrev pub chained : Bytes → Bytes → Bytes
  chained S X = cond (length X == 0) S (E (chain E S (front (blocks b X)) ⊕ zap b (last (blocks b X))))

  -- HASH(N, A): S_H[0] ← E(zpp(param ‖ N)), then V ← g(S_H[a] ⊕ Len(A))
  unfoldable pub HASH : ℕ → Bytes → Bytes → Bytes
  HASH param N A = g (chained (E (zpp b (param ∷ N))) A ⊕ Len b A)

  -- PRF(V, C): S_P[0] ← E(g(V)), then U ← g(S_P[m] ⊕ Len(C)) and T ← msb_t(E(U))
  unfoldable pub PRF : ℕ → Bytes → Bytes → Bytes
  PRF t V C = msb t (E (g (chained (E (g V)) C ⊕ Len b C)))

  -- ENC(V, M) and DEC(V, C), which are those of CLOC
  abbrev pub ENC : Bytes → Bytes → Bytes
  ENC V M = enc b E V M

  abbrev pub DEC : Bytes → Bytes → Bytes
  DEC V C = dec b E V C

  -- SILC-E(N, A, M): V ← HASH(N, A), C ← ENC(V, M), T ← PRF(V, C)
  abbrev pub silc_seal : ℕ → ℕ → Bytes → Bytes → Bytes → Sealed
  silc_seal t param N A M =
      record { ciphertext = ENC (HASH param N A) M; tag = PRF t (HASH param N A) (ENC (HASH param N A) M) }

  -- SILC-D(N, A, C, T): V ← HASH(N, A), T* ← PRF(V, C); none if T differs from T*, else M ← DEC(V, C)
  abbrev pub silc_open : ℕ → ℕ → Bytes → Bytes → Bytes → Bytes → Option Bytes
  silc_open t param N A C T = cond (bytes_eq T (PRF t (HASH param N A) C)) (Some (DEC (HASH param N A) C)) None

-- ⌈a / b⌉ + 3 + 2 ⌈m / b⌉: how many times sealing, or an accepted opening, runs the cipher on a label of a bytes and contents of m
abbrev pub silc_runs : ℕ → ℕ → ℕ → ℕ
silc_runs b a m = parts b a + 3 + 2 * parts b m

-- SILC as a mode. A wrong tag is found without decryption, by ⌈m / b⌉ runs fewer.
abbrev pub silc_of : ℕ → (Bytes → Bytes) → Meaning
silc_of b E = record {
  code = 2;
  width = b;
  sealing = λ s N A M. silc_seal b E s.tag s.param N A M;
  opening = λ s N A C T. silc_open b E s.tag s.param N A C T;
  seal_runs = silc_runs b;
  open_runs = silc_runs b;
  refused_runs = λ a m. silc_runs b a m - parts b m;
}
