-- CLOC, version 3, over a cipher of block length b and function E, laid out like Fig. 2 of the CLOC and SILC v3 submission. N is the nonce,
-- A the label (associated data), M the contents (plaintext), C the ciphertext, T the tag. Lengths are in bytes: b stands for the figure's
-- block length n, and t for the tag's length τ.
use Rattle.std.specs.Prelude.{ℕ, ◌+◌, ◌-◌, ◌*◌, max, Bool, cond, List, [], ◌∷◌, length, Some, None, Option, ◌==◌}
use Rattle.std.specs.Str.{bytes_eq}
use Rattle.blocks.specs.Blocks.{Bytes, ◌⊕◌, msb, msb1, parts, blocks, front, last}
use Rattle.blocks.specs.Chain.{chain, enc, dec}
use Rattle.blocks.specs.Pads.{ozp, fix0}
use Rattle.blocks.specs.Words.{f1, f2, g1, g2, h}
use Rattle.mode.specs.Meaning.{Meaning, Sealed}

-- |X| = n: X is a full block
abbrev pub is_full : ℕ → Bytes → Bool
is_full b X = length X == b

-- (A[1], …, A[a]) ← A, where the empty label is one empty block
abbrev pub label_blocks : ℕ → Bytes → List Bytes
label_blocks b [] = [] ∷ []
label_blocks b (x ∷ A) = blocks b (x ∷ A)

module _ (b : ℕ) (E : Bytes → Bytes) where
  -- HASH, lines 2 to 4: S_H[1] ← E(fix0(ozp(A[1]))), and if msb_1(ozp(A[1])) = 1 then S_H[1] ← h(S_H[1])
  abbrev pub SH1 : Bytes → Bytes
  SH1 A1 = cond (msb1 (ozp b A1)) (h (E (fix0 (ozp b A1)))) (E (fix0 (ozp b A1)))

  -- HASH, lines 2 to 8: S_H[a]. If a ≥ 2, S_H[i] ← E(S_H[i − 1] ⊕ A[i]) for i from 2 to a − 1, and S_H[a] ← E(S_H[a − 1] ⊕ ozp(A[a])).
  -- A label has one block at least.
  abbrev pub SHa : List Bytes → Bytes
  SHa [] = []
  SHa (A1 ∷ []) = SH1 A1
  SHa (A1 ∷ (A2 ∷ As)) = E (chain E (SH1 A1) (front (A2 ∷ As)) ⊕ ozp b (last (A2 ∷ As)))

  -- HASH, lines 9 to 13: V ← f1(S_H[a] ⊕ ozp(param ‖ N)) if A[a] is full, else f2 of the same
  unfoldable pub HASH : ℕ → Bytes → Bytes → Bytes
  HASH param N A =
      cond (is_full b (last (label_blocks b A)))
      (f1 (SHa (label_blocks b A) ⊕ ozp b (param ∷ N)))
      (f2 (SHa (label_blocks b A) ⊕ ozp b (param ∷ N)))

  -- ENC: C[i] ← M[i] ⊕ S_E[i], where S_E[1] = E(V) and S_E[i + 1] = E(fix1(C[i])); the last is cut to the length of M[m]
  abbrev pub ENC : Bytes → Bytes → Bytes
  ENC V M = enc b E V M

  -- DEC: M[i] ← C[i] ⊕ S_D[i], where S_D[1] = E(V) and S_D[i + 1] = E(fix1(C[i]))
  abbrev pub DEC : Bytes → Bytes → Bytes
  DEC V C = dec b E V C

  -- PRF, lines 8 to 11: S_P[m] of S_P[m − 1] and C[m]
  abbrev pub SPm : Bytes → Bytes → Bytes
  SPm S Cm = cond (is_full b Cm) (E (f1 (S ⊕ Cm))) (E (f2 (S ⊕ ozp b Cm)))

  -- PRF, the block that T is cut of. Lines 1 to 3: E(g1(V)) if C is empty. Lines 4 to 11: else S_P[0] ← E(g2(V)), and
  -- S_P[i] ← E(S_P[i − 1] ⊕ C[i]) for i from 1 to m − 1.
  unfoldable pub tag_block : Bytes → Bytes → Bytes
  tag_block V [] = E (g1 V)
  tag_block V (c ∷ C) = SPm (chain E (E (g2 V)) (front (blocks b (c ∷ C)))) (last (blocks b (c ∷ C)))

  -- PRF: T ← msb_t of it
  abbrev pub PRF : ℕ → Bytes → Bytes → Bytes
  PRF t V C = msb t (tag_block V C)

  -- encryption, once V is known: C ← ENC(V, M), T ← PRF(V, C)
  abbrev pub sealed_by : ℕ → Bytes → Bytes → Sealed
  sealed_by t V M = record { ciphertext = ENC V M; tag = PRF t V (ENC V M) }

  -- decryption, once V is known: T* ← PRF(V, C), nothing if T* differs from T, else M ← DEC(V, C)
  abbrev pub opened_by : ℕ → Bytes → Bytes → Bytes → Option Bytes
  opened_by t V C T = cond (bytes_eq T (PRF t V C)) (Some (DEC V C)) None

-- the cipher runs of sealing and of an accepted opening, on a label of a bytes and contents of m
abbrev pub full_runs : ℕ → ℕ → ℕ → ℕ
full_runs b a m = max 1 (parts b a) + 1 + 2 * parts b m

-- an opening whose tag is wrong runs no DEC
abbrev pub wrong_tag_runs : ℕ → ℕ → ℕ → ℕ
wrong_tag_runs b a m = full_runs b a m - parts b m

-- CLOC as a mode, of code 1
abbrev pub cloc_of : ℕ → (Bytes → Bytes) → Meaning
cloc_of b E = record {
  code = 1;
  width = b;
  sealing = λ s N A M. sealed_by b E s.tag (HASH b E s.param N A) M;
  opening = λ s N A C T. opened_by b E s.tag (HASH b E s.param N A) C T;
  seal_runs = full_runs b;
  open_runs = full_runs b;
  refused_runs = wrong_tag_runs b;
}
