-- The two chains of both modes over a cipher of width b and function E: CBC MAC for HASH and PRF, CFB for ENC and DEC.
use Rattle.std.specs.Prelude.{ℕ, Bool, cond, List, [], ◌∷◌}
use Rattle.blocks.specs.Blocks.{Bytes, ◌⊕◌, blocks, join}
use Rattle.blocks.specs.Pads.{fix1}

module _ (E : Bytes → Bytes) where
  -- S ← E(S ⊕ X[i]) for each of these blocks
  abbrev pub chain : Bytes → List Bytes → Bytes
  chain S [] = S
  chain S (X ∷ Xs) = chain (E (S ⊕ X)) Xs

  -- C[i] ← M[i] ⊕ E(V), and then V ← fix1(C[i]); the last block is cut to the length of M[m]
  abbrev pub enc_blocks : Bytes → List Bytes → List Bytes
  enc_blocks V [] = []
  enc_blocks V (M ∷ Ms) = (M ⊕ E V) ∷ enc_blocks (fix1 (M ⊕ E V)) Ms

  -- M[i] ← C[i] ⊕ E(V), and then V ← fix1(C[i])
  abbrev pub dec_blocks : Bytes → List Bytes → List Bytes
  dec_blocks V [] = []
  dec_blocks V (C ∷ Cs) = (C ⊕ E V) ∷ dec_blocks (fix1 C) Cs

module _ (b : ℕ) (E : Bytes → Bytes) where
  -- ENC(V, M)
  abbrev pub enc : Bytes → Bytes → Bytes
  enc V M = join (enc_blocks E V (blocks b M))

  -- DEC(V, C)
  abbrev pub dec : Bytes → Bytes → Bytes
  dec V C = join (dec_blocks E V (blocks b C))

  -- DEC where the text is a ciphertext, else ENC
  abbrev pub crypted : Bool → Bytes → Bytes → Bytes
  crypted t V X = cond t (dec V X) (enc V X)
