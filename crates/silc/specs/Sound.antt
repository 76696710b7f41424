-- The law of a mode, of SILC over every cipher that keeps its own.
use Rattle.std.specs.Prelude.{◌≡◌, ℕ, ◌+◌, ◌-◌, ◌<◌, ◌≤◌, min, ◌⊎◌, ◌∷◌, length}
use native.Mathlib.Omega.{arith}
use Rattle.std.proofs.Common.{refl, ap, ◌∙◌}
use Rattle.std.proofs.Math.ListN.{length-take}
use Rattle.blocks.specs.Blocks.{Bytes, ◌⊕◌, parts, blocks}
use Rattle.blocks.specs.Pads.{zpp, Len}
use Rattle.blocks.specs.Words.{g}
use Rattle.blocks.proofs.Xors.{length_xor}
use Rattle.blocks.proofs.Lengths.{length_g, length_zpp, length_chain}
use Rattle.blocks.proofs.Spends.{width_bounds}
use Rattle.frame.specs.Framed.{framed}
use Rattle.frame.specs.Sound.{RunCounts, framed_lawful}
use Rattle.mode.specs.Meaning.{Lawful}
use Rattle.silc.specs.Silc.{chained, HASH, PRF, silc_runs, silc_of}
use Rattle.silc.specs.Chained.{chained_loop}

module _ (b : ℕ) (E : Bytes → Bytes) (w : (b ≡ 8) ⊎ (b ≡ 16)) (k : (X : Bytes) → length X ≡ b → length (E X) ≡ b) where
  hb : 0 < b
  hb = (width_bounds b w).0

  length_chained : (S X : Bytes) → length S ≡ b → length (g (chained b E (E S) X ⊕ Len b X)) ≡ b
  length_chained S X h =
      length_g (chained b E (E S) X ⊕ Len b X) ∙ length_xor (chained b E (E S) X) (Len b X) ∙ ap length (chained_loop b E (E S) X hb)
      ∙ length_chain b E k (E S) (blocks b X) (k S h)

  length_HASH : (param : ℕ) (N A : Bytes) → length N < b → length (HASH b E param N A) ≡ b
  unfolding HASH
  length_HASH param N A h = length_chained (zpp b (param ∷ N)) A (length_zpp b (param ∷ N) (omega arith))

  length_PRF : (t : ℕ) (V C : Bytes) → t ≤ b → length V ≡ b → length (PRF b E t V C) ≡ t
  unfolding PRF
  length_PRF t V C h v =
      let U = g (chained b E (E (g V)) C ⊕ Len b C) in
      let l : length (E U) ≡ b = k U (length_chained (g V) C (length_g V ∙ v)) in
      length-take t (E U) ∙ (let z : min t (length (E U)) ≡ t = omega arith in z)

pub length_tag : (b : ℕ) (E : Bytes → Bytes) → (b ≡ 8) ⊎ (b ≡ 16) → ((X : Bytes) → length X ≡ b → length (E X) ≡ b) → (t param : ℕ) (N A C : Bytes) → t ≤ b → length N < b → length (PRF b E t (HASH b E param N A) C) ≡ t
length_tag b E w k t param N A C l n = length_PRF b E w k t (HASH b E param N A) C l (length_HASH b E w k param N A n)

pub silc_split : (b : ℕ) → RunCounts b (λ a. 1 + parts b a) (λ x. 2 + parts b x) (silc_runs b) (λ a x. silc_runs b a x - parts b x)
silc_split b = record { whole = λ a x. omega arith; rest = λ a x. omega arith }

-- the mode that the frame makes of SILC's HASH and PRF
pub silc_framed : (b : ℕ) (E : Bytes → Bytes) → framed b E (PRF b E) 2 (HASH b E) (silc_runs b) (λ a x. silc_runs b a x - parts b x) ≡ silc_of b E
silc_framed b E = refl

pub silc_lawful : (b : ℕ) (E : Bytes → Bytes) → (b ≡ 8) ⊎ (b ≡ 16) → ((X : Bytes) → length X ≡ b → length (E X) ≡ b) → Lawful (silc_of b E)
silc_lawful b E w k = framed_lawful b E (PRF b E) (HASH b E) 2 _ _ (silc_runs b) (λ a x. silc_runs b a x - parts b x) w (length_tag b E w k) (silc_split b)
