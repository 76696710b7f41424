-- The law of CLOC: opening gives M exactly when sealing M gives C and T.
use Rattle.std.specs.Prelude.{◌≡◌, ℕ, ◌+◌, max, ◌⊎◌, length}
use Rattle.std.proofs.Common.{refl, arith}
use Rattle.blocks.specs.Blocks.{Bytes, parts}
use Rattle.frame.specs.Framed.{framed}
use Rattle.frame.specs.Sound.{RunCounts, framed_lawful}
use Rattle.mode.specs.Meaning.{Lawful}
use Rattle.cloc.specs.Cloc.{HASH, PRF, full_runs, wrong_tag_runs, cloc_of}
use Rattle.cloc.specs.Sizes.{length_PRF}

pub cloc_runs : (b : ℕ) → RunCounts b (λ a. max 1 (parts b a)) (λ x. 1 + parts b x) (full_runs b) (wrong_tag_runs b)
cloc_runs b = record { whole = λ a x. omega arith; rest = λ a x. omega arith }

-- the mode that the frame makes of CLOC's HASH and PRF
pub cloc_framed : (b : ℕ) (E : Bytes → Bytes) → framed b E (PRF b E) 1 (HASH b E) (full_runs b) (wrong_tag_runs b) ≡ cloc_of b E
cloc_framed b E = refl

pub cloc_lawful : (b : ℕ) (E : Bytes → Bytes) → (b ≡ 8) ⊎ (b ≡ 16) → ((X : Bytes) → length X ≡ b → length (E X) ≡ b) → Lawful (cloc_of b E)
cloc_lawful b E w k = framed_lawful b E (PRF b E) (HASH b E) 1 _ _ (full_runs b) (wrong_tag_runs b) w (λ t param N A C l n. length_PRF b E w k t param N A C l) (cloc_runs b)
