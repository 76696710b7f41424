-- One run of a cipher of width b and function E, with so much left, on a block: refused where the block has another length, then where
-- nothing is left; else the block becomes E of itself, and left falls by one. A refused run changes nothing.
use Rattle.std.specs.Prelude.{ℕ, cond, List, length, Ok, Err, Result, ◌==◌}
use Rattle.cipher.specs.declared.fault.CipherFault.{CipherFault}
use Rattle.cipher.specs.declared.fault.CipherFault.TheVariants.{BlockLength, Spent}
use Rattle.cipher.specs.Left.{spent}

abbrev pub answer : ℕ → ℕ → List ℕ → Result (Unit {0}) CipherFault
answer b left block =
    cond (length block == b) (cond (left == 0) (Err Spent) (Ok tt)) (Err (BlockLength (length block)))

abbrev pub block_after : ℕ → (List ℕ → List ℕ) → ℕ → List ℕ → List ℕ
block_after b E left block =
    cond (length block == b) (cond (left == 0) block (E block)) block

abbrev pub left_after : ℕ → ℕ → List ℕ → ℕ
left_after b left block =
    cond (length block == b) (spent left 1) left

-- What a meter's own quota becomes: a run that is carried out lowers it by one, unless it has no end. `left` is what is left of the
-- whole pile, of which the quota is a part.
abbrev pub quota_after : ℕ → ℕ → ℕ → List ℕ → ℕ
quota_after b left quota block =
    cond (length block == b) (cond (left == 0) quota (spent quota 1)) quota
