-- What n runs do to a cipher of width b and function E with l left: both stay, and left falls by n unless it has no end.
use Rattle.std.specs.Prelude.{◌≡◌, ℕ}
use Rattle.cipher.specs.Left.{spent}
use Rattle.blocks.specs.Blocks.{Bytes}

pub record Ran (b b' : ℕ) (E E' : Bytes → Bytes) (l l' n : ℕ) : Type 0 where
  pub width : b' ≡ b
  pub same : E' ≡ E
  pub left : l' ≡ spent l n

-- what the interface of a cipher says of its states
abbrev pub Members : Type 0 → Type 0
Members C = record { remaining : C → ℕ; width : C → ℕ; E : C → Bytes → Bytes }

-- n runs take a cipher from c to d
abbrev pub Runs : {C : Type 0} → Members C → C → C → ℕ → Type 0
Runs m c d n = Ran (m.width c) (m.width d) (m.E c) (m.E d) (m.remaining c) (m.remaining d) n
