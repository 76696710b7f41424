use Rattle.std.proofs.Common.{◌≡◌, ◌+◌, ◌≤◌, ◌++◌, not, nat_eq, length, take}
use Rattle.cipher.specs.Left.{spent}
use Rattle.blocks.specs.Blocks.{parts}
use Rattle.blocks.specs.Chain.{crypted}
use Rattle.blocks.proofs.steps.crypt.Given as goal

-- what is written and what is left to write are the whole, and what is left to run leaves what the whole leaves
abbrev pub invariant-loop-rest : goal.invariant-loop-rest
invariant-loop-rest g l =
    let b = g.C.Cipher.width l.initial.cipher in
    let E = g.C.Cipher.E l.initial.cipher in
    let t = not (nat_eq g.row.DECRYPTS 0) in
    let left = g.C.Allowance.remaining l.cipher in
    let left₀ = g.C.Allowance.remaining l.initial.cipher in
    (g.C.Cipher.width l.cipher ≡ b)
    × (g.C.Cipher.E l.cipher ≡ E)
    × (take l.done l.out ++ crypted b E t l.state l.rest ≡ crypted b E t l.initial.state l.initial.rest)
    × (parts b (length l.rest) ≤ left)
    × (spent left (parts b (length l.rest)) ≡ spent left₀ (parts b (length l.initial.rest)))
    × (l.done + length l.rest ≡ length l.initial.out)

abbrev pub decreases-loop-rest : goal.decreases-loop-rest
decreases-loop-rest g l = length l.rest
