use Rattle.std.proofs.Common.{◌≡◌, ◌-◌, ◌≤◌, length}
use Rattle.cipher.specs.Left.{spent}
use Rattle.blocks.specs.Blocks.{parts, blocks, front, last}
use Rattle.blocks.specs.Chain.{chain}
use Rattle.blocks.proofs.steps.absorb_front.Given as goal

-- what is left to chain gives what the whole gives, and what is left to run leaves what the whole leaves
abbrev pub invariant-loop-rest : goal.invariant-loop-rest
invariant-loop-rest g l =
    let b = g.C.Cipher.width l.initial.cipher in
    let E = g.C.Cipher.E l.initial.cipher in
    let left = g.C.Allowance.remaining l.cipher in
    let left₀ = g.C.Allowance.remaining l.initial.cipher in
    (g.C.Cipher.width l.cipher ≡ b)
    × (g.C.Cipher.E l.cipher ≡ E)
    × (chain E l.state (front (blocks b l.rest)) ≡ chain E l.initial.state (front (blocks b l.initial.rest)))
    × (last (blocks b l.rest) ≡ last (blocks b l.initial.rest))
    × (parts b (length l.rest) - 1 ≤ left)
    × (spent left (parts b (length l.rest) - 1) ≡ spent left₀ (parts b (length l.initial.rest) - 1))

abbrev pub decreases-loop-rest : goal.decreases-loop-rest
decreases-loop-rest g l = length l.rest
