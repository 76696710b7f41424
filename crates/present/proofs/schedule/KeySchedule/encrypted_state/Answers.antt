use Rattle.std.proofs.Common.{◌≡◌, ℕ, ◌+◌, ◌*◌, ◌/◌, ◌<◌, length, get_or, take, [], sym, ap, ◌∙◌, arith, rules}
use Rattle.std.proofs.lemmas.List.{get_or-drop, get_or-take, length-take}
use Rattle.present.specs.Present.{rounds}
use Rattle.present.specs.Block.{number}
use Rattle.present.proofs.Rounds.{rounds_none, rounds_three, end_is, chunk_at}
use Rattle.present.proofs.schedule.KeySchedule.encrypted_state.Goals as goal

pub loop-a-init : goal.loop-a-init
loop-a-init c = λ key whole. sym (rounds_none (number key) c.args.state)

pub loop-a-preserved : goal.loop-a-preserved
loop-a-preserved c =
    λ key whole.
    let keys = c.args.self.now.keys in
    let i = c.loop-a.a-index in
    let len : length keys ≡ 32 = search rules in
    let threes = c.as_chunks.result.0.now in
    let h : i < 10 = let n = length-take 10 threes in omega arith in
    let at : (j : ℕ) → j < 3 → get_or (get_or (take 10 threes) i []) j 0 ≡ get_or keys (3 * i + j) 0 =
    λ j l. ap (λ xs. get_or xs j 0) (get_or-take 10 threes i [] h)
    ∙ ap (λ xs. get_or (get_or xs i []) j 0) c.as_chunks.ensures.front ∙ chunk_at (length keys / 3) i j keys (omega arith) l in
    let first : 3 * i + 0 ≡ 3 * i = omega arith in
    let a = at 0 (omega arith) ∙ ap (λ n. get_or keys n 0) first in let b = at 1 (omega arith) in let e = at 2 (omega arith) in
    let x = rw a at c.three_rounds-x.ensures in let y = rw b at x in
    rounds_three key keys whole c.args.state c.loop-a.x c.three_rounds-x.result i h (c.loop-a.invariant key whole) (rw e at y)

pub returns : goal.returns
returns c =
    λ key whole.
    let keys = c.args.self.now.keys in
    let len : length keys ≡ 32 = search rules in
    let i : 3 * c.loop-a.a-index ≡ 30 = let n = length-take 10 c.as_chunks.result.0.now in omega arith in
    let d : length keys / 3 * 3 ≡ 30 = omega arith in
    let at : (j : ℕ) → get_or c.as_chunks.result.1.now j 0 ≡ get_or keys (30 + j) 0 =
    λ j. ap (λ xs. get_or xs j 0) c.as_chunks.ensures.back ∙ get_or-drop (length keys / 3 * 3) keys j 0 ∙ ap (λ n. get_or keys (n + j) 0) d in
    let a = at 0 in let b = at 1 in
    end_is key keys whole c.args.state c.loop-a.x c.s_box_layer.result c.p_layer.result
    (c.loop-a.invariant key whole ∙ ap (rounds (number key) c.args.state) i) (rw a at c.s_box_layer.ensures) (rw b at c.p_layer.ensures)
