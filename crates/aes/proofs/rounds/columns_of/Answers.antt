use Rattle.std.proofs.Common.{◌≡◌, ℕ, zero, suc, ◌+◌, ◌*◌, ◌/◌, ◌<◌, List, [], length, get_or, set, drop, ap, ◌∙◌, arith, length-set}
use Rattle.std.specs.Simd.{first_chunks}
use Rattle.std.proofs.lemmas.List.{get_or-take, get_or-drop}
use Rattle.std.proofs.lemmas.List.Edits.{fill_by_more}
use Rattle.std.proofs.lemmas.List.FromFn.{fill_by_all}
use Rattle.aes.specs.Fips197.{key_word}
use Rattle.aes.proofs.rounds.columns_of.Goals as goal

chunk_is : (n : ℕ) (xs : List ℕ) (k j : ℕ) → k < n → j < 4 → get_or (get_or (first_chunks 4 n xs) k []) j 0 ≡ get_or xs (4 * k + j) 0
chunk_is zero xs k j h l = absurd (omega arith)
chunk_is (suc n) xs zero j h l = let e : j ≡ 4 * 0 + j = omega arith in get_or-take 4 xs j 0 l ∙ ap (λ i. get_or xs i 0) e
chunk_is (suc n) xs (suc k) j h l =
    let e : 4 + (4 * k + j) ≡ 4 * suc k + j = omega arith in
    chunk_is n (drop 4 xs) k j (omega arith) l ∙ get_or-drop 4 xs (4 * k + j) 0 ∙ ap (λ i. get_or xs i 0) e

pub loop-c-preserved : goal.loop-c-preserved
loop-c-preserved c =
    let bytes = c.args.bytes.now in
    let f = fill_by_more (key_word bytes) c.loop-c.columns c.loop-c.c 0 (omega arith) c.loop-c.invariant.1 in
    let n : length bytes / 4 ≡ 4 = omega arith in
    let at : (j : ℕ) → j < 4 → get_or (get_or c.as_chunks.result.0.now c.loop-c.c []) j 0 ≡ get_or bytes (4 * c.loop-c.c + j) 0
    = λ j h. ap (λ s. get_or (get_or s c.loop-c.c []) j 0) (c.as_chunks.ensures.front ∙ ap (λ n. first_chunks 4 n bytes) n) ∙ chunk_is 4 bytes c.loop-c.c j (omega arith) h in
    let a = at 0 (omega arith) in let b = at 1 (omega arith) in let c' = at 2 (omega arith) in let d = at 3 (omega arith) in
    let z : 4 * c.loop-c.c + 0 ≡ 4 * c.loop-c.c = omega arith in
    let e : c.from_be_bytes.result ≡ key_word bytes c.loop-c.c = cc in
    (length-set c.loop-c.columns c.loop-c.c c.from_be_bytes.result ∙ c.loop-c.invariant.0, λ k h. ap (λ x. get_or (set c.loop-c.columns c.loop-c.c x) k 0) e ∙ f k h)

pub returns : goal.returns
returns c = fill_by_all (key_word c.args.bytes.now) c.loop-c.columns 4 0 c.loop-c.invariant.0 (λ k h. c.loop-c.invariant.1 k (omega arith))
