-- What runs leave of an allowance, and one run after another.
use Rattle.std.proofs.Common.{◌≡◌, ℕ, ◌+◌, ◌-◌, ◌^◌, ◌<◌, ◌≤◌, false, eqb, ◌⊎◌, sym, refl, ap, ◌∙◌, ⊎_elim, arith}
use Rattle.std.proofs.lemmas.Bool.{cases_lt, cases_Bool, eqb-true, eqb-false, ne_eqb}
use Rattle.cipher.specs.Left.{spent, no_end}
use Rattle.blocks.specs.Blocks.{Bytes, parts}
use Rattle.blocks.specs.Ran.{Ran}
use Rattle.blocks.proofs.Cuts.{parts_more, parts_none}

-- what the law of the width says for arithmetic
pub width_bounds : (b : ℕ) → (b ≡ 8) ⊎ (b ≡ 16) → (0 < b) × (b ≤ 16) × (2 ≤ b)
width_bounds b w = ⊎_elim (λ e. (omega arith, omega arith, omega arith)) (λ e. (omega arith, omega arith, omega arith)) w

pub spent_none : (l : ℕ) → spent l 0 ≡ l
spent_none l = ⊎_elim (λ t. let e = eqb-true l no_end t in rw t (sym e)) (λ f. rw f (omega arith)) (cases_Bool (eqb l no_end))

-- after m runs there is enough for n more, and m and n runs are m + n
pub spent_then : (l m n : ℕ) → l < 2 ^ 64 → m + n ≤ l → (n ≤ spent l m) × (spent (spent l m) n ≡ spent l (m + n))
spent_then l m n hl h = ⊎_elim
    (λ t. let z : l ≡ no_end = eqb-true l no_end t in (rw t (omega arith), rw t))
    (λ f. let one : spent l m ≡ l - m = rw f in
    let all : spent l (m + n) ≡ l - (m + n) = rw f in
    (rw f (omega arith), ap (λ k. spent k n) one ∙ short f ∙ sym all))
    (cases_Bool (eqb l no_end))
  where
    short : eqb l no_end ≡ false → spent (l - m) n ≡ l - (m + n)
    short f =
        let ne = eqb-false l no_end f in
        let ne' : l - m ≡ no_end → ⊥ = (λ e. ne (omega arith)) in
        let f' = ne_eqb (l - m) no_end ne' in
        rw f' (omega arith)

-- one run of k, where k' are left to make
spent_turn : (k k' l l' : ℕ) → l < 2 ^ 64 → k ≡ 1 + k' → k ≤ l → l' ≡ spent l 1 → (k' ≤ l') × (spent l' k' ≡ spent l k)
spent_turn k k' l l' hl e h s =
    let t = spent_then l 1 k' hl (omega arith) in
    (rw s t.0, ap (λ q. spent q k') s ∙ t.1 ∙ ap (spent l) (sym e))

-- one run for the first of the blocks of m bytes
pub spent_block : (b m m' l l' : ℕ) → 0 < b → b ≤ m → m' ≡ m - b → l < 2 ^ 64 → parts b m ≤ l → l' ≡ spent l 1 → (parts b m' ≤ l') × (spent l' (parts b m') ≡ spent l (parts b m))
spent_block b m m' l l' hb hm e hl h s =
    let p = parts_more b m hb (omega arith) in
    let q = ap (parts b) e in
    spent_turn (parts b m) (parts b m') l l' hl (omega arith) h s

-- the same, where the last block is left out
pub spent_front : (b m m' l l' : ℕ) → 0 < b → b < m → m' ≡ m - b → l < 2 ^ 64 → parts b m - 1 ≤ l → l' ≡ spent l 1 → (parts b m' - 1 ≤ l') × (spent l' (parts b m' - 1) ≡ spent l (parts b m - 1))
spent_front b m m' l l' hb hm e hl h s =
    let p = parts_more b m hb (omega arith) in
    let q = ap (parts b) e in
    let r = parts_more b m' hb (omega arith) in
    spent_turn (parts b m - 1) (parts b m' - 1) l l' hl (omega arith) h s

-- at most one block is one part
pub parts_one : (b n : ℕ) → 0 < n → n ≤ b → parts b n ≡ 1
parts_one b n h k =
    let hb : 0 < b = omega arith in
    let p = parts_more b n hb h in
    let q : n - b ≡ 0 = omega arith in
    let s = ap (parts b) q in
    let z = parts_none b hb in omega arith

-- at the end of such a loop, where r bytes are left
pub spent_front_end : (b r l l₀ k : ℕ) → 0 < b → r ≤ b → spent l (parts b r - 1) ≡ spent l₀ k → l ≡ spent l₀ k
spent_front_end b r l l₀ k hb h e =
    let z : parts b r - 1 ≡ 0 = ⊎_elim
    (λ i. let p = parts_one b r i h in omega arith)
    (λ i. let q : r ≡ 0 = omega arith in let s = ap (parts b) q in let n = parts_none b hb in omega arith)
    (cases_lt 0 r) in
    sym (spent_none l) ∙ ap (spent l) (sym z) ∙ e

module _ {b b' b'' : ℕ} {E E' E'' : Bytes → Bytes} {l l' l'' : ℕ} where
  -- m runs, then n
  pub ran_then : (m n : ℕ) → l < 2 ^ 64 → m + n ≤ l → Ran b b' E E' l l' m → Ran b' b'' E' E'' l' l'' n → Ran b b'' E E'' l l'' (m + n)
  ran_then m n hl h r q = record {
    width = q.width ∙ r.width;
    same = q.same ∙ r.same;
    left = q.left ∙ ap (λ k. spent k n) r.left ∙ (spent_then l m n hl h).1;
  }

module _ {b b' : ℕ} {E E' : Bytes → Bytes} {l l' : ℕ} where
  -- after m runs there is enough for n more
  pub ran_left : (m n : ℕ) → l < 2 ^ 64 → m + n ≤ l → Ran b b' E E' l l' m → n ≤ l'
  ran_left m n hl h r = rw r.left (spent_then l m n hl h).0

-- the count said in another way
pub ran_as : {b b' : ℕ} {E E' : Bytes → Bytes} {l l' m n : ℕ} → m ≡ n → Ran b b' E E' l l' m → Ran b b' E E' l l' n
ran_as {l = l} e r = record { width = r.width; same = r.same; left = r.left ∙ ap (spent l) e }

pub ran_none : (b : ℕ) (E : Bytes → Bytes) (l : ℕ) → Ran b b E E l l 0
ran_none b E l = record { width = refl; same = refl; left = sym (spent_none l) }
