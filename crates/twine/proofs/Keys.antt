-- The key schedule as the code computes it.
use Rattle.std.proofs.Common.{◌≡◌, ℕ, suc, ◌+◌, ◌/◌, ◌%◌, ◌<◌, List, [], ◌∷◌, map, length, get_or, sym, refl, ap, ◌∙◌, ap₂, add-one, arith}
use Rattle.std.proofs.lemmas.List.{get_or-map, length-map}
use Rattle.std.proofs.lemmas.List.FromFn.{length-map-range_with_len, get_or-map-range_with_len}
use lib.Bits.{bit_xor, xor_lt}
use Rattle.bits.specs.Nibbles.{nibbles}
use Rattle.bits.proofs.Listed.{listed, below_at}
use Rattle.twine.specs.Twine.{S, CON, update, WK, RK, permuted, substituted, rounds}
use Rattle.twine.specs.Split.{Nibbles, round_keys}

-- the register updated, with s and t what the S-box gives
abbrev next : List ℕ → ℕ → ℕ → ℕ → List ℕ
next wk con s t =
    let w : ℕ → ℕ = λ i. get_or wk i 0 in
    bit_xor (w 4) s ∷ w 5 ∷ w 6 ∷ bit_xor (w 7) (con / 8) ∷ w 8 ∷ w 9 ∷ w 10 ∷ w 11 ∷ w 12 ∷ w 13 ∷ w 14 ∷ w 15 ∷ w 16 ∷ w 17 ∷ w 18 ∷ bit_xor (w 19) (con % 8) ∷ bit_xor (w 1) t ∷ w 2
    ∷ w 3 ∷ w 0 ∷ []

pub update_is : (wk : List ℕ) (con s t : ℕ) → length wk ≡ 20 → s ≡ S (get_or wk 16 0) → t ≡ S (get_or wk 0 0) → next wk con s t ≡ update con wk
unfolding update
update_is wk con s t e es et = ap₂ (next wk con) es et ∙ sym (ap (update con) (listed 20 wk e))

pub update_small : (wk : List ℕ) (con s t : ℕ) → Nibbles wk → con < 64 → s < 16 → t < 16 → Nibbles (next wk con s t)
update_small wk con s t h lc ls lt =
    let a = xor_lt 4 (get_or wk 4 0) s (h 4) ls in
    let b = xor_lt 4 (get_or wk 7 0) (con / 8) (h 7) (omega arith) in
    let d = xor_lt 4 (get_or wk 19 0) (con % 8) (h 19) (omega arith) in
    let e = xor_lt 4 (get_or wk 1 0) t (h 1) lt in
    below_at 16 (omega arith) (next wk con s t)
    (a, (h 5, (h 6, (b, (h 8, (h 9, (h 10, (h 11, (h 12, (h 13, (h 14, (h 15, (h 16, (h 17, (h 18, (d, (e, (h 2, (h 3, (h 0, tt))))))))))))))))))))

pub register_none : (K : List ℕ) → WK K 0 ≡ K
unfolding WK
register_none K = refl

pub register_more : (K : List ℕ) (r : ℕ) → WK K (r + 1) ≡ update (CON (suc r)) (WK K r)
unfolding WK
register_more K r = ap (WK K) (add-one r)

pub rounds_none : (RK : ℕ → List ℕ) (x : List ℕ) → rounds RK x 0 ≡ x
unfolding rounds
rounds_none RK x = refl

pub rounds_more : (RK : ℕ → List ℕ) (x : List ℕ) (i : ℕ) → rounds RK x (i + 1) ≡ permuted (substituted (RK (suc i)) (rounds RK x i))
unfolding rounds
rounds_more RK x i = ap (rounds RK x) (add-one i)

-- the words of a round key, of keys that hold the round keys of `key`
pub at_round :
    {K : Type 0} (words : K → List ℕ) → (key : List ℕ) (keys : List K) → map words keys ≡ round_keys key → (i : ℕ) (d : K) → i < 36 → words (get_or keys i d) ≡ RK (nibbles key) (suc i)
unfolding round_keys
at_round words key keys e i d h =
    let rk : ℕ → List ℕ = λ i. RK (nibbles key) (suc i) in
    let l : length keys ≡ 36 = sym (length-map keys words) ∙ ap length e ∙ length-map-range_with_len rk 0 36 in
    sym (get_or-map words keys i d [] (omega arith)) ∙ ap (λ ks. get_or ks i []) e ∙ get_or-map-range_with_len rk 0 36 i i [] h (omega arith)
