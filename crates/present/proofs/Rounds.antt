-- Three rounds of the cipher, and its end.
use Rattle.std.proofs.Common.{◌≡◌, ℕ, zero, suc, ◌+◌, ◌*◌, ◌%◌, ◌<◌, List, [], drop, get_or, sym, refl, ap, ◌∙◌, add-one, arith}
use Rattle.std.specs.Simd.{first_chunks}
use Rattle.std.proofs.lemmas.List.{get_or-take, get_or-drop}
use lib.Bits.{bit_xor}
use Rattle.present.specs.Present.{pLayer, sBoxLayer, round, rounds, round_key, encrypt}
use Rattle.present.specs.Block.{number}
use Rattle.present.specs.RoundKeys.{pLayers, RoundKeys}
use Rattle.present.proofs.Permutation.{pLayer_xor}

pub rounds_none : (key state : ℕ) → rounds key state 0 ≡ state
unfolding rounds
rounds_none key state = refl

rounds_more : (key state i : ℕ) → rounds key state (i + 1) ≡ round (rounds key state i) (round_key key (i + 1))
unfolding rounds
rounds_more key state i = rw add-one refl

module _ (key keys : List ℕ) (whole : RoundKeys key keys) where
  key_at : (j n : ℕ) → j < 32 → j % 3 ≡ n → pLayers n (get_or keys j 0) ≡ round_key (number key) (j + 1)
  key_at j n h e = ap (λ i. pLayers i (get_or keys j 0)) (sym e) ∙ whole j h

  pub rounds_three : (state x y i : ℕ) → i < 10 → x ≡ rounds (number key) state (3 * i) →
      y ≡ round (round (round x (get_or keys (3 * i) 0)) (pLayer (get_or keys (3 * i + 1) 0))) (pLayer (pLayer (get_or keys (3 * i + 2) 0))) → y ≡ rounds (number key) state (3 * (i + 1))
  rounds_three state x y i h e f =
      let K : ℕ = number key in
      let a : get_or keys (3 * i) 0 ≡ round_key K (3 * i + 1) = key_at (3 * i) 0 (omega arith) (omega arith) in
      let b : pLayer (get_or keys (3 * i + 1) 0) ≡ round_key K (3 * i + 1 + 1) = key_at (3 * i + 1) 1 (omega arith) (omega arith) in
      let c : pLayer (pLayer (get_or keys (3 * i + 2) 0)) ≡ round_key K (3 * i + 2 + 1) = key_at (3 * i + 2) 2 (omega arith) (omega arith) in
      let p = rounds_more K state (3 * i) in
      let q = rounds_more K state (3 * i + 1) in
      let r = rounds_more K state (3 * i + 2) in
      let u : 3 * i + 1 + 1 ≡ 3 * i + 2 = omega arith in
      let v : 3 * i + 2 + 1 ≡ 3 * (i + 1) = omega arith in
      cc

  pub end_is : (state x s r : ℕ) → x ≡ rounds (number key) state 30 → s ≡ sBoxLayer (bit_xor x (get_or keys 30 0)) → r ≡ pLayer (bit_xor s (get_or keys 31 0)) → r ≡ encrypt (number key) state
  unfolding encrypt
  end_is state x s r e f g =
      let K : ℕ = number key in
      let a : get_or keys 30 0 ≡ round_key K 31 = key_at 30 0 (omega arith) (omega arith) in
      let b : pLayer (get_or keys 31 0) ≡ round_key K 32 = key_at 31 1 (omega arith) (omega arith) in
      let p = rounds_more K state 30 in
      let q = pLayer_xor s (get_or keys 31 0) in
      cc

-- the keys of three rounds, of the keys by threes
pub chunk_at : (k i j : ℕ) (xs : List ℕ) → i < k → j < 3 → get_or (get_or (first_chunks 3 k xs) i []) j 0 ≡ get_or xs (3 * i + j) 0
chunk_at zero i j xs h l = absurd (omega arith)
chunk_at (suc k) zero j xs h l = get_or-take 3 xs j 0 l ∙ ap (λ m. get_or xs m 0) (let e : j ≡ 0 + j = omega arith in e)
chunk_at (suc k) (suc i) j xs h l =
    let e : 3 + (3 * i + j) ≡ 3 * suc i + j = omega arith in
    chunk_at k i j (drop 3 xs) (omega arith) l ∙ get_or-drop 3 xs (3 * i + j) 0 ∙ ap (λ m. get_or xs m 0) e
