-- The rounds of the cipher, as a loop takes them.
use Rattle.std.proofs.Common.{◌≡◌, ℕ, ◌+◌, ◌<◌, List, [], ◌∷◌, map, length, get_or, take, drop, sym, refl, ap, ◌∙◌, ap₂, add-one, arith, length-take}
use Rattle.std.proofs.lemmas.List.{length-map, get_or-map, get_or-take, get_or-drop}
use Rattle.std.proofs.lemmas.List.FromFn.{fill_by_all, get_or-map-range_with_len}
use Rattle.std.specs.List.{range_with_len}
use Rattle.aes.specs.Fips197.{aes128, Cipher, KeyExpansion, state_of, rounds}
use Rattle.aes.specs.Rounds.{round_keys, round_key, key_states, plus, round, last_round}

-- the round keys as states
pub states_of : (w : List ℕ) (keys : List (List ℕ)) → keys ≡ round_keys w → map state_of keys ≡ key_states w
unfolding round_keys key_states
states_of w keys e = ap (map state_of) e

-- an element of a part that leaves out the first
pub after_first : {X : Type 0} (xs : List X) (m i : ℕ) (d : X) → i < length (take m (drop 1 xs)) → get_or (take m (drop 1 xs)) i d ≡ get_or xs (1 + i) d
after_first xs m i d h = let l : i < m = omega (arith, length-take m (drop 1 xs)) in get_or-take m (drop 1 xs) i d l ∙ get_or-drop 1 xs i d

-- a round key as it stands among the others, where v says which state a key is; and the next
module _ {X : Type 0} (v : X → List ℕ) (w : List ℕ) (keys : List X) (whole : map v keys ≡ key_states w) where
  pub key_at : (i : ℕ) → i < 11 → (d : X) → v (get_or keys i d) ≡ round_key w i
  unfolding key_states
  key_at i h d =
      let n : length keys ≡ 11 = sym (length-map keys v) ∙ ap length whole in
      sym (get_or-map v keys i d (v d) (omega arith)) ∙ ap (λ l. get_or l i (v d)) whole ∙ get_or-map-range_with_len (round_key w) 0 11 i i (v d) h (omega arith)

  pub next_at : (i : ℕ) → i < 10 → (d : X) → v (get_or keys (1 + i) d) ≡ round_key w (i + 1)
  next_at i h d = let n : 1 + i ≡ i + 1 = omega arith in key_at (1 + i) (omega arith) d ∙ ap (round_key w) n

-- a list of eleven keys by the states that they are; any element stands for what is past the end
pub keys_are :
    {X : Type 0} (v : X → List ℕ) (f : ℕ → List ℕ) (keys : List X) → length keys ≡ 11 → ((d : X) (i : ℕ) → i < 11 → v (get_or keys i d) ≡ f i) → map v keys ≡ map f (range_with_len 0 11)
keys_are v f [] n at = absurd (omega arith)
keys_are v f (k ∷ ks) n at =
    fill_by_all f (map v (k ∷ ks)) 11 [] (length-map (k ∷ ks) v ∙ n) (λ i h. get_or-map v (k ∷ ks) i k [] (omega arith) ∙ at k i h)

-- the state r after a step, from the state s before it and the round key k
pub start_step : (w block s k r : List ℕ) → s ≡ block → k ≡ round_key w 0 → r ≡ plus s k → r ≡ rounds w block 0
unfolding rounds
start_step w block s k r es ek er = er ∙ ap₂ plus es ek

rounds_more : (w block : List ℕ) (i : ℕ) → round (round_key w (i + 1)) (rounds w block i) ≡ rounds w block (i + 1)
unfolding rounds
rounds_more w block i = rw (add-one i) refl

pub round_step : (w block s k r : List ℕ) (i : ℕ) → s ≡ rounds w block i → k ≡ round_key w (i + 1) → r ≡ round k s → r ≡ rounds w block (i + 1)
round_step w block s k r i es ek er = er ∙ ap₂ round ek es ∙ rounds_more w block i

pub last_step : (key block s k r : List ℕ) → s ≡ rounds (KeyExpansion key) block 9 → k ≡ round_key (KeyExpansion key) 10 → r ≡ last_round k s → r ≡ aes128 key block
unfolding aes128 Cipher
last_step key block s k r es ek er = er ∙ ap₂ last_round ek es
