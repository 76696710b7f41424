-- The key expansion, four words at a time.
use Rattle.std.proofs.Common.{◌≡◌, ℕ, zero, suc, ◌+◌, ◌-◌, ◌*◌, ◌/◌, ◌%◌, ◌<◌, cond, eqb, List, [], ◌∷◌, length, get_or, sym, refl, ap, ◌∙◌, ap₂, arith, length-append, ne_eqb}
use lib.Bits.{xor_assoc}
use Rattle.std.proofs.lemmas.List.{get_or_append_left, get_or_push}
use Rattle.aes.specs.Field.{◌⊕◌}
use Rattle.aes.specs.Fips197.{words, next, temp, KeyExpansion, SubWord, RotWord, Rcon}
use Rattle.aes.specs.Rounds.{round_words, columns_of}

length-words : (key : List ℕ) (n : ℕ) → length (words key n) ≡ n + 4
unfolding words
length-words key zero = refl
length-words key (suc n) = let e = length-words key n in omega (arith, length-append (words key n) (next (n + 4) (words key n) ∷ []))

-- a word stays as it is while others are added
words_front : (key : List ℕ) (m k n i : ℕ) → m + n ≡ k → i < n + 4 → get_or (words key k) i 0 ≡ get_or (words key n) i 0
unfolding words
words_front key zero k n i e h = let z : k ≡ n = omega arith in ap (λ t. get_or (words key t) i 0) z
words_front key (suc m) zero n i e h = absurd (omega arith)
words_front key (suc m) (suc k) n i e h = let l : i < length (words key k) = omega (arith, length-words key k) in
    get_or_append_left (words key k) (next (k + 4) (words key k) ∷ []) 0 i l ∙ words_front key m k n i (omega arith) h

word_step : (key : List ℕ) (n : ℕ) → get_or (words key (suc n)) (n + 4) 0 ≡ get_or (words key n) n 0 ⊕ temp (n + 4) (get_or (words key n) (n + 3) 0)
unfolding words next
word_step key n =
    let i : n + 4 - 4 ≡ n = omega arith in let j : n + 4 - 1 ≡ n + 3 = omega arith in
    get_or_push (words key n) (next (n + 4) (words key n)) 0 (n + 4) (length-words key n)
    ∙ ap₂ (λ a b. get_or (words key n) a 0 ⊕ temp (n + 4) (get_or (words key n) b 0)) i j

word_next : (key : List ℕ) (n : ℕ) → n < 40 → get_or (KeyExpansion key) (n + 4) 0 ≡ get_or (KeyExpansion key) n 0 ⊕ temp (n + 4) (get_or (KeyExpansion key) (n + 3) 0)
unfolding KeyExpansion
word_next key n h =
    let f : (i : ℕ) → i < n + 4 → get_or (words key 40) i 0 ≡ get_or (words key n) i 0 = λ i l. words_front key (40 - n) 40 n i (omega arith) l in
    words_front key (39 - n) 40 (suc n) (n + 4) (omega arith) (omega arith) ∙ word_step key n
    ∙ ap₂ (λ x y. x ⊕ temp (n + 4) y) (sym (f n (omega arith))) (sym (f (n + 3) (omega arith)))

pub first_words : (key : List ℕ) → columns_of key ≡ round_words (KeyExpansion key) 0
unfolding KeyExpansion words
first_words key = refl

temp_first : (i j x : ℕ) → i ≡ 4 * j + 4 → temp i x ≡ SubWord (RotWord x) ⊕ Rcon (j + 1)
temp_first i j x e =
    let z : i % 4 ≡ 0 = omega arith in let q : i / 4 ≡ j + 1 = omega arith in
    ap₂ (λ r k. cond (eqb r 0) (SubWord (RotWord x) ⊕ Rcon k) x) z q

temp_other : (i x : ℕ) → 0 < i % 4 → temp i x ≡ x
temp_other i x h = let n : i % 4 ≡ 0 → ⊥ = λ e. omega arith in ap (λ t. cond t (SubWord (RotWord x) ⊕ Rcon (i / 4)) x) (ne_eqb (i % 4) 0 n)

-- the words of a round from those of the round before
module _ (key : List ℕ) (j : ℕ) (h : j < 10) where
  first : get_or (KeyExpansion key) (4 * (j + 1) + 0) 0 ≡ get_or (KeyExpansion key) (4 * j + 0) 0 ⊕ (SubWord (RotWord (get_or (KeyExpansion key) (4 * j + 3) 0)) ⊕ Rcon (j + 1))
  first =
      let i : 4 * (j + 1) + 0 ≡ 4 * j + 0 + 4 = omega arith in let k : 4 * j + 0 + 3 ≡ 4 * j + 3 = omega arith in
      ap (λ n. get_or (KeyExpansion key) n 0) i ∙ word_next key (4 * j + 0) (omega arith)
      ∙ ap (◌⊕◌ (get_or (KeyExpansion key) (4 * j + 0) 0)) (temp_first (4 * j + 0 + 4) j _ (omega arith) ∙ ap (λ n. SubWord (RotWord (get_or (KeyExpansion key) n 0)) ⊕ Rcon (j + 1)) k)

  other : (i p : ℕ) → p + 1 ≡ i → i < 4 → get_or (KeyExpansion key) (4 * (j + 1) + i) 0 ≡ get_or (KeyExpansion key) (4 * j + i) 0 ⊕ get_or (KeyExpansion key) (4 * (j + 1) + p) 0
  other i p e l =
      let a : 4 * (j + 1) + i ≡ 4 * j + i + 4 = omega arith in let b : 4 * j + i + 3 ≡ 4 * (j + 1) + p = omega arith in
      ap (λ n. get_or (KeyExpansion key) n 0) a ∙ word_next key (4 * j + i) (omega arith)
      ∙ ap (◌⊕◌ (get_or (KeyExpansion key) (4 * j + i) 0)) (temp_other (4 * j + i + 4) _ (omega arith) ∙ ap (λ n. get_or (KeyExpansion key) n 0) b)

  pub next_words :
      (r : List ℕ) (s k e f g : ℕ) → r ≡ round_words (KeyExpansion key) j → s ≡ SubWord (RotWord (get_or r 3 0)) → k ≡ Rcon (j + 1) →
      e ≡ get_or r 0 0 ⊕ s ⊕ k → f ≡ get_or r 1 0 ⊕ e → g ≡ get_or r 2 0 ⊕ f → e ∷ f ∷ g ∷ (get_or r 3 0 ⊕ g) ∷ [] ≡ round_words (KeyExpansion key) (j + 1)
  next_words r s k e f g before es ek ee ef eg =
      let at : (i : ℕ) → get_or r i 0 ≡ get_or (round_words (KeyExpansion key) j) i 0 = λ i. ap (λ l. get_or l i 0) before in
      let a = at 0 in let b = at 1 in let c = at 2 in let d = at 3 in
      let x = xor_assoc (get_or r 0 0) s k in
      let w = first in let o = other 1 0 refl (omega arith) in let p = other 2 1 refl (omega arith) in let q = other 3 2 refl (omega arith) in cc
