-- The bits of the two layers.
use Rattle.std.proofs.Common.{◌≡◌, ℕ, zero, suc, ◌+◌, ◌*◌, ◌/◌, ◌%◌, ◌^◌, ◌<◌, Bool, ltb, sym, refl, ap, ◌∙◌, subst, ⊎_elim, arith, lit<, ltb→lt}
use Rattle.std.proofs.lemmas.List.{get_or_past}
use Rattle.std.proofs.lemmas.Bool.{cases_lt}
use Rattle.bits.specs.Digits.{sum, bit, word}
use Rattle.bits.proofs.Table.{at}
use Rattle.bits.proofs.Sums.{sum_lt, digit, bit_word}
use Rattle.bits.proofs.Ext.{bit_lt, bit_mod}
use Rattle.present.specs.Present.{S, sbox, P, sBoxLayer, pLayer}
use Rattle.present.specs.RoundKeys.{pLayers}

-- where the bit of place l comes from under pLayer, and under n of them
abbrev pub source : ℕ → ℕ
source l = 4 * (l % 16) + l / 16

abbrev pub sources : ℕ → ℕ → ℕ
sources zero l = l
sources (suc n) l = sources n (source l)

by_source : (f : ℕ → ℕ) → sum 64 (λ i. f i * 2 ^ P i) ≡ sum 64 (λ l. f (source l) * 2 ^ l)
by_source f = omega arith

pub pLayer_bit : (x l : ℕ) → l < 64 → bit (pLayer x) l ≡ bit x (source l)
unfolding pLayer
pLayer_bit x l h = ap (λ n. bit n l) (by_source (bit x)) ∙ digit 1 (λ i. bit x (source i)) (λ i. bit_lt x (source i)) 64 l h

pub pLayer_lt : (x : ℕ) → pLayer x < 2 ^ 64
unfolding pLayer
pLayer_lt x = subst (λ n. n < 2 ^ 64) (sym (by_source (bit x))) (sum_lt 1 (λ i. bit x (source i)) (λ i. bit_lt x (source i)) 64)

pub pLayers_bit : (n x l : ℕ) → l < 64 → bit (pLayers n x) l ≡ bit x (sources n l)
pLayers_bit zero x l h = refl
pLayers_bit (suc n) x l h = pLayer_bit (pLayers n x) l h ∙ pLayers_bit n x (source l) (omega arith)

pub pLayers_lt : (n x : ℕ) → x < 2 ^ 64 → pLayers n x < 2 ^ 64
pLayers_lt zero x h = h
pLayers_lt (suc n) x h = pLayer_lt (pLayers n x)

S_small : ℕ → ℕ → Bool
S_small k s = ltb s 16

pub S_lt : (x : ℕ) → S x < 16
unfolding S_small
S_lt x =
    ⊎_elim (λ l. ltb→lt (S x) 16 (at S_small sbox tt x l)) (λ g. subst (λ t. t < 16) (sym (get_or_past sbox x 0 g)) (lit< tt)) (cases_lt x 16)

pub word_sBoxLayer : (x i : ℕ) → i < 16 → word (sBoxLayer x) i ≡ S (word x i)
unfolding sBoxLayer
word_sBoxLayer x i h = digit 15 (λ j. S (word x j)) (λ j. S_lt (word x j)) 16 i h

pub sBoxLayer_lt : (x : ℕ) → sBoxLayer x < 2 ^ 64
unfolding sBoxLayer
sBoxLayer_lt x = sum_lt 15 (λ j. S (word x j)) (λ j. S_lt (word x j)) 16

pub word_bit : (x i k : ℕ) → k < 4 → bit (word x i) k ≡ bit x (4 * i + k)
word_bit x i k h = bit_mod 4 (x / 16 ^ i) k h ∙ sym (bit_word x i k)

pub sBoxLayer_bit : (x i k : ℕ) → i < 16 → k < 4 → bit (sBoxLayer x) (4 * i + k) ≡ bit (S (word x i)) k
sBoxLayer_bit x i k h l = sym (word_bit (sBoxLayer x) i k l) ∙ ap (λ w. bit w k) (word_sBoxLayer x i h)

pub nibble_is : (x : ℕ) → x < 16 → sBoxLayer x % 16 ≡ S x
nibble_is x h =
    let e : sBoxLayer x % 16 ≡ word (sBoxLayer x) 0 = omega arith in
    let f : word x 0 ≡ x = omega arith in
    e ∙ word_sBoxLayer x 0 (omega arith) ∙ ap S f
