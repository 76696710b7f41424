-- Blocks as states, and states as blocks.
use Rattle.std.proofs.Common.{◌≡◌, ℕ, ◌+◌, ◌-◌, ◌*◌, ◌/◌, ◌%◌, ◌^◌, ◌<◌, List, [], ◌∷◌, length, get_or, sym, refl, ap, ◌∙◌, mod-lt, arith}
use Rattle.bits.specs.Digits.{sum, word}
use Rattle.bits.specs.Lanes.{lane}
use Rattle.bits.specs.Linear.{value}
use Rattle.bits.specs.Nibbles.{each, nibbles, bytes}
use Rattle.bits.proofs.Everywhere.{everywhere}
use Rattle.bits.proofs.Ext.{ext, bit_mod}
use Rattle.bits.proofs.Lanes.{each_eq, lane_bit, lane_lt, lane_xor, lanes_agree}
use Rattle.bits.proofs.Listed.{listed, AllBelow, below_at, eight_eq}
use Rattle.bits.proofs.Sums.{digit, bit_word}
use Rattle.led_circuit.specs.Planes.{place, cells, loading, storing}

-- a word's own nibbles as its lanes, the lowest first
abbrev own : ℕ → ℕ
own l = l

own_is : (v n : ℕ) → lane own v n ≡ word v n
own_is v n = ext 4 (lane own v n) (word v n) (lane_lt own v n) (mod-lt (v / 16 ^ n) (omega arith)) (λ k h. lane_bit own v n k h ∙ bit_word v n k ∙ sym (bit_mod 4 (v / 16 ^ n) k h))

-- the nibble of a word that is nibble i of a state: the higher one of each byte comes first
abbrev flip : ℕ → ℕ
flip i = get_or (1 ∷ 0 ∷ 3 ∷ 2 ∷ 5 ∷ 4 ∷ 7 ∷ 6 ∷ 9 ∷ 8 ∷ 11 ∷ 10 ∷ 13 ∷ 12 ∷ 15 ∷ 14 ∷ []) i 0

flip_small : (i : ℕ) → i < 16 → flip i < 16
flip_small i h = let z : flip i - 15 ≡ 0 = everywhere 0 16 (λ k. flip k - 15) (λ k. 0) refl i h in omega arith

loading_at : (w : ℕ) → w < 2 ^ 64 → (i : ℕ) → i < 16 → lane place (value 64 loading w) i ≡ lane own w (flip i)
unfolding lane
loading_at = lanes_agree 64 16 place loading (λ i w. lane own w (flip i)) (λ i. lane_xor own (flip i)) refl

storing_at : (x : ℕ) → x < 2 ^ 64 → (i : ℕ) → i < 16 → lane own (value 64 storing x) i ≡ lane place x (flip i)
unfolding lane
storing_at = lanes_agree 64 16 own storing (λ i x. lane place x (flip i)) (λ i. lane_xor place (flip i)) refl

-- the nibbles of eight bytes, the lowest first
abbrev halves : List ℕ → List ℕ
halves b =
    get_or b 0 0 % 16 ∷ get_or b 0 0 / 16 ∷ get_or b 1 0 % 16 ∷ get_or b 1 0 / 16 ∷ get_or b 2 0 % 16 ∷ get_or b 2 0 / 16 ∷ get_or b 3 0 % 16 ∷ get_or b 3 0 / 16
    ∷ get_or b 4 0 % 16 ∷ get_or b 4 0 / 16 ∷ get_or b 5 0 % 16 ∷ get_or b 5 0 / 16 ∷ get_or b 6 0 % 16 ∷ get_or b 6 0 / 16 ∷ get_or b 7 0 % 16 ∷ get_or b 7 0 / 16 ∷ []

pub loaded_is :
    (b : List ℕ) → length b ≡ 8 → AllBelow 256 (each 8 (λ i. get_or b i 0)) → (w : ℕ) →
    w ≡ get_or b 0 0 + get_or b 1 0 * 256 + get_or b 2 0 * 65536 + get_or b 3 0 * 16777216 + get_or b 4 0 * 4294967296 + get_or b 5 0 * 1099511627776 + get_or b 6 0 * 281474976710656 + get_or b 7 0 * 72057594037927936 →
    (x : ℕ) → x ≡ value 64 loading w → cells x ≡ nibbles b
unfolding nibbles
loaded_is b e small w ew x ex =
    let ns : List ℕ = halves b in
    let low : AllBelow 16 ns =
    (omega arith, (omega arith, (omega arith, (omega arith, (omega arith, (omega arith, (omega arith, (omega arith, (omega arith, (omega arith, (omega arith, (omega arith, (omega arith, (omega arith, (omega arith, (omega arith, tt)))))))))))))))) in
    let is : w ≡ sum 16 (λ j. get_or ns j 0 * 16 ^ j) = omega arith in
    ap cells ex
    ∙ each_eq 16 (lane place (value 64 loading w)) (λ i. get_or ns (flip i) 0)
    (λ i h. loading_at w (omega arith) i h ∙ own_is w (flip i) ∙ ap (λ n. word n (flip i)) is ∙ digit 15 (λ j. get_or ns j 0) (below_at 16 (omega arith) ns low) 16 (flip i) (flip_small i h))
    ∙ sym (ap nibbles (listed 8 b e))

pub stored_is :
    (x v : ℕ) → x < 2 ^ 64 → v ≡ value 64 storing x →
    (v % 256) ∷ (v / 256 % 256) ∷ (v / 65536 % 256) ∷ (v / 16777216 % 256) ∷ (v / 4294967296 % 256) ∷ (v / 1099511627776 % 256) ∷ (v / 281474976710656 % 256) ∷ (v / 72057594037927936 % 256) ∷ []
    ≡ bytes 8 (cells x)
stored_is x v h e =
    let at : (i : ℕ) → i < 16 → word v i ≡ lane place x (flip i) = λ i l. sym (own_is v i) ∙ ap (λ n. lane own n i) e ∙ storing_at x h i l in
    eight_eq
    (let p = at 0 (omega arith) in let q = at 1 (omega arith) in omega arith) (let p = at 2 (omega arith) in let q = at 3 (omega arith) in omega arith)
    (let p = at 4 (omega arith) in let q = at 5 (omega arith) in omega arith) (let p = at 6 (omega arith) in let q = at 7 (omega arith) in omega arith)
    (let p = at 8 (omega arith) in let q = at 9 (omega arith) in omega arith) (let p = at 10 (omega arith) in let q = at 11 (omega arith) in omega arith)
    (let p = at 12 (omega arith) in let q = at 13 (omega arith) in omega arith) (let p = at 14 (omega arith) in let q = at 15 (omega arith) in omega arith)
