-- pLayer by four delta swaps; pLayer is linear, and three of them are the identity. Three rounds without a pLayer.
use Rattle.std.proofs.Common.{◌≡◌, ℕ, ◌+◌, ◌*◌, ◌/◌, ◌%◌, ◌^◌, ◌<◌, map, sym, refl, ap, ◌∙◌, subst, ap₂, arith, lit<}
use lib.Bits.{bit_and, bit_xor, xor_lt}
use Rattle.std.specs.List.{range_with_len}
use Rattle.bits.specs.Digits.{bit}
use Rattle.bits.specs.Moves.{swap, from}
use Rattle.bits.proofs.Everywhere.{everywhere}
use Rattle.bits.proofs.Ext.{ext, bit_of_xor}
use Rattle.bits.proofs.Swap.{swap_bit, swap_lt}
use Rattle.present.specs.Present.{sBoxLayer, pLayer, round}
use Rattle.present.proofs.LayerBits.{source, sources, pLayer_bit, pLayer_lt, pLayers_bit}

-- the bits under the mask and those above them are apart, and none comes from outside the word
abbrev fault : ℕ → ℕ → ℕ → ℕ
fault s m q = bit_and (bit m q) (bit (m * 2 ^ s % 2 ^ 64) q) + from 64 s m q / 64

abbrev Sound : ℕ → ℕ → Type 0
Sound s m = map (fault s m) (range_with_len 0 64) ≡ map (λ q. 0) (range_with_len 0 64)

inside : (s m q : ℕ) → Sound s m → q < 64 → from 64 s m q < 64
inside s m q e h =
    let z : fault s m q ≡ 0 = everywhere 0 64 (fault s m) (λ q. 0) e q h in
    let n : ℕ = from 64 s m q in
    let d : n / 64 ≡ 0 = omega (arith, z) in omega (arith, d)

moved : (s m x q : ℕ) → Sound s m → q < 64 → bit (swap 64 s m x) q ≡ bit x (from 64 s m q)
moved s m x q e h =
    let z : fault s m q ≡ 0 = everywhere 0 64 (fault s m) (λ q. 0) e q h in
    swap_bit 64 x s m q h (omega (arith, z))

all : (l : ℕ) → l < 64 → from 64 24 0x0000_0000_ff00_ff00 (from 64 12 0x0000_f0f0_0000_f0f0 (from 64 30 0x0000_0000_cccc_cccc (from 64 15 0x0000_aaaa_0000_aaaa l))) ≡ source l
all = everywhere 0 64 _ _ refl

pub permuted : (x a b c r : ℕ) → x < 2 ^ 64 → a ≡ swap 64 24 0x0000_0000_ff00_ff00 x → b ≡ swap 64 12 0x0000_f0f0_0000_f0f0 a → c ≡ swap 64 30 0x0000_0000_cccc_cccc b → r ≡ swap 64 15 0x0000_aaaa_0000_aaaa c → r ≡ pLayer x
permuted x a b c r h ea eb ec er =
    let ha : a < 2 ^ 64 = subst (λ n. n < 2 ^ 64) (sym ea) (swap_lt 64 x 24 0x0000_0000_ff00_ff00 h (lit< tt)) in
    let hb : b < 2 ^ 64 = subst (λ n. n < 2 ^ 64) (sym eb) (swap_lt 64 a 12 0x0000_f0f0_0000_f0f0 ha (lit< tt)) in
    let hc : c < 2 ^ 64 = subst (λ n. n < 2 ^ 64) (sym ec) (swap_lt 64 b 30 0x0000_0000_cccc_cccc hb (lit< tt)) in
    let hr : r < 2 ^ 64 = subst (λ n. n < 2 ^ 64) (sym er) (swap_lt 64 c 15 0x0000_aaaa_0000_aaaa hc (lit< tt)) in
    ext 64 r (pLayer x) hr (pLayer_lt x)
    (λ l g.
    let p : ℕ = from 64 15 0x0000_aaaa_0000_aaaa l in let hp : p < 64 = inside 15 0x0000_aaaa_0000_aaaa l refl g in
    let q : ℕ = from 64 30 0x0000_0000_cccc_cccc p in let hq : q < 64 = inside 30 0x0000_0000_cccc_cccc p refl hp in
    let s : ℕ = from 64 12 0x0000_f0f0_0000_f0f0 q in let hs : s < 64 = inside 12 0x0000_f0f0_0000_f0f0 q refl hq in
    ap (λ n. bit n l) er ∙ moved 15 0x0000_aaaa_0000_aaaa c l refl g
    ∙ ap (λ n. bit n p) ec ∙ moved 30 0x0000_0000_cccc_cccc b p refl hp
    ∙ ap (λ n. bit n q) eb ∙ moved 12 0x0000_f0f0_0000_f0f0 a q refl hq
    ∙ ap (λ n. bit n s) ea ∙ moved 24 0x0000_0000_ff00_ff00 x s refl hs
    ∙ ap (bit x) (all l g) ∙ sym (pLayer_bit x l g))

pub pLayer_xor : (a b : ℕ) → pLayer (bit_xor a b) ≡ bit_xor (pLayer a) (pLayer b)
pLayer_xor a b =
    ext 64 (pLayer (bit_xor a b)) (bit_xor (pLayer a) (pLayer b)) (pLayer_lt (bit_xor a b)) (xor_lt 64 (pLayer a) (pLayer b) (pLayer_lt a) (pLayer_lt b))
    (λ l g. pLayer_bit (bit_xor a b) l g ∙ bit_of_xor a b (source l) ∙ sym (bit_of_xor (pLayer a) (pLayer b) l ∙ ap₂ bit_xor (pLayer_bit a l g) (pLayer_bit b l g)))

round_trip : (l : ℕ) → l < 64 → sources 3 l ≡ l
round_trip = everywhere 0 64 (sources 3) (λ l. l) refl

pub thrice : (x : ℕ) → x < 2 ^ 64 → pLayer (pLayer (pLayer x)) ≡ x
thrice x h =
    ext 64 (pLayer (pLayer (pLayer x))) x (pLayer_lt (pLayer (pLayer x))) h (λ l g. pLayers_bit 3 x l g ∙ ap (bit x) (round_trip l g))

pub three_rounds :
    (x a b c s t u : ℕ) → u < 2 ^ 64 → s ≡ sBoxLayer (bit_xor x a) → pLayer t ≡ sBoxLayer (pLayer (bit_xor s b)) → pLayer (pLayer u) ≡ sBoxLayer (pLayer (pLayer (bit_xor t c))) →
    u ≡ round (round (round x a) (pLayer b)) (pLayer (pLayer c))
three_rounds x a b c s t u h es et eu =
    let first : round x a ≡ pLayer s = ap pLayer (sym es) in
    let second : round (pLayer s) (pLayer b) ≡ pLayer (pLayer t) = ap (λ n. pLayer (sBoxLayer n)) (sym (pLayer_xor s b)) ∙ ap pLayer (sym et) in
    let back : bit_xor (pLayer (pLayer t)) (pLayer (pLayer c)) ≡ pLayer (pLayer (bit_xor t c)) = sym (ap pLayer (pLayer_xor t c) ∙ pLayer_xor (pLayer t) (pLayer c)) in
    let third : round (pLayer (pLayer t)) (pLayer (pLayer c)) ≡ u = ap (λ n. pLayer (sBoxLayer n)) back ∙ ap pLayer (sym eu) ∙ thrice u h in
    sym (ap (λ n. round (round n (pLayer b)) (pLayer (pLayer c))) first ∙ ap (λ n. round n (pLayer (pLayer c))) second ∙ third)
