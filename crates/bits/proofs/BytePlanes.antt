-- Bytes on bit planes: their bits, their sums, and what a circuit makes of them.
use Rattle.std.proofs.Common.{◌≡◌, ℕ, zero, suc, ◌+◌, ◌*◌, ◌/◌, ◌%◌, ◌^◌, ◌<◌, List, [], ◌∷◌, ◌++◌, get_or, sym, refl, ap, ◌∙◌, ap₂, pow-suc, arith, pow-add}
use native.Mathlib.Nat.{div-div-eq-div-mul}
use lib.Bits.{bit_xor, xor_block}
use Rattle.bits.specs.Digits.{bit}
use Rattle.bits.specs.BytePlanes.{eight, byte_of, bits_of, lane, wires}
use Rattle.bits.proofs.Ext.{bit_lt, bit_half}
use Rattle.bits.proofs.Lift.{bits, wire_bits, lift_outs}
use Rattle.bits.proofs.Listed.{eight_eq}

-- lane i of the wires at the start of a circuit
pub bits_wires : (n : ℕ) (p : List ℕ) (i : ℕ) → bits i (wires n p) ≡ wires n (bits i p)
bits_wires n p i = lift_outs _ [] p i

pub bits_append : (p q : List ℕ) (i : ℕ) → bits i (p ++ q) ≡ bits i p ++ bits i q
bits_append [] q i = refl
bits_append (x ∷ p) q i = ap (λ t. bit x i ∷ t) (bits_append p q i)

-- a byte from the bits of its lane
pub lane_bits : (p : List ℕ) (i : ℕ) → lane p i ≡ byte_of (bits i p)
lane_bits p i =
    let a = wire_bits p 0 i in let b = wire_bits p 1 i in let c = wire_bits p 2 i in let d = wire_bits p 3 i in
    let e = wire_bits p 4 i in let f = wire_bits p 5 i in let g = wire_bits p 6 i in let h = wire_bits p 7 i in cc

-- two lanes whose bits are equal
pub lane_eq : (p q : List ℕ) (i k : ℕ) → ((j : ℕ) → j < 8 → bit (get_or p j 0) i ≡ bit (get_or q j 0) k) → lane p i ≡ lane q k
lane_eq p q i k h =
    ap byte_of
    (eight_eq (h 0 (omega arith)) (h 1 (omega arith)) (h 2 (omega arith)) (h 3 (omega arith)) (h 4 (omega arith)) (h 5 (omega arith)) (h 6 (omega arith)) (h 7 (omega arith)))

pub byte_lt : (v : ℕ → ℕ) → ((j : ℕ) → v j < 2) → byte_of (eight v) < 256
byte_lt v h =
    let a = h 0 in let b = h 1 in let c = h 2 in let d = h 3 in let e = h 4 in let f = h 5 in let g = h 6 in let i = h 7 in omega arith

pub lane_lt : (p : List ℕ) (i : ℕ) → lane p i < 256
lane_lt p i = byte_lt (λ j. bit (get_or p j 0) i) (λ j. bit_lt (get_or p j 0) i)

low : (a r : ℕ) → a < 2 → bit (a + 2 * r) 0 ≡ a
low a r h = omega arith

next : (a r i : ℕ) → a < 2 → bit (a + 2 * r) (suc i) ≡ bit r i
next a r i h = let e : (a + 2 * r) / 2 ≡ r = omega arith in sym (bit_half (a + 2 * r) i) ∙ ap (λ x. bit x i) e

bits_back :
    (a b c d e f g h : ℕ) → a < 2 → b < 2 → c < 2 → d < 2 → e < 2 → f < 2 → g < 2 → h < 2 →
    bits_of (a + 2 * (b + 2 * (c + 2 * (d + 2 * (e + 2 * (f + 2 * (g + 2 * h))))))) ≡ a ∷ b ∷ c ∷ d ∷ e ∷ f ∷ g ∷ h ∷ []
bits_back a b c d e f g h ha hb hc hd he hf hg hh =
    let r7 : ℕ = h in let r6 : ℕ = g + 2 * r7 in let r5 : ℕ = f + 2 * r6 in let r4 : ℕ = e + 2 * r5 in let r3 : ℕ = d + 2 * r4 in let r2 : ℕ = c + 2 * r3 in let r1 : ℕ = b + 2 * r2 in
    let z : bit h 0 ≡ h = omega arith in
    eight_eq (low a r1 ha) (next a r1 0 ha ∙ low b r2 hb) (next a r1 1 ha ∙ next b r2 0 hb ∙ low c r3 hc)
    (next a r1 2 ha ∙ next b r2 1 hb ∙ next c r3 0 hc ∙ low d r4 hd)
    (next a r1 3 ha ∙ next b r2 2 hb ∙ next c r3 1 hc ∙ next d r4 0 hd ∙ low e r5 he)
    (next a r1 4 ha ∙ next b r2 3 hb ∙ next c r3 2 hc ∙ next d r4 1 hd ∙ next e r5 0 he ∙ low f r6 hf)
    (next a r1 5 ha ∙ next b r2 4 hb ∙ next c r3 3 hc ∙ next d r4 2 hd ∙ next e r5 1 he ∙ next f r6 0 hf ∙ low g r7 hg)
    (next a r1 6 ha ∙ next b r2 5 hb ∙ next c r3 4 hc ∙ next d r4 3 hd ∙ next e r5 2 he ∙ next f r6 1 hf ∙ next g r7 0 hg ∙ z)

-- the bits of the byte of eight bits
pub bits_of_byte : (v : ℕ → ℕ) → ((j : ℕ) → v j < 2) → bits_of (byte_of (eight v)) ≡ eight v
bits_of_byte v h = bits_back (v 0) (v 1) (v 2) (v 3) (v 4) (v 5) (v 6) (v 7) (h 0) (h 1) (h 2) (h 3) (h 4) (h 5) (h 6) (h 7)

-- the byte of its bits
pub byte_of_bits : (x : ℕ) → byte_of (bits_of x) ≡ x % 256
byte_of_bits x = omega arith

horner : (a b A B : ℕ) → a < 2 → b < 2 → bit_xor (a + 2 * A) (b + 2 * B) ≡ bit_xor a b + 2 * bit_xor A B
horner a b A B ha hb =
    let p : a + 2 * A ≡ A * 2 ^ 1 + a = omega arith in
    let q : b + 2 * B ≡ B * 2 ^ 1 + b = omega arith in
    let r = xor_block 1 A B a b ha hb in
    ap₂ bit_xor p q ∙ r ∙ omega arith

-- the sum of two bytes, bit by bit
pub byte_xor : (a b : ℕ → ℕ) → ((j : ℕ) → a j < 2) → ((j : ℕ) → b j < 2) → byte_of (eight (λ j. bit_xor (a j) (b j))) ≡ bit_xor (byte_of (eight a)) (byte_of (eight b))
byte_xor a b ha hb =
    let A6 : ℕ = a 6 + 2 * a 7 in let A5 : ℕ = a 5 + 2 * A6 in let A4 : ℕ = a 4 + 2 * A5 in let A3 : ℕ = a 3 + 2 * A4 in let A2 : ℕ = a 2 + 2 * A3 in let A1 : ℕ = a 1 + 2 * A2 in
    let B6 : ℕ = b 6 + 2 * b 7 in let B5 : ℕ = b 5 + 2 * B6 in let B4 : ℕ = b 4 + 2 * B5 in let B3 : ℕ = b 3 + 2 * B4 in let B2 : ℕ = b 2 + 2 * B3 in let B1 : ℕ = b 1 + 2 * B2 in
    let h6 = horner (a 6) (b 6) (a 7) (b 7) (ha 6) (hb 6) in
    let h5 = horner (a 5) (b 5) A6 B6 (ha 5) (hb 5) in
    let h4 = horner (a 4) (b 4) A5 B5 (ha 4) (hb 4) in
    let h3 = horner (a 3) (b 3) A4 B4 (ha 3) (hb 3) in
    let h2 = horner (a 2) (b 2) A3 B3 (ha 2) (hb 2) in
    let h1 = horner (a 1) (b 1) A2 B2 (ha 1) (hb 1) in
    let h0 = horner (a 0) (b 0) A1 B1 (ha 0) (hb 0) in cc

-- a lane whose bits are the sums of those of two others
pub lane_xor :
    (r p q : List ℕ) (i k l : ℕ) → ((j : ℕ) → j < 8 → bit (get_or r j 0) i ≡ bit_xor (bit (get_or p j 0) k) (bit (get_or q j 0) l)) →
    lane r i ≡ bit_xor (lane p k) (lane q l)
lane_xor r p q i k l h =
    ap byte_of
    (eight_eq (h 0 (omega arith)) (h 1 (omega arith)) (h 2 (omega arith)) (h 3 (omega arith)) (h 4 (omega arith)) (h 5 (omega arith)) (h 6 (omega arith)) (h 7 (omega arith)))
    ∙ byte_xor (λ j. bit (get_or p j 0) k) (λ j. bit (get_or q j 0) l) (λ j. bit_lt (get_or p j 0) k) (λ j. bit_lt (get_or q j 0) l)

pow256 : (i : ℕ) → 2 ^ (8 * i) ≡ 256 ^ i
pow256 zero = refl
pow256 (suc i) =
    let e : 8 * suc i ≡ 8 * i + 8 = omega arith in
    ap (λ m. 2 ^ m) e ∙ pow-add 2 (8 * i) 8 ∙ ap (λ x. x * 256) (pow256 i) ∙ sym (pow-suc 256 i)

-- bit j of the i-th byte
pub bit_byte : (x i j : ℕ) → bit x (8 * i + j) ≡ bit (x / 256 ^ i) j
bit_byte x i j =
    ap (λ p. x / p % 2) (pow-add 2 (8 * i) j ∙ ap (λ p. p * 2 ^ j) (pow256 i)) ∙ ap (λ t. t % 2) (sym (div-div-eq-div-mul x (256 ^ i) (2 ^ j)))
