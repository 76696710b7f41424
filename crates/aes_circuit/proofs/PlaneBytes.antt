-- From bytes to planes and back.
use Rattle.std.proofs.Common.{◌≡◌, ℕ, ◌+◌, ◌*◌, ◌/◌, ◌%◌, ◌^◌, ◌<◌, true, List, [], ◌∷◌, length, get_or, sym, refl, ap, ◌∙◌, div-one, arith}
use Rattle.std.proofs.lemmas.List.FromFn.{fill_by_all}
use Rattle.bits.specs.Digits.{bit, sum}
use Rattle.bits.specs.BytePlanes.{byte_of, lane}
use Rattle.bits.specs.Swaps.{swaps, source}
use Rattle.bits.proofs.Everywhere.{everywhere}
use Rattle.bits.proofs.Ext.{bit_shr, bit_mod}
use Rattle.bits.proofs.BytePlanes.{byte_of_bits, bit_byte}
use Rattle.bits.proofs.Listed.{eight_eq, sixteen_eq}
use Rattle.bits.proofs.Sums.{digit}
use Rattle.bits.proofs.Swaps.{sound, swaps_bit}
use Rattle.aes_circuit.specs.Planes.{planes, bytes_of, inward, outward}

-- a lane whose bits are those of byte i of a number
number_lane :
    (x e o i : ℕ) → ((k : ℕ) → k < 4 → bit e (16 * k + i) ≡ bit x (8 * i + 2 * k)) → ((k : ℕ) → k < 4 → bit o (16 * k + i) ≡ bit x (8 * i + (2 * k + 1))) →
    lane (planes e o) i ≡ x / 256 ^ i % 256
number_lane x e o i even odd =
    let z : i ≡ 16 * 0 + i = omega arith in
    let E : (k : ℕ) → k < 4 → bit e (16 * k + i) ≡ bit (x / 256 ^ i) (2 * k) = λ k h. even k h ∙ bit_byte x i (2 * k) in
    let O : (k : ℕ) → k < 4 → bit o (16 * k + i) ≡ bit (x / 256 ^ i) (2 * k + 1) = λ k h. odd k h ∙ bit_byte x i (2 * k + 1) in
    ap byte_of
    (eight_eq (ap (bit e) z ∙ E 0 (omega arith)) (ap (bit o) z ∙ O 0 (omega arith)) (bit_shr e 16 i ∙ E 1 (omega arith)) (bit_shr o 16 i ∙ O 1 (omega arith))
    (bit_shr e 32 i ∙ E 2 (omega arith)) (bit_shr o 32 i ∙ O 2 (omega arith)) (bit_shr e 48 i ∙ E 3 (omega arith)) (bit_shr o 48 i ∙ O 3 (omega arith)))
    ∙ byte_of_bits (x / 256 ^ i)

-- inward, the place n of the planes has the bit of this place of the bytes; outward, the place n of the bytes has that of the planes
in_sound : (n : ℕ) → n < 128 → sound 128 inward n ≡ true
in_sound = everywhere true 128 (sound 128 inward) (λ n. true) refl

in_source : (n : ℕ) → n < 128 → source 128 inward n ≡ 8 * (n % 16) + 2 * (n / 16 % 4) + n / 64
in_source = everywhere 0 128 (source 128 inward) (λ n. 8 * (n % 16) + 2 * (n / 16 % 4) + n / 64) refl

out_sound : (n : ℕ) → n < 128 → sound 128 outward n ≡ true
out_sound = everywhere true 128 (sound 128 outward) (λ n. true) refl

out_source : (n : ℕ) → n < 128 → source 128 outward n ≡ 64 * (n % 2) + 16 * (n % 8 / 2) + n / 8
out_source = everywhere 0 128 (source 128 outward) (λ n. 64 * (n % 2) + 16 * (n % 8 / 2) + n / 8) refl

place : (n i k b : ℕ) → n % 16 ≡ i → n / 16 % 4 ≡ k → n / 64 ≡ b → k < 4 → 8 * (n % 16) + 2 * (n / 16 % 4) + n / 64 ≡ 8 * i + 2 * k + b
place n i k b p q r h = cc

in_lane : (x y i : ℕ) → y ≡ swaps 128 inward x → i < 16 → lane (planes (y % 2 ^ 64) (y / 2 ^ 64)) i ≡ x / 256 ^ i % 256
in_lane x y i e h =
    let at : (n : ℕ) → n < 128 → bit y n ≡ bit x (8 * (n % 16) + 2 * (n / 16 % 4) + n / 64) =
    λ n g. ap (λ v. bit v n) e ∙ swaps_bit 128 inward x n (in_sound n g) ∙ ap (bit x) (in_source n g) in
    number_lane x (y % 2 ^ 64) (y / 2 ^ 64) i
    (λ k g.
    let n : ℕ = 16 * k + i in
    let p : 8 * (n % 16) + 2 * (n / 16 % 4) + n / 64 ≡ 8 * i + 2 * k + 0 = place n i k 0 (omega arith) (omega arith) (omega arith) g in
    bit_mod 64 y n (omega arith) ∙ at n (omega arith) ∙ ap (bit x) (p ∙ omega arith))
    (λ k g.
    let n : ℕ = 64 + (16 * k + i) in
    let p : 8 * (n % 16) + 2 * (n / 16 % 4) + n / 64 ≡ 8 * i + 2 * k + 1 = place n i k 1 (omega arith) (omega arith) (omega arith) g in
    bit_shr y 64 (16 * k + i) ∙ at n (omega arith) ∙ ap (bit x) (p ∙ omega arith))

out_lane : (x y e o i : ℕ) → e < 2 ^ 64 → y ≡ o * 2 ^ 64 + e → x ≡ swaps 128 outward y → i < 16 → lane (planes e o) i ≡ x / 256 ^ i % 256
out_lane x y e o i small is from h =
    let at : (n : ℕ) → n < 128 → bit x n ≡ bit y (64 * (n % 2) + 16 * (n % 8 / 2) + n / 8) =
    λ n g. ap (λ v. bit v n) from ∙ swaps_bit 128 outward y n (out_sound n g) ∙ ap (bit y) (out_source n g) in
    let E : y % 2 ^ 64 ≡ e = omega arith in
    let O : y / 2 ^ 64 ≡ o = omega arith in
    number_lane x e o i
    (λ k g.
    let n : ℕ = 8 * i + 2 * k in
    let p : 16 * k + i ≡ 64 * (n % 2) + 16 * (n % 8 / 2) + n / 8 = omega arith in
    ap (λ v. bit v (16 * k + i)) (sym E) ∙ bit_mod 64 y (16 * k + i) (omega arith) ∙ ap (bit y) p ∙ sym (at n (omega arith)))
    (λ k g.
    let n : ℕ = 8 * i + (2 * k + 1) in
    let p : 64 + (16 * k + i) ≡ 64 * (n % 2) + 16 * (n % 8 / 2) + n / 8 = omega arith in
    ap (λ v. bit v (16 * k + i)) (sym O) ∙ bit_shr y 64 (16 * k + i) ∙ ap (bit y) p ∙ sym (at n (omega arith)))

-- the number of sixteen bytes, byte 0 the lowest, as `from_le_bytes` gives it
abbrev pub number : List ℕ → ℕ
number b = sum 16 (λ i. get_or b i 0 * 256 ^ i)

pub in_is : (b : List ℕ) (x y : ℕ) → length b ≡ 16 → ((i : ℕ) → get_or b i 0 < 256) → x ≡ number b → y ≡ swaps 128 inward x → bytes_of (y % 2 ^ 64) (y / 2 ^ 64) ≡ b
unfolding bytes_of
in_is b x y l small e f =
    sym
    (fill_by_all (lane (planes (y % 2 ^ 64) (y / 2 ^ 64))) b 16 0 l
    (λ i h. sym (in_lane x y i f h ∙ ap (λ v. v / 256 ^ i % 256) e ∙ digit 255 (λ k. get_or b k 0) small 16 i h)))

pub out_is :
    (x y e o : ℕ) → e < 2 ^ 64 → y ≡ o * 2 ^ 64 + e → x ≡ swaps 128 outward y →
    (x % 256) ∷ (x / 256 % 256) ∷ (x / 256 ^ 2 % 256) ∷ (x / 256 ^ 3 % 256) ∷ (x / 256 ^ 4 % 256) ∷ (x / 256 ^ 5 % 256) ∷ (x / 256 ^ 6 % 256) ∷ (x / 256 ^ 7 % 256) ∷ (x / 256 ^ 8 % 256) ∷ (x / 256 ^ 9 % 256) ∷ (x / 256 ^ 10 % 256) ∷ (x / 256 ^ 11 % 256) ∷ (x / 256 ^ 12 % 256) ∷ (x / 256 ^ 13 % 256) ∷ (x / 256 ^ 14 % 256) ∷ (x / 256 ^ 15 % 256) ∷ [] ≡ bytes_of e o
unfolding bytes_of
out_is x y e o small is from =
    let at : (i : ℕ) → i < 16 → x / 256 ^ i % 256 ≡ lane (planes e o) i = λ i h. sym (out_lane x y e o i small is from h) in
    sixteen_eq (ap (λ v. v % 256) (sym (div-one x)) ∙ at 0 (omega arith)) (at 1 (omega arith)) (at 2 (omega arith)) (at 3 (omega arith)) (at 4 (omega arith)) (at 5 (omega arith)) (at 6 (omega arith)) (at 7 (omega arith))
    (at 8 (omega arith)) (at 9 (omega arith)) (at 10 (omega arith)) (at 11 (omega arith)) (at 12 (omega arith)) (at 13 (omega arith)) (at 14 (omega arith)) (at 15 (omega arith))
