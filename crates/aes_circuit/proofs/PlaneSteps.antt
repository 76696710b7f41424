-- The steps of a round on planes, as steps on the sixteen bytes.
use Rattle.std.proofs.Common.{◌≡◌, ℕ, ◌*◌, ◌/◌, ◌%◌, ◌^◌, ◌<◌, List, map, get_or, refl, ap, ◌∙◌, ap₂, arith}
use lib.Bits.{bit_xor, bit_or}
use Rattle.std.specs.List.{range_with_len}
use Rattle.bits.specs.Digits.{bit}
use Rattle.bits.specs.BytePlanes.{lane}
use Rattle.bits.specs.Shifts.{union}
use Rattle.bits.proofs.Everywhere.{everywhere}
use Rattle.bits.proofs.BytePlanes.{lane_lt}
use Rattle.bits.proofs.Listed.{sixteen_eq, below_at}
use Rattle.aes.specs.Field.{◌⊕◌}
use Rattle.aes.specs.Sbox.{S}
use Rattle.aes_circuit.specs.SboxCircuit.{sboxes}
use Rattle.aes.specs.Fips197.{SubBytes, ShiftRows, MixColumns}
use Rattle.aes.specs.Rounds.{plus}
use Rattle.aes_circuit.specs.Planes.{planes, bytes_of, rows_on, doubled, packed, shifted, next, second}
use Rattle.aes_circuit.proofs.SboxLanes.{sboxes_lane}
use Rattle.aes_circuit.proofs.PlaneBits.{plus_lane, packed_lane, shifted_lane, next_lane, second_lane}
use Rattle.aes_circuit.proofs.Mixing.{doubled_lane, mix_is}

all : (f g : ℕ → ℕ) → ((i : ℕ) → i < 16 → f i ≡ g i) → map f (range_with_len 0 16) ≡ map g (range_with_len 0 16)
all f g h =
    sixteen_eq (h 0 (omega arith)) (h 1 (omega arith)) (h 2 (omega arith)) (h 3 (omega arith)) (h 4 (omega arith)) (h 5 (omega arith)) (h 6 (omega arith)) (h 7 (omega arith))
    (h 8 (omega arith)) (h 9 (omega arith)) (h 10 (omega arith)) (h 11 (omega arith)) (h 12 (omega arith)) (h 13 (omega arith)) (h 14 (omega arith)) (h 15 (omega arith))

pub plus_is : (e o f p : ℕ) → bytes_of (e ⊕ f) (o ⊕ p) ≡ plus (bytes_of e o) (bytes_of f p)
unfolding bytes_of
plus_is e o f p = all (lane (planes (e ⊕ f) (o ⊕ p))) (λ i. lane (planes e o) i ⊕ lane (planes f p) i) (λ i h. plus_lane i e o f p)

pub shift_is : (e o : ℕ) → bytes_of (shifted e) (shifted o) ≡ ShiftRows (bytes_of e o)
unfolding bytes_of
shift_is e o = all (lane (planes (shifted e) (shifted o))) _ (λ i h. shifted_lane i h e o)

pub next_is : (e o : ℕ) → bytes_of (union 64 next e) (union 64 next o) ≡ rows_on 1 (bytes_of e o)
unfolding bytes_of
next_is e o = all (lane (planes (union 64 next e) (union 64 next o))) _ (λ i h. next_lane i h e o)

pub second_is : (e o : ℕ) → bytes_of (union 64 second e) (union 64 second o) ≡ rows_on 2 (bytes_of e o)
unfolding bytes_of
second_is e o = all (lane (planes (union 64 second e) (union 64 second o))) _ (λ i h. second_lane i h e o)

pub double_is :
    (e o : ℕ) → o < 2 ^ 64 →
    bytes_of (bit_xor (bit_or (o * 2 ^ 16 % 2 ^ 64) (o / 2 ^ 48)) (o / 2 ^ 48 * 2 ^ 32 % 2 ^ 64)) (bit_xor (bit_xor e (o / 2 ^ 48)) (o / 2 ^ 48 * 2 ^ 16 % 2 ^ 64)) ≡ doubled (bytes_of e o)
unfolding bytes_of
double_is e o h = all _ _ (λ i l. doubled_lane e o i h l)

pub mixed_is :
    (s a y z d b r : List ℕ) → ((i : ℕ) → get_or s i 0 < 256) → a ≡ rows_on 1 s → y ≡ plus s a → z ≡ rows_on 2 y → d ≡ doubled y → b ≡ plus a z → r ≡ plus b d → r ≡ MixColumns s
mixed_is s a y z d b r lt ea ey ez ed eb er =
    let y' : y ≡ plus s (rows_on 1 s) = ey ∙ ap (plus s) ea in
    er ∙ ap₂ plus (eb ∙ ap₂ plus ea (ez ∙ ap (rows_on 2) y')) (ed ∙ ap doubled y') ∙ mix_is s lt

pub bytes_lt : (e o i : ℕ) → get_or (bytes_of e o) i 0 < 256
unfolding bytes_of
bytes_lt e o i =
    let l = lane_lt (planes e o) in
    below_at 256 (omega arith) (bytes_of e o) (l 0, (l 1, (l 2, (l 3, (l 4, (l 5, (l 6, (l 7, (l 8, (l 9, (l 10, (l 11, (l 12, (l 13, (l 14, (l 15, tt)))))))))))))))) i

-- the S-boxes on words whose 16 lowest bits are the planes, packed again
ones : (i : ℕ) → i < 16 → bit 0xffff_ffff_ffff_ffff i ≡ 1
ones = everywhere 0 16 (bit 0xffff_ffff_ffff_ffff) (λ i. 1) refl

pub sub_is :
    (e o : ℕ) (r : List ℕ) → r ≡ sboxes 0xffff_ffff_ffff_ffff (planes e o) →
    bytes_of (packed (get_or r 0 0) (get_or r 2 0) (get_or r 4 0) (get_or r 6 0)) (packed (get_or r 1 0) (get_or r 3 0) (get_or r 5 0) (get_or r 7 0)) ≡ SubBytes (bytes_of e o)
unfolding bytes_of
sub_is e o r is =
    all _ (λ i. S (lane (planes e o) i))
    (λ i h.
    packed_lane i (get_or r 0 0) (get_or r 1 0) (get_or r 2 0) (get_or r 3 0) (get_or r 4 0) (get_or r 5 0) (get_or r 6 0) (get_or r 7 0) h
    ∙ ap (λ q. lane q i) is ∙ sboxes_lane 0xffff_ffff_ffff_ffff (planes e o) i (ones i h))
