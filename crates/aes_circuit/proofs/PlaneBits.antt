-- The bits of the planes, and where each step takes them from.
use Rattle.std.proofs.Common.{◌≡◌, ℕ, zero, suc, ◌+◌, ◌*◌, ◌/◌, ◌%◌, ◌^◌, ◌<◌, true, List, [], ◌∷◌, get_or, sym, refl, ap, ◌∙◌, ap₂, arith}
use lib.Bits.{bit_xor, bit_and}
use Rattle.bits.specs.Digits.{bit}
use Rattle.bits.specs.BytePlanes.{byte_of, lane}
use Rattle.bits.specs.Moves.{swap, from}
use Rattle.bits.specs.Shifts.{Shift, union}
use Rattle.bits.proofs.Everywhere.{everywhere}
use Rattle.bits.proofs.Ext.{bit_of_xor, bit_shr, bit_mod}
use Rattle.bits.proofs.BytePlanes.{lane_xor}
use Rattle.bits.proofs.Listed.{eight_eq}
use Rattle.bits.proofs.Route.{only, union_bit}
use Rattle.bits.proofs.Swap.{swap_bit}
use Rattle.aes.specs.Field.{◌⊕◌}
use Rattle.aes_circuit.specs.Planes.{planes, packed, turn, shifted, next, second}

-- numbers with the same 16 lowest bits
pub low_bit : (x y i : ℕ) → i < 16 → x % 2 ^ 16 ≡ y % 2 ^ 16 → bit x i ≡ bit y i
low_bit x y i h e = sym (bit_mod 16 x i h) ∙ ap (λ n. bit n i) e ∙ bit_mod 16 y i h

-- a step that takes the bit of lane i from lane p in every plane
module _ (F : ℕ → ℕ) (i p : ℕ) (h : (x k : ℕ) → k < 4 → bit (F x) (16 * k + i) ≡ bit x (16 * k + p)) where
  first : (x : ℕ) → bit (F x) i ≡ bit x p
  first x =
      let a : i ≡ 16 * 0 + i = omega arith in let b : 16 * 0 + p ≡ p = omega arith in
      ap (bit (F x)) a ∙ h x 0 (omega arith) ∙ ap (bit x) b

  higher : (x k : ℕ) → k < 4 → bit (F x / 2 ^ (16 * k)) i ≡ bit (x / 2 ^ (16 * k)) p
  higher x k l = bit_shr (F x) (16 * k) i ∙ h x k l ∙ sym (bit_shr x (16 * k) p)

  pub moved_lane : (e o : ℕ) → lane (planes (F e) (F o)) i ≡ lane (planes e o) p
  moved_lane e o =
      ap byte_of
      (eight_eq (first e) (first o) (higher e 1 (omega arith)) (higher o 1 (omega arith)) (higher e 2 (omega arith)) (higher o 2 (omega arith)) (higher e 3 (omega arith)) (higher o 3 (omega arith)))

-- the place n % 16 of the plane that holds the place n of a word
abbrev in_plane : (ℕ → ℕ) → ℕ → ℕ
in_plane ρ n = 16 * (n / 16) + ρ (n % 16)

in_plane_at : (ρ : ℕ → ℕ) (k i : ℕ) → i < 16 → in_plane ρ (16 * k + i) ≡ 16 * k + ρ i
in_plane_at ρ k i h =
    let a : (16 * k + i) / 16 ≡ k = omega arith in let b : (16 * k + i) % 16 ≡ i = omega arith in ap₂ (λ u v. 16 * u + ρ v) a b

-- the lane of the row n further on in the column, and the lane from which ShiftRows takes the byte
abbrev pub row_on : ℕ → ℕ → ℕ
row_on n i = 4 * (i / 4) + (i + n) % 4

abbrev pub row : ℕ → ℕ
row i = i % 4 + 4 * ((i / 4 + i % 4) % 4)

next_test : (n : ℕ) → n < 64 → only next n (in_plane (row_on 1) n) ≡ true
next_test = everywhere true 64 (λ n. only next n (in_plane (row_on 1) n)) (λ n. true) refl

second_test : (n : ℕ) → n < 64 → only second n (in_plane (row_on 2) n) ≡ true
second_test = everywhere true 64 (λ n. only second n (in_plane (row_on 2) n)) (λ n. true) refl

union_lane :
    (ts : List Shift) (ρ : ℕ → ℕ) → ((n : ℕ) → n < 64 → only ts n (in_plane ρ n) ≡ true) → (i : ℕ) → i < 16 →
    (e o : ℕ) → lane (planes (union 64 ts e) (union 64 ts o)) i ≡ lane (planes e o) (ρ i)
union_lane ts ρ t i h =
    moved_lane (union 64 ts) i (ρ i)
    (λ x k l. let g : 16 * k + i < 64 = omega arith in union_bit 64 ts x (16 * k + i) (in_plane ρ (16 * k + i)) g (t (16 * k + i) g) ∙ ap (bit x) (in_plane_at ρ k i h))

pub next_lane : (i : ℕ) → i < 16 → (e o : ℕ) → lane (planes (union 64 next e) (union 64 next o)) i ≡ lane (planes e o) (row_on 1 i)
next_lane = union_lane next (row_on 1) next_test

pub second_lane : (i : ℕ) → i < 16 → (e o : ℕ) → lane (planes (union 64 second e) (union 64 second o)) i ≡ lane (planes e o) (row_on 2 i)
second_lane = union_lane second (row_on 2) second_test

-- ShiftRows: row r takes its byte from r columns on; turned by one place in rows 1 and 3, and by two places before that
abbrev turned : ℕ → ℕ
turned n = 16 * (n / 16) + n % 4 + 4 * ((n / 4 + n % 2) % 4)

turn_test : (n : ℕ) → n < 64 → only turn n (turned n) ≡ true
turn_test = everywhere true 64 (λ n. only turn n (turned n)) (λ n. true) refl

apart_test : (n : ℕ) → n < 64 → bit_and (bit 0x00cc_00cc_00cc_00cc (turned n)) (bit (0x00cc_00cc_00cc_00cc * 2 ^ 8 % 2 ^ 64) (turned n)) ≡ 0
apart_test = everywhere 0 64 (λ n. bit_and (bit 0x00cc_00cc_00cc_00cc (turned n)) (bit (0x00cc_00cc_00cc_00cc * 2 ^ 8 % 2 ^ 64) (turned n))) (λ n. 0) refl

shift_test : (n : ℕ) → n < 64 → from 64 8 0x00cc_00cc_00cc_00cc (turned n) ≡ in_plane row n
shift_test = everywhere 0 64 (λ n. from 64 8 0x00cc_00cc_00cc_00cc (turned n)) (in_plane row) refl

pub shifted_lane : (i : ℕ) → i < 16 → (e o : ℕ) → lane (planes (shifted e) (shifted o)) i ≡ lane (planes e o) (row i)
shifted_lane i h =
    moved_lane shifted i (row i)
    (λ x k l.
    let n : ℕ = 16 * k + i in
    let g : n < 64 = omega arith in
    let y : ℕ = swap 64 8 0x00cc_00cc_00cc_00cc x in
    union_bit 64 turn y n (turned n) g (turn_test n g) ∙ swap_bit 64 x 8 0x00cc_00cc_00cc_00cc (turned n) (omega arith) (apart_test n g)
    ∙ ap (bit x) (shift_test n g ∙ in_plane_at row k i h))

-- the sum of two states, lane by lane
pub xor_bit : (x y k i : ℕ) → bit (bit_xor x y / 2 ^ k) i ≡ bit_xor (bit (x / 2 ^ k) i) (bit (y / 2 ^ k) i)
xor_bit x y k i = bit_shr (bit_xor x y) k i ∙ bit_of_xor x y (k + i) ∙ sym (ap₂ bit_xor (bit_shr x k i) (bit_shr y k i))

pub plus_lane : (i e o f p : ℕ) → lane (planes (e ⊕ f) (o ⊕ p)) i ≡ lane (planes e o) i ⊕ lane (planes f p) i
plus_lane i e o f p =
    lane_xor (planes (e ⊕ f) (o ⊕ p)) (planes e o) (planes f p) i i i at
  where
    at : (j : ℕ) → j < 8 → bit (get_or (planes (e ⊕ f) (o ⊕ p)) j 0) i ≡ bit_xor (bit (get_or (planes e o) j 0) i) (bit (get_or (planes f p) j 0) i)
    at zero h = bit_of_xor e f i
    at (suc zero) h = bit_of_xor o p i
    at (suc (suc zero)) h = xor_bit e f 16 i
    at (suc (suc (suc zero))) h = xor_bit o p 16 i
    at (suc (suc (suc (suc zero)))) h = xor_bit e f 32 i
    at (suc (suc (suc (suc (suc zero))))) h = xor_bit o p 32 i
    at (suc (suc (suc (suc (suc (suc zero)))))) h = xor_bit e f 48 i
    at (suc (suc (suc (suc (suc (suc (suc zero))))))) h = xor_bit o p 48 i
    at (suc (suc (suc (suc (suc (suc (suc (suc j)))))))) h = absurd (omega arith)

-- the planes of the words that the S-boxes give
pub packed_lane : (i a b c d e f g k : ℕ) → i < 16 → lane (planes (packed a c e g) (packed b d f k)) i ≡ lane (a ∷ b ∷ c ∷ d ∷ e ∷ f ∷ g ∷ k ∷ []) i
packed_lane i a b c d e f g k h =
    let first : (x y z u : ℕ) → bit (packed x y z u) i ≡ bit x i = λ x y z u. low_bit (packed x y z u) x i h (omega arith) in
    let one : (x y z u : ℕ) → bit (packed x y z u / 2 ^ 16) i ≡ bit y i = λ x y z u. low_bit (packed x y z u / 2 ^ 16) y i h (omega arith) in
    let two : (x y z u : ℕ) → bit (packed x y z u / 2 ^ 32) i ≡ bit z i = λ x y z u. low_bit (packed x y z u / 2 ^ 32) z i h (omega arith) in
    let three : (x y z u : ℕ) → bit (packed x y z u / 2 ^ 48) i ≡ bit u i = λ x y z u. low_bit (packed x y z u / 2 ^ 48) u i h (omega arith) in
    ap byte_of (eight_eq (first a c e g) (first b d f k) (one a c e g) (one b d f k) (two a c e g) (two b d f k) (three a c e g) (three b d f k))
