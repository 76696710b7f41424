-- Doubling in the field, on planes and on bytes; and MixColumns by it.
use Rattle.std.proofs.Common.{◌≡◌, ℕ, zero, suc, ◌+◌, ◌-◌, ◌*◌, ◌/◌, ◌%◌, ◌^◌, ◌<◌, ◌≤◌, List, [], ◌∷◌, get_or, sym, refl, ap, ◌∙◌, ap₂, arith}
use native.Mathlib.Nat.{zero-div}
use lib.Bits.{bit_xor, bit_or, xor_lt, xor_assoc, xor_comm, xor_zero_r, or_zero_r}
use Rattle.bits.specs.Digits.{bit}
use Rattle.bits.specs.BytePlanes.{eight, byte_of, lane}
use Rattle.bits.proofs.Everywhere.{everywhere}
use Rattle.bits.proofs.Ext.{bit_lt, bit_of_xor, bit_of_or, bit_mod, bit_shr, bit_shl_low, bit_shl_high}
use Rattle.bits.proofs.BytePlanes.{bits_of_byte, byte_lt, byte_xor}
use Rattle.bits.proofs.Listed.{eight_eq, sixteen_eq}
use Rattle.aes.specs.Field.{◌⊕◌, ◌•◌, x_times, times}
use Rattle.aes.specs.Fips197.{mixed, MixColumns}
use Rattle.aes.specs.Rounds.{plus}
use Rattle.aes_circuit.specs.Planes.{planes, rows_on, doubled}

-- the bits of x times a byte, of the bits of the byte
abbrev doubled_bits : (ℕ → ℕ) → List ℕ
doubled_bits v = v 7 ∷ (v 0 ⊕ v 7) ∷ v 1 ∷ (v 2 ⊕ v 7) ∷ (v 3 ⊕ v 7) ∷ v 4 ∷ v 5 ∷ v 6 ∷ []

double_is : (x : ℕ) → x < 256 → byte_of (doubled_bits (bit x)) ≡ x_times x
unfolding x_times
double_is = everywhere 0 256 (λ x. byte_of (doubled_bits (bit x))) x_times refl

double_byte : (v : ℕ → ℕ) → ((j : ℕ) → v j < 2) → byte_of (doubled_bits v) ≡ x_times (byte_of (eight v))
double_byte v h =
    sym (ap (λ q. byte_of (doubled_bits (λ j. get_or q j 0))) (bits_of_byte v h)) ∙ double_is (byte_of (eight v)) (byte_lt v h)

-- the bits of a word shifted to the left
shl_none : (x s n : ℕ) → n < 64 → n < s → bit (x * 2 ^ s % 2 ^ 64) n ≡ 0
shl_none x s n h l = bit_mod 64 (x * 2 ^ s) n h ∙ bit_shl_low x s n l

shl_from : (x s n m : ℕ) → n < 64 → s + m ≡ n → bit (x * 2 ^ s % 2 ^ 64) n ≡ bit x m
shl_from x s n m h e =
    let l : s ≤ n = omega arith in let d : n - s ≡ m = omega arith in
    bit_mod 64 (x * 2 ^ s) n h ∙ bit_shl_high x s n l ∙ ap (bit x) d

none : (x y : ℕ) → y ≡ 0 → x ⊕ y ≡ x
none x y z = ap (bit_xor x) z ∙ xor_zero_r x

module _ (e o i : ℕ) (small : o < 2 ^ 64) (h : i < 16) where
  hi : ℕ
  hi = o / 2 ^ 48

  L : ℕ
  L = o * 2 ^ 16 % 2 ^ 64

  E : ℕ
  E = bit_xor (bit_or L hi) (hi * 2 ^ 32 % 2 ^ 64)

  O : ℕ
  O = bit_xor (bit_xor e hi) (hi * 2 ^ 16 % 2 ^ 64)

  v : ℕ → ℕ
  v j = bit (get_or (planes e o) j 0) i

  above : (m : ℕ) → 16 ≤ m → bit hi m ≡ 0
  unfolding hi
  above m l =
      let d : 48 + m ≡ 64 + (m - 16) = omega arith in
      let z : o / 2 ^ 64 ≡ 0 = omega arith in
      bit_shr o 48 m ∙ ap (bit o) d ∙ sym (bit_shr o 64 (m - 16)) ∙ ap (λ x. bit x (m - 16)) z ∙ ap (λ n. n % 2) (zero-div (2 ^ (m - 16)))

  E_bit : (k : ℕ) {a b c d : ℕ} → bit L (k + i) ≡ a → bit hi (k + i) ≡ b → bit (hi * 2 ^ 32 % 2 ^ 64) (k + i) ≡ c → bit_or a b ⊕ c ≡ d → bit (E / 2 ^ k) i ≡ d
  unfolding E
  E_bit k p q r t =
      bit_shr E k i ∙ bit_of_xor (bit_or L hi) (hi * 2 ^ 32 % 2 ^ 64) (k + i) ∙ ap₂ bit_xor (bit_of_or L hi (k + i) ∙ ap₂ bit_or p q) r ∙ t

  O_bit : (k : ℕ) {b c d : ℕ} → bit hi (k + i) ≡ b → bit (hi * 2 ^ 16 % 2 ^ 64) (k + i) ≡ c → bit (e / 2 ^ k) i ⊕ b ⊕ c ≡ d → bit (O / 2 ^ k) i ≡ d
  unfolding O
  O_bit k q r t =
      bit_shr O k i ∙ bit_of_xor (bit_xor e hi) (hi * 2 ^ 16 % 2 ^ 64) (k + i) ∙ ap₂ bit_xor (bit_of_xor e hi (k + i) ∙ ap₂ bit_xor (sym (bit_shr e k i)) q) r ∙ t

  nothing : (a b c : ℕ) → b ≡ 0 → c ≡ 0 → a ⊕ b ⊕ c ≡ a
  nothing a b c p q = none (a ⊕ b) c q ∙ none a b p

  E_planes : (bit E i ≡ v 7) × (bit (E / 2 ^ 16) i ≡ v 1) × (bit (E / 2 ^ 32) i ≡ v 3 ⊕ v 7) × (bit (E / 2 ^ 48) i ≡ v 5)
  unfolding E L hi v
  E_planes = (
    bit_of_xor (bit_or L hi) (hi * 2 ^ 32 % 2 ^ 64) i
        ∙ none (bit (bit_or L hi) i) (bit (hi * 2 ^ 32 % 2 ^ 64) i) (shl_none hi 32 i (omega arith) (omega arith))
        ∙ bit_of_or L hi i ∙ ap (λ x. bit_or x (bit hi i)) (shl_none o 16 i (omega arith) (omega arith)),
    E_bit 16 (shl_from o 16 (16 + i) i (omega arith) refl) (above (16 + i) (omega arith)) (shl_none hi 32 (16 + i) (omega arith) (omega arith))
        (xor_zero_r (bit_or (bit o i) 0) ∙ or_zero_r (bit o i)),
    E_bit 32 (shl_from o 16 (32 + i) (16 + i) (omega arith) (omega arith) ∙ sym (bit_shr o 16 i)) (above (32 + i) (omega arith)) (shl_from hi 32 (32 + i) i (omega arith) refl)
        (ap (λ x. bit_xor x (bit hi i)) (or_zero_r (bit (o / 2 ^ 16) i))),
    E_bit 48 (shl_from o 16 (48 + i) (32 + i) (omega arith) (omega arith) ∙ sym (bit_shr o 32 i)) (above (48 + i) (omega arith))
        (shl_from hi 32 (48 + i) (16 + i) (omega arith) (omega arith) ∙ above (16 + i) (omega arith)) (xor_zero_r (bit_or (bit (o / 2 ^ 32) i) 0) ∙ or_zero_r (bit (o / 2 ^ 32) i)),
  )

  O_planes : (bit O i ≡ v 0 ⊕ v 7) × (bit (O / 2 ^ 16) i ≡ v 2 ⊕ v 7) × (bit (O / 2 ^ 32) i ≡ v 4) × (bit (O / 2 ^ 48) i ≡ v 6)
  unfolding O hi v
  O_planes = (
    bit_of_xor (bit_xor e hi) (hi * 2 ^ 16 % 2 ^ 64) i
        ∙ none (bit (bit_xor e hi) i) (bit (hi * 2 ^ 16 % 2 ^ 64) i) (shl_none hi 16 i (omega arith) (omega arith)) ∙ bit_of_xor e hi i,
    O_bit 16 (above (16 + i) (omega arith)) (shl_from hi 16 (16 + i) i (omega arith) refl) (ap (λ x. bit_xor x (bit hi i)) (xor_zero_r (bit (e / 2 ^ 16) i))),
    O_bit 32 (above (32 + i) (omega arith)) (shl_from hi 16 (32 + i) (16 + i) (omega arith) (omega arith) ∙ above (16 + i) (omega arith)) (nothing (bit (e / 2 ^ 32) i) 0 0 refl refl),
    O_bit 48 (above (48 + i) (omega arith)) (shl_from hi 16 (48 + i) (32 + i) (omega arith) (omega arith) ∙ above (32 + i) (omega arith)) (nothing (bit (e / 2 ^ 48) i) 0 0 refl refl),
  )

  pub doubled_lane : lane (planes (bit_xor (bit_or (o * 2 ^ 16 % 2 ^ 64) (o / 2 ^ 48)) (o / 2 ^ 48 * 2 ^ 32 % 2 ^ 64)) (bit_xor (bit_xor e (o / 2 ^ 48)) (o / 2 ^ 48 * 2 ^ 16 % 2 ^ 64))) i ≡ x_times (lane (planes e o) i)
  unfolding E O L hi v
  doubled_lane =
      let P = E_planes in let Q = O_planes in
      ap byte_of (eight_eq P.0 Q.0 P.1 Q.1 P.2 Q.2 P.3 Q.3) ∙ double_byte v (λ j. bit_lt (get_or (planes e o) j 0) i)

-- doubling is linear
swap_inner : (a b c d : ℕ) → (a ⊕ b) ⊕ (c ⊕ d) ≡ (a ⊕ c) ⊕ (b ⊕ d)
swap_inner a b c d =
    xor_assoc a b (c ⊕ d) ∙ ap (bit_xor a) (sym (xor_assoc b c d) ∙ ap (λ x. x ⊕ d) (xor_comm b c) ∙ xor_assoc c b d) ∙ sym (xor_assoc a c (b ⊕ d))

doubled_lt : (x j : ℕ) → get_or (doubled_bits (bit x)) j 0 < 2
doubled_lt x zero = bit_lt x 7
doubled_lt x (suc zero) = xor_lt 1 (bit x 0) (bit x 7) (bit_lt x 0) (bit_lt x 7)
doubled_lt x (suc (suc zero)) = bit_lt x 1
doubled_lt x (suc (suc (suc zero))) = xor_lt 1 (bit x 2) (bit x 7) (bit_lt x 2) (bit_lt x 7)
doubled_lt x (suc (suc (suc (suc zero)))) = xor_lt 1 (bit x 3) (bit x 7) (bit_lt x 3) (bit_lt x 7)
doubled_lt x (suc (suc (suc (suc (suc zero))))) = bit_lt x 4
doubled_lt x (suc (suc (suc (suc (suc (suc zero)))))) = bit_lt x 5
doubled_lt x (suc (suc (suc (suc (suc (suc (suc zero))))))) = bit_lt x 6
doubled_lt x (suc (suc (suc (suc (suc (suc (suc (suc j)))))))) = omega arith

x_times_xor : (x y : ℕ) → x < 256 → y < 256 → x_times (x ⊕ y) ≡ x_times x ⊕ x_times y
x_times_xor x y hx hy =
    let at : (j : ℕ) → bit (x ⊕ y) j ≡ bit x j ⊕ bit y j = bit_of_xor x y in
    let sum : (j : ℕ) → bit (x ⊕ y) j ⊕ bit (x ⊕ y) 7 ≡ (bit x j ⊕ bit x 7) ⊕ (bit y j ⊕ bit y 7) =
    λ j. ap₂ bit_xor (at j) (at 7) ∙ swap_inner (bit x j) (bit y j) (bit x 7) (bit y 7) in
    sym (double_is (x ⊕ y) (xor_lt 8 x y hx hy)) ∙ ap byte_of (eight_eq (at 7) (sum 0) (at 1) (sum 2) (sum 3) (at 4) (at 5) (at 6))
    ∙ byte_xor (λ j. get_or (doubled_bits (bit x)) j 0) (λ j. get_or (doubled_bits (bit y)) j 0) (doubled_lt x) (doubled_lt y)
    ∙ ap₂ bit_xor (double_is x hx) (double_is y hy)

-- the two products of MixColumns
twice : (x : ℕ) → x < 256 → 0x02 • x ≡ x_times x
unfolding times x_times
twice = everywhere 0 256 (◌•◌ 0x02) x_times refl

thrice : (x : ℕ) → x < 256 → 0x03 • x ≡ x_times x ⊕ x
unfolding times x_times
thrice = everywhere 0 256 (◌•◌ 0x03) (λ x. x_times x ⊕ x) refl

-- a byte after MixColumns, of the byte itself and the three below it in its column
abbrev canon : ℕ → ℕ → ℕ → ℕ → ℕ
canon u a b c = (a ⊕ (b ⊕ c)) ⊕ x_times (u ⊕ a)

-- the four rows, by the laws of exclusive or
module _ (a b c x y : ℕ) where
  core : ℕ
  core = (a ⊕ (b ⊕ c)) ⊕ (x ⊕ y)

  turn : x ⊕ (y ⊕ a) ≡ a ⊕ (x ⊕ y)
  turn = sym (xor_assoc x y a) ∙ xor_comm (x ⊕ y) a

  third : ((b ⊕ c) ⊕ x) ⊕ (y ⊕ a) ≡ core
  unfolding core
  third =
      xor_assoc (b ⊕ c) x (y ⊕ a) ∙ ap (bit_xor (b ⊕ c)) turn ∙ sym (xor_assoc (b ⊕ c) a (x ⊕ y)) ∙ ap (λ v. v ⊕ (x ⊕ y)) (xor_comm (b ⊕ c) a)

  second : ((c ⊕ x) ⊕ (y ⊕ a)) ⊕ b ≡ core
  second =
      xor_comm ((c ⊕ x) ⊕ (y ⊕ a)) b ∙ ap (bit_xor b) (xor_assoc c x (y ⊕ a)) ∙ sym (xor_assoc b c (x ⊕ (y ⊕ a))) ∙ sym (xor_assoc (b ⊕ c) x (y ⊕ a)) ∙ third

  first : ((x ⊕ (y ⊕ a)) ⊕ b) ⊕ c ≡ core
  unfolding core
  first =
      xor_assoc (x ⊕ (y ⊕ a)) b c ∙ ap (λ v. v ⊕ (b ⊕ c)) turn ∙ xor_assoc a (x ⊕ y) (b ⊕ c) ∙ ap (bit_xor a) (xor_comm (x ⊕ y) (b ⊕ c)) ∙ sym (xor_assoc a (b ⊕ c) (x ⊕ y))

  fourth : (((y ⊕ a) ⊕ b) ⊕ c) ⊕ x ≡ core
  fourth =
      xor_comm (((y ⊕ a) ⊕ b) ⊕ c) x ∙ ap (bit_xor x) (xor_assoc (y ⊕ a) b c) ∙ sym (xor_assoc x (y ⊕ a) (b ⊕ c)) ∙ sym (xor_assoc (x ⊕ (y ⊕ a)) b c) ∙ first

module _ (p q u v : ℕ) (hp : p < 256) (hq : q < 256) (hu : u < 256) (hv : v < 256) where
  row0 : canon p q u v ≡ mixed p q u v 0
  unfolding core
  row0 =
      ap (bit_xor (q ⊕ (u ⊕ v))) (x_times_xor p q hp hq) ∙ sym (first q u v (x_times p) (x_times q))
      ∙ sym (ap₂ (λ x y. ((x ⊕ y) ⊕ u) ⊕ v) (twice p hp) (thrice q hq))

  row1 : canon q u v p ≡ mixed p q u v 1
  unfolding core
  row1 =
      ap (bit_xor (u ⊕ (v ⊕ p))) (x_times_xor q u hq hu) ∙ sym (second u v p (x_times q) (x_times u))
      ∙ sym (ap₂ (λ x y. ((p ⊕ x) ⊕ y) ⊕ v) (twice q hq) (thrice u hu))

  row2 : canon u v p q ≡ mixed p q u v 2
  unfolding core
  row2 =
      ap (bit_xor (v ⊕ (p ⊕ q))) (x_times_xor u v hu hv) ∙ sym (third v p q (x_times u) (x_times v))
      ∙ sym (ap₂ (λ x y. ((p ⊕ q) ⊕ x) ⊕ y) (twice u hu) (thrice v hv))

  row3 : canon v p q u ≡ mixed p q u v 3
  unfolding core
  row3 =
      ap (bit_xor (p ⊕ (q ⊕ u))) (x_times_xor v p hv hp) ∙ sym (fourth p q u (x_times v) (x_times p))
      ∙ sym (ap₂ (λ x y. ((y ⊕ q) ⊕ u) ⊕ x) (twice v hv) (thrice p hp))

pub mix_is :
    (s : List ℕ) → ((i : ℕ) → get_or s i 0 < 256) →
    plus (plus (rows_on 1 s) (rows_on 2 (plus s (rows_on 1 s)))) (doubled (plus s (rows_on 1 s))) ≡ MixColumns s
mix_is s lt =
    let r0 : (k : ℕ) → _ = λ k. row0 (get_or s (4 * k) 0) (get_or s (4 * k + 1) 0) (get_or s (4 * k + 2) 0) (get_or s (4 * k + 3) 0) (lt (4 * k)) (lt (4 * k + 1)) (lt (4 * k + 2)) (lt (4 * k + 3)) in
    let r1 : (k : ℕ) → _ = λ k. row1 (get_or s (4 * k) 0) (get_or s (4 * k + 1) 0) (get_or s (4 * k + 2) 0) (get_or s (4 * k + 3) 0) (lt (4 * k)) (lt (4 * k + 1)) (lt (4 * k + 2)) (lt (4 * k + 3)) in
    let r2 : (k : ℕ) → _ = λ k. row2 (get_or s (4 * k) 0) (get_or s (4 * k + 1) 0) (get_or s (4 * k + 2) 0) (get_or s (4 * k + 3) 0) (lt (4 * k)) (lt (4 * k + 1)) (lt (4 * k + 2)) (lt (4 * k + 3)) in
    let r3 : (k : ℕ) → _ = λ k. row3 (get_or s (4 * k) 0) (get_or s (4 * k + 1) 0) (get_or s (4 * k + 2) 0) (get_or s (4 * k + 3) 0) (lt (4 * k)) (lt (4 * k + 1)) (lt (4 * k + 2)) (lt (4 * k + 3)) in
    sixteen_eq (r0 0) (r1 0) (r2 0) (r3 0) (r0 1) (r1 1) (r2 1) (r3 1) (r0 2) (r1 2) (r2 2) (r3 2) (r0 3) (r1 3) (r2 3) (r3 3)
