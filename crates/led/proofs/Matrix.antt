-- SubCells, ShiftRows and MixColumnsSerial by columns.
use Rattle.std.proofs.Common.{◌≡◌, ℕ, ◌+◌, ◌-◌, ◌*◌, ◌/◌, ◌%◌, ◌^◌, ◌<◌, get_or, sym, refl, ap, ◌∙◌, arith}
use lib.Bits.{bit_xor, xor_assoc}
use Rattle.led.specs.Led.{S, M, at, times, SubCells, ShiftRows, MixColumnsSerial}
use Rattle.led.specs.Columns.{nib, Nibs, pack, columns, part, whole}
use Rattle.bits.proofs.Everywhere.{everywhere}
use Rattle.bits.proofs.Listed.{sixteen_eq, below_at}
use Rattle.led.proofs.Xors.{nib_xor}

-- a product is a nibble, by computation at each pair of them
product_small : (x m : ℕ) → x < 16 → m < 16 → times 4 m (S x) < 16
unfolding times
product_small x m hx hm =
    let a : (x + 16 * m) % 16 ≡ x = omega arith in
    let b : (x + 16 * m) / 16 ≡ m = omega arith in
    let z : times 4 ((x + 16 * m) / 16) (S ((x + 16 * m) % 16)) - 15 ≡ 0 = everywhere 0 256 (λ i. times 4 (i / 16) (S (i % 16)) - 15) (λ i. 0) refl (x + 16 * m) (omega arith) in
    let e : times 4 m (S x) - 15 ≡ 0 = sym (ap (λ t. times 4 ((x + 16 * m) / 16) (S t) - 15) a ∙ ap (λ t. times 4 t (S x) - 15) b) ∙ z in
    omega arith

M_small : (i : ℕ) → get_or M i 0 < 16
M_small =
    below_at 16 (omega arith) M
    (omega arith, (omega arith, (omega arith, (omega arith, (omega arith, (omega arith, (omega arith, (omega arith, (omega arith, (omega arith, (omega arith, (omega arith, (omega arith, (omega arith, (omega arith, (omega arith, tt))))))))))))))))

-- the nibble of row r of the k-th part
abbrev term : ℕ → ℕ → ℕ → ℕ
term r k x = times 4 (at M r k) (S x)

small : (r k x : ℕ) → x < 16 → term r k x < 16
small r k x h = product_small x (at M r k) h (M_small (4 * (r % 4) + k % 4))

pack_nibs : (p q u v : ℕ) → p < 16 → q < 16 → u < 16 → v < 16 → Nibs (pack p q u v) p q u v
pack_nibs p q u v hp hq hu hv = (omega arith, omega arith, omega arith, omega arith)

part_nibs : (k x : ℕ) → x < 16 → Nibs (part k x) (term 0 k x) (term 1 k x) (term 2 k x) (term 3 k x)
unfolding part
part_nibs k x h = pack_nibs (term 0 k x) (term 1 k x) (term 2 k x) (term 3 k x) (small 0 k x h) (small 1 k x h) (small 2 k x h) (small 3 k x h)

four :
    (x y z w t : ℕ) {p q u v : ℕ} → x / 2 ^ t % 16 ≡ p → y / 2 ^ t % 16 ≡ q → z / 2 ^ t % 16 ≡ u → w / 2 ^ t % 16 ≡ v →
    bit_xor (bit_xor x y) (bit_xor z w) / 2 ^ t % 16 ≡ bit_xor (bit_xor (bit_xor p q) u) v
four x y z w t {p} {q} {u} {v} e f g h =
    let i = nib_xor x y t in let j = nib_xor z w t in let k = nib_xor (bit_xor x y) (bit_xor z w) t in let l = xor_assoc (bit_xor p q) u v in cc

abbrev row : ℕ → ℕ → ℕ → ℕ → ℕ → ℕ
row r p q u v = bit_xor (bit_xor (bit_xor (term r 0 p) (term r 1 q)) (term r 2 u)) (term r 3 v)

whole_nibs : (p q u v : ℕ) → p < 16 → q < 16 → u < 16 → v < 16 → Nibs (whole p q u v) (row 0 p q u v) (row 1 p q u v) (row 2 p q u v) (row 3 p q u v)
whole_nibs p q u v hp hq hu hv =
    let P = part_nibs 0 p hp in let Q = part_nibs 1 q hq in let U = part_nibs 2 u hu in let V = part_nibs 3 v hv in (
      four (part 0 p) (part 1 q) (part 2 u) (part 3 v) 12 P.0 Q.0 U.0 V.0,
      four (part 0 p) (part 1 q) (part 2 u) (part 3 v) 8 P.1 Q.1 U.1 V.1,
      four (part 0 p) (part 1 q) (part 2 u) (part 3 v) 4 P.2 Q.2 U.2 V.2,
      four (part 0 p) (part 1 q) (part 2 u) (part 3 v) 0 P.3 Q.3 U.3 V.3,
    )

-- a column of the next state, from the four columns that stand from it on
abbrev pub onward : ℕ → ℕ → ℕ → ℕ → ℕ
onward a b c d = whole (nib a 0) (nib b 1) (nib c 2) (nib d 3)

pub mixed_is : (a b c d : ℕ) → columns (onward a b c d) (onward b c d a) (onward c d a b) (onward d a b c) ≡ MixColumnsSerial (ShiftRows (SubCells (columns a b c d)))
mixed_is a b c d =
    let W : (a b c d : ℕ) → Nibs (onward a b c d) (row 0 (nib a 0) (nib b 1) (nib c 2) (nib d 3)) (row 1 (nib a 0) (nib b 1) (nib c 2) (nib d 3)) (row 2 (nib a 0) (nib b 1) (nib c 2) (nib d 3)) (row 3 (nib a 0) (nib b 1) (nib c 2) (nib d 3)) =
    λ a b c d. whole_nibs (nib a 0) (nib b 1) (nib c 2) (nib d 3) (omega arith) (omega arith) (omega arith) (omega arith) in
    let A = W a b c d in let B = W b c d a in let C = W c d a b in let D = W d a b c in
    sixteen_eq A.0 B.0 C.0 D.0 A.1 B.1 C.1 D.1 A.2 B.2 C.2 D.2 A.3 B.3 C.3 D.3

-- the same, from the crossed columns
pub onward_is : (r x y a b c d : ℕ) → r ≡ whole (nib x 0) (nib x 1) (nib y 2) (nib y 3) → nib x 0 ≡ nib a 0 → nib x 1 ≡ nib b 1 → nib y 2 ≡ nib c 2 → nib y 3 ≡ nib d 3 → r ≡ onward a b c d
onward_is r x y a b c d e f g h i =
    e ∙ ap (λ t. whole t (nib x 1) (nib y 2) (nib y 3)) f ∙ ap (λ t. whole (nib a 0) t (nib y 2) (nib y 3)) g
    ∙ ap (λ t. whole (nib a 0) (nib b 1) t (nib y 3)) h ∙ ap (λ t. whole (nib a 0) (nib b 1) (nib c 2) t) i
