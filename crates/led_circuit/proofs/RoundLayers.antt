-- The layers of a round, by bit planes.
use Rattle.std.proofs.Common.{◌≡◌, ℕ, zero, suc, ◌+◌, ◌-◌, ◌*◌, ◌/◌, ◌%◌, ◌^◌, ◌<◌, Bool, true, false, cond, eqb, List, [], ◌∷◌, get_or, sym, refl, ap, ◌∙◌, ap₂, arith}
use lib.Bits.{bit_xor}
use Rattle.bits.specs.Lanes.{lane, planes, gathered}
use Rattle.bits.specs.Linear.{after, value}
use Rattle.bits.proofs.Everywhere.{everywhere}
use Rattle.bits.proofs.Lanes.{Fit, found, wanted, substituted, each_eq, lane_lt, lane_xor, lanes_agree}
use Rattle.bits.proofs.Linear.{Additive, interchange}
use Rattle.present.specs.SBoxCircuit.{circuit}
use Rattle.present.proofs.LayerBits.{S_lt}
use Rattle.present.proofs.SBoxes.{circuit_is, circuit_lifts}
use Rattle.led.specs.Led.{S, M, at, xtimes, times, SubCells, ShiftRows, MixColumnsSerial, addRoundKey}
use Rattle.led_circuit.specs.Planes.{place, cells, shifting, mixing}

fits : Fit 64 16 place 4 0x000f_000f_000f_000f 0xffff_ffff_ffff_ffff
fits = everywhere [] 64 (found 64 place 4 0x000f_000f_000f_000f 0xffff_ffff_ffff_ffff) (wanted place 4) refl

pub sub_cells : (x : ℕ) → cells (gathered 64 4 0x000f_000f_000f_000f (circuit 0xffff_ffff_ffff_ffff (planes 4 x))) ≡ SubCells (cells x)
sub_cells x =
    each_eq 16 (lane place (gathered 64 4 0x000f_000f_000f_000f (circuit 0xffff_ffff_ffff_ffff (planes 4 x)))) (λ i. S (lane place x i))
    (λ i h. substituted 64 16 place 4 0x000f_000f_000f_000f 0xffff_ffff_ffff_ffff fits circuit circuit_lifts S circuit_is (λ v _. S_lt v) x i h)

pub plus_is : (x y : ℕ) → cells (bit_xor x y) ≡ addRoundKey (cells y) (cells x)
plus_is x y = each_eq 16 (lane place (bit_xor x y)) (λ i. bit_xor (lane place x i) (lane place y i)) (λ i h. lane_xor place i x y)

-- multiplication in the field is additive, by computation at each pair of nibbles
pairs : (a b : ℕ) → a < 16 → b < 16 → xtimes (bit_xor a b) ∷ (xtimes a - 15) ∷ [] ≡ bit_xor (xtimes a) (xtimes b) ∷ 0 ∷ []
pairs a b ha hb =
    let p : (16 * a + b) / 16 ≡ a = omega arith in
    let q : (16 * a + b) % 16 ≡ b = omega arith in
    let F : ℕ → ℕ → List ℕ = λ u v. xtimes (bit_xor u v) ∷ (xtimes u - 15) ∷ [] in
    let G : ℕ → ℕ → List ℕ = λ u v. bit_xor (xtimes u) (xtimes v) ∷ 0 ∷ [] in
    sym (ap₂ F p q) ∙ everywhere [] 256 (λ t. xtimes (bit_xor (t / 16) (t % 16)) ∷ (xtimes (t / 16) - 15) ∷ []) (λ t. bit_xor (xtimes (t / 16)) (xtimes (t % 16)) ∷ 0 ∷ []) refl (16 * a + b) (omega arith)
    ∙ ap₂ G p q

xtimes_small : (a : ℕ) → a < 16 → xtimes a < 16
xtimes_small a h = let z : xtimes a - 15 ≡ 0 = ap (λ v. get_or v 1 0) (pairs a a h h) in let n : ℕ = xtimes a in let y : n - 15 ≡ 0 = z in omega (arith, y)

chosen : (t : Bool) (a b : ℕ) → cond t (bit_xor a b) 0 ≡ bit_xor (cond t a 0) (cond t b 0)
chosen true a b = refl
chosen false a b = refl

times_xor : (n m a b : ℕ) → a < 16 → b < 16 → times n m (bit_xor a b) ≡ bit_xor (times n m a) (times n m b)
unfolding times
times_xor zero m a b ha hb = refl
times_xor (suc n) m a b ha hb =
    ap₂ bit_xor (chosen (eqb (m % 2) 1) a b)
    (ap (times n (m / 2)) (ap (λ v. get_or v 0 0) (pairs a b ha hb)) ∙ times_xor n (m / 2) (xtimes a) (xtimes b) (xtimes_small a ha) (xtimes_small b hb))
    ∙ interchange (cond (eqb (m % 2) 1) a 0) (cond (eqb (m % 2) 1) b 0) (times n (m / 2) (xtimes a)) (times n (m / 2) (xtimes b))

-- what row k adds to nibble i, after ShiftRows
abbrev term : ℕ → ℕ → ℕ → ℕ
term i k x = times 4 (at M (i / 4) k) (lane place x (4 * k + (i + k) % 4))

term_xor : (i k : ℕ) → Additive (term i k)
term_xor i k x y =
    ap (times 4 (at M (i / 4) k)) (lane_xor place (4 * k + (i + k) % 4) x y)
    ∙ times_xor 4 (at M (i / 4) k) (lane place x (4 * k + (i + k) % 4)) (lane place y (4 * k + (i + k) % 4)) (lane_lt place x (4 * k + (i + k) % 4)) (lane_lt place y (4 * k + (i + k) % 4))

abbrev row : ℕ → ℕ → ℕ
row i x = bit_xor (bit_xor (bit_xor (term i 0 x) (term i 1 x)) (term i 2 x)) (term i 3 x)

sum_additive : (f g : ℕ → ℕ) → Additive f → Additive g → Additive (λ x. bit_xor (f x) (g x))
sum_additive f g F G x y = ap₂ bit_xor (F x y) (G x y) ∙ interchange (f x) (f y) (g x) (g y)

row_xor : (i : ℕ) → Additive (row i)
row_xor i =
    sum_additive (λ x. bit_xor (bit_xor (term i 0 x) (term i 1 x)) (term i 2 x)) (term i 3)
    (sum_additive (λ x. bit_xor (term i 0 x) (term i 1 x)) (term i 2) (sum_additive (term i 0) (term i 1) (term_xor i 0) (term_xor i 1)) (term_xor i 2)) (term_xor i 3)

row_at : (x : ℕ) → x < 2 ^ 64 → (i : ℕ) → i < 16 → lane place (value 64 (after mixing shifting) x) i ≡ row i x
unfolding lane times
row_at = lanes_agree 64 16 place (after mixing shifting) row row_xor refl

pub linear_layers : (x : ℕ) → x < 2 ^ 64 → cells (value 64 (after mixing shifting) x) ≡ MixColumnsSerial (ShiftRows (cells x))
linear_layers x h = each_eq 16 (lane place (value 64 (after mixing shifting) x)) (λ i. row i x) (row_at x h)
