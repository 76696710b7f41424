-- Where each bit of a union of masked shifts comes from: a test that antt computes.
use Rattle.std.proofs.Common.{◌≡◌, ℕ, ◌+◌, ◌-◌, ◌*◌, ◌/◌, ◌%◌, ◌^◌, ◌<◌, Bool, true, false, T, eqb, leb, ◌⊎◌, List, [], ◌∷◌, sym, refl, ap, ◌∙◌, subst, ap₂, inl, inr, ⊎_elim, arith, eqb→eq, leb→le}
use lib.Bits.{bit_and, bit_or, and_zero_r, or_zero_r, and_mask}
use Rattle.bits.specs.Digits.{bit}
use Rattle.bits.specs.Shifts.{Shift, stay, right, left, shift, joined, union}
use Rattle.bits.proofs.Table.{both, both_left, both_right}
use Rattle.bits.proofs.Ext.{bit_lt, bit_of_and, bit_of_or, bit_shr, bit_mod, bit_shl_high}

abbrev either : Bool → Bool → Bool
either true b = true
either false b = b

split : (a b : Bool) → T (either a b) → T a ⊎ T b
split true b t = inl tt
split false b t = inr t

abbrev has : Shift → ℕ → ℕ
has (stay m) q = bit m q
has (right k m) q = bit m q
has (left k m) q = bit m q

-- the term puts the bit at p to q
abbrev on : Shift → ℕ → ℕ → Bool
on (stay m) q p = both (eqb (bit m q) 1) (eqb q p)
on (right k m) q p = both (eqb (bit m q) 1) (eqb (k + q) p)
on (left k m) q p = both (eqb (bit m q) 1) (both (leb k q) (eqb (q - k) p))

abbrev off : List Shift → ℕ → Bool
off [] q = true
off (t ∷ ts) q = both (eqb (has t q) 0) (off ts q)

abbrev pub only : List Shift → ℕ → ℕ → Bool
only [] q p = false
only (t ∷ ts) q p = either (both (on t q p) (off ts q)) (both (eqb (has t q) 0) (only ts q p))

and_one : (w m : ℕ) → w < 2 → m ≡ 1 → bit_and w m ≡ w
and_one w m h e = ap (bit_and w) e ∙ and_mask w 1 ∙ omega arith

none : (w : ℕ) (t : Shift) (x q : ℕ) → has t q ≡ 0 → bit (shift w t x) q ≡ 0
none w (stay m) x q e = bit_of_and x m q ∙ ap (bit_and (bit x q)) e ∙ and_zero_r (bit x q)
none w (right k m) x q e = bit_of_and (x / 2 ^ k) m q ∙ ap (bit_and (bit (x / 2 ^ k) q)) e ∙ and_zero_r (bit (x / 2 ^ k) q)
none w (left k m) x q e = bit_of_and (x * 2 ^ k % 2 ^ w) m q ∙ ap (bit_and (bit (x * 2 ^ k % 2 ^ w) q)) e ∙ and_zero_r (bit (x * 2 ^ k % 2 ^ w) q)

comes : (w : ℕ) (t : Shift) (x q p : ℕ) → q < w → T (on t q p) → bit (shift w t x) q ≡ bit x p
comes w (stay m) x q p h t =
    let a = eqb→eq (bit m q) 1 (both_left (eqb (bit m q) 1) (eqb q p) t) in
    let b = eqb→eq q p (both_right (eqb (bit m q) 1) (eqb q p) t) in
    bit_of_and x m q ∙ and_one (bit x q) (bit m q) (bit_lt x q) a ∙ ap (bit x) b
comes w (right k m) x q p h t =
    let a = eqb→eq (bit m q) 1 (both_left (eqb (bit m q) 1) (eqb (k + q) p) t) in
    let b = eqb→eq (k + q) p (both_right (eqb (bit m q) 1) (eqb (k + q) p) t) in
    bit_of_and (x / 2 ^ k) m q ∙ and_one (bit (x / 2 ^ k) q) (bit m q) (bit_lt (x / 2 ^ k) q) a ∙ bit_shr x k q ∙ ap (bit x) b
comes w (left k m) x q p h t =
    let a = eqb→eq (bit m q) 1 (both_left (eqb (bit m q) 1) (both (leb k q) (eqb (q - k) p)) t) in
    let r = both_right (eqb (bit m q) 1) (both (leb k q) (eqb (q - k) p)) t in
    let l = leb→le k q (both_left (leb k q) (eqb (q - k) p) r) in
    let b = eqb→eq (q - k) p (both_right (leb k q) (eqb (q - k) p) r) in
    bit_of_and (x * 2 ^ k % 2 ^ w) m q ∙ and_one (bit (x * 2 ^ k % 2 ^ w) q) (bit m q) (bit_lt (x * 2 ^ k % 2 ^ w) q) a
    ∙ bit_mod w (x * 2 ^ k) q h ∙ bit_shl_high x k q l ∙ ap (bit x) b

rest : (w : ℕ) (ts : List Shift) (acc x q : ℕ) → T (off ts q) → bit (joined w acc ts x) q ≡ bit acc q
rest w [] acc x q t = refl
rest w (s ∷ ts) acc x q t =
    let e = eqb→eq (has s q) 0 (both_left (eqb (has s q) 0) (off ts q) t) in
    rest w ts (bit_or acc (shift w s x)) x q (both_right (eqb (has s q) 0) (off ts q) t)
    ∙ bit_of_or acc (shift w s x) q ∙ ap (bit_or (bit acc q)) (none w s x q e) ∙ or_zero_r (bit acc q)

found : (w : ℕ) (ts : List Shift) (acc x q p : ℕ) → q < w → bit acc q ≡ 0 → T (only ts q p) → bit (joined w acc ts x) q ≡ bit x p
found w [] acc x q p h z t = absurd t
found w (s ∷ ts) acc x q p h z t =
    ⊎_elim
    (λ u.
    rest w ts (bit_or acc (shift w s x)) x q (both_right (on s q p) (off ts q) u)
    ∙ bit_of_or acc (shift w s x) q ∙ ap₂ bit_or z (comes w s x q p h (both_left (on s q p) (off ts q) u)))
    (λ u.
    found w ts (bit_or acc (shift w s x)) x q p h
    (bit_of_or acc (shift w s x) q ∙ ap₂ bit_or z (none w s x q (eqb→eq (has s q) 0 (both_left (eqb (has s q) 0) (only ts q p) u))))
    (both_right (eqb (has s q) 0) (only ts q p) u))
    (split (both (on s q p) (off ts q)) (both (eqb (has s q) 0) (only ts q p)) t)

-- the bit at q comes from p, and from there alone
pub union_bit : (w : ℕ) (ts : List Shift) (x q p : ℕ) → q < w → only ts q p ≡ true → bit (union w ts x) q ≡ bit x p
union_bit w [] x q p h e = absurd (subst T (sym e) tt)
union_bit w (s ∷ ts) x q p h e =
    let t : T (only (s ∷ ts) q p) = subst T (sym e) tt in
    ⊎_elim
    (λ u. rest w ts (shift w s x) x q (both_right (on s q p) (off ts q) u) ∙ comes w s x q p h (both_left (on s q p) (off ts q) u))
    (λ u.
    found w ts (shift w s x) x q p h (none w s x q (eqb→eq (has s q) 0 (both_left (eqb (has s q) 0) (only ts q p) u)))
    (both_right (eqb (has s q) 0) (only ts q p) u))
    (split (both (on s q p) (off ts q)) (both (eqb (has s q) 0) (only ts q p)) t)
