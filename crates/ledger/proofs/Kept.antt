use Rattle.std.proofs.Common.{◌≡◌, ℕ, ◌+◌, ◌-◌, ◌*◌, ◌%◌, ◌^◌, ◌<◌, ◌≤◌, max, Bool, true, false, cond, ◌||◌, eqb, ltb, leb, List, [], ◌∷◌, sym, refl, ap, ◌∙◌, subst, inl, inr, arith}
use lib.Bits.{bit_or}
use Rattle.std.proofs.lemmas.Bool.{cases_lt, cases_eq, cond-true, cond-false, le-leb, lt-leb, lt-ltb, le-ltb, eq-eqb, ne_eqb, or_from, or_left, or_right}
use Rattle.ledger.specs.declared.standing.Standing.{Standing}
use Rattle.ledger.specs.declared.standing.Standing.TheVariants.{Old, Signed, Open}
use Rattle.ledger.specs.Marks.{bit, marked, by_marks, is_open, may_sign}
use Rattle.ledger.specs.History.{highest, among, signed, standing_of, flag, Represents}
use Rattle.ledger.proofs.Bit.{bit_of_or, bit_up, bit_down, bit_mod, bit_one, bit_other, bit_ones}

pub bit_small : (n i : ℕ) → bit n i ≤ 1
bit_small n i = omega arith

-- the three ways to mark
pub marked_low : (high marks k : ℕ) → k ≤ high → marked high marks k ≡ bit_or marks (2 ^ (high - k))
marked_low high marks k h = cond-true (leb k high) _ _ (le-leb k high h)

pub marked_near : (high marks k : ℕ) → high < k → k - high < 64 → marked high marks k ≡ bit_or ((marks * 2 ^ (k - high)) % 2 ^ 64) 1
marked_near high marks k h n = cond-false (leb k high) _ _ (lt-leb k high h) ∙ cond-true (ltb (k - high) 64) _ _ (lt-ltb (k - high) 64 n)

pub marked_far : (high marks k : ℕ) → high < k → 64 ≤ k - high → marked high marks k ≡ 1
marked_far high marks k h n = cond-false (leb k high) _ _ (lt-leb k high h) ∙ cond-false (ltb (k - high) 64) _ _ (le-ltb (k - high) 64 n)

-- bit by bit
pub low_here : (high marks k : ℕ) → k ≤ high → bit (marked high marks k) (high - k) ≡ 1
low_here high marks k h =
    ap (λ x. bit x (high - k)) (marked_low high marks k h) ∙ bit_of_or marks (2 ^ (high - k)) (high - k)
    ∙ omega (arith, bit_one (high - k), bit_small marks (high - k))

pub low_other : (high marks k i : ℕ) → k ≤ high → (high - k ≡ i → ⊥) → bit (marked high marks k) i ≡ bit marks i
low_other high marks k i h ne =
    ap (λ x. bit x i) (marked_low high marks k h) ∙ bit_of_or marks (2 ^ (high - k)) i
    ∙ omega (arith, bit_other (high - k) i ne)

pub high_here : (high marks k : ℕ) → high < k → bit (marked high marks k) 0 ≡ 1
high_here high marks k h =
    elim (cases_lt (k - high) 64) [
      | inl n ↦ ap (λ x. bit x 0) (marked_near high marks k h n) ∙ bit_of_or ((marks * 2 ^ (k - high)) % 2 ^ 64) 1 0
          ∙ omega (arith, bit_one 0, bit_small ((marks * 2 ^ (k - high)) % 2 ^ 64) 0)
      | inr n ↦ ap (λ x. bit x 0) (marked_far high marks k h n)
    ]

one_none : (i : ℕ) → 0 < i → bit 1 i ≡ 0
one_none i p = let ne : 0 ≡ i → ⊥ = λ e. omega arith in bit_other 0 i ne

pub high_gap : (high marks k i : ℕ) → high < k → 0 < i → i < 64 → i < k - high → bit (marked high marks k) i ≡ 0
high_gap high marks k i h p l g =
    elim (cases_lt (k - high) 64) [
      | inl n ↦ ap (λ x. bit x i) (marked_near high marks k h n) ∙ bit_of_or ((marks * 2 ^ (k - high)) % 2 ^ 64) 1 i
          ∙ omega (arith, one_none i p, bit_mod (marks * 2 ^ (k - high)) i l, bit_down marks (k - high) i g)
      | inr n ↦ ap (λ x. bit x i) (marked_far high marks k h n) ∙ one_none i p
    ]

pub high_kept : (high marks k i : ℕ) → high < k → i < 64 → k - high ≤ i → bit (marked high marks k) i ≡ bit marks (i - (k - high))
high_kept high marks k i h l g =
    let n : k - high < 64 = omega arith in
    let p : 0 < i = omega arith in
    ap (λ x. bit x i) (marked_near high marks k h n) ∙ bit_of_or ((marks * 2 ^ (k - high)) % 2 ^ 64) 1 i
    ∙ omega (arith, one_none i p, bit_mod (marks * 2 ^ (k - high)) i l, bit_up marks (k - high) i g)

-- the history
pub floor_below : (floor : ℕ) (ks : List ℕ) → floor ≤ highest floor ks
floor_below floor [] = omega arith
floor_below floor (k ∷ ks) = omega (arith, floor_below floor ks)

none_above : (floor : ℕ) (ks : List ℕ) (x : ℕ) → highest floor ks < x → among x ks ≡ false
none_above floor [] x h = refl
none_above floor (k ∷ ks) x h =
    let ne : x ≡ k → ⊥ = λ e. omega arith in
    let l : highest floor ks < x = omega arith in
    or_from (eqb x k) (among x ks) (ne_eqb x k ne) (none_above floor ks x l)

pub unsigned_above : (floor : ℕ) (ks : List ℕ) (x : ℕ) → highest floor ks < x → signed floor ks x ≡ false
unsigned_above floor ks x h =
    let l : floor < x = omega (arith, floor_below floor ks) in
    or_from (leb x floor) (among x ks) (lt-leb x floor l) (none_above floor ks x h)

pub signed_here : (floor : ℕ) (ks : List ℕ) (k : ℕ) → signed floor (k ∷ ks) k ≡ true
signed_here floor ks k = or_right (leb k floor) (eqb k k || among k ks) (or_left (eqb k k) (among k ks) (eq-eqb k k refl))

pub signed_other : (floor : ℕ) (ks : List ℕ) (k x : ℕ) → (x ≡ k → ⊥) → signed floor (k ∷ ks) x ≡ signed floor ks x
signed_other floor ks k x ne = ap (λ b. leb x floor || (b || among x ks)) (ne_eqb x k ne)

-- the marks stand for the history after a number is signed
pub marked_tells : (high marks floor k : ℕ) (ks : List ℕ) → Represents high marks floor ks → 0 < k → high < k + 64
    → Represents (max k high) (marked high marks k) floor (k ∷ ks)
marked_tells high marks floor k ks r pos near = record {
  top = ap (λ x. max k x) r.top;
  tells = λ i l. elim (cases_lt high k) [ inl h ↦ higher i l h | inr h ↦ lower i l h ];
}
  where
    lower : (i : ℕ) → i < 64 → k ≤ high → bit (marked high marks k) i ≡ flag (signed floor (k ∷ ks) (max k high - i))
    lower i l h =
        let m : max k high ≡ high = omega arith in
        elim (cases_eq (high - k) i) [
          | inl e ↦
              let f : max k high - i ≡ k = omega arith in
              subst (λ j. bit (marked high marks k) j ≡ 1) e (low_here high marks k h)
              ∙ sym (ap flag (ap (signed floor (k ∷ ks)) f ∙ signed_here floor ks k))
          | inr ne ↦
              let f : max k high - i ≡ high - i = omega arith in
              let d : high - i ≡ k → ⊥ = λ e. ne (omega arith) in
              low_other high marks k i h ne ∙ r.tells i l
              ∙ sym (ap flag (ap (signed floor (k ∷ ks)) f ∙ signed_other floor ks k (high - i) d))
        ]

    higher : (i : ℕ) → i < 64 → high < k → bit (marked high marks k) i ≡ flag (signed floor (k ∷ ks) (max k high - i))
    higher i l h =
        elim (cases_lt 0 i) [
          | inl p ↦
              elim (cases_lt i (k - high)) [
                | inl g ↦
                    let f : max k high - i ≡ k - i = omega arith in
                    let d : k - i ≡ k → ⊥ = λ e. omega arith in
                    let u : highest floor ks < k - i = omega (arith, r.top) in
                    high_gap high marks k i h p l g
                    ∙ sym (ap flag (ap (signed floor (k ∷ ks)) f ∙ signed_other floor ks k (k - i) d ∙ unsigned_above floor ks (k - i) u))
                | inr g ↦
                    let f : max k high - i ≡ high - (i - (k - high)) = omega arith in
                    let d : high - (i - (k - high)) ≡ k → ⊥ = λ e. omega arith in
                    let l' : i - (k - high) < 64 = omega arith in
                    high_kept high marks k i h l g ∙ r.tells (i - (k - high)) l'
                    ∙ sym (ap flag (ap (signed floor (k ∷ ks)) f ∙ signed_other floor ks k (high - (i - (k - high))) d))
              ]
          | inr z ↦
              let e : 0 ≡ i = omega arith in
              let f : max k high - i ≡ k = omega arith in
              subst (λ j. bit (marked high marks k) j ≡ 1) e (high_here high marks k h)
              ∙ sym (ap flag (ap (signed floor (k ∷ ks)) f ∙ signed_here floor ks k))
        ]

-- and a fresh ledger stands for the history with no number
pub fresh_tells : (floor : ℕ) → Represents floor 18446744073709551615 floor []
fresh_tells floor = record {
  top = refl;
  tells = λ i l. let b : floor - i ≤ floor = omega arith in bit_ones i l ∙ sym (ap flag (or_left (leb (floor - i) floor) false (le-leb (floor - i) floor b)));
}

flag_one : (b : Bool) → eqb (flag b) 1 ≡ b
flag_one true = refl
flag_one false = refl

-- so the marks tell how a number stands
pub by_history : (high marks floor : ℕ) (ks : List ℕ) → Represents high marks floor ks → (k : ℕ) → by_marks high marks k ≡ standing_of floor ks k
by_history high marks floor ks r k =
    elim (cases_lt high (k + 64)) [
      | inl near ↦
          cond-false (leb (k + 64) high) _ _ (lt-leb (k + 64) high near)
          ∙ elim (cases_lt high k) [
            | inl h ↦
                let u : highest floor ks < k = omega (arith, r.top) in
                cond-false (leb k high) _ _ (lt-leb k high h)
                ∙ sym (cond-false (signed floor ks k) _ _ (unsigned_above floor ks k u))
            | inr h ↦
                let l : high - k < 64 = omega arith in
                let f : high - (high - k) ≡ k = omega arith in
                let t : bit marks (high - k) ≡ flag (signed floor ks k) = r.tells (high - k) l ∙ ap (λ x. flag (signed floor ks x)) f in
                cond-true (leb k high) _ _ (le-leb k high h)
                ∙ ap (λ b. cond b Signed Open) (ap (λ x. eqb x 1) t ∙ flag_one (signed floor ks k))
          ]
          ∙ sym (cond-false (leb (k + 64) (highest floor ks)) _ _ (lt-leb (k + 64) (highest floor ks) (omega (arith, r.top))))
      | inr far ↦
          cond-true (leb (k + 64) high) _ _ (le-leb (k + 64) high far)
          ∙ sym (cond-true (leb (k + 64) (highest floor ks)) _ _ (le-leb (k + 64) (highest floor ks) (omega (arith, r.top))))
    ]

-- what the ledger itself keeps
pub marked_top : (high marks k : ℕ) → bit marks 0 ≡ 1 → bit (marked high marks k) 0 ≡ 1
marked_top high marks k t =
    elim (cases_lt high k) [
      | inl h ↦ high_here high marks k h
      | inr h ↦ elim (cases_eq (high - k) 0) [
        | inl e ↦ subst (λ j. bit (marked high marks k) j ≡ 1) e (low_here high marks k h)
        | inr ne ↦ low_other high marks k 0 h ne ∙ t
      ]
    ]

pub marked_below : (floor high marks k : ℕ) → floor ≤ high → ((i : ℕ) → i < 64 → high ≤ floor + i → bit marks i ≡ 1)
    → (i : ℕ) → i < 64 → max k high ≤ floor + i → bit (marked high marks k) i ≡ 1
marked_below floor high marks k o t i l b =
    elim (cases_lt high k) [
      | inl h ↦
          let g : k - high ≤ i = omega arith in
          high_kept high marks k i h l g ∙ t (i - (k - high)) (omega arith) (omega arith)
      | inr h ↦ elim (cases_eq (high - k) i) [
        | inl e ↦ subst (λ j. bit (marked high marks k) j ≡ 1) e (low_here high marks k h)
        | inr ne ↦ low_other high marks k i h ne ∙ t i l (omega arith)
      ]
    ]

-- an open number is near the highest or above it
pub open_near : (high marks k : ℕ) → by_marks high marks k ≡ Open → high < k + 64
open_near high marks k e =
    elim (cases_lt high (k + 64)) [
      | inl h ↦ h
      | inr h ↦ let z : Old ≡ Open = sym (cond-true (leb (k + 64) high) Old _ (le-leb (k + 64) high h)) ∙ e in
          let n : ◌≡◌ {A = ℕ} 0 1 = cc in omega arith
    ]

-- and is not 0, since 0 is up to the floor
pub open_positive : (floor high marks k : ℕ) → ((i : ℕ) → i < 64 → high ≤ floor + i → bit marks i ≡ 1) → by_marks high marks k ≡ Open → 0 < k
open_positive floor high marks k t e =
    elim (cases_lt 0 k) [
      | inl h ↦ h
      | inr h ↦
          let near = open_near high marks k e in
          let l : high - k < 64 = omega arith in
          let low : k ≤ high = omega arith in
          let b : bit marks (high - k) ≡ 1 = t (high - k) l (omega arith) in
          let z : Signed ≡ Open =
          sym (cond-false (leb (k + 64) high) Old _ (lt-leb (k + 64) high near)
          ∙ cond-true (leb k high) _ Open (le-leb k high low)
          ∙ cond-true (eqb (bit marks (high - k)) 1) Signed Open (eq-eqb (bit marks (high - k)) 1 b)) ∙ e in
          let n : ◌≡◌ {A = ℕ} 0 1 = cc in omega arith
    ]

open_by_test : (s : Standing) → is_open s ≡ true → s ≡ Open
open_by_test Old e = let n : ◌≡◌ {A = ℕ} 0 1 = cc in absurd (omega arith)
open_by_test Signed e = let n : ◌≡◌ {A = ℕ} 0 1 = cc in absurd (omega arith)
open_by_test Open e = refl

-- the test says whether a number may be signed
pub may_since : (limit high marks k : ℕ) → true ≡ may_sign limit high marks k → (k ≤ limit) × (by_marks high marks k ≡ Open)
may_since limit high marks k e =
    elim (cases_lt limit k) [
      | inl h ↦ let z : false ≡ true = sym (e ∙ cond-false (leb k limit) _ false (lt-leb k limit h)) in
          let n : ◌≡◌ {A = ℕ} 0 1 = cc in absurd (omega arith)
      | inr h ↦ (h, open_by_test (by_marks high marks k) (sym (e ∙ cond-true (leb k limit) _ false (le-leb k limit h))))
    ]

pub barred_since : (limit high marks k : ℕ) → false ≡ may_sign limit high marks k → k ≤ limit → by_marks high marks k ≡ Open → ⊥
barred_since limit high marks k e h o =
    let z : false ≡ true = e ∙ cond-true (leb k limit) _ false (le-leb k limit h) ∙ ap is_open o in
    let n : ◌≡◌ {A = ℕ} 0 1 = cc in omega arith
