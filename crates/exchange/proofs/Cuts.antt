-- Parts of lists that are lent and come back.
use Rattle.std.proofs.Common.{◌≡◌, ℕ, ◌+◌, ◌-◌, ◌≤◌, min, List, ◌++◌, length, take, drop, sym, refl, ap, ◌∙◌, inl, inr, append_assoc, arith, length-append, length-drop}
use borrow.Rule.Slice.PartMut.{put_mid}
use Rattle.std.proofs.lemmas.List.{take_all, drop_all, take-append-drop, drop-drop, drop-append-le, drop_at, take-append-le, length-take-le}
use Rattle.std.proofs.lemmas.Bool.{cases_lt}
use Rattle.mode.specs.Work.{work_after}
use Rattle.tube.specs.Put.{Laid}
use Rattle.tube.proofs.Laying.{laid_mid}
use Rattle.exchange.specs.Receives.{bytes_at}
use Rattle.exchange.specs.Sends.{lent_work}

-- a part from a place on, of a length
pub part_is : (at len : ℕ) (bytes : List ℕ) → take (at + len - at) (drop at bytes) ≡ bytes_at bytes at len
part_is at len bytes = let e : at + len - at ≡ len = omega arith in ap (λ n. take n (drop at bytes)) e

pub part_long : (at len : ℕ) (bytes : List ℕ) → at + len ≤ length bytes → length (take (at + len - at) (drop at bytes)) ≡ len
part_long at len bytes h = ap length (part_is at len bytes) ∙ length-take-le len (drop at bytes) (omega (arith, length-drop at bytes))

-- the first bytes of the work memory
pub front_is : (n : ℕ) (work : List ℕ) → take (n - 0) work ≡ take n work
front_is n work = let e : n - 0 ≡ n = omega arith in ap (λ k. take k work) e

pub front_long : (n : ℕ) (work : List ℕ) → n ≤ length work → length (take (n - 0) work) ≡ n
front_long n work h = ap length (front_is n work) ∙ length-take-le n work h

pub front_back : (n : ℕ) (work after : List ℕ) → after ≡ work_after (take (n - 0) work) → after ++ drop (n - 0) work ≡ lent_work n work
front_back n work after e = let z : n - 0 ≡ n = omega arith in ap (λ x. x ++ drop (n - 0) work) e ∙ ap (λ k. work_after (take k work) ++ drop k work) z

-- the part that was lent comes back with bytes in front
pub laid_part : (at k : ℕ) (before t ys : List ℕ) → at + k ≤ length before → ys ≡ t ++ drop (length t) (take k (drop at before)) → length ys ≡ k → Laid at t before (put_mid at k before ys)
laid_part at k before t ys fits e l pre old h p =
    let X = drop at before in
    let lk : length (take k X) ≡ k = length-take-le k X (omega (arith, length-drop at before)) in
    let lt : length t ≤ length (take k X) = omega (arith, ap length e, length-append t (drop (length t) (take k X)), length-drop (length t) (take k X)) in
    let d : drop (length t) (take k X) ++ drop k X ≡ drop (length t) X = sym (drop-append-le (length t) (take k X) (drop k X) lt) ∙ ap (drop (length t)) (take-append-drop k X) in
    ap (λ y. take at before ++ (y ++ drop k X)) e
    ∙ ap (λ y. take at before ++ y) (append_assoc t (drop (length t) (take k X)) (drop k X))
    ∙ ap (λ y. take at before ++ (t ++ y)) d
    ∙ laid_mid at (length t) before t refl pre old h p

-- what was written to the part stands there
pub part_stands : (used k n : ℕ) (out after : List ℕ) → used ≤ length out → n ≤ length after → take n after ≡ take n (drop used (put_mid used k out after))
part_stands used k n out after h l =
    sym (ap (take n) (drop_at (take used out) (after ++ drop k (drop used out)) used (length-take-le used out h)) ∙ take-append-le n after (drop k (drop used out)) l)

-- and the rest of it is as it was
pub part_rest : (used k n : ℕ) (out after : List ℕ) → used ≤ length out → n ≤ length after → n ≤ length (take k (drop used out)) → drop n after ≡ drop n (take k (drop used out))
    → drop (used + n) (put_mid used k out after) ≡ drop (used + n) out
part_rest used k n out after h l l' e =
    let X = drop used out in
    sym (drop-drop n used (put_mid used k out after))
    ∙ ap (drop n) (drop_at (take used out) (after ++ drop k X) used (length-take-le used out h))
    ∙ drop-append-le n after (drop k X) l ∙ ap (λ x. x ++ drop k X) e ∙ sym (drop-append-le n (take k X) (drop k X) l')
    ∙ ap (drop n) (take-append-drop k X) ∙ drop-drop n used out

pub take_min : {X : Type 0} (i : ℕ) (xs : List X) (n : ℕ) → i ≡ min (length xs) n → take i xs ≡ take n xs
take_min i xs n e =
    elim (cases_lt n (length xs)) [
      | inl h ↦ let q : i ≡ n = omega arith in ap (λ j. take j xs) q
      | inr h ↦ take_all i xs (omega arith) ∙ sym (take_all n xs (omega arith))
    ]

pub drop_min : {X : Type 0} (i : ℕ) (xs : List X) (n : ℕ) → i ≡ min n (length xs) → drop i xs ≡ drop n xs
drop_min i xs n e =
    elim (cases_lt n (length xs)) [
      | inl h ↦ let q : i ≡ n = omega arith in ap (λ j. drop j xs) q
      | inr h ↦ drop_all i xs (omega arith) ∙ sym (drop_all n xs (omega arith))
    ]

pub drop_past : {X : Type 0} (i : ℕ) (a b : List X) → drop i a ≡ drop i b → drop (i + 1) a ≡ drop (i + 1) b
drop_past i a b e = sym (drop-drop 1 i a) ∙ ap (drop 1) e ∙ drop-drop 1 i b
