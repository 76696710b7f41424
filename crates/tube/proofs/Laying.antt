-- Bytes put one after another make a tube.
use Rattle.std.proofs.Common.{◌≡◌, ℕ, ◌+◌, ◌≤◌, Bool, true, false, cond, ◌&&◌, leb, List, [], ◌∷◌, ◌++◌, length, take, drop, Some, None, Option, sym, refl, ap, ◌∙◌, subst, append_assoc, arith, length-append}
use lib.Seq.{drop-append-add}
use borrow.Rule.Slice.PartMut.{put_mid}
use Rattle.std.proofs.lemmas.List.{take_at, drop_at, drop-drop, take-append-drop, length-take-le}
use Rattle.std.proofs.lemmas.Bool.{and_parts, and_from, leb-true, le-leb, cond-true}
use Rattle.tube.specs.Part.{part}
use Rattle.tube.specs.Write.{four, sectioned, tube_of, size_of}
use Rattle.tube.specs.Put.{in_range, fits, wrote, written, enclosed, Laid}
use Rattle.tube.specs.Form.{Ranged, ReadsBack}
use Rattle.tube.proofs.Parts.{length_part}
use Rattle.tube.proofs.Sections.{tube_length, reads_back}

-- a write to a part of a slice puts it there
pub laid_mid : (at k : ℕ) (before ys : List ℕ) → length ys ≡ k → Laid at ys before (put_mid at k before ys)
laid_mid at k before ys e pre old b p =
    let t : take at before ≡ pre = ap (take at) b ∙ take_at pre (drop (length pre) old) at (sym p) in
    let d : drop at before ≡ drop (length pre) old = ap (drop at) b ∙ drop_at pre (drop (length pre) old) at (sym p) in
    let n : length pre + k ≡ length (pre ++ ys) = omega (arith, length-append pre ys) in
    ap (λ x. x ++ (ys ++ drop k (drop at before))) t
    ∙ ap (λ x. pre ++ (ys ++ drop k x)) d
    ∙ ap (λ x. pre ++ (ys ++ x)) (drop-drop k (length pre) old ∙ ap (λ j. drop j old) n)
    ∙ sym (append_assoc pre ys (drop (length (pre ++ ys)) old))

-- one after another
pub laid_both : (at next : ℕ) (xs ys a b c : List ℕ) → next ≡ at + length xs → Laid at xs a b → Laid next ys b c → Laid at (xs ++ ys) a c
laid_both at next xs ys a b c e f g pre old h p =
    let q : next ≡ length (pre ++ xs) = omega (arith, length-append pre xs) in
    let r = g (pre ++ xs) old (f pre old h p) q in
    let s : (pre ++ xs) ++ ys ≡ pre ++ (xs ++ ys) = append_assoc pre xs ys in
    r ∙ ap (λ z. z ++ drop (length z) old) s

-- the sections are in their ranges, and there is room
pub ranged_since : (n a m t : ℕ) → in_range n a m t ≡ true → Ranged n a m t
ranged_since n a m t e =
    let p = and_parts (leb 1 n && leb n 16) ((leb a 4096 && leb m 1048576) && (leb 1 t && leb t 16)) e in
    let q = and_parts (leb 1 n) (leb n 16) p.0 in
    let r = and_parts (leb a 4096 && leb m 1048576) (leb 1 t && leb t 16) p.1 in
    let s = and_parts (leb a 4096) (leb m 1048576) r.0 in
    let u = and_parts (leb 1 t) (leb t 16) r.1 in
    record {
      nonces = (leb-true 1 n q.0, leb-true n 16 q.1);
      labels = leb-true a 4096 s.0;
      bodies = leb-true m 1048576 s.1;
      tags = (leb-true 1 t u.0, leb-true t 16 u.1);
    }

pub fits_since : (n a m t room : ℕ) → fits n a m t room ≡ true → Ranged n a m t × (size_of n a m t ≤ room)
fits_since n a m t room e =
    let p = and_parts (in_range n a m t) (leb (size_of n a m t) room) e in
    (ranged_since n a m t p.0, leb-true (size_of n a m t) room p.1)

pub fits_from : (n a m t room : ℕ) → Ranged n a m t → size_of n a m t ≤ room → fits n a m t room ≡ true
fits_from n a m t room r h =
    and_from (in_range n a m t) (leb (size_of n a m t) room)
    (and_from (leb 1 n && leb n 16) ((leb a 4096 && leb m 1048576) && (leb 1 t && leb t 16))
    (and_from (leb 1 n) (leb n 16) (le-leb 1 n r.nonces.0) (le-leb n 16 r.nonces.1))
    (and_from (leb a 4096 && leb m 1048576) (leb 1 t && leb t 16)
    (and_from (leb a 4096) (leb m 1048576) (le-leb a 4096 r.labels) (le-leb m 1048576 r.bodies))
    (and_from (leb 1 t) (leb t 16) (le-leb 1 t r.tags.0) (le-leb t 16 r.tags.1))))
    (le-leb (size_of n a m t) room h)

-- the parts in a row are a tube
in_row : (s n a p c t : List ℕ) → p ≡ four (length c) → ((((s ++ n) ++ a) ++ p) ++ c) ++ t ≡ s ++ (n ++ (a ++ ((four (length c) ++ c) ++ t)))
in_row s n a p c t e =
    ap (λ x. ((((s ++ n) ++ a) ++ x) ++ c) ++ t) e
    ∙ append_assoc (((s ++ n) ++ a) ++ four (length c)) c t
    ∙ append_assoc ((s ++ n) ++ a) (four (length c)) (c ++ t)
    ∙ append_assoc (s ++ n) a (four (length c) ++ (c ++ t))
    ∙ append_assoc s n (a ++ (four (length c) ++ (c ++ t)))
    ∙ ap (λ x. s ++ (n ++ (a ++ x))) (sym (append_assoc (four (length c)) c t))

-- head and tag around a ciphertext that stands in its place
module _ (code param : ℕ) (n a : List ℕ) (m : ℕ) (t before : List ℕ) where
  abbrev place : ℕ
  place = 18 + length n + length a

  abbrev body : List ℕ
  body = part before (record { at = 18 + length n + length a; len = m })

  abbrev head : List ℕ
  head = ((sectioned (code ∷ param ∷ []) ++ sectioned n) ++ sectioned a) ++ four m

  head_length : length head ≡ place
  head_length = omega (arith, length-append n (sectioned a), length-append (n ++ sectioned a) (four m))

  pub around : (mid after : List ℕ) (at : ℕ) → at ≡ place → fits (length n) (length a) m (length t) (length before) ≡ true
      → Laid 0 head before mid → Laid (at + m) (sectioned t) mid after → after ≡ enclosed code param n a m t before
  around mid after at here f first second =
      let w = fits_since (length n) (length a) m (length t) (length before) f in
      let lb : length body ≡ m = length_part before (record { at = place; len = m }) (omega (arith, w.1)) in
      let lh : length (head ++ body) ≡ place + m = omega (arith, length-append head body, head_length, lb) in
      let e1 : mid ≡ head ++ drop (length head) before = first [] before refl refl in
      let e2 : drop (length head) before ≡ body ++ drop (length (head ++ body)) before =
      ap (λ k. drop k before) head_length ∙ sym (take-append-drop m (drop place before))
      ∙ ap (λ x. body ++ x) (drop-drop m place before ∙ ap (λ k. drop k before) (sym lh)) in
      let e3 : mid ≡ (head ++ body) ++ drop (length (head ++ body)) before =
      e1 ∙ ap (λ x. head ++ x) e2 ∙ sym (append_assoc head body (drop (length (head ++ body)) before)) in
      let e4 : after ≡ ((head ++ body) ++ sectioned t) ++ drop (length ((head ++ body) ++ sectioned t)) before = second (head ++ body) before e3 (omega (arith, here, lh)) in
      let e5 : (head ++ body) ++ sectioned t ≡ tube_of code param n a body t = in_row (sectioned (code ∷ param ∷ [])) (sectioned n) (sectioned a) (four m) body (sectioned t) (ap four (sym lb)) in
      let e6 : length (tube_of code param n a body t) ≡ size_of (length n) (length a) m (length t) = tube_length code param n a body t ∙ ap (λ k. size_of (length n) (length a) k (length t)) lb in
      e4 ∙ ap (λ x. x ++ drop (length x) before) e5 ∙ ap (λ k. tube_of code param n a body t ++ drop k before) e6
      ∙ sym (cond-true (fits (length n) (length a) m (length t) (length before)) _ _ f)

-- a ciphertext that was put in its place, and the rest around it: the tube is written
pub enclosed_written : (code param : ℕ) (n a c t before mid : List ℕ) (at : ℕ) → at ≡ 18 + length n + length a → length mid ≡ length before
    → fits (length n) (length a) (length c) (length t) (length before) ≡ true → Laid at c before mid
    → enclosed code param n a (length c) t mid ≡ written code param n a c t before
enclosed_written code param n a c t before mid at here same f laid =
    let w = fits_since (length n) (length a) (length c) (length t) (length before) f in
    let size = size_of (length n) (length a) (length c) (length t) in
    let pre = take at before in
    let lp : length pre ≡ at = length-take-le at before (omega (arith, w.1)) in
    let l : length (pre ++ c) ≡ at + length c = omega (arith, length-append pre c, lp) in
    let e0 : before ≡ pre ++ drop (length pre) before = sym (take-append-drop at before) ∙ ap (λ k. pre ++ drop k before) (sym lp) in
    let e1 : mid ≡ (pre ++ c) ++ drop (length (pre ++ c)) before = laid pre before e0 (sym lp) in
    let rest = drop (length (pre ++ c)) before in
    let body : take (length c) (drop (18 + length n + length a) mid) ≡ c =
    ap (λ k. take (length c) (drop k mid)) (sym here)
    ∙ ap (λ x. take (length c) (drop at x)) (e1 ∙ append_assoc pre c rest)
    ∙ ap (take (length c)) (drop_at pre (c ++ rest) at lp) ∙ take_at c rest (length c) refl in
    let s : size ≡ length (pre ++ c) + (4 + length t) = omega (arith, l) in
    let beyond : drop size mid ≡ drop size before =
    ap (λ k. drop k mid) s ∙ ap (drop (length (pre ++ c) + (4 + length t))) e1
    ∙ drop-append-add (pre ++ c) rest (4 + length t) ∙ drop-drop (4 + length t) (length (pre ++ c)) before ∙ ap (λ k. drop k before) (sym s) in
    let f' : fits (length n) (length a) (length c) (length t) (length mid) ≡ true = ap (fits (length n) (length a) (length c) (length t)) same ∙ f in
    cond-true (fits (length n) (length a) (length c) (length t) (length mid)) _ _ f'
    ∙ ap (λ x. tube_of code param n a x t ++ drop size mid) body ∙ ap (λ x. tube_of code param n a c t ++ x) beyond
    ∙ sym (cond-true (fits (length n) (length a) (length c) (length t) (length before)) _ _ f)

-- what was written reads back
pub written_reads : (code param : ℕ) (n a c t before after : List ℕ) (len : ℕ) → wrote (length n) (length a) (length c) (length t) (length before) ≡ Some len
    → after ≡ written code param n a c t before → ReadsBack code param n a c t (take len after)
written_reads code param n a c t before after len e out = by (fits (length n) (length a) (length c) (length t) (length before)) refl e out
  where
    size : ℕ
    size = size_of (length n) (length a) (length c) (length t)

    by : (b : Bool) → fits (length n) (length a) (length c) (length t) (length before) ≡ b → cond b (Some size) None ≡ Some len
        → after ≡ cond b (tube_of code param n a c t ++ drop size before) before → ReadsBack code param n a c t (take len after)
    by true f e out =
        let k : len ≡ size = cc in
        let g : take len after ≡ tube_of code param n a c t =
        ap (take len) out ∙ take_at (tube_of code param n a c t) (drop size before) len (tube_length code param n a c t ∙ sym k) in
        let P : List ℕ → Type 0 = λ x. ReadsBack code param n a c t x in
        subst P (sym g) (reads_back code param n a c t (fits_since (length n) (length a) (length c) (length t) (length before) f).0)
    by false f e out = let z : ◌≡◌ {A = ℕ} 0 1 = cc in absurd (omega arith)

-- the end of a write: the ciphertext was put in its place, and the rest around it
pub write_ends : (code param : ℕ) (n a c t before mid after : List ℕ) (r : Option ℕ) → fits (length n) (length a) (length c) (length t) (length before) ≡ true
    → length mid ≡ length before → Laid (18 + length n + length a) c before mid
    → r ≡ wrote (length n) (length a) (length c) (length t) (length mid) → after ≡ enclosed code param n a (length c) t mid
    → (r ≡ wrote (length n) (length a) (length c) (length t) (length before)) × (after ≡ written code param n a c t before)
    × ((len : ℕ) → r ≡ Some len → ReadsBack code param n a c t (take len after))
write_ends code param n a c t before mid after r f same laid e out =
    let answers : r ≡ wrote (length n) (length a) (length c) (length t) (length before) = e ∙ ap (wrote (length n) (length a) (length c) (length t)) same in
    let holds : after ≡ written code param n a c t before =
    out ∙ enclosed_written code param n a c t before mid (18 + length n + length a) refl same f laid in
    (answers, holds, λ len g. written_reads code param n a c t before after len (sym answers ∙ g) holds)
