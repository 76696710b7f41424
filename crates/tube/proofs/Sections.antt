-- What is written is read again.
use Rattle.std.proofs.Common.{◌≡◌, ℕ, ◌+◌, ◌/◌, ◌<◌, ◌≤◌, eqb, leb, List, [], ◌∷◌, ◌++◌, length, get_or, take, drop, Ok, Result, sym, refl, ap, ◌∙◌, subst, append_assoc, add-zero, arith, length-append}
use lib.Seq.{take-append_seam, drop-append-add}
use Rattle.std.proofs.lemmas.List.{get_or-append-add, append-nil}
use Rattle.std.proofs.lemmas.Bool.{cond-true, le-leb, eq-eqb}
use Rattle.tube.specs.declared.fault.Section.{Section}
use Rattle.tube.specs.declared.fault.Section.TheVariants.{Set, Number, Label, Contents, Tag}
use Rattle.tube.specs.declared.fault.TubeFault.{TubeFault}
use Rattle.tube.specs.declared.fault.TubeFault.TheVariants.{Form}
use Rattle.tube.specs.Part.{part}
use Rattle.tube.specs.Write.{four, sectioned, tube_of, size_of}
use Rattle.tube.specs.Read.{section, count_at, value, bind}
use Rattle.tube.specs.Form.{Ranged, ReadsBack}
use Rattle.tube.proofs.Past.{by_tests}

-- a section that stands after so many bytes
module _ (pre xs rest : List ℕ) (fits : length xs < 4294967296) where
  byte : (i d : ℕ) → get_or (pre ++ (sectioned xs ++ rest)) (length pre + i) d ≡ get_or (sectioned xs ++ rest) i d
  byte i d = get_or-append-add pre (sectioned xs ++ rest) i d

  count_there : count_at (pre ++ (sectioned xs ++ rest)) (length pre) ≡ length xs
  count_there =
      let b0 : get_or (pre ++ (sectioned xs ++ rest)) (length pre) 0 ≡ length xs / 16777216 = subst (λ i. get_or (pre ++ (sectioned xs ++ rest)) i 0 ≡ length xs / 16777216) (add-zero (length pre)) (byte 0 0) in
      omega (arith, b0, byte 1 0, byte 2 0, byte 3 0)

  total : length (pre ++ (sectioned xs ++ rest)) ≡ length pre + 4 + length xs + length rest
  total = length-append pre (sectioned xs ++ rest) ∙ omega (arith, length-append xs rest)

  section_there : (which : Section) (low high : ℕ) → low ≤ length xs → length xs ≤ high
      → section (pre ++ (sectioned xs ++ rest)) (length pre) which low high ≡ Ok record { at = length pre + 4; len = length xs }
  section_there which low high l h =
      let B = pre ++ (sectioned xs ++ rest) in
      let p = length pre in
      let n = count_at B p in
      let c : n ≡ length xs = count_there in
      let t : length B ≡ p + 4 + length xs + length rest = total in
      by_tests (leb (p + 4) (length B)) (leb low n) (leb n high) (leb (p + 4 + n) (length B)) (Form which p) (Form which p) (Form which (p + 4)) (record { at = p + 4; len = n })
      ∙ cond-true (leb (p + 4) (length B)) _ _ (le-leb (p + 4) (length B) (omega arith))
      ∙ cond-true (leb low n) _ _ (le-leb low n (subst (λ k. low ≤ k) (sym c) l))
      ∙ cond-true (leb n high) _ _ (le-leb n high (subst (λ k. k ≤ high) (sym c) h))
      ∙ cond-true (leb (p + 4 + n) (length B)) _ _ (le-leb (p + 4 + n) (length B) (subst (λ k. p + 4 + k ≤ length B) (sym c) (omega arith)))
      ∙ ap (λ k. Ok record { at = p + 4; len = k }) c

  part_there : take (length xs) (drop (length pre + 4) (pre ++ (sectioned xs ++ rest))) ≡ xs
  part_there = ap (take (length xs)) (drop-append-add pre (sectioned xs ++ rest) 4) ∙ take-append_seam xs rest

  module _ (bytes : List ℕ) (place at : ℕ) (is : bytes ≡ pre ++ (sectioned xs ++ rest)) (here : place ≡ length pre) (after : at ≡ place + 4) where
    pub section_in : (which : Section) (low high : ℕ) → low ≤ length xs → length xs ≤ high → section bytes place which low high ≡ Ok record { at = at; len = length xs }
    section_in which low high l h =
        ap (λ b. section b place which low high) is ∙ ap (λ p. section (pre ++ (sectioned xs ++ rest)) p which low high) here
        ∙ section_there which low high l h ∙ ap (λ p. Ok record { at = p; len = length xs }) (omega arith)

    pub part_in : part bytes (record { at = at; len = length xs }) ≡ xs
    part_in = ap (λ b. take (length xs) (drop at b)) is ∙ ap (λ p. take (length xs) (drop p (pre ++ (sectioned xs ++ rest)))) (omega arith) ∙ part_there

bind_ok : {A B : Type 0} (r : Result A TubeFault) (f : A → Result B TubeFault) (x : A) → r ≡ Ok x → bind r f ≡ f x
bind_ok r f x e = ap (λ y. bind y f) e

pub length_sectioned : (xs : List ℕ) → length (sectioned xs) ≡ 4 + length xs
length_sectioned xs = length-append (four (length xs)) xs

-- a tube that is written is read again
module _ (code param : ℕ) (n a c t : List ℕ) where
  pub tube_length : length (tube_of code param n a c t) ≡ size_of (length n) (length a) (length c) (length t)
  tube_length =
      omega (
        arith,
        length-append (sectioned n) (sectioned a ++ (sectioned c ++ sectioned t)),
        length-append (sectioned a) (sectioned c ++ sectioned t),
        length-append (sectioned c) (sectioned t),
        length_sectioned n,
        length_sectioned a,
        length_sectioned c,
        length_sectioned t,
      )

  -- what stands in front of each section
  abbrev front2 : List ℕ
  front2 = sectioned (code ∷ param ∷ [])

  abbrev front3 : List ℕ
  front3 = front2 ++ sectioned n

  abbrev front4 : List ℕ
  front4 = front3 ++ sectioned a

  abbrev front5 : List ℕ
  front5 = front4 ++ sectioned c

  split3 : tube_of code param n a c t ≡ front3 ++ (sectioned a ++ (sectioned c ++ sectioned t))
  split3 = sym (append_assoc front2 (sectioned n) (sectioned a ++ (sectioned c ++ sectioned t)))

  split4 : tube_of code param n a c t ≡ front4 ++ (sectioned c ++ sectioned t)
  split4 = split3 ∙ sym (append_assoc front3 (sectioned a) (sectioned c ++ sectioned t))

  split5 : tube_of code param n a c t ≡ front5 ++ (sectioned t ++ [])
  split5 = split4 ∙ sym (append_assoc front4 (sectioned c) (sectioned t)) ∙ ap (λ x. front5 ++ x) (sym (append-nil (sectioned t)))

  here3 : 10 + length n ≡ length front3
  here3 = omega (arith, length_sectioned n)

  here4 : 14 + length n + length a ≡ length front4
  here4 = omega (arith, here3, length-append front3 (sectioned a), length_sectioned a)

  here5 : 18 + length n + length a + length c ≡ length front5
  here5 = omega (arith, here4, length-append front4 (sectioned c), length_sectioned c)

  module _ (r : Ranged (length n) (length a) (length c) (length t)) where
    pub reads_back : ReadsBack code param n a c t (tube_of code param n a c t)
    reads_back =
        let W = tube_of code param n a c t in
        let u = code ∷ param ∷ [] in
        let fn : length n < 4294967296 = omega (arith, r.nonces.1) in
        let fa : length a < 4294967296 = omega (arith, r.labels) in
        let fc : length c < 4294967296 = omega (arith, r.bodies) in
        let ft : length t < 4294967296 = omega (arith, r.tags.1) in
        let R1 = sectioned n ++ (sectioned a ++ (sectioned c ++ sectioned t)) in
        let R2 = sectioned a ++ (sectioned c ++ sectioned t) in
        let p3 = 10 + length n in
        let p4 = 14 + length n + length a in
        let p5 = 18 + length n + length a + length c in
        let end : 22 + length n + length a + length c + length t ≡ length W = omega (arith, tube_length) in
        let nonce : part W (record { at = 10; len = length n }) ≡ n = part_in front2 n R2 fn W 6 10 refl refl refl in
        record {
          reads =
              bind_ok (section W 0 Set 2 2) _ _ (section_in [] u R1 (omega arith) W 0 4 refl refl refl Set 2 2 (omega arith) (omega arith))
              ∙ bind_ok (section W 6 Number 1 16) _ _ (section_in front2 n R2 fn W 6 10 refl refl refl Number 1 16 r.nonces.0 r.nonces.1)
              ∙ bind_ok (section W p3 Label 0 4096) _ _ (section_in front3 a (sectioned c ++ sectioned t) fa W p3 (14 + length n) split3 here3 (omega arith) Label 0 4096 (omega arith) r.labels)
              ∙ bind_ok (section W p4 Contents 0 1048576) _ _ (section_in front4 c (sectioned t) fc W p4 (18 + length n + length a) split4 here4 (omega arith) Contents 0 1048576 (omega arith) r.bodies)
              ∙ bind_ok (section W p5 Tag 1 16) _ _ (section_in front5 t [] ft W p5 (22 + length n + length a + length c) split5 here5 (omega arith) Tag 1 16 r.tags.0 r.tags.1)
              ∙ cond-true (eqb (22 + length n + length a + length c + length t) (length W)) _ _ (eq-eqb (22 + length n + length a + length c + length t) (length W) end)
              ∙ ap (λ x. Ok record {
                code = code;
                param = param;
                number = value x;
                nonce = record { at = 10; len = length n };
                label = record { at = 14 + length n; len = length a };
                contents = record { at = 18 + length n + length a; len = length c };
                tag = record { at = 22 + length n + length a + length c; len = length t };
              }) nonce;
          nonce = nonce;
          label = part_in front3 a (sectioned c ++ sectioned t) fa W p3 (14 + length n) split3 here3 (omega arith);
          contents = part_in front4 c (sectioned t) fc W p4 (18 + length n + length a) split4 here4 (omega arith);
          tag = part_in front5 t [] ft W p5 (22 + length n + length a + length c) split5 here5 (omega arith);
        }
