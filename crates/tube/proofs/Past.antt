-- What is known past the checks that a reading passes.
use Rattle.std.proofs.Common.{◌≡◌, ℕ, ◌+◌, ◌≤◌, Bool, true, false, cond, not, ◌&&◌, eqb, leb, List, [], ◌∷◌, length, get_or, IfOk, Ok, Err, Result, sym, refl, ◌∙◌, subst, arith}
use Rattle.std.proofs.lemmas.Bool.{leb-true, eqb-true}
use Rattle.refusal.specs.Cause.{first, unless}
use Rattle.tube.specs.declared.fault.Section.{Section}
use Rattle.tube.specs.declared.fault.Section.TheVariants.{Set, Number, Label, Contents, Tag, Beyond}
use Rattle.tube.specs.declared.fault.TubeFault.{TubeFault}
use Rattle.tube.specs.declared.fault.TubeFault.TheVariants.{Form}
use Rattle.tube.specs.declared.span.Span.{Span}
use Rattle.tube.specs.declared.tube.Tube.{Tube}
use Rattle.tube.specs.Part.{part}
use Rattle.tube.specs.Read.{section, count_at, value, told_by, parsed, bind, Within}

-- three causes, none of which applies
pub by_tests : {F V : Type 0} (a b c d : Bool) (x y z : F) (v : V)
    → unless (first (record { applies = not a; names = x } ∷ record { applies = not (b && c); names = y } ∷ record { applies = not d; names = z } ∷ [])) Err (Ok v)
    ≡ cond a (cond b (cond c (cond d (Ok v) (Err z)) (Err y)) (Err y)) (Err x)
by_tests false b c d x y z v = refl
by_tests true false c d x y z v = refl
by_tests true true false d x y z v = refl
by_tests true true true false x y z v = refl
by_tests true true true true x y z v = refl

pub past_check : {T E : Type 0} (b : Bool) (e : E) (r : Result T E) (t : T) → cond b r (Err e) ≡ Ok t → (b ≡ true) × (r ≡ Ok t)
past_check false e r t q = let z : ◌≡◌ {A = ℕ} 0 1 = cc in absurd (omega arith)
past_check true e r t q = (refl, q)

pub past_bind : {A B : Type 0} (r : Result A TubeFault) (f : A → Result B TubeFault) (y : B) → bind r f ≡ Ok y → (x : A) × (r ≡ Ok x) × (f x ≡ Ok y)
past_bind (Ok x) f y q = (x, refl, q)
past_bind (Err e) f y q = let z : ◌≡◌ {A = ℕ} 0 1 = cc in absurd (omega arith)

pub same_ok : {A B : Type 0} (x y : A) → ◌≡◌ {A = Result A B} (Ok x) (Ok y) → x ≡ y
same_ok x y e = cc

-- a section that is found
pub record Found (bytes : List ℕ) (place low high : ℕ) (s : Span) : Type 0 where
  pub at : s.at ≡ place + 4
  pub len : s.len ≡ count_at bytes place
  pub inside : s.at + s.len ≤ length bytes
  pub least : low ≤ s.len
  pub most : s.len ≤ high

pub section_found : (bytes : List ℕ) (place : ℕ) (which : Section) (low high : ℕ) (s : Span) → section bytes place which low high ≡ Ok s → Found bytes place low high s
section_found bytes place which low high s q =
    let n = count_at bytes place in
    let q0 = sym (by_tests (leb (place + 4) (length bytes)) (leb low n) (leb n high) (leb (place + 4 + n) (length bytes))
    (Form which place) (Form which place) (Form which (place + 4)) (record { at = place + 4; len = n })) ∙ q in
    let q1 = past_check (leb (place + 4) (length bytes)) _ _ s q0 in
    let q2 = past_check (leb low n) _ _ s q1.1 in
    let q3 = past_check (leb n high) _ _ s q2.1 in
    let q4 = past_check (leb (place + 4 + n) (length bytes)) _ _ s q3.1 in
    let P : Span → Type 0 = λ u. Found bytes place low high u in
    subst P (same_ok _ s q4.1) (record {
      at = refl;
      len = refl;
      inside = leb-true (place + 4 + n) (length bytes) q4.0;
      least = leb-true low n q2.0;
      most = leb-true n high q3.0;
    })

-- a reading that succeeds found five sections one after another, and the end of the bytes after them
pub record Five (bytes : List ℕ) (t : Tube) : Type 0 where
  pub start : Span
  pub one : Found bytes 0 2 2 start
  pub two : Found bytes (start.at + start.len) 1 16 t.nonce
  pub three : Found bytes (t.nonce.at + t.nonce.len) 0 4096 t.label
  pub four : Found bytes (t.label.at + t.label.len) 0 1048576 t.contents
  pub five : Found bytes (t.contents.at + t.contents.len) 1 16 t.tag
  pub end : t.tag.at + t.tag.len ≡ length bytes
  pub code : t.code ≡ get_or bytes start.at 0
  pub param : t.param ≡ get_or bytes (start.at + 1) 0
  pub number : t.number ≡ value (part bytes t.nonce)

five_from : (bytes : List ℕ) (t : Tube) (s1 s2 s3 s4 s5 : Span) → section bytes 0 Set 2 2 ≡ Ok s1 → section bytes (s1.at + s1.len) Number 1 16 ≡ Ok s2
    → section bytes (s2.at + s2.len) Label 0 4096 ≡ Ok s3 → section bytes (s3.at + s3.len) Contents 0 1048576 ≡ Ok s4 → section bytes (s4.at + s4.len) Tag 1 16 ≡ Ok s5
    → cond (eqb (s5.at + s5.len) (length bytes)) (Ok (told_by bytes s1 s2 s3 s4 s5)) (Err (Form Beyond (s5.at + s5.len))) ≡ Ok t → Five bytes t
five_from bytes t s1 s2 s3 s4 s5 h1 h2 h3 h4 h5 q =
    let e = past_check (eqb (s5.at + s5.len) (length bytes)) (Form Beyond (s5.at + s5.len)) (Ok (told_by bytes s1 s2 s3 s4 s5)) t q in
    let P : Tube → Type 0 = λ u. Five bytes u in
    subst P (same_ok (told_by bytes s1 s2 s3 s4 s5) t e.1) (record {
      start = s1;
      one = section_found bytes 0 Set 2 2 s1 h1;
      two = section_found bytes (s1.at + s1.len) Number 1 16 s2 h2;
      three = section_found bytes (s2.at + s2.len) Label 0 4096 s3 h3;
      four = section_found bytes (s3.at + s3.len) Contents 0 1048576 s4 h4;
      five = section_found bytes (s4.at + s4.len) Tag 1 16 s5 h5;
      end = eqb-true (s5.at + s5.len) (length bytes) e.0;
      code = refl;
      param = refl;
      number = refl;
    })

pub parsed_five : (bytes : List ℕ) (t : Tube) → parsed bytes ≡ Ok t → Five bytes t
parsed_five bytes t q =
    let b1 = past_bind (section bytes 0 Set 2 2) _ t q in
    let b2 = past_bind (section bytes (b1.0.at + b1.0.len) Number 1 16) _ t b1.2 in
    let b3 = past_bind (section bytes (b2.0.at + b2.0.len) Label 0 4096) _ t b2.2 in
    let b4 = past_bind (section bytes (b3.0.at + b3.0.len) Contents 0 1048576) _ t b3.2 in
    let b5 = past_bind (section bytes (b4.0.at + b4.0.len) Tag 1 16) _ t b4.2 in
    five_from bytes t b1.0 b2.0 b3.0 b4.0 b5.0 b1.1 b2.1 b3.1 b4.1 b5.1 b5.2

pub parsed_within : (bytes : List ℕ) (t : Tube) → parsed bytes ≡ Ok t → Within t (length bytes)
parsed_within bytes t q =
    let f = parsed_five bytes t q in
    record {
      nonce = f.two.inside;
      label = f.three.inside;
      contents = f.four.inside;
      tag = f.five.inside;
      nonces = (f.two.least, f.two.most);
      labels = f.three.most;
      bodies = f.four.most;
      tags = (f.five.least, f.five.most);
    }

-- what holds of every value that a result can be holds of the one that it is
pub made_if : {A B : Type 0} (r : Result A B) (P : A → Type 0) → ((x : A) → r ≡ Ok x → P x) → IfOk r P
made_if (Ok x) P h = h x refl
made_if (Err e) P h = tt
