-- Reading a tube: its five sections in order, then nothing more. The first wrong form is told by section and place.
use Rattle.std.specs.Prelude.{ℕ, ◌+◌, ◌*◌, ◌≤◌, cond, not, ◌&&◌, List, [], ◌∷◌, length, Ok, Err, fold, Result, ◌==◌, nat_le, slice_index}
use Rattle.refusal.specs.Cause.{Cause, first, unless}
use Rattle.tube.specs.declared.fault.Section.{Section}
use Rattle.tube.specs.declared.fault.Section.TheVariants.{Set, Number, Label, Contents, Tag, Beyond}
use Rattle.tube.specs.declared.fault.TubeFault.{TubeFault}
use Rattle.tube.specs.declared.fault.TubeFault.TheVariants.{Form}
use Rattle.tube.specs.declared.span.Span.{Span}
use Rattle.tube.specs.declared.tube.Tube.{Tube}
use Rattle.tube.specs.Part.{part}

-- the count in the four bytes at a place, the highest first
abbrev pub count_at : List ℕ → ℕ → ℕ
count_at bytes at = ((slice_index bytes at * 256 + slice_index bytes (at + 1)) * 256 + slice_index bytes (at + 2)) * 256 + slice_index bytes (at + 3)

-- the number that bytes make, the highest first
abbrev pub value : List ℕ → ℕ
value bytes = fold (λ a x. a * 256 + x) 0 bytes

-- what can be wrong with a section at a place, in order: no whole count, a count out of its range, fewer bytes than it says
abbrev pub causes : List ℕ → ℕ → Section → ℕ → ℕ → List (Cause TubeFault)
causes bytes place which low high =
    record { applies = not (nat_le (place + 4) (length bytes)); names = Form which place }
    ∷ record { applies = not (nat_le low (count_at bytes place) && nat_le (count_at bytes place) high); names = Form which place }
    ∷ record { applies = not (nat_le (place + 4 + count_at bytes place) (length bytes)); names = Form which (place + 4) }
    ∷ []

-- where the bytes of a section stand that begins at a place
abbrev pub section : List ℕ → ℕ → Section → ℕ → ℕ → Result Span TubeFault
section bytes place which low high =
    unless (first (causes bytes place which low high)) Err (Ok record { at = place + 4; len = count_at bytes place })

abbrev pub bind : {A B : Type 0} → Result A TubeFault → (A → Result B TubeFault) → Result B TubeFault
bind (Ok x) f = f x
bind (Err e) f = Err e

-- what a tube is whose sections stand at these spans: set, nonce, label, ciphertext, tag
abbrev pub told_by : List ℕ → Span → Span → Span → Span → Span → Tube
told_by bytes s n a c t = record {
  code = slice_index bytes s.at;
  param = slice_index bytes (s.at + 1);
  number = value (part bytes n);
  nonce = n;
  label = a;
  contents = c;
  tag = t;
}

-- five sections one after another, each with the range of its count, and nothing after
abbrev pub parsed : List ℕ → Result Tube TubeFault
parsed bytes =
    bind (section bytes 0 Set 2 2) (λ s.
    bind (section bytes (s.at + s.len) Number 1 16) (λ n.
    bind (section bytes (n.at + n.len) Label 0 4096) (λ a.
    bind (section bytes (a.at + a.len) Contents 0 1048576) (λ c.
    bind (section bytes (c.at + c.len) Tag 1 16) (λ t.
    cond (t.at + t.len == length bytes)
    (Ok (told_by bytes s n a c t))
    (Err (Form Beyond (t.at + t.len))))))))

-- the sections lie in so many bytes, each within its range
pub record Within (t : Tube) (size : ℕ) : Type 0 where
  pub nonce : t.nonce.at + t.nonce.len ≤ size
  pub label : t.label.at + t.label.len ≤ size
  pub contents : t.contents.at + t.contents.len ≤ size
  pub tag : t.tag.at + t.tag.len ≤ size
  pub nonces : (1 ≤ t.nonce.len) × (t.nonce.len ≤ 16)
  pub labels : t.label.len ≤ 4096
  pub bodies : t.contents.len ≤ 1048576
  pub tags : (1 ≤ t.tag.len) × (t.tag.len ≤ 16)
