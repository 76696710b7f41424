-- Worked values: a tube with n = 6, t = 4, a = 2, m = 3 has 37 bytes. Without its last byte it is refused at section 5, place 33; with one
-- byte more at section 6, place 37.
use Rattle.std.specs.Prelude.{◌≡◌, ℕ, List, [], ◌∷◌, ◌++◌, length, take, Ok, Err, refl}
use Rattle.tube.specs.declared.fault.Section.TheVariants.{Set, Number, Label, Tag, Beyond}
use Rattle.tube.specs.declared.fault.TubeFault.TheVariants.{Form}
use Rattle.tube.specs.Write.{nonce_of, tube_of, size_of}
use Rattle.tube.specs.Read.{parsed}

-- code 2, param 0xc4, number 258, label 0a 0b, ciphertext 11 12 13, tag 21 22 23 24
abbrev pub example : List ℕ
example = tube_of 2 0xc4 (nonce_of 6 258) (0x0a ∷ 0x0b ∷ []) (0x11 ∷ 0x12 ∷ 0x13 ∷ []) (0x21 ∷ 0x22 ∷ 0x23 ∷ 0x24 ∷ [])

pub example_bytes : example
    ≡ 0 ∷ 0 ∷ 0 ∷ 2 ∷ 2 ∷ 0xc4
    ∷ 0 ∷ 0 ∷ 0 ∷ 6 ∷ 0 ∷ 0 ∷ 0 ∷ 0 ∷ 1 ∷ 2
    ∷ 0 ∷ 0 ∷ 0 ∷ 2 ∷ 0x0a ∷ 0x0b
    ∷ 0 ∷ 0 ∷ 0 ∷ 3 ∷ 0x11 ∷ 0x12 ∷ 0x13
    ∷ 0 ∷ 0 ∷ 0 ∷ 4 ∷ 0x21 ∷ 0x22 ∷ 0x23 ∷ 0x24 ∷ []
example_bytes = refl

pub example_length : length example ≡ 37
example_length = refl

pub example_size : size_of 6 2 3 4 ≡ 37
example_size = refl

pub example_reads : parsed example ≡ Ok record {
  code = 2;
  param = 0xc4;
  number = 258;
  nonce = record { at = 10; len = 6 };
  label = record { at = 20; len = 2 };
  contents = record { at = 26; len = 3 };
  tag = record { at = 33; len = 4 };
}
example_reads = refl

pub one_short : parsed (take 36 example) ≡ Err (Form Tag 33)
one_short = refl

pub one_more : parsed (example ++ (0 ∷ [])) ≡ Err (Form Beyond 37)
one_more = refl

-- a count that is cut short, one out of its range, and one with too few bytes after it
pub no_count : parsed (0 ∷ 0 ∷ 0 ∷ []) ≡ Err (Form Set 0)
no_count = refl

pub no_nonce : parsed (0 ∷ 0 ∷ 0 ∷ 2 ∷ 1 ∷ 1 ∷ 0 ∷ 0 ∷ 0 ∷ 0 ∷ []) ≡ Err (Form Number 6)
no_nonce = refl

pub short_nonce : parsed (0 ∷ 0 ∷ 0 ∷ 2 ∷ 1 ∷ 1 ∷ 0 ∷ 0 ∷ 0 ∷ 2 ∷ 7 ∷ []) ≡ Err (Form Number 10)
short_nonce = refl

-- a count of the label one above its limit is told before its missing bytes
pub long_label : parsed (0 ∷ 0 ∷ 0 ∷ 2 ∷ 1 ∷ 1 ∷ 0 ∷ 0 ∷ 0 ∷ 1 ∷ 7 ∷ 0 ∷ 0 ∷ 16 ∷ 1 ∷ []) ≡ Err (Form Label 11)
long_label = refl
