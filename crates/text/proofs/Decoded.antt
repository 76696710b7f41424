-- Decoding, a part at a time. The place of a wrong digit is not told.
use Rattle.std.proofs.Common.{◌≡◌, ℕ, ◌+◌, ◌*◌, ◌%◌, List, [], ◌∷◌, ◌++◌, append_assoc, append-nil, length, length-append, min, ◌/◌, rules, ◌⊎◌, inr, IfErr, MatchResult, Option, Some, None, Result, Ok, Err, refl, sym, ap, ◌∙◌, arith}
use Rattle.hex.specs.Hex.{decode_of, decode_pairs, decode_sized, digit_or_error, hex_digit_value, ◌>>=◌}
use Rattle.hex.specs.declared.error.FromHexError.{FromHexError}
use Rattle.hex.specs.declared.error.FromHexError.TheVariants.{OutOfMemory}
use Rattle.std.specs.Result.{IsErrAnd}
use Rattle.hex.proofs.HexLemmas.{decode_of-even, decode_sized-twice}
use Rattle.text.specs.declared.fault.TextFault.{TextFault}
use Rattle.text.specs.declared.fault.TextFault.TheVariants.{OddLength as Odd, NoDigit}
use Rattle.text.specs.Hex.{decoded, fault_of}

-- one byte more in front
abbrev pub more : ℕ → Result (List ℕ) TextFault → Result (List ℕ) TextFault
more x (Ok xs) = Ok (x ∷ xs)
more x (Err f) = Err f

-- bytes in front
abbrev pub prepend : List ℕ → Result (List ℕ) TextFault → Result (List ℕ) TextFault
prepend xs (Ok ys) = Ok (xs ++ ys)
prepend xs (Err f) = Err f

-- the first part's answer, and where that has bytes the second's behind them
abbrev pub after : Result (List ℕ) TextFault → Result (List ℕ) TextFault → Result (List ℕ) TextFault
after (Ok xs) r = prepend xs r
after (Err f) r = Err f

abbrev pub told_pair : Option ℕ → Option ℕ → ℕ → ℕ → Result (List ℕ) TextFault → Result (List ℕ) TextFault
told_pair (Some a) (Some b) h l r = more (a * 16 + b) r
told_pair (Some a) None h l r = Err (NoDigit l)
told_pair None p h l r = Err (NoDigit h)

-- what the pairs decode to, without the place of a wrong digit
unfoldable pub told : List ℕ → Result (List ℕ) TextFault
told [] = Ok []
told (d ∷ []) = Err Odd
told (h ∷ l ∷ rest) = told_pair (hex_digit_value h) (hex_digit_value l) h l (told rest)

pair_told : (i h l : ℕ) (o p : Option ℕ) (r : Result (List ℕ) FromHexError)
    → decoded ((digit_or_error h i o >>= (λ a. digit_or_error l (i + 1) p >>= (λ b. Ok (a * 16 + b)))) >>= (λ byte. r >>= (λ bytes. Ok (byte ∷ bytes)))) ≡ told_pair o p h l (decoded r)
pair_told i h l (Some a) (Some b) (Ok xs) = refl
pair_told i h l (Some a) (Some b) (Err e) = refl
pair_told i h l (Some a) None r = refl
pair_told i h l None p r = refl

pub told_is : (i : ℕ) (s : List ℕ) → decoded (decode_pairs i s) ≡ told s
unfolding told decode_pairs
told_is i [] = refl
told_is i (d ∷ []) = refl
told_is i (h ∷ l ∷ rest) =
    pair_told i h l (hex_digit_value h) (hex_digit_value l) (decode_pairs (i + 2) rest)
    ∙ ap (told_pair (hex_digit_value h) (hex_digit_value l) h l) (told_is (i + 2) rest)

prepend_none : (r : Result (List ℕ) TextFault) → r ≡ prepend [] r
prepend_none (Ok xs) = refl
prepend_none (Err f) = refl

more_after : (x : ℕ) (a b : Result (List ℕ) TextFault) → more x (after a b) ≡ after (more x a) b
more_after x (Ok xs) (Ok ys) = refl
more_after x (Ok xs) (Err f) = refl
more_after x (Err f) b = refl

pair_after : (h l : ℕ) (o p : Option ℕ) (a b : Result (List ℕ) TextFault) → told_pair o p h l (after a b) ≡ after (told_pair o p h l a) b
pair_after h l (Some x) (Some y) a b = more_after (x * 16 + y) a b
pair_after h l (Some x) None a b = refl
pair_after h l None p a b = refl

pub told_append : (a b : List ℕ) → length a % 2 ≡ 0 → told (a ++ b) ≡ after (told a) (told b)
unfolding told
told_append [] b even = prepend_none (told b)
told_append (d ∷ []) b even = absurd (omega arith)
told_append (h ∷ l ∷ rest) b even =
    ap (told_pair (hex_digit_value h) (hex_digit_value l) h l) (told_append rest b (omega arith))
    ∙ pair_after h l (hex_digit_value h) (hex_digit_value l) (told rest) (told b)

prepend_twice : (xs ys : List ℕ) (r : Result (List ℕ) TextFault) → prepend xs (prepend ys r) ≡ prepend (xs ++ ys) r
prepend_twice xs ys (Ok zs) = ap Ok (sym (append_assoc xs ys zs))
prepend_twice xs ys (Err f) = refl

-- a part that has bytes
pub part_read : (all chunk rest so_far bytes : List ℕ) → length chunk % 2 ≡ 0 → all ≡ chunk ++ rest → decoded (decode_of chunk) ≡ Ok bytes
    → prepend so_far (told all) ≡ prepend (so_far ++ bytes) (told rest)
part_read all chunk rest so_far bytes even parts read =
    let of_chunk : told chunk ≡ Ok bytes = sym (told_is 0 chunk) ∙ ap decoded (sym (decode_of-even chunk even)) ∙ read in
    ap (λ (s : List ℕ). prepend so_far (told s)) parts
    ∙ ap (prepend so_far) (told_append chunk rest even ∙ ap (λ (r : Result (List ℕ) TextFault). after r (told rest)) of_chunk)
    ∙ prepend_twice so_far bytes (told rest)

-- a part with a wrong digit
pub part_refused : (all chunk rest so_far : List ℕ) (f : TextFault) → length chunk % 2 ≡ 0 → all ≡ chunk ++ rest → decoded (decode_of chunk) ≡ Err f
    → prepend so_far (told all) ≡ Err f
part_refused all chunk rest so_far f even parts read =
    let of_chunk : told chunk ≡ Err f = sym (told_is 0 chunk) ∙ ap decoded (sym (decode_of-even chunk even)) ∙ read in
    ap (λ (s : List ℕ). prepend so_far (told s)) parts
    ∙ ap (prepend so_far) (told_append chunk rest even ∙ ap (λ (r : Result (List ℕ) TextFault). after r (told rest)) of_chunk)

-- a wrong digit in a text of an even number of digits
pub told_refused : (s : List ℕ) (f : TextFault) → length s % 2 ≡ 0 → told s ≡ Err f → decoded (decode_of s) ≡ Err f
told_refused s f even refused = ap decoded (decode_of-even s even) ∙ told_is 0 s ∙ refused

ok_of : (r : Result (List ℕ) FromHexError) (bytes : List ℕ) → decoded r ≡ Ok bytes → r ≡ Ok bytes
ok_of (Ok xs) bytes e = search rules
ok_of (Err e) bytes h = search rules

-- nothing is left to be read
pub all_read : (s rest bytes : List ℕ) → rest ≡ [] → length s % 2 ≡ 0 → prepend bytes (told rest) ≡ told s → decode_of s ≡ Ok bytes
unfolding told
all_read s rest bytes none even read =
    let here : told s ≡ Ok bytes = sym read ∙ ap (λ (r : List ℕ). prepend bytes (told r)) none ∙ ap Ok (append-nil bytes) in
    ok_of (decode_of s) bytes (ap decoded (decode_of-even s even) ∙ told_is 0 s ∙ here)

-- a part of as many digits as its room takes
pub sized : (chunk : List ℕ) (n : ℕ) → length chunk % 2 ≡ 0 → n ≡ length chunk / 2 → decode_sized chunk n ≡ decode_of chunk
sized chunk n even fits = decode_sized-twice chunk n (omega arith)

pub even_part : (all chunk rest : List ℕ) → all ≡ chunk ++ rest → length chunk ≡ min 256 (length all) → length all % 2 ≡ 0 → (length chunk % 2 ≡ 0) × (length rest % 2 ≡ 0)
even_part all chunk rest parts size even = let sum = ap length parts ∙ length-append chunk rest in (grind arith, grind arith)

pub sized_err : (d : Result (List ℕ) FromHexError) (r : Result Unit FromHexError) (out : List ℕ) (e : FromHexError)
    → MatchResult d (λ bytes. (r ≡ Ok tt) × (out ≡ bytes)) (λ x. r ≡ Err x) → r ≡ Err e → d ≡ Err e
sized_err (Ok bytes) r out e cases was = search rules
sized_err (Err x) r out e cases was = search rules

pub sized_ok : (d : Result (List ℕ) FromHexError) (r : Result Unit FromHexError) (out : List ℕ) (u : Unit)
    → MatchResult d (λ bytes. (r ≡ Ok tt) × (out ≡ bytes)) (λ x. r ≡ Err x) → r ≡ Ok u → d ≡ Ok out
sized_ok (Ok bytes) r out u cases was = ap Ok (sym cases.1)
sized_ok (Err x) r out u cases was = search rules

-- the fault that is answered
pub err_by : {A : Type 0} (r : Result A TextFault) (f : TextFault) (s : List ℕ) → IsErrAnd r (λ g. g ≡ f) → decoded (decode_of s) ≡ Err f
    → IfErr r (λ g. (g ≡ fault_of OutOfMemory) ⊎ (decoded (decode_of s) ≡ Err g))
err_by (Ok a) f s told_as refused = tt
err_by (Err g) f s told_as refused = inr (refused ∙ ap Err (sym told_as))
