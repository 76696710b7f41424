-- Hexadecimal digits as ASCII codes.
use Rattle.std.specs.Prelude.{ℕ, ◌+◌, ◌-◌, ◌%◌, cond, Some, None, Option, nat_le, nat_lt, List, Result, Ok, Err}
use Rattle.std.specs.Allocator.{alloc_error}
use Rattle.hex.specs.declared.error.FromHexError.{FromHexError}
use Rattle.hex.specs.declared.error.FromHexError.TheVariants.{InvalidHexCharacter, OddLength, InvalidStringLength, OutOfMemory}
use Rattle.text.specs.declared.fault.TextFault.{TextFault}
use Rattle.text.specs.declared.fault.TextFault.TheVariants.{Memory, OddLength as Odd, NoDigit}

-- the value of a digit: 0 to 9, a to f, A to F
abbrev pub digit_of : ℕ → Option ℕ
digit_of c =
    cond (nat_le 48 c) (cond (nat_le c 57) (Some (c - 48))
    (cond (nat_le 97 c) (cond (nat_le c 102) (Some (c - 97 + 10)) None)
    (cond (nat_le 65 c) (cond (nat_le c 70) (Some (c - 65 + 10)) None) None))) None

-- the lower-case digit of a number, of which the lowest four bits count
abbrev pub letter_of : ℕ → ℕ
letter_of n = cond (nat_lt (n % 16) 10) (48 + n % 16) (97 + (n % 16 - 10))

-- the fault for what stops decoding: the first wrong digit, an odd number of them, no memory
abbrev pub fault_of : FromHexError → TextFault
fault_of (InvalidHexCharacter c index) = NoDigit c
fault_of OddLength = Odd
fault_of InvalidStringLength = Odd
fault_of OutOfMemory = Memory alloc_error

-- what decoding answers where there is memory
abbrev pub decoded : Result (List ℕ) FromHexError → Result (List ℕ) TextFault
decoded (Ok bytes) = Ok bytes
decoded (Err e) = Err (fault_of e)
