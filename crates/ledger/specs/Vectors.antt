-- Worked values: with floor 0 and 70 signed, 6 is old, 7 is not, and 70 is signed.
use Rattle.std.specs.Prelude.{◌≡◌, [], ◌∷◌, refl}
use Rattle.ledger.specs.declared.standing.Standing.TheVariants.{Old, Signed, Open}
use Rattle.ledger.specs.Marks.{marked, by_marks}
use Rattle.ledger.specs.History.{standing_of}

pub six_old : standing_of 0 (70 ∷ []) 6 ≡ Old
six_old = refl

pub seven_open : standing_of 0 (70 ∷ []) 7 ≡ Open
seven_open = refl

pub seventy_signed : standing_of 0 (70 ∷ []) 70 ≡ Signed
seventy_signed = refl

-- the same by the marks of a ledger with floor 0 in which 70 was signed: they are 1, since no other of 7 to 70 is signed
pub marks_one : marked 0 18446744073709551615 70 ≡ 1
marks_one = refl

pub six_old_by_marks : by_marks 70 1 6 ≡ Old
six_old_by_marks = refl

pub seven_open_by_marks : by_marks 70 1 7 ≡ Open
seven_open_by_marks = refl

pub seventy_signed_by_marks : by_marks 70 1 70 ≡ Signed
seventy_signed_by_marks = refl

-- a number both up to the floor and 64 below the highest is old; nothing is old while the highest is below 64
pub floor_old : standing_of 5 (70 ∷ []) 3 ≡ Old
floor_old = refl

pub none_old : standing_of 0 (63 ∷ []) 0 ≡ Signed
none_old = refl
