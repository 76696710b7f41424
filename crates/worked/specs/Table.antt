-- Values worked by hand, of the definitions that the library is proved against: the tweaks of CLOC, two lookups, counts of cipher runs, a
-- ledger and a tube.
use Rattle.std.specs.Prelude.{◌≡◌, ℕ, List, [], ◌∷◌, ◌++◌, length, take, Some, None, Err, codes}
use Rattle.blocks.specs.Blocks.{Bytes}
use Rattle.blocks.specs.Words.{f1, f2, g1, h}
use Rattle.mode.specs.Recommended.{recommended}
use Rattle.cloc.specs.Cloc.{cloc_of}
use Rattle.silc.specs.Silc.{silc_of}
use Rattle.ledger.specs.History.{standing_of}
use Rattle.ledger.specs.declared.standing.Standing.TheVariants.{Old, Signed, Open}
use Rattle.tube.specs.Read.{parsed}
use Rattle.tube.specs.Write.{tube_of}
use Rattle.tube.specs.declared.fault.Section.TheVariants.{Tag, Beyond}
use Rattle.tube.specs.declared.fault.TubeFault.TheVariants.{Form}

-- the words (1, 2, 4, 8), each of one byte
abbrev pub words : Bytes
words = 1 ∷ 2 ∷ 4 ∷ 8 ∷ []

-- a tube with a nonce of 6 bytes, a label of 2, contents of 3 and a tag of 4, made of free values
abbrev pub small : ℕ → ℕ → ℕ → ℕ → List ℕ
small code param x y = tube_of code param (0 ∷ 0 ∷ 0 ∷ 0 ∷ x ∷ y ∷ []) (x ∷ y ∷ []) (x ∷ y ∷ x ∷ []) (x ∷ y ∷ x ∷ y ∷ [])

pub record Worked : Type 0 where
  -- the tweaks
  pub by_f1 : f1 words ≡ 5 ∷ 10 ∷ 7 ∷ 14 ∷ []
  pub by_f2 : f2 words ≡ 2 ∷ 4 ∷ 8 ∷ 3 ∷ []
  pub by_g1 : g1 words ≡ 4 ∷ 8 ∷ 3 ∷ 6 ∷ []
  pub by_h : h words ≡ 3 ∷ 6 ∷ 12 ∷ 11 ∷ []
  -- lookups of SILC: LED-80 with n = 4 and t = 8 has param 0xda, PRESENT-80 with n = 6 and t = 5 has no set
  pub led : recommended 2 (codes "LED-80") 4 8 ≡ Some (record { code = 2; width = 8; nonce = 4; tag = 8; param = 0xda })
  pub present : recommended 2 (codes "PRESENT-80") 6 5 ≡ None
  -- cipher runs at b = 8, over every cipher: of sealing, by the lengths of label and contents
  pub cloc_none : (E : Bytes → Bytes) → (cloc_of 8 E).seal_runs 0 0 ≡ 2
  pub cloc_some : (E : Bytes → Bytes) → (cloc_of 8 E).seal_runs 8 9 ≡ 6
  pub silc_none : (E : Bytes → Bytes) → (silc_of 8 E).seal_runs 0 0 ≡ 3
  pub silc_some : (E : Bytes → Bytes) → (silc_of 8 E).seal_runs 9 9 ≡ 9
  -- and of an opening whose tag is wrong
  pub silc_wrong : (E : Bytes → Bytes) → (silc_of 8 E).refused_runs 9 9 ≡ 7
  -- the ledger with floor 0 once 70 is signed: 6 is old, 7 is not, 70 is signed
  pub six : standing_of 0 (70 ∷ []) 6 ≡ Old
  pub seven : standing_of 0 (70 ∷ []) 7 ≡ Open
  pub seventy : standing_of 0 (70 ∷ []) 70 ≡ Signed
  -- the tube: its length, and how it is refused without its last byte and with one byte more
  pub long : (code param x y : ℕ) → length (small code param x y) ≡ 37
  pub short : (code param x y : ℕ) → parsed (take 36 (small code param x y)) ≡ Err (Form Tag 33)
  pub more : (code param x y z : ℕ) → parsed (small code param x y ++ (z ∷ [])) ≡ Err (Form Beyond 37)
