-- The four test vectors of the publication for keys of 80 bits.
use Rattle.std.specs.Prelude.{◌≡◌, [], ◌∷◌, replicate, refl}
use Rattle.present.specs.Present.{encrypt, rounds, round_key, register, pLayer, sBoxLayer}
use Rattle.present.specs.Block.{present80, number_from}

-- key 0, plaintext 0
pub vector_1 : present80 (replicate 10 0) (replicate 8 0) ≡ 0x55 ∷ 0x79 ∷ 0xC1 ∷ 0x38 ∷ 0x7B ∷ 0x22 ∷ 0x84 ∷ 0x45 ∷ []
unfolding present80 encrypt rounds round_key register pLayer sBoxLayer number_from
vector_1 = refl

-- key all ones, plaintext 0
pub vector_2 : present80 (replicate 10 0xFF) (replicate 8 0) ≡ 0xE7 ∷ 0x2C ∷ 0x46 ∷ 0xC0 ∷ 0xF5 ∷ 0x94 ∷ 0x50 ∷ 0x49 ∷ []
unfolding present80 encrypt rounds round_key register pLayer sBoxLayer number_from
vector_2 = refl

-- key 0, plaintext all ones
pub vector_3 : present80 (replicate 10 0) (replicate 8 0xFF) ≡ 0xA1 ∷ 0x12 ∷ 0xFF ∷ 0xC7 ∷ 0x2F ∷ 0x68 ∷ 0x41 ∷ 0x7B ∷ []
unfolding present80 encrypt rounds round_key register pLayer sBoxLayer number_from
vector_3 = refl

-- key all ones, plaintext all ones
pub vector_4 : present80 (replicate 10 0xFF) (replicate 8 0xFF) ≡ 0x33 ∷ 0x33 ∷ 0xDC ∷ 0xD3 ∷ 0x21 ∷ 0x32 ∷ 0x10 ∷ 0xD2 ∷ []
unfolding present80 encrypt rounds round_key register pLayer sBoxLayer number_from
vector_4 = refl
