-- The round keys as the cipher keeps them. Three times pLayer is the identity, so that of every three rounds the pLayers are left out,
-- and the S-boxes work on bits 1, 4 and 16 places apart instead. When the key of round j + 1 is added, the state is j % 3 pLayers behind
-- the one of the publication; so the key is kept that many pLayers behind, too.
use Rattle.std.specs.Prelude.{◌≡◌, ℕ, zero, suc, ◌+◌, ◌%◌, ◌<◌, List, slice_index}
use Rattle.present.specs.Present.{pLayer, round_key}
use Rattle.present.specs.Block.{number}

-- pLayer, n times
abbrev pub pLayers : ℕ → ℕ → ℕ
pLayers zero x = x
pLayers (suc n) x = pLayer (pLayers n x)

abbrev pub RoundKeys : List ℕ → List ℕ → Type 0
RoundKeys key keys = (j : ℕ) → j < 32 → pLayers (j % 3) (slice_index keys j) ≡ round_key (number key) (j + 1)
