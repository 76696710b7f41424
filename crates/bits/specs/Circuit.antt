-- Straight-line bitwise circuits as data, and their value on words.
use Rattle.std.specs.Prelude.{ℕ, List, [], ◌∷◌, map, bit_and, bit_or, bit_xor, slice_index}

-- a gate names two wires, counted from the newest
pub data Gate : Type 0 where
  xor : ℕ → ℕ → Gate
  and : ℕ → ℕ → Gate
  or : ℕ → ℕ → Gate

abbrev pub wire : List ℕ → ℕ → ℕ
wire env i = slice_index env i

abbrev pub gate : Gate → List ℕ → ℕ
gate (xor i j) env = bit_xor (wire env i) (wire env j)
gate (and i j) env = bit_and (wire env i) (wire env j)
gate (or i j) env = bit_or (wire env i) (wire env j)

abbrev pub run : List Gate → List ℕ → List ℕ
run [] env = env
run (g ∷ gs) env = run gs (gate g env ∷ env)

-- the wires with these numbers
abbrev pub outs : List ℕ → List ℕ → List ℕ
outs ks env = map (wire env) ks
