-- The S-box as a circuit of 115 gates and four complements (Boyar and Peralta, "A new combinational logic minimization technique with
-- applications to cryptology"), in five stages: no table is read, so no index is a secret. A stage takes words and gives words, and each
-- bit position of the words is an S-box.
use Rattle.std.specs.Prelude.{ℕ, List, [], ◌∷◌, ◌++◌}
use Rattle.bits.specs.Circuit.{Gate, xor, and, run, outs}
use Rattle.bits.specs.BytePlanes.{wires}

-- the linear layer at the top, of the eight planes, the lowest bit first: a change of basis to a tower of fields, and sums of its words
abbrev pub top_gates : List Gate
top_gates =
    xor 4 2 ∷ xor 8 2 ∷ xor 9 6 ∷ xor 10 5 ∷ xor 10 9 ∷ xor 0 5 ∷ xor 0 10 ∷ xor 5 6 ∷ xor 2 15 ∷ xor 3 10 ∷ xor 0 6 ∷
    xor 14 3 ∷ xor 0 14 ∷ xor 1 19 ∷ xor 1 14 ∷ xor 2 10 ∷ xor 2 13 ∷ xor 17 0 ∷ xor 2 1 ∷ xor 3 15 ∷ xor 15 3 ∷ xor 19 0 ∷
    xor 29 1 ∷ []

abbrev pub low_outs : List ℕ
low_outs = 10 ∷ 8 ∷ 23 ∷ 2 ∷ 17 ∷ 5 ∷ 6 ∷ 4 ∷ 7 ∷ []

abbrev pub high_outs : List ℕ
high_outs = 15 ∷ 12 ∷ 16 ∷ 21 ∷ 13 ∷ 14 ∷ 20 ∷ 22 ∷ 19 ∷ []

abbrev pub sum_outs : List ℕ
sum_outs = 9 ∷ 3 ∷ 1 ∷ 0 ∷ []

-- the words that the products take, nine and nine, and four sums
abbrev pub low : List ℕ → List ℕ
low p = outs low_outs (run top_gates (wires 8 p))

abbrev pub high : List ℕ → List ℕ
high p = outs high_outs (run top_gates (wires 8 p))

abbrev pub sums : List ℕ → List ℕ
sums p = outs sum_outs (run top_gates (wires 8 p))

-- the element of GF(2^4) whose inverse gives the inverse in GF(2^8)
abbrev pub norm_gates : List Gate
norm_gates =
    and 9 0 ∷ and 11 2 ∷ xor 0 1 ∷ and 14 5 ∷ xor 0 3 ∷ and 17 8 ∷ and 19 10 ∷ xor 0 1 ∷ and 22 13 ∷ xor 0 3 ∷ and 25 16 ∷
    and 27 18 ∷ xor 0 1 ∷ and 30 21 ∷ xor 0 3 ∷ xor 12 2 ∷ xor 11 1 ∷ xor 9 4 ∷ xor 8 3 ∷ xor 3 37 ∷ xor 3 39 ∷ xor 3 41 ∷
    xor 3 43 ∷ []

abbrev pub norm_outs : List ℕ
norm_outs = 3 ∷ 2 ∷ 1 ∷ 0 ∷ []

abbrev pub norm : List ℕ → List ℕ → List ℕ → List ℕ
norm l h s = outs norm_outs (run norm_gates (wires 9 l ++ (wires 9 h ++ wires 4 s)))

-- its inverse in GF(2^4), and sums of the bits of the inverse
abbrev pub inverse_gates : List Gate
inverse_gates =
    xor 0 1 ∷ and 1 3 ∷ xor 5 0 ∷ and 2 0 ∷ xor 0 5 ∷ xor 7 8 ∷ xor 7 4 ∷ and 0 1 ∷ xor 0 11 ∷ xor 11 0 ∷ xor 7 1 ∷
    and 14 0 ∷ xor 0 2 ∷ xor 10 1 ∷ and 9 0 ∷ xor 14 0 ∷ xor 0 3 ∷ xor 12 8 ∷ xor 13 2 ∷ xor 10 6 ∷ xor 2 3 ∷ []

abbrev pub inverse_outs : List ℕ
inverse_outs = 1 ∷ 8 ∷ 12 ∷ 2 ∷ 5 ∷ 16 ∷ 3 ∷ 0 ∷ 4 ∷ []

abbrev pub inverse : List ℕ → List ℕ
inverse t = outs inverse_outs (run inverse_gates (wires 4 t))

-- nine products of words of the top and of the inverse; all eighteen give the inverse in GF(2^8)
abbrev pub products_gates : List Gate
products_gates =
    and 9 0 ∷ and 11 2 ∷ and 13 4 ∷ and 15 6 ∷ and 17 8 ∷ and 19 10 ∷ and 21 12 ∷ and 23 14 ∷ and 25 16 ∷ []

abbrev pub products_outs : List ℕ
products_outs = 8 ∷ 7 ∷ 6 ∷ 5 ∷ 4 ∷ 3 ∷ 2 ∷ 1 ∷ 0 ∷ []

abbrev pub products : List ℕ → List ℕ → List ℕ
products y t = outs products_outs (run products_gates (wires 9 y ++ wires 9 t))

-- the linear layer at the bottom: back to the basis of the bytes, and the affine map; `ones` is a word of ones
abbrev pub bottom_gates : List Gate
bottom_gates =
    xor 16 17 ∷ xor 12 13 ∷ xor 8 16 ∷ xor 13 14 ∷ xor 7 17 ∷ xor 8 11 ∷ xor 14 15 ∷ xor 8 11 ∷ xor 15 16 ∷ xor 26 27 ∷
    xor 23 7 ∷ xor 6 3 ∷ xor 17 11 ∷ xor 17 4 ∷ xor 13 2 ∷ xor 30 3 ∷ xor 9 3 ∷ xor 13 4 ∷ xor 23 4 ∷ xor 3 2 ∷ xor 22 2 ∷
    xor 7 3 ∷ xor 11 5 ∷ xor 20 8 ∷ xor 5 4 ∷ xor 17 4 ∷ xor 20 5 ∷ xor 25 7 ∷ xor 9 2 ∷ xor 19 4 ∷ xor 1 30 ∷ xor 1 31 ∷
    xor 9 32 ∷ xor 9 33 ∷ []

abbrev pub bottom_outs : List ℕ
bottom_outs = 0 ∷ 1 ∷ 6 ∷ 7 ∷ 8 ∷ 2 ∷ 3 ∷ 12 ∷ []

abbrev pub bottom : ℕ → List ℕ → List ℕ → List ℕ
bottom ones z w = outs bottom_outs (run bottom_gates (ones ∷ (wires 9 z ++ wires 9 w)))

-- from the inverse on, and from the top on
abbrev pub finish : ℕ → List ℕ → List ℕ → List ℕ → List ℕ
finish ones l h t = bottom ones (products l t) (products h t)

abbrev pub below : ℕ → List ℕ → List ℕ → List ℕ → List ℕ
below ones l h s = finish ones l h (inverse (norm l h s))

-- the eight planes of S at each lane, of the eight planes
unfoldable pub sboxes : ℕ → List ℕ → List ℕ
sboxes ones p = below ones (low p) (high p) (sums p)
