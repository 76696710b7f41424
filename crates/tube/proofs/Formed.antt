-- What is read was written: a tube reads exactly where the bytes are the writing of its sections.
use Rattle.std.proofs.Common.{◌≡◌, ℕ, ◌+◌, ◌*◌, ◌/◌, ◌%◌, ◌<◌, List, [], ◌∷◌, ◌++◌, length, get_or, take, drop, Ok, sym, refl, ap, ◌∙◌, arith}
use Rattle.std.proofs.lemmas.List.{drop_more, drop-drop, drop_all, take-append-drop, append-nil}
use Rattle.tube.specs.declared.span.Span.{Span}
use Rattle.tube.specs.declared.tube.Tube.{Tube}
use Rattle.tube.specs.Part.{part}
use Rattle.tube.specs.Write.{four, sectioned}
use Rattle.tube.specs.Read.{parsed}
use Rattle.tube.specs.Form.{Iff, Reads, Rewritten}
use Rattle.tube.proofs.Parts.{length_part}
use Rattle.tube.proofs.Past.{Found, Five, parsed_five}
use Rattle.tube.proofs.Sections.{reads_back}

tube_same : (c c' p p' k k' n n' m m' a a' l l' b b' o o' s s' t t' : ℕ) → c ≡ c' → p ≡ p' → k ≡ k' → n ≡ n' → m ≡ m' → a ≡ a' → l ≡ l' → b ≡ b' → o ≡ o' → s ≡ s' → t ≡ t'
    → ◌≡◌ {A = Tube} (record { code = c; param = p; number = k; nonce = record { at = n; len = m }; label = record { at = a; len = l }; contents = record { at = b; len = o }; tag = record { at = s; len = t } })
    (record { code = c'; param = p'; number = k'; nonce = record { at = n'; len = m' }; label = record { at = a'; len = l' }; contents = record { at = b'; len = o' }; tag = record { at = s'; len = t' } })
tube_same c c' p p' k k' n n' m m' a a' l l' b b' o o' s s' t t' e1 e2 e3 e4 e5 e6 e7 e8 e9 e10 e11 = cc

-- four bytes are the count that they make
four_back : (w x y z n : ℕ) → w < 256 → x < 256 → y < 256 → z < 256 → n ≡ ((w * 256 + x) * 256 + y) * 256 + z → four n ≡ w ∷ x ∷ y ∷ z ∷ []
four_back w x y z n hw hx hy hz e =
    let e1 : n / 16777216 ≡ w = omega arith in
    let e2 : n / 65536 % 256 ≡ x = omega arith in
    let e3 : n / 256 % 256 ≡ y = omega arith in
    let e4 : n % 256 ≡ z = omega arith in
    cc

module _ (bytes : List ℕ) (byte : (i : ℕ) → get_or bytes i 0 < 256) where
  -- one byte more of what is left
  next : (i j : ℕ) → j ≡ i + 1 → i < length bytes → drop i bytes ≡ get_or bytes i 0 ∷ drop j bytes
  next i j e h = drop_more bytes i 0 h ∙ ap (λ k. get_or bytes i 0 ∷ drop k bytes) (sym e)

  -- a section that is found stands there after its count
  section_back : (place low high : ℕ) (s : Span) → Found bytes place low high s → drop place bytes ≡ sectioned (part bytes s) ++ drop (s.at + s.len) bytes
  section_back place low high s f =
      let b0 = get_or bytes place 0 in
      let b1 = get_or bytes (place + 1) 0 in
      let b2 = get_or bytes (place + 2) 0 in
      let b3 = get_or bytes (place + 3) 0 in
      let body = part bytes s in
      let front : drop place bytes ≡ b0 ∷ b1 ∷ b2 ∷ b3 ∷ drop s.at bytes =
      next place (place + 1) refl (omega (arith, f.at, f.inside))
      ∙ ap (λ x. b0 ∷ x) (next (place + 1) (place + 2) (omega arith) (omega (arith, f.at, f.inside)))
      ∙ ap (λ x. b0 ∷ b1 ∷ x) (next (place + 2) (place + 3) (omega arith) (omega (arith, f.at, f.inside)))
      ∙ ap (λ x. b0 ∷ b1 ∷ b2 ∷ x) (next (place + 3) s.at (omega (arith, f.at)) (omega (arith, f.at, f.inside))) in
      let e : four (length body) ≡ b0 ∷ b1 ∷ b2 ∷ b3 ∷ [] =
      four_back b0 b1 b2 b3 (length body) (byte place) (byte (place + 1)) (byte (place + 2)) (byte (place + 3)) (length_part bytes s f.inside ∙ f.len) in
      let rest : drop s.at bytes ≡ body ++ drop (s.at + s.len) bytes =
      sym (take-append-drop s.len (drop s.at bytes)) ∙ ap (λ x. body ++ x) (drop-drop s.len s.at bytes) in
      front ∙ ap (λ x. b0 ∷ b1 ∷ b2 ∷ b3 ∷ x) rest ∙ ap (λ x. (x ++ body) ++ drop (s.at + s.len) bytes) (sym e)

  module _ (t : Tube) (f : Five bytes t) where
    -- the first section is code and param
    start_is : part bytes f.start ≡ t.code ∷ t.param ∷ []
    start_is =
        let at : f.start.at ≡ 4 = f.one.at in
        let two : f.start.len ≡ 2 = omega (arith, f.one.least, f.one.most) in
        let i = f.start.at in
        ap (λ k. take k (drop i bytes)) two
        ∙ ap (take 2) (next i (i + 1) refl (omega (arith, f.one.inside)) ∙ ap (λ x. get_or bytes i 0 ∷ x) (next (i + 1) (i + 2) (omega arith) (omega (arith, f.one.inside))))
        ∙ ap (λ x. x ∷ get_or bytes (i + 1) 0 ∷ []) (sym f.code) ∙ ap (λ x. t.code ∷ x ∷ []) (sym f.param)

    -- what is read is the writing of its sections
    rewritten : Rewritten t bytes
    rewritten =
        let N = part bytes t.nonce in
        let A = part bytes t.label in
        let C = part bytes t.contents in
        let G = part bytes t.tag in
        let k1 = section_back 0 2 2 f.start f.one in
        let k2 = section_back (f.start.at + f.start.len) 1 16 t.nonce f.two in
        let k3 = section_back (t.nonce.at + t.nonce.len) 0 4096 t.label f.three in
        let k4 = section_back (t.label.at + t.label.len) 0 1048576 t.contents f.four in
        let k5 = section_back (t.contents.at + t.contents.len) 1 16 t.tag f.five in
        let last : drop (t.contents.at + t.contents.len) bytes ≡ sectioned G =
        k5 ∙ ap (λ x. sectioned G ++ x) (drop_all (t.tag.at + t.tag.len) bytes (omega (arith, f.end))) ∙ append-nil (sectioned G) in
        let all : bytes ≡ sectioned (part bytes f.start) ++ (sectioned N ++ (sectioned A ++ (sectioned C ++ sectioned G))) =
        k1 ∙ ap (λ x. sectioned (part bytes f.start) ++ x) (k2 ∙ ap (λ x. sectioned N ++ x) (k3 ∙ ap (λ x. sectioned A ++ x) (k4 ∙ ap (λ x. sectioned C ++ x) last))) in
        sym (all ∙ ap (λ u. sectioned u ++ (sectioned N ++ (sectioned A ++ (sectioned C ++ sectioned G)))) start_is)

    told : Reads bytes t
    told =
        let l_n : length (part bytes t.nonce) ≡ t.nonce.len = length_part bytes t.nonce f.two.inside in
        let l_a : length (part bytes t.label) ≡ t.label.len = length_part bytes t.label f.three.inside in
        let l_c : length (part bytes t.contents) ≡ t.contents.len = length_part bytes t.contents f.four.inside in
        let lG : length (part bytes t.tag) ≡ t.tag.len = length_part bytes t.tag f.five.inside in
        let at1 : f.start.at + f.start.len ≡ 6 = omega (arith, f.one.at, f.one.least, f.one.most) in
        let at2 : t.nonce.at ≡ 10 = omega (arith, at1, f.two.at) in
        let at3 : t.label.at ≡ 14 + length (part bytes t.nonce) = omega (arith, at2, f.three.at, l_n) in
        let at4 : t.contents.at ≡ 18 + length (part bytes t.nonce) + length (part bytes t.label) = omega (arith, at3, f.four.at, l_a) in
        let at5 : t.tag.at ≡ 22 + length (part bytes t.nonce) + length (part bytes t.label) + length (part bytes t.contents) = omega (arith, at4, f.five.at, l_c) in
        record {
          nonce = part bytes t.nonce;
          label = part bytes t.label;
          ciphertext = part bytes t.contents;
          tag = part bytes t.tag;
          is = sym rewritten;
          ranged = record {
            nonces = (omega (arith, f.two.least, l_n), omega (arith, f.two.most, l_n));
            labels = omega (arith, f.three.most, l_a);
            bodies = omega (arith, f.four.most, l_c);
            tags = (omega (arith, f.five.least, lG), omega (arith, f.five.most, lG));
          };
          tells = tube_same _ _ _ _ _ _ _ _ _ _ _ _ _ _ _ _ _ _ _ _ _ _ refl refl f.number at2 (sym l_n) at3 (sym l_a) at4 (sym l_c) at5 (sym lG);
        }

  pub backward : (t : Tube) → parsed bytes ≡ Ok t → Reads bytes t
  backward t q = told t (parsed_five bytes t q)

  pub parsed_rewritten : (t : Tube) → parsed bytes ≡ Ok t → Rewritten t bytes
  parsed_rewritten t q = rewritten t (parsed_five bytes t q)

pub forward : (bytes : List ℕ) (t : Tube) → Reads bytes t → parsed bytes ≡ Ok t
forward bytes t r =
    ap parsed r.is ∙ (reads_back t.code t.param r.nonce r.label r.ciphertext r.tag r.ranged).reads ∙ ap Ok (sym r.tells)

-- a tube is read exactly where the bytes are its five sections
pub formed : (bytes : List ℕ) → ((i : ℕ) → get_or bytes i 0 < 256) → (t : Tube) → Iff (parsed bytes ≡ Ok t) (Reads bytes t)
formed bytes byte t = (backward bytes byte t, forward bytes t)
