-- The tube of a send that passed its checks.
use Rattle.std.proofs.Common.{◌≡◌, ℕ, ◌+◌, ◌-◌, ◌≤◌, true, List, ◌++◌, length, take, drop, sym, refl, ap, ◌∙◌, subst, arith}
use borrow.Rule.Slice.PartMut.{put_mid}
use Rattle.std.proofs.lemmas.List.{take_at}
use Rattle.std.proofs.lemmas.Bool.{cond-true}
use Rattle.mode.specs.declared.set.ParameterSet.{ParameterSet}
use Rattle.mode.specs.Meaning.{Meaning, Admitted, Lawful}
use Rattle.mode.specs.Sealing.{seal_verdict, sealed}
use Rattle.mode.proofs.Seals.{seal_passes}
use Rattle.tube.specs.Form.{Ranged, ReadsBack}
use Rattle.tube.specs.Put.{fits, enclosed, Laid}
use Rattle.tube.specs.Write.{size_of, nonce_of}
use Rattle.tube.proofs.Laying.{laid_mid, enclosed_written, fits_from}
use Rattle.tube.proofs.Numbers.{nonce_length, nonce_value}
use Rattle.tube.proofs.Sections.{tube_length, reads_back}
use Rattle.sender.specs.Carry.{Carries}
use Rattle.sender.specs.Send.{Passes, tube_size, sealed_tube}
use Rattle.sender.proofs.Sizes.{zeros, lent_length, part_length, put_length, number_fits}

-- the seal inside a send is accepted: the place of the ciphertext and the tag part have the lengths wanted
pub seal_accepted : (m : Meaning) (left : ℕ) (s : ParameterSet) (N A M out : List ℕ) (k at size work : ℕ) → Passes m left s k (length A) (length M) (length out)
    → length N ≡ s.nonce → work ≡ 64 → at ≡ 18 + length N + length A → size ≡ s.tag → size ≤ 16
    → seal_verdict m left s N A M (length (take (at + length M - at) (drop at out))) (length (take size zeros)) work ≡ sealed (m.sealing s N A M) (m.seal_runs (length A) (length M))
seal_accepted m left s N A M out k at size work h n w e t l =
    seal_passes m left s N A M (length (take (at + length M - at) (drop at out))) (length (take size zeros)) work w
    (record {
      codes = h.codes;
      widths = h.widths;
      nonces = n;
      labels = h.labels;
      texts = h.texts;
      outs = part_length at (length M) out (omega (arith, h.rooms, e, n));
      tags = lent_length size l ∙ t;
    })
    h.runs

module _ (m : Meaning) (law : Lawful m) (left : ℕ) (s : ParameterSet) (N A M : List ℕ) (k room : ℕ) (h : Passes m left s k (length A) (length M) room) (n : length N ≡ s.nonce) where
  abbrev C : List ℕ
  C = (m.sealing s N A M).ciphertext

  abbrev T : List ℕ
  T = (m.sealing s N A M).tag

  admitted : Admitted m s N A M
  admitted = record { code = h.codes; width = h.widths; nonce = n; label = h.labels; contents = h.texts }

  pub cipher_length : length C ≡ length M
  cipher_length = law.long s N A M (record { code = h.codes; width = h.widths; nonce = n; label = h.labels })

  pub tag_length : length T ≡ s.tag
  tag_length = law.tagged s N A M admitted

  ranged : Ranged (length N) (length A) (length C) (length T)
  ranged = record {
    nonces = (omega (arith, n, s.nonces.0), omega (arith, n, s.nonces.1, s.widths.1));
    labels = h.labels;
    bodies = omega (arith, cipher_length, h.texts);
    tags = (omega (arith, tag_length, s.tags.0), omega (arith, tag_length, s.tags.1, s.widths.1));
  }

  size_is : size_of (length N) (length A) (length C) (length T) ≡ tube_size s (length A) (length M)
  size_is = omega (arith, n, cipher_length, tag_length)

  -- a tube has the length that its send answers
  pub sealed_length : length (sealed_tube m s N A M) ≡ tube_size s (length A) (length M)
  sealed_length = tube_length s.code s.param N A C T ∙ size_is

  fit : fits (length N) (length A) (length C) (length T) room ≡ true
  fit = fits_from (length N) (length A) (length C) (length T) room ranged (omega (arith, size_is, h.rooms))

  -- the ciphertext in its place, and the rest written around it
  module _ (out ys tag after : List ℕ) (code param at : ℕ) (same : room ≡ length out) (here : at ≡ 18 + length N + length A) (y : ys ≡ C) (t : tag ≡ T) where
    abbrev mid : List ℕ
    mid = put_mid at (at + length M - at) out ys

    long : length ys ≡ at + length M - at
    long = ap length y ∙ cipher_length ∙ omega arith

    mid_length : length mid ≡ length out
    mid_length = put_length at (at + length M - at) out ys (omega (arith, h.rooms, same, here, n)) long

    pub tube_there : code ≡ s.code → param ≡ s.param → after ≡ enclosed code param N A (length M) tag mid
        → after ≡ sealed_tube m s N A M ++ drop (tube_size s (length A) (length M)) out
    tube_there c p e =
        let f : fits (length N) (length A) (length C) (length T) (length out) ≡ true = ap (fits (length N) (length A) (length C) (length T)) (sym same) ∙ fit in
        let laid : Laid at C out mid = subst (λ x. Laid at x out mid) y (laid_mid at (at + length M - at) out ys long) in
        e ∙ ap (λ x. enclosed x param N A (length M) tag mid) c ∙ ap (λ x. enclosed s.code x N A (length M) tag mid) p
        ∙ ap (λ x. enclosed s.code s.param N A (length M) x mid) t ∙ ap (λ x. enclosed s.code s.param N A x T mid) (sym cipher_length)
        ∙ enclosed_written s.code s.param N A C T out mid at here mid_length f laid
        ∙ cond-true (fits (length N) (length A) (length C) (length T) (length out)) _ _ f
        ∙ ap (λ x. sealed_tube m s N A M ++ drop x out) size_is

-- what was sent carries its label and contents under its number
pub carries : (m : Meaning) → Lawful m → (left : ℕ) (s : ParameterSet) (k : ℕ) (A M : List ℕ) (room : ℕ) → Passes m left s k (length A) (length M) room → 1 ≤ k
    → (len : ℕ) (after out : List ℕ) → len ≡ tube_size s (length A) (length M)
    → after ≡ sealed_tube m s (nonce_of s.nonce k) A M ++ drop (tube_size s (length A) (length M)) out → Carries m s k A M (take len after)
carries m law left s k A M room h low len after out l e =
    let N = nonce_of s.nonce k in
    let n : length N ≡ s.nonce = nonce_length s.nonce k in
    let c = (m.sealing s N A M).ciphertext in
    let t = (m.sealing s N A M).tag in
    let W = sealed_tube m s N A M in
    let w : take len after ≡ W = ap (take len) e ∙ take_at W (drop (tube_size s (length A) (length M)) out) len (sealed_length m law left s N A M k room h n ∙ sym l) in
    let P : List ℕ → Type 0 = λ x. ReadsBack s.code s.param N A c t x in
    record {
      ciphertext = c;
      tag = t;
      seals = refl;
      is = w;
      reads = subst P (sym w) (reads_back s.code s.param N A c t (ranged m law left s N A M k room h n));
      number = nonce_value s.nonce k (number_fits s k h.numbers);
      range = (low, h.numbers);
      opens = law.gives s N A c t M (admitted m law left s N A M k room h n) (tag_length m law left s N A M k room h n) refl;
    }
