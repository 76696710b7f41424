-- What is left after runs that are counted.
use Rattle.std.proofs.Common.{◌≡◌, ℕ, ◌+◌, ◌-◌, ◌≤◌, sym, ◌∙◌, inl, inr, arith}
use Rattle.std.proofs.lemmas.Bool.{cases_eq}
use Rattle.cipher.specs.Left.{no_end, spent}
use Rattle.receiver.specs.Trace.{Counted}
use Rattle.receiver.proofs.Tables.{spent_end, spent_less}

pub counted_step : (start c left n : ℕ) → start ≤ no_end → Counted start c left → n ≤ left → Counted start (c + n) (spent left n)
counted_step start c left n b f h =
    elim (cases_eq start no_end) [
      | inl e ↦ record { is = spent_end left n (f.is ∙ spent_end start c e) ∙ sym (spent_end start (c + n) e); most = λ ne. absurd (ne e) }
      | inr ne ↦
          let k = f.most ne in
          let l : left ≡ start - c = f.is ∙ spent_less start c ne in
          let ne' : left ≡ no_end → ⊥ = λ e. ne (omega arith) in
          let a : left - n ≡ start - (c + n) = omega arith in
          record { is = spent_less left n ne' ∙ a ∙ sym (spent_less start (c + n) ne); most = λ _. omega arith }
    ]

pub counted_none : (start : ℕ) → Counted start 0 start
counted_none start =
    elim (cases_eq start no_end) [
      | inl e ↦ record { is = e ∙ sym (spent_end start 0 e); most = λ ne. absurd (ne e) }
      | inr ne ↦ let a : start ≡ start - 0 = omega arith in record { is = a ∙ sym (spent_less start 0 ne); most = λ _. omega arith }
    ]
