-- What follows of every lawful mode.
use Rattle.std.proofs.Common.{◌≡◌, ℕ, List, length, Some, sym, ap, ◌∙◌}
use Rattle.mode.specs.declared.set.ParameterSet.{ParameterSet}
use Rattle.mode.specs.Meaning.{Meaning, Headed, Admitted, Lawful}

pub headed : (m : Meaning) (s : ParameterSet) (N A X : List ℕ) → Admitted m s N A X → Headed m s N A
headed m s N A X h = record { code = h.code; width = h.width; nonce = h.nonce; label = h.label }

-- what opening gives is as long as the ciphertext
pub opened_length : (m : Meaning) → Lawful m → (s : ParameterSet) (N A C T M : List ℕ) → Admitted m s N A C → length T ≡ s.tag → m.opening s N A C T ≡ Some M → length M ≡ length C
opened_length m law s N A C T M h t e =
    sym (law.long s N A M (headed m s N A C h)) ∙ ap (λ x. length x.ciphertext) (law.undoes s N A C T M h t e)
