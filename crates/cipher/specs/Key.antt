-- Setting the key of a cipher that takes keys of n bytes: one of another length is refused, and leaves the key that was set.
use Rattle.std.specs.Prelude.{ℕ, cond, List, length, Ok, Err, Result, ◌==◌}
use Rattle.cipher.specs.declared.fault.CipherFault.{CipherFault}
use Rattle.cipher.specs.declared.fault.CipherFault.TheVariants.{KeyLength}

abbrev pub key_answer : ℕ → List ℕ → Result (Unit {0}) CipherFault
key_answer n key = cond (length key == n) (Ok tt) (Err (KeyLength (length key)))

abbrev pub key_after : ℕ → List ℕ → List ℕ → List ℕ
key_after n old key = cond (length key == n) key old
