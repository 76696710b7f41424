use Rattle.std.proofs.Common.{◌≡◌, get_or, sym, ap, ◌∙◌, subst, arith}
use Rattle.aes.specs.Sbox.{S, AffineOfInverse}
use Rattle.aes.specs.Fips197.{SubBytes}
use Rattle.aes.proofs.Inverse.{S_law}
use Rattle.aes_circuit.proofs.sbox.sub_byte.Goals as goal

pub returns : goal.returns
returns c =
    let s = c.to_bytes.ensures ∙ c.sub_bytes.ensures ∙ ap SubBytes c.of_bytes.ensures in
    let e : get_or c.to_bytes.result 0 0 ≡ S c.args.byte = ap (λ l. get_or l 0 0) s in
    record { is = e; law = subst (AffineOfInverse c.args.byte) (sym e) (S_law c.args.byte (omega arith)) }
