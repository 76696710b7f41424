use Rattle.std.proofs.Common.{◌≡◌, ℕ, ◌-◌, ◌*◌, ◌%◌, ◌^◌, ◌<◌, ◌≤◌, min, ap, ◌∙◌, mod-eq_of_lt, one-mul, arith, pow_mono, rules}
use Rattle.std.proofs.lemmas.Nat.{pow_below}
use Rattle.link.proofs.numbers.last_number.Goals as goal

-- the power stands between 2^8 and 2^48
pub returns : goal.returns
returns c =
    let k : ℕ = 8 * c.min-bits.result in
    let e : c.min-bits.result ≡ min c.args.set.now.nonce 6 = search rules in
    let least : 7 < k = omega arith in
    let low : 2 ^ 7 < 2 ^ k = pow_below 7 k least in
    let most : k ≤ 48 = omega arith in
    let high : 2 ^ k ≤ 2 ^ 48 = pow_mono most in
    let whole : 1 * 2 ^ k % 18446744073709551616 ≡ 2 ^ k = mod-eq_of_lt (omega arith) ∙ one-mul (2 ^ k) in
    record { is = ap (λ n. n - 1) (whole ∙ ap (λ m. 2 ^ (8 * m)) e); small = (omega arith, omega arith) }
