use Rattle.std.proofs.Common.{◌≡◌, [], get_or, ◌∙◌, rules}
use Rattle.aes.specs.Fips197.{KeyExpansion, state_of}
use Rattle.aes.specs.Rounds.{round_key, key_states}
use Rattle.aes.proofs.Steps.{states_of, key_at, keys_are}
use Rattle.aes.proofs.expanded.round_keys.Goals as goal

pub returns : goal.returns
unfolding key_states
returns g c =
    let w = KeyExpansion c.args.key.now in let bytes = g.S.State.bytes in let words = c.key_expansion.result in
    keys_are bytes (round_key w) c.map.result c.map.ensures.items.long
    (λ none i h.
    let k = (c.map.ensures.items.at i [] none h).2 in
    let e : bytes (get_or c.map.result i none) ≡ state_of (get_or words i []) = search rules in
    e ∙ key_at state_of w words (states_of w words c.key_expansion.ensures) i h [])
