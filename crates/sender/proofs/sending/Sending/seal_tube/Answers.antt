use Rattle.std.proofs.Common.{◌+◌, ◌-◌, length, take, drop, refl, ap, ◌∙◌}
use Rattle.mode.specs.Sealing.{seal_out, seal_tag}
use Rattle.sender.proofs.Sizes.{zeros}
use Rattle.sender.proofs.Tubes.{seal_accepted, tube_there}
use Rattle.sender.proofs.sending.Sending.seal_tube.Goals as goal

pub returns-clause-out : goal.returns-clause-out
returns-clause-out g c =
    let m = g.M.Mode.meaning c.args.mode.now in
    let left = g.M.Allowance.remaining c.args.mode.now in
    let law = g.met.M.Mode.lawful c.args.mode.now in
    let s = c.args.self.now.set in
    let N = c.args.nonce.now in
    let A = c.args.label.now in
    let M = c.args.contents.now in
    let out = c.args.out.now in
    let at = 18 + length N + length A in
    let size = c.tag.result in
    let k = c.requires.passes in
    let v = seal_accepted m left s N A M out c.args.self.now.next at size (length c.args.work.now) k c.requires.nonce c.requires.work refl c.tag.ensures.0 c.tag.ensures.2 in
    let eo = c.seal.ensures.out ∙ ap (λ y. seal_out y (take (at + length M - at) (drop at out))) v in
    let et = c.seal.ensures.tag ∙ ap (λ y. seal_tag y (take size zeros)) v in
    tube_there m law left s N A M c.args.self.now.next (length out) k c.requires.nonce out c.seal.new.out c.seal.new.tag c.enclose-wrote.new.out c.code.result c.param.result at refl refl eo et
    c.code.ensures.0 c.param.ensures c.enclose-wrote.ensures.out
