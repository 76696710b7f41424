use Rattle.std.proofs.Common.{◌≡◌, rules, [], ◌∷◌, length, length-append}
use Rattle.std.specs.Slice.Iter.{iter_rest}
use Rattle.std.specs.Iterator.Adapters.{zip_first, zip_second}
use Rattle.std.proofs.lemmas.Slice.Zip.{zip_turn}
use Rattle.blocks.proofs.Same.{same_more}
use Rattle.blocks.proofs.tag.same_bytes.Goals as goal

pub loop-x-preserved : goal.loop-x-preserved
loop-x-preserved c =
    let A = c.args.a.now in
    let B = c.args.b.now in
    let first : iter_rest (zip_first c.into_iter-x-iterator.result) ≡ A = search rules in
    let second : iter_rest (zip_second c.into_iter-x-iterator.result) ≡ B = search rules in
    let z = zip_turn A B c.loop-x.yielded c.into_iter-x-iterator.result c.loop-x.x-iterator c.next.new.self c.next.result first second c.loop-x.yielded_by (c.in-Some.x, c.in-Some.y) c.in-Some.is c.next.ensures.steps in
    let x = z.2 0 in
    let y = z.3 0 in
    let l = length-append c.loop-x.yielded ((c.in-Some.x, c.in-Some.y) ∷ []) in
    let e = same_more A B (length c.loop-x.yielded) c.loop-x.differ z.0 z.1 c.loop-x.invariant in
    cc
