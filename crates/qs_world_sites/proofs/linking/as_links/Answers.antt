use Rattle.std.proofs.Common.{◌≡◌, List, ◌∷◌, [], ◌++◌, Some, arith, length, refl, rules, subst, sym}
use Rattle.std.proofs.lemmas.Iterator.Adapters.{YieldsList-from_vec}
use Rattle.std.proofs.lemmas.Iterator.Consumers.{YieldsList-turn}
use Rattle.std.proofs.lemmas.List.{length_push}
use Rattle.std.proofs.lemmas.Option.{slice_get_read}
use Rattle.std.specs.Prelude.{slice_get}
use Rattle.std.specs.Vec.Iter.{into_iter_len}
use Rattle.qs_cell_peers.specs.Links.{LinksValue}
use Rattle.qs_world_sites.proofs.Over.{is_over, more_over}
use Rattle.qs_world_sites.specs.Linking.{AreLinksOver}
use Rattle.qs_world_sites.proofs.linking.as_links.Goals as goal

pub loop-ends-preserved : goal.loop-ends-preserved
loop-ends-preserved c =
    let all = c.args.all.items in
    let done = c.loop-ends.yielded in
    let ends = c.in-Some.ends in
    let long : into_iter_len c.into_iter-ends-iterator.result ≡ length all = search rules in
    let turn = YieldsList-turn (YieldsList-from_vec all c.into_iter-ends-iterator.ensures.into_iter_gives.0 long) done c.loop-ends.ends-iterator c.loop-ends.yielded_by c.next.result c.next.new.self
    ends c.in-Some.is c.next.ensures.steps in
    let at : slice_get all (length done) ≡ Some ends = slice_get_read all (length all) (length done) ends refl turn.0 turn.1 in
    record {
      over = subst (AreLinksOver (length all) (done ++ ends ∷ [])) (sym {A = List LinksValue} c.in_ok-push.ensures.items)
          (more_over (length all) done c.loop-ends.links.items ends c.new.result c.loop-ends.invariant.over
          (is_over (length all) (length done) (record { 0 = c.loop-ends.me }) ends c.new.result (c.requires.wide.each (length done) ends at) c.loop-ends.invariant.number c.new.ensures.size
          c.new.ensures.me c.new.ensures.out c.new.ensures.into));
      number = let more = length_push done ends in let was = c.loop-ends.invariant.number in omega arith;
    }
