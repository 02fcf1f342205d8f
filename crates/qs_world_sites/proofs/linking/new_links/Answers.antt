use Rattle.std.proofs.Common.{◌≡◌, ◌∙◌, ap, arith, List, [], ◌∷◌, ◌++◌, drop, length, subst, sym, take}
use Rattle.std.proofs.lemmas.List.{take-append-le, take_all}
use Rattle.std.proofs.lemmas.Result.{IfOk-weaker}
use Rattle.std.specs.Prelude.{◌≢◌, ℕ, Some, slice_get, vec_len}
use Rattle.qs_cell_peers.specs.Links.{LinksValue, into_of, out_of}
use Rattle.qs_world_rounds.specs.Seats.{AreLinksOf}
use Rattle.qs_world_sites.proofs.Joining.{all_joined, longer}
use Rattle.qs_world_sites.proofs.Over.{new_between, own_links}
use Rattle.qs_world_sites.specs.Linking.{AreJoined, AreLinksOver}
use Rattle.qs_world_sites.specs.Seats.{IsNewLink, plan_between}
use Rattle.qs_world_sites.specs.declared.linking.Ends.{Ends}
use Rattle.qs_world_sites.proofs.linking.new_links.Goals as goal

-- the ends are written back where they stood, and then one more comes in
written : (n : ℕ) (xs ys : List Ends) (x : Ends) (all : List Ends) → n ≡ length xs → all ≡ take n (xs ++ ys) ++ x ∷ [] → all ≡ xs ++ x ∷ []
written n xs ys x all long is = is ∙ ap (λ (l : List Ends). l ++ x ∷ []) (take-append-le n xs ys (omega arith) ∙ take_all n xs (omega arith))

pub loop-node-preserved : goal.loop-node-preserved
loop-node-preserved c =
    let others = c.join_others.new.others in
    let new = c.in_ok-new.new in
    let same : length others ≡ length c.as_mut_slice.result.now = let kept = c.join_others.auto.others in omega arith in
    let long : vec_len c.loop-node.all ≡ length others = let all = c.as_mut_slice.ensures.len in omega arith in
    let is : c.push.new.self.items ≡ others ++ new ∷ [] = written (vec_len c.loop-node.all) others (drop (length others) c.loop-node.all.items) new c.push.new.self.items long c.in_ok-push.ensures.items in
    let before = subst (AreJoined c.args.lines.now) (sym c.as_mut_slice.ensures.value) c.loop-node.invariant.joined in
    record {
      joined = subst (AreJoined c.args.lines.now) (sym is) (all_joined c.args.lines.now c.as_mut_slice.result.now others new before same c.in_ok-new.ensures);
      count =
          let more = longer others c.push.new.self.items new is in
          let all = ap length c.as_mut_slice.ensures.value in
          let was = c.loop-node.invariant.count in
          omega arith;
    }

pub returns-clause-own : goal.returns-clause-own
returns-clause-own c =
    let all = c.loop-node.all.items in
    let size : length all ≡ c.args.nodes = let was = c.loop-node.invariant.count in omega arith in
    IfOk-weaker c.as_links.result (λ w. AreLinksOver (length all) all w.items) (λ w. (n : ℕ) (links : LinksValue) → slice_get w.items n ≡ Some links → AreLinksOf c.args.nodes (record { 0 = n }) links)
    (λ w over. own_links c.args.lines.now c.args.nodes all w.items c.loop-node.invariant.joined size over) c.as_links.ensures

pub returns-clause-links : goal.returns-clause-links
returns-clause-links c =
    let all = c.loop-node.all.items in
    let size : length all ≡ c.args.nodes = let was = c.loop-node.invariant.count in omega arith in
    IfOk-weaker c.as_links.result (λ w. AreLinksOver (length all) all w.items)
    (λ w. (n m : ℕ) (a b : LinksValue) → slice_get w.items n ≡ Some a → slice_get w.items m ≡ Some b → n ≢ m → IsNewLink (plan_between n m c.args.lines.now) (out_of a m) (into_of b n))
    (λ w over. new_between c.args.lines.now c.args.nodes all w.items c.loop-node.invariant.joined size over) c.as_links.ensures
