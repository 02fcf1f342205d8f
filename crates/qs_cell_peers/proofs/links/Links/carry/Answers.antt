use Rattle.std.proofs.Common.{◌≡◌, ◌+◌, ◌<◌, ◌==◌, not, true, ap, arith, length, subst, sym, ◌∙◌}
use Rattle.qs_cell_peers.specs.Links.{LinksValue, into_of, is_peer_of, out_of}
use Rattle.qs_cell_peers.specs.NoEnds.{no_into, no_out}
use Rattle.qs_cell_peers.specs.Peers.{is_peer, place}
use Rattle.qs_cell_peers.proofs.Carrying.{carried_as, kept_there, read_there, written_there}
use Rattle.qs_cell_peers.proofs.Places.{peer_is}
use Rattle.qs_cell_peers.proofs.links.Links.carry.Goals as goal
use Rattle.qs_cell_peers.proofs.links.Links.carry.Goals.{After-index_mut-2}

-- each of the two nodes is a peer of the other, in its place
its : (c : After-index_mut-2) → is_peer (length c.from.inside.out.items + 1) c.from.inside.me.0 c.self.inside.me.0 ≡ true
its c = rw (← c.from.view_is, ← c.self.view_is) at c.requires.its

mine : (c : After-index_mut-2) → is_peer (length c.self.inside.into.items + 1) c.self.inside.me.0 c.from.inside.me.0 ≡ true
mine c = rw c.self.invariant.both (rw (← c.from.view_is, ← c.self.view_is) at c.requires.peer)

there_is : (c : After-index_mut-2) → c.place_of-there.result ≡ place c.from.inside.me.0 c.self.inside.me.0
there_is c = c.place_of-there.ensures ∙ ap (place c.from.inside.me.0) c.from-2.ensures

here_is : (c : After-index_mut-2) → c.place_of-here.result ≡ place c.self.inside.me.0 c.from.inside.me.0
here_is c = c.place_of-here.ensures ∙ ap (place c.self.inside.me.0) c.from-3.ensures

pub returns-clause-carried : goal.returns-clause-carried
returns-clause-carried c =
    let i = (goal.at.returns-clause-carried c).After-index_mut-2 in
    let low : c.self.inside.me.0 < length c.self.inside.into.items + 1 = omega (arith, c.self.invariant.in_run, c.self.invariant.both) in
    rw (← c.from.view_is, ← c.self.view_is) (carried_as c.carry_link.result _ _ _ _ _ _ _ _
    (read_there c.from.inside.out.items c.from.inside.me.0 c.self.inside.me.0 c.place_of-there.result c.index_mut.result.now no_out c.from.invariant.in_run (its i) (there_is i) c.index_mut.ensures.value)
    (written_there c.from.inside.out.items c.from.inside.me.0 c.self.inside.me.0 c.place_of-there.result c.carry_link.new.from no_out c.from.invariant.in_run (its i) (there_is i))
    (read_there c.self.inside.into.items c.self.inside.me.0 c.from.inside.me.0 c.place_of-here.result c.index_mut-2.result.now no_into low (mine i) (here_is i) c.index_mut-2.ensures.value)
    (written_there c.self.inside.into.items c.self.inside.me.0 c.from.inside.me.0 c.place_of-here.result c.carry_link.new.to no_into low (mine i) (here_is i))
    (record {
      lane = c.carry_link.ensures.lane;
      feed = c.carry_link.ensures.feed;
      draw = c.carry_link.ensures.draw;
      carried = c.carry_link.ensures.carried;
      front = c.carry_link.ensures.front;
      all = c.carry_link.ensures.all;
      held = c.carry_link.ensures.held;
      fifo = c.carry_link.ensures.fifo;
    }))

pub returns-clause-own_into : goal.returns-clause-own_into
returns-clause-own_into c = λ m peer_m other.
    let i = (goal.at.returns-clause-own_into c).After-index_mut-2 in
    let apart = (peer_is (length c.self.inside.out.items + 1) c.self.inside.me.0 m (subst (λ (v : LinksValue). is_peer_of v m ≡ true) (sym c.self.view_is) peer_m)).1 in
    kept_there c.self.inside.into.items c.self.inside.me.0 c.from.inside.me.0 c.place_of-here.result c.carry_link.new.to no_into (mine i) (here_is i) m apart
    (subst (λ (v : LinksValue). not (m == v.me.0) ≡ true) (sym c.from.view_is) other)
    ∙ ap (λ (v : LinksValue). into_of v m) c.self.view_is

pub returns-clause-its_out : goal.returns-clause-its_out
returns-clause-its_out c = λ m peer_m other.
    let i = (goal.at.returns-clause-its_out c).After-index_mut-2 in
    let apart = (peer_is (length c.from.inside.out.items + 1) c.from.inside.me.0 m (subst (λ (v : LinksValue). is_peer_of v m ≡ true) (sym c.from.view_is) peer_m)).1 in
    kept_there c.from.inside.out.items c.from.inside.me.0 c.self.inside.me.0 c.place_of-there.result c.carry_link.new.from no_out (its i) (there_is i) m apart
    (subst (λ (v : LinksValue). not (m == v.me.0) ≡ true) (sym c.self.view_is) other)
    ∙ ap (λ (v : LinksValue). out_of v m) c.from.view_is
