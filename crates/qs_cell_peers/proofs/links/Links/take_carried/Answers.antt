use Rattle.std.proofs.Common.{◌≡◌, ◌+◌, ◌<◌, ◌↔◌, [], true, ap, arith, length, subst, sym, ◌∙◌}
use Rattle.qs_link.specs.Lane.{DrawValue}
use Rattle.qs_link.specs.Link.{TookNone}
use Rattle.qs_packet.specs.declared.packet.Packet.{Packet}
use Rattle.qs_cell_peers.specs.Links.{LinksValue, into_of, is_peer_of}
use Rattle.qs_cell_peers.specs.NoEnds.{no_into}
use Rattle.qs_cell_peers.specs.Peers.{is_peer, place}
use Rattle.qs_cell_peers.proofs.Carrying.{kept_there, read_there, took_as, written_there}
use Rattle.qs_cell_peers.proofs.Places.{peer_is}
use Rattle.qs_cell_peers.proofs.links.Links.take_carried.Goals as goal
use Rattle.qs_cell_peers.proofs.links.Links.take_carried.Goals.{After-index_mut}

at_is : (c : After-index_mut) → c.place_of.result ≡ place c.self.inside.me.0 c.args.from
at_is c = c.place_of.ensures

low : (c : After-index_mut) → c.self.inside.me.0 < length c.self.inside.into.items + 1
low c = omega (arith, c.self.invariant.in_run, c.self.invariant.both)

peer : (c : After-index_mut) → is_peer (length c.self.inside.into.items + 1) c.self.inside.me.0 c.args.from ≡ true
peer c = rw c.self.invariant.both (rw (← c.self.view_is) at c.requires)

-- the end as it was
old_is : (c : After-index_mut) → into_of c.args.self.now c.args.from ≡ c.index_mut.result.now
old_is c = subst (λ (v : LinksValue). into_of v c.args.from ≡ c.index_mut.result.now) c.self.view_is
    (read_there c.self.inside.into.items c.self.inside.me.0 c.args.from c.place_of.result c.index_mut.result.now no_into (low c) (peer c) (at_is c) c.index_mut.ensures.value)

pub returns-clause-others : goal.returns-clause-others
returns-clause-others c = λ m peer_m other.
    let i = (goal.at.returns-clause-others c).After-index_mut in
    let apart = (peer_is (length c.self.inside.out.items + 1) c.self.inside.me.0 m (subst (λ (v : LinksValue). is_peer_of v m ≡ true) (sym c.self.view_is) peer_m)).1 in
    kept_there c.self.inside.into.items c.self.inside.me.0 c.args.from c.place_of.result c.take_carried.new.self no_into (peer i) (at_is i) m apart other
    ∙ ap (λ (v : LinksValue). into_of v m) c.self.view_is

pub returns-clause-took : goal.returns-clause-took
returns-clause-took c =
    let i = (goal.at.returns-clause-took c).After-index_mut in
    took_as c.take_carried.result _ _ _ _ (old_is i) (written_there c.self.inside.into.items c.self.inside.me.0 c.args.from c.place_of.result c.take_carried.new.self no_into (low i) (peer i) (at_is i))
    c.take_carried.ensures.took

pub returns-clause-none : goal.returns-clause-none
returns-clause-none c = subst (λ (x : DrawValue Packet). TookNone c.take_carried.result ↔ (x.inbox ≡ [])) (sym (old_is (goal.at.returns-clause-none c).After-index_mut)) c.take_carried.ensures.none

pub returns-clause-ring : goal.returns-clause-ring
returns-clause-ring c =
    let i = (goal.at.returns-clause-ring c).After-index_mut in
    ap (λ (x : DrawValue Packet). x.ring) (written_there c.self.inside.into.items c.self.inside.me.0 c.args.from c.place_of.result c.take_carried.new.self no_into (low i) (peer i) (at_is i))
    ∙ (c.take_carried.ensures.ring ∙ ap (λ (x : DrawValue Packet). x.ring) (sym (old_is i)))
