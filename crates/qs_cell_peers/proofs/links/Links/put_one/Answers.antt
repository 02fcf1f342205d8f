use Rattle.std.proofs.Common.{◌≡◌, ◌+◌, true, [], ◌∷◌, length, set, subst}
use Rattle.std.proofs.lemmas.Result.{on_ok_weaker}
use Rattle.qs_cell_peers.specs.Links.{HasPut, LinksValue}
use Rattle.qs_cell_peers.specs.Peers.{is_peer, place}
use Rattle.qs_cell_peers.proofs.Putting.{links, put_there}
use Rattle.qs_cell_peers.proofs.links.Links.put_one.Goals as goal

pub returns-clause-put : goal.returns-clause-put
returns-clause-put c =
    let peer : is_peer (length c.self.inside.out.items + 1) c.self.inside.me.0 c.args.packet.now.to.0 ≡ true = cc (c.if-not-is_other.ensures, c.len.ensures, c.from-to.ensures) in
    let at : c.place_of.result ≡ place c.self.inside.me.0 c.args.packet.now.to.0 = cc (c.place_of.ensures, c.from-to.ensures) in
    on_ok_weaker c.put.result
    (λ one. subst (λ (v : LinksValue). HasPut (c.args.packet.now ∷ []) v (links c.self.inside.me (set c.self.inside.out.items c.place_of.result c.put.new.self) c.self.inside.into.items)) c.self.view_is
    (put_there c.self.inside.me c.self.inside.out.items c.self.inside.into.items c.args.packet.now c.place_of.result c.index_mut.result.now c.put.new.self c.self.invariant.in_run peer at c.index_mut.ensures.value one))
    c.put.ensures.put
