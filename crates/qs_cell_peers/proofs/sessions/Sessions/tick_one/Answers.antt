use Rattle.std.proofs.Common.{◌≡◌, ◌+◌, ◌<◌, List, All, true, ap, length, subst, sym, ◌∙◌}
use Rattle.std.specs.Prelude.{map}
use Rattle.std.specs.List.{filter}
use Rattle.std.proofs.lemmas.List.Elements.{All-append}
use Rattle.std.proofs.lemmas.Result.{on_ok_weaker}
use Rattle.qs_packet.specs.Grammar.{IsPacket}
use Rattle.qs_packet.specs.declared.packet.Packet.{Packet}
use Rattle.qs_session.specs.Seen.{seen}
use Rattle.qs_cell_peers.specs.Peers.{goes_from, is_to}
use Rattle.qs_cell_peers.proofs.Changing.{IsRead, still_kept, with_end}
use Rattle.qs_cell_peers.proofs.Places.{is_peer_from}
use Rattle.qs_cell_peers.proofs.Sending.{all_go}
use Rattle.qs_cell_peers.proofs.Ticking.{due_behind, ticked_there}
use Rattle.qs_cell_peers.proofs.sessions.Sessions.tick_one.Goals as goal
use Rattle.qs_cell_peers.proofs.sessions.Sessions.tick_one.Goals.{After-index_mut}

read : (c : After-index_mut) → IsRead c.args.self.now c.self.inside.me c.self.inside.sessions.items c.args.number c.place_of.result c.index_mut.result.now
read c =
    let lt : c.args.number < length c.self.inside.sessions.items + 1 = rw (← c.self.view_is) at c.requires.number in
    record {
      is = c.self.view_is;
      kept = c.self.invariant;
      peer = is_peer_from (length c.self.inside.sessions.items + 1) c.self.inside.me.0 c.args.number lt (λ e. c.if-number-from.false (e ∙ sym c.from.ensures));
      at_is = c.place_of.ensures;
      old_is = c.index_mut.ensures.value;
    }

pub invariant_of-self-2 : goal.invariant_of-self-2
invariant_of-self-2 c =
    let r = read (goal.at.invariant_of-self-2 c).After-index_mut in
    still_kept _ _ _ _ _ _ r c.tick.new.session (with_end _ _ _ _ _ _ r c.tick.new.session _ c.in_ok-due.ensures.end c.tick.ensures.spelled)

pub returns-clause-ends : goal.returns-clause-ends
returns-clause-ends c = on_ok_weaker c.add_all.result (λ added. ticked_there _ _ _ _ _ _ (read (goal.at.returns-clause-ends c).After-index_mut) c.tick.new.session c.in_ok-due.ensures.end) c.add_all.ensures

pub returns-clause-packets : goal.returns-clause-packets
returns-clause-packets c =
    let r = read (goal.at.returns-clause-packets c).After-index_mut in
    on_ok_weaker c.add_all.result
    (λ added. λ m peer. ap (λ (l : List Packet). map seen (filter (is_to m) l)) added ∙ due_behind _ _ _ _ _ _ r c.args.stamp c.in_ok-due.due c.args.packets.now m c.in_ok-due.ensures.from c.in_ok-due.ensures.due)
    c.add_all.ensures

pub returns-clause-from : goal.returns-clause-from
returns-clause-from c =
    let r = read (goal.at.returns-clause-from c).After-index_mut in
    on_ok_weaker c.add_all.result
    (λ added. λ before. subst (λ (l : List Packet). All (λ p. goes_from c.args.self.now.size c.args.self.now.me.0 p ≡ true) l) (sym added) (all_go _ _ _ _ _ _ r c.in_ok-due.due c.args.packets.now c.in_ok-due.ensures.from before))
    c.add_all.ensures

pub returns-clause-spelled : goal.returns-clause-spelled
returns-clause-spelled c =
    on_ok_weaker c.add_all.result
    (λ added. λ before. subst (λ (l : List Packet). All IsPacket l) (sym added) (All-append IsPacket c.args.packets.now c.in_ok-due.due before c.in_ok-due.ensures.packets))
    c.add_all.ensures
