use Rattle.std.proofs.Common.{◌≡◌, ◌+◌, List, false, true, All, ap, length, subst, sym, ◌∙◌}
use Rattle.std.specs.Prelude.{map, option_to_list}
use Rattle.std.specs.List.{filter}
use Rattle.qs_session_channels.specs.End.{sent, sent_packet}
use Rattle.qs_packet.specs.Grammar.{IsPacket}
use Rattle.qs_packet.specs.declared.message.Message.{Message}
use Rattle.qs_packet.specs.declared.packet.Packet.{Packet}
use Rattle.qs_session.specs.Seen.{seen}
use Rattle.qs_cell_peers.specs.Peers.{goes_from, is_peer, is_to, place}
use Rattle.qs_cell_peers.specs.Sessions.{SessionsValue, ends_of, is_peer_of}
use Rattle.qs_cell_peers.proofs.Changing.{IsRead, still_kept, with_end}
use Rattle.qs_cell_peers.proofs.Sending.{all_spelled, goes_behind, nowhere, one_goes, sent_there}
use Rattle.qs_cell_peers.proofs.sessions.Sessions.send_one.Goals as goal
use Rattle.qs_cell_peers.proofs.sessions.Sessions.send_one.Goals.{After-index_mut}

read : (c : After-index_mut) → IsRead c.args.self.now c.self.inside.me c.self.inside.sessions.items c.args.sending.now.to.0 c.place_of.result c.index_mut.result.now
read c = record {
  is = c.self.view_is;
  kept = c.self.invariant;
  peer = cc (c.is_other.ensures, c.if-not-is_other.false, c.len.ensures, c.from-number.ensures);
  at_is = c.place_of.ensures ∙ ap (place c.self.inside.me.0) c.from-number.ensures;
  old_is = c.index_mut.ensures.value;
}

pub returns-then-not-is_other-clause-packets : goal.returns-then-not-is_other-clause-packets
returns-then-not-is_other-clause-packets c =
    let none : is_peer (length c.self.inside.sessions.items + 1) c.self.inside.me.0 c.args.sending.now.to.0 ≡ false = cc (c.is_other.ensures, c.if-not-is_other.true, c.len.ensures, c.from-number.ensures) in
    λ m peer. nowhere (is_peer_of c.args.self.now) m c.args.sending.now.to.0 (map seen (filter (is_to m) c.args.packets.now)) (option_to_list (sent_packet (ends_of c.args.self.now c.args.sending.now.to.0) c.args.sending.now.message c.args.stamp)) peer
    (subst (λ (v : SessionsValue). is_peer_of v c.args.sending.now.to.0 ≡ false) c.self.view_is none)

pub invariant_of-self-in_err-add : goal.invariant_of-self-in_err-add
invariant_of-self-in_err-add c =
    let r = read (goal.at.invariant_of-self-in_err-add c).After-index_mut in
    still_kept _ _ _ _ _ _ r c.post.new.session (with_end _ _ _ _ _ _ r c.post.new.session _ c.in_ok-packet.ensures.end c.post.ensures.spelled)

pub invariant_of-self-2 : goal.invariant_of-self-2
invariant_of-self-2 c =
    let r = read (goal.at.invariant_of-self-2 c).After-index_mut in
    still_kept _ _ _ _ _ _ r c.post.new.session (with_end _ _ _ _ _ _ r c.post.new.session _ c.in_ok-packet.ensures.end c.post.ensures.spelled)

pub returns-clause-ends : goal.returns-clause-ends
returns-clause-ends c = sent_there _ _ _ c.args.sending.now _ _ c.post.new.session (read (goal.at.returns-clause-ends c).After-index_mut)
    (c.in_ok-packet.ensures.end ∙ ap (λ (m : Message). record c.index_mut.result.now { end = sent c.index_mut.result.now.end m }) c.in_ok-message.ensures)

pub returns-clause-packets : goal.returns-clause-packets
returns-clause-packets c = λ m peer.
    ap (λ (l : List Packet). map seen (filter (is_to m) l)) c.in_ok-add.ensures
    ∙ goes_behind _ _ _ c.args.sending.now c.args.stamp _ _ c.in_ok-packet.packet (read (goal.at.returns-clause-packets c).After-index_mut) c.in_ok-packet.ensures.from
    (c.in_ok-packet.ensures.sent ∙ ap (λ (k : Message). sent_packet c.index_mut.result.now.end k c.args.stamp) c.in_ok-message.ensures) c.args.packets.now m

pub returns-clause-from : goal.returns-clause-from
returns-clause-from c = λ before.
    subst (λ (l : List Packet). All (λ p. goes_from c.args.self.now.size c.args.self.now.me.0 p ≡ true) l) (sym c.in_ok-add.ensures)
    (one_goes _ _ _ _ _ _ c.in_ok-packet.packet c.args.packets.now (read (goal.at.returns-clause-from c).After-index_mut) c.in_ok-packet.ensures.from before)

pub returns-clause-spelled : goal.returns-clause-spelled
returns-clause-spelled c = λ before. subst (λ (l : List Packet). All IsPacket l) (sym c.in_ok-add.ensures) (all_spelled IsPacket c.in_ok-packet.packet c.args.packets.now c.in_ok-packet.ensures.packet before)
