use Rattle.std.proofs.Common.{◌≡◌, ◌+◌, ◌==◌, true, ap, length, subst, sym, ◌∙◌}
use Rattle.std.proofs.lemmas.Bool.{and_parts}
use Rattle.qs_session_channels.specs.End.{End, answer, received}
use Rattle.qs_packet.specs.declared.message.Message.{Message}
use Rattle.qs_session.specs.Seen.{seen}
use Rattle.qs_cell_peers.specs.Peers.{comes_to, is_peer, place}
use Rattle.qs_cell_peers.specs.Sessions.{SessionsValue}
use Rattle.qs_cell_peers.proofs.Changing.{IsRead, end_is, ends_there, is_with, still_kept, with_end}
use Rattle.qs_cell_peers.proofs.Hearing.{ends_as, heard_here}
use Rattle.qs_cell_peers.proofs.sessions.Sessions.hear.Goals as goal
use Rattle.qs_cell_peers.proofs.sessions.Sessions.hear.Goals.{After-index_mut}

read : (c : After-index_mut) → IsRead c.args.self.now c.self.inside.me c.self.inside.sessions.items c.args.packet.now.from.0 c.place_of-at.result c.index_mut.result.now
read c =
    let comes : comes_to (length c.self.inside.sessions.items + 1) c.self.inside.me.0 c.args.packet.now ≡ true = cc (c.comes.ensures, c.if-not-comes.false, c.len.ensures) in
    record {
      is = c.self.view_is;
      kept = c.self.invariant;
      peer = (and_parts (c.args.packet.now.to.0 == c.self.inside.me.0) (is_peer (length c.self.inside.sessions.items + 1) c.self.inside.me.0 c.args.packet.now.from.0) comes).1;
      at_is = c.place_of-at.ensures ∙ ap (place c.self.inside.me.0) c.from.ensures;
      old_is = c.index_mut.ensures.value;
    }

comes_true : (c : After-index_mut) → comes_to c.args.self.now.size c.args.self.now.me.0 c.args.packet.now ≡ true
comes_true c =
    let comes : comes_to (length c.self.inside.sessions.items + 1) c.self.inside.me.0 c.args.packet.now ≡ true = cc (c.comes.ensures, c.if-not-comes.false, c.len.ensures) in
    subst (λ (v : SessionsValue). comes_to v.size v.me.0 c.args.packet.now ≡ true) c.self.view_is comes

pub hear-taken-requires-clause-spelled : goal.hear-taken-requires-clause-spelled
hear-taken-requires-clause-spelled c = (is_with _ _ _ _ _ _ (read (goal.at.hear-taken-requires-clause-spelled c).After-index_mut)).spelled

pub invariant_of-self : goal.invariant_of-self
invariant_of-self c =
    let r = read (goal.at.invariant_of-self c).After-index_mut in
    still_kept _ _ _ _ _ _ r c.hear-taken.new.session (with_end _ _ _ _ _ _ r c.hear-taken.new.session _ c.hear-taken.ensures.end c.hear-taken.ensures.spelled)

pub returns-clause-heard : goal.returns-clause-heard
returns-clause-heard c =
    let i = (goal.at.returns-clause-heard c).After-index_mut in
    heard_here c.args.self.now c.args.packet.now c.hear-taken.result c.heard_as-heard.result (comes_true i) c.heard_as-heard.ensures
    (c.hear-taken.ensures.answer ∙ ap (λ (e : End Message). answer e (seen c.args.packet.now)) (sym (end_is _ _ _ _ _ _ (read i))))

pub returns-clause-ends : goal.returns-clause-ends
returns-clause-ends c =
    let i = (goal.at.returns-clause-ends c).After-index_mut in
    ends_as c.args.self.now c.args.packet.now _ (comes_true i) (ends_there _ _ _ _ _ _ (read i) c.hear-taken.new.session (λ e. received e (seen c.args.packet.now)) c.hear-taken.ensures.end)
