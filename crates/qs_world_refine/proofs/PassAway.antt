-- Files that owe a note issue it to a server of another node, and the pass goes on.
use Rattle.qs_world_refine.proofs.Words.{◌≡◌, ℕ, ◌+◌, ◌==◌, Bool, true, false, length, Some, refl, ap, ◌∙◌, if◌then◌else◌, is_at, length-set, tid_cmp, NodeNo, Tid, peer_of, last_number, Op, Outstanding, Participant, send, enter_issue, issue_away, is_asked, ask_on, label_of, NodeValue, Work, part_of, with_manager, Scene}
use Rattle.qs_engage.specs.Engage as engage
use Rattle.qs_packet.specs.declared.message.Message.TheVariants as messages
use Rattle.qs_tm.specs.Manager as tm
use Rattle.qs_tm.specs.Participant as participant
use Rattle.qs_world_refine.proofs.IssueAway.{issued_part}
use Rattle.qs_world_refine.proofs.Maps.{lookup_changed}
use Rattle.qs_world_refine.proofs.PassVotes.{Passing}
use Rattle.qs_world_refine.proofs.SendGoes.{send_node}

-- only the node is asked
pub passing_node : (tid : Tid) (scene : Scene) (n : ℕ) (work new : Work) (part : Participant) → new.node ≡ work.node → Passing tid scene n work part → Passing tid scene n new part
passing_node tid scene n work new part same is = record {
  at = record { in_run = is.at.in_run; up = is.at.up; node = rw same is.at.node; nodes = rw same is.at.nodes; inc = rw same is.at.inc };
  knows = record { known = ap (λ (k : NodeValue). tm.part_of tid k.manager) same ∙ is.knows.known; whole = is.knows.whole };
  undecided = is.undecided;
  asked = is.asked;
  idle = λ r. rw same (is.idle r);
  unlent = rw same is.unlent;
  on = rw same is.on;
  kinds = rw same is.kinds;
  audit = rw same is.audit;
}

-- ---- a node that is sent one request more answers to whom it did

sent_superior : (to : NodeNo) (part : Participant) → (participant.sent to part).engage.superior ≡ part.engage.superior
sent_superior to part = by ((peer_of part.engage to).sent == last_number)
  where
    by : (b : Bool) → (if b then part.engage else engage.with_peer to (record (peer_of part.engage to) { sent = (peer_of part.engage to).sent + 1 }) part.engage).superior ≡ part.engage.superior
    by true = refl
    by false = refl

sent_peers : (to : NodeNo) (part : Participant) → length (participant.sent to part).engage.peers ≡ length part.engage.peers
sent_peers to part = by ((peer_of part.engage to).sent == last_number)
  where
    by : (b : Bool) → length (if b then part.engage else engage.with_peer to (record (peer_of part.engage to) { sent = (peer_of part.engage to).sent + 1 }) part.engage).peers ≡ length part.engage.peers
    by true = refl
    by false = length-set part.engage.peers to.0 _

module _ (tid : Tid) (scene : Scene) (n : ℕ) (request : Outstanding) (op : Op) (work : Work) (part : Participant) (is : Passing tid scene n work part) where
  abbrev to : NodeNo
  to = request.member.node

  abbrev sent : Work
  sent = with_manager (tm.sent tid to) (enter_issue tid request op work)

  abbrev posted : Work
  posted = send to (messages.Request tid (label_of tid work.node) request.member request.number request.issuer op) sent

  same_as_sent : (issue_away tid request op work).node ≡ sent.node
  same_as_sent = by (is_asked tid work)
    where
      by : (b : Bool) → (ask_on b tid to posted).node ≡ sent.node
      by true = send_node to (messages.AskVote tid) posted ∙ send_node to (messages.Request tid (label_of tid work.node) request.member request.number request.issuer op) sent
      by false = send_node to (messages.Request tid (label_of tid work.node) request.member request.number request.issuer op) sent

  known_sent : part_of tid sent ≡ Some (issued_part tid request part)
  known_sent =
      lookup_changed (is_at (tid_cmp tid)) (participant.sent to) _ (participant.issued request part)
      (lookup_changed (is_at (tid_cmp tid)) (participant.issued request) work.node.manager.known part is.knows.known)

  sent_passing : Passing tid scene n sent (issued_part tid request part)
  sent_passing = record {
    at = record { in_run = is.at.in_run; up = is.at.up; node = is.at.node; nodes = is.at.nodes; inc = is.at.inc };
    knows = record {
      known = known_sent;
      whole = record { peers = sent_peers to (participant.issued request part) ∙ is.knows.whole.peers; members = is.knows.whole.members; told = is.knows.whole.told; tell = is.knows.whole.tell; acknowledged = is.knows.whole.acknowledged };
    };
    undecided = is.undecided;
    asked = is.asked;
    idle = is.idle;
    unlent = is.unlent;
    on = rw (sent_superior to (participant.issued request part)) is.on;
    kinds = is.kinds;
    audit = is.audit;
  }

  pub away_passing : Passing tid scene n (issue_away tid request op work) (issued_part tid request part)
  away_passing = passing_node tid scene n sent (issue_away tid request op work) (issued_part tid request part) same_as_sent sent_passing
