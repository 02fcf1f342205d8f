-- What went between one node and the others for one transaction.
use Rattle.std.specs.Prelude.{ℕ, ◌+◌, ◌==◌, ◌&&◌, Bool, false, not, replicate, Option, Some, None, max, nat_le, nat_lt, slice_index_or, slice_set, if◌then◌else◌}
use Rattle.std.specs.List.{list_all}
use Rattle.qs_base.specs.declared.identifiers.NodeNo.{NodeNo}
use Rattle.qs_engage.specs.declared.engage.Engage.{Engage}
use Rattle.qs_engage.specs.declared.engage.Engaged.{Engaged}
use Rattle.qs_engage.specs.declared.engage.Engaged.TheVariants as engagements
use Rattle.qs_engage.specs.declared.engage.PeerPart.{PeerPart}
use Rattle.qs_engage.specs.declared.nodes.Nodes.{Nodes}
use Rattle.qs_engage.specs.Nodes.{same_node, nodes_where}

abbrev pub no_peer : PeerPart
no_peer = record { sent = 0; covered = 0; last = 0 }

-- nothing was sent and nothing came
abbrev pub new_engage : Bool → Engage
new_engage home = record { home = home; superior = None; last_superior = None; peers = replicate 16 no_peer }

-- what went to and came from that node
abbrev pub peer_of : Engage → NodeNo → PeerPart
peer_of engage peer = slice_index_or engage.peers peer.0 no_peer

abbrev pub with_peer : NodeNo → PeerPart → Engage → Engage
with_peer peer part engage = record engage { peers = slice_set engage.peers peer.0 part }

-- that number is the one of the last request that came from the node
abbrev pub with_last : NodeNo → ℕ → Engage → Engage
with_last peer number engage = with_peer peer (record (peer_of engage peer) { last = number }) engage

-- where there is no superior, elsewhere than at the home, the sender becomes it
abbrev pub with_superior : NodeNo → Engage → Engage
with_superior from engage =
    if engage.home then engage
    else elim engage.superior [ None ↦ record engage { superior = Some from; last_superior = Some from } | Some superior ↦ engage ]

abbrev pub requested : NodeNo → ℕ → Engage → Engage
requested from number engage = with_superior from (with_last from number engage)

abbrev pub answers_to : NodeNo → Option NodeNo → Engaged
answers_to from None = engagements.Superior
answers_to from (Some superior) = if same_node superior from then engagements.Superior else engagements.Elsewhere

-- at the home and from another than the superior a request is covered at once
abbrev pub engaged : NodeNo → Engage → Engaged
engaged from engage = if engage.home then engagements.Elsewhere else answers_to from engage.superior

-- the last number of a request
abbrev pub last_number : ℕ
last_number = 4294967295

abbrev pub next_sent : NodeNo → Engage → Option ℕ
next_sent to engage = if (peer_of engage to).sent == last_number then None else Some ((peer_of engage to).sent + 1)

abbrev pub sent : NodeNo → Engage → Engage
sent to engage =
    if (peer_of engage to).sent == last_number then engage
    else with_peer to (record (peer_of engage to) { sent = (peer_of engage to).sent + 1 }) engage

abbrev pub covered : NodeNo → ℕ → Engage → Engage
covered from up_to engage = with_peer from (record (peer_of engage from) { covered = max (peer_of engage from).covered up_to }) engage

-- every number that was sent is covered
abbrev pub is_covered : PeerPart → Bool
is_covered part = nat_le part.sent part.covered

abbrev pub is_passive : Engage → Bool
is_passive engage = list_all is_covered engage.peers

abbrev pub is_open_to : NodeNo → Engage → Bool
is_open_to peer engage = not (is_covered (peer_of engage peer))

abbrev pub has_sent : NodeNo → Engage → Bool
has_sent peer engage = nat_lt 0 (peer_of engage peer).sent

-- nothing of one another counts
abbrev pub is_idle : PeerPart → Bool
is_idle part = ((part.sent == 0) && (part.covered == 0)) && (part.last == 0)

abbrev pub is_idle_with : NodeNo → Engage → Bool
is_idle_with peer engage = is_idle (peer_of engage peer)

-- the nodes with a request that is not covered
abbrev pub uncovered : Engage → Nodes
uncovered engage = nodes_where (λ peer. is_open_to peer engage)

-- the nodes that a request was sent to
abbrev pub sent_to : Engage → Nodes
sent_to engage = nodes_where (λ peer. has_sent peer engage)

-- the superior, and the number of its last request
abbrev pub release_of : Engage → Option (NodeNo × ℕ)
release_of engage = elim engage.superior [ None ↦ None | Some superior ↦ Some (superior, (peer_of engage superior).last) ]

abbrev pub released : Engage → Engage
released engage = record engage { superior = None }

-- it numbers its requests anew
abbrev pub restarted : NodeNo → Engage → Engage
restarted peer engage = with_last peer 0 engage

abbrev pub is_node : NodeNo → Option NodeNo → Bool
is_node node None = false
is_node node (Some other) = same_node other node
