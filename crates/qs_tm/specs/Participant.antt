-- What a node keeps of one transaction, and what each rule makes of it.
use Rattle.std.specs.Prelude.{ℕ, ◌+◌, ◌==◌, Bool, true, false, not, ◌&&◌, ◌||◌, List, [], ◌∷◌, ◌++◌, length, replicate, Option, Some, None, is_none, slice_index_or, slice_set, if◌then◌else◌}
use Rattle.std.specs.List.{list_all, list_any, filter, find}
use Rattle.qs_base.specs.Order.{same_member}
use Rattle.qs_base.specs.declared.identifiers.ClientNo.{ClientNo}
use Rattle.qs_base.specs.declared.identifiers.Member.{Member}
use Rattle.qs_base.specs.declared.identifiers.NodeNo.{NodeNo}
use Rattle.qs_base.specs.declared.identifiers.ServerNo.{ServerNo}
use Rattle.qs_engage.specs.Engage as engage
use Rattle.qs_engage.specs.Engage.{new_engage, is_passive, is_open_to, is_node, last_number}
use Rattle.qs_engage.specs.Nodes.{no_nodes, is_no_node, put_node, drop_node, joined, same_node}
use Rattle.qs_ops.specs.Members.{is_two_phase}
use Rattle.qs_ops.specs.declared.answer.Cause.{Cause}
use Rattle.qs_ops.specs.declared.answer.Cause.TheVariants as causes
use Rattle.qs_ops.specs.declared.vote.Vote.{Vote}
use Rattle.qs_ops.specs.declared.vote.Vote.TheVariants as votes
use Rattle.qs_tm.specs.declared.members.MemberPart.{MemberPart}
use Rattle.qs_tm.specs.declared.participant.Due.{Due}
use Rattle.qs_tm.specs.declared.participant.Due.TheVariants as dues
use Rattle.qs_tm.specs.declared.participant.Outstanding.{Outstanding}
use Rattle.qs_tm.specs.declared.participant.Participant.{Participant}
use Rattle.qs_tm.specs.Members.{all_servers, files_no, same_server, class_here, no_member, ballot_of, is_binding, is_refusal, has_read, is_vote_due, is_ending_due, agrees, is_to_learn, is_standard, is_delayed, is_told_class}

-- one that the node has only heard of
abbrev pub new_participant : Bool → Participant
new_participant home = record {
  owner = None;
  begun_at = 0;
  engage = new_engage home;
  members = replicate 7 no_member;
  waiting = [];
  noted = [];
  involved = false;
  asked = false;
  blocked = false;
  causes = [];
  told = no_nodes;
  outcome = None;
  tell = no_nodes;
  acknowledged = no_nodes;
  log = record { unended = false; prepared = false; listed = false };
}

-- one that a client begins here
abbrev pub begun_participant : ClientNo → ℕ → Participant
begun_participant owner ticks = record (new_participant true) { owner = Some owner; begun_at = ticks }

-- its outcome is not known here
abbrev pub is_undecided : Participant → Bool
is_undecided part = is_none part.outcome

-- ---- requests that are issued here

-- another request goes to that node
abbrev pub sent : NodeNo → Participant → Participant
sent to part = record part { engage = engage.sent to part.engage; involved = true }

-- a request has no reply yet
abbrev pub issued : Outstanding → Participant → Participant
issued request part = record part { waiting = part.waiting ++ request ∷ [] }

abbrev pub is_answered_by : Member → ℕ → Outstanding → Bool
is_answered_by member number request = same_member request.member member && (request.number == number)

-- the request that a reply with this member and number is for
abbrev pub waiting_for : Member → ℕ → Participant → Option Outstanding
waiting_for member number part = find (is_answered_by member number) part.waiting

abbrev pub drop_waiting : Member → ℕ → Participant → Participant
drop_waiting member number part = record part { waiting = filter (λ request. not (is_answered_by member number request)) part.waiting }

abbrev pub is_by_files : Outstanding → Bool
is_by_files request = same_server request.issuer files_no

-- a request that files issued has no reply yet
abbrev pub awaits_note : Participant → Bool
awaits_note part = list_any is_by_files part.waiting

-- a note of files with this count of changes was served
abbrev pub note_served : ℕ → Participant → Participant
note_served count part = record part { noted = part.noted ++ count ∷ [] }

abbrev pub is_count : ℕ → ℕ → Bool
is_count count other = other == count

abbrev pub has_noted : ℕ → Participant → Bool
has_noted count part = list_any (is_count count) part.noted

-- ---- requests that come, and are served

abbrev pub requested : NodeNo → ℕ → Participant → Participant
requested from number part = record part { engage = engage.requested from number part.engage }

abbrev pub member_of : Participant → ServerNo → MemberPart
member_of part server = slice_index_or part.members server.0 no_member

abbrev pub with_member : ServerNo → MemberPart → Participant → Participant
with_member server member part = record part { members = slice_set part.members server.0 member }

-- how many requests the server served, with one more
abbrev pub next_served : ServerNo → Participant → Option ℕ
next_served server part = if (member_of part server).served == last_number then None else Some ((member_of part server).served + 1)

-- a node is to be told the outcome where a server is used that is told it without a vote
abbrev pub served : ServerNo → Participant → Participant
served server part =
    if (member_of part server).served == last_number then part
    else record (with_member server (record (member_of part server) { served = (member_of part server).served + 1; fresh = true }) part) {
      involved = part.involved || is_told_class (class_here server);
    }

-- ---- votes

-- why a vote refuses
abbrev pub causes_of : Member → Vote → List Cause
causes_of member (votes.Abort reason) = causes.Voted member reason ∷ []
causes_of member votes.ReadOnly = []
causes_of member votes.Volatile = []
causes_of member votes.Recoverable = []

-- a refusal is kept to be sent on
abbrev pub with_causes_of : Member → Vote → Participant → Participant
with_causes_of member vote part = record part { blocked = part.blocked || is_refusal (ballot_of vote); causes = part.causes ++ causes_of member vote }

-- the server voted for so many of the requests that it served
abbrev pub cast_vote : Member → Vote → ℕ → Participant → Participant
cast_vote member vote covers part =
    record (with_member member.server (record (member_of part member.server) { vote = Some (record { ballot = ballot_of vote; covers = covers }) }) part) {
      involved = part.involved || is_binding (ballot_of vote);
    }

abbrev pub voted : Member → Vote → ℕ → Participant → Participant
voted member vote covers part = cast_vote member vote covers (with_causes_of member vote part)

-- what may be due to a server: its vote, to be told that the transaction ends, or to learn how, in its turn
abbrev pub is_due_at : Due → Participant → ServerNo → Bool
is_due_at dues.Vote part server = is_vote_due server (member_of part server)
is_due_at dues.Ending part server = is_ending_due server (member_of part server)
is_due_at dues.FirstTold part server = is_two_phase (class_here server) && is_to_learn (class_here server) (member_of part server)
is_due_at dues.ThenTold part server = is_standard (class_here server) && is_to_learn (class_here server) (member_of part server)
is_due_at dues.LastTold part server = is_delayed (class_here server) && is_to_learn (class_here server) (member_of part server)

-- the servers to which it is due, in order
abbrev pub servers_due : Due → Participant → List ServerNo
servers_due due part = filter (is_due_at due part) all_servers

abbrev pub has_due : Due → Participant → Bool
has_due due part = list_any (is_due_at due part) all_servers

-- a vote pass has something to do
abbrev pub needs_pass : Participant → Bool
needs_pass part = has_due dues.Vote part || has_due dues.Ending part

-- the servers that are still to learn the outcome: two-phase ones first, then standard, then delayed ones
abbrev pub learners : Participant → List ServerNo
learners part = servers_due dues.FirstTold part ++ servers_due dues.ThenTold part ++ servers_due dues.LastTold part

-- there is one
abbrev pub is_learning : Participant → Bool
is_learning part = not (length (learners part) == 0)

abbrev pub agrees_at : Participant → ServerNo → Bool
agrees_at part server = agrees server (member_of part server)

abbrev pub all_agree : Participant → Bool
all_agree part = list_all (agrees_at part) all_servers

-- ---- being asked, and answering

abbrev pub ask : Participant → Participant
ask part = record part { asked = true }

-- it can't be committed any more
abbrev pub refused : Participant → Participant
refused part = record part { blocked = true }

abbrev pub add_cause : Cause → Participant → Participant
add_cause cause part = record part { causes = part.causes ++ cause ∷ [] }

abbrev pub take_causes : Participant → Participant
take_causes part = record part { causes = [] }

-- the peer answers for the requests up to this number, and these are to be told; the home is in no told set
abbrev pub counted : NodeNo → NodeNo → ℕ → List NodeNo → Participant → Participant
counted home peer up_to told part = record part {
  engage = engage.covered peer up_to part.engage;
  told = drop_node (joined part.told told) home;
}

-- all that came was voted for and all that was sent is covered
abbrev pub is_ready : Bool → Participant → Bool
is_ready busy part = (part.asked && not part.blocked) && ((not busy && is_passive part.engage) && all_agree part)

-- the superior is answered, and there is none then
abbrev pub released : Participant → Participant
released part = record part { engage = engage.released part.engage }

abbrev pub add_told : NodeNo → Participant → Participant
add_told node part = record part { told = put_node part.told node }

-- ---- forgetting

abbrev pub has_read_at : Participant → ServerNo → Bool
has_read_at part server = has_read server (member_of part server)

abbrev pub only_read : Participant → Bool
only_read part = list_all (has_read_at part) all_servers

-- elsewhere than at the home, it only read, answers to nobody, is not to be told and knows of nobody who is
abbrev pub is_forgotten : Participant → Bool
is_forgotten part =
    (is_undecided part && not part.engage.home)
    && ((is_none part.engage.superior && not part.involved) && (is_no_node part.told && only_read part))

-- ---- another node restarted

abbrev pub restarted : NodeNo → Participant → Participant
restarted peer part = record part { engage = engage.restarted peer part.engage }

abbrev pub is_to : NodeNo → Outstanding → Bool
is_to peer request = same_node request.member.node peer

-- a request to it has no reply
abbrev pub waits_for : NodeNo → Participant → Bool
waits_for peer part = list_any (is_to peer) part.waiting

-- something that the peer owes will never come: a request is not covered, or has no reply
abbrev pub is_owed_by : NodeNo → Participant → Bool
is_owed_by peer part = is_open_to peer part.engage || waits_for peer part

-- this node answers, or answered last, to the peer
abbrev pub answered_to : NodeNo → Participant → Bool
answered_to peer part = is_node peer part.engage.superior || is_node peer part.engage.last_superior
