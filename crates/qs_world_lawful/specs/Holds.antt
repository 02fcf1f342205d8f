-- What the reference machine keeps of a node that runs, and what that node keeps itself.
use Rattle.std.specs.Prelude.{◌≡◌, ◌≢◌, ℕ, ◌==◌, ◌^◌, ◌≤◌, ◌<◌, ◌⊎◌, Bool, true, not, ◌&&◌, ◌||◌, List, length, Option, Some, None, is_some, slice_get, nat_lt, ⊤}
use Rattle.std.specs.List.{filter}
use Rattle.std.specs.Map.{lookup}
use Rattle.std.specs.BTreeMap.{is_at}
use Rattle.qs_base.specs.declared.identifiers.ClientNo.{ClientNo}
use Rattle.qs_base.specs.declared.identifiers.Member.{Member}
use Rattle.qs_base.specs.declared.identifiers.NodeNo.{NodeNo}
use Rattle.qs_base.specs.declared.identifiers.Outcome.{Outcome}
use Rattle.qs_base.specs.declared.identifiers.Outcome.TheVariants as outcomes
use Rattle.qs_base.specs.declared.identifiers.ServerNo.{ServerNo}
use Rattle.qs_base.specs.declared.identifiers.Tid.{Tid}
use Rattle.qs_ops.specs.Members.{class_of, is_two_phase, learns_outcome}
use Rattle.qs_book_journal.specs.declared.script_line.Command.TheVariants as commands
use Rattle.qs_book_machine.specs.Transaction.{TransactionValue, is_open, is_outcome, is_covering, has_note, learnt_abort, may_learn_still, part_of, sent_in, sent_on, is_standing, requests_at, borrower}
use Rattle.qs_book_machine.specs.declared.transaction.Part.{Part}
use Rattle.qs_book_machine.specs.declared.transaction.RequestNo.{RequestNo}
use Rattle.qs_book_machine.specs.Book.{BookValue, find_transaction}
use Rattle.qs_book_machine.specs.Clauses.{note_text, is_known}
use Rattle.qs_book_machine.specs.Nodes as machine
use Rattle.qs_book_machine.specs.declared.state.Owner.{Owner}
use Rattle.qs_book_laws.proofs.Rising.{IsRising}
use Rattle.qs_engage.specs.Engage.{peer_of}
use Rattle.qs_tm.specs.Members as rules
use Rattle.qs_tm.specs.Participant.{member_of, has_noted, awaits_note}
use Rattle.qs_tm.specs.Manager as tm
use Rattle.qs_tm.specs.declared.members.Cast.{Cast}
use Rattle.qs_tm.specs.declared.members.MemberPart.{MemberPart}
use Rattle.qs_tm.specs.declared.participant.Participant.{Participant}
use Rattle.qs_node_kept.specs.declared.kept.KeptLabel.{KeptLabel}
use Rattle.qs_node_kept.specs.declared.kept.Decided.{Decided}
use Rattle.qs_node_step.specs.declared.state.OpenCommand.{OpenCommand}
use Rattle.qs_node_step.specs.Answering.{kept_outcome}
use Rattle.qs_node_step.specs.Commands.{outcome_answer}
use Rattle.qs_node_step.specs.Serving.{label_at}
use Rattle.qs_node_step.specs.State.{NodeValue, client_cmp}
use Rattle.qs_world_lawful.specs.Tables.{HoldsServers, is_seen}
use Rattle.qs_world_lawful.specs.Waits.{HoldsWaitsAt}
use Rattle.qs_world_lawful.specs.Face.{Face, face_of, part_in, is_held, at_server, is_numbered, is_loan_here, is_given_back, IsEmpty}

-- ---- one member, in the node's present incarnation

-- the last vote covers at most what was served
abbrev pub covers_at_most : ℕ → Option Cast → Type 0
covers_at_most served None = ⊤
covers_at_most served (Some cast) = cast.covers ≤ served

-- a member that votes
pub record HoldsVoter (part : Part) (m : MemberPart) : Type 0 where
  pub covers : covers_at_most m.served m.vote
  pub is_due : nat_lt part.voted part.served ≡ not (rules.is_covering m)  -- clause 40

-- what the machine has of a member, and what its node has; a member that its node does not know has served nothing
pub record HoldsMember (tx : TransactionValue) (member : Member) (inc : ℕ) (m : MemberPart) : Type 0 where
  pub covers : is_two_phase (class_of member.server.0) ≡ true → is_covering tx member inc m.served ≡ true  -- clause 41; the others' counts begin anew where they are forgotten
  pub voted : (part_of tx member inc).voted ≤ (part_of tx member inc).served
  pub votes : is_two_phase (class_of member.server.0) ≡ true → HoldsVoter (part_of tx member inc) m
  pub learns : learns_outcome (class_of member.server.0) ≡ true → may_learn_still (part_of tx member inc) ≡ rules.is_to_learn (class_of member.server.0) m  -- clauses 95 to 97
  pub ends : rules.is_immediate (class_of member.server.0) ≡ true → (part_of tx member inc).due ≡ m.fresh  -- clause 90

-- ---- one transaction at a node

-- at its home, while that runs in the incarnation in which it began; once it is ended, the home may have forgotten it
pub record HoldsHome (tx : TransactionValue) (known : Option Participant) : Type 0 where
  pub runs : is_open tx.cell ≡ true → is_some known ≡ true
  pub undecided : (part : Participant) → known ≡ Some part → part.outcome ≡ None → is_open tx.cell ≡ true  -- clause 70
  pub asked : (part : Participant) → known ≡ Some part → is_open tx.cell ≡ true → is_some tx.asked ≡ part.asked  -- clauses 21, 50, 72

-- nothing is kept of a client as a member
abbrev pub is_kept : ServerNo → Bool
is_kept server = nat_lt server.0 7

pub record HoldsTid (here : NodeNo) (inc : ℕ) (tid : Tid) (tx : TransactionValue) (face : Face) : Type 0 where
  pub sized : length (part_in face).members ≡ 7
  pub members : is_held tx face ≡ true → (server : ServerNo) → is_kept server ≡ true → HoldsMember tx (at_server here server) inc (member_of (part_in face) server)
  pub asked : (part_in face).asked ≡ true → is_some tx.asked ≡ true
  pub outcome : (o : Outcome) → (part_in face).outcome ≡ Some o → is_outcome o tx.cell ≡ true
  pub silent : learnt_abort tx here inc ≡ true → (part_in face).outcome ≡ Some outcomes.Abort  -- clauses 21, 32
  pub local : sent_in inc (sent_on tx (record { from = here; to = here })) ≡ face.local  -- clause 20
  pub sent : is_held tx face ≡ true → (peer : NodeNo) → peer.0 ≢ here.0 → sent_in inc (sent_on tx (record { from = here; to = peer })) ≡ (peer_of (part_in face).engage peer).sent  -- clauses 20, 60
  pub pending : (part_of tx (at_server here rules.files_no) inc).pending ≡ face.changes  -- clause 22, crossed or not
  pub noted : is_held tx face ≡ true → (count : ℕ) → 1 ≤ count → has_note tx (record { node = here; inc = inc; text = note_text tid here.0 count }) ≡ true
      → (has_noted count (part_in face) ≡ true) ⊎ (awaits_note (part_in face) ≡ true)  -- clause 22
  pub queued : (server : ServerNo) (at : RequestNo) → at.link.to ≡ here
      → length (filter (is_numbered at) (face.waiting server)) ≤ length (filter (is_standing (at_server here server)) (requests_at tx at))  -- clause 30
  pub made : (client : ClientNo) → nat_lt client.0 224 ≡ true → (part_of tx (borrower client here) inc).made ≡ length (filter (is_loan_here client inc) face.loans)
  pub yielded : (client : ClientNo) → nat_lt client.0 224 ≡ true → (part_of tx (borrower client here) inc).yielded ≡ length (filter (is_given_back client inc) face.loans)  -- clauses 21, 88
  pub home : tid.home ≡ here → tid.inc ≡ inc → HoldsHome tx face.known

-- of a transaction that the machine does not know the node has nothing
abbrev pub HoldsAt : NodeNo → ℕ → Tid → Option TransactionValue → Face → Type 0
HoldsAt here inc tid None face = IsEmpty face
HoldsAt here inc tid (Some tx) face = HoldsTid here inc tid tx face

-- ---- clients

-- the next line of that client rises
pub record IsBehind (book : BookValue) (client : ClientNo) (line : ℕ) : Type 0 where
  pub owner : Owner
  pub there : slice_get book.owners client.0 ≡ Some owner
  pub less : nat_lt owner.line line ≡ true

-- it is the client's own
pub record IsOwner (book : BookValue) (tid : Tid) (client : ClientNo) : Type 0 where
  pub tx : TransactionValue
  pub found : find_transaction book tid ≡ Some tx
  pub owns : tx.owner ≡ Some client

-- the client may be told so
pub record MayBeTold (book : BookValue) (client : ClientNo) (decided : Decided) : Type 0 where
  pub owner : Owner
  pub there : slice_get book.owners client.0 ≡ Some owner
  pub known : is_known owner (outcome_answer decided) ≡ true

-- it ended as its home keeps for its owner
pub record HasEnded (book : BookValue) (tid : Tid) (decided : Decided) : Type 0 where
  pub tx : TransactionValue
  pub found : find_transaction book tid ≡ Some tx
  pub as_kept : is_outcome decided.outcome tx.cell ≡ true
  pub told : (client : ClientNo) → tx.owner ≡ Some client → MayBeTold book client decided

-- the client waits for the outcome of a transaction of its own that it asked to commit
pub record IsAsking (node : NodeValue) (tid : Tid) (client : ClientNo) : Type 0 where
  pub command : OpenCommand
  pub waits : lookup (is_at (client_cmp client)) node.commands ≡ Some command
  pub commits : command.line.command ≡ commands.Commit
  pub unissued : command.issued ≡ None
  pub begun : KeptLabel
  pub labelled : label_at command.line.label node ≡ Some begun
  pub of : begun.tid ≡ Some tid
  pub owned : begun.owner ≡ Some client

-- what clients were told, and may be told
pub record HoldsClients (book : BookValue) (node : NodeValue) : Type 0 where
  pub apart : IsRising client_cmp node.commands  -- each client has one command at most
  pub lines : (client : ClientNo) (command : OpenCommand) → lookup (is_at (client_cmp client)) node.commands ≡ Some command → IsBehind book client command.line.line  -- clause 80
  pub labels : (label : List ℕ) (begun : KeptLabel) (tid : Tid) (client : ClientNo) → label_at label node ≡ Some begun → begun.tid ≡ Some tid → begun.owner ≡ Some client → IsOwner book tid client  -- clause 21
  pub outcomes : (tid : Tid) (decided : Decided) → kept_outcome tid node ≡ Some decided → HasEnded book tid decided  -- clause 81
  pub asking : (tid : Tid) (client : ClientNo) (part : Participant) → tid.home ≡ node.setting.node → tm.part_of tid node.manager ≡ Some part → part.outcome ≡ None → part.asked ≡ true
      → IsOwner book tid client → IsAsking node tid client  -- clauses 21, 72

-- ---- the node

pub record HoldsNode (node : NodeValue) (state : machine.NodeValue) : Type 0 where
  pub up : state.up ≡ true
  pub inc : state.inc ≡ node.setting.inc
  pub begun : state.begun ≡ node.manager.begun  -- clause 10
  pub extra : machine.extra_of state.format ≡ node.setting.extra
  pub keep : machine.keep_of state.format ≡ node.setting.keep
  pub at : node.manager.node ≡ node.setting.node
  pub in_inc : node.manager.inc ≡ node.setting.inc

-- what began here began in an earlier incarnation, or as one of those that are counted
abbrev pub HasBegun : ℕ → ℕ → Tid → Type 0
HasBegun inc begun tid = (tid.inc < inc) ⊎ ((tid.inc ≡ inc) × (tid.seq ≤ begun))

-- the next entry of the node with this stamp stands in order
abbrev pub is_next : ℕ → ℕ → BookValue → Bool
is_next stamp here book = nat_lt stamp (2 ^ 62) && (nat_lt book.stamp stamp || ((book.stamp == stamp) && not (nat_lt here book.node)))

-- of the node and its servers, of each transaction, and of the clients
pub record Holds (stamp : ℕ) (book : BookValue) (node : NodeValue) : Type 0 where
  pub order : is_next stamp node.setting.node.0 book ≡ true  -- clause 1
  pub run : length book.nodes ≡ node.setting.nodes
  pub state : machine.NodeValue
  pub there : slice_get book.nodes node.setting.node.0 ≡ Some state  -- clause 2
  pub same : HoldsNode node state
  pub at : (tid : Tid) → HoldsAt node.setting.node node.setting.inc tid (find_transaction book tid) (face_of node tid)
  pub begun : (tid : Tid) → tid.home ≡ node.setting.node → is_some (find_transaction book tid) ≡ true → HasBegun node.setting.inc node.manager.begun tid  -- clause 10
  pub clients : HoldsClients book node
  pub servers : HoldsServers (is_seen book node.setting.node) state node.servers  -- clauses 31, 42
  pub waits : (tid : Tid) → HoldsWaitsAt node.setting.node node.setting.inc tid (find_transaction book tid) (face_of node tid).waiting node.servers

-- all of it but the order, whether any stamp is left for its next entry or not
pub record HoldsStill (book : BookValue) (node : NodeValue) : Type 0 where
  pub run : length book.nodes ≡ node.setting.nodes
  pub state : machine.NodeValue
  pub there : slice_get book.nodes node.setting.node.0 ≡ Some state
  pub same : HoldsNode node state
  pub at : (tid : Tid) → HoldsAt node.setting.node node.setting.inc tid (find_transaction book tid) (face_of node tid)
  pub begun : (tid : Tid) → tid.home ≡ node.setting.node → is_some (find_transaction book tid) ≡ true → HasBegun node.setting.inc node.manager.begun tid
  pub clients : HoldsClients book node
  pub servers : HoldsServers (is_seen book node.setting.node) state node.servers
  pub waits : (tid : Tid) → HoldsWaitsAt node.setting.node node.setting.inc tid (find_transaction book tid) (face_of node tid).waiting node.servers
