-- What the machine and a node hold alike, as tests: a twin of each conjunct, so that it can be tried on the states of runs.
use Rattle.std.specs.Prelude.{ℕ, ◌+◌, ◌==◌, Bool, true, false, not, ◌&&◌, ◌||◌, List, [], ◌∷◌, ◌++◌, length, map, Option, Some, None, is_some, is_none, slice_get, nat_lt, nat_le}
use Rattle.std.specs.List.{list_all, filter, flat_map}
use Rattle.std.specs.Map.{lookup}
use Rattle.std.specs.BTreeMap.{is_at}
use Rattle.qs_base.specs.Order.{same_tid}
use Rattle.qs_base.specs.declared.identifiers.ClientNo.{ClientNo}
use Rattle.qs_base.specs.declared.identifiers.NodeNo.{NodeNo}
use Rattle.qs_base.specs.declared.identifiers.Outcome.TheVariants as outcomes
use Rattle.qs_base.specs.declared.identifiers.Outcome.{Outcome}
use Rattle.qs_base.specs.declared.identifiers.ServerNo.{ServerNo}
use Rattle.qs_base.specs.declared.identifiers.Tid.{Tid}
use Rattle.qs_ipc.specs.Queue.{QueueValue}
use Rattle.qs_ipc.specs.declared.delivery.Delivery.{Delivery}
use Rattle.qs_ops.specs.Members.{class_of, is_two_phase, learns_outcome}
use Rattle.qs_book_journal.specs.declared.script_line.Command.{Command}
use Rattle.qs_book_journal.specs.declared.script_line.Command.TheVariants as commands
use Rattle.qs_book_machine.specs.Transaction.{TransactionValue, is_open, is_outcome, is_covering, has_note, learnt_abort, may_learn_still, part_of, sent_in, sent_on, is_standing, requests_at, borrower}
use Rattle.qs_book_machine.specs.declared.transaction.RequestNo.{RequestNo}
use Rattle.qs_book_machine.specs.Book.{BookValue, find_transaction}
use Rattle.qs_book_machine.specs.Clauses.{note_text, is_known}
use Rattle.qs_book_machine.specs.Nodes as machine
use Rattle.qs_book_machine.specs.declared.state.Owner.{Owner}
use Rattle.qs_engage.specs.Engage.{peer_of}
use Rattle.qs_tm.specs.Members as rules
use Rattle.qs_tm.specs.Participant.{member_of, has_noted, awaits_note}
use Rattle.qs_tm.specs.declared.members.Cast.{Cast}
use Rattle.qs_tm.specs.declared.members.MemberPart.{MemberPart}
use Rattle.qs_tm.specs.declared.participant.Participant.{Participant}
use Rattle.qs_node_kept.specs.declared.kept.KeptLabel.{KeptLabel}
use Rattle.qs_node_kept.specs.declared.kept.Decided.{Decided}
use Rattle.qs_node_step.specs.declared.state.OpenCommand.{OpenCommand}
use Rattle.qs_node_step.specs.Commands.{outcome_answer}
use Rattle.qs_node_step.specs.Serving.{label_at}
use Rattle.qs_node_step.specs.State.{NodeValue, client_cmp}
use Rattle.qs_world_lawful.specs.TableTests.{servers_ok, waits_ok, idle_ok}
use Rattle.qs_world_lawful.specs.Face.{Face, face_of, part_in, is_held, at_server, is_numbered, is_loan_here, is_given_back}

abbrev alike : Bool → Bool → Bool
alike true b = b
alike false b = not b

abbrev pub implied : Bool → Bool → Bool
implied true b = b
implied false b = true

abbrev is_commit_command : Command → Bool
is_commit_command commands.Commit = true
is_commit_command command = false

-- ---- members

abbrev cast_ok : ℕ → Option Cast → Bool
cast_ok served None = true
cast_ok served (Some cast) = nat_le cast.covers served

abbrev part_ok : TransactionValue → NodeNo → ℕ → ServerNo → MemberPart → Bool
part_ok tx here inc server m =
    (implied (is_two_phase (class_of server.0)) (is_covering tx (at_server here server) inc m.served) && nat_le (part_of tx (at_server here server) inc).voted (part_of tx (at_server here server) inc).served)
    && (implied (is_two_phase (class_of server.0)) (cast_ok m.served m.vote && alike (nat_lt (part_of tx (at_server here server) inc).voted (part_of tx (at_server here server) inc).served) (not (rules.is_covering m)))
    && (implied (learns_outcome (class_of server.0)) (alike (may_learn_still (part_of tx (at_server here server) inc)) (rules.is_to_learn (class_of server.0) m))
    && implied (rules.is_immediate (class_of server.0)) (alike (part_of tx (at_server here server) inc).due m.fresh)))

abbrev servers : List ServerNo
servers = map (λ (n : ℕ). record { 0 = n }) (0 ∷ 1 ∷ 2 ∷ 3 ∷ 4 ∷ 5 ∷ 6 ∷ [])

-- ---- a transaction

abbrev known_ok : Option Outcome → TransactionValue → Bool
known_ok None tx = true
known_ok (Some o) tx = is_outcome o tx.cell

abbrev is_abort_known : Option Outcome → Bool
is_abort_known (Some outcomes.Abort) = true
is_abort_known o = false

abbrev small : List ℕ
small = 0 ∷ 1 ∷ 2 ∷ 3 ∷ []

abbrev sent_ok : TransactionValue → NodeNo → ℕ → Participant → ℕ → Bool
sent_ok tx here inc part q = (q == here.0) || (sent_in inc (sent_on tx (record { from = here; to = record { 0 = q } })) == (peer_of part.engage (record { 0 = q })).sent)

abbrev client_ok : TransactionValue → NodeNo → ℕ → Face → ℕ → Bool
client_ok tx here inc face k =
    ((part_of tx (borrower (record { 0 = k }) here) inc).made == length (filter (is_loan_here (record { 0 = k }) inc) face.loans))
    && ((part_of tx (borrower (record { 0 = k }) here) inc).yielded == length (filter (is_given_back (record { 0 = k }) inc) face.loans))

abbrev note_ok : NodeNo → ℕ → Tid → TransactionValue → Participant → ℕ → Bool
note_ok here inc tid tx part count = implied (has_note tx (record { node = here; inc = inc; text = note_text tid here.0 (count + 1) })) (has_noted (count + 1) part || awaits_note part)

abbrev delivery_ok : NodeNo → TransactionValue → Face → ServerNo → Delivery → Bool
delivery_ok here tx face server delivery =
    nat_le (length (filter (is_numbered at) (face.waiting server))) (length (filter (is_standing (at_server here server)) (requests_at tx at)))
  where
    at : RequestNo
    at = record { link = record { from = delivery.from; to = here }; number = delivery.number }

abbrev queue_ok : NodeNo → TransactionValue → Face → ServerNo × QueueValue → Bool
queue_ok here tx face queue = list_all (delivery_ok here tx face queue.0) (face.waiting queue.0)

abbrev home_ok : TransactionValue → Option Participant → Bool
home_ok tx None = not (is_open tx.cell)
home_ok tx (Some part) = implied (is_open tx.cell) (alike (is_some tx.asked) part.asked) && (is_some part.outcome || is_open tx.cell)

abbrev tid_ok : NodeValue → Tid → TransactionValue → Face → Bool
tid_ok node tid tx face =
    ((length (part_in face).members == 7) && (not (is_held tx face) || list_all (λ (s : ServerNo). part_ok tx node.setting.node node.setting.inc s (member_of (part_in face) s)) servers))
    && (implied (part_in face).asked (is_some tx.asked)
    && (known_ok (part_in face).outcome tx
    && (implied (learnt_abort tx node.setting.node node.setting.inc) (is_abort_known (part_in face).outcome)
    && ((sent_in node.setting.inc (sent_on tx (record { from = node.setting.node; to = node.setting.node })) == face.local)
    && ((not (is_held tx face) || list_all (sent_ok tx node.setting.node node.setting.inc (part_in face)) small)
    && (((part_of tx (at_server node.setting.node rules.files_no) node.setting.inc).pending == face.changes)
    && ((not (is_held tx face) || list_all (note_ok node.setting.node node.setting.inc tid tx (part_in face)) small)
    && (list_all (queue_ok node.setting.node tx face) node.queues
    && (list_all (client_ok tx node.setting.node node.setting.inc face) small
    && implied ((tid.home.0 == node.setting.node.0) && (tid.inc == node.setting.inc)) (home_ok tx face.known))))))))))

abbrev begun_ok : NodeValue → Tid → Bool
begun_ok node tid = implied (tid.home.0 == node.setting.node.0) (nat_lt tid.inc node.setting.inc || ((tid.inc == node.setting.inc) && nat_le tid.seq node.manager.begun))

abbrev entry_ok : NodeValue → Tid × TransactionValue → Bool
entry_ok node entry = tid_ok node entry.0 entry.1 (face_of node entry.0) && begun_ok node entry.0

-- whatever the node has something of stands in the machine
abbrev stands : BookValue → Tid → Bool
stands book tid = is_some (find_transaction book tid)

abbrev waiting_tids : ServerNo × QueueValue → List Tid
waiting_tids queue = map (λ (d : Delivery). d.tid) queue.1.waiting

abbrev tids_of : NodeValue → List Tid
tids_of node =
    map (λ (e : Tid × Participant). e.0) node.manager.known ++ (map (λ (e : Tid × ℕ). e.0) node.locals ++ (map (λ l. l.tid) node.kept.now.loans
    ++ (flat_map waiting_tids node.queues ++ map (λ e. e.0) node.servers.files.table.shares)))

-- ---- clients

abbrev owner_at : BookValue → ClientNo → (Owner → Bool) → Bool
owner_at book client test = elim (slice_get book.owners client.0) [ None ↦ false | Some owner ↦ test owner ]

abbrev command_ok : BookValue → ClientNo × OpenCommand → Bool
command_ok book entry = owner_at book entry.0 (λ owner. nat_lt owner.line entry.1.line.line)

abbrev owns : BookValue → Tid → ClientNo → Bool
owns book tid client = elim (find_transaction book tid) [ None ↦ false | Some tx ↦ (elim tx.owner [ None ↦ false | Some owner ↦ owner.0 == client.0 ]) ]

abbrev pub label_ok : BookValue → KeptLabel → Bool
label_ok book begun = elim begun.tid [ None ↦ true | Some tid ↦ (elim begun.owner [ None ↦ true | Some client ↦ owns book tid client ]) ]

abbrev told_ok : BookValue → Decided → Option ClientNo → Bool
told_ok book decided None = true
told_ok book decided (Some client) = owner_at book client (λ owner. is_known owner (outcome_answer decided))

abbrev pub ended_ok : BookValue → Decided → Bool
ended_ok book decided = elim (find_transaction book decided.tid) [ None ↦ false | Some tx ↦ is_outcome decided.outcome tx.cell && told_ok book decided tx.owner ]

abbrev is_asking : NodeValue → Tid → ClientNo → Bool
is_asking node tid client = elim (lookup (is_at (client_cmp client)) node.commands) [
  | None ↦ false
  | Some command ↦ (is_commit_command command.line.command && is_none command.issued)
      && (elim (label_at command.line.label node) [
        | None ↦ false
        | Some begun ↦ (elim begun.tid [ None ↦ false | Some other ↦ same_tid other tid ]) && (elim begun.owner [ None ↦ false | Some owner ↦ owner.0 == client.0 ])
      ])
]

abbrev asking_ok : BookValue → NodeValue → Tid × Participant → Bool
asking_ok book node entry =
    implied ((entry.0.home.0 == node.setting.node.0) && (is_none entry.1.outcome && entry.1.asked))
    (elim (find_transaction book entry.0) [ None ↦ true | Some tx ↦ (elim tx.owner [ None ↦ true | Some client ↦ is_asking node entry.0 client ]) ])

-- ---- all of it

abbrev state_ok : NodeValue → machine.NodeValue → Bool
state_ok node state =
    (state.up && ((state.inc == node.setting.inc) && (state.begun == node.manager.begun)))
    && (((machine.extra_of state.format == node.setting.extra) && (machine.keep_of state.format == node.setting.keep))
    && ((node.manager.node.0 == node.setting.node.0) && (node.manager.inc == node.setting.inc)))

abbrev pub holds_test : BookValue → NodeValue → Bool
holds_test book node =
    ((length book.nodes == node.setting.nodes)
    && (elim (slice_get book.nodes node.setting.node.0) [ None ↦ false | Some state ↦ state_ok node state && servers_ok book node.setting.node state node.servers ]))
    && ((list_all (waits_ok node) book.transactions && list_all (idle_ok book) node.servers.files.table.shares)
    && ((list_all (entry_ok node) book.transactions && list_all (stands book) (tids_of node))
    && ((list_all (command_ok book) node.commands && list_all (label_ok book) node.kept.now.labels)
    && (list_all (ended_ok book) node.kept.now.outcomes && list_all (asking_ok book node) node.manager.known))))
