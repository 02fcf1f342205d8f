-- What stands beside the relation, as tests: a twin of each part, so that it can be tried on the states of runs.
use Rattle.std.specs.Prelude.{ℕ, ◌-◌, ◌==◌, Bool, true, false, not, ◌&&◌, ◌||◌, List, [], ◌∷◌, ◌++◌, length, Option, Some, None, is_some, slice_get, nat_le, nat_lt, suc, if◌then◌else◌}
use Rattle.std.specs.List.{list_all, list_any}
use Rattle.std.specs.Map.{lookup}
use Rattle.std.specs.BTreeMap.{is_at}
use Rattle.qs_base.specs.declared.identifiers.ClientNo.{ClientNo}
use Rattle.qs_base.specs.declared.identifiers.Tid.{Tid}
use Rattle.qs_engage.specs.Engage.{peer_of}
use Rattle.qs_engage.specs.Nodes.{listed, same_node}
use Rattle.qs_ipc.specs.Queue.{is_for}
use Rattle.qs_book_journal.specs.declared.script_line.Command.{Command}
use Rattle.qs_book_journal.specs.declared.script_line.Command.TheVariants as commands
use Rattle.qs_node_kept.specs.Loans.{is_standing_loan}
use Rattle.qs_node_kept.specs.declared.kept.KeptLabel.{KeptLabel}
use Rattle.qs_node_kept.specs.declared.kept.Lent.{Lent}
use Rattle.qs_book_machine.specs.Book.{BookValue, find_transaction}
use Rattle.qs_book_machine.specs.Clauses.{has_no_record, is_fresh, is_gone_cause, note_text}
use Rattle.qs_book_machine.specs.Nodes as machine
use Rattle.qs_book_machine.specs.Transaction.{TransactionValue, has_note, has_refusal, is_abort, is_commit, is_covering, is_outcome, part_of}
use Rattle.qs_ops.specs.Members.{class_of, is_two_phase}
use Rattle.qs_ops.specs.declared.answer.Cause.{Cause}
use Rattle.qs_ops.specs.declared.answer.Cause.TheVariants as causes
use Rattle.qs_ops.specs.declared.operation.Op.{Op}
use Rattle.qs_packet.specs.declared.message.Message.{Message}
use Rattle.qs_packet.specs.declared.message.Message.TheVariants as messages
use Rattle.qs_node_step.specs.Answering.{kept_outcome, was_committed}
use Rattle.qs_node_step.specs.Requests.{local_count}
use Rattle.qs_node_step.specs.State.{NodeValue, client_cmp}
use Rattle.qs_node_step.specs.Telling.{is_other_node}
use Rattle.qs_node_step.specs.declared.state.OpenCommand.{OpenCommand}
use Rattle.qs_tm.specs.Manager as tm
use Rattle.qs_tm.specs.Members as rules
use Rattle.qs_tm.specs.Participant.{has_noted, is_answered_by, is_undecided, member_of, needs_pass}
use Rattle.qs_tm.specs.declared.participant.Outstanding.{Outstanding}
use Rattle.qs_tm.specs.declared.participant.Participant.{Participant}
use Rattle.qs_world.specs.Driven.{up_to}
use Rattle.qs_world.specs.Openings.{are_rising, labels_begun}
use Rattle.qs_world.specs.World.{Client, Parcel, World}
use Rattle.qs_world_lawful.specs.Beside.{awaits_count, has_issued}
use Rattle.qs_world_lawful.specs.Face.{at_server, waiting_at}
use Rattle.qs_world_lawful.specs.NodeFacts.{given_to}
use Rattle.qs_world_lawful.specs.Parcels.{on_its_way, ops_of, way_between}
use Rattle.qs_world_lawful.specs.Waits.{standing_ops, waiting_ops}
use Rattle.qs_world_lawful.specs.TableTests.{same_op}

abbrev implied : Bool → Bool → Bool
implied true b = b
implied false b = true

abbrev alike : Bool → Bool → Bool
alike true b = b
alike false b = not b

-- ---- a node by itself

abbrev are_apart : List Outstanding → Bool
are_apart [] = true
are_apart (request ∷ rest) = not (list_any (is_answered_by request.member request.number) rest) && are_apart rest

abbrev young_test : NodeValue → Participant → Bool
young_test node part = nat_le part.begun_at node.manager.ticks && elim node.setting.age [ None ↦ true | Some age ↦ nat_lt (node.manager.ticks - part.begun_at) age ]

-- what waits has one of the numbers that were given
abbrev numbered_test : NodeValue → Tid × Participant → Outstanding → Bool
numbered_test node entry request = nat_le request.number (given_to node.setting.node (local_count entry.0 node) entry.1.engage request.member.node)

-- who answers to nobody has nothing due, and who is not involved sent nothing
abbrev quiet_test : Participant → Bool
quiet_test part =
    implied (not part.engage.home && is_undecided part) (is_some part.engage.superior || not (needs_pass part))
    && implied (not part.involved) (list_all (λ (peer : ℕ). (peer_of part.engage (record { 0 = peer })).sent == 0) (up_to 4))

abbrev part_test : NodeValue → Tid × Participant → Bool
part_test node entry = quiet_test entry.1
    && (alike entry.1.engage.home (same_node entry.0.home node.setting.node) && ((length entry.1.engage.peers == 16) && implied entry.1.log.prepared entry.1.log.unended))
    && ((nat_lt (length (listed entry.1.told)) node.setting.nodes && (are_apart entry.1.waiting && list_all (numbered_test node entry) entry.1.waiting))
    && implied (entry.1.engage.home && is_undecided entry.1) ((entry.0.inc == node.setting.inc) && young_test node entry.1))

abbrev owned_test : NodeValue → Tid → Bool
owned_test node tid = same_node tid.home node.setting.node && (is_some (kept_outcome tid node) || tm.told_of tid false is_undecided node.manager)

abbrev label_test : NodeValue → KeptLabel → Bool
label_test node begun = implied (is_some begun.owner) (elim begun.tid [ None ↦ true | Some tid ↦ owned_test node tid ])

abbrev loan_test : NodeValue → Lent → Bool
loan_test node loan = implied (is_standing_loan loan.tid node.setting.inc loan) (tm.knows loan.tid node.manager)

abbrev fits_test : ℕ → Command → Bool
fits_test size command = elim command [
  | commands.Begin ↦ true
  | commands.Commit ↦ true
  | commands.Abort ↦ true
  | commands.Take ↦ true
  | commands.Yield ↦ true
  | commands.Request member op ↦ is_for member.server op && nat_lt member.node.0 size
]

abbrev command_test : NodeValue → ClientNo × OpenCommand → Bool
command_test node entry = nat_lt entry.0.0 64 && fits_test node.setting.nodes entry.1.line.command

abbrev pub node_test : NodeValue → Bool
node_test node =
    (list_all (part_test node) node.manager.known && list_all (label_test node) node.kept.now.labels)
    && (list_all (loan_test node) node.kept.now.loans && list_all (command_test node) node.commands)

-- ---- the machine beside it

abbrev true_in : BookValue → TransactionValue → Cause → Bool
true_in book tx (causes.Voted member reason) = has_refusal tx member reason
true_in book tx (causes.Gone peer inc) = is_gone_cause (slice_get book.nodes peer.0) tx peer inc
true_in book tx _ = false

abbrev true_cause : BookValue → Tid → Cause → Bool
true_cause book tid cause = elim (find_transaction book tid) [ None ↦ false | Some tx ↦ true_in book tx cause ]

abbrev note_test : NodeValue → Tid → TransactionValue → Participant → ℕ → Bool
note_test node tid tx part count =
    implied (has_issued tx node.setting.node node.setting.inc (note_text tid node.setting.node.0 (suc count))) (has_noted (suc count) part || awaits_count (suc count) part)
    && implied (has_note tx (record { node = node.setting.node; inc = node.setting.inc; text = note_text tid node.setting.node.0 (suc count) })) (has_issued tx node.setting.node node.setting.inc (note_text tid node.setting.node.0 (suc count)))

-- what files have pending here
abbrev pending_of : NodeValue → TransactionValue → ℕ
pending_of node tx = (part_of tx (at_server node.setting.node rules.files_no) node.setting.inc).pending

abbrev reader_test : NodeValue → TransactionValue → Participant → ℕ → Bool
reader_test node tx part server =
    implied (is_two_phase (class_of server) && rules.has_read (record { 0 = server }) (member_of part (record { 0 = server })))
    (is_covering tx (at_server node.setting.node (record { 0 = server })) node.setting.inc 0 && not ((member_of part (record { 0 = server })).fresh && not (rules.is_let_go (member_of part (record { 0 = server })))))
    && implied (rules.is_told_class (class_of server) && (member_of part (record { 0 = server })).fresh) part.involved

abbrev counted_test : NodeValue → Tid → TransactionValue → ℕ → Bool
counted_test node tid tx count = implied (has_issued tx node.setting.node node.setting.inc (note_text tid node.setting.node.0 (suc count))) (nat_lt count (pending_of node tx))

abbrev reads_test : NodeValue → Tid → TransactionValue → Participant → Bool
reads_test node tid tx part =
    list_all (reader_test node tx part) (up_to 7)
    && (implied (rules.has_read rules.files_no (member_of part rules.files_no)) (pending_of node tx == 0) && list_all (counted_test node tid tx) (up_to 4))

abbrev outcome_test : TransactionValue → Participant → Bool
outcome_test tx part = implied part.asked (is_some tx.asked) && elim part.outcome [ None ↦ true | Some o ↦ is_outcome o tx.cell ]

abbrev beside_part : BookValue → machine.NodeValue → NodeValue → Tid → TransactionValue → Participant → Bool
beside_part book state node tid tx part =
    (list_all (note_test node tid tx part) (up_to 4) && (outcome_test tx part && implied (is_undecided part) (list_all (true_cause book tid) part.causes && reads_test node tid tx part)))
    && implied (part.engage.home && is_undecided part) ((tx.begun_at == part.begun_at) && implied (not part.log.unended) (has_no_record state tid))

-- of what a node does not know files issued no note here, and have nothing pending
abbrev stranger_test : NodeValue → Tid → TransactionValue → Bool
stranger_test node tid tx = is_commit tx.cell
    || (list_all (λ (count : ℕ). not (has_issued tx node.setting.node node.setting.inc (note_text tid node.setting.node.0 (suc count)))) (up_to 4) && (pending_of node tx == 0))

abbrev ended_test : NodeValue → Tid → TransactionValue → Bool
ended_test node tid tx =
    implied (same_node tid.home node.setting.node) (implied (is_commit tx.cell) (was_committed tid node)
    && implied (not (tm.knows tid node.manager || was_committed tid node)) (is_abort tx.cell))

abbrev owner_test : BookValue → TransactionValue → Bool
owner_test book tx = elim tx.owner [ None ↦ true | Some client ↦ is_some (slice_get book.owners client.0) ]

abbrev beside_test : BookValue → machine.NodeValue → NodeValue → Tid × TransactionValue → Bool
beside_test book state node entry =
    (elim (tm.part_of entry.0 node.manager) [ None ↦ stranger_test node entry.0 entry.1 | Some part ↦ beside_part book state node entry.0 entry.1 part ] && ended_test node entry.0 entry.1) && owner_test book entry.1

abbrev pub holds_beside_test : BookValue → NodeValue → Bool
holds_beside_test book node = elim (slice_get book.nodes node.setting.node.0) [
  | None ↦ false
  | Some state ↦ (list_all (beside_test book state node) book.transactions && (state.timers.ticks == node.manager.ticks))
      && list_all (λ (entry : Tid × Participant). is_some (find_transaction book entry.0)) node.manager.known
]

-- ---- messages

abbrev in_cell : BookValue → Tid → (TransactionValue → Bool) → Bool
in_cell book tid test = elim (find_transaction book tid) [ None ↦ false | Some tx ↦ test tx ]

abbrev said_test : BookValue → ℕ → Message → Bool
said_test book m (messages.Request tid label member number issuer op) = in_cell book tid (λ tx. true)
said_test book m (messages.AskVote tid) = in_cell book tid (λ tx. is_some tx.asked)
said_test book m (messages.VotedAbort tid cause) = true_cause book tid cause
said_test book m (messages.Tell tid outcome) = in_cell book tid (λ tx. is_outcome outcome tx.cell)
said_test book m (messages.Told tid further) = implied (list_any (is_other_node tid) further) (in_cell book tid (λ tx. is_abort tx.cell))
said_test book m (messages.Inquire tid) = (tid.home.0 == m) && in_cell book tid (λ tx. true)
said_test book m _ = true

abbrev parcel_test : BookValue → ℕ → ℕ → ℕ → Parcel → Bool
parcel_test book size n m parcel = (not (n == m) && (nat_lt n size && nat_lt m size)) && said_test book m parcel.message

abbrev link_test : BookValue → World → ℕ → ℕ → Bool
link_test book world n m =
    list_all (λ (i : ℕ). list_all (λ (j : ℕ). list_all (parcel_test book world.size n m) (world.channels.posted n m i j)) (up_to 4)) (up_to 4)
    && list_all (parcel_test book world.size n m) (world.channels.waits n m)

-- each stands in the other list, in that order: the first that fits is taken
abbrev is_within : List Op → List Op → Bool
is_within [] rs = true
is_within (d ∷ ds) [] = false
is_within (d ∷ ds) (r ∷ rs) = if same_op d r then is_within ds rs else is_within (d ∷ ds) rs

abbrev way_test : BookValue → World → ℕ → ℕ → Tid × TransactionValue → Bool
way_test book world n m entry = list_all (λ (server : ℕ). list_all (λ (number : ℕ).
    is_within (waiting_ops (way_between n m number) (waiting_at (world.hosts m).node entry.0 (record { 0 = server })) ++ ops_of entry.0 (record { 0 = server }) number (on_its_way world.channels n m))
    (standing_ops entry.1 (way_between n m number) (record { 0 = m }) (record { 0 = server }))) (up_to 6)) (up_to 6)

abbrev pub channels_test : BookValue → World → Bool
channels_test book world = list_all (λ (n : ℕ). list_all (λ (m : ℕ). link_test book world n m && ((n == m) || list_all (way_test book world n m) book.transactions)) (up_to world.size)) (up_to world.size)

-- ---- clients

abbrev in_hand : ℕ → Client → Option OpenCommand → Bool
in_hand n client None = true
in_hand n client (Some command) = ((client.at == n) && client.is_handed) && elim (slice_get client.lines 0) [ None ↦ false | Some line ↦ line.line == command.line.line ]

abbrev client_test : BookValue → World → ℕ → Bool
client_test book world k =
    (elim (slice_get book.owners k) [ None ↦ false | Some owner ↦ are_rising owner.line (world.clients k).lines ] && list_all (is_fresh book.labels) (labels_begun (world.clients k).lines))
    && list_all (λ (n : ℕ). not (world.channels.up n) || in_hand n (world.clients k) (lookup (is_at (client_cmp (record { 0 = k }))) (world.hosts n).node.commands)) (up_to world.size)

abbrev pub clients_test : BookValue → World → Bool
clients_test book world = list_all (client_test book world) (up_to 4)
