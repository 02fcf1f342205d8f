-- What the machine has of a world beside each node, as tests: homes have what is committed, owners and labels are theirs, and what waits is known; and where no node has
-- stopped and no vote was against, each request that stands waits somewhere, and its issuer waits for it.
use Rattle.std.specs.Prelude.{ℕ, ◌+◌, ◌==◌, ◌^◌, Bool, true, false, not, ◌&&◌, ◌||◌, List, [], ◌∷◌, None, Some, is_none, is_some, nat_le, nat_lt, slice_get}
use Rattle.std.specs.List.{list_all, list_any}
use Rattle.qs_base.specs.declared.identifiers.Class.TheVariants as classes
use Rattle.qs_base.specs.declared.identifiers.Class.{Class}
use Rattle.qs_base.specs.declared.identifiers.ClientNo.{ClientNo}
use Rattle.qs_base.specs.declared.identifiers.Member.{Member}
use Rattle.qs_base.specs.declared.identifiers.NodeNo.{NodeNo}
use Rattle.qs_base.specs.declared.identifiers.ServerNo.{ServerNo}
use Rattle.qs_base.specs.declared.identifiers.Tid.{Tid}
use Rattle.qs_engage.specs.Nodes.{same_node}
use Rattle.qs_ipc.specs.Queue.{QueueValue}
use Rattle.qs_ipc.specs.declared.delivery.Delivery.{Delivery}
use Rattle.qs_node_kept.specs.declared.kept.KeptLabel.{KeptLabel}
use Rattle.qs_book_machine.specs.Book.{BookValue, find_transaction}
use Rattle.qs_book_machine.specs.Nodes as machine
use Rattle.qs_book_machine.specs.Transaction.{TransactionValue, agrees, is_commit, is_empty, is_open, sent_in, sent_on}
use Rattle.qs_book_machine.specs.declared.state.OnRecord.{OnRecord}
use Rattle.qs_book_machine.specs.declared.state.Voter.{Voter}
use Rattle.qs_book_machine.specs.declared.transaction.Life.{Life}
use Rattle.qs_book_machine.specs.declared.transaction.Part.{Part}
use Rattle.qs_book_machine.specs.declared.transaction.Request.{Request}
use Rattle.qs_book_machine.specs.declared.transaction.RequestNo.{RequestNo}
use Rattle.qs_ops.specs.Members.{class_of, is_two_phase}
use Rattle.qs_node_step.specs.Requests.{waits_as}
use Rattle.qs_node_step.specs.Serving.{label_at}
use Rattle.qs_node_step.specs.State.{NodeValue}
use Rattle.qs_node_step.specs.Step.{is_owner}
use Rattle.qs_node_step.specs.declared.state.OpenCommand.{OpenCommand}
use Rattle.qs_tm.specs.Manager as tm
use Rattle.qs_tm.specs.Participant.{is_answered_by, is_by_files}
use Rattle.qs_tm.specs.declared.participant.Outstanding.{Outstanding}
use Rattle.qs_tm.specs.declared.participant.Participant.{Participant}
use Rattle.qs_world.specs.World.{Opening, World}
use Rattle.qs_world_refine.specs.Sound.{is_engaged}
use Rattle.qs_world_lawful.specs.Beside.{is_committed_at}
use Rattle.qs_world_runs.specs.Awaited.{is_lent_to}
use Rattle.qs_world_runs.specs.Labels.{is_owned_in}
use Rattle.qs_world_runs.specs.Placed.{Field, asked, field_of, goes_there, standing, waiting}
use Rattle.qs_world_trials.specs.RecordTests.{each_running}
use Rattle.qs_world_trials.specs.WorldTests.{each_node}

-- ---- homes, owners, labels, and what waits

abbrev has_home : World → Tid × TransactionValue → Bool
has_home world entry = not (is_commit entry.1.cell && nat_lt entry.0.home.0 world.size) || is_committed_at (world.hosts entry.0.home.0).node entry.0

abbrev pub is_at_home : Opening → BookValue → World → Bool
is_at_home o book world = list_all (has_home world) book.transactions

abbrev has_owner : BookValue → Tid × TransactionValue → Bool
has_owner book entry = elim entry.1.owner [ None ↦ true | Some client ↦ is_some (slice_get book.owners client.0) ]

abbrev pub is_owned : Opening → BookValue → World → Bool
is_owned o book world = list_all (has_owner book) book.transactions

abbrev is_own_label : NodeNo → List KeptLabel → KeptLabel → Bool
is_own_label here labels begun = elim begun.tid [ None ↦ true | Some tid ↦ not (same_node tid.home here) || is_owned_in labels tid ]

abbrev has_label : NodeNo → List KeptLabel → Tid × TransactionValue → Bool
has_label here labels entry = not (is_some entry.1.owner && same_node entry.0.home here) || is_owned_in labels entry.0

abbrev is_labelled_at : BookValue → NodeNo → List KeptLabel → Bool
is_labelled_at book here labels = list_all (is_own_label here labels) labels && list_all (has_label here labels) book.transactions

abbrev pub is_labelled : Opening → BookValue → World → Bool
is_labelled o book world = each_node (λ (n : ℕ). is_labelled_at book (world.hosts n).node.setting.node (world.hosts n).node.kept.now.labels) world

abbrev is_known_queue : BookValue → ServerNo × QueueValue → Bool
is_known_queue book queue = list_all (λ (delivery : Delivery). is_some (find_transaction book delivery.tid)) queue.1.waiting

abbrev pub is_queued : Opening → BookValue → World → Bool
is_queued o book world = each_node (λ (n : ℕ). list_all (is_known_queue book) (world.hosts n).node.queues) world

-- what is on record of a node that runs has begun, and its clock is that of its timers
abbrev is_beside_at : BookValue → NodeValue → machine.NodeValue → Bool
is_beside_at book node state = list_all (λ (entry : Voter × OnRecord). is_some (find_transaction book entry.0.tid)) state.records
    && ((node.servers.timers.timers.ticks == node.manager.ticks) && nat_lt node.manager.ticks (2 ^ 62))

abbrev pub is_beside : Opening → BookValue → World → Bool
is_beside o book world = each_running (λ (n : ℕ). elim (slice_get book.nodes n) [ None ↦ false | Some state ↦ is_beside_at book (world.hosts n).node state ]) world

-- ---- a request of a node that runs, to another one, waits for its reply, and is by files, of the home, or of a client with a loan

abbrev is_borrowed_by : NodeValue → Tid → Member → ℕ → ClientNo × OpenCommand → Bool
is_borrowed_by node tid member number entry = waits_as tid member number (Some entry.1)
    && (elim (label_at entry.1.line.label node) [ None ↦ false | Some begun ↦ not (is_owner entry.0 begun.owner) ] && list_any (is_lent_to entry.0 tid node.setting.inc) node.kept.now.loans)

abbrev is_held_so : NodeValue → Tid → Member → ℕ → Participant → Outstanding → Bool
is_held_so node tid member number part request = is_answered_by member number request
    && (is_by_files request || (part.engage.home || list_any (is_borrowed_by node tid member number) node.commands))

abbrev waits_so : NodeValue → Tid → Member → ℕ → Participant → Bool
waits_so node tid member number part = (is_none part.outcome && is_engaged part) && list_any (is_held_so node tid member number part) part.waiting

abbrev is_present : World → TransactionValue → RequestNo → Request → Bool
is_present world tx at request =
    (not (at.link.to.0 == at.link.from.0) && (not request.served && (request.inc == world.channels.inc at.link.from.0)))
    && (world.channels.up at.link.from.0 && nat_le at.number (sent_in (world.channels.inc at.link.from.0) (sent_on tx at.link)))

abbrev is_awaited_request : World → Tid → TransactionValue → RequestNo → Request → Bool
is_awaited_request world tid tx at request = not (is_present world tx at request)
    || tm.told_of tid false (waits_so (world.hosts at.link.from.0).node tid request.member at.number) (world.hosts at.link.from.0).node.manager

abbrev is_awaited_tx : World → Tid × TransactionValue → Bool
is_awaited_tx world entry = not (is_open entry.1.cell)
    || list_all (λ (e : RequestNo × List Request). list_all (is_awaited_request world entry.0 entry.1 e.0) e.1) entry.1.requests

abbrev pub is_awaited : Opening → BookValue → World → Bool
is_awaited o book world = list_all (is_awaited_tx world) book.transactions

-- ---- places: of what is undecided, in runs in which nothing dooms it

abbrev servers : List ServerNo
servers = record { 0 = 0 } ∷ record { 0 = 1 } ∷ record { 0 = 2 } ∷ record { 0 = 3 } ∷ record { 0 = 4 } ∷ record { 0 = 5 } ∷ record { 0 = 32 } ∷ record { 0 = 33 } ∷ record { 0 = 34 } ∷ []

abbrev has_place : Tid → Field → RequestNo → List Request → ServerNo → Bool
has_place tid field at requests server =
    nat_le (standing at server requests)
    (waiting tid field at server + (asked tid server at.number (field.sent at.link.from.0 at.link.to.0) + asked tid server at.number (field.kept at.link.from.0 at.link.to.0)))

abbrev is_standing_still : Request → Bool
is_standing_still request = not request.served

-- its issuer runs, and gave that number in its present incarnation
abbrev is_issued : TransactionValue → Field → RequestNo → List Request → Bool
is_issued tx field at requests =
    not (list_any is_standing_still requests) || (field.up at.link.from.0 && nat_le at.number (sent_in (field.inc at.link.from.0) (sent_on tx at.link)))

abbrev is_number_placed : Tid → TransactionValue → Field → RequestNo × List Request → Bool
is_number_placed tid tx field entry =
    ((nat_lt entry.0.link.from.0 field.size && nat_lt entry.0.link.to.0 field.size) && list_all (goes_there entry.0) entry.1)
    && (list_all (has_place tid field entry.0 entry.1) servers && is_issued tx field entry.0 entry.1)

abbrev is_activity : Class → Bool
is_activity classes.Activity = true
is_activity class = false

abbrev is_life : Field → Life × Part → Bool
is_life field entry =
    (not (is_two_phase (class_of entry.0.member.server.0)) || (entry.1.covered == entry.1.voted))
    && ((not (is_activity (class_of entry.0.member.server.0)) || (entry.1.made == entry.1.served))
    && ((nat_lt entry.0.member.node.0 field.size && (field.up entry.0.member.node.0 && (entry.0.inc == field.inc entry.0.member.node.0))) || agrees entry))

abbrev is_tx_placed : Field → Tid × TransactionValue → Bool
is_tx_placed field entry = not (is_open entry.1.cell)
    || ((list_all (is_number_placed entry.0 entry.1 field) entry.1.requests && list_all (is_life field) entry.1.parts) && (is_empty entry.1.refusals && is_empty entry.1.crossed))

abbrev pub is_placed : Opening → BookValue → World → Bool
is_placed o book world = list_all (is_tx_placed (field_of world)) book.transactions
