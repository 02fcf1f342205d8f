-- What a rule of a node is given beside what is held, at the stage at which it is used: facts of the agreement protocol, of room
-- for numbers, and of what clients and other nodes send.
use Rattle.std.specs.Prelude.{◌≡◌, ◌≢◌, ◌⊎◌, ℕ, ◌==◌, ◌≤◌, ◌<◌, true, false, List, [], ◌∷◌, length, Some, None, is_some, nat_lt, slice_get, if◌then◌else◌, ⊤}
use Rattle.qs_base.specs.Order.{tid_cmp}
use Rattle.qs_base.specs.declared.identifiers.ClientNo.{ClientNo}
use Rattle.qs_base.specs.declared.identifiers.Member.{Member}
use Rattle.qs_base.specs.declared.identifiers.NodeNo.{NodeNo}
use Rattle.qs_base.specs.declared.identifiers.ServerNo.{ServerNo}
use Rattle.qs_base.specs.declared.identifiers.Tid.{Tid}
use Rattle.qs_engage.specs.Engage.{last_number}
use Rattle.qs_engage.specs.Nodes.{same_node}
use Rattle.qs_ipc.specs.Ipc as ipc
use Rattle.qs_ipc.specs.declared.delivery.Delivery.{Delivery}
use Rattle.qs_book_laws.proofs.Rising.{IsRising}
use Rattle.qs_book_machine.specs.Book.{BookValue, find_transaction, is_done}
use Rattle.qs_book_machine.specs.Clauses.{is_cause, note_text}
use Rattle.qs_book_machine.specs.Nodes as machine
use Rattle.qs_book_machine.specs.Transaction.{TransactionValue, has_note, is_commit, is_covering, is_unanimous, may_learn_still, part_of, sent_in, sent_on, served_in}
use Rattle.qs_ops.specs.Members.{class_of, is_two_phase}
use Rattle.qs_ops.specs.declared.answer.Cause.{Cause}
use Rattle.qs_ops.specs.declared.answer.Cause.TheVariants as causes
use Rattle.qs_ops.specs.declared.reply.Reply.{Reply}
use Rattle.qs_tm.specs.Manager as tm
use Rattle.qs_tm.specs.Members as rules
use Rattle.qs_tm.specs.Participant.{awaits_note, drop_waiting, has_noted, is_by_files, is_forgotten, member_of, note_served, waiting_for}
use Rattle.qs_tm.specs.declared.participant.Outstanding.{Outstanding}
use Rattle.qs_tm.specs.declared.participant.Participant.{Participant}
use Rattle.qs_node_step.specs.Serving.{enter_serve, lent_to, make_loan, reply_here}
use Rattle.qs_node_step.specs.Settling.{is_pass_due, is_quiet, may_answer, pass_rule, ready_rule, refuse_rule, try}
use Rattle.qs_node_step.specs.State.{Work, doings_of, with_queues}
use Rattle.qs_world_lawful.specs.Entering.{book_at}
use Rattle.qs_world_lawful.specs.Face.{at_server}
use Rattle.qs_world_lawful.specs.Holds.{is_kept}

-- ---- a transaction in the machine

-- it is not committed
abbrev pub IsUncommitted : ℕ → BookValue → Work → Tid → Type 0
IsUncommitted stamp before work tid = (tx : TransactionValue) → find_transaction (book_at stamp before work) tid ≡ Some tx → is_commit tx.cell ≡ false

-- the machine finds that cause why it is aborted
abbrev pub HasCause : ℕ → BookValue → Work → Tid → Cause → Type 0
HasCause stamp before work tid cause = (state : machine.NodeValue) (tx : TransactionValue) → slice_get (book_at stamp before work).nodes work.node.setting.node.0 ≡ Some state → find_transaction (book_at stamp before work) tid ≡ Some tx
    → is_cause state (book_at stamp before work).nodes tid tx stamp cause ≡ true

-- ---- replies

-- each note of the transaction that was served is noted, or waited for
abbrev pub AreNoted : NodeNo → ℕ → Tid → TransactionValue → Participant → Type 0
AreNoted here inc tid tx part = (count : ℕ) → 1 ≤ count → has_note tx (record { node = here; inc = inc; text = note_text tid here.0 count }) ≡ true → (has_noted count part ≡ true) ⊎ (awaits_note part ≡ true)

-- the request waits no more; a note of files is noted
abbrev pub replied : Member → ℕ → Outstanding → Participant → Participant
replied member number request part = if is_by_files request then note_served request.count (drop_waiting member number part) else drop_waiting member number part

-- a reply with that member and number may come
abbrev pub MayReply : ℕ → BookValue → Work → Tid → Member → ℕ → Type 0
MayReply stamp before work tid member number = (part : Participant) (tx : TransactionValue) (request : Outstanding) → tm.part_of tid work.node.manager ≡ Some part → find_transaction (book_at stamp before work) tid ≡ Some tx
    → waiting_for member number part ≡ Some request → AreNoted work.node.setting.node work.node.setting.inc tid tx (replied member number request part)

-- ---- serving

-- what waits first at a server may be served: its count has room, a note that is served is one that files wait for, and its reply
-- may come where it was issued here
pub record MayServe (stamp : ℕ) (before : BookValue) (work : Work) (server : ServerNo) : Type 0 where
  pub room : (delivery : Delivery) (part : Participant) → ipc.next server work.node.queues ≡ Some delivery → tm.part_of delivery.tid work.node.manager ≡ Some part → is_kept server ≡ true → ((member_of part server).served == last_number) ≡ false
  pub noted : (delivery : Delivery) (reply : Reply) (part : Participant) (tx : TransactionValue) → ipc.next server work.node.queues ≡ Some delivery → tm.part_of delivery.tid work.node.manager ≡ Some part → find_transaction (book_at stamp before work) delivery.tid ≡ Some tx
      → reply_here server delivery.tid delivery.op work.node ≡ Some reply → (count : ℕ) → 1 ≤ count
      → has_note (served_in (record { link = record { from = delivery.from; to = work.node.setting.node }; number = delivery.number }) (at_server work.node.setting.node server) work.node.setting.inc stamp (is_done reply) tx)
      (record { node = work.node.setting.node; inc = work.node.setting.inc; text = note_text delivery.tid work.node.setting.node.0 count }) ≡ true → (has_noted count part ≡ true) ⊎ (awaits_note part ≡ true)
  pub reply : (delivery : Delivery) (said : Reply) → ipc.next server work.node.queues ≡ Some delivery → reply_here server delivery.tid delivery.op work.node ≡ Some said → same_node delivery.from work.node.setting.node ≡ true
      → MayReply stamp before (make_loan delivery.tid (lent_to delivery.op) (enter_serve server delivery said (with_queues (ipc.after_next server) work))) delivery.tid (at_server work.node.setting.node server) delivery.number

-- ---- the vote pass

-- what has a vote due is not committed, and audit is of the run
pub record MayPass (stamp : ℕ) (before : BookValue) (work : Work) (tid : Tid) (part : Participant) : Type 0 where
  pub open_still : IsUncommitted stamp before work tid
  pub audit : (to : NodeNo) → work.node.setting.audit ≡ Some to → (nat_lt to.0 work.node.setting.nodes ≡ true) × (to.0 < length part.engage.peers)

-- ---- decisions

-- it began here since the node started, of a client of the run
pub record MayDecide (stamp : ℕ) (before : BookValue) (work : Work) (tid : Tid) : Type 0 where
  pub home : tid.home ≡ work.node.setting.node
  pub inc : tid.inc ≡ work.node.setting.inc
  pub owner : (tx : TransactionValue) (client : ClientNo) → find_transaction (book_at stamp before work) tid ≡ Some tx → tx.owner ≡ Some client → is_some (slice_get (book_at stamp before work).owners client.0) ≡ true

-- it is unanimous in the machine, and where its Commit finds no room the machine finds so
pub record MayCommit (stamp : ℕ) (before : BookValue) (work : Work) (tid : Tid) : Type 0 where
  pub decides : MayDecide stamp before work tid
  pub agreed : (tx : TransactionValue) → find_transaction (book_at stamp before work) tid ≡ Some tx → is_unanimous tx ≡ true
  pub room : (need : ℕ) → tm.need_past tid work.room work.node.manager ≡ Some need → HasCause stamp before work tid (causes.Room need work.room)

-- ---- forgetting what was read

-- the machine has nothing due of it here: each count may begin anew, nothing was sent from here, and no note was served
pub record HasOnlyRead (here : NodeNo) (inc : ℕ) (tid : Tid) (tx : TransactionValue) : Type 0 where
  pub covers : (server : ServerNo) → is_kept server ≡ true → is_two_phase (class_of server.0) ≡ true → is_covering tx (at_server here server) inc 0 ≡ true  -- clause 41
  pub learns : (server : ServerNo) → is_kept server ≡ true → may_learn_still (part_of tx (at_server here server) inc) ≡ false  -- clauses 95 to 97
  pub ends : (server : ServerNo) → is_kept server ≡ true → rules.is_immediate (class_of server.0) ≡ true → (part_of tx (at_server here server) inc).due ≡ false  -- clause 90
  pub sent : (peer : NodeNo) → peer.0 ≢ here.0 → sent_in inc (sent_on tx (record { from = here; to = peer })) ≡ 0
  pub noted : (count : ℕ) → 1 ≤ count → has_note tx (record { node = here; inc = inc; text = note_text tid here.0 count }) ≡ false

pub record MayForget (stamp : ℕ) (before : BookValue) (work : Work) (tid : Tid) : Type 0 where
  pub away : tid.home ≢ work.node.setting.node
  pub once : IsRising tid_cmp work.node.manager.known
  pub read : (tx : TransactionValue) → find_transaction (book_at stamp before work) tid ≡ Some tx → HasOnlyRead work.node.setting.node work.node.setting.inc tid tx

-- ---- settling

-- the four rules of a transaction, each over what those before it left
pub record MaySettle (stamp : ℕ) (before : BookValue) (work : Work) (tid : Tid) : Type 0 where
  pub passes : (part : Participant) → tm.part_of tid work.node.manager ≡ Some part → is_pass_due tid part work ≡ true → MayPass stamp before work tid part
  pub commits : (part : Participant) → tm.part_of tid (try tid pass_rule work).node.manager ≡ Some part → part.outcome ≡ None → part.engage.home ≡ true → may_answer tid part (try tid pass_rule work) ≡ true
      → is_quiet (doings_of tid (try tid pass_rule work)) ≡ true → MayCommit stamp before (try tid pass_rule work) tid
  pub aborts : (part : Participant) (cause : Cause) (more : List Cause) → tm.part_of tid (try tid ready_rule (try tid pass_rule work)).node.manager ≡ Some part → part.outcome ≡ None → part.engage.home ≡ true → part.causes ≡ cause ∷ more
      → MayDecide stamp before (try tid ready_rule (try tid pass_rule work)) tid × HasCause stamp before (try tid ready_rule (try tid pass_rule work)) tid cause
  pub forgets : (part : Participant) → tm.part_of tid (try tid refuse_rule (try tid ready_rule (try tid pass_rule work))).node.manager ≡ Some part → is_forgotten part ≡ true
      → MayForget stamp before (try tid refuse_rule (try tid ready_rule (try tid pass_rule work))) tid
