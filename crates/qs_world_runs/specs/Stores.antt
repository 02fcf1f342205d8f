-- What a step has of its servers, of its records and of what it keeps of transactions. Each thing that a rule does to these is named here: what all
-- of them keep, a whole step keeps.
use Rattle.std.specs.Prelude.{◌≡◌, ℕ, ⊤, true, List, [], ◌∷◌, ◌++◌, Option, Some, None}
use Rattle.qs_base.specs.declared.identifiers.ClientNo.{ClientNo}
use Rattle.qs_base.specs.declared.identifiers.ServerNo.{ServerNo}
use Rattle.qs_base.specs.declared.identifiers.Tid.{Tid}
use Rattle.qs_ipc.specs.Queue.{is_for}
use Rattle.qs_node_kept.specs.declared.kept.KeptLabel.{KeptLabel}
use Rattle.qs_ops.specs.Server.{ServerValue, after_notice, after_serving, after_vote, changes_in, reply_of}
use Rattle.qs_ops.specs.Timers.{ticked}
use Rattle.qs_ops.specs.declared.operation.Op.{Op}
use Rattle.qs_ops.specs.declared.reply.Reply.{Reply}
use Rattle.qs_ops.specs.declared.vote.Notice.{Notice}
use Rattle.qs_ops.specs.declared.vote.Vote.{Vote}
use Rattle.qs_packet.specs.declared.message.Message.{Message}
use Rattle.qs_packet.specs.declared.message.Message.TheVariants as messages
use Rattle.qs_record.specs.declared.record.Record.{Record}
use Rattle.qs_record.specs.declared.record.Record.TheVariants as records
use Rattle.qs_node_servers.specs.Servers.{ServersValue, server_at, timers_no, with_server}
use Rattle.qs_node_step.specs.Bringing.{tid_of}
use Rattle.qs_node_step.specs.Serving.{label_at}
use Rattle.qs_node_step.specs.State.{Work}
use Rattle.qs_node_step.specs.Step.{is_owner}
use Rattle.qs_node_step.specs.declared.event.Event.{Event}
use Rattle.qs_node_step.specs.declared.event.Event.TheVariants as events
use Rattle.qs_tm.specs.Manager as tm
use Rattle.qs_tm.specs.declared.manager.Manager.{Manager}
use Rattle.qs_tm.specs.declared.participant.Participant.{Participant}

pub record Store : Type 0 where
  pub servers : ServersValue
  pub records : List Record
  pub manager : Manager

abbrev pub store_of : Work → Store
store_of work = record { servers = work.node.servers; records = work.out.records; manager = work.node.manager }

-- ---- what a rule does

abbrev pub changed : ServerNo → (ServerValue → ServerValue) → Store → Store
changed server f s = record s { servers = with_server server f s.servers }

abbrev pub managed : (Manager → Manager) → Store → Store
managed f s = record s { manager = f s.manager }

-- the record is appended
abbrev pub recorded : Record → Store → Store
recorded rec s = record s { records = s.records ++ rec ∷ []; manager = tm.logged (tid_of rec) rec s.manager }

-- a record that is no vote
abbrev pub IsNoVote : Record → Type 0
IsNoVote (records.Prepare tid server covers changes) = ⊥
IsNoVote rec = ⊤

abbrev pub IsNoVoteIf : Option Record → Type 0
IsNoVoteIf None = ⊤
IsNoVoteIf (Some rec) = IsNoVote rec

-- ---- what all that keep, where commit may be asked for of those transactions

pub record IsKeptStore (A : Tid → Type 0) (P : Store → Type 0) : Type 0 where
  pub serves : (s : Store) (server : ServerNo) (tid : Tid) (op : Op) (reply : Reply) → is_for server op ≡ true → reply_of (server_at s.servers server) tid op ≡ Some reply → P s → P (changed server (λ value. after_serving value tid op reply) s)
  pub votes : (s : Store) (server : ServerNo) (tid : Tid) (ballot : Vote) → P s → P (changed server (λ value. after_vote value tid ballot) s)
  pub notices : (s : Store) (server : ServerNo) (tid : Tid) (notice : Notice) → P s → P (changed server (λ value. after_notice value tid notice) s)
  pub ticks : (s : Store) → P s → P (managed tm.tick (changed timers_no (λ value. record value { timers = ticked value.timers }) s))
  pub logs : (s : Store) (rec : Record) → IsNoVote rec → P s → P (recorded rec s)
  pub prepares : (s : Store) (tid : Tid) (server : ServerNo) (covers : ℕ) → P s → P (recorded (records.Prepare tid server covers (changes_in (server_at s.servers server) tid)) s)
  pub parts : (s : Store) (tid : Tid) (f : Participant → Participant) → ((part : Participant) → (f part).asked ≡ part.asked) → P s → P (managed (tm.with_part tid f) s)
  pub asks : (s : Store) (tid : Tid) → A tid → P s → P (managed (tm.ask tid) s)
  pub begins : (s : Store) (client : ClientNo) → P s → P (managed (tm.begin client) s)
  pub meets : (s : Store) (tid : Tid) → P s → P (managed (tm.meet tid) s)
  pub aborts : (s : Store) (tid : Tid) → P s → P (managed (tm.keep_abort tid) s)
  pub forgets : (s : Store) (tid : Tid) → P s → P (managed (tm.forget tid) s)

-- ---- and what comes in the step

abbrev pub AsksFor : (Tid → Type 0) → Message → Type 0
AsksFor A (messages.AskVote tid) = A tid
AsksFor A message = ⊤

-- an AskVote, or a command of an owner, is of such a transaction
abbrev pub MayAsk : (Tid → Type 0) → Event → Work → Type 0
MayAsk A (events.Command client line label command) work = (begun : KeptLabel) (tid : Tid) → label_at label work.node ≡ Some begun → begun.tid ≡ Some tid → is_owner client begun.owner ≡ true → A tid
MayAsk A (events.Received peer message) work = AsksFor A message
MayAsk A event work = ⊤
