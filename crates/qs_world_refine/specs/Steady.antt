-- What holds of all nodes, logs and channels of a world, where it begins and after each move, whatever becomes of a transaction.
use Rattle.std.specs.Prelude.{◌≡◌, ◌≢◌, ℕ, ◌<◌, ◌≤◌, ◌==◌, Bool, true, false, not, ◌&&◌, [], ◌∷◌, ◌++◌, Some, None, nat_lt}
use Rattle.std.specs.List.{list_all}
use Rattle.qs_base.specs.declared.identifiers.NodeNo.{NodeNo}
use Rattle.qs_base.specs.declared.identifiers.ServerNo.{ServerNo}
use Rattle.qs_base.specs.declared.identifiers.Outcome.TheVariants as outcomes
use Rattle.qs_base.specs.declared.identifiers.Tid.{Tid}
use Rattle.qs_engage.specs.Engage.{peer_of, no_peer}
use Rattle.qs_engage.specs.Nodes.{has_node}
use Rattle.qs_ipc.specs.Ipc.{IpcValue}
use Rattle.qs_ipc.specs.Queue.{QueueValue, is_for}
use Rattle.qs_book_journal.specs.declared.script_line.ScriptLine.{ScriptLine}
use Rattle.qs_packet.specs.declared.message.Message.{Message}
use Rattle.qs_packet.specs.declared.message.Message.TheVariants as messages
use Rattle.qs_restart.specs.Recovery.{recovery, names_transaction}
use Rattle.qs_node_step.specs.Answering.{was_committed}
use Rattle.qs_node_step.specs.State.{NodeValue}
use Rattle.qs_tm.specs.Manager as tm
use Rattle.qs_tm.specs.declared.participant.Participant.{Participant}
use Rattle.qs_world.specs.Moves.{client_count}
use Rattle.qs_world.specs.World.{Parcel, World}
use Rattle.qs_world_refine.specs.Links.{names_node, node_no}
use Rattle.qs_world_refine.specs.MoveLaws.{IsSeated}
use Rattle.qs_world_refine.specs.NodeFaces.{began_here, is_past_commit, waiting_at}
use Rattle.qs_world_refine.specs.OpenLaws.{AreOpenInRun}
use Rattle.qs_world_refine.specs.PassLaws.{HasKinds}
use Rattle.qs_world_refine.specs.SaidLaws.{AreSoundOver, are_left_open}
use Rattle.qs_world_refine.specs.Sights.{list_of}
use Rattle.qs_world_refine.specs.Sound.{is_past, keeps_commits, keeps_owned, goes_in_run, may_take_up, kept_before}

-- ---- a node between its steps

-- what it took up from its log and has not looked at yet: nothing went to or came from another node in this incarnation, who is not decided left a Prepare, and
-- a Commit is of the home
pub record IsEarly (part : Participant) : Type 0 where
  pub peers : (m : ℕ) → peer_of part.engage (node_no m) ≡ no_peer
  pub superior : part.engage.superior ≡ None
  pub last_superior : part.engage.last_superior ≡ None
  pub waiting : part.waiting ≡ []
  pub blocked : part.blocked ≡ false
  pub undecided : part.outcome ≡ None → part.involved ≡ true
  pub committed : part.outcome ≡ Some outcomes.Commit → part.engage.home ≡ true

-- each server has one queue
abbrev pub is_other_server : ServerNo → ServerNo × QueueValue → Bool
is_other_server server entry = not (entry.0.0 == server.0)

abbrev pub are_queues_apart : IpcValue → Bool
are_queues_apart [] = true
are_queues_apart (entry ∷ rest) = list_all (is_other_server entry.0) rest && are_queues_apart rest

pub record IsSteadyNode (node : NodeValue) : Type 0 where
  pub kinds : HasKinds node
  pub owned : keeps_owned node ≡ true  -- what its clients own is decided, and kept so, or runs here
  pub commits : keeps_commits node ≡ true  -- what it committed in this incarnation is kept as committed
  pub queues : are_queues_apart node.queues ≡ true
  pub unknown : tm.part_of (tm.next_tid node.manager) node.manager ≡ None  -- the next number that it gives is new
  pub fresh : was_committed (tm.next_tid node.manager) node ≡ false
  pub past : (t : Tid) → began_here node t ≡ true → names_transaction t ≡ true → t.seq ≤ node.manager.begun → is_past node t ≡ true  -- what began here and is known no more is committed
  pub decided : (t : Tid) (part : Participant) → tm.part_of t node.manager ≡ Some part → part.engage.home ≡ true → part.outcome ≡ Some outcomes.Commit → is_past_commit node t ≡ true  -- a commit that it still knows is kept, or is of its log
  pub early : node.is_first ≡ true → (t : Tid) (part : Participant) → tm.part_of t node.manager ≡ Some part → IsEarly part
  pub idle : node.is_first ≡ true → (t : Tid) (s : ℕ) → waiting_at node t s ≡ 0  -- and nothing waits

-- ---- messages

abbrev pub is_of_run : ℕ → Tid → Bool
is_of_run size tid = names_transaction tid && nat_lt tid.home.0 size

abbrev pub is_node_of_run : ℕ → NodeNo → Bool
is_node_of_run size node = nat_lt node.0 size

-- from node n to node m: an operation is its member's own, a told set names nodes of the run, an outcome comes from the home, and inquiries go there
abbrev pub is_fit_message : ℕ → ℕ → ℕ → Message → Bool
is_fit_message size n m messages.Hello = true
is_fit_message size n m (messages.Request tid label member number issuer op) = is_of_run size tid && is_for member.server op
is_fit_message size n m (messages.Answered tid member number reply) = is_of_run size tid
is_fit_message size n m (messages.AskVote tid) = is_of_run size tid
is_fit_message size n m (messages.Covered tid up_to) = is_of_run size tid
is_fit_message size n m (messages.VotedYes tid up_to told) = is_of_run size tid && list_all (is_node_of_run size) told
is_fit_message size n m (messages.VotedAbort tid cause) = is_of_run size tid
is_fit_message size n m (messages.Tell tid outcome) = is_of_run size tid && (tid.home.0 == n)
is_fit_message size n m (messages.Told tid further) = is_of_run size tid
is_fit_message size n m (messages.Inquire tid) = is_of_run size tid && (tid.home.0 == m)

abbrev pub is_fit_parcel : ℕ → ℕ → ℕ → Parcel → Bool
is_fit_parcel size n m parcel = is_fit_message size n m parcel.message

-- the transaction has begun, where its home's node runs in the incarnation in which it begins
abbrev pub HasBegun : World → Tid → Type 0
HasBegun world t = t.home.0 < world.size → world.channels.up t.home.0 ≡ true → t.inc ≡ world.channels.inc t.home.0 → t.seq ≤ (world.hosts t.home.0).node.manager.begun

-- ---- a world

abbrev pub is_line_in_run : ℕ → ScriptLine → Bool
is_line_in_run size line = goes_in_run size line.command

pub record IsSteady (world : World) : Type 0 where
  pub seated : IsSeated world
  pub sound : AreSoundOver world
  pub commands : AreOpenInRun world
  pub nodes : (n : ℕ) → n < world.size → world.channels.up n ≡ true → IsSteadyNode (world.hosts n).node
  pub peers : (n m : ℕ) → 1 ≤ world.channels.peer n m → (m < world.size) × (m ≢ n)  -- a node knows other nodes of the run
  pub superior : (n m : ℕ) (t : Tid) (part : Participant) → n < world.size → world.channels.up n ≡ true → tm.part_of t (world.hosts n).node.manager ≡ Some part → part.engage.superior ≡ Some (node_no m)
      → 1 ≤ world.channels.peer n m  -- whom it answers to it knows
  pub nobody : (n m j : ℕ) → world.channels.posted n m 0 j ≡ []  -- 0 is no incarnation
  pub scripts : (k : ℕ) → k < client_count → list_all (is_line_in_run world.size) (world.clients k).lines ≡ true
  pub posted : (n m i j : ℕ) → list_all (is_fit_parcel world.size n m) (world.channels.posted n m i j) ≡ true
  pub waits : (n m : ℕ) → list_all (is_fit_parcel world.size n m) (world.channels.waits n m) ≡ true
  pub listed : (t : Tid) (part : Participant) → t.home.0 < world.size → world.channels.up t.home.0 ≡ true → tm.part_of t (world.hosts t.home.0).node.manager ≡ Some part → part.outcome ≡ Some outcomes.Commit
      → (m : ℕ) → names_node (list_of t (recovery ((world.hosts t.home.0).log ++ (world.hosts t.home.0).waiting))) (node_no m) ≡ true → has_node part.tell (node_no m) ≡ true  -- whom the Commit in its log names the home is to tell
  pub takes_up : (n : ℕ) → n < world.size → may_take_up (world.hosts n).node.setting.node (recovery (world.hosts n).log) ≡ true  -- a restart can take up the log,
  pub unended : (n : ℕ) → n < world.size → are_left_open (recovery (world.hosts n).log) ≡ true
  pub kept : (n inc : ℕ) → n < world.size → world.channels.up n ≡ false → world.channels.inc n < inc → kept_before (world.hosts n).node.setting.node inc (world.hosts n).node.kept.saved ≡ true  -- and what is kept for its clients
