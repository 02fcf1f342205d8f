-- What holds of all nodes, logs and channels of a world, where it begins and after each move, whatever becomes of a transaction.
use Rattle.std.specs.Prelude.{◌≡◌, ℕ, ◌<◌, ◌≤◌, ◌==◌, ⊤, Bool, true, false, not, ◌&&◌, ◌||◌, [], ◌++◌, Option, Some, None, nat_lt}
use Rattle.std.specs.List.{list_all}
use Rattle.qs_base.specs.declared.identifiers.NodeNo.{NodeNo}
use Rattle.qs_base.specs.declared.identifiers.Outcome.TheVariants as outcomes
use Rattle.qs_base.specs.declared.identifiers.Tid.{Tid}
use Rattle.qs_engage.specs.Engage.{new_engage}
use Rattle.qs_ipc.specs.Ipc as ipc
use Rattle.qs_book_journal.specs.declared.script_line.ScriptLine.{ScriptLine}
use Rattle.qs_packet.specs.declared.message.Message.TheVariants as messages
use Rattle.qs_record.specs.declared.record.Record.{Record}
use Rattle.qs_restart.specs.Recovery.{recovery, names_transaction}
use Rattle.qs_node_step.specs.Settling.{is_lent}
use Rattle.qs_node_step.specs.State.{NodeValue, Work}
use Rattle.qs_node_step.specs.declared.event.Event.{Event}
use Rattle.qs_node_step.specs.declared.event.Event.TheVariants as events
use Rattle.qs_tm.specs.Manager as tm
use Rattle.qs_tm.specs.Outcomes.{is_abort}
use Rattle.qs_tm.specs.Participant.{is_undecided}
use Rattle.qs_tm.specs.declared.participant.Participant.{Participant}
use Rattle.qs_world.specs.Moves.{Move, Step, Cut, Stop, Rise, Meet, client_count, event_of, may_move, moved}
use Rattle.qs_world.specs.Openings.{IsOpening}
use Rattle.qs_world.specs.World.{Opening, Parcel, Host, World, start}
use Rattle.qs_world_refine.specs.Begun.{has_begun, may_be_known, fits, fits_record, may_command}
use Rattle.qs_world_refine.specs.Links.{node_no}
use Rattle.qs_world_refine.specs.MoveLaws.{IsSeated}
use Rattle.qs_world_refine.specs.SaidLaws.{AreSoundOver, MayMoveOver, are_left_open}
use Rattle.qs_world_refine.specs.SoundMoves.{MayMove}
use Rattle.qs_world_refine.specs.SoundSteps.{AnswersFor, begun}
use Rattle.qs_world_refine.specs.Tidy.{Stage, IsTidyNode, is_tidy_record}

-- ---- a node between its steps

-- what stays while node n does a step
abbrev pub stage_with : World → ℕ → NodeValue → Stage
stage_with world n node = record {
  setting = node.setting;
  count = node.manager.begun;
  past = may_be_known world;
  begun = has_begun world;
  met = λ m. nat_lt 0 (world.channels.peer n m.0);
}

abbrev pub stage_of : World → ℕ → Stage
stage_of world n = stage_with world n (world.hosts n).node

-- what it took up from its log and has not looked at yet: nothing went to or came from another node in this incarnation, who is not decided left a Prepare, and
-- a Commit is of the home
pub record IsTaken (part : Participant) : Type 0 where
  pub engage : part.engage ≡ new_engage part.engage.home
  pub waiting : part.waiting ≡ []
  pub asked : part.asked ≡ false
  pub blocked : part.blocked ≡ false
  pub undecided : part.outcome ≡ None → part.involved ≡ true
  pub committed : part.outcome ≡ Some outcomes.Commit → part.engage.home ≡ true

-- and nothing waits
pub record IsFirst (node : NodeValue) : Type 0 where
  pub parts : (t : Tid) (part : Participant) → tm.part_of t node.manager ≡ Some part → IsTaken part
  pub queues : node.queues ≡ []

-- a record of a log: what names a transaction names one that may be known; the number 0 names none
abbrev pub is_steady_record : (Tid → Bool) → NodeNo → Record → Bool
is_steady_record past me rec = fits_record (λ (tid : Tid). not (names_transaction tid) || past tid) me rec

pub record IsSteadyHost (c : Stage) (host : Host) : Type 0 where
  pub tidy : IsTidyNode c host.node
  pub saved : host.node.kept.saved ≡ host.node.kept.now  -- what it keeps for its clients is what a restart finds
  pub first : host.node.is_first ≡ true → IsFirst host.node
  pub records : list_all (is_steady_record c.past c.setting.node) (host.log ++ host.waiting) ≡ true
  pub waiting : list_all (is_tidy_record c) host.waiting ≡ true  -- what a step appends names a transaction
  pub unended : are_left_open (recovery host.log) ≡ true

-- ---- messages: between two nodes of the run

abbrev pub are_two : ℕ → ℕ → ℕ → Bool
are_two size n m = nat_lt n size && (nat_lt m size && not (n == m))

abbrev pub is_steady_parcel : World → ℕ → ℕ → Parcel → Bool
is_steady_parcel world n m parcel = are_two world.size n m && fits (may_be_known world) (has_begun world) world.size (node_no n) (node_no m) parcel.message

abbrev pub is_steady_line : ℕ → ScriptLine → Bool
is_steady_line size line = may_command size line.command

-- ---- a world

pub record IsSteadyWorld (world : World) : Type 0 where
  pub seated : IsSeated world
  pub sound : AreSoundOver world
  pub nodes : (n : ℕ) → n < world.size → IsSteadyHost (stage_of world n) (world.hosts n)
  pub peers : (n m : ℕ) → 1 ≤ world.channels.peer n m → are_two world.size n m ≡ true  -- a node knows other nodes of the run
  pub nobody : (n m j : ℕ) → world.channels.posted n m 0 j ≡ []  -- 0 is no incarnation
  pub posted : (n m i j : ℕ) → list_all (is_steady_parcel world n m) (world.channels.posted n m i j) ≡ true
  pub waits : (n m : ℕ) → list_all (is_steady_parcel world n m) (world.channels.waits n m) ≡ true
  pub scripts : (k : ℕ) → k < client_count → list_all (is_steady_line world.size) (world.clients k).lines ≡ true

-- ---- what the agreement machine gives of an event: a request is of no transaction that is committed here; what answers for requests answers for some that were sent; and
-- where a commit is told nothing of it waits, and no loan stands

abbrev pub MachineGives : Event → Work → Type 0
MachineGives (events.Received peer (messages.Request tid label member number issuer op)) work = tm.told_of tid true (λ part. is_undecided part || is_abort part.outcome) work.node.manager ≡ true
MachineGives (events.Received peer (messages.Covered tid up_to)) work = AnswersFor peer tid up_to work
MachineGives (events.Received peer (messages.VotedYes tid up_to told)) work = AnswersFor peer tid up_to work
MachineGives (events.Received peer (messages.Tell tid outcome)) work = outcome ≡ outcomes.Commit → (ipc.waits tid work.node.queues ≡ false) × (is_lent tid work.node ≡ false)
MachineGives event work = ⊤

abbrev pub GivesAt : World → ℕ → ℕ → Option Event → Type 0
GivesAt world n free None = ⊤
GivesAt world n free (Some event) = MachineGives event (begun (world.hosts n).node free)

abbrev pub MachineMoves : World → Move → Type 0
MachineMoves world (Step n stamp free source) = GivesAt world n free (event_of world n stamp source)
MachineMoves world (Cut n stamp free source is_kept cause) = GivesAt world n free (event_of world n stamp source)
MachineMoves world (Stop n stamp cause) = ⊤
MachineMoves world (Rise n stamp inc) = ⊤
MachineMoves world (Meet n stamp m inc) = ⊤

-- ---- so it is where a world begins, with old logs too, and after each move, which may be made then

abbrev pub StartSteady : Type 0
StartSteady = (o : Opening) → IsOpening o → IsSteadyWorld (start o)

abbrev pub SteadyMay : Type 0
SteadyMay = (world : World) (move : Move) → may_move world move ≡ true → MachineMoves world move → IsSteadyWorld world → MayMove world move × MayMoveOver world move

abbrev pub MoveSteady : Type 0
MoveSteady = (world : World) (move : Move) → may_move world move ≡ true → MachineMoves world move → IsSteadyWorld world → IsSteadyWorld (moved move world)
