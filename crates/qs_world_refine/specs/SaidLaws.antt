-- A node over its log: what it keeps of a transaction's records is what the log says, with the records that wait.
use Rattle.std.specs.Prelude.{◌≡◌, ◌⊎◌, ℕ, ◌<◌, ◌||◌, ◌&&◌, ⊤, Bool, true, false, not, List, [], ◌++◌, fold, Option, Some, None}
use Rattle.std.specs.List.{list_any, list_all}
use Rattle.qs_base.specs.Order.{same_tid}
use Rattle.qs_base.specs.declared.identifiers.Tid.{Tid}
use Rattle.qs_engage.specs.Nodes.{same_node}
use Rattle.qs_book_journal.specs.declared.script_line.Command.TheVariants as commands
use Rattle.qs_record.specs.declared.record.Record.{Record}
use Rattle.qs_record.specs.declared.record.Record.TheVariants as records
use Rattle.qs_restart.specs.Recovery.{Recovery, Prepared, recovery, found_record, is_untold_of, names_transaction}
use Rattle.qs_tm.specs.Manager as tm
use Rattle.qs_tm.specs.declared.participant.InLog.{InLog}
use Rattle.qs_node_step.specs.Bringing.{is_forced}
use Rattle.qs_node_step.specs.Opening.{recovered_of}
use Rattle.qs_node_step.specs.State.{NodeValue, Work}
use Rattle.qs_node_step.specs.Step.{after_step, effects_of}
use Rattle.qs_node_step.specs.declared.event.Event.{Event}
use Rattle.qs_node_step.specs.declared.event.Event.TheVariants as events
use Rattle.qs_world.specs.Openings.{IsOpening, has_node, is_commit_of, is_untold, is_whole_log}
use Rattle.qs_world.specs.World.{Host, Opening, World, start}
use Rattle.qs_world.specs.Moves.{Move, Step, Cut, Stop, Rise, Meet, event_of, reopened, may_move, moved}
use Rattle.qs_world_refine.specs.Lists.{AreListed}
use Rattle.qs_world_refine.specs.Sound.{is_sound, is_sound_said, has_doubt, may_take_up}
use Rattle.qs_world_refine.specs.SoundMoves.{MayMove}
use Rattle.qs_world_refine.specs.SoundSteps.{MayHappen, commands_in_run, begun, settled}

-- ---- the flags that a node keeps of a transaction

abbrev pub no_flags : InLog
no_flags = record { unended = false; prepared = false; listed = false }

abbrev pub flags_at : Tid → NodeValue → InLog
flags_at tid node = tm.told_of tid no_flags (λ part. part.log) node.manager

-- say what the log says of it
pub record IsSaid (node : NodeValue) (said : Recovery) (tid : Tid) : Type 0 where
  pub prepared : (flags_at tid node).prepared ≡ has_doubt tid said
  pub listed : (flags_at tid node).listed ≡ list_any (is_untold_of tid) said.untold

abbrev pub AreSaid : NodeValue → Recovery → Type 0
AreSaid node said = (tid : Tid) → IsSaid node said tid

-- that is the test
abbrev pub SaidSeen : Type 0
SaidSeen = (node : NodeValue) (said : Recovery) → is_sound node ≡ true → is_sound_said node said ≡ true → AreSaid node said

abbrev pub SeenSaid : Type 0
SeenSaid = (node : NodeValue) (said : Recovery) → is_sound node ≡ true → AreSaid node said → is_sound_said node said ≡ true

-- a Commit names others than the home
abbrev pub lists_others : Record → Bool
lists_others (records.Commit tid told) = not (has_node told tid.home)
lists_others (records.Prepare tid server covers changes) = true
lists_others (records.Aborted tid) = true
lists_others (records.End tid) = true

abbrev pub is_prepare_of : Tid → Record → Bool
is_prepare_of tid (records.Prepare other server covers changes) = same_tid tid other
is_prepare_of tid (records.Commit other told) = false
is_prepare_of tid (records.Aborted other) = false
is_prepare_of tid (records.End other) = false

-- ---- a piece of a step leaves a node sound over its log: the setting stays, the log goes on by the records that it appended, and is forced
-- for these; what is open goes to nodes of the run; whom a Commit in the log names is to be told; and a restart can take the log up whole

pub record SaysOn (work new : Work) : Type 0 where
  pub setting : new.node.setting ≡ work.node.setting
  pub more : List Record
  pub records : new.out.records ≡ work.out.records ++ more
  pub forced : new.out.force ≡ (work.out.force || list_any is_forced more)
  pub commands : commands_in_run work.node ≡ true → commands_in_run new.node ≡ true
  pub others : list_all lists_others more ≡ true
  pub said : (said : Recovery) → AreSaid work.node said → AreSaid new.node (fold found_record said more)
  pub own : (said : Recovery) → AreSaid work.node said → (t : Tid) → same_node t.home work.node.setting.node ≡ false → list_any (is_commit_of t) more ≡ true
      → (has_doubt t said ≡ true) ⊎ (list_any (is_prepare_of t) more ≡ true)  -- of what began elsewhere only a vote in doubt is committed
  pub lists : (said : Recovery) → AreSaid work.node said → AreListed work.node said → AreListed new.node (fold found_record said more)
  pub whole : (said : Recovery) → AreSaid work.node said → is_whole_log said ≡ true → is_whole_log (fold found_record said more) ≡ true

-- where a client begins a transaction, its number is new
abbrev pub BeginsNew : Event → Work → Type 0
BeginsNew (events.Command client line label command) work = elim command [
  | commands.Begin ↦ tm.part_of (tm.next_tid work.node.manager) work.node.manager ≡ None
  | commands.Commit ↦ ⊤
  | commands.Abort ↦ ⊤
  | commands.Take ↦ ⊤
  | commands.Yield ↦ ⊤
  | commands.Request member op ↦ ⊤
]
BeginsNew (events.Received peer message) work = ⊤
BeginsNew events.ServeAll work = ⊤
BeginsNew (events.PeerRestarted peer old new) work = ⊤
BeginsNew events.Tick work = ⊤

-- a whole step
abbrev pub StepSaid : Type 0
StepSaid = (node : NodeValue) (event : Event) (free : ℕ) (log : List Record) → MayHappen event (begun node free) → BeginsNew event (begun node free) → commands_in_run (settled node event free).node ≡ true
    → is_sound node ≡ true → is_sound_said node (recovery log) ≡ true
    → is_sound_said (after_step node event free) (recovery (log ++ (effects_of node event free).records)) ≡ true

-- and its setting stays
abbrev pub StepSeated : Type 0
StepSeated = (node : NodeValue) (event : Event) (free : ℕ) → MayHappen event (begun node free) → BeginsNew event (begun node free) → is_sound node ≡ true → (after_step node event free).setting ≡ node.setting

-- the log is forced where one of the step's records is to be
abbrev pub StepForces : Type 0
StepForces = (node : NodeValue) (event : Event) (free : ℕ) → MayHappen event (begun node free) → BeginsNew event (begun node free) → is_sound node ≡ true
    → (effects_of node event free).force ≡ list_any is_forced (effects_of node event free).records

-- what is open before the step goes to nodes of the run, and so it does as the node has settled, and after the step
abbrev pub StepOpen : Type 0
StepOpen = (node : NodeValue) (event : Event) (free : ℕ) → MayHappen event (begun node free) → BeginsNew event (begun node free) → is_sound node ≡ true → commands_in_run node ≡ true
    → (commands_in_run (settled node event free).node ≡ true) × (commands_in_run (after_step node event free) ≡ true)

-- ---- a world

-- with its log and the records that wait
abbrev pub is_said_host : Host → Bool
is_said_host host = is_sound_said host.node (recovery (host.log ++ host.waiting))

-- a node is sound, one that runs over its log too; of one that stopped nothing waits
pub record IsSoundOver (world : World) (n : ℕ) : Type 0 where
  pub node : is_sound (world.hosts n).node ≡ true
  pub runs : world.channels.up n ≡ true → is_said_host (world.hosts n) ≡ true
  pub stopped : world.channels.up n ≡ false → (world.hosts n).waiting ≡ []

abbrev pub AreSoundOver : World → Type 0
AreSoundOver world = (n : ℕ) → n < world.size → IsSoundOver world n

-- where a world begins, with old logs too
abbrev pub OpenedSaid : Type 0
OpenedSaid = (o : Opening) → IsOpening o → AreSoundOver (start o)

-- what a log says of transactions that are not ended names them, and no vote is in doubt beside a Commit that waits for its End
abbrev pub is_open_vote : Recovery → Prepared → Bool
is_open_vote said vote = vote.committed || (names_transaction vote.tid && not (list_any (is_untold_of vote.tid) said.untold))

abbrev pub are_left_open : Recovery → Bool
are_left_open said = list_all (is_open_vote said) said.prepared && list_all is_untold said.untold

-- a node that opens over a log that names its transactions, and in which no vote is in doubt beside a Commit that waits
abbrev pub RestartSaid : Type 0
RestartSaid = (inc : ℕ) (log : List Record) (node : NodeValue) → may_take_up node.setting.node (recovery log) ≡ true → are_left_open (recovery log) ≡ true → AreSaid (reopened inc (recovered_of log) node) (recovery log)

-- what a move asks beside what it asks of the nodes alone
abbrev pub BeginsNewAt : World → ℕ → ℕ → Option Event → Type 0
BeginsNewAt world n free None = ⊤
BeginsNewAt world n free (Some event) = BeginsNew event (begun (world.hosts n).node free)

abbrev pub MayMoveOver : World → Move → Type 0
MayMoveOver world (Step n stamp free source) = BeginsNewAt world n free (event_of world n stamp source)
MayMoveOver world (Cut n stamp free source is_kept cause) = ⊤
MayMoveOver world (Stop n stamp cause) = ⊤
MayMoveOver world (Rise n stamp inc) = are_left_open (recovery (world.hosts n).log) ≡ true
MayMoveOver world (Meet n stamp m inc) = ⊤

-- each move that may be
abbrev pub MoveSaid : Type 0
MoveSaid = (world : World) (move : Move) → may_move world move ≡ true → MayMove world move → MayMoveOver world move → AreSoundOver world → AreSoundOver (moved move world)
