-- The laws of moves: what shows the world before a move shows it after.
use Rattle.std.specs.Prelude.{◌≡◌, ◌⊎◌, ℕ, ◌<◌, ◌≤◌, ◌&&◌, ⊤, Bool, true, false, List, [], ◌∷◌, fold, Some, if◌then◌else◌, ◌==◌}
use Rattle.std.specs.List.{list_any}
use Rattle.qs_base.specs.Order.{same_tid}
use Rattle.qs_base.specs.declared.identifiers.Tid.{Tid}
use Rattle.qs_session_channels.specs.Laws.{IsOrdered}
use Rattle.qs_record.specs.declared.record.Record.{Record}
use Rattle.qs_record.specs.declared.record.Record.TheVariants as records
use Rattle.qs_restart.specs.Recovery.{recovery, found_record}
use Rattle.qs_node_step.specs.Bringing.{tid_of}
use Rattle.qs_node_step.specs.Step.{effects_of, step_work}
use Rattle.qs_node_step.specs.declared.event.Event.{Event}
use Rattle.qs_world.specs.Moves.{Source, Move, Step, Cut, Stop, Rise, Meet, event_of, taken_by, log_after, waiting_after, may_move, moved}
use Rattle.qs_world.specs.Openings.{IsOpening}
use Rattle.qs_world.specs.World.{Opening, World, start}
use Rattle.qs_world_agree.specs.World as machine
use Rattle.qs_world_agree.specs.World.{Committed, Aborted}
use Rattle.qs_world_agree.specs.Carry.{Leads, IsLawful}
use Rattle.qs_world_refine.specs.Links.{node_no}
use Rattle.qs_world_refine.specs.Places.{place}
use Rattle.qs_world_refine.specs.RiseLaws.{ArePlaced}
use Rattle.qs_world_refine.specs.SaidLaws.{AreSoundOver, MayMoveOver}
use Rattle.qs_world_refine.specs.Seen.{Runs, SightGoes}
use Rattle.qs_world_refine.specs.Shows.{Scene, scene_of, Shows}
use Rattle.qs_world_refine.specs.Sights.{Sight, ShowsSight}
use Rattle.qs_world_refine.specs.Sound.{may_take_up, kept_before}
use Rattle.qs_world_refine.specs.SoundMoves.{MayMove}
use Rattle.qs_world_refine.specs.StepLaws.{stepped}

-- ---- a world whose nodes sit in their places, with channels between incarnations that were born

pub record IsSeated (world : World) : Type 0 where
  pub small : world.size ≤ 16
  pub node : (n : ℕ) → n < world.size → (world.hosts n).node.setting.node ≡ node_no n
  pub nodes : (n : ℕ) → n < world.size → (world.hosts n).node.setting.nodes ≡ world.size
  pub inc : (n : ℕ) → n < world.size → (world.hosts n).node.setting.inc ≡ world.channels.inc n
  pub begun : (n : ℕ) → n < world.size → 1 ≤ world.channels.inc n
  pub known : (n m : ℕ) → world.channels.peer n m ≤ world.channels.inc m  -- nobody knows a later incarnation than there is
  pub ordered : IsOrdered world.channels  -- what was handed up was posted before
  pub unborn : (n m i j : ℕ) → (world.channels.inc n < i) ⊎ (world.channels.inc m < j) → world.channels.posted n m i j ≡ []  -- nothing is posted by or for an incarnation that was not born yet
  pub unknown : (n m j : ℕ) → world.channels.peer n m < j → world.channels.posted n m (world.channels.inc n) j ≡ []  -- nor for one that its node does not know yet
  pub stopped : (n : ℕ) → n < world.size → world.channels.up n ≡ false → (world.hosts n).waiting ≡ []  -- of a node that stopped no record waits

-- so it is where a world begins, and after each move
abbrev pub StartSeated : Type 0
StartSeated = (o : Opening) → IsOpening o → IsSeated (start o)

abbrev pub MoveSeated : Type 0
MoveSeated = (world : World) (move : Move) → may_move world move ≡ true → MayMove world move → MayMoveOver world move → AreSoundOver world → IsSeated world → IsSeated (moved move world)

-- ---- records that wait, and are not forced

-- at place q of node n: of the transaction an Aborted, where abort is known, or the home's End, where all have acknowledged the commit
abbrev pub MayClose : Tid → ℕ → ℕ → machine.World → Record → Type 0
MayClose tid n q w (records.Prepare other server covers changes) = same_tid tid other ≡ false
MayClose tid n q w (records.Commit other told) = same_tid tid other ≡ false
MayClose tid n q w (records.Aborted other) = same_tid tid other ≡ true → w.outcome q ≡ Aborted
MayClose tid n q w (records.End other) = same_tid tid other ≡ true → (n ≡ tid.home.0) × ((w.outcome q ≡ Committed) × ((m : ℕ) → w.commit_list m ≡ true → w.acknowledged m ≡ true))

abbrev pub AllClose : Tid → ℕ → ℕ → machine.World → List Record → Type 0
AllClose tid n q w [] = ⊤
AllClose tid n q w (rec ∷ rest) = MayClose tid n q w rec × AllClose tid n q w rest

-- they stay such while the place runs
abbrev pub StaysClosed : Type 0
StaysClosed = (tid : Tid) (n q : ℕ) (w v : machine.World) (waiting : List Record) → IsLawful w → Leads w v → v.up q ≡ true → (n ≡ tid.home.0 → w.node q ≡ w.node w.home) → AllClose tid n q w waiting → AllClose tid n q v waiting

-- the log of node n has more records
abbrev pub sight_logged : Sight → ℕ → List Record → Sight
sight_logged x n more = record x { found = λ k. if k == n then fold found_record (x.found n) more else x.found k }

-- once they are on the disk: Abort_logged and End
abbrev pub ClosedGoes : Type 0
ClosedGoes = (tid : Tid) (more : List Record) (x : Sight) (w : machine.World) (n : ℕ) → IsLawful w → ShowsSight tid x w → Runs x n → tid.home.0 < x.size → AllClose tid n (place n (x.inc n)) w more
    → SightGoes tid (sight_logged x n more) w

-- ---- the machine shows the world

pub record ShowsWorld (tid : Tid) (world : World) (w : machine.World) : Type 0 where
  pub lawful : IsLawful w
  pub placed : ArePlaced w
  pub shown : Shows tid (scene_of world) w
  pub closes : (n : ℕ) → n < world.size → world.channels.up n ≡ true → AllClose tid n (place n (world.channels.inc n)) w (world.hosts n).waiting

-- and goes on to show it
pub record WorldGoes (tid : Tid) (world : World) (w : machine.World) : Type 0 where
  pub next : machine.World
  pub leads : Leads w next
  pub shown : ShowsWorld tid world next

-- ---- a whole step, as far as it is taken here for granted

-- what the step's event takes from the channels is taken, and nothing else is done yet
abbrev pub taken_scene : World → ℕ → Source → Scene
taken_scene world n source = scene_of (record world { channels = taken_by world n source })

-- what shows the world goes on to show it once the step's messages are put and its log has its records, and those that wait may close
pub record StepShown (tid : Tid) (world : World) (n free : ℕ) (source : Source) (event : Event) (w : machine.World) : Type 0 where
  pub next : machine.World
  pub leads : Leads w next
  pub shown : Shows tid (stepped (taken_scene world n source) n (step_work (world.hosts n).node event free) (log_after (world.hosts n) (effects_of (world.hosts n).node event free))) next
  pub closes : AllClose tid n (place n (world.channels.inc n)) next (waiting_after (world.hosts n) (effects_of (world.hosts n).node event free))

-- whatever the event of that source is
pub record StepLaw (tid : Tid) (world : World) (n stamp free : ℕ) (source : Source) (w : machine.World) : Type 0 where
  pub goes : (event : Event) → event_of world n stamp source ≡ Some event → StepShown tid world n free source event w

-- ---- each move

-- the step's own records have one of the transaction
abbrev pub is_record_of : Tid → Record → Bool
is_record_of tid rec = same_tid tid (tid_of rec)

-- a step that is cut off with its batch on the disk, and one of the transaction's records in it
abbrev pub is_cut_with : Tid → Bool → World → ℕ → ℕ → Event → Bool
is_cut_with tid is_kept world n free event =
    is_kept && ((effects_of (world.hosts n).node event free).force && list_any (is_record_of tid) (effects_of (world.hosts n).node event free).records)

-- the step that is made goes as it is taken for granted; one that is cut off where a record of the transaction is in its batch on the disk
abbrev pub MayGo : Tid → World → Move → machine.World → Type 0
MayGo tid world (Step n stamp free source) w = StepLaw tid world n stamp free source w
MayGo tid world (Cut n stamp free source is_kept cause) w = (event : Event) → event_of world n stamp source ≡ Some event → is_cut_with tid is_kept world n free event ≡ true → StepShown tid world n free source event w
MayGo tid world (Stop n stamp cause) w = ⊤
MayGo tid world (Rise n stamp inc) w =
    (may_take_up (world.hosts n).node.setting.node (recovery (world.hosts n).log) ≡ true) × (kept_before (world.hosts n).node.setting.node inc (world.hosts n).node.kept.saved ≡ true)
MayGo tid world (Meet n stamp m inc) w = ⊤

-- a step as it goes; one that is cut off as it goes and a crash, or with what waited and a crash, or a crash; a stop: Crash; a rise: see RiseGoes; a meeting: Meet
abbrev pub MoveGoes : Type 0
MoveGoes = (tid : Tid) (world : World) (move : Move) (w : machine.World) → may_move world move ≡ true → IsSeated world → tid.home.0 < world.size → MayGo tid world move w → ShowsWorld tid world w → WorldGoes tid (moved move world) w
