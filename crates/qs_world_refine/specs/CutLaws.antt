-- A node stops, in a step or between two: what the agreement machine has of its place then.
use Rattle.std.specs.Prelude.{◌≡◌, ◌⊎◌, ℕ, Bool, true, false, Some}
use Rattle.qs_base.specs.Order.{same_tid}
use Rattle.qs_base.specs.declared.identifiers.Tid.{Tid}
use Rattle.qs_book_journal.specs.declared.entry.CrashCause.{CrashCause}
use Rattle.qs_record.specs.declared.record.Record.{Record}
use Rattle.qs_record.specs.declared.record.Record.TheVariants as records
use Rattle.qs_node_step.specs.State.{NodeValue}
use Rattle.qs_node_step.specs.Step.{after_step}
use Rattle.qs_node_step.specs.declared.event.Event.{Event}
use Rattle.qs_world.specs.Moves.{Source, Cut, Stop, event_of, may_move, moved}
use Rattle.qs_world.specs.World.{World}
use Rattle.qs_world_agree.specs.World as machine
use Rattle.qs_world_agree.specs.World.{Open, Committed, with_at}
use Rattle.qs_world_agree.specs.Doomed.{IsDoomed}
use Rattle.qs_world_refine.specs.Begun.{has_begun}
use Rattle.qs_world_refine.specs.EachMove.{ShowsAll, AllGoes}
use Rattle.qs_world_refine.specs.MoveLaws.{is_cut_with}
use Rattle.qs_world_refine.specs.NodeFaces.{began_here, face_at}
use Rattle.qs_world_refine.specs.Places.{place}
use Rattle.qs_world_refine.specs.ShownWorlds.{IsShownWorld}

-- a Prepare of the transaction
abbrev pub is_prepare_of : Tid → Record → Bool
is_prepare_of t (records.Prepare tid server covers changes) = same_tid t tid
is_prepare_of t (records.Commit tid told) = false
is_prepare_of t (records.Aborted tid) = false
is_prepare_of t (records.End tid) = false

-- a Commit of it
abbrev pub is_commit_of : Tid → Record → Bool
is_commit_of t (records.Prepare tid server covers changes) = false
is_commit_of t (records.Commit tid told) = same_tid t tid
is_commit_of t (records.Aborted tid) = false
is_commit_of t (records.End tid) = false

-- the place stopped, and nothing else happened
abbrev pub stopped_at : machine.World → machine.World → ℕ → Type 0
stopped_at w v q = v ≡ record w { up = with_at w.up q false }

-- ---- nothing of the step is kept of the transaction: the place had what it had before the step

pub record StopsAlone (tid : Tid) (world after : World) (n : ℕ) (w : machine.World) : Type 0 where
  pub goes : AllGoes tid after w
  pub alone : w.cell ≡ Open → stopped_at w goes.next (place n (world.channels.inc n))

abbrev pub StopGoesAlone : Type 0
StopGoesAlone = (tid : Tid) (world : World) (n stamp : ℕ) (cause : CrashCause) (w : machine.World) → may_move world (Stop n stamp cause) ≡ true → IsShownWorld world → has_begun world tid ≡ true → ShowsAll tid world w
    → StopsAlone tid world (moved (Stop n stamp cause) world) n w

abbrev pub CutGoesAlone : Type 0
CutGoesAlone = (tid : Tid) (world : World) (n stamp free : ℕ) (source : Source) (is_kept : Bool) (cause : CrashCause) (event : Event) (w : machine.World) → may_move world (Cut n stamp free source is_kept cause) ≡ true → IsShownWorld world → has_begun world tid ≡ true → ShowsAll tid world w
    → event_of world n stamp source ≡ Some event → is_cut_with tid is_kept world n free event ≡ false → StopsAlone tid world (moved (Cut n stamp free source is_kept cause) world) n w

-- ---- a record of it is kept: it is committed, or never will be: a node says Yes in a later step than it logs a Prepare, and so its place died engaged.
-- Where it began at the node, that would have known the commit after the whole step

pub record CutsOff (tid : Tid) (node : NodeValue) (after : World) (w : machine.World) : Type 0 where
  pub goes : AllGoes tid after w
  pub fate : IsDoomed goes.next ⊎ (goes.next.cell ≡ Committed)
  pub knows : goes.next.cell ≡ Committed → began_here node tid ≡ true → (face_at node tid).outcome ≡ Committed

abbrev pub CutGoesKept : Type 0
CutGoesKept = (tid : Tid) (world : World) (n stamp free : ℕ) (source : Source) (is_kept : Bool) (cause : CrashCause) (event : Event) (w : machine.World) → may_move world (Cut n stamp free source is_kept cause) ≡ true → IsShownWorld world → has_begun world tid ≡ true → ShowsAll tid world w
    → event_of world n stamp source ≡ Some event → is_cut_with tid is_kept world n free event ≡ true → CutsOff tid (after_step (world.hosts n).node event free) (moved (Cut n stamp free source is_kept cause) world) w
