-- The law of each move of the world, for a transaction that has begun: what shows it goes on to show it, with no premise on what happens inside a step.
use Rattle.std.specs.Prelude.{◌≡◌, ℕ, ◌<◌, ⊤, true, Some}
use Rattle.std.specs.List.{find}
use Rattle.qs_base.specs.declared.identifiers.Outcome.TheVariants as outcomes
use Rattle.qs_base.specs.declared.identifiers.Tid.{Tid}
use Rattle.qs_engage.specs.Nodes.{has_node}
use Rattle.qs_packet.specs.declared.message.Message.{Message}
use Rattle.qs_packet.specs.declared.message.Message.TheVariants as messages
use Rattle.qs_tm.specs.Manager as tm
use Rattle.qs_tm.specs.declared.participant.Participant.{Participant}
use Rattle.qs_node_kept.specs.Keeping.{is_outcome_of}
use Rattle.qs_node_step.specs.Answering.{was_committed, is_kept_commit}
use Rattle.qs_node_step.specs.declared.event.Event.{Event}
use Rattle.qs_world.specs.Moves.{Source, Move, event_of, may_move, moved}
use Rattle.qs_world.specs.Posting.{next_parcel}
use Rattle.qs_world.specs.World.{Parcel, World}
use Rattle.qs_world_agree.specs.World as machine
use Rattle.qs_world_agree.specs.World.{Committed}
use Rattle.qs_world_agree.specs.Carry.{Leads}
use Rattle.qs_world_refine.specs.Links.{node_no}
use Rattle.qs_world_refine.specs.MoveLaws.{ShowsWorld}
use Rattle.qs_world_refine.specs.SoundSteps.{FitsMessage, MayHappen, begun}
use Rattle.qs_world_refine.specs.SaidLaws.{BeginsNew}
use Rattle.qs_world_refine.specs.Steady.{IsSteady, HasBegun}

-- ---- what shows a transaction, with what nodes know of its commit

-- who knows the commit knows what was decided, and whose acknowledgement the home's node has the machine has too
pub record ShowsOutcome (tid : Tid) (world : World) (w : machine.World) : Type 0 where
  pub learnt : (n : ℕ) (part : Participant) → n < world.size → world.channels.up n ≡ true → tm.part_of tid (world.hosts n).node.manager ≡ Some part → part.outcome ≡ Some outcomes.Commit → w.cell ≡ Committed
  pub acknowledged : (part : Participant) → world.channels.up tid.home.0 ≡ true → tm.part_of tid (world.hosts tid.home.0).node.manager ≡ Some part
      → (m : ℕ) → has_node part.acknowledged (node_no m) ≡ true → w.acknowledged m ≡ true

-- what the home's node keeps as committed was, and so was what it would find of it after a restart
pub record KeepsDecided (tid : Tid) (world : World) (w : machine.World) : Type 0 where
  pub now : was_committed tid (world.hosts tid.home.0).node ≡ true → w.cell ≡ Committed
  pub saved : is_kept_commit (find (is_outcome_of tid) (world.hosts tid.home.0).node.kept.saved.outcomes) ≡ true → w.cell ≡ Committed

pub record ShowsAll (tid : Tid) (world : World) (w : machine.World) : Type 0 where
  pub seen : ShowsWorld tid world w
  pub outcome : ShowsOutcome tid world w
  pub kept : KeepsDecided tid world w

pub record AllGoes (tid : Tid) (world : World) (w : machine.World) : Type 0 where
  pub next : machine.World
  pub leads : Leads w next
  pub shown : ShowsAll tid world next

-- ---- what comes

-- a message comes to a sound node of which it leaves a sound one
abbrev pub MessagesFit : World → Type 0
MessagesFit world = (n m free : ℕ) (parcel : Parcel) → n < world.size → world.channels.up n ≡ true → next_parcel world n m ≡ Some parcel → FitsMessage (node_no m) parcel.message (begun (world.hosts n).node free)

-- the transaction that a message is about
abbrev pub IsAbout : Tid → Message → Type 0
IsAbout t messages.Hello = ⊤
IsAbout t (messages.Request tid label member number issuer op) = t ≡ tid
IsAbout t (messages.Answered tid member number reply) = t ≡ tid
IsAbout t (messages.AskVote tid) = t ≡ tid
IsAbout t (messages.Covered tid up_to) = t ≡ tid
IsAbout t (messages.VotedYes tid up_to told) = t ≡ tid
IsAbout t (messages.VotedAbort tid cause) = t ≡ tid
IsAbout t (messages.Tell tid outcome) = t ≡ tid
IsAbout t (messages.Told tid further) = t ≡ tid
IsAbout t (messages.Inquire tid) = t ≡ tid

-- what shows its transaction gives that a message fits
abbrev pub ShownFits : Type 0
ShownFits = (tid : Tid) (world : World) (w : machine.World) (n m free : ℕ) (parcel : Parcel) → IsSteady world → tid.home.0 < world.size → HasBegun world tid → ShowsAll tid world w → n < world.size → world.channels.up n ≡ true
    → next_parcel world n m ≡ Some parcel → IsAbout tid parcel.message → FitsMessage (node_no m) parcel.message (begun (world.hosts n).node free)

-- so what comes may come
abbrev pub EachMayCome : Type 0
EachMayCome = (world : World) (n stamp free : ℕ) (source : Source) (event : Event) → IsSteady world → MessagesFit world → n < world.size → world.channels.up n ≡ true → event_of world n stamp source ≡ Some event
    → MayHappen event (begun (world.hosts n).node free) × BeginsNew event (begun (world.hosts n).node free)

-- ---- each move

abbrev pub EachMoveGoes : Type 0
EachMoveGoes = (tid : Tid) (world : World) (move : Move) (w : machine.World) → may_move world move ≡ true → IsSteady world → MessagesFit world → tid.home.0 < world.size → HasBegun world tid → ShowsAll tid world w
    → AllGoes tid (moved move world) w
