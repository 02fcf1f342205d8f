-- The laws of messages about an outcome that come to a transaction: what stands of it goes on to stand, and the message is handed up.
use Rattle.std.specs.Prelude.{◌≡◌, ℕ, true, List, Some, None}
use Rattle.qs_base.specs.declared.identifiers.Outcome.{Outcome}
use Rattle.qs_base.specs.declared.identifiers.Tid.{Tid}
use Rattle.qs_packet.specs.declared.message.Message.{Message}
use Rattle.qs_packet.specs.declared.message.Message.TheVariants as messages
use Rattle.qs_tm.specs.declared.participant.Participant.{Participant}
use Rattle.qs_node_step.specs.Answering.{was_committed}
use Rattle.qs_node_step.specs.State.{Work, part_of}
use Rattle.qs_node_step.specs.Step.{message_came}
use Rattle.qs_world_agree.specs.World.{World}
use Rattle.qs_world_refine.specs.Links.{node_no}
use Rattle.qs_world_refine.specs.NodeFaces.{is_past_commit}
use Rattle.qs_world_refine.specs.Shows.{Scene, handed}
use Rattle.qs_world_refine.specs.Sound.{is_past}
use Rattle.qs_world_refine.specs.SoundSteps.{FitsMessage}
use Rattle.qs_world_refine.specs.Stands.{Stands, GoesOn}
use Rattle.qs_world_refine.specs.Steps.{IsNext}

-- a Tell of the home's node says nothing else than what the node knows
abbrev pub AgreesWith : Tid → Outcome → Work → Type 0
AgreesWith t outcome work = (part : Participant) (o : Outcome) → part_of t work ≡ Some part → part.outcome ≡ Some o → o ≡ outcome

-- it comes to another node: Learn, or Acknowledge; Learn_abort, or Name_again
abbrev pub TellStands : Type 0
TellStands = (t : Tid) (scene : Scene) (n m i : ℕ) (outcome : Outcome) (rest : List Message) (work : Work) (w : World) → IsNext scene n m i (messages.Tell t outcome) rest → m ≡ t.home.0
    → FitsMessage (node_no m) (messages.Tell t outcome) work → AgreesWith t outcome work
    → Stands t scene n work w → GoesOn t (handed scene m i n rest) n (message_came (node_no m) (messages.Tell t outcome) work) w

-- what the home's node knows no more it committed, where it began it in this incarnation; and what it keeps as committed its log says, where it began earlier
pub record KeepsPast (t : Tid) (work : Work) : Type 0 where
  pub began : is_past work.node t ≡ true
  pub kept : part_of t work ≡ None → was_committed t work.node ≡ true → is_past_commit work.node t ≡ true

-- an Inquire comes to the home's node: Answer_running, Answer_commit or Answer_abort
abbrev pub InquireStands : Type 0
InquireStands = (t : Tid) (scene : Scene) (m i : ℕ) (rest : List Message) (work : Work) (w : World) → IsNext scene t.home.0 m i (messages.Inquire t) rest → KeepsPast t work
    → Stands t scene t.home.0 work w → GoesOn t (handed scene m i t.home.0 rest) t.home.0 (message_came (node_no m) (messages.Inquire t) work) w
