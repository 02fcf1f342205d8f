-- The laws of a Covered and a VotedYes that come: what stands of their transaction goes on to stand.
use Rattle.std.specs.Prelude.{◌≡◌, ℕ, List, Some, None, true, false}
use Rattle.qs_base.specs.declared.identifiers.NodeNo.{NodeNo}
use Rattle.qs_base.specs.declared.identifiers.Outcome.TheVariants as outcomes
use Rattle.qs_base.specs.declared.identifiers.Tid.{Tid}
use Rattle.qs_packet.specs.declared.message.Message.{Message}
use Rattle.qs_packet.specs.declared.message.Message.TheVariants as messages
use Rattle.qs_tm.specs.declared.participant.Participant.{Participant}
use Rattle.qs_node_step.specs.State.{Work, part_of}
use Rattle.qs_node_step.specs.Step.{message_came}
use Rattle.qs_world_agree.specs.World.{World}
use Rattle.qs_world_refine.specs.Links.{names_node, node_no}
use Rattle.qs_world_refine.specs.NodeFaces.{began_here, is_past_commit}
use Rattle.qs_world_refine.specs.Shows.{Scene, handed}
use Rattle.qs_world_refine.specs.SoundSteps.{FitsMessage}
use Rattle.qs_world_refine.specs.Stands.{Stands, GoesOn}
use Rattle.qs_world_refine.specs.Steps.{IsNext}

-- who learnt commit answers to nobody any more, and what is known no more where it began was committed
pub record CountsNoMore (t : Tid) (work : Work) : Type 0 where
  pub released : (part : Participant) → part_of t work ≡ Some part → part.outcome ≡ Some outcomes.Commit → part.engage.superior ≡ None
  pub kept : part_of t work ≡ None → began_here work.node t ≡ true → is_past_commit work.node t ≡ true

-- Count where it is known; Ignore where it is known no more, and where it is decided and the node answers to nobody
abbrev pub CoveredStands : Type 0
CoveredStands = (t : Tid) (scene : Scene) (n m i up_to : ℕ) (rest : List Message) (work : Work) (w : World) → IsNext scene n m i (messages.Covered t up_to) rest
    → FitsMessage (node_no m) (messages.Covered t up_to) work → CountsNoMore t work
    → Stands t scene n work w → GoesOn t (handed scene m i n rest) n (message_came (node_no m) (messages.Covered t up_to) work) w

abbrev pub VotedYesStands : Type 0
VotedYesStands = (t : Tid) (scene : Scene) (n m i up_to : ℕ) (told : List NodeNo) (rest : List Message) (work : Work) (w : World) → IsNext scene n m i (messages.VotedYes t up_to told) rest
    → FitsMessage (node_no m) (messages.VotedYes t up_to told) work → names_node told t.home ≡ false → CountsNoMore t work
    → Stands t scene n work w → GoesOn t (handed scene m i n rest) n (message_came (node_no m) (messages.VotedYes t up_to told) work) w
