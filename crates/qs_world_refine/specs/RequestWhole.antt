-- The law of a request that comes: what stands of its transaction goes on to stand, and the request is handed up.
use Rattle.std.specs.Prelude.{◌≡◌, ℕ, true, List}
use Rattle.qs_base.specs.declared.identifiers.Member.{Member}
use Rattle.qs_base.specs.declared.identifiers.ServerNo.{ServerNo}
use Rattle.qs_base.specs.declared.identifiers.Tid.{Tid}
use Rattle.qs_ipc.specs.Queue.{is_for}
use Rattle.qs_ops.specs.declared.operation.Op.{Op}
use Rattle.qs_packet.specs.declared.message.Message.{Message}
use Rattle.qs_packet.specs.declared.message.Message.TheVariants as messages
use Rattle.qs_node_step.specs.State.{Work}
use Rattle.qs_node_step.specs.Step.{message_came}
use Rattle.qs_world_agree.specs.World.{World}
use Rattle.qs_world_refine.specs.Links.{node_no}
use Rattle.qs_world_refine.specs.Shows.{Scene, handed}
use Rattle.qs_world_refine.specs.SoundSteps.{FitsMessage}
use Rattle.qs_world_refine.specs.Stands.{Stands, GoesOn}
use Rattle.qs_world_refine.specs.Steps.{IsNext}

-- one for an operation of its member's own: Engage, Join or Cover; Drop_engage, Drop_join or Drop_cover where it is dropped
abbrev pub RequestStands : Type 0
RequestStands = (t : Tid) (scene : Scene) (n m i number : ℕ) (label : List ℕ) (member : Member) (issuer : ServerNo) (op : Op) (rest : List Message) (work : Work) (w : World) → IsNext scene n m i (messages.Request t label member number issuer op) rest
    → is_for member.server op ≡ true → FitsMessage (node_no m) (messages.Request t label member number issuer op) work
    → Stands t scene n work w → GoesOn t (handed scene m i n rest) n (message_came (node_no m) (messages.Request t label member number issuer op) work) w
