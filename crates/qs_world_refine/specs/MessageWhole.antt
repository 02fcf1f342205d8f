-- The laws of messages that come: what stands of a transaction goes on to stand, and the message is handed up.
use Rattle.std.specs.Prelude.{ℕ, List}
use Rattle.qs_base.specs.declared.identifiers.Member.{Member}
use Rattle.qs_base.specs.declared.identifiers.Tid.{Tid}
use Rattle.qs_ops.specs.declared.answer.Cause.{Cause}
use Rattle.qs_ops.specs.declared.reply.Reply.{Reply}
use Rattle.qs_packet.specs.declared.message.Message.{Message}
use Rattle.qs_packet.specs.declared.message.Message.TheVariants as messages
use Rattle.qs_node_step.specs.State.{Work}
use Rattle.qs_node_step.specs.Step.{message_came}
use Rattle.qs_world_agree.specs.World.{World}
use Rattle.qs_world_refine.specs.Links.{node_no}
use Rattle.qs_world_refine.specs.Messages.{IsForeign}
use Rattle.qs_world_refine.specs.Shows.{Scene, handed}
use Rattle.qs_world_refine.specs.SoundSteps.{FitsMessage}
use Rattle.qs_world_refine.specs.Stands.{Stands, GoesOn}
use Rattle.qs_world_refine.specs.Steps.{IsNext}

-- one about another transaction: no event
abbrev pub ForeignStands : Type 0
ForeignStands = (t : Tid) (scene : Scene) (n m i : ℕ) (message : Message) (rest : List Message) (work : Work) (w : World) → IsNext scene n m i message rest → FitsMessage (node_no m) message work → IsForeign t message
    → Stands t scene n work w → GoesOn t (handed scene m i n rest) n (message_came (node_no m) message work) w

-- a reply: no event
abbrev pub AnsweredStands : Type 0
AnsweredStands = (t : Tid) (scene : Scene) (n m i number : ℕ) (member : Member) (reply : Reply) (rest : List Message) (work : Work) (w : World) → IsNext scene n m i (messages.Answered t member number reply) rest
    → Stands t scene n work w → GoesOn t (handed scene m i n rest) n (message_came (node_no m) (messages.Answered t member number reply) work) w

-- a node is asked to vote: Ask, or none
abbrev pub AskVoteStands : Type 0
AskVoteStands = (t : Tid) (scene : Scene) (n m i : ℕ) (rest : List Message) (work : Work) (w : World) → IsNext scene n m i (messages.AskVote t) rest
    → Stands t scene n work w → GoesOn t (handed scene m i n rest) n (message_came (node_no m) (messages.AskVote t) work) w

-- a refusal: no event
abbrev pub RefusalStands : Type 0
RefusalStands = (t : Tid) (scene : Scene) (n m i : ℕ) (cause : Cause) (rest : List Message) (work : Work) (w : World) → IsNext scene n m i (messages.VotedAbort t cause) rest
    → Stands t scene n work w → GoesOn t (handed scene m i n rest) n (message_came (node_no m) (messages.VotedAbort t cause) work) w
