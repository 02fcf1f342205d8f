-- The law of a message that comes, whatever it is: what stands of a transaction goes on to stand.
use Rattle.std.specs.Prelude.{◌≡◌, ℕ, ⊤, true, false, List}
use Rattle.qs_base.specs.declared.identifiers.Tid.{Tid}
use Rattle.qs_ipc.specs.Queue.{is_for}
use Rattle.qs_packet.specs.declared.message.Message.{Message}
use Rattle.qs_packet.specs.declared.message.Message.TheVariants as messages
use Rattle.qs_node_step.specs.State.{Work}
use Rattle.qs_node_step.specs.Step.{message_came}
use Rattle.qs_world_agree.specs.World.{World}
use Rattle.qs_world_refine.specs.CloserWhole.{CountsNoMore}
use Rattle.qs_world_refine.specs.Links.{names_node, node_no}
use Rattle.qs_world_refine.specs.OutcomeWhole.{AgreesWith, KeepsPast}
use Rattle.qs_world_refine.specs.Shows.{Scene, handed}
use Rattle.qs_world_refine.specs.SoundSteps.{FitsMessage}
use Rattle.qs_world_refine.specs.Stands.{Stands, GoesOn}
use Rattle.qs_world_refine.specs.Steps.{IsNext}
use Rattle.qs_world_refine.specs.ToldWhole.{TakesTold}

-- what the machine's own facts are to give of a message that comes to n from m, where it is about this transaction
abbrev pub MayCome : Tid → Scene → ℕ → ℕ → Message → Work → World → Type 0
MayCome t scene n m messages.Hello work w = ⊤
MayCome t scene n m (messages.Request tid label member number issuer op) work w = t ≡ tid → is_for member.server op ≡ true
MayCome t scene n m (messages.Answered tid member number reply) work w = ⊤
MayCome t scene n m (messages.AskVote tid) work w = ⊤
MayCome t scene n m (messages.Covered tid up_to) work w = t ≡ tid → CountsNoMore t work
MayCome t scene n m (messages.VotedYes tid up_to told) work w = t ≡ tid → (names_node told t.home ≡ false) × CountsNoMore t work
MayCome t scene n m (messages.VotedAbort tid cause) work w = ⊤
MayCome t scene n m (messages.Tell tid outcome) work w = t ≡ tid → (m ≡ t.home.0) × AgreesWith t outcome work
MayCome t scene n m (messages.Told tid further) work w = t ≡ tid → n ≡ t.home.0 → TakesTold t scene m further work w
MayCome t scene n m (messages.Inquire tid) work w = t ≡ tid → (n ≡ t.home.0) × KeepsPast t work

abbrev pub MessageStands : Type 0
MessageStands = (t : Tid) (scene : Scene) (n m i : ℕ) (message : Message) (rest : List Message) (work : Work) (w : World) → IsNext scene n m i message rest → FitsMessage (node_no m) message work → MayCome t scene n m message work w
    → Stands t scene n work w → GoesOn t (handed scene m i n rest) n (message_came (node_no m) message work) w
