-- The law of a Told that comes: what stands of its transaction goes on to stand.
use Rattle.std.specs.Prelude.{◌≡◌, ◌≢◌, ℕ, true, List, Some, None}
use Rattle.std.specs.List.{list_any}
use Rattle.qs_base.specs.declared.identifiers.NodeNo.{NodeNo}
use Rattle.qs_base.specs.declared.identifiers.Outcome.TheVariants as outcomes
use Rattle.qs_base.specs.declared.identifiers.Tid.{Tid}
use Rattle.qs_packet.specs.declared.message.Message.{Message}
use Rattle.qs_packet.specs.declared.message.Message.TheVariants as messages
use Rattle.qs_tm.specs.Manager as tm
use Rattle.qs_tm.specs.declared.participant.Participant.{Participant}
use Rattle.qs_node_step.specs.State.{Work, part_of}
use Rattle.qs_node_step.specs.Step.{message_came}
use Rattle.qs_node_step.specs.Telling.{is_other_node}
use Rattle.qs_world_agree.specs.World.{World}
use Rattle.qs_world_refine.specs.DecisionLaws.{IsListed, ShowsTold}
use Rattle.qs_world_refine.specs.Links.{node_no}
use Rattle.qs_world_refine.specs.NodeFaces.{is_past_commit}
use Rattle.qs_world_refine.specs.Shows.{Scene, handed}
use Rattle.qs_world_refine.specs.SoundSteps.{FitsMessage}
use Rattle.qs_world_refine.specs.Stands.{Stands, GoesOn}
use Rattle.qs_world_refine.specs.Steps.{IsNext}

-- what the home's node, which knows the commit, has of acknowledgements the machine has too; with the last one its log has the Commit, and what is forgotten then was committed;
-- and what it knows nothing of, and is told to others, it began in an earlier incarnation
pub record TakesTold (t : Tid) (scene : Scene) (m : ℕ) (further : List NodeNo) (work : Work) (w : World) : Type 0 where
  pub acknowledged : (part : Participant) → part_of t work ≡ Some part → part.outcome ≡ Some outcomes.Commit → ShowsTold t work w
  pub listed : (part : Participant) → part_of t work ≡ Some part → part.outcome ≡ Some outcomes.Commit → tm.all_acknowledged t (node_no m) work.node.manager ≡ true → IsListed t scene work part
  pub past : (part : Participant) → part_of t work ≡ Some part → part.outcome ≡ Some outcomes.Commit → tm.all_acknowledged t (node_no m) work.node.manager ≡ true → is_past_commit work.node t ≡ true
  pub earlier : part_of t work ≡ None → list_any (is_other_node t) further ≡ true → t.inc ≢ scene.inc t.home.0

-- at the home's node: Take_told, and End behind the last one; Take_names and Tell_abort
abbrev pub ToldStands : Type 0
ToldStands = (t : Tid) (scene : Scene) (m i : ℕ) (further : List NodeNo) (rest : List Message) (work : Work) (w : World) → IsNext scene t.home.0 m i (messages.Told t further) rest
    → FitsMessage (node_no m) (messages.Told t further) work → TakesTold t scene m further work w
    → Stands t scene t.home.0 work w → GoesOn t (handed scene m i t.home.0 rest) t.home.0 (message_came (node_no m) (messages.Told t further) work) w

-- at another one: no event
abbrev pub ToldAwayStands : Type 0
ToldAwayStands = (t : Tid) (scene : Scene) (n m i : ℕ) (further : List NodeNo) (rest : List Message) (work : Work) (w : World) → IsNext scene n m i (messages.Told t further) rest
    → FitsMessage (node_no m) (messages.Told t further) work → t.home.0 ≢ n
    → Stands t scene n work w → GoesOn t (handed scene m i n rest) n (message_came (node_no m) (messages.Told t further) work) w
