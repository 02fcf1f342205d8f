-- The laws of the rules by which the home's node is told of more nodes that were drawn into an aborted transaction.
use Rattle.std.specs.Prelude.{◌≡◌, ◌≢◌, ℕ, true, List, None, Some}
use Rattle.std.specs.List.{list_any}
use Rattle.qs_base.specs.declared.identifiers.NodeNo.{NodeNo}
use Rattle.qs_base.specs.declared.identifiers.Outcome.TheVariants as outcomes
use Rattle.qs_base.specs.declared.identifiers.Tid.{Tid}
use Rattle.qs_packet.specs.declared.message.Message.{Message}
use Rattle.qs_packet.specs.declared.message.Message.TheVariants as messages
use Rattle.qs_tm.specs.declared.participant.Participant.{Participant}
use Rattle.qs_node_step.specs.State.{Work, part_of}
use Rattle.qs_node_step.specs.Step.{message_came}
use Rattle.qs_node_step.specs.Telling.{is_other_node}
use Rattle.qs_world_agree.specs.World.{World}
use Rattle.qs_world_agree.specs.Carry.{IsLawful}
use Rattle.qs_world_refine.specs.Links.{node_no}
use Rattle.qs_world_refine.specs.Shows.{Scene, ShowsWork, handed}
use Rattle.qs_world_refine.specs.Steps.{IsAt, IsNext, Knows, Goes}

-- a Told comes where abort is known: Take_names for each name, then Tell_abort for each new one
abbrev pub ToldAbortGoes : Type 0
ToldAbortGoes = (tid : Tid) (scene : Scene) (m i : ℕ) (further : List NodeNo) (rest : List Message) (work : Work) (part : Participant) (w : World) → ShowsWork tid scene tid.home.0 work w
    → IsAt scene tid.home.0 work → IsNext scene tid.home.0 m i (messages.Told tid further) rest → Knows tid work part → part.outcome ≡ Some outcomes.Abort
    → Goes tid (handed scene m i tid.home.0 rest) tid.home.0 (message_came (node_no m) (messages.Told tid further) work) w

-- one that names others comes to a later incarnation, which knows nothing of the transaction and keeps it as aborted from now on: the same events
abbrev pub ToldUnknownGoes : Type 0
ToldUnknownGoes = (tid : Tid) (scene : Scene) (m i : ℕ) (further : List NodeNo) (rest : List Message) (work : Work) (w : World) → IsLawful w → ShowsWork tid scene tid.home.0 work w
    → IsAt scene tid.home.0 work → IsNext scene tid.home.0 m i (messages.Told tid further) rest → work.node.manager.node ≡ work.node.setting.node → part_of tid work ≡ None
    → list_any (is_other_node tid) further ≡ true → tid.inc ≢ scene.inc tid.home.0
    → Goes tid (handed scene m i tid.home.0 rest) tid.home.0 (message_came (node_no m) (messages.Told tid further) work) w
