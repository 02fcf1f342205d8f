-- The laws of rules by which the home's node answers inquiries: what shows the work before shows it after.
use Rattle.std.specs.Prelude.{◌≡◌, ◌≢◌, ℕ, true, false, List, Some, None}
use Rattle.qs_base.specs.declared.identifiers.Outcome.TheVariants as outcomes
use Rattle.qs_base.specs.declared.identifiers.Tid.{Tid}
use Rattle.qs_packet.specs.declared.message.Message.{Message}
use Rattle.qs_packet.specs.declared.message.Message.TheVariants as messages
use Rattle.qs_tm.specs.declared.participant.Participant.{Participant}
use Rattle.qs_node_step.specs.Answering.{was_committed}
use Rattle.qs_node_step.specs.State.{Work, part_of}
use Rattle.qs_node_step.specs.Step.{message_came}
use Rattle.qs_world_agree.specs.World.{World}
use Rattle.qs_world_refine.specs.DecisionLaws.{IsHome, KnowsCommit}
use Rattle.qs_world_refine.specs.Links.{node_no}
use Rattle.qs_world_refine.specs.NodeFaces.{is_past_commit}
use Rattle.qs_world_refine.specs.Shows.{Scene, ShowsWork, handed}
use Rattle.qs_world_refine.specs.Steps.{IsAt, IsNext, Knows, Goes}

-- where the transaction runs: Answer_running
abbrev pub InquiryRunningGoes : Type 0
InquiryRunningGoes = (tid : Tid) (scene : Scene) (m i : ℕ) (rest : List Message) (work : Work) (part : Participant) (w : World) → ShowsWork tid scene tid.home.0 work w
    → IsHome tid scene work part → IsNext scene tid.home.0 m i (messages.Inquire tid) rest
    → Goes tid (handed scene m i tid.home.0 rest) tid.home.0 (message_came (node_no m) (messages.Inquire tid) work) w

-- where its commit is known: Answer_commit
abbrev pub InquiryCommitGoes : Type 0
InquiryCommitGoes = (tid : Tid) (scene : Scene) (m i : ℕ) (rest : List Message) (work : Work) (part : Participant) (w : World) → ShowsWork tid scene tid.home.0 work w
    → IsAt scene tid.home.0 work → IsNext scene tid.home.0 m i (messages.Inquire tid) rest → KnowsCommit tid work part
    → Goes tid (handed scene m i tid.home.0 rest) tid.home.0 (message_came (node_no m) (messages.Inquire tid) work) w

-- where it is forgotten, and what is kept for good says that it was committed: Answer_commit
abbrev pub InquiryPastGoes : Type 0
InquiryPastGoes = (tid : Tid) (scene : Scene) (m i : ℕ) (rest : List Message) (work : Work) (w : World) → ShowsWork tid scene tid.home.0 work w
    → IsAt scene tid.home.0 work → IsNext scene tid.home.0 m i (messages.Inquire tid) rest → part_of tid work ≡ None → was_committed tid work.node ≡ true → is_past_commit work.node tid ≡ true
    → Goes tid (handed scene m i tid.home.0 rest) tid.home.0 (message_came (node_no m) (messages.Inquire tid) work) w

-- where its abort is known: Answer_abort
abbrev pub InquiryAbortGoes : Type 0
InquiryAbortGoes = (tid : Tid) (scene : Scene) (m i : ℕ) (rest : List Message) (work : Work) (part : Participant) (w : World) → ShowsWork tid scene tid.home.0 work w
    → IsAt scene tid.home.0 work → IsNext scene tid.home.0 m i (messages.Inquire tid) rest → Knows tid work part → part.engage.home ≡ true → part.outcome ≡ Some outcomes.Abort
    → Goes tid (handed scene m i tid.home.0 rest) tid.home.0 (message_came (node_no m) (messages.Inquire tid) work) w

-- where a later incarnation knows nothing of it: Answer_abort
abbrev pub InquiryUnknownGoes : Type 0
InquiryUnknownGoes = (tid : Tid) (scene : Scene) (m i : ℕ) (rest : List Message) (work : Work) (w : World) → ShowsWork tid scene tid.home.0 work w
    → IsAt scene tid.home.0 work → IsNext scene tid.home.0 m i (messages.Inquire tid) rest → work.node.manager.node ≡ work.node.setting.node → part_of tid work ≡ None → was_committed tid work.node ≡ false → tid.inc ≢ scene.inc tid.home.0
    → Goes tid (handed scene m i tid.home.0 rest) tid.home.0 (message_came (node_no m) (messages.Inquire tid) work) w
