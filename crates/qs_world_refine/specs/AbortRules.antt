-- The laws of rules by which another node than the home is told abort: what shows the work before shows it after.
use Rattle.std.specs.Prelude.{◌≡◌, ℕ, true, List, Some, None}
use Rattle.qs_base.specs.declared.identifiers.Outcome.TheVariants as outcomes
use Rattle.qs_base.specs.declared.identifiers.Tid.{Tid}
use Rattle.qs_engage.specs.Nodes.{is_no_node}
use Rattle.qs_packet.specs.declared.message.Message.{Message}
use Rattle.qs_packet.specs.declared.message.Message.TheVariants as messages
use Rattle.qs_tm.specs.declared.participant.Participant.{Participant}
use Rattle.qs_node_step.specs.State.{Work, part_of}
use Rattle.qs_node_step.specs.Step.{message_came}
use Rattle.qs_world_agree.specs.World.{World}
use Rattle.qs_world_agree.specs.Carry.{IsLawful}
use Rattle.qs_world_refine.specs.Links.{node_no}
use Rattle.qs_world_refine.specs.Shows.{Scene, ShowsWork, handed}
use Rattle.qs_world_refine.specs.Steps.{IsAt, IsNext, Knows, Goes}

-- a Tell with abort comes from the home's node to another one
pub record IsToldAbort (tid : Tid) (scene : Scene) (n m i : ℕ) (rest : List Message) (work : Work) : Type 0 where
  pub at : IsAt scene n work
  pub next : IsNext scene n m i (messages.Tell tid outcomes.Abort) rest
  pub from_home : m ≡ tid.home.0

-- which is undecided, and tells nobody: Learn_abort; Abort_logged follows once the record is on the disk
abbrev pub TellAbortGoes : Type 0
TellAbortGoes = (tid : Tid) (scene : Scene) (n m i : ℕ) (rest : List Message) (work : Work) (part : Participant) (w : World) → IsLawful w → ShowsWork tid scene n work w
    → IsToldAbort tid scene n m i rest work → Knows tid work part → part.outcome ≡ None → is_no_node part.tell ≡ true
    → Goes tid (handed scene m i n rest) n (message_came (node_no m) (messages.Tell tid outcomes.Abort) work) w

-- which knows the abort: Name_again
abbrev pub TellAbortAgainGoes : Type 0
TellAbortAgainGoes = (tid : Tid) (scene : Scene) (n m i : ℕ) (rest : List Message) (work : Work) (part : Participant) (w : World) → IsLawful w → ShowsWork tid scene n work w
    → IsToldAbort tid scene n m i rest work → Knows tid work part → part.outcome ≡ Some outcomes.Abort
    → Goes tid (handed scene m i n rest) n (message_came (node_no m) (messages.Tell tid outcomes.Abort) work) w

-- which knows nothing of it, and keeps the abort: Learn_abort
abbrev pub TellAbortUnknownGoes : Type 0
TellAbortUnknownGoes = (tid : Tid) (scene : Scene) (n m i : ℕ) (rest : List Message) (work : Work) (w : World) → IsLawful w → ShowsWork tid scene n work w
    → IsToldAbort tid scene n m i rest work → work.node.manager.node ≡ work.node.setting.node → part_of tid work ≡ None
    → Goes tid (handed scene m i n rest) n (message_came (node_no m) (messages.Tell tid outcomes.Abort) work) w
