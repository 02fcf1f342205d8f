-- The laws of rules that decide a transaction, tell its outcome and take in that it was told: what shows the work before shows it after.
use Rattle.std.specs.Prelude.{◌≡◌, ◌≢◌, ℕ, ◌<◌, true, false, List, Option, Some, None}
use Rattle.std.specs.List.{list_any}
use Rattle.qs_base.specs.declared.identifiers.NodeNo.{NodeNo}
use Rattle.qs_base.specs.declared.identifiers.Outcome.TheVariants as outcomes
use Rattle.qs_base.specs.declared.identifiers.Tid.{Tid}
use Rattle.qs_ops.specs.declared.answer.Cause.{Cause}
use Rattle.qs_engage.specs.Nodes.{has_node}
use Rattle.qs_packet.specs.declared.message.Message.{Message}
use Rattle.qs_packet.specs.declared.message.Message.TheVariants as messages
use Rattle.qs_restart.specs.Recovery.{is_untold_of}
use Rattle.qs_tm.specs.Manager as tm
use Rattle.qs_tm.specs.Participant as participant
use Rattle.qs_tm.specs.declared.participant.Participant.{Participant}
use Rattle.qs_node_step.specs.Deciding.{decide}
use Rattle.qs_node_step.specs.Step.{message_came}
use Rattle.qs_node_step.specs.Settling.{is_busy}
use Rattle.qs_node_step.specs.State.{Work}
use Rattle.qs_node_step.specs.Telling.{forget}
use Rattle.qs_world_agree.specs.World.{World}
use Rattle.qs_world_agree.specs.Carry.{Leads, IsLawful}
use Rattle.qs_world_refine.specs.Links.{node_no, names_node}
use Rattle.qs_world_refine.specs.NodeFaces.{face_at, is_past_commit}
use Rattle.qs_world_refine.specs.Shows.{Scene, sight_during, ShowsWork, handed}
use Rattle.qs_world_refine.specs.Sights.{is_in_doubt, list_of}
use Rattle.qs_world_refine.specs.Sound.{in_order}
use Rattle.qs_world_refine.specs.Steps.{IsAt, Knows, IsNext, Goes}

-- the node where it began, in the incarnation in which it began, runs it and has not decided it
pub record IsHome (tid : Tid) (scene : Scene) (work : Work) (part : Participant) : Type 0 where
  pub at : IsAt scene tid.home.0 work
  pub first : tid.inc ≡ scene.inc tid.home.0
  pub knows : Knows tid work part
  pub home : part.engage.home ≡ true
  pub undecided : part.outcome ≡ None

-- the log of a node that keeps no Prepare for it has nothing of it in doubt
abbrev pub HasNoDoubt : Tid → Scene → ℕ → Work → Participant → Type 0
HasNoDoubt tid scene n work part = part.log.prepared ≡ false → (s : ℕ) → is_in_doubt tid s ((sight_during tid scene n work).found n) ≡ false

-- a home that is ready decides commit: Commit, or Commit and End where nobody is named, or Commit_unlogged where no record is written; then Tell for each node that is to be told
abbrev pub DecideCommitGoes : Type 0
DecideCommitGoes = (tid : Tid) (scene : Scene) (cause : Option Cause) (work : Work) (part : Participant) (w : World) → IsLawful w → ShowsWork tid scene tid.home.0 work w
    → IsHome tid scene work part → participant.is_ready (is_busy tid work.node part) part ≡ true → HasNoDoubt tid scene tid.home.0 work part
    → Goes tid scene tid.home.0 (decide tid outcomes.Commit cause work) w

-- a home decides abort, for whatever cause: Abort, then Tell_abort for each node that it drew in; Abort_logged follows once the record is on the disk
abbrev pub DecideAbortGoes : Type 0
DecideAbortGoes = (tid : Tid) (scene : Scene) (cause : Option Cause) (work : Work) (part : Participant) (w : World) → ShowsWork tid scene tid.home.0 work w → IsHome tid scene work part
    → Goes tid scene tid.home.0 (decide tid outcomes.Abort cause work) w

-- ---- a Told comes to the home's node, which knows the commit

-- the machine took the Told of each node of which the home's node has one
abbrev pub ShowsTold : Tid → Work → World → Type 0
ShowsTold tid work w = (m : ℕ) → (face_at work.node tid).acknowledged m ≡ true → w.acknowledged m ≡ true

-- and it goes on so
pub record GoesTold (tid : Tid) (scene : Scene) (n : ℕ) (new : Work) (w : World) : Type 0 where
  pub next : World
  pub leads : Leads w next
  pub shown : ShowsWork tid scene n new next
  pub told : ShowsTold tid new next

-- it goes on, and each node that the Commit names has acknowledged it
pub record GoesEnding (tid : Tid) (scene : Scene) (n : ℕ) (new : Work) (w : World) : Type 0 where
  pub next : World
  pub leads : Leads w next
  pub shown : ShowsWork tid scene n new next
  pub all_told : (m : ℕ) → next.commit_list m ≡ true → next.acknowledged m ≡ true

-- the home's node knows the commit
pub record KnowsCommit (tid : Tid) (work : Work) (part : Participant) : Type 0 where
  pub knows : Knows tid work part
  pub home : part.engage.home ≡ true
  pub committed : part.outcome ≡ Some outcomes.Commit

-- while others are still to acknowledge it: Take_told
abbrev pub ToldCommitGoes : Type 0
ToldCommitGoes = (tid : Tid) (scene : Scene) (m i : ℕ) (further : List NodeNo) (rest : List Message) (work : Work) (part : Participant) (w : World) → IsLawful w → ShowsWork tid scene tid.home.0 work w
    → IsAt scene tid.home.0 work → IsNext scene tid.home.0 m i (messages.Told tid further) rest → KnowsCommit tid work part → ShowsTold tid work w
    → tm.all_acknowledged tid (node_no m) work.node.manager ≡ false
    → GoesTold tid (handed scene m i tid.home.0 rest) tid.home.0 (message_came (node_no m) (messages.Told tid further) work) w

-- the Commit stands in the log, and names only nodes that the home's node is to tell
pub record IsListed (tid : Tid) (scene : Scene) (work : Work) (part : Participant) : Type 0 where
  pub stands : list_any (is_untold_of tid) ((sight_during tid scene tid.home.0 work).found tid.home.0).untold ≡ true
  pub named : (m : ℕ) → names_node (list_of tid ((sight_during tid scene tid.home.0 work).found tid.home.0)) (node_no m) ≡ true → has_node part.tell (node_no m) ≡ true

-- with the last one: Take_told, and End is to follow once its record is on the disk; what is forgotten was committed, as what the home keeps for good says
abbrev pub ToldLastGoes : Type 0
ToldLastGoes = (tid : Tid) (scene : Scene) (m i : ℕ) (further : List NodeNo) (rest : List Message) (work : Work) (part : Participant) (w : World) → IsLawful w → ShowsWork tid scene tid.home.0 work w
    → IsAt scene tid.home.0 work → IsNext scene tid.home.0 m i (messages.Told tid further) rest → KnowsCommit tid work part → ShowsTold tid work w
    → in_order work.node.manager.known ≡ true → tm.all_acknowledged tid (node_no m) work.node.manager ≡ true → IsListed tid scene work part → is_past_commit work.node tid ≡ true
    → GoesEnding tid (handed scene m i tid.home.0 rest) tid.home.0 (message_came (node_no m) (messages.Told tid further) work) w

-- ---- another node than the home, which only read, answers to nobody and is not to be told, forgets it: Forget
abbrev pub ForgetReadGoes : Type 0
ForgetReadGoes = (tid : Tid) (scene : Scene) (n : ℕ) (work : Work) (part : Participant) (w : World) → IsLawful w → ShowsWork tid scene n work w → IsAt scene n work → Knows tid work part
    → tid.home.0 ≢ n → tid.home.0 < scene.size → in_order work.node.manager.known ≡ true → participant.is_forgotten part ≡ true
    → Goes tid scene n (forget tid work) w
