-- The laws of what a node does for one transaction as it finds that another node restarted: what shows the work before shows it after.
use Rattle.std.specs.Prelude.{◌≡◌, ◌≢◌, ℕ, ◌<◌, ◌≤◌, ◌==◌, ◌&&◌, true, [], Some, None, if◌then◌else◌}
use Rattle.qs_base.specs.declared.identifiers.Outcome.{Outcome}
use Rattle.qs_base.specs.declared.identifiers.Outcome.TheVariants as outcomes
use Rattle.qs_base.specs.declared.identifiers.Tid.{Tid}
use Rattle.qs_tm.specs.Manager as tm
use Rattle.qs_tm.specs.declared.participant.Participant.{Participant}
use Rattle.qs_node_step.specs.Restarts.{find_gone, tell_again, name_again, resume_home}
use Rattle.qs_node_step.specs.State.{Work, with_manager}
use Rattle.qs_world_agree.specs.World.{World}
use Rattle.qs_world_agree.specs.Carry.{IsLawful}
use Rattle.qs_world_refine.specs.Links.{node_no}
use Rattle.qs_world_refine.specs.Messages.{all_said}
use Rattle.qs_world_refine.specs.Shows.{Scene, ShowsWork, sent_to}
use Rattle.qs_world_refine.specs.Steps.{IsAt, IsKnown, Knows, Goes}

-- node n knows a later incarnation of node m
abbrev pub noticed : Scene → ℕ → ℕ → ℕ → Scene
noticed scene n m new = record scene { knows = λ a b. if (a == n) && (b == m) then new else scene.knows a b }

-- it is to know it; nothing was put for that incarnation before, and nothing of the transaction was sent to the node in this step
pub record IsNoticed (tid : Tid) (scene : Scene) (n m old new : ℕ) (work : Work) : Type 0 where
  pub in_run : m < scene.size
  pub other : m ≢ n
  pub knows : scene.knows n m ≡ old
  pub some : 1 ≤ old
  pub later : old < new
  pub begun : new ≤ scene.inc m
  pub fresh : scene.pending n (scene.inc n) m new ≡ []
  pub silent : all_said tid (sent_to m work.out.messages) ≡ []

-- a transaction that is not decided here can't be committed any more where the other node owes it something: Notice
abbrev pub FindGoneGoes : Type 0
FindGoneGoes = (tid : Tid) (scene : Scene) (n m old new : ℕ) (work : Work) (part : Participant) (w : World) → IsLawful w → ShowsWork tid scene n work w
    → IsAt scene n work → IsNoticed tid scene n m old new work → Knows tid work part → part.outcome ≡ None
    → Goes tid (noticed scene n m new) n (find_gone (node_no m) old tid part (with_manager (tm.restarted tid (node_no m)) work)) w

-- of one that is decided nothing changes but that the numbers of its requests begin anew: Notice
abbrev pub NoticeDecidedGoes : Type 0
NoticeDecidedGoes = (tid : Tid) (scene : Scene) (n m old new : ℕ) (outcome : Outcome) (work : Work) (part : Participant) (w : World) → IsLawful w → ShowsWork tid scene n work w
    → IsAt scene n work → IsNoticed tid scene n m old new work → Knows tid work part → part.outcome ≡ Some outcome
    → Goes tid (noticed scene n m new) n (with_manager (tm.restarted tid (node_no m)) work) w

-- the home's node tells an outcome again where that is due: Tell, or Tell_abort
abbrev pub TellAgainGoes : Type 0
TellAgainGoes = (tid : Tid) (scene : Scene) (m : ℕ) (outcome : Outcome) (work : Work) (part : Participant) (w : World) → ShowsWork tid scene tid.home.0 work w
    → IsAt scene tid.home.0 work → Knows tid work part → part.engage.home ≡ true → part.outcome ≡ Some outcome
    → Goes tid scene tid.home.0 (tell_again (node_no m) tid outcome part work) w

-- another node that knows abort names to the home's node, which restarted, whom it drew in: Name_again
abbrev pub NameHomeGoes : Type 0
NameHomeGoes = (tid : Tid) (scene : Scene) (n i : ℕ) (work : Work) (part : Participant) (w : World) → IsLawful w → ShowsWork tid scene n work w
    → IsAt scene n work → IsKnown scene n tid.home.0 i → Knows tid work part → part.outcome ≡ Some outcomes.Abort
    → Goes tid scene n (name_again (node_no tid.home.0) tid part work) w

-- to any other node it names nobody: no event
abbrev pub NameOtherGoes : Type 0
NameOtherGoes = (tid : Tid) (scene : Scene) (n m : ℕ) (work : Work) (part : Participant) (w : World) → ShowsWork tid scene n work w → tid.home.0 ≢ m
    → Goes tid scene n (name_again (node_no m) tid part work) w

-- ---- the first step of an incarnation of the home's node

-- a Commit that was found with a list is told: Tell for each node of the list
abbrev pub ResumeCommitGoes : Type 0
ResumeCommitGoes = (tid : Tid) (scene : Scene) (work : Work) (part : Participant) (w : World) → ShowsWork tid scene tid.home.0 work w
    → IsAt scene tid.home.0 work → Knows tid work part → part.engage.home ≡ true → part.outcome ≡ Some outcomes.Commit
    → Goes tid scene tid.home.0 (resume_home tid part outcomes.Commit work) w

-- a Prepare that was found with no Commit is ended: no event; Abort_logged follows once the record is on the disk
abbrev pub ResumeAbortGoes : Type 0
ResumeAbortGoes = (tid : Tid) (scene : Scene) (n : ℕ) (work : Work) (part : Participant) (w : World) → ShowsWork tid scene n work w
    → Goes tid scene n (resume_home tid part outcomes.Abort work) w
