-- The law of a request that waits for a node of which no place is known, as an event and as a rule.
use Rattle.std.specs.Prelude.{◌≡◌, ◌≢◌, ◌⊎◌, ℕ, ◌+◌, ◌<◌, ◌≤◌, true, None, Some}
use Rattle.qs_base.specs.declared.identifiers.Tid.{Tid}
use Rattle.qs_engage.specs.Engage.{next_sent}
use Rattle.qs_ops.specs.declared.operation.Op.{Op}
use Rattle.qs_tm.specs.declared.participant.Outstanding.{Outstanding}
use Rattle.qs_tm.specs.declared.participant.Participant.{Participant}
use Rattle.qs_node_step.specs.Requests.{issue_away}
use Rattle.qs_node_step.specs.State.{Work}
use Rattle.qs_world_agree.specs.World.{World, Open, with_at}
use Rattle.qs_world_agree.specs.Carry.{IsLawful}
use Rattle.qs_world_refine.specs.Links.{Requested, node_no}
use Rattle.qs_world_refine.specs.NodeFaces.{face, loans_at}
use Rattle.qs_world_refine.specs.Seen.{Runs, SightGoes}
use Rattle.qs_world_refine.specs.SeenOutcome.{sight_waiting}
use Rattle.qs_world_refine.specs.Shows.{Scene, ShowsWork}
use Rattle.qs_world_refine.specs.Sights.{Sight, ShowsSight}
use Rattle.qs_world_refine.specs.Steps.{IsAt, Knows, Goes}

-- it waits: Issue_unmet
abbrev pub IssueUnmetGoes : Type 0
IssueUnmetGoes = (tid : Tid) (x : Sight) (w : World) (n m s : ℕ) → IsLawful w → ShowsSight tid x w → Runs x n → m < x.size → m ≢ n → x.knows n m ≡ 0
    → ((x.face n).on ≡ true) ⊎ (((x.face n).outcome ≡ Open) × (1 ≤ (x.face n).loans))
    → SightGoes tid (sight_waiting x n m (record (x.face n) { sent = with_at (x.face n).sent m ((x.face n).sent m + 1); involved = true }) (Requested ((x.face n).sent m + 1) s)) w

-- no place of the other node is known
pub record IsUnknown (scene : Scene) (n m : ℕ) : Type 0 where
  pub in_run : m < scene.size
  pub other : m ≢ n
  pub none : scene.knows n m ≡ 0

-- a node that may issue sends it
abbrev pub IssueAwaitsGoes : Type 0
IssueAwaitsGoes = (tid : Tid) (scene : Scene) (n m : ℕ) (request : Outstanding) (op : Op) (work : Work) (part : Participant) (w : World) → IsLawful w → ShowsWork tid scene n work w
    → IsAt scene n work → IsUnknown scene n m → request.member.node ≡ node_no m → Knows tid work part → part.outcome ≡ None → next_sent (node_no m) part.engage ≡ Some request.number
    → ((face work.node tid part).on ≡ true) ⊎ (1 ≤ loans_at work.node tid)
    → Goes tid scene n (issue_away tid request op work) w
