-- The laws of what a node does where another one restarted, and in the first step of an incarnation: what stands of a transaction goes on to stand.
use Rattle.std.specs.Prelude.{◌≡◌, ℕ, true, Some, None}
use Rattle.qs_base.specs.declared.identifiers.Outcome.TheVariants as outcomes
use Rattle.qs_base.specs.declared.identifiers.Tid.{Tid}
use Rattle.qs_tm.specs.declared.participant.Participant.{Participant}
use Rattle.qs_node_step.specs.Restarts.{begin_incarnation}
use Rattle.qs_node_step.specs.State.{Work, part_of}
use Rattle.qs_world_agree.specs.World.{World}
use Rattle.qs_world_refine.specs.Shows.{Scene}
use Rattle.qs_world_refine.specs.Stands.{Stands, GoesOn}

-- what a node took up from its log, and has not looked at yet: who is not decided left a Prepare, and a Commit is of the home
pub record IsTakenUp (tid : Tid) (work : Work) : Type 0 where
  pub undecided : work.node.is_first ≡ true → (part : Participant) → part_of tid work ≡ Some part → part.outcome ≡ None → part.involved ≡ true
  pub committed : work.node.is_first ≡ true → (part : Participant) → part_of tid work ≡ Some part → part.outcome ≡ Some outcomes.Commit → part.engage.home ≡ true

-- a node begins the first step of an incarnation with what its log left open: Inquire; Tell for each node of a list; none for an abort
abbrev pub BeginIncarnationGoes : Type 0
BeginIncarnationGoes = (t : Tid) (scene : Scene) (n : ℕ) (work : Work) (w : World) → IsTakenUp t work → Stands t scene n work w → GoesOn t scene n (begin_incarnation work) w
