-- What stands of one transaction in the middle of a node's step, from rule to rule, and how a piece of the step goes on so.
use Rattle.std.specs.Prelude.{◌≡◌, ℕ, ◌<◌, ◌≤◌, ◌==◌, ◌||◌, Bool, true, false, Option, Some, None, is_some}
use Rattle.qs_base.specs.declared.identifiers.Tid.{Tid}
use Rattle.qs_tm.specs.declared.participant.Participant.{Participant}
use Rattle.qs_node_step.specs.State.{Work, part_of}
use Rattle.qs_world_agree.specs.World.{World}
use Rattle.qs_world_agree.specs.Carry.{Leads, IsLawful}
use Rattle.qs_world_refine.specs.Links.{node_no}
use Rattle.qs_world_refine.specs.PassLaws.{HasKinds}
use Rattle.qs_world_refine.specs.Shows.{Scene, sight_during, ShowsWork}
use Rattle.qs_world_refine.specs.Sights.{is_in_doubt}
use Rattle.qs_world_refine.specs.Sound.{is_sound}
use Rattle.qs_world_refine.specs.Steps.{IsAt}

-- its log may have a vote of the transaction in doubt: the node has decided it, or keeps a Prepare for it; or it is the home's, and knows nothing of it
abbrev pub may_doubt : Bool → Option Participant → Bool
may_doubt is_home None = is_home
may_doubt is_home (Some part) = is_some part.outcome || part.log.prepared

pub record Stands (tid : Tid) (scene : Scene) (n : ℕ) (work : Work) (w : World) : Type 0 where
  pub at : IsAt scene n work
  pub home_in : tid.home.0 < scene.size
  pub sound : is_sound work.node ≡ true
  pub kinds : HasKinds work.node
  pub lawful : IsLawful w
  pub shown : ShowsWork tid scene n work w
  pub clear : may_doubt (tid.home.0 == n) (part_of tid work) ≡ false → (s : ℕ) → is_in_doubt tid s ((sight_during tid scene n work).found n) ≡ false
  pub superior : (part : Participant) (m : ℕ) → part_of tid work ≡ Some part → part.engage.superior ≡ Some (node_no m) → 1 ≤ scene.knows n m  -- whom it answers to is known

-- the machine goes on by events, and all of it stands still
pub record GoesOn (tid : Tid) (scene : Scene) (n : ℕ) (new : Work) (w : World) : Type 0 where
  pub next : World
  pub leads : Leads w next
  pub stands : Stands tid scene n new next
