-- The laws of what a node does of itself for one transaction at the end of a step: what shows the work before shows it after.
use Rattle.std.specs.Prelude.{◌≡◌, ◌≢◌, ℕ, ◌<◌, true, false, None, Some}
use Rattle.qs_base.specs.declared.identifiers.Tid.{Tid}
use Rattle.qs_tm.specs.declared.participant.Participant.{Participant}
use Rattle.qs_node_step.specs.Settling.{ready_rule, refuse_rule, forget_rule, try}
use Rattle.qs_node_step.specs.State.{Work}
use Rattle.qs_world_agree.specs.World.{World}
use Rattle.qs_world_agree.specs.Carry.{IsLawful}
use Rattle.qs_world_refine.specs.DecisionLaws.{IsHome, HasNoDoubt}
use Rattle.qs_world_refine.specs.Links.{node_no}
use Rattle.qs_world_refine.specs.Shows.{Scene, ShowsWork}
use Rattle.qs_world_refine.specs.Sound.{in_order}
use Rattle.qs_world_refine.specs.Steps.{IsAt, IsKnown, Knows, Goes}

-- a home decides where it is ready: commit, or abort where the Commit finds no room
abbrev pub ReadyHomeGoes : Type 0
ReadyHomeGoes = (tid : Tid) (scene : Scene) (work : Work) (part : Participant) (w : World) → IsLawful w → ShowsWork tid scene tid.home.0 work w
    → IsHome tid scene work part → HasNoDoubt tid scene tid.home.0 work part
    → Goes tid scene tid.home.0 (ready_rule tid part work) w

-- another node, which runs it and has not decided it
pub record IsElsewhere (tid : Tid) (scene : Scene) (n : ℕ) (work : Work) (part : Participant) : Type 0 where
  pub at : IsAt scene n work
  pub away : tid.home.0 ≢ n
  pub home_in : tid.home.0 < scene.size
  pub knows : Knows tid work part
  pub not_home : part.engage.home ≡ false
  pub undecided : part.outcome ≡ None

-- it answers its superior, if it has one, where it is ready
abbrev pub ReadyElsewhereGoes : Type 0
ReadyElsewhereGoes = (tid : Tid) (scene : Scene) (n : ℕ) (work : Work) (part : Participant) (w : World) → IsLawful w → ShowsWork tid scene n work w
    → IsElsewhere tid scene n work part → ((m : ℕ) → part.engage.superior ≡ Some (node_no m) → IsKnown scene n m (scene.knows n m))
    → Goes tid scene n (ready_rule tid part work) w

-- a refusal decides at the home
abbrev pub RefuseHomeGoes : Type 0
RefuseHomeGoes = (tid : Tid) (scene : Scene) (work : Work) (part : Participant) (w : World) → ShowsWork tid scene tid.home.0 work w → IsHome tid scene work part
    → Goes tid scene tid.home.0 (refuse_rule tid part work) w

-- and goes on elsewhere: no event
abbrev pub RefuseElsewhereGoes : Type 0
RefuseElsewhereGoes = (tid : Tid) (scene : Scene) (n : ℕ) (work : Work) (part : Participant) (w : World) → ShowsWork tid scene n work w → part.engage.home ≡ false
    → Goes tid scene n (refuse_rule tid part work) w

-- elsewhere it is forgotten where it was only read
abbrev pub ForgetRuleGoes : Type 0
ForgetRuleGoes = (tid : Tid) (scene : Scene) (n : ℕ) (work : Work) (part : Participant) (w : World) → IsLawful w → ShowsWork tid scene n work w
    → IsElsewhere tid scene n work part → in_order work.node.manager.known ≡ true
    → Goes tid scene n (forget_rule tid part work) w

-- ---- one after the other, behind the vote pass

-- at the home
abbrev pub SettleHomeGoes : Type 0
SettleHomeGoes = (tid : Tid) (scene : Scene) (work : Work) (part : Participant) (w : World) → IsLawful w → ShowsWork tid scene tid.home.0 work w
    → IsHome tid scene work part → HasNoDoubt tid scene tid.home.0 work part
    → Goes tid scene tid.home.0 (try tid forget_rule (try tid refuse_rule (try tid ready_rule work))) w

-- at another node
abbrev pub SettleElsewhereGoes : Type 0
SettleElsewhereGoes = (tid : Tid) (scene : Scene) (n : ℕ) (work : Work) (part : Participant) (w : World) → IsLawful w → ShowsWork tid scene n work w
    → IsElsewhere tid scene n work part → in_order work.node.manager.known ≡ true → ((m : ℕ) → part.engage.superior ≡ Some (node_no m) → IsKnown scene n m (scene.knows n m))
    → Goes tid scene n (try tid forget_rule (try tid refuse_rule (try tid ready_rule work))) w
