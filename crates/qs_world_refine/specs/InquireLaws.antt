-- The laws of inquiries that a node sends, as events and as the rule that sends them.
use Rattle.std.specs.Prelude.{◌≡◌, ◌≢◌, ◌⊎◌, ℕ, ◌<◌, true, None}
use Rattle.qs_base.specs.declared.identifiers.Tid.{Tid}
use Rattle.qs_tm.specs.declared.participant.Participant.{Participant}
use Rattle.qs_node_step.specs.Restarts.{inquire, resume_part}
use Rattle.qs_node_step.specs.State.{Work}
use Rattle.qs_world_agree.specs.World.{World, Open}
use Rattle.qs_world_agree.specs.Carry.{IsLawful}
use Rattle.qs_world_refine.specs.Links.{Inquired, node_no}
use Rattle.qs_world_refine.specs.Places.{place}
use Rattle.qs_world_refine.specs.Seen.{Runs, Meets, SightGoes, sight_said}
use Rattle.qs_world_refine.specs.SeenOutcome.{sight_waiting}
use Rattle.qs_world_refine.specs.Shows.{Scene, ShowsWork}
use Rattle.qs_world_refine.specs.Sights.{Sight, ShowsSight}
use Rattle.qs_world_refine.specs.Steps.{IsAt, Knows, Goes}

-- a place that is to be told, or whose superior or the home restarted
abbrev pub MayInquire : World → ℕ → Type 0
MayInquire w q =
    (w.involved q ≡ true) ⊎ (((w.engaged q ≡ true) × (w.engager q < w.peer q (w.superior q))) ⊎ ((w.engaged q ≡ true) × (w.home < w.peer q (w.node w.home))))

-- a place of the home's node is known: Inquire, Inquire_lost or Inquire_home
abbrev pub InquireGoes : Type 0
InquireGoes = (tid : Tid) (x : Sight) (w : World) (n i : ℕ) → IsLawful w → ShowsSight tid x w → Runs x n → Meets x n tid.home.0 i → (x.face n).outcome ≡ Open → MayInquire w (place n (x.inc n))
    → SightGoes tid (sight_said x n tid.home.0 i (x.face n) Inquired) w

-- or none: the same, and it waits
abbrev pub InquireWaitsGoes : Type 0
InquireWaitsGoes = (tid : Tid) (x : Sight) (w : World) (n : ℕ) → ShowsSight tid x w → Runs x n → tid.home.0 ≢ n → tid.home.0 < x.size → x.knows n tid.home.0 ≡ 0 → (x.face n).outcome ≡ Open → MayInquire w (place n (x.inc n))
    → SightGoes tid (sight_waiting x n tid.home.0 (x.face n) Inquired) w

-- a node whose superior or whose home restarted inquires
abbrev pub InquireRuleGoes : Type 0
InquireRuleGoes = (tid : Tid) (scene : Scene) (n m new : ℕ) (work : Work) (part : Participant) (w : World) → IsLawful w → ShowsWork tid scene n work w
    → IsAt scene n work → Knows tid work part → part.outcome ≡ None → tid.home.0 ≢ n → tid.home.0 < scene.size → MayInquire w (place n (scene.inc n))
    → Goes tid scene n (inquire (node_no m) new tid part work) w

-- a node that found a Prepare in doubt inquires, in the first step of its incarnation
abbrev pub ResumeDoubtGoes : Type 0
ResumeDoubtGoes = (tid : Tid) (scene : Scene) (n : ℕ) (work : Work) (part : Participant) (w : World) → IsLawful w → ShowsWork tid scene n work w
    → IsAt scene n work → Knows tid work part → part.outcome ≡ None → part.involved ≡ true → tid.home.0 ≢ n → tid.home.0 < scene.size
    → Goes tid scene n (resume_part tid part work) w
