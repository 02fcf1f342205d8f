-- The law of a whole step: what shows the world, and what stands of its node, goes on to what shows the world after it.
use Rattle.std.specs.Prelude.{◌≡◌, ℕ, ◌<◌, ◌≤◌, ◌==◌, ◌++◌, true, false, List, Some}
use Rattle.std.specs.List.{filter}
use Rattle.qs_base.specs.declared.identifiers.Tid.{Tid}
use Rattle.qs_record.specs.declared.record.Record.{Record}
use Rattle.qs_restart.specs.Recovery.{recovery}
use Rattle.qs_tm.specs.Manager as tm
use Rattle.qs_tm.specs.declared.participant.Participant.{Participant}
use Rattle.qs_node_step.specs.Bringing.{is_forced}
use Rattle.qs_node_step.specs.State.{Work, work_on}
use Rattle.qs_node_step.specs.Step.{happen, step_work}
use Rattle.qs_node_step.specs.declared.event.Event.{Event}
use Rattle.qs_world_agree.specs.World.{World}
use Rattle.qs_world_agree.specs.Carry.{Leads, IsLawful}
use Rattle.qs_world_refine.specs.Links.{node_no}
use Rattle.qs_world_refine.specs.PassLaws.{HasKinds}
use Rattle.qs_world_refine.specs.RestartWhole.{IsTakenUp}
use Rattle.qs_world_refine.specs.Shows.{Scene, Shows}
use Rattle.qs_world_refine.specs.Sights.{is_in_doubt}
use Rattle.qs_world_refine.specs.Sound.{is_sound}
use Rattle.qs_world_refine.specs.SoundSteps.{begun, settled, commands_in_run}
use Rattle.qs_world_refine.specs.Stands.{may_doubt, Stands, GoesOn}
use Rattle.qs_world_refine.specs.StepLaws.{SaysSame, stepped}

-- a node of the scene between its steps: it runs, it is sound, and what its log leaves in doubt of the transaction and whom it answers to are known to it
pub record IsReady (t : Tid) (scene : Scene) (n : ℕ) : Type 0 where
  pub in_run : n < scene.size
  pub up : scene.up n ≡ true
  pub node : (scene.node n).setting.node ≡ node_no n
  pub nodes : (scene.node n).setting.nodes ≡ scene.size
  pub inc : (scene.node n).setting.inc ≡ scene.inc n
  pub home_in : t.home.0 < scene.size
  pub sound : is_sound (scene.node n) ≡ true
  pub kinds : HasKinds (scene.node n)
  pub clear : may_doubt (t.home.0 == n) (tm.part_of t (scene.node n).manager) ≡ false → (s : ℕ) → is_in_doubt t s (recovery (scene.log n)) ≡ false
  pub superior : (part : Participant) (m : ℕ) → tm.part_of t (scene.node n).manager ≡ Some part → part.engage.superior ≡ Some (node_no m) → 1 ≤ scene.knows n m

-- an event comes, at a scene that is later then, where a message was handed up or a restart was found
abbrev pub Happens : Tid → Scene → Scene → ℕ → Event → Work → Type 0
Happens t scene later n event work = (w : World) → Stands t scene n work w → GoesOn t later n (happen event work) w

-- what shows the world after the step
pub record Stepped (t : Tid) (later : Scene) (n : ℕ) (work : Work) (log : List Record) (w : World) : Type 0 where
  pub next : World
  pub leads : Leads w next
  pub shown : Shows t (stepped later n work log) next
  pub ready : IsReady t (stepped later n work log) n

-- the step begins, what comes is done, the node settles, commands that stayed open are answered, and its log says of the transaction what it said with the records that had to be forced
abbrev pub StepGoes : Type 0
StepGoes = (t : Tid) (scene later : Scene) (n : ℕ) (event : Event) (free : ℕ) (log : List Record) (w : World) → IsLawful w → Shows t scene w → IsReady t scene n
    → IsTakenUp t (work_on (scene.node n) free) → Happens t scene later n event (begun (scene.node n) free) → commands_in_run (settled (scene.node n) event free).node ≡ true
    → SaysSame t (recovery (later.log n ++ filter is_forced (step_work (scene.node n) event free).out.records)) (recovery log)
    → Stepped t later n (step_work (scene.node n) event free) log w
