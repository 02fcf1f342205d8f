-- The law of a tick: what stands of a transaction goes on to stand.
use Rattle.std.specs.Prelude.{ℕ}
use Rattle.qs_base.specs.declared.identifiers.Tid.{Tid}
use Rattle.qs_node_step.specs.State.{Work}
use Rattle.qs_node_step.specs.Step.{tick}
use Rattle.qs_world_agree.specs.World.{World}
use Rattle.qs_world_refine.specs.Shows.{Scene}
use Rattle.qs_world_refine.specs.Stands.{Stands, GoesOn}

-- timers count on, and the home aborts what is too old: none, or Abort and Tell_abort
abbrev pub TickGoes : Type 0
TickGoes = (t : Tid) (scene : Scene) (n : ℕ) (work : Work) (w : World) → Stands t scene n work w → GoesOn t scene n (tick work) w
