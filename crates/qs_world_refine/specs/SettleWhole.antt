-- The laws of what a node does of itself at the end of a step: what stands of a transaction goes on to stand.
use Rattle.std.specs.Prelude.{ℕ}
use Rattle.qs_base.specs.declared.identifiers.Tid.{Tid}
use Rattle.qs_node_step.specs.Settling.{settle_tid, settle}
use Rattle.qs_node_step.specs.State.{Work}
use Rattle.qs_world_agree.specs.World.{World}
use Rattle.qs_world_refine.specs.Shows.{Scene}
use Rattle.qs_world_refine.specs.Stands.{Stands, GoesOn}

-- for one transaction, whichever it is: a vote pass, readiness, refusals and forgetting are its events; every other one is left
abbrev pub SettleTidGoes : Type 0
SettleTidGoes = (t tid : Tid) (scene : Scene) (n : ℕ) (work : Work) (w : World) → Stands t scene n work w → GoesOn t scene n (settle_tid work tid) w

-- for all to which something may be due
abbrev pub SettleGoes : Type 0
SettleGoes = (t : Tid) (scene : Scene) (n : ℕ) (work : Work) (w : World) → Stands t scene n work w → GoesOn t scene n (settle work) w
