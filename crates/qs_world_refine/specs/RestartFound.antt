-- The law of a restart that a node finds: what stands of a transaction goes on to stand, and the later incarnation is known.
use Rattle.std.specs.Prelude.{ℕ}
use Rattle.qs_base.specs.declared.identifiers.Tid.{Tid}
use Rattle.qs_node_step.specs.Restarts.{peer_restarted}
use Rattle.qs_node_step.specs.State.{Work}
use Rattle.qs_world_agree.specs.World.{World}
use Rattle.qs_world_refine.specs.Links.{node_no}
use Rattle.qs_world_refine.specs.RestartLaws.{noticed, IsNoticed}
use Rattle.qs_world_refine.specs.Shows.{Scene}
use Rattle.qs_world_refine.specs.Stands.{Stands, GoesOn}

-- Notice at the turn of this transaction, or once all others had theirs; then Inquire, Inquire_lost or Inquire_home; Tell, or Tell_abort; Name_again
abbrev pub PeerRestartedGoes : Type 0
PeerRestartedGoes = (t : Tid) (scene : Scene) (n m old new : ℕ) (work : Work) (w : World) → IsNoticed t scene n m old new work → Stands t scene n work w → GoesOn t (noticed scene n m new) n (peer_restarted (node_no m) old new work) w
