-- The law of all that waits being served: what stands of a transaction goes on to stand.
use Rattle.std.specs.Prelude.{◌≡◌, ℕ, ◌+◌, ◌<◌, ◌≤◌, Some}
use Rattle.qs_base.specs.declared.identifiers.Tid.{Tid}
use Rattle.qs_engage.specs.Engage.{last_number}
use Rattle.qs_tm.specs.Participant.{member_of}
use Rattle.qs_tm.specs.declared.participant.Participant.{Participant}
use Rattle.qs_node_step.specs.Serving.{serve_all}
use Rattle.qs_node_step.specs.State.{Work, part_of}
use Rattle.qs_world_agree.specs.World.{World}
use Rattle.qs_world_refine.specs.NodeFaces.{waiting_at}
use Rattle.qs_world_refine.specs.Shows.{Scene}
use Rattle.qs_world_refine.specs.Sights.{server_no}
use Rattle.qs_world_refine.specs.Stands.{Stands, GoesOn}

-- where requests of the transaction wait at a server of the node, they can be counted
abbrev pub CanCount : Tid → Work → Type 0
CanCount tid work = (part : Participant) (s : ℕ) → part_of tid work ≡ Some part → s < 7 → 1 ≤ waiting_at work.node tid s → (member_of part (server_no s)).served + waiting_at work.node tid s ≤ last_number

-- Serve, Serve_told or Lend for each request of this transaction that waits; none for one that is dropped, or of another
abbrev pub ServeAllGoes : Type 0
ServeAllGoes = (t : Tid) (scene : Scene) (n : ℕ) (work : Work) (w : World) → CanCount t work → Stands t scene n work w → GoesOn t scene n (serve_all work) w
