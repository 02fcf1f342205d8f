-- What is seen of a transaction once commit is decided: nodes that have not learnt it are idle, and no request is on its way.
use Rattle.std.specs.Prelude.{◌≡◌, ℕ, ◌<◌, Bool, true, false, List, [], ◌∷◌, Some, None}
use Rattle.qs_base.specs.declared.identifiers.Tid.{Tid}
use Rattle.qs_ipc.specs.Ipc as ipc
use Rattle.qs_node_step.specs.Settling.{is_lent}
use Rattle.qs_node_step.specs.State.{NodeValue}
use Rattle.qs_tm.specs.Manager as tm
use Rattle.qs_tm.specs.Participant.{needs_pass}
use Rattle.qs_tm.specs.declared.participant.Participant.{Participant}
use Rattle.qs_world_agree.specs.World.{World, Committed}
use Rattle.qs_world_agree.specs.Carry.{IsLawful}
use Rattle.qs_world_refine.specs.Faces.{ShowsFace}
use Rattle.qs_world_refine.specs.Links.{Said, Requested, Closed, Outcome_told, Taken_in, Inquired}
use Rattle.qs_world_refine.specs.NodeFaces.{face_at}
use Rattle.qs_world_refine.specs.Sights.{Sight, ShowsSight}
use Rattle.qs_world_refine.specs.Sound.{is_sound}

-- a request is on its way
abbrev pub has_request : List Said → Bool
has_request [] = false
has_request (Requested number server ∷ rest) = true
has_request (Closed number told ∷ rest) = has_request rest
has_request (Outcome_told commit ∷ rest) = has_request rest
has_request (Taken_in further ∷ rest) = has_request rest
has_request (Inquired ∷ rest) = has_request rest

-- no request waits at the node, no loan stands, and no vote and no ending is due
pub record IsIdle (tid : Tid) (node : NodeValue) : Type 0 where
  pub waits : ipc.waits tid node.queues ≡ false
  pub lent : is_lent tid node ≡ false
  pub due : (part : Participant) → tm.part_of tid node.manager ≡ Some part → needs_pass part ≡ false

-- a node that is not engaged is, of what it has not decided
abbrev pub OffIdle : Type 0
OffIdle = (tid : Tid) (node : NodeValue) → is_sound node ≡ true → (face_at node tid).on ≡ false → ((part : Participant) → tm.part_of tid node.manager ≡ Some part → part.outcome ≡ None) → IsIdle tid node

-- once commit is decided none is engaged
abbrev pub CommitIdle : Type 0
CommitIdle = (tid : Tid) (node : NodeValue) (q : ℕ) (w : World) → IsLawful w → w.cell ≡ Committed → ShowsFace (face_at node tid) q w → is_sound node ≡ true
    → ((part : Participant) → tm.part_of tid node.manager ≡ Some part → part.outcome ≡ None) → IsIdle tid node

-- to a node that runs nothing is on its way, from whatever incarnation of another, and nothing waits for a node that is not known
abbrev pub CommitClear : Type 0
CommitClear = (tid : Tid) (x : Sight) (w : World) → IsLawful w → w.cell ≡ Committed → ShowsSight tid x w → (n i m : ℕ) → n < x.size → m < x.size → x.up m ≡ true → has_request (x.said n i m (x.inc m)) ≡ false

abbrev pub CommitUnmet : Type 0
CommitUnmet = (tid : Tid) (x : Sight) (w : World) → IsLawful w → w.cell ≡ Committed → ShowsSight tid x w → (n m : ℕ) → n < x.size → m < x.size → x.up n ≡ true → x.knows n m ≡ 0 → has_request (x.unmet n m) ≡ false
