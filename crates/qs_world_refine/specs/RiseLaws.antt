-- The laws of a restart over all that is seen of a transaction, whatever the log has of it, and of what a node that restarts has of it.
use Rattle.std.specs.Prelude.{◌≡◌, ◌≢◌, ℕ, ◌<◌, ◌≤◌, ◌==◌, true, false, List, if◌then◌else◌}
use Rattle.std.specs.List.{list_any}
use Rattle.qs_base.specs.Order.{same_tid}
use Rattle.qs_base.specs.declared.identifiers.Tid.{Tid}
use Rattle.qs_record.specs.declared.record.Record.{Record}
use Rattle.qs_restart.specs.Recovery.{Recovery, recovery, names_transaction, is_untold_of}
use Rattle.qs_node_step.specs.Opening.{recovered_of}
use Rattle.qs_node_step.specs.State.{NodeValue}
use Rattle.qs_world.specs.Moves.{reopened}
use Rattle.qs_world_agree.specs.World as machine
use Rattle.qs_world_agree.specs.World.{World, Outcome, Open, Committed, Aborted}
use Rattle.qs_world_agree.specs.Carry.{Leads, IsLawful}
use Rattle.qs_world_refine.specs.Faces.{Face}
use Rattle.qs_world_refine.specs.Links.{node_no}
use Rattle.qs_world_refine.specs.NodeFaces.{face_at}
use Rattle.qs_world_refine.specs.Seen.{SightGoes, sight_risen}
use Rattle.qs_world_refine.specs.Sights.{Sight, ShowsSight}
use Rattle.qs_world_refine.specs.Sound.{has_doubt, may_take_up, kept_before}
use Rattle.qs_world_refine.specs.Starts.{MayBegin, opening_seen}

-- ---- what holds of places beside the machine's own invariant

-- of a place q and a node m
pub record Placed (w : World) (q m : ℕ) : Type 0 where
  pub stranger : w.present (w.node q) < q → w.peer q m ≡ 0  -- a place that has not begun yet knows nobody
  pub none_up : w.up 0 ≡ false  -- 0 is no place: it does not run,
  pub none_posted : w.posted 0 q ≡ 0  -- puts no request,
  pub engager : w.engaged q ≡ true → q ≢ w.home → 1 ≤ w.engager q  -- and engages nobody

abbrev pub ArePlaced : World → Type 0
ArePlaced w = (q m : ℕ) → Placed w q m

-- so it is where a transaction begins
abbrev pub StartPlaced : Type 0
StartPlaced = (tid : Tid) (x : Sight) → MayBegin tid x → ((k : ℕ) → k < x.size → 1 ≤ x.inc k) → ArePlaced (machine.start (opening_seen tid x))

-- and so it stays
abbrev pub StaysPlaced : Type 0
StaysPlaced = (w v : World) → IsLawful w → ArePlaced w → Leads w v → ArePlaced v

-- ---- what a node that restarts makes of its log

-- the home's node knows a Commit that is still to be told; it has aborted what has a vote in doubt, and knows the Commits of its log
abbrev pub outcome_at_home : Tid → Recovery → Outcome
outcome_at_home tid said =
    if list_any (is_untold_of tid) said.untold then Committed
    else if has_doubt tid said then Aborted
    else if list_any (same_tid tid) said.committed then Committed
    else Open

-- any other node knows no outcome
abbrev pub outcome_found : Tid → ℕ → Recovery → Outcome
outcome_found tid n said = if tid.home.0 == n then outcome_at_home tid said else Open

-- nothing came, went or was served in this incarnation; it is involved where its log has a vote in doubt
pub record IsRisenFace (tid : Tid) (n : ℕ) (said : Recovery) (f : Face) : Type 0 where
  pub on : f.on ≡ false
  pub sent : (m : ℕ) → f.sent m ≡ 0
  pub covered : (m : ℕ) → f.covered m ≡ 0
  pub waits : (s : ℕ) → f.waits s ≡ 0
  pub uncast : (s : ℕ) → f.uncast s ≡ 0
  pub loans : f.loans ≡ 0
  pub asked : f.asked ≡ false
  pub involved : f.outcome ≡ Open → f.involved ≡ has_doubt tid said
  pub told : (m : ℕ) → f.told m ≡ false
  pub outcome : f.outcome ≡ outcome_found tid n said
  pub tell : f.outcome ≡ Aborted → (m : ℕ) → f.tell m ≡ false

-- a node that opens over its log in a later incarnation than that in which the transaction began there, if it did
abbrev pub RisenFace : Type 0
RisenFace = (tid : Tid) (n inc : ℕ) (log : List Record) (node : NodeValue) → names_transaction tid ≡ true → node.setting.node ≡ node_no n → (tid.home.0 ≡ n → tid.inc < inc)
    → may_take_up node.setting.node (recovery log) ≡ true → kept_before node.setting.node inc node.kept.saved ≡ true
    → IsRisenFace tid n (recovery log) (face_at (reopened inc (recovered_of log) node) tid)

-- ---- the restart

-- node n runs in a later incarnation, with that face
abbrev pub sight_risen_as : Sight → ℕ → ℕ → Face → Sight
sight_risen_as x n new f = record (sight_risen x n new) { face = λ k. if k == n then f else x.face k }

-- it is down, and every node has begun
pub record MayRise (x : Sight) (n new : ℕ) : Type 0 where
  pub in_run : n < x.size
  pub down : x.up n ≡ false
  pub later : x.inc n < new
  pub begun : (k : ℕ) → k < x.size → 1 ≤ x.inc k

-- another node than the home, with nothing in doubt in its log: Restart; with a vote in doubt, which it takes up: Restart_in_doubt; the home's node: Restart_home,
-- and Learn_abort_home where it takes up a vote
abbrev pub RiseGoes : Type 0
RiseGoes = (tid : Tid) (x : Sight) (w : World) (n new : ℕ) (f : Face) → IsLawful w → ArePlaced w → ShowsSight tid x w → MayRise x n new → tid.home.0 < x.size
    → IsRisenFace tid n (x.found n) f → SightGoes tid (sight_risen_as x n new f) w
