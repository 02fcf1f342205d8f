-- What the stages of a step leave as it is at a node: when that began which a home has not decided, the clock, but for a tick, and what the log said as the node opened.
use Rattle.std.specs.Prelude.{◌≡◌, ◌-◌, ◌≤◌, ◌<◌, ℕ, true, List, Option, Some, None}
use Rattle.qs_base.specs.Order.{tid_cmp}
use Rattle.qs_base.specs.declared.identifiers.Tid.{Tid}
use Rattle.qs_book_laws.proofs.Rising.{IsRising}
use Rattle.qs_node_step.specs.State.{Work}
use Rattle.qs_tm.specs.Manager as tm
use Rattle.qs_tm.specs.declared.manager.Manager.{Manager}
use Rattle.qs_tm.specs.declared.participant.Participant.{Participant}

-- what a home has not decided began at such a time
abbrev pub BeganAt : (Tid → ℕ → Type 0) → Manager → Type 0
BeganAt Y manager = (tid : Tid) (part : Participant) → tm.part_of tid manager ≡ Some part → part.engage.home ≡ true → part.outcome ≡ None → Y tid part.begun_at

-- in the middle of a step; T is what is said of the clock
pub record Stays (Y : Tid → ℕ → Type 0) (T : ℕ → Type 0) (log : List Tid) (work : Work) : Type 0 where
  pub rising : IsRising tid_cmp work.node.manager.known
  pub began : BeganAt Y work.node.manager
  pub ticks : T work.node.manager.ticks
  pub committed : work.node.committed ≡ log

-- what began then is younger at that time than the limit
pub record IsYoungAt (limit : Option ℕ) (time since : ℕ) : Type 0 where
  pub begun : since ≤ time
  pub age : (age : ℕ) → limit ≡ Some age → time - since < age
