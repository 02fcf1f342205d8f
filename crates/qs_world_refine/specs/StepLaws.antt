-- The laws of where a node's step begins and ends: what shows the world shows the work as it begins, and what shows the work as it ends shows the world once its messages are put and its records stand.
use Rattle.std.specs.Prelude.{◌≡◌, ℕ, ◌==◌, not, ◌&&◌, List, ◌++◌, if◌then◌else◌}
use Rattle.std.specs.List.{filter, list_any}
use Rattle.qs_base.specs.Order.{same_tid}
use Rattle.qs_base.specs.declared.identifiers.Tid.{Tid}
use Rattle.qs_record.specs.declared.record.Record.{Record}
use Rattle.qs_restart.specs.Recovery.{Recovery, recovery, is_untold_of}
use Rattle.qs_node_step.specs.Bringing.{is_forced}
use Rattle.qs_node_step.specs.State.{Work, work_on}
use Rattle.qs_node_step.specs.Step.{accept}
use Rattle.qs_world_agree.specs.World.{World}
use Rattle.qs_world_refine.specs.Links.{names_node, node_no}
use Rattle.qs_world_refine.specs.Shows.{Scene, sent_to, Shows, ShowsWork}
use Rattle.qs_world_refine.specs.Sights.{is_in_doubt, list_of}

-- a step begins with nothing done
abbrev pub StepBegins : Type 0
StepBegins = (tid : Tid) (scene : Scene) (n free : ℕ) (w : World) → Shows tid scene w → ShowsWork tid scene n (work_on (scene.node n) free) w

-- two logs say the same of the transaction
pub record SaysSame (tid : Tid) (r s : Recovery) : Type 0 where
  pub prepared : (k : ℕ) → is_in_doubt tid k s ≡ is_in_doubt tid k r
  pub committed : list_any (same_tid tid) s.committed ≡ list_any (same_tid tid) r.committed
  pub unended : list_any (is_untold_of tid) s.untold ≡ list_any (is_untold_of tid) r.untold
  pub named : (m : ℕ) → names_node (list_of tid s) (node_no m) ≡ names_node (list_of tid r) (node_no m)

-- once the step of node n is accepted, with its messages put, and that log
abbrev pub stepped : Scene → ℕ → Work → List Record → Scene
stepped scene n work log = record scene {
  node = λ k. if k == n then accept work.node else scene.node k;
  pending = λ p i q j. if (p == n) && ((i == scene.inc n) && ((j == scene.knows n q) && not (j == 0))) then scene.pending p i q j ++ sent_to q work.out.messages else scene.pending p i q j;
  unmet = λ p q. if (p == n) && (scene.knows n q == 0) then scene.unmet p q ++ sent_to q work.out.messages else scene.unmet p q;
  log = λ k. if k == n then log else scene.log k;
}

-- a step ends, and its log says of the transaction what it said with the records that had to be forced
abbrev pub StepEnds : Type 0
StepEnds = (tid : Tid) (scene : Scene) (n : ℕ) (work : Work) (log : List Record) (w : World) → ShowsWork tid scene n work w
    → SaysSame tid (recovery (scene.log n ++ filter is_forced work.out.records)) (recovery log)
    → Shows tid (stepped scene n work log) w
