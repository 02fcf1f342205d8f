-- A step leaves its node's setting: no deed touches it. Nor do the parts of a step that crates above ask for.
use Rattle.qs_world_lawful.proofs.Words.{ClientNo, Event, ServerNo, Setting, Tid, Work, begin_incarnation, end_members, forget_rule, happen, pass_rule, ready_rule, refl, refuse_rule, serve_next, step_work, true, try, wait_on, work_on, ℕ, ◌≡◌}
use Rattle.qs_node_step.specs.State.{NodeValue}
use Rattle.qs_world_walk.proofs.Wholes.{whole_of}
use Rattle.qs_world_walk.specs.Stage.{Later, Stage}
use Rattle.qs_world_walk.specs.Walked.{Table}
use Rattle.qs_world_walk.specs.Whole.{Whole}
use Rattle.qs_node_step.specs.declared.event.Event.TheVariants as events
use Rattle.qs_world_walk.proofs.First as firsts
use Rattle.qs_world_walk.proofs.Rules as rules
use Rattle.qs_world_walk.proofs.Stages as stages
use Rattle.qs_world_walk.specs.Deed as d

abbrev pub setting_of : Work → Setting
setting_of work = work.node.setting

abbrev pub IsSame : Work → Work → Type 0
IsSame work new = setting_of new ≡ setting_of work

module _ (event : Event) (work : Work) where
  abbrev I : Stage → Work → Type 0
  I stage w = IsSame work w

  pub setting_table : Table event I
  setting_table d.Lets when w m h = h
  setting_table deed when w m h = h

  whole : Whole event I
  whole = whole_of event I setting_table

-- ---- the stages of a step

pub begin_same : (work : Work) → IsSame work (begin_incarnation work)
begin_same work = firsts.begin_incarnation_keeps events.ServeAll (I events.ServeAll work) (whole events.ServeAll work) work refl

pub happen_same : (event : Event) (work : Work) → IsSame work (happen event work)
happen_same event work = stages.happens_keep event (I event work) (whole event work) event work refl refl

pub wait_same : (work : Work) (client : ClientNo) → IsSame work (wait_on work client)
wait_same work client = stages.wait_keeps events.ServeAll (I events.ServeAll work) (whole events.ServeAll work) work client refl

pub step_same : (node : NodeValue) (event : Event) (free : ℕ) → (step_work node event free).node.setting ≡ node.setting
step_same node event free = (stages.turns_kept event (I event (work_on node free)) (whole event (work_on node free)) node free refl).all

-- ---- rules

pub serve_next_same : (work : Work) (server : ServerNo) → IsSame work (serve_next work server)
serve_next_same work server = rules.serve_turn_keeps events.ServeAll (I events.ServeAll work) (whole events.ServeAll work) server refl work refl

pub ended_same : (tid : Tid) (work : Work) → IsSame work (end_members tid work)
ended_same tid work = firsts.ended_keeps events.ServeAll (I events.ServeAll work) (setting_table events.ServeAll work) (Later true) tid work refl

pub passes_same : (work : Work) (tid : Tid) → IsSame work (try tid pass_rule work)
passes_same work tid = stages.passes_keep events.ServeAll (I events.ServeAll work) (whole events.ServeAll work) tid work refl

pub readies_same : (work : Work) (tid : Tid) → IsSame work (try tid ready_rule work)
readies_same work tid = stages.readies_keep events.ServeAll (I events.ServeAll work) (whole events.ServeAll work) tid work refl

pub refuses_same : (work : Work) (tid : Tid) → IsSame work (try tid refuse_rule work)
refuses_same work tid = stages.refuses_keep events.ServeAll (I events.ServeAll work) (whole events.ServeAll work) tid work refl

pub forgets_same : (work : Work) (tid : Tid) → IsSame work (try tid forget_rule work)
forgets_same work tid = stages.forgets_keep events.ServeAll (I events.ServeAll work) (whole events.ServeAll work) tid work refl
