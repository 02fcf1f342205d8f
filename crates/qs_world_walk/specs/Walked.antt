-- A step as a walk: deeds, one after another, each at its stage and where it may be done. What each deed keeps, the step keeps.
use Rattle.std.specs.Prelude.{ℕ, ⊤, List, [], ◌∷◌}
use Rattle.qs_base.specs.declared.identifiers.ClientNo.{ClientNo}
use Rattle.qs_base.specs.declared.identifiers.Tid.{Tid}
use Rattle.qs_node_step.specs.Restarts.{begin_incarnation}
use Rattle.qs_node_step.specs.Settling.{due_tids, pass_rule, settle, settle_tid, try}
use Rattle.qs_node_step.specs.State.{NodeValue, Work, work_on}
use Rattle.qs_node_step.specs.Step.{happen, step_work, wait_on, waiting_clients}
use Rattle.qs_node_step.specs.declared.event.Event.{Event}
use Rattle.qs_world_walk.specs.Deed.{Deed, did}
use Rattle.qs_world_walk.specs.May.{May}
use Rattle.qs_world_walk.specs.Stage.{Settles, Stage, after, before, during}
use Rattle.qs_world_walk.specs.When.{When, next_stage, stage_of}

-- what has been done of a step, from what it began with
pub data Walk (event : Event) (from : Work) : Stage → Work → Type 0 where
  Begun : Walk event from before from
  Then : (deed : Deed) (when : When deed) (work : Work) → May event deed work → Walk event from (stage_of deed when) work → Walk event from (next_stage deed when) (did deed work)

abbrev pub EachStepIsDeeds : Type 0
EachStepIsDeeds = (node : NodeValue) (event : Event) (free : ℕ) → Walk event (work_on node free) after (step_work node event free)

-- what a fact of the work has to show, so that each step keeps it: a row for each deed
abbrev pub Table : Event → (Stage → Work → Type 0) → Type 0
Table event I = (deed : Deed) (when : When deed) (work : Work) → May event deed work → I (stage_of deed when) work → I (next_stage deed when) (did deed work)

-- and a second fact, where the first one holds beside it
abbrev pub TableOver : Event → (Stage → Work → Type 0) → (Stage → Work → Type 0) → Type 0
TableOver event K J = (deed : Deed) (when : When deed) (work : Work) → May event deed work → K (stage_of deed when) work → J (stage_of deed when) work → J (next_stage deed when) (did deed work)

-- ---- at each turn

abbrev pub AtEach : {A : Type 0} → (Work → A → Type 0) → (Work → A → Work) → Work → List A → Type 0
AtEach P f work [] = ⊤
AtEach P f work (x ∷ xs) = P work x × AtEach P f (f work x) xs

-- once what came is done
abbrev pub done_work : NodeValue → Event → ℕ → Work
done_work node event free = happen event (begin_incarnation (work_on node free))

-- as a transaction settles, and after its votes; as a client waits; and at the end
pub record AtTurns (I : Stage → Work → Type 0) (node : NodeValue) (event : Event) (free : ℕ) : Type 0 where
  pub done : I after (done_work node event free)
  pub settles : AtEach (λ (work : Work) (tid : Tid). I after work × I (during (Settles tid)) (try tid pass_rule work)) settle_tid (done_work node event free) (due_tids (done_work node event free))
  pub waits : AtEach (λ (work : Work) (client : ClientNo). I after work) wait_on (settle (done_work node event free)) (waiting_clients (settle (done_work node event free)))
  pub all : I after (step_work node event free)

abbrev pub EachTurn : Type 1
EachTurn = (I : Stage → Work → Type 0) (node : NodeValue) (event : Event) (free : ℕ) → Table event I → I before (work_on node free) → AtTurns I node event free
