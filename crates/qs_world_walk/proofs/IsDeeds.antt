-- A whole step is a walk of deeds; and what each deed keeps is kept along a walk.
use Rattle.qs_world_walk.proofs.Words.{Event, Stage, Table, Work, before}
use Rattle.qs_node_step.specs.State.{work_on}
use Rattle.qs_world_walk.proofs.Wholes.{whole_of}
use Rattle.qs_world_walk.specs.Walked.{Begun, EachStepIsDeeds, EachTurn, TableOver, Then, Walk}
use Rattle.qs_world_walk.specs.When.{stage_of}
use Rattle.qs_world_walk.specs.Whole.{EachWhole}
use Rattle.qs_world_walk.proofs.Stages as stages

pub each_whole : EachWhole
each_whole I node event free r h = stages.turns_kept event I r node free h

pub each_turn : EachTurn
each_turn I node event free k h = each_whole I node event free (whole_of event I k) h

pub step_is_deeds : EachStepIsDeeds
step_is_deeds node event free = (each_turn (Walk event (work_on node free)) node event free (λ deed when work may gone. Then deed when work may gone) Begun).all

pub carry : (event : Event) (from : Work) (I : Stage → Work → Type 0) → Table event I → I before from → (stage : Stage) (work : Work) → Walk event from stage work → I stage work
carry event from I k h _ _ Begun = h
carry event from I k h _ _ (Then deed when work may gone) = k deed when work may (carry event from I k h (stage_of deed when) work gone)

-- two facts go together
pub over : (event : Event) (K J : Stage → Work → Type 0) → Table event K → TableOver event K J → Table event (λ stage work. K stage work × J stage work)
over event K J k j deed when work may h = (k deed when work may h.0, j deed when work may h.0 h.1)
