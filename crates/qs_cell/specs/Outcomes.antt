-- What comes of an event: the node after it, or what is left of one that stopped.
use Rattle.std.specs.Prelude.{Bool, false, List}
use Rattle.qs_book_journal.specs.declared.entry.CrashCause.{CrashCause}
use Rattle.qs_book_journal.specs.declared.entry.CrashCause.TheVariants as causes
use Rattle.qs_node_step.specs.declared.event.ClientAnswer.{ClientAnswer}
use Rattle.qs_cell.specs.declared.running.Fate.{Fate}
use Rattle.qs_cell.specs.declared.running.Fate.TheVariants as fates
use Rattle.qs_cell.specs.declared.running.Running.{Running}
use Rattle.qs_cell.specs.declared.stopped.Stopped.{Stopped}

pub data Outcome (D F X : Type 0) : Type 0 where
  Whole : Running D F X → List ClientAnswer → Outcome D F X  -- the step stands whole, and these answers go out
  Followed : Stopped D → List ClientAnswer → Outcome D F X  -- so it does, and a line of the script stopped the node right behind it
  Replaced : Stopped D → Outcome D F X  -- a crash stands in place of the event
  CutOff : Stopped D → Outcome D F X  -- a crash cut the step off

-- what is left of a node that stops; whether its log had no room
abbrev pub stopped_of : {D F X : Type 0} → CrashCause → Bool → Running D F X → Stopped D
stopped_of cause is_full running = record {
  disk = running.host.log.disk;
  kept = running.host.node.kept.saved;
  cause = cause;
  is_full = is_full;
  carried = running.carried;
}

-- only a line of the script stops a node right behind a step
abbrev pub outcome_of : {D F X : Type 0} → Fate → Running D F X → Outcome D F X
outcome_of (fates.Whole answers) running = Whole running answers
outcome_of (fates.Followed answers) running = Followed (stopped_of causes.Plan false running) answers
outcome_of (fates.Replaced cause) running = Replaced (stopped_of cause false running)
outcome_of (fates.CutOff cause is_full) running = CutOff (stopped_of cause is_full running)
