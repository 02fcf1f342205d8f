-- What each move of a run keeps of a kind of rules, the run keeps.
use Rattle.std.proofs.Common.{◌≡◌, ℕ, Bool, true, List, [], ◌∷◌, ◌++◌, Option, Some, None, refl, sym, subst}
use Rattle.std.specs.Prelude.{map}
use Rattle.qs_book_journal.specs.declared.entry.Act.TheVariants as acts
use Rattle.qs_book_journal.specs.declared.entry.CrashCause.{CrashCause}
use Rattle.qs_book_journal.specs.declared.entry.Entry.{Entry}
use Rattle.qs_book_script.specs.declared.script.Script.{Script}
use Rattle.qs_book_conformance.specs.Begun.{at_start}
use Rattle.qs_book_conformance.specs.Course.{CourseValue}
use Rattle.qs_book_conformance.specs.Effects.{course_after}
use Rattle.qs_node_step.specs.Opening.{recovered_of}
use Rattle.qs_node_step.specs.declared.event.Event.{Event}
use Rattle.qs_world.specs.Histories.{book_of}
use Rattle.qs_world.specs.Moves.{Cut, Meet, Move, Rise, Source, Step, Stop, cut_with, event_of, found_of, may_move, may_step, moved, step_with}
use Rattle.qs_world.specs.Openings.{IsOpening}
use Rattle.qs_world.specs.Posting.{entry_of}
use Rattle.qs_world.specs.Runs.{Run}
use Rattle.qs_world.specs.World.{Opening, World, start}
use Rattle.qs_world_course.specs.Kinds.{Keeps, RuleOf, course_on}
use Rattle.qs_world_course.specs.Worlds.{course_in}
use Rattle.qs_world_opening.specs.CourseScripts.{IsScriptOf}
use Rattle.qs_world_runs.specs.Agrees.{MakesStep}
use Rattle.qs_world_runs.specs.AlongRun.{AlongRun}
use Rattle.qs_world_runs.specs.Joined.{Joined}
use Rattle.qs_world_runs.specs.JoinedLaws.{entries_in}
use Rattle.qs_world_runs.proofs.JoinedMoves.{each_move_joined}
use Rattle.qs_world_runs.proofs.JoinedOver.{each_opens_joined}
use Rattle.qs_world_runs.proofs.RunsGoOn.{runs_go}
use Rattle.qs_world_filed.specs.Runs.{EachRunKeeps}

-- ---- entries in two parts

pub course_both : (course : CourseValue) (entries more : List Entry) → course_on course (entries ++ more) ≡ course_on (course_on course entries) more
course_both course [] more = refl
course_both course (entry ∷ entries) more = course_both (course_after course entry) entries more

pub keeps_both : (rule : RuleOf) (course : CourseValue) (entries more : List Entry) → Keeps rule course entries → Keeps rule (course_on course entries) more → Keeps rule course (entries ++ more)
keeps_both rule course [] more h k = k
keeps_both rule course (entry ∷ entries) more h k = (h.0, keeps_both rule (course_after course entry) entries more h.1 k)

-- ---- what goes along the run beside its machines and nodes

pub record GoesAlong (X : Opening → World → Type 0) : Type 0 where
  pub opens : (o : Opening) → IsOpening o → X o (start o)
  pub moves : (o : Opening) (world : World) (move : Move) → Joined AlongRun o world → X o world → may_move world move ≡ true → X o (moved move world)

-- and what each entry of a move is judged to be
pub record IsKeptBy (rule : RuleOf) (X : Opening → World → Type 0) : Type 0 where
  pub steps : (o : Opening) (script : Script) (world : World) (n stamp free : ℕ) (source : Source) (event : Event) → IsScriptOf o script → Joined AlongRun o world → X o world → MakesStep world n stamp source event
      → Keeps rule (course_in o script world) (entries_in world n stamp free event)
  pub stops : (course : CourseValue) (n stamp : ℕ) (cause : CrashCause) → rule course (entry_of n stamp (acts.Crash cause)) ≡ None
  pub rises : (o : Opening) (script : Script) (world : World) (n stamp inc : ℕ) → IsScriptOf o script → Joined AlongRun o world → X o world → may_move world (Rise n stamp inc) ≡ true
      → rule (course_in o script world) (entry_of n stamp (acts.Restart inc (map found_of (recovered_of (world.hosts n).log).votes) (recovered_of (world.hosts n).log).committed)) ≡ None

module _ (rule : RuleOf) (X : Opening → World → Type 0) (along : GoesAlong X) (kept : IsKeptBy rule X) (o : Opening) (script : Script) (is_script : IsScriptOf o script) where
  abbrev So : World → Type 0
  So world = Keeps rule (at_start script (book_of o)) world.journal

  more : (world : World) (entries : List Entry) → So world → Keeps rule (course_in o script world) entries → Keeps rule (at_start script (book_of o)) (world.journal ++ entries)
  more world entries so its = keeps_both rule (at_start script (book_of o)) world.journal entries so its

  step_kept : (world : World) (n stamp free : ℕ) (source : Source) (e : Option Event) → event_of world n stamp source ≡ e → Joined AlongRun o world → X o world → may_step world n stamp source ≡ true → So world → So (step_with world n stamp free source e)
  step_kept world n stamp free source None comes j x may so = so
  step_kept world n stamp free source (Some event) comes j x may so = more world (entries_in world n stamp free event) so (kept.steps o script world n stamp free source event is_script j x (record { may = may; comes = comes }))

  cut_kept : (world : World) (n stamp free : ℕ) (is_kept : Bool) (cause : CrashCause) (e : Option Event) → So world → So (cut_with world n stamp free is_kept cause e)
  cut_kept world n stamp free is_kept cause None so = so
  cut_kept world n stamp free is_kept cause (Some event) so = more world (entry_of n stamp (acts.Crash cause) ∷ []) so (kept.stops (course_in o script world) n stamp cause, tt)

  move_kept : (world : World) (move : Move) → Joined AlongRun o world → X o world → may_move world move ≡ true → So world → So (moved move world)
  move_kept world (Step n stamp free source) j x may so = step_kept world n stamp free source (event_of world n stamp source) refl j x may so
  move_kept world (Cut n stamp free source is_kept cause) j x may so = cut_kept world n stamp free is_kept cause (event_of world n stamp source) so
  move_kept world (Stop n stamp cause) j x may so = more world (entry_of n stamp (acts.Crash cause) ∷ []) so (kept.stops (course_in o script world) n stamp cause, tt)
  move_kept world (Rise n stamp inc) j x may so = more world (_ ∷ []) so (kept.rises o script world n stamp inc is_script j x may, tt)
  move_kept world (Meet n stamp m inc) j x may so = so

  over : (moves : List Move) (old new : World) → Joined AlongRun o old → X o old → So old → Run old moves new → So new
  over [] old new j x so run = subst So (sym run) so
  over (move ∷ moves) old new j x so run = over moves (moved move old) new (each_move_joined AlongRun runs_go o old move j run.0) (along.moves o old move j x run.0) (move_kept old move j x run.0 so) run.1

pub each_run_keeps : (rule : RuleOf) (X : Opening → World → Type 0) → GoesAlong X → IsKeptBy rule X → EachRunKeeps rule
each_run_keeps rule X along kept o script moves new opens is_script run =
    over rule X along kept o script is_script moves (start o) new (each_opens_joined AlongRun runs_go o opens) (along.opens o opens) tt run

-- ---- and what goes along it is so at its end

module _ (X : Opening → World → Type 0) (along : GoesAlong X) (o : Opening) where
  goes : (moves : List Move) (old new : World) → Joined AlongRun o old → X o old → Run old moves new → X o new
  goes [] old new j x run = subst (X o) (sym run) x
  goes (move ∷ moves) old new j x run = goes moves (moved move old) new (each_move_joined AlongRun runs_go o old move j run.0) (along.moves o old move j x run.0) run.1

  pub goes_along : (moves : List Move) (new : World) → IsOpening o → Run (start o) moves new → X o new
  goes_along moves new opens run = goes moves (start o) new (each_opens_joined AlongRun runs_go o opens) (along.opens o opens) run
