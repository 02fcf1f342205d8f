-- Every run says of files what its script has set, and keeps to its quotas.
use Rattle.std.proofs.Common.{◌≡◌, ◌∙◌, ℕ, ◌<◌, refl, sym, subst}
use Rattle.qs_book_machine.specs.Book.{BookValue}
use Rattle.qs_book_machine.specs.Lawful.{IsLawful}
use Rattle.qs_book_script.specs.declared.script.Script.{Script}
use Rattle.qs_book_conformance.specs.Begun.{at_start}
use Rattle.qs_book_conformance.specs.Files.{quota_at}
use Rattle.qs_node_step.specs.declared.event.Event.{Event}
use Rattle.qs_world.specs.Histories.{book_of}
use Rattle.qs_world.specs.Moves.{Source}
use Rattle.qs_world.specs.World.{Opening, World}
use Rattle.qs_world_course.specs.Worlds.{course_in}
use Rattle.qs_world_opening.specs.CourseScripts.{IsScriptOf}
use Rattle.qs_world_runs.specs.Agrees.{MakesStep}
use Rattle.qs_world_runs.specs.AlongRun.{AlongRun}
use Rattle.qs_world_runs.specs.Joined.{Joined, book_in}
use Rattle.qs_world_runs.specs.JoinedLaws.{entries_in}
use Rattle.qs_world_runs.proofs.JoinedSteps.{step_lawful, step_low}
use Rattle.qs_world_runs.proofs.RunsGoOn.{runs_go}
use Rattle.qs_world_filed.specs.Parts.{as_set, noted, within_quotas}
use Rattle.qs_world_filed.specs.Reads.{GoesOn}
use Rattle.qs_world_filed.specs.Runs.{EachRunKeeps}
use Rattle.qs_world_filed.specs.Settings.{IsSetAs, SetAt}
use Rattle.qs_world_filed.proofs.FitSteps.{steps_fit}
use Rattle.qs_world_filed.proofs.Leaves.{entries_leave}
use Rattle.qs_world_filed.proofs.NodesGo.{AtAll, nodes_along}
use Rattle.qs_world_filed.proofs.Over.{GoesAlong, each_run_keeps}
use Rattle.qs_world_filed.proofs.SetKept.{set_kept}
use Rattle.qs_world_filed.proofs.SetMoves.{moves_keep_set, opens_set}
use Rattle.qs_world_filed.proofs.SetTable.{steps_as_set}
use Rattle.qs_world_filed.proofs.ToldRuns.{Tells, tells_go}
use Rattle.qs_world_filed.proofs.VoteSteps.{votes_noted}

-- ---- the course of a run has what the nodes are set to

pub record CourseAt (o : Opening) (script : Script) (world : World) (n : ℕ) : Type 0 where
  pub book : (course_in o script world).book ≡ book_in o world
  pub audit : (course_in o script world).audit ≡ (world.hosts n).node.setting.audit
  pub quota : quota_at (course_in o script world) n ≡ (world.hosts n).node.setting.quota

pub course_at : (o : Opening) (script : Script) (world : World) (n : ℕ) → IsScriptOf o script → SetAt o world → n < o.size → CourseAt o script world n
course_at o script world n is all low = record {
  book = goes.book;
  audit = goes.setting.audit ∙ (sym (is.audit n low) ∙ sym its.audit);
  quota = goes.setting.quotas n ∙ (is.quotas n low ∙ sym its.quota);
}
  where
    goes : GoesOn (at_start script (book_of o)) world.journal
    goes = entries_leave (at_start script (book_of o)) world.journal

    its : IsSetAs (o.settings n) (world.hosts n).node
    its = all n

-- ---- a step

module _ (o : Opening) (script : Script) (world : World) (n stamp free : ℕ) (source : Source) (event : Event) (is : IsScriptOf o script) (j : Joined AlongRun o world) (all : SetAt o world) (makes : MakesStep world n stamp source event) where
  low : n < o.size
  low = subst (λ (size : ℕ). n < size) j.size (step_low AlongRun runs_go.steps o world j n stamp free source event makes)

  c : CourseAt o script world n
  c = course_at o script world n is all low

  lawful : IsLawful (course_in o script world).book (entries_in world n stamp free event)
  lawful = subst (λ (b : BookValue). IsLawful b (entries_in world n stamp free event)) (sym c.book) (step_lawful AlongRun runs_go.steps o world j n stamp free source event makes)

-- ---- runs

along : GoesAlong SetAt
along = record { opens = λ o opens. opens_set o; moves = λ o world move j all may. moves_keep_set o world move all }

pub runs_as_set : EachRunKeeps as_set
runs_as_set = each_run_keeps as_set SetAt along (record {
  steps = λ o script world n stamp free source event is j all makes. let at = c o script world n stamp free source event is j all makes in
      set_kept (world.hosts n).node.setting n stamp _ (course_in o script world) at.audit at.quota (lawful o script world n stamp free source event is j all makes) (steps_as_set (world.hosts n).node event free (all n).files);
  stops = λ course n stamp cause. refl;
  rises = λ o script world n stamp inc is j all may. refl;
})

pub runs_fit : EachRunKeeps within_quotas
runs_fit = each_run_keeps within_quotas SetAt along (record {
  steps = λ o script world n stamp free source event is j all makes. let at = c o script world n stamp free source event is j all makes in
      steps_fit o world n stamp free source event j makes (all n).files (course_in o script world) at.book at.quota;
  stops = λ course n stamp cause. refl;
  rises = λ o script world n stamp inc is j all may. refl;
})

-- beside what nodes are set to, each note that files have noted is told
along_told : GoesAlong (λ o world. SetAt o world × AtAll Tells tells_go o world)
along_told = record {
  opens = λ o opens. (opens_set o, (nodes_along Tells tells_go).opens o opens);
  moves = λ o world move j x may. (moves_keep_set o world move x.0, (nodes_along Tells tells_go).moves o world move j x.1 may);
}

pub runs_noted : EachRunKeeps noted
runs_noted = each_run_keeps noted (λ o world. SetAt o world × AtAll Tells tells_go o world) along_told (record {
  steps = λ o script world n stamp free source event is j x makes. let at = c o script world n stamp free source event is j x.0 makes in
      votes_noted o world n stamp free source event j makes (x.0 n).files (x.1 n) (course_in o script world) at.book at.quota at.audit;
  stops = λ course n stamp cause. refl;
  rises = λ o script world n stamp inc is j x may. refl;
})
