-- What a node keeps of names is told after a step: it is so at the last of its turns.
use Rattle.std.proofs.Common.{◌≡◌, ◌∙◌, sym, ap, subst}
use Rattle.qs_book_machine.specs.Book.{BookValue}
use Rattle.qs_book_machine.specs.Lawful.{IsLawful, book_after}
use Rattle.qs_node_step.specs.Step.{effects_of, step_work}
use Rattle.qs_node_step.specs.declared.setting.Setting.{Setting}
use Rattle.qs_world.specs.Posting.{entries_of}
use Rattle.qs_world_course.specs.Kinds.{course_on}
use Rattle.qs_world_lawful.specs.Entering.{entries_so_far}
use Rattle.qs_world_lawful.specs.StepKeeps.{entered_by}
use Rattle.qs_world_lawful.proofs.SameSetting.{step_same}
use Rattle.qs_world_said.specs.Labels.{AreLabelled}
use Rattle.qs_world_said.specs.Names.{StepKeepsNames}
use Rattle.qs_world_said.specs.Outcomes.{AreTold}
use Rattle.qs_world_said.proofs.Labelled.{labels_stay_told}
use Rattle.qs_world_said.proofs.Machine.{book_on}
use Rattle.qs_world_said.proofs.Told.{outcomes_stay_told}

pub step_keeps_names : StepKeepsNames
step_keeps_names stamp before node event free run lawful tells names = record {
  labels = subst (λ (b : BookValue). AreLabelled b (step_work node event free).node.kept.now.labels) then ((labels_stay_told stamp before.book node event free tells names.labels).all so_lawful).labels;
  outcomes = subst (λ (b : BookValue). AreTold b (step_work node event free).node.kept.now.outcomes) then ((outcomes_stay_told stamp before.book node event free run names.outcomes).all so_lawful);
}
  where
    same : entries_so_far stamp (step_work node event free) ≡ entered_by stamp node event free
    same = ap (λ (s : Setting). entries_of s.node.0 stamp (effects_of node event free).entries) (step_same node event free)

    so_lawful : IsLawful before.book (entries_so_far stamp (step_work node event free))
    so_lawful = subst (IsLawful before.book) (sym same) lawful

    then : book_after before.book (entries_so_far stamp (step_work node event free)) ≡ (course_on before (entered_by stamp node event free)).book
    then = ap (book_after before.book) same ∙ sym (book_on before (entered_by stamp node event free))
