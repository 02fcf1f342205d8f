-- What a node keeps of outcomes is what the machine has, with its cause: at each turn of a step whose entries are lawful, where it was so before.
use Rattle.std.specs.Prelude.{◌≡◌, ℕ, List, Some}
use Rattle.std.specs.List.{find}
use Rattle.qs_base.specs.declared.identifiers.Tid.{Tid}
use Rattle.qs_book_machine.specs.Book.{BookValue}
use Rattle.qs_book_machine.specs.Lawful.{IsLawful}
use Rattle.qs_node_kept.specs.Keeping.{is_outcome_of}
use Rattle.qs_node_kept.specs.declared.kept.Decided.{Decided}
use Rattle.qs_node_step.specs.State.{NodeValue, Work}
use Rattle.qs_node_step.specs.declared.event.Event.{Event}
use Rattle.qs_world_course.specs.Worlds.{IsToldSo}
use Rattle.qs_world_lawful.specs.Amid.{InRun}
use Rattle.qs_world_lawful.specs.Entering.{book_at, entries_so_far}
use Rattle.qs_world_walk.specs.Stage.{Stage}
use Rattle.qs_world_walk.specs.Walked.{AtTurns}

abbrev pub AreTold : BookValue → List Decided → Type 0
AreTold book outcomes = (tid : Tid) (decided : Decided) → find (is_outcome_of tid) outcomes ≡ Some decided → IsToldSo book tid decided

abbrev pub ToldAmid : ℕ → BookValue → Work → Type 0
ToldAmid stamp before work = IsLawful before (entries_so_far stamp work) → AreTold (book_at stamp before work) work.node.kept.now.outcomes

abbrev pub OutcomesStayTold : Type 0
OutcomesStayTold = (stamp : ℕ) (before : BookValue) (node : NodeValue) (event : Event) (free : ℕ) → InRun before → AreTold before node.kept.now.outcomes
    → AtTurns (λ (stage : Stage) (work : Work). ToldAmid stamp before work) node event free
