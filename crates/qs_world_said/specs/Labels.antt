-- The labels that a node keeps tell the machine's transactions: at each turn of a step whose entries are lawful, where it was so before, and where the request that comes tells its own.
use Rattle.std.specs.Prelude.{◌≡◌, ℕ, List, [], Some}
use Rattle.std.specs.List.{find}
use Rattle.qs_base.specs.declared.identifiers.Member.{Member}
use Rattle.qs_base.specs.declared.identifiers.NodeNo.{NodeNo}
use Rattle.qs_base.specs.declared.identifiers.Tid.{Tid}
use Rattle.qs_ops.specs.declared.operation.Op.{Op}
use Rattle.qs_book_machine.specs.Book.{BookValue, find_label}
use Rattle.qs_book_machine.specs.Lawful.{IsLawful}
use Rattle.qs_node_kept.specs.Keeping.{has_label}
use Rattle.qs_node_kept.specs.declared.kept.KeptLabel.{KeptLabel}
use Rattle.qs_node_step.specs.State.{NodeValue, Work}
use Rattle.qs_node_step.specs.declared.event.Event.{Event}
use Rattle.qs_world_lawful.specs.Entering.{book_at, entries_so_far}
use Rattle.qs_world_walk.specs.May.{IsRequest}
use Rattle.qs_world_walk.specs.Stage.{Stage}
use Rattle.qs_world_walk.specs.Walked.{AtTurns}

abbrev pub AreLabelled : BookValue → List KeptLabel → Type 0
AreLabelled book labels = (label : List ℕ) (begun : KeptLabel) (tid : Tid) → (label ≡ [] → ⊥) → find (has_label label) labels ≡ Some begun → begun.tid ≡ Some tid → find_label book label ≡ Some tid

-- what a label tells it tells for good
abbrev pub KeepsLabels : BookValue → BookValue → Type 0
KeepsLabels old new = (label : List ℕ) (tid : Tid) → find_label old label ≡ Some tid → find_label new label ≡ Some tid

pub record LabelsAmid (stamp : ℕ) (before : BookValue) (work : Work) : Type 0 where
  pub labels : AreLabelled (book_at stamp before work) work.node.kept.now.labels
  pub stay : KeepsLabels before (book_at stamp before work)

abbrev pub LabelledAmid : ℕ → BookValue → Work → Type 0
LabelledAmid stamp before work = IsLawful before (entries_so_far stamp work) → LabelsAmid stamp before work

abbrev pub TellsItsLabel : BookValue → Event → Type 0
TellsItsLabel book event = (peer : NodeNo) (tid : Tid) (label : List ℕ) (member : Member) (number : ℕ) (op : Op) → IsRequest event peer tid label member number op → (label ≡ [] → ⊥) → find_label book label ≡ Some tid

abbrev pub LabelsStayTold : Type 0
LabelsStayTold = (stamp : ℕ) (before : BookValue) (node : NodeValue) (event : Event) (free : ℕ) → TellsItsLabel before event → AreLabelled before node.kept.now.labels
    → AtTurns (λ (stage : Stage) (work : Work). LabelledAmid stamp before work) node event free
