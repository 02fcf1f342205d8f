-- What is known of names at each turn of a step, from what stood of them before it: scripts, labels, outcomes and owners.
use Rattle.std.specs.Prelude.{◌≡◌, ⊤, ℕ, true, List, Some}
use Rattle.qs_base.specs.declared.identifiers.ClientNo.{ClientNo}
use Rattle.qs_base.specs.declared.identifiers.Tid.{Tid}
use Rattle.qs_book_journal.specs.declared.entry.Act.{Act}
use Rattle.qs_book_journal.specs.declared.entry.Act.TheVariants as acts
use Rattle.qs_book_machine.specs.Book.{BookValue, find_label, find_transaction}
use Rattle.qs_book_machine.specs.Lawful.{IsLawful}
use Rattle.qs_book_machine.specs.Transaction.{TransactionValue}
use Rattle.qs_book_conformance.specs.Borrowing.{owns}
use Rattle.qs_book_conformance.specs.Course.{CourseValue}
use Rattle.qs_node_step.specs.State.{NodeValue, Work}
use Rattle.qs_node_step.specs.Step.{is_owner}
use Rattle.qs_node_step.specs.declared.event.Event.{Event}
use Rattle.qs_world.specs.Posting.{entries_of}
use Rattle.qs_world_course.specs.Kinds.{course_on}
use Rattle.qs_world_lawful.specs.Aside.{IsOfStep}
use Rattle.qs_world_lawful.specs.Amid.{InRun}
use Rattle.qs_world_lawful.specs.Logs.{Every}
use Rattle.qs_world_lawful.specs.Entering.{entries_so_far}
use Rattle.qs_world_walk.specs.Stage.{Stage}
use Rattle.qs_world_walk.specs.Walked.{AtTurns}
use Rattle.qs_world_said.specs.Amid.{course_amid}
use Rattle.qs_world_said.specs.Hands.{ComesAs, HoldsHands, Owns}
use Rattle.qs_world_said.specs.Knows.{KnowsNames}
use Rattle.qs_world_said.specs.Labels.{AreLabelled, TellsItsLabel}
use Rattle.qs_world_said.specs.Outcomes.{AreTold}

-- of the clients that sit at the node, the machine has the one as owner that begins it
pub record HoldsOwner (own : Owns) (book : BookValue) (label : List ℕ) (tid : Tid) : Type 0 where
  pub tx : TransactionValue
  pub found : find_transaction book tid ≡ Some tx
  pub owner : (client : ClientNo) → own.sits client ≡ true → owns tx.owner client ≡ is_owner client (own.begins label)

abbrev pub AreOwned : Owns → BookValue → Type 0
AreOwned own book = (label : List ℕ) (tid : Tid) → find_label book label ≡ Some tid → HoldsOwner own book label tid

pub record NamesStand (own : Owns) (course : CourseValue) (node : NodeValue) : Type 0 where
  pub hands : HoldsHands own node
  pub labels : AreLabelled course.book node.kept.now.labels
  pub outcomes : AreTold course.book node.kept.now.outcomes
  pub owners : AreOwned own course.book

-- an act of whatever node of the run leaves them: of what it begins, no client that sits here is the owner, but the one that begins it here
abbrev pub BeginsAs : Owns → Act → Type 0
BeginsAs own (acts.Begin tid label client) = (other : ClientNo) → own.sits other ≡ true → owns (Some client) other ≡ is_owner other (own.begins label)
BeginsAs own act = ⊤

abbrev pub NamesAside : Type 0
NamesAside = (own : Owns) (course : CourseValue) (node : NodeValue) (here stamp : ℕ) (more : List Act) → InRun course.book → Every IsOfStep more → Every (BeginsAs own) more → IsLawful course.book (entries_of here stamp more)
    → NamesStand own course node → NamesStand own (course_on course (entries_of here stamp more)) node

-- where names stand, all that has to be known of them is
abbrev pub NamesAreKnown : Type 0
NamesAreKnown = (own : Owns) (course : CourseValue) (node : NodeValue) → NamesStand own course node → KnowsNames course node

abbrev pub NamesAmid : Owns → ℕ → CourseValue → Work → Type 0
NamesAmid own stamp before work = IsLawful before.book (entries_so_far stamp work) → NamesStand own (course_amid stamp before work) work.node

abbrev pub NamesStay : Type 0
NamesStay = (own : Owns) (stamp : ℕ) (before : CourseValue) (node : NodeValue) (event : Event) (free : ℕ) → InRun before.book → ComesAs own node event → TellsItsLabel before.book event → NamesStand own before node
    → AtTurns (λ (stage : Stage) (work : Work). NamesAmid own stamp before work) node event free
