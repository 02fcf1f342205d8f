-- What stands in the middle of a rule of a step: what the machine has beside the node, and that all that the step sent so far is so.
use Rattle.std.specs.Prelude.{◌≡◌, ◌++◌, ℕ, true, List}
use Rattle.qs_book_journal.specs.declared.entry.Act.{Act}
use Rattle.qs_book_journal.specs.declared.entry.Entry.{Entry}
use Rattle.qs_book_laws.specs.Laws.{IsCoherent}
use Rattle.qs_book_machine.specs.Book.{BookValue}
use Rattle.qs_book_machine.specs.Lawful.{IsLawful, book_after}
use Rattle.qs_book_machine.specs.Opening.{opening}
use Rattle.qs_book_machine.specs.declared.opened.Opened.{Opened}
use Rattle.qs_node_step.specs.Bringing.{is_other}
use Rattle.qs_node_step.specs.State.{Work}
use Rattle.qs_node_step.specs.declared.event.Sending.{Sending}
use Rattle.qs_node_step.specs.declared.setting.Setting.{Setting}
use Rattle.qs_world_lawful.specs.Beside.{HoldsBeside}
use Rattle.qs_world_lawful.specs.Entering.{book_at, entries_so_far}
use Rattle.qs_world_lawful.specs.Logs.{Every}
use Rattle.qs_world_lawful.specs.Parcels.{GoesTo, IsSaid}

-- a machine of a run: what lawful entries made of an opening
pub record InRun (book : BookValue) : Type 0 where
  pub opened : List Opened
  pub history : List Entry
  pub coherent : IsCoherent opened
  pub lawful : IsLawful (opening opened) history
  pub is : book ≡ book_after (opening opened) history

-- a message that goes from a node to another one of the run says what is so
pub record IsSent (book : BookValue) (setting : Setting) (sending : Sending) : Type 0 where
  pub other : is_other setting sending.to ≡ true
  pub goes : GoesTo sending.to.0 sending.message
  pub says : IsSaid book sending.message

-- all that a step sent so far
abbrev pub AreSent : ℕ → BookValue → Work → Type 0
AreSent stamp before work = Every (IsSent (book_at stamp before work) work.node.setting) work.out.messages

-- a rule adds entries, and where these are lawful what stood before it stands after it
pub record GoesOn (stamp : ℕ) (before : BookValue) (work new : Work) : Type 0 where
  pub more : List Act
  pub entries : new.out.entries ≡ work.out.entries ++ more
  pub setting : new.node.setting ≡ work.node.setting
  pub logged : new.node.committed ≡ work.node.committed
  pub keeps : IsLawful before (entries_so_far stamp new) → HoldsBeside (book_at stamp before work) work.node → HoldsBeside (book_at stamp before new) new.node
  pub sends : IsLawful before (entries_so_far stamp new) → HoldsBeside (book_at stamp before work) work.node → AreSent stamp before work → AreSent stamp before new
