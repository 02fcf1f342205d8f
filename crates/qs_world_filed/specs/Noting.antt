-- Each note that files wait for, or have noted, they issued: in this incarnation, to the audit of the audit node, with that text, and what is waited for under that number.
use Rattle.std.specs.Prelude.{◌≡◌, ℕ, ◌==◌, ◌&&◌, Bool, true, List, Option, Some}
use Rattle.std.specs.List.{list_any}
use Rattle.qs_base.specs.Order.{same_member}
use Rattle.qs_base.specs.declared.identifiers.Member.{Member}
use Rattle.qs_base.specs.declared.identifiers.NodeNo.{NodeNo}
use Rattle.qs_base.specs.declared.identifiers.Tid.{Tid}
use Rattle.qs_book_laws.proofs.Turns.{Stands}
use Rattle.qs_book_machine.specs.Book.{BookValue}
use Rattle.qs_book_machine.specs.Clauses.{link_to, note_text}
use Rattle.qs_book_machine.specs.Transaction.{requests_at}
use Rattle.qs_book_machine.specs.declared.transaction.Request.{Request}
use Rattle.qs_ops.specs.Servers.{audit_no}
use Rattle.qs_tm.specs.Participant.{is_by_files}
use Rattle.qs_tm.specs.declared.participant.Outstanding.{Outstanding}
use Rattle.qs_tm.specs.declared.participant.Participant.{Participant}
use Rattle.qs_node_step.specs.State.{NodeValue}
use Rattle.qs_node_step.specs.declared.setting.Setting.{Setting}
use Rattle.qs_world.specs.Moves.{Move}
use Rattle.qs_world.specs.Openings.{IsOpening}
use Rattle.qs_world.specs.Runs.{Run}
use Rattle.qs_world.specs.World.{Opening, World, start}
use Rattle.qs_world_lawful.specs.Beside.{is_note_by}
use Rattle.qs_world_lawful.specs.Logs.{Every}
use Rattle.qs_world_runs.specs.Joined.{book_in}

-- files of that node issued that note to that member
abbrev pub is_note_to : Member → NodeNo → ℕ → List ℕ → Request → Bool
is_note_to member here inc text request = same_member member request.member && is_note_by here inc text request

abbrev pub IsOfAudit : Option NodeNo → Member → Type 0
IsOfAudit audit member = (audit ≡ Some member.node) × ((member.server.0 == audit_no) ≡ true)

-- the one that tells so many changes, under that number
abbrev pub StandsIssued : BookValue → NodeNo → ℕ → Tid → Member → ℕ → ℕ → Type 0
StandsIssued book here inc tid member number count =
    Stands tid (λ tx. list_any (is_note_to member here inc (note_text tid here.0 count)) (requests_at tx (record { link = link_to here.0 member; number = number })) ≡ true) book

abbrev pub HasIssued : BookValue → Setting → Tid → Member → ℕ → ℕ → Type 0
HasIssued book setting tid member number count = IsOfAudit setting.audit member × StandsIssued book setting.node setting.inc tid member number count

abbrev pub WasIssued : BookValue → Setting → Tid → ℕ → Type 0
WasIssued book setting tid count = (member : Member) × ((number : ℕ) × HasIssued book setting tid member number count)

-- what a node knows of a transaction
pub record KnowsNotes (book : BookValue) (setting : Setting) (tid : Tid) (part : Participant) : Type 0 where
  pub waited : Every (λ (request : Outstanding). is_by_files request ≡ true → HasIssued book setting tid request.member request.number request.count) part.waiting
  pub noted : Every (WasIssued book setting tid) part.noted

-- of each
abbrev pub IssuedNotes : BookValue → Setting → List (Tid × Participant) → Type 0
IssuedNotes book setting known = Every (λ (entry : Tid × Participant). KnowsNotes book setting entry.0 entry.1) known

abbrev pub HasIssuedNotes : BookValue → NodeValue → Type 0
HasIssuedNotes book node = IssuedNotes book node.setting node.manager.known

-- in every run, also while a node is down
abbrev pub EachRunIssuesNotes : Type 0
EachRunIssuesNotes = (o : Opening) (moves : List Move) (new : World) → IsOpening o → Run (start o) moves new → (n : ℕ) → HasIssuedNotes (book_in o new) (new.hosts n).node
