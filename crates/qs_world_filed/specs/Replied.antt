-- A reply that comes to a note of files is true: the note is told, unless its transaction is crossed at the audit server.
use Rattle.std.specs.Prelude.{◌≡◌, ◌⊎◌, ℕ, true, List, Some, None}
use Rattle.qs_base.specs.declared.identifiers.Member.{Member}
use Rattle.qs_base.specs.declared.identifiers.NodeNo.{NodeNo}
use Rattle.qs_base.specs.declared.identifiers.Tid.{Tid}
use Rattle.qs_book_laws.proofs.Turns.{Stands}
use Rattle.qs_book_machine.specs.Book.{BookValue}
use Rattle.qs_book_machine.specs.Clauses.{note_text}
use Rattle.qs_book_machine.specs.Transaction.{TransactionValue, has_note, is_crossed, standing_request}
use Rattle.qs_ops.specs.declared.reply.Reply.{Reply}
use Rattle.qs_packet.specs.declared.message.Message.TheVariants as messages
use Rattle.qs_tm.specs.Manager as tm
use Rattle.qs_tm.specs.Participant.{is_by_files, waiting_for}
use Rattle.qs_tm.specs.declared.participant.Outstanding.{Outstanding}
use Rattle.qs_tm.specs.declared.participant.Participant.{Participant}
use Rattle.qs_node_step.specs.declared.event.Event.TheVariants as events
use Rattle.qs_node_step.specs.declared.setting.Setting.{Setting}
use Rattle.qs_world.specs.Moves.{Move, Source}
use Rattle.qs_world.specs.Openings.{IsOpening}
use Rattle.qs_world.specs.Runs.{Run}
use Rattle.qs_world.specs.World.{Opening, World, start}
use Rattle.qs_world_lawful.specs.Logs.{Every}
use Rattle.qs_world_lawful.specs.Parcels.{way_between}
use Rattle.qs_world_runs.specs.Agrees.{MakesStep}
use Rattle.qs_world_runs.specs.Joined.{book_in}
use Rattle.qs_world_filed.specs.Noting.{IsOfAudit}

-- the note of files that tells so many changes
abbrev pub IsToldOf : Setting → Tid → ℕ → TransactionValue → Type 0
IsToldOf setting tid count tx = (has_note tx (record { node = setting.node; inc = setting.inc; text = note_text tid setting.node.0 count }) ≡ true) ⊎ ((member : Member) × (IsOfAudit setting.audit member × (is_crossed tx member ≡ true)))

-- each note that files have noted
abbrev pub ToldNotes : BookValue → Setting → List (Tid × Participant) → Type 0
ToldNotes book setting known = Every (λ (entry : Tid × Participant). Every (λ (count : ℕ). Stands entry.0 (IsToldOf setting entry.0 count) book) entry.1.noted) known

-- in every run, also while a node is down
abbrev pub EachRunTellsNoted : Type 0
EachRunTellsNoted = (o : Opening) (moves : List Move) (new : World) → IsOpening o → Run (start o) moves new → (n : ℕ) → ToldNotes (book_in o new) (new.hosts n).node.setting (new.hosts n).node.manager.known

-- a request that stands at its member no more
abbrev pub StandsNoMore : ℕ → Member → ℕ → TransactionValue → Type 0
StandsNoMore n member number tx = (is_crossed tx member ≡ true) ⊎ (standing_request tx (way_between n member.node.0 number) member ≡ None)

-- as the reply of another node comes in a run
abbrev pub EachReplyTells : Type 0
EachReplyTells = (o : Opening) (moves : List Move) (world : World) (n stamp : ℕ) (source : Source) (peer : NodeNo) (tid : Tid) (member : Member) (number : ℕ) (reply : Reply) (request : Outstanding) → IsOpening o → Run (start o) moves world
    → MakesStep world n stamp source (events.Received peer (messages.Answered tid member number reply)) → tm.told_of tid None (waiting_for member number) (world.hosts n).node.manager ≡ Some request → is_by_files request ≡ true
    → Stands tid (IsToldOf (world.hosts n).node.setting tid request.count) (book_in o world)
