-- What was served of the notes of files is told in the machine: each stands among the notes of its transaction.
use Rattle.std.specs.Prelude.{◌≡◌, true, List, Some}
use Rattle.qs_base.specs.declared.identifiers.Tid.{Tid}
use Rattle.qs_book_journal.specs.declared.entry.Entry.{Entry}
use Rattle.qs_book_machine.specs.Book.{find_transaction}
use Rattle.qs_book_machine.specs.Lawful.{IsLawful, book_after}
use Rattle.qs_book_machine.specs.Transaction.{TransactionValue, has_note, note_of, requests_at}
use Rattle.qs_book_machine.specs.declared.transaction.Noted.{Noted}
use Rattle.qs_book_machine.specs.declared.transaction.Request.{Request}
use Rattle.qs_book_machine.specs.declared.transaction.RequestNo.{RequestNo}
use Rattle.qs_world.specs.Histories.{book_of}
use Rattle.qs_world.specs.Openings.{IsOpening}
use Rattle.qs_world.specs.World.{Opening}
use Rattle.qs_world_lawful.specs.Logs.{Every}

-- a request
abbrev pub IsTold : TransactionValue → Request → Type 0
IsTold tx request = request.served ≡ true → (note : Noted) → note_of request ≡ Some note → has_note tx note ≡ true

-- each of a transaction
abbrev pub TellsNotes : TransactionValue → Type 0
TellsNotes tx = (at : RequestNo) → Every (IsTold tx) (requests_at tx at)

-- in every lawful history of a run
abbrev pub EachRunTellsNotes : Type 0
EachRunTellsNotes = (o : Opening) (entries : List Entry) → IsOpening o → IsLawful (book_of o) entries → (tid : Tid) (tx : TransactionValue) → find_transaction (book_after (book_of o) entries) tid ≡ Some tx → TellsNotes tx
