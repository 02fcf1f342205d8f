-- The laws of histories: what stands in the machine at every time stands after each lawful history, from logs as nodes leave them.
use Rattle.std.specs.Prelude.{◌≡◌, true, List}
use Rattle.qs_base.specs.declared.identifiers.Tid.{Tid}
use Rattle.qs_book_journal.specs.declared.entry.Entry.{Entry}
use Rattle.qs_book_laws.specs.Laws.{IsCoherent}
use Rattle.qs_book_machine.specs.Lawful.{IsLawful, book_after}
use Rattle.qs_book_machine.specs.Opening.{opening}
use Rattle.qs_book_machine.specs.declared.opened.Opened.{Opened}
use Rattle.qs_book_machine.specs.declared.opened.Pending.{Pending}
use Rattle.qs_restart.specs.Recovery.{names_transaction}
use Rattle.qs_world.specs.Histories.{book_of}
use Rattle.qs_world.specs.Openings.{IsOpening}
use Rattle.qs_world.specs.World.{Opening}
use Rattle.qs_world_lawful.specs.Lasting.{Lasts}
use Rattle.qs_world_lawful.specs.Logs.{Every}

-- what a log holds is of transactions, which are numbered from 1
pub record IsNumbered (one : Opened) : Type 0 where
  pub committed : Every (λ (tid : Tid). names_transaction tid ≡ true) one.committed
  pub pending : Every (λ (p : Pending). names_transaction p.tid ≡ true) one.pending

abbrev pub EachLasts : Type 0
EachLasts = (opened : List Opened) (entries : List Entry) → IsCoherent opened → Every IsNumbered opened → IsLawful (opening opened) entries → Lasts (book_after (opening opened) entries)

-- of a run that begins as it may, without more
abbrev pub EachRunLasts : Type 0
EachRunLasts = (o : Opening) (entries : List Entry) → IsOpening o → IsLawful (book_of o) entries → Lasts (book_after (book_of o) entries)
