-- The reference machine over logs that held other Commits as the run began: it reads these at a restart alone.
use Rattle.std.specs.Prelude.{◌≡◌, Bool, true, false, not, List, [], map}
use Rattle.std.specs.List.{list_all}
use Rattle.qs_book_journal.specs.declared.entry.Act.{Act}
use Rattle.qs_book_journal.specs.declared.entry.Act.TheVariants as acts
use Rattle.qs_book_journal.specs.declared.entry.Entry.{Entry}
use Rattle.qs_book_machine.specs.Book.{BookValue}
use Rattle.qs_book_machine.specs.Lawful.{IsLawful, book_after, broken, effect}
use Rattle.qs_book_machine.specs.Nodes.{NodeValue}

abbrev pub is_restart : Act → Bool
is_restart (acts.Restart inc pend done) = true
is_restart act = false

-- a node without the Commits that its log held
abbrev pub without_commits : NodeValue → NodeValue
without_commits node = record node { committed = [] }

abbrev pub book_without : BookValue → BookValue
book_without book = record book { nodes = map without_commits book.nodes }

-- all but these Commits is the same
abbrev pub AreSameBut : BookValue → BookValue → Type 0
AreSameBut book other = book_without book ≡ book_without other

pub record IsSameEntry (book other : BookValue) (entry : Entry) : Type 0 where
  pub clause : broken book entry ≡ broken other entry
  pub effects : AreSameBut (effect book entry) (effect other entry)

abbrev pub EachEntryIsSame : Type 0
EachEntryIsSame = (book other : BookValue) (entry : Entry) → is_restart entry.act ≡ false → AreSameBut book other → IsSameEntry book other entry

-- ---- a stretch without restarts

abbrev pub no_restart : Entry → Bool
no_restart entry = not (is_restart entry.act)

abbrev pub EachStretchIsSame : Type 0
EachStretchIsSame = (book other : BookValue) (entries : List Entry) → list_all no_restart entries ≡ true → AreSameBut book other → IsLawful book entries → IsLawful other entries × AreSameBut (book_after book entries) (book_after other entries)
