-- What entries say of a member of a transaction, in one life of its node: from a restart of the node to its next.
use Rattle.std.specs.Prelude.{◌≡◌, ◌==◌, Bool, true, false, ◌&&◌, List, [], ◌∷◌, ⊤}
use Rattle.qs_base.specs.declared.identifiers.NodeNo.{NodeNo}
use Rattle.qs_book_journal.specs.declared.entry.Act.{Act}
use Rattle.qs_book_journal.specs.declared.entry.Act.TheVariants as acts
use Rattle.qs_book_journal.specs.declared.entry.Entry.{Entry}

abbrev pub is_restart : Act → Bool
is_restart (acts.Restart inc pend done) = true
is_restart act = false

-- the node restarts
abbrev pub restarts : NodeNo → Entry → Bool
restarts node entry = (entry.node.0 == node.0) && is_restart entry.act

-- the entries are of one life of the node: it does not restart
abbrev pub IsOneLife : NodeNo → List Entry → Type 0
IsOneLife node [] = ⊤
IsOneLife node (entry ∷ entries) = (restarts node entry ≡ false) × IsOneLife node entries
