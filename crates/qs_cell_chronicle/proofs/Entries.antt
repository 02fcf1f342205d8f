-- Entries that are added one by one.
use Rattle.std.proofs.Common.{◌≡◌, ◌∙◌, ap, sym, List, [], ◌∷◌, ◌++◌, map, fold, append_assoc, append-nil}
use Rattle.qs_book_journal.specs.declared.entry.Act.{Act}
use Rattle.qs_book_journal.specs.declared.entry.Entry.{Entry}
use Rattle.qs_cell_chronicle.specs.Chronicle.{Told, entry_of, with_entry}

pub all_added : (told : Told) (acts : List Act) → fold with_entry told acts ≡ record told { journal = told.journal ++ map (entry_of told.node told.stamp) acts }
all_added told [] = ap (λ (journal : List Entry). record told { journal = journal }) (sym (append-nil told.journal))
all_added told (act ∷ acts) =
    all_added (with_entry told act) acts
    ∙ ap (λ (journal : List Entry). record told { journal = journal }) (append_assoc told.journal (entry_of told.node told.stamp act ∷ []) (map (entry_of told.node told.stamp) acts))
