use Rattle.std.proofs.Common.{◌≡◌, take}
use Rattle.qs_book_tables.specs.Views.{names_of}
use Rattle.qs_book_tables.proofs.views.hollow_files.Given as goal

abbrev pub invariant-loop-file : goal.invariant-loop-file
invariant-loop-file l = names_of l.hollow.items ≡ names_of (take l.file-index l.files)
