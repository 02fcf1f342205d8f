use Rattle.std.proofs.Common.{◌≡◌}
use Rattle.qs_book_tables.specs.Views.{names_of}
use Rattle.qs_book_tables.proofs.views.into_names.Given as goal

abbrev pub invariant-loop-file : goal.invariant-loop-file
invariant-loop-file l = l.names ≡ names_of l.yielded
