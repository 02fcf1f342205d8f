use Rattle.qs_book_laws.proofs.Ends.{has_nothing, puts_on_record, applies_all}
use Rattle.qs_book_laws.proofs.Holding.{holds_what_it_served}
use Rattle.qs_book_laws.proofs.laws.served_changes_are_kept.Goals as goal

pub returns : goal.returns
returns c = record { held = holds_what_it_served; let_go = has_nothing; voted = puts_on_record; applied = applies_all }
