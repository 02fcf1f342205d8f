use Rattle.qs_book_laws.proofs.Again.{is_logged, pends_again, commits_once}
use Rattle.qs_book_laws.proofs.laws.a_restart_keeps_what_is_on_record.Goals as goal

pub returns : goal.returns
returns c = record { logged = is_logged; pending = pends_again; committed = commits_once }
