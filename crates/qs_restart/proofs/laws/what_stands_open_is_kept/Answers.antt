use Rattle.qs_restart.proofs.Opened.{prepared_open, untold_open}
use Rattle.qs_restart.proofs.laws.what_stands_open_is_kept.Goals as goal

pub returns : goal.returns
returns c = record { votes = prepared_open; commits = untold_open }
