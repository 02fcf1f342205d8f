use Rattle.std.proofs.Common.{◌≡◌, ◌++◌, drop}
use Rattle.qs_restart.proofs.Gathered.{votes_in, doubts_in, untold_in}
use Rattle.qs_restart.proofs.recovering.take_open.Given as goal

abbrev pub invariant-loop-at : goal.invariant-loop-at
invariant-loop-at l = record {
  votes : l.found.votes ++ votes_in (drop l.at l.records) ≡ votes_in l.records;
  in_doubt : l.found.in_doubt ++ doubts_in (drop l.at l.records) ≡ doubts_in l.records;
  untold : l.found.untold ++ untold_in (drop l.at l.records) ≡ untold_in l.records;
  files : l.found.files ≡ l.fn.found.files;
  audit : l.found.audit ≡ l.fn.found.audit;
  extra : l.found.extra ≡ l.fn.found.extra;
  committed : l.found.committed ≡ l.fn.found.committed;
}
