use Rattle.std.proofs.Common.{◌≡◌, take}
use Rattle.qs_restart.specs.Recovery.{recovery}
use Rattle.qs_restart.specs.Places.{Follows}
use Rattle.qs_restart.proofs.recovering.take_commits.Given as goal

abbrev pub invariant-loop-at : goal.invariant-loop-at
invariant-loop-at l = record {
  files : l.found.files ≡ (recovery (take l.at l.records)).files;
  audit : l.found.audit ≡ (recovery (take l.at l.records)).audit;
  extra : l.found.extra ≡ (recovery (take l.at l.records)).extra;
  committed : l.found.committed ≡ (recovery (take l.at l.records)).committed;
  votes : l.found.votes ≡ l.fn.found.votes;
  in_doubt : l.found.in_doubt ≡ l.fn.found.in_doubt;
  untold : l.found.untold ≡ l.fn.found.untold;
  follows : Follows l.places.prepares.entries l.places.listed.entries l.places.ends.entries (take l.at l.records);
}
