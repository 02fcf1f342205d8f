use Rattle.std.proofs.Common.{◌≡◌, [], fold, map}
use Rattle.std.specs.Map.Iter.{deref_pair}
use Rattle.qs_tm.specs.Manager.{put_tid}
use Rattle.qs_tm.proofs.manager.Manager.tids_of.Given as goal

abbrev pub invariant-loop-entry : goal.invariant-loop-entry
invariant-loop-entry l = l.tids ≡ fold (put_tid l.which) [] (map deref_pair l.yielded)
