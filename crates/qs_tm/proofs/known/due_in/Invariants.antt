-- The list has those that are due among the entries so far.
use Rattle.std.proofs.Common.{◌≡◌, [], fold, map}
use Rattle.std.specs.Map.Iter.{deref_pair}
use Rattle.qs_tm.specs.Manager.{put_tid}
use Rattle.qs_tm.specs.declared.manager.Which.TheVariants as whiches
use Rattle.qs_tm.proofs.known.due_in.Given as goal

abbrev pub invariant-loop-entry : goal.invariant-loop-entry
invariant-loop-entry l = l.tids ≡ fold (put_tid whiches.Due) [] (map deref_pair l.yielded)
