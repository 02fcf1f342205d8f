use Rattle.std.proofs.Common.{◌≡◌, [], fold, take}
use Rattle.qs_node_room.specs.Room.{after_record}
use Rattle.qs_node_room.proofs.unended.Unended.of.Given as goal

abbrev pub invariant-loop-rec : goal.invariant-loop-rec
invariant-loop-rec l = l.tids ≡ fold after_record [] (take l.rec-index l.records)
