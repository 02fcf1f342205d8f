use Rattle.std.proofs.Common.{◌≡◌, length}
use Rattle.qs_world_sites.specs.Linking.{AreJoined}
use Rattle.qs_world_sites.proofs.linking.new_links.Given as goal

abbrev pub invariant-loop-node : goal.invariant-loop-node
invariant-loop-node l = record {
  joined : AreJoined l.lines l.all.items;
  count : length l.all.items ≡ l._node;
}
