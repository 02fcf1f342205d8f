use Rattle.std.proofs.Common.{◌≡◌, length}
use Rattle.qs_world_sites.specs.Linking.{AreLinksOver}
use Rattle.qs_world_sites.proofs.linking.as_links.Given as goal

abbrev pub invariant-loop-ends : goal.invariant-loop-ends
invariant-loop-ends l = record {
  over : AreLinksOver (length l.fn.all.items) l.yielded l.links.items;
  number : l.me ≡ length l.yielded;
}
