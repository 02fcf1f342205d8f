use Rattle.std.proofs.Common.{◌≡◌, take, fold}
use Rattle.qs_node_step.specs.Opening.{keep_changes}
use Rattle.qs_node.proofs.taking_up.keep_each.Given as goal

abbrev pub invariant-loop-rec : goal.invariant-loop-rec
invariant-loop-rec g l = record {
  done : l.servers ≡ fold keep_changes l.initial.servers (take l.rec-index l.records);
  kind : l.servers.extra.kind ≡ l.initial.servers.extra.kind;
}
