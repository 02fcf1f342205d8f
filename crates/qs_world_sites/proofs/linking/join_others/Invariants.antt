use Rattle.qs_world_sites.specs.Linking.{JoinsBelow}
use Rattle.qs_world_sites.proofs.linking.join_others.Given as goal

abbrev pub invariant-loop-other : goal.invariant-loop-other
invariant-loop-other l = JoinsBelow l.lines l.other l.initial.others l.others l.new
