-- The agreement machine may begin so.
use Rattle.std.proofs.Common.{refl, arith}
use Rattle.std.proofs.lemmas.Bool.Decides.{nat_tests}
use Rattle.qs_world_agree.specs.World.{IsOpening}
use Rattle.qs_world_trials.specs.ShownRuns.{met_nodes, three_nodes, two_nodes}

pub two_nodes_open : IsOpening two_nodes
two_nodes_open = record {
  home_up = refl;
  up_present = λ p up. grind (arith, nat_tests, up);
  peer_node = λ p m some. grind (arith, nat_tests, some);
  peer_present = λ p m. grind (arith, nat_tests);
}

pub met_nodes_open : IsOpening met_nodes
met_nodes_open = record {
  home_up = refl;
  up_present = λ p up. grind (arith, nat_tests, up);
  peer_node = λ p m some. grind (arith, nat_tests, some);
  peer_present = λ p m. grind (arith, nat_tests);
}

pub three_nodes_open : IsOpening three_nodes
three_nodes_open = record {
  home_up = refl;
  up_present = λ p up. grind (arith, nat_tests, up);
  peer_node = λ p m some. grind (arith, nat_tests, some);
  peer_present = λ p m. grind (arith, nat_tests);
}
