-- The four nodes of the whole runs are an opening, and what an earlier run of them left is one too.
use Rattle.std.proofs.Common.{Bool, refl, arith}
use Rattle.std.proofs.lemmas.Bool.Decides.{nat_tests}
use Rattle.qs_world_agree.specs.World.{IsOpening}
use Rattle.qs_world_agree.specs.Origins.{IsReopening}
use Rattle.qs_world_agree.specs.Runs.{four_nodes, left_over}

pub opens : IsOpening four_nodes
opens = record {
  home_up = refl;
  up_present = λ p. grind (arith, nat_tests);
  peer_node = λ p m. grind arith;
  peer_present = λ p m. grind arith;
}

pub reopens : (committed : Bool) → IsReopening (left_over committed)
reopens committed = record {
  home_past = grind (arith, nat_tests);
  up_present = λ p. grind (arith, nat_tests);
  peer_node = λ p m. grind arith;
  peer_present = λ p m. grind arith;
  in_doubt = λ n s. grind (arith, nat_tests);
  stands = λ is. is;
  home_clear = λ is. refl;
  listed = λ n is. grind (arith, nat_tests, is);
}
