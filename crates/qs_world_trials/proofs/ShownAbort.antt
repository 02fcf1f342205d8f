-- The agreement machine beside a run in which a node is cut off as it serves and the home aborts, step by step.
use Rattle.std.proofs.Common.{◌+◌, ◌==◌, true, false, refl, arith, if◌then◌else◌, drop}
use Rattle.std.proofs.lemmas.Bool.Decides.{nat_tests}
use Rattle.std.specs.Fmt.{digits}
use Rattle.std.specs.Global.{Global}
use Rattle.qs_engage.specs.Nodes.{all_nodes}
use Rattle.qs_tm.specs.Members.{all_servers}
use Rattle.qs_world_agree.specs.World.{Aborted, World, start, with_at, with_at2, with_at3}
use Rattle.qs_world_agree.specs.Guards.{drawn, held, held_at, names, next, next_server}
use Rattle.qs_world_agree.specs.Step.{Abort, Ask, Crash, Engage, Issue, Issue_local, Learn_abort, Lend, Meet, Notice, Restart, Tell_abort, Step}
use Rattle.qs_world_trials.specs.ShownRuns.{abort_doings, abort_legs, begun_at, met_nodes}
use Rattle.qs_world_trials.specs.SmallRuns.{cut_as_served}
use Rattle.qs_world_trials.specs.TriedShown.{IsShownAlong, begun_in}
use Rattle.qs_world_trials.proofs.ShownOpens.{met_nodes_open}

abbrev w0 : World
w0 = start met_nodes

abbrev w1 : World
w1 = record w0 { arrived = with_at2 w0.arrived 256 33 (w0.arrived 256 33 + 1) }

s1 : Step (Issue_local 256 33) w0 w1
s1 = grind (arith, nat_tests)

abbrev w2 : World
w2 = record w1 { served = with_at2 w1.served 256 33 (w1.served 256 33 + 1); loans = with_at w1.loans 256 (w1.loans 256 + 1) }

s2 : Step (Lend 256 33) w1 w2
s2 = grind (arith, nat_tests)

abbrev w3 : World
w3 = record w2 { asked = with_at w2.asked 256 true }

s3 : Step (Ask 256) w2 w3
s3 = grind (arith, nat_tests)

abbrev w4 : World
w4 = record w3 {
  sent = with_at2 w3.sent 256 1 (w3.sent 256 1 + 1);
  server_of = with_at3 w3.server_of 256 1 (w3.sent 256 1 + 1) 0;
  posted = with_at2 w3.posted 256 (w3.peer 256 1) (w3.sent 256 1 + 1);
  involved = with_at w3.involved 256 true;
  way = with_at w3.way (w3.node 256) (held (w3.way (w3.node 256)));
  holder = with_at w3.holder (w3.node 256) (held_at (w3.way (w3.node 256)) 256 (w3.holder (w3.node 256)));
}

s4 : Step (Issue 256 1 0) w3 w4
s4 = grind (arith, nat_tests)

abbrev w5 : World
w5 = record w4 {
  received = with_at2 w4.received 257 256 (next w4 257 256);
  last = with_at2 w4.last 257 256 (next w4 257 256);
  arrived = with_at2 w4.arrived 257 (next_server w4 257 256) (w4.arrived 257 (next_server w4 257 256) + 1);
  engaged = with_at w4.engaged 257 true;
  superior = with_at w4.superior 257 (w4.node 256);
  engager = with_at w4.engager 257 256;
  engaging = with_at w4.engaging 257 (next w4 257 256);
  depth = with_at w4.depth 257 (w4.depth 256 + 1);
  received_at = with_at3 w4.received_at 256 (w4.node 257) (next w4 257 256) 257;
  arrival = with_at3 w4.arrival 256 (w4.node 257) (next w4 257 256) (w4.arrived 257 (next_server w4 257 256) + 1);
}

s5 : Step (Engage 257 256) w4 w5
s5 = grind (arith, nat_tests)

abbrev w6 : World
w6 = record w5 { asked = with_at w5.asked 257 true }

s6 : Step (Ask 257) w5 w6
s6 = grind (arith, nat_tests)

abbrev w7 : World
w7 = record w6 { up = with_at w6.up 257 false }

s7 : Step (Crash 257) w6 w7
s7 = grind (arith, nat_tests)

abbrev w8 : World
w8 = record w7 {
  present = with_at w7.present (w7.node 513) 513;
  up = with_at w7.up 513 true;
  involved = with_at w7.involved 513 false;
}

s8 : Step (Restart 513) w7 w8
s8 = grind (arith, nat_tests)

abbrev w9 : World
w9 = record w8 {
  peer = with_at2 w8.peer 513 (w8.node 256) 256;
  posted = with_at2 w8.posted 513 256 (w8.sent 513 (w8.node 256));
  inquiry_put = with_at2 w8.inquiry_put 513 256 (w8.inquiries 513);
}

s9 : Step (Meet 513 256) w8 w9
s9 = grind (arith, nat_tests)

abbrev w10 : World
w10 = record w9 {
  peer = with_at2 w9.peer 256 (w9.node 513) 513;
  posted = with_at2 w9.posted 256 513 (w9.sent 256 (w9.node 513));
  received = with_at2 w9.received 513 256 (w9.sent 256 (w9.node 513));
  inquiry_put = with_at2 w9.inquiry_put 256 513 (w9.inquiries 256);
  inquiry_taken = with_at2 w9.inquiry_taken 513 256 (w9.inquiries 256);
  gone = if w9.covered 256 (w9.node 513) == w9.sent 256 (w9.node 513) then w9.gone else with_at w9.gone 256 true;
}

s10 : Step (Notice 256 513) w9 w10
s10 = grind (arith, nat_tests)

abbrev w11 : World
w11 = record w10 {
  engaged = with_at w10.engaged w10.home false;
  outcome = with_at w10.outcome w10.home Aborted;
  to_tell = with_at w10.to_tell w10.home (drawn w10 w10.home);
  cell = Aborted;
  learnt_abort = with_at w10.learnt_abort (w10.node w10.home) true;
}

s11 : Step Abort w10 w11
s11 = grind (arith, nat_tests)

abbrev w12 : World
w12 = record w11 { tell_abort = with_at w11.tell_abort 1 true }

s12 : Step (Tell_abort 256 1) w11 w12
s12 = grind (arith, nat_tests)

abbrev w13 : World
w13 = record w12 {
  outcome = with_at w12.outcome 513 Aborted;
  named = with_at w12.named 513 (names w12 513);
  learnt_abort = with_at w12.learnt_abort (w12.node 513) true;
}

s13 : Step (Learn_abort 513) w12 w13
s13 = grind (arith, nat_tests)

pub aborted_holds : (alloc : Global) → IsShownAlong (begun_in alloc cut_as_served) (drop begun_at (abort_doings cut_as_served)) met_nodes abort_legs
unfolding all_nodes all_servers digits
aborted_holds alloc = record {
  opens = met_nodes_open;
  begins = refl;
  goes = (w1, (w1, s1, refl), refl, refl, (w2, (w2, s2, refl), refl, refl, (w3, (w3, s3, refl), refl, refl, (w4, (w4, s4, refl), refl, refl, (w5, (w5, s5, refl), refl, refl, (w6, (w6, s6, refl), refl, refl, (w7, (w7, s7, refl), refl, refl, (w8, (w8, s8, refl), refl, refl, (w9, (w9, s9, refl), refl, refl, (w12, (w10, s10, (w11, s11, (w12, s12, refl))), refl, refl, (w13, (w13, s13, refl), refl, refl, tt)))))))))));
}
