-- Two places that owe each other an answer, step by step.
use Rattle.std.proofs.Common.{◌+◌, ◌==◌, true, false, refl, arith, if◌then◌else◌}
use Rattle.std.proofs.lemmas.Bool.Decides.{nat_tests}
use Rattle.qs_world_agree.specs.World.{World, start, with_at, with_at2, with_at3}
use Rattle.qs_world_agree.specs.Guards.{next, next_server, held, held_at}
use Rattle.qs_world_agree.specs.Step.{Crash, Engage, Issue, Join, Meet, Notice, Restart, Step}
use Rattle.qs_world_agree.specs.Runs.{four_nodes}
use Rattle.qs_world_agree_ends.specs.Seen.{RingIsSeen}

abbrev w0 : World
w0 = start four_nodes

abbrev w1 : World
w1 = record w0 {
  peer = with_at2 w0.peer 1 (w0.node 2) 2;
  posted = with_at2 w0.posted 1 2 (w0.sent 1 (w0.node 2));
  inquiry_put = with_at2 w0.inquiry_put 1 2 (w0.inquiries 1);
}

s1 : Step (Meet 1 2) w0 w1
s1 = grind (arith, nat_tests)

abbrev w2 : World
w2 = record w1 {
  peer = with_at2 w1.peer 2 (w1.node 1) 1;
  posted = with_at2 w1.posted 2 1 (w1.sent 2 (w1.node 1));
  inquiry_put = with_at2 w1.inquiry_put 2 1 (w1.inquiries 2);
}

s2 : Step (Meet 2 1) w1 w2
s2 = grind (arith, nat_tests)

abbrev w3 : World
w3 = record w2 {
  peer = with_at2 w2.peer 2 (w2.node 3) 3;
  posted = with_at2 w2.posted 2 3 (w2.sent 2 (w2.node 3));
  inquiry_put = with_at2 w2.inquiry_put 2 3 (w2.inquiries 2);
}

s3 : Step (Meet 2 3) w2 w3
s3 = grind (arith, nat_tests)

abbrev w4 : World
w4 = record w3 {
  peer = with_at2 w3.peer 3 (w3.node 2) 2;
  posted = with_at2 w3.posted 3 2 (w3.sent 3 (w3.node 2));
  inquiry_put = with_at2 w3.inquiry_put 3 2 (w3.inquiries 3);
}

s4 : Step (Meet 3 2) w3 w4
s4 = grind (arith, nat_tests)

abbrev w5 : World
w5 = record w4 {
  sent = with_at2 w4.sent 1 1 (w4.sent 1 1 + 1);
  server_of = with_at3 w4.server_of 1 1 (w4.sent 1 1 + 1) 0;
  posted = with_at2 w4.posted 1 (w4.peer 1 1) (w4.sent 1 1 + 1);
  involved = with_at w4.involved 1 true;
  way = with_at w4.way (w4.node 1) (held (w4.way (w4.node 1)));
  holder = with_at w4.holder (w4.node 1) (held_at (w4.way (w4.node 1)) 1 (w4.holder (w4.node 1)));
}

s5 : Step (Issue 1 1 0) w4 w5
s5 = grind (arith, nat_tests)

abbrev w6 : World
w6 = record w5 {
  received = with_at2 w5.received 2 1 (next w5 2 1);
  last = with_at2 w5.last 2 1 (next w5 2 1);
  arrived = with_at2 w5.arrived 2 (next_server w5 2 1) (w5.arrived 2 (next_server w5 2 1) + 1);
  engaged = with_at w5.engaged 2 true;
  superior = with_at w5.superior 2 (w5.node 1);
  engager = with_at w5.engager 2 1;
  engaging = with_at w5.engaging 2 (next w5 2 1);
  depth = with_at w5.depth 2 (w5.depth 1 + 1);
  received_at = with_at3 w5.received_at 1 (w5.node 2) (next w5 2 1) 2;
  arrival = with_at3 w5.arrival 1 (w5.node 2) (next w5 2 1) (w5.arrived 2 (next_server w5 2 1) + 1);
}

s6 : Step (Engage 2 1) w5 w6
s6 = grind (arith, nat_tests)

abbrev w7 : World
w7 = record w6 {
  sent = with_at2 w6.sent 2 2 (w6.sent 2 2 + 1);
  server_of = with_at3 w6.server_of 2 2 (w6.sent 2 2 + 1) 0;
  posted = with_at2 w6.posted 2 (w6.peer 2 2) (w6.sent 2 2 + 1);
  involved = with_at w6.involved 2 true;
  way = with_at w6.way (w6.node 2) (held (w6.way (w6.node 2)));
  holder = with_at w6.holder (w6.node 2) (held_at (w6.way (w6.node 2)) 2 (w6.holder (w6.node 2)));
}

s7 : Step (Issue 2 2 0) w6 w7
s7 = grind (arith, nat_tests)

abbrev w8 : World
w8 = record w7 {
  received = with_at2 w7.received 3 2 (next w7 3 2);
  last = with_at2 w7.last 3 2 (next w7 3 2);
  arrived = with_at2 w7.arrived 3 (next_server w7 3 2) (w7.arrived 3 (next_server w7 3 2) + 1);
  engaged = with_at w7.engaged 3 true;
  superior = with_at w7.superior 3 (w7.node 2);
  engager = with_at w7.engager 3 2;
  engaging = with_at w7.engaging 3 (next w7 3 2);
  depth = with_at w7.depth 3 (w7.depth 2 + 1);
  received_at = with_at3 w7.received_at 2 (w7.node 3) (next w7 3 2) 3;
  arrival = with_at3 w7.arrival 2 (w7.node 3) (next w7 3 2) (w7.arrived 3 (next_server w7 3 2) + 1);
}

s8 : Step (Engage 3 2) w7 w8
s8 = grind (arith, nat_tests)

abbrev w9 : World
w9 = record w8 { up = with_at w8.up 2 false }

s9 : Step (Crash 2) w8 w9
s9 = grind (arith, nat_tests)

abbrev w10 : World
w10 = record w9 {
  present = with_at w9.present (w9.node 6) 6;
  up = with_at w9.up 6 true;
  involved = with_at w9.involved 6 false;
}

s10 : Step (Restart 6) w9 w10
s10 = grind (arith, nat_tests)

abbrev w11 : World
w11 = record w10 {
  peer = with_at2 w10.peer 3 (w10.node 6) 6;
  posted = with_at2 w10.posted 3 6 (w10.sent 3 (w10.node 6));
  received = with_at2 w10.received 6 3 (w10.sent 3 (w10.node 6));
  inquiry_put = with_at2 w10.inquiry_put 3 6 (w10.inquiries 3);
  inquiry_taken = with_at2 w10.inquiry_taken 6 3 (w10.inquiries 3);
  gone = if w10.covered 3 (w10.node 6) == w10.sent 3 (w10.node 6) then w10.gone else with_at w10.gone 3 true;
}

s11 : Step (Notice 3 6) w10 w11
s11 = grind (arith, nat_tests)

abbrev w12 : World
w12 = record w11 {
  sent = with_at2 w11.sent 3 1 (w11.sent 3 1 + 1);
  server_of = with_at3 w11.server_of 3 1 (w11.sent 3 1 + 1) 0;
  posted = with_at2 w11.posted 3 (w11.peer 3 1) (w11.sent 3 1 + 1);
  involved = with_at w11.involved 3 true;
  way = with_at w11.way (w11.node 3) (held (w11.way (w11.node 3)));
  holder = with_at w11.holder (w11.node 3) (held_at (w11.way (w11.node 3)) 3 (w11.holder (w11.node 3)));
}

s12 : Step (Issue 3 1 0) w11 w12
s12 = grind (arith, nat_tests)

abbrev w13 : World
w13 = record w12 {
  peer = with_at2 w12.peer 6 (w12.node 3) 3;
  posted = with_at2 w12.posted 6 3 (w12.sent 6 (w12.node 3));
  inquiry_put = with_at2 w12.inquiry_put 6 3 (w12.inquiries 6);
}

s13 : Step (Meet 6 3) w12 w13
s13 = grind (arith, nat_tests)

abbrev w14 : World
w14 = record w13 {
  received = with_at2 w13.received 6 3 (next w13 6 3);
  last = with_at2 w13.last 6 3 (next w13 6 3);
  arrived = with_at2 w13.arrived 6 (next_server w13 6 3) (w13.arrived 6 (next_server w13 6 3) + 1);
  engaged = with_at w13.engaged 6 true;
  superior = with_at w13.superior 6 (w13.node 3);
  engager = with_at w13.engager 6 3;
  engaging = with_at w13.engaging 6 (next w13 6 3);
  depth = with_at w13.depth 6 (w13.depth 3 + 1);
  received_at = with_at3 w13.received_at 3 (w13.node 6) (next w13 6 3) 6;
  arrival = with_at3 w13.arrival 3 (w13.node 6) (next w13 6 3) (w13.arrived 6 (next_server w13 6 3) + 1);
}

s14 : Step (Engage 6 3) w13 w14
s14 = grind (arith, nat_tests)

abbrev w15 : World
w15 = record w14 {
  sent = with_at2 w14.sent 6 2 (w14.sent 6 2 + 1);
  server_of = with_at3 w14.server_of 6 2 (w14.sent 6 2 + 1) 0;
  posted = with_at2 w14.posted 6 (w14.peer 6 2) (w14.sent 6 2 + 1);
  involved = with_at w14.involved 6 true;
  way = with_at w14.way (w14.node 6) (held (w14.way (w14.node 6)));
  holder = with_at w14.holder (w14.node 6) (held_at (w14.way (w14.node 6)) 6 (w14.holder (w14.node 6)));
}

s15 : Step (Issue 6 2 0) w14 w15
s15 = grind (arith, nat_tests)

abbrev w16 : World
w16 = record w15 {
  received = with_at2 w15.received 3 6 (next w15 3 6);
  last = with_at2 w15.last 3 6 (next w15 3 6);
  arrived = with_at2 w15.arrived 3 (next_server w15 3 6) (w15.arrived 3 (next_server w15 3 6) + 1);
  received_at = with_at3 w15.received_at 6 (w15.node 3) (next w15 3 6) 3;
  arrival = with_at3 w15.arrival 6 (w15.node 3) (next w15 3 6) (w15.arrived 3 (next_server w15 3 6) + 1);
}

s16 : Step (Join 3 6) w15 w16
s16 = grind (arith, nat_tests)

pub seen : RingIsSeen
seen = record {
  ring = w16;
  leads = (w1, s1, (w2, s2, (w3, s3, (w4, s4, (w5, s5, (w6, s6, (w7, s7, (w8, s8, (w9, s9, (w10, s10, (w11, s11, (w12, s12, (w13, s13, (w14, s14, (w15, s15, (w16, s16, refl))))))))))))))));
  run = (refl, refl);
  owed = (record { engaged = refl; other = grind arith; superior = refl; taken = omega arith }, record { engaged = refl; other = grind arith; superior = refl; taken = omega arith });
  stopped = (refl, refl);
}
