-- An abort that is told down a chain, step by step, up to a world in which nothing of it is left to tell.
use Rattle.std.proofs.Common.{inr, ◌+◌, true, false, refl, arith}
use Rattle.std.proofs.lemmas.Bool.Decides.{nat_tests}
use Rattle.qs_world_agree.specs.World.{Aborted, World, start, with_at, with_at2, with_at3}
use Rattle.qs_world_agree.specs.Guards.{next, next_server, drawn, names, held, held_at}
use Rattle.qs_world_agree.specs.Step.{Abort, Engage, Issue, Learn_abort, Meet, Take_names, Tell_abort, Step}
use Rattle.qs_world_agree.specs.Runs.{four_nodes}
use Rattle.qs_world_agree_ends.specs.Seen.{AbortIsSeen}

abbrev w0 : World
w0 = start four_nodes

abbrev w1 : World
w1 = record w0 {
  peer = with_at2 w0.peer 1 (w0.node 2) 2;
  posted = with_at2 w0.posted 1 2 (w0.sent 1 (w0.node 2));
  inquiry_put = with_at2 w0.inquiry_put 1 2 (w0.inquiries 1);
}

s1 : Step (Meet 1 2) w0 w1
s1 = grind (arith, nat_tests)

abbrev w2 : World
w2 = record w1 {
  peer = with_at2 w1.peer 2 (w1.node 1) 1;
  posted = with_at2 w1.posted 2 1 (w1.sent 2 (w1.node 1));
  inquiry_put = with_at2 w1.inquiry_put 2 1 (w1.inquiries 2);
}

s2 : Step (Meet 2 1) w1 w2
s2 = grind (arith, nat_tests)

abbrev w3 : World
w3 = record w2 {
  peer = with_at2 w2.peer 2 (w2.node 3) 3;
  posted = with_at2 w2.posted 2 3 (w2.sent 2 (w2.node 3));
  inquiry_put = with_at2 w2.inquiry_put 2 3 (w2.inquiries 2);
}

s3 : Step (Meet 2 3) w2 w3
s3 = grind (arith, nat_tests)

abbrev w4 : World
w4 = record w3 {
  peer = with_at2 w3.peer 3 (w3.node 2) 2;
  posted = with_at2 w3.posted 3 2 (w3.sent 3 (w3.node 2));
  inquiry_put = with_at2 w3.inquiry_put 3 2 (w3.inquiries 3);
}

s4 : Step (Meet 3 2) w3 w4
s4 = grind (arith, nat_tests)

abbrev w5 : World
w5 = record w4 {
  peer = with_at2 w4.peer 3 (w4.node 1) 1;
  posted = with_at2 w4.posted 3 1 (w4.sent 3 (w4.node 1));
  inquiry_put = with_at2 w4.inquiry_put 3 1 (w4.inquiries 3);
}

s5 : Step (Meet 3 1) w4 w5
s5 = grind (arith, nat_tests)

abbrev w6 : World
w6 = record w5 {
  sent = with_at2 w5.sent 1 1 (w5.sent 1 1 + 1);
  server_of = with_at3 w5.server_of 1 1 (w5.sent 1 1 + 1) 0;
  posted = with_at2 w5.posted 1 (w5.peer 1 1) (w5.sent 1 1 + 1);
  involved = with_at w5.involved 1 true;
  way = with_at w5.way (w5.node 1) (held (w5.way (w5.node 1)));
  holder = with_at w5.holder (w5.node 1) (held_at (w5.way (w5.node 1)) 1 (w5.holder (w5.node 1)));
}

s6 : Step (Issue 1 1 0) w5 w6
s6 = grind (arith, nat_tests)

abbrev w7 : World
w7 = record w6 {
  received = with_at2 w6.received 2 1 (next w6 2 1);
  last = with_at2 w6.last 2 1 (next w6 2 1);
  arrived = with_at2 w6.arrived 2 (next_server w6 2 1) (w6.arrived 2 (next_server w6 2 1) + 1);
  engaged = with_at w6.engaged 2 true;
  superior = with_at w6.superior 2 (w6.node 1);
  engager = with_at w6.engager 2 1;
  engaging = with_at w6.engaging 2 (next w6 2 1);
  depth = with_at w6.depth 2 (w6.depth 1 + 1);
  received_at = with_at3 w6.received_at 1 (w6.node 2) (next w6 2 1) 2;
  arrival = with_at3 w6.arrival 1 (w6.node 2) (next w6 2 1) (w6.arrived 2 (next_server w6 2 1) + 1);
}

s7 : Step (Engage 2 1) w6 w7
s7 = grind (arith, nat_tests)

abbrev w8 : World
w8 = record w7 {
  sent = with_at2 w7.sent 2 2 (w7.sent 2 2 + 1);
  server_of = with_at3 w7.server_of 2 2 (w7.sent 2 2 + 1) 0;
  posted = with_at2 w7.posted 2 (w7.peer 2 2) (w7.sent 2 2 + 1);
  involved = with_at w7.involved 2 true;
  way = with_at w7.way (w7.node 2) (held (w7.way (w7.node 2)));
  holder = with_at w7.holder (w7.node 2) (held_at (w7.way (w7.node 2)) 2 (w7.holder (w7.node 2)));
}

s8 : Step (Issue 2 2 0) w7 w8
s8 = grind (arith, nat_tests)

abbrev w9 : World
w9 = record w8 {
  received = with_at2 w8.received 3 2 (next w8 3 2);
  last = with_at2 w8.last 3 2 (next w8 3 2);
  arrived = with_at2 w8.arrived 3 (next_server w8 3 2) (w8.arrived 3 (next_server w8 3 2) + 1);
  engaged = with_at w8.engaged 3 true;
  superior = with_at w8.superior 3 (w8.node 2);
  engager = with_at w8.engager 3 2;
  engaging = with_at w8.engaging 3 (next w8 3 2);
  depth = with_at w8.depth 3 (w8.depth 2 + 1);
  received_at = with_at3 w8.received_at 2 (w8.node 3) (next w8 3 2) 3;
  arrival = with_at3 w8.arrival 2 (w8.node 3) (next w8 3 2) (w8.arrived 3 (next_server w8 3 2) + 1);
}

s9 : Step (Engage 3 2) w8 w9
s9 = grind (arith, nat_tests)

abbrev w10 : World
w10 = record w9 {
  engaged = with_at w9.engaged w9.home false;
  outcome = with_at w9.outcome w9.home Aborted;
  to_tell = with_at w9.to_tell w9.home (drawn w9 w9.home);
  cell = Aborted;
  learnt_abort = with_at w9.learnt_abort (w9.node w9.home) true;
}

s10 : Step Abort w9 w10
s10 = grind (arith, nat_tests)

abbrev w11 : World
w11 = record w10 { tell_abort = with_at w10.tell_abort 1 true }

s11 : Step (Tell_abort 1 1) w10 w11
s11 = grind (arith, nat_tests)

abbrev w12 : World
w12 = record w11 {
  outcome = with_at w11.outcome 2 Aborted;
  named = with_at w11.named 2 (names w11 2);
  learnt_abort = with_at w11.learnt_abort (w11.node 2) true;
}

s12 : Step (Learn_abort 2) w11 w12
s12 = grind (arith, nat_tests)

abbrev w13 : World
w13 = record w12 {
  outcome = with_at w12.outcome 1 Aborted;
  to_tell = with_at2 w12.to_tell 1 2 true;
}

s13 : Step (Take_names 1 2 2) w12 w13
s13 = grind (arith, nat_tests)

abbrev w14 : World
w14 = record w13 { tell_abort = with_at w13.tell_abort 2 true }

s14 : Step (Tell_abort 1 2) w13 w14
s14 = grind (arith, nat_tests)

abbrev w15 : World
w15 = record w14 {
  outcome = with_at w14.outcome 3 Aborted;
  named = with_at w14.named 3 (names w14 3);
  learnt_abort = with_at w14.learnt_abort (w14.node 3) true;
}

s15 : Step (Learn_abort 3) w14 w15
s15 = grind (arith, nat_tests)

pub seen : AbortIsSeen
seen = record {
  decided = w10;
  decides = (w1, s1, (w2, s2, (w3, s3, (w4, s4, (w5, s5, (w6, s6, (w7, s7, (w8, s8, (w9, s9, (w10, s10, refl))))))))));
  awaits = (record { runs = refl; away = grind arith; unknown = refl; part = inr refl }, record { runs = refl; away = grind arith; unknown = refl; part = inr refl });
  told = w15;
  tells = (w11, s11, (w12, s12, (w13, s13, (w14, s14, (w15, s15, refl)))));
  none = record {
    listed = λ k awaits. grind (arith, nat_tests, awaits);
    risen = λ k awaits. grind (arith, nat_tests, awaits);
    stopped = λ k awaits. grind (arith, nat_tests, awaits);
    told = λ k awaits. grind (arith, nat_tests, awaits);
  };
  aborted = refl;
  known = (refl, refl, refl);
}
