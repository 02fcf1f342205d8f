-- The vote pass that is cut off, step by step.
use Rattle.std.proofs.Common.{◌+◌, ◌==◌, true, false, refl, arith, if◌then◌else◌}
use Rattle.std.proofs.lemmas.Bool.Decides.{nat_tests}
use Rattle.qs_world_agree.specs.World.{Aborted, World, start, with_at, with_at2, with_at3}
use Rattle.qs_world_agree.specs.Guards.{next, next_server, drawn, names, held, held_at}
use Rattle.qs_world_agree.specs.Step.{Abort, Abort_logged, Answer_abort, Ask, Crash, Engage, Force, Inquire, Issue, Join, Learn_abort, Meet, Notice, Restart_in_doubt, Serve, Step}
use Rattle.qs_world_agree.specs.Runs.{four_nodes, CutPass}
use Rattle.qs_world_agree.proofs.Opens.{opens}

abbrev w0 : World
w0 = start four_nodes

abbrev w1 : World
w1 = record w0 {
  peer = with_at2 w0.peer 1 (w0.node 2) 2;
  posted = with_at2 w0.posted 1 2 (w0.sent 1 (w0.node 2));
  inquiry_put = with_at2 w0.inquiry_put 1 2 (w0.inquiries 1);
}

s1 : Step (Meet 1 2) w0 w1
s1 = grind (arith, nat_tests)

abbrev w2 : World
w2 = record w1 {
  peer = with_at2 w1.peer 2 (w1.node 1) 1;
  posted = with_at2 w1.posted 2 1 (w1.sent 2 (w1.node 1));
  inquiry_put = with_at2 w1.inquiry_put 2 1 (w1.inquiries 2);
}

s2 : Step (Meet 2 1) w1 w2
s2 = grind (arith, nat_tests)

abbrev w3 : World
w3 = record w2 {
  sent = with_at2 w2.sent 1 1 (w2.sent 1 1 + 1);
  server_of = with_at3 w2.server_of 1 1 (w2.sent 1 1 + 1) 0;
  posted = with_at2 w2.posted 1 (w2.peer 1 1) (w2.sent 1 1 + 1);
  involved = with_at w2.involved 1 true;
  way = with_at w2.way (w2.node 1) (held (w2.way (w2.node 1)));
  holder = with_at w2.holder (w2.node 1) (held_at (w2.way (w2.node 1)) 1 (w2.holder (w2.node 1)));
}

s3 : Step (Issue 1 1 0) w2 w3
s3 = grind (arith, nat_tests)

abbrev w4 : World
w4 = record w3 {
  received = with_at2 w3.received 2 1 (next w3 2 1);
  last = with_at2 w3.last 2 1 (next w3 2 1);
  arrived = with_at2 w3.arrived 2 (next_server w3 2 1) (w3.arrived 2 (next_server w3 2 1) + 1);
  engaged = with_at w3.engaged 2 true;
  superior = with_at w3.superior 2 (w3.node 1);
  engager = with_at w3.engager 2 1;
  engaging = with_at w3.engaging 2 (next w3 2 1);
  depth = with_at w3.depth 2 (w3.depth 1 + 1);
  received_at = with_at3 w3.received_at 1 (w3.node 2) (next w3 2 1) 2;
  arrival = with_at3 w3.arrival 1 (w3.node 2) (next w3 2 1) (w3.arrived 2 (next_server w3 2 1) + 1);
}

s4 : Step (Engage 2 1) w3 w4
s4 = grind (arith, nat_tests)

abbrev w5 : World
w5 = record w4 {
  sent = with_at2 w4.sent 1 1 (w4.sent 1 1 + 1);
  server_of = with_at3 w4.server_of 1 1 (w4.sent 1 1 + 1) 1;
  posted = with_at2 w4.posted 1 (w4.peer 1 1) (w4.sent 1 1 + 1);
  involved = with_at w4.involved 1 true;
  way = with_at w4.way (w4.node 1) (held (w4.way (w4.node 1)));
  holder = with_at w4.holder (w4.node 1) (held_at (w4.way (w4.node 1)) 1 (w4.holder (w4.node 1)));
}

s5 : Step (Issue 1 1 1) w4 w5
s5 = grind (arith, nat_tests)

abbrev w6 : World
w6 = record w5 {
  received = with_at2 w5.received 2 1 (next w5 2 1);
  last = with_at2 w5.last 2 1 (next w5 2 1);
  arrived = with_at2 w5.arrived 2 (next_server w5 2 1) (w5.arrived 2 (next_server w5 2 1) + 1);
  received_at = with_at3 w5.received_at 1 (w5.node 2) (next w5 2 1) 2;
  arrival = with_at3 w5.arrival 1 (w5.node 2) (next w5 2 1) (w5.arrived 2 (next_server w5 2 1) + 1);
}

s6 : Step (Join 2 1) w5 w6
s6 = grind (arith, nat_tests)

abbrev w7 : World
w7 = record w6 { served = with_at2 w6.served 2 0 (w6.served 2 0 + 1) }

s7 : Step (Serve 2 0) w6 w7
s7 = grind (arith, nat_tests)

abbrev w8 : World
w8 = record w7 { served = with_at2 w7.served 2 1 (w7.served 2 1 + 1) }

s8 : Step (Serve 2 1) w7 w8
s8 = grind (arith, nat_tests)

abbrev w9 : World
w9 = record w8 { asked = with_at w8.asked 2 true }

s9 : Step (Ask 2) w8 w9
s9 = grind (arith, nat_tests)

abbrev w10 : World
w10 = record w9 {
  involved = with_at w9.involved 2 true;
  prepared = with_at2 w9.prepared (w9.node 2) 0 true;
  way = with_at w9.way (w9.node 2) (held (w9.way (w9.node 2)));
  holder = with_at w9.holder (w9.node 2) (held_at (w9.way (w9.node 2)) 2 (w9.holder (w9.node 2)));
}

s10 : Step (Force 2 0) w9 w10
s10 = grind (arith, nat_tests)

abbrev w11 : World
w11 = record w10 { up = with_at w10.up 2 false }

s11 : Step (Crash 2) w10 w11
s11 = grind (arith, nat_tests)

abbrev w12 : World
w12 = record w11 {
  present = with_at w11.present (w11.node 6) 6;
  up = with_at w11.up 6 true;
  involved = with_at w11.involved 6 true;
}

s12 : Step (Restart_in_doubt 6 0) w11 w12
s12 = grind (arith, nat_tests)

abbrev w13 : World
w13 = record w12 {
  peer = with_at2 w12.peer 1 (w12.node 6) 6;
  posted = with_at2 w12.posted 1 6 (w12.sent 1 (w12.node 6));
  received = with_at2 w12.received 6 1 (w12.sent 1 (w12.node 6));
  inquiry_put = with_at2 w12.inquiry_put 1 6 (w12.inquiries 1);
  inquiry_taken = with_at2 w12.inquiry_taken 6 1 (w12.inquiries 1);
  gone = if w12.covered 1 (w12.node 6) == w12.sent 1 (w12.node 6) then w12.gone else with_at w12.gone 1 true;
}

s13 : Step (Notice 1 6) w12 w13
s13 = grind (arith, nat_tests)

abbrev w14 : World
w14 = record w13 {
  peer = with_at2 w13.peer 6 (w13.node 1) 1;
  posted = with_at2 w13.posted 6 1 (w13.sent 6 (w13.node 1));
  inquiry_put = with_at2 w13.inquiry_put 6 1 (w13.inquiries 6);
}

s14 : Step (Meet 6 1) w13 w14
s14 = grind (arith, nat_tests)

abbrev w15 : World
w15 = record w14 {
  engaged = with_at w14.engaged w14.home false;
  outcome = with_at w14.outcome w14.home Aborted;
  to_tell = with_at w14.to_tell w14.home (drawn w14 w14.home);
  cell = Aborted;
  learnt_abort = with_at w14.learnt_abort (w14.node w14.home) true;
}

s15 : Step Abort w14 w15
s15 = grind (arith, nat_tests)

abbrev w16 : World
w16 = record w15 {
  inquiries = with_at w15.inquiries 6 (w15.inquiries 6 + 1);
  inquiry_put = if w15.peer 6 (w15.node w15.home) == 0 then w15.inquiry_put else with_at2 w15.inquiry_put 6 (w15.peer 6 (w15.node w15.home)) (w15.inquiries 6 + 1);
}

s16 : Step (Inquire 6) w15 w16
s16 = grind (arith, nat_tests)

abbrev w17 : World
w17 = record w16 {
  outcome = with_at w16.outcome 1 Aborted;
  tell_abort = with_at w16.tell_abort (w16.node 6) true;
  to_tell = with_at2 w16.to_tell 1 (w16.node 6) true;
  inquiry_taken = with_at2 w16.inquiry_taken 1 6 (w16.inquiry_taken 1 6 + 1);
}

s17 : Step (Answer_abort 1 6) w16 w17
s17 = grind (arith, nat_tests)

abbrev w18 : World
w18 = record w17 {
  outcome = with_at w17.outcome 6 Aborted;
  named = with_at w17.named 6 (names w17 6);
  learnt_abort = with_at w17.learnt_abort (w17.node 6) true;
}

s18 : Step (Learn_abort 6) w17 w18
s18 = grind (arith, nat_tests)

abbrev w19 : World
w19 = record w18 { prepared = with_at w18.prepared (w18.node 6) (λ s. false) }

s19 : Step (Abort_logged 6) w18 w19
s19 = grind (arith, nat_tests)

pub shown : CutPass
shown = record { opens = opens; new = w19; run = (w1, s1, (w2, s2, (w3, s3, (w4, s4, (w5, s5, (w6, s6, (w7, s7, (w8, s8, (w9, s9, (w10, s10, (w11, s11, (w12, s12, (w13, s13, (w14, s14, (w15, s15, (w16, s16, (w17, s17, (w18, s18, (w19, s19, refl))))))))))))))))))); cell = refl; learnt = refl; prepared = refl; votes = (refl, refl) }
