-- The abort that travels a chain, step by step.
use Rattle.std.proofs.Common.{◌+◌, ◌==◌, max, true, false, refl, arith, if◌then◌else◌}
use Rattle.std.proofs.lemmas.Bool.Decides.{nat_tests}
use Rattle.qs_world_agree.specs.World.{Open, Committed, Aborted, Flight, World, start, with_at, with_at2, with_at3}
use Rattle.qs_world_agree.specs.Guards.{next, next_server, carried, drawn, names, closed, held, held_at, passed, passed_to, landed}
use Rattle.qs_world_agree.specs.Step.{Abort, Abort_logged, Answer_abort, Ask, Count, Crash, Drop_engage, Engage, Inquire_lost, Issue, Learn_abort, Meet, Name_again, Notice, Restart, Restart_home, Serve, Take_names, Tell_abort, Vote_recoverable, Yes, Step}
use Rattle.qs_world_agree.specs.Runs.{four_nodes, AbortChain}
use Rattle.qs_world_agree.proofs.Opens.{opens}

abbrev w0 : World
w0 = start four_nodes

abbrev w1 : World
w1 = record w0 {
  peer = with_at2 w0.peer 1 (w0.node 2) 2;
  posted = with_at2 w0.posted 1 2 (w0.sent 1 (w0.node 2));
  inquiry_put = with_at2 w0.inquiry_put 1 2 (w0.inquiries 1);
}

s1 : Step (Meet 1 2) w0 w1
s1 = grind (arith, nat_tests)

abbrev w2 : World
w2 = record w1 {
  peer = with_at2 w1.peer 2 (w1.node 1) 1;
  posted = with_at2 w1.posted 2 1 (w1.sent 2 (w1.node 1));
  inquiry_put = with_at2 w1.inquiry_put 2 1 (w1.inquiries 2);
}

s2 : Step (Meet 2 1) w1 w2
s2 = grind (arith, nat_tests)

abbrev w3 : World
w3 = record w2 {
  peer = with_at2 w2.peer 2 (w2.node 3) 3;
  posted = with_at2 w2.posted 2 3 (w2.sent 2 (w2.node 3));
  inquiry_put = with_at2 w2.inquiry_put 2 3 (w2.inquiries 2);
}

s3 : Step (Meet 2 3) w2 w3
s3 = grind (arith, nat_tests)

abbrev w4 : World
w4 = record w3 {
  peer = with_at2 w3.peer 3 (w3.node 2) 2;
  posted = with_at2 w3.posted 3 2 (w3.sent 3 (w3.node 2));
  inquiry_put = with_at2 w3.inquiry_put 3 2 (w3.inquiries 3);
}

s4 : Step (Meet 3 2) w3 w4
s4 = grind (arith, nat_tests)

abbrev w5 : World
w5 = record w4 {
  peer = with_at2 w4.peer 3 (w4.node 4) 4;
  posted = with_at2 w4.posted 3 4 (w4.sent 3 (w4.node 4));
  inquiry_put = with_at2 w4.inquiry_put 3 4 (w4.inquiries 3);
}

s5 : Step (Meet 3 4) w4 w5
s5 = grind (arith, nat_tests)

abbrev w6 : World
w6 = record w5 {
  peer = with_at2 w5.peer 4 (w5.node 3) 3;
  posted = with_at2 w5.posted 4 3 (w5.sent 4 (w5.node 3));
  inquiry_put = with_at2 w5.inquiry_put 4 3 (w5.inquiries 4);
}

s6 : Step (Meet 4 3) w5 w6
s6 = grind (arith, nat_tests)

abbrev w7 : World
w7 = record w6 {
  peer = with_at2 w6.peer 3 (w6.node 1) 1;
  posted = with_at2 w6.posted 3 1 (w6.sent 3 (w6.node 1));
  inquiry_put = with_at2 w6.inquiry_put 3 1 (w6.inquiries 3);
}

s7 : Step (Meet 3 1) w6 w7
s7 = grind (arith, nat_tests)

abbrev w8 : World
w8 = record w7 {
  peer = with_at2 w7.peer 1 (w7.node 3) 3;
  posted = with_at2 w7.posted 1 3 (w7.sent 1 (w7.node 3));
  inquiry_put = with_at2 w7.inquiry_put 1 3 (w7.inquiries 1);
}

s8 : Step (Meet 1 3) w7 w8
s8 = grind (arith, nat_tests)

abbrev w9 : World
w9 = record w8 {
  sent = with_at2 w8.sent 1 1 (w8.sent 1 1 + 1);
  server_of = with_at3 w8.server_of 1 1 (w8.sent 1 1 + 1) 0;
  posted = with_at2 w8.posted 1 (w8.peer 1 1) (w8.sent 1 1 + 1);
  involved = with_at w8.involved 1 true;
  way = with_at w8.way (w8.node 1) (held (w8.way (w8.node 1)));
  holder = with_at w8.holder (w8.node 1) (held_at (w8.way (w8.node 1)) 1 (w8.holder (w8.node 1)));
}

s9 : Step (Issue 1 1 0) w8 w9
s9 = grind (arith, nat_tests)

abbrev w10 : World
w10 = record w9 {
  received = with_at2 w9.received 2 1 (next w9 2 1);
  last = with_at2 w9.last 2 1 (next w9 2 1);
  arrived = with_at2 w9.arrived 2 (next_server w9 2 1) (w9.arrived 2 (next_server w9 2 1) + 1);
  engaged = with_at w9.engaged 2 true;
  superior = with_at w9.superior 2 (w9.node 1);
  engager = with_at w9.engager 2 1;
  engaging = with_at w9.engaging 2 (next w9 2 1);
  depth = with_at w9.depth 2 (w9.depth 1 + 1);
  received_at = with_at3 w9.received_at 1 (w9.node 2) (next w9 2 1) 2;
  arrival = with_at3 w9.arrival 1 (w9.node 2) (next w9 2 1) (w9.arrived 2 (next_server w9 2 1) + 1);
}

s10 : Step (Engage 2 1) w9 w10
s10 = grind (arith, nat_tests)

abbrev w11 : World
w11 = record w10 {
  sent = with_at2 w10.sent 2 2 (w10.sent 2 2 + 1);
  server_of = with_at3 w10.server_of 2 2 (w10.sent 2 2 + 1) 0;
  posted = with_at2 w10.posted 2 (w10.peer 2 2) (w10.sent 2 2 + 1);
  involved = with_at w10.involved 2 true;
  way = with_at w10.way (w10.node 2) (held (w10.way (w10.node 2)));
  holder = with_at w10.holder (w10.node 2) (held_at (w10.way (w10.node 2)) 2 (w10.holder (w10.node 2)));
}

s11 : Step (Issue 2 2 0) w10 w11
s11 = grind (arith, nat_tests)

abbrev w12 : World
w12 = record w11 {
  received = with_at2 w11.received 3 2 (next w11 3 2);
  last = with_at2 w11.last 3 2 (next w11 3 2);
  arrived = with_at2 w11.arrived 3 (next_server w11 3 2) (w11.arrived 3 (next_server w11 3 2) + 1);
  engaged = with_at w11.engaged 3 true;
  superior = with_at w11.superior 3 (w11.node 2);
  engager = with_at w11.engager 3 2;
  engaging = with_at w11.engaging 3 (next w11 3 2);
  depth = with_at w11.depth 3 (w11.depth 2 + 1);
  received_at = with_at3 w11.received_at 2 (w11.node 3) (next w11 3 2) 3;
  arrival = with_at3 w11.arrival 2 (w11.node 3) (next w11 3 2) (w11.arrived 3 (next_server w11 3 2) + 1);
}

s12 : Step (Engage 3 2) w11 w12
s12 = grind (arith, nat_tests)

abbrev w13 : World
w13 = record w12 {
  sent = with_at2 w12.sent 3 3 (w12.sent 3 3 + 1);
  server_of = with_at3 w12.server_of 3 3 (w12.sent 3 3 + 1) 0;
  posted = with_at2 w12.posted 3 (w12.peer 3 3) (w12.sent 3 3 + 1);
  involved = with_at w12.involved 3 true;
  way = with_at w12.way (w12.node 3) (held (w12.way (w12.node 3)));
  holder = with_at w12.holder (w12.node 3) (held_at (w12.way (w12.node 3)) 3 (w12.holder (w12.node 3)));
}

s13 : Step (Issue 3 3 0) w12 w13
s13 = grind (arith, nat_tests)

abbrev w14 : World
w14 = record w13 {
  received = with_at2 w13.received 4 3 (next w13 4 3);
  last = with_at2 w13.last 4 3 (next w13 4 3);
  arrived = with_at2 w13.arrived 4 (next_server w13 4 3) (w13.arrived 4 (next_server w13 4 3) + 1);
  engaged = with_at w13.engaged 4 true;
  superior = with_at w13.superior 4 (w13.node 3);
  engager = with_at w13.engager 4 3;
  engaging = with_at w13.engaging 4 (next w13 4 3);
  depth = with_at w13.depth 4 (w13.depth 3 + 1);
  received_at = with_at3 w13.received_at 3 (w13.node 4) (next w13 4 3) 4;
  arrival = with_at3 w13.arrival 3 (w13.node 4) (next w13 4 3) (w13.arrived 4 (next_server w13 4 3) + 1);
}

s14 : Step (Engage 4 3) w13 w14
s14 = grind (arith, nat_tests)

abbrev w15 : World
w15 = record w14 { served = with_at2 w14.served 4 0 (w14.served 4 0 + 1) }

s15 : Step (Serve 4 0) w14 w15
s15 = grind (arith, nat_tests)

abbrev w16 : World
w16 = record w15 { asked = with_at w15.asked 4 true }

s16 : Step (Ask 4) w15 w16
s16 = grind (arith, nat_tests)

abbrev w17 : World
w17 = record w16 {
  voted = with_at2 w16.voted 4 0 (w16.served 4 0);
  involved = with_at w16.involved 4 true;
  prepared = with_at2 w16.prepared (w16.node 4) 0 true;
  way = with_at w16.way (w16.node 4) (held (w16.way (w16.node 4)));
  holder = with_at w16.holder (w16.node 4) (held_at (w16.way (w16.node 4)) 4 (w16.holder (w16.node 4)));
}

s17 : Step (Vote_recoverable 4 0) w16 w17
s17 = grind (arith, nat_tests)

abbrev w18 : World
w18 = record w17 {
  engaged = with_at w17.engaged 4 false;
  closers = with_at2 w17.closers 4 (w17.engager 4) (w17.closers 4 (w17.engager 4) + 1);
  closer = with_at3 w17.closer 4 (w17.engager 4) (w17.closers 4 (w17.engager 4) + 1) (w17.last 4 (w17.engager 4));
  closer_set = with_at3 w17.closer_set 4 (w17.engager 4) (w17.closers 4 (w17.engager 4) + 1) (carried w17 4);
  way = λ n. if w17.holder n == 4 then passed (w17.way n) Flight else w17.way n;
  holder = λ n. if w17.holder n == 4 then passed_to (w17.way n) (w17.engager 4) 4 else w17.holder n;
  sender = λ n. if w17.holder n == 4 then passed_to (w17.way n) 4 (w17.sender n) else w17.sender n;
  index = λ n. if w17.holder n == 4 then passed_to (w17.way n) (w17.closers 4 (w17.engager 4) + 1) (w17.index n) else w17.index n;
}

s18 : Step (Yes 4) w17 w18
s18 = grind (arith, nat_tests)

abbrev w19 : World
w19 = record w18 {
  closers_taken = with_at2 w18.closers_taken 3 4 (w18.closers_taken 3 4 + 1);
  covered = with_at2 w18.covered 3 (w18.node 4) (max (w18.covered 3 (w18.node 4)) (w18.closer 4 3 (w18.closers_taken 3 4 + 1)));
  told_set = with_at w18.told_set 3 (λ n. if w18.told_set 3 n then true else w18.closer_set 4 3 (w18.closers_taken 3 4 + 1) n);
  way = λ n. if w18.holder n == 3 then (if w18.sender n == 4 then (if w18.index n == w18.closers_taken 3 4 + 1 then landed (w18.way n) else w18.way n) else w18.way n) else w18.way n;
}

s19 : Step (Count 3 4) w18 w19
s19 = grind (arith, nat_tests)

abbrev w20 : World
w20 = record w19 {
  sent = with_at2 w19.sent 3 3 (w19.sent 3 3 + 1);
  server_of = with_at3 w19.server_of 3 3 (w19.sent 3 3 + 1) 0;
  posted = with_at2 w19.posted 3 (w19.peer 3 3) (w19.sent 3 3 + 1);
  involved = with_at w19.involved 3 true;
  way = with_at w19.way (w19.node 3) (held (w19.way (w19.node 3)));
  holder = with_at w19.holder (w19.node 3) (held_at (w19.way (w19.node 3)) 3 (w19.holder (w19.node 3)));
}

s20 : Step (Issue 3 3 0) w19 w20
s20 = grind (arith, nat_tests)

abbrev w21 : World
w21 = record w20 { up = with_at w20.up 2 false }

s21 : Step (Crash 2) w20 w21
s21 = grind (arith, nat_tests)

abbrev w22 : World
w22 = record w21 {
  present = with_at w21.present (w21.node 6) 6;
  up = with_at w21.up 6 true;
  involved = with_at w21.involved 6 false;
}

s22 : Step (Restart 6) w21 w22
s22 = grind (arith, nat_tests)

abbrev w23 : World
w23 = record w22 {
  peer = with_at2 w22.peer 1 (w22.node 6) 6;
  posted = with_at2 w22.posted 1 6 (w22.sent 1 (w22.node 6));
  received = with_at2 w22.received 6 1 (w22.sent 1 (w22.node 6));
  inquiry_put = with_at2 w22.inquiry_put 1 6 (w22.inquiries 1);
  inquiry_taken = with_at2 w22.inquiry_taken 6 1 (w22.inquiries 1);
  gone = if w22.covered 1 (w22.node 6) == w22.sent 1 (w22.node 6) then w22.gone else with_at w22.gone 1 true;
}

s23 : Step (Notice 1 6) w22 w23
s23 = grind (arith, nat_tests)

abbrev w24 : World
w24 = record w23 {
  engaged = with_at w23.engaged w23.home false;
  outcome = with_at w23.outcome w23.home Aborted;
  to_tell = with_at w23.to_tell w23.home (drawn w23 w23.home);
  cell = Aborted;
  learnt_abort = with_at w23.learnt_abort (w23.node w23.home) true;
}

s24 : Step Abort w23 w24
s24 = grind (arith, nat_tests)

abbrev w25 : World
w25 = record w24 {
  peer = with_at2 w24.peer 3 (w24.node 6) 6;
  posted = with_at2 w24.posted 3 6 (w24.sent 3 (w24.node 6));
  received = with_at2 w24.received 6 3 (w24.sent 3 (w24.node 6));
  inquiry_put = with_at2 w24.inquiry_put 3 6 (w24.inquiries 3);
  inquiry_taken = with_at2 w24.inquiry_taken 6 3 (w24.inquiries 3);
  gone = if w24.covered 3 (w24.node 6) == w24.sent 3 (w24.node 6) then w24.gone else with_at w24.gone 3 true;
}

s25 : Step (Notice 3 6) w24 w25
s25 = grind (arith, nat_tests)

abbrev w26 : World
w26 = record w25 {
  inquiries = with_at w25.inquiries 3 (w25.inquiries 3 + 1);
  inquiry_put = if w25.peer 3 (w25.node w25.home) == 0 then w25.inquiry_put else with_at2 w25.inquiry_put 3 (w25.peer 3 (w25.node w25.home)) (w25.inquiries 3 + 1);
  orphaned = true;
  orphaned_by = w25.engager 3;
}

s26 : Step (Inquire_lost 3) w25 w26
s26 = grind (arith, nat_tests)

abbrev w27 : World
w27 = record w26 {
  outcome = with_at w26.outcome 1 Aborted;
  tell_abort = with_at w26.tell_abort (w26.node 3) true;
  to_tell = with_at2 w26.to_tell 1 (w26.node 3) true;
  inquiry_taken = with_at2 w26.inquiry_taken 1 3 (w26.inquiry_taken 1 3 + 1);
}

s27 : Step (Answer_abort 1 3) w26 w27
s27 = grind (arith, nat_tests)

abbrev w28 : World
w28 = record w27 {
  outcome = with_at w27.outcome 3 Aborted;
  named = with_at w27.named 3 (names w27 3);
  learnt_abort = with_at w27.learnt_abort (w27.node 3) true;
}

s28 : Step (Learn_abort 3) w27 w28
s28 = grind (arith, nat_tests)

abbrev w29 : World
w29 = record w28 { up = with_at w28.up 1 false }

s29 : Step (Crash 1) w28 w29
s29 = grind (arith, nat_tests)

abbrev w30 : World
w30 = record w29 {
  present = with_at w29.present (w29.node 5) 5;
  up = with_at w29.up 5 true;
  involved = with_at w29.involved 5 false;
  outcome = with_at w29.outcome 5 (if w29.commit_logged then Committed else Open);
  acknowledged = λ n. false;
  cell = closed w29.cell;
}

s30 : Step (Restart_home 5) w29 w30
s30 = grind (arith, nat_tests)

abbrev w31 : World
w31 = record w30 {
  peer = with_at2 w30.peer 3 (w30.node 5) 5;
  posted = with_at2 w30.posted 3 5 (w30.sent 3 (w30.node 5));
  received = with_at2 w30.received 5 3 (w30.sent 3 (w30.node 5));
  inquiry_put = with_at2 w30.inquiry_put 3 5 (w30.inquiries 3);
  inquiry_taken = with_at2 w30.inquiry_taken 5 3 (w30.inquiries 3);
  gone = if w30.covered 3 (w30.node 5) == w30.sent 3 (w30.node 5) then w30.gone else with_at w30.gone 3 true;
}

s31 : Step (Notice 3 5) w30 w31
s31 = grind (arith, nat_tests)

abbrev w32 : World
w32 = record w31 { named = with_at w31.named 3 (λ n. if w31.named 3 n then true else names w31 3 n) }

s32 : Step (Name_again 3) w31 w32
s32 = grind (arith, nat_tests)

abbrev w33 : World
w33 = record w32 {
  outcome = with_at w32.outcome 5 Aborted;
  to_tell = with_at2 w32.to_tell 5 3 true;
}

s33 : Step (Take_names 5 3 3) w32 w33
s33 = grind (arith, nat_tests)

abbrev w34 : World
w34 = record w33 { tell_abort = with_at w33.tell_abort 3 true }

s34 : Step (Tell_abort 5 3) w33 w34
s34 = grind (arith, nat_tests)

abbrev w35 : World
w35 = record w34 {
  peer = with_at2 w34.peer 4 (w34.node 5) 5;
  posted = with_at2 w34.posted 4 5 (w34.sent 4 (w34.node 5));
  inquiry_put = with_at2 w34.inquiry_put 4 5 (w34.inquiries 4);
}

s35 : Step (Meet 4 5) w34 w35
s35 = grind (arith, nat_tests)

abbrev w36 : World
w36 = record w35 {
  outcome = with_at w35.outcome 4 Aborted;
  named = with_at w35.named 4 (names w35 4);
  learnt_abort = with_at w35.learnt_abort (w35.node 4) true;
}

s36 : Step (Learn_abort 4) w35 w36
s36 = grind (arith, nat_tests)

abbrev w37 : World
w37 = record w36 { prepared = with_at w36.prepared (w36.node 4) (λ s. false) }

s37 : Step (Abort_logged 4) w36 w37
s37 = grind (arith, nat_tests)

abbrev w38 : World
w38 = record w37 {
  received = with_at2 w37.received 4 3 (next w37 4 3);
  last = with_at2 w37.last 4 3 (next w37 4 3);
  engaged = with_at w37.engaged 4 true;
  superior = with_at w37.superior 4 (w37.node 3);
  engager = with_at w37.engager 4 3;
}

s38 : Step (Drop_engage 4 3) w37 w38
s38 = grind (arith, nat_tests)

pub shown : AbortChain
shown = record { opens = opens; new = w38; run = (w1, s1, (w2, s2, (w3, s3, (w4, s4, (w5, s5, (w6, s6, (w7, s7, (w8, s8, (w9, s9, (w10, s10, (w11, s11, (w12, s12, (w13, s13, (w14, s14, (w15, s15, (w16, s16, (w17, s17, (w18, s18, (w19, s19, (w20, s20, (w21, s21, (w22, s22, (w23, s23, (w24, s24, (w25, s25, (w26, s26, (w27, s27, (w28, s28, (w29, s29, (w30, s30, (w31, s31, (w32, s32, (w33, s33, (w34, s34, (w35, s35, (w36, s36, (w37, s37, (w38, s38, refl)))))))))))))))))))))))))))))))))))))); cell = refl; learnt = (refl, refl); known = (refl, refl, refl); prepared = refl; dropped = (refl, refl, refl) }
