-- The late join, step by step.
use Rattle.std.proofs.Common.{◌+◌, ◌==◌, max, true, false, refl, arith, if◌then◌else◌}
use Rattle.std.proofs.lemmas.Bool.Decides.{nat_tests}
use Rattle.qs_world_agree.specs.World.{Open, Committed, Flight, World, start, with_at, with_at2, with_at3}
use Rattle.qs_world_agree.specs.Guards.{next, next_server, carried, closed, held, held_at, passed, passed_to, landed}
use Rattle.qs_world_agree.specs.Step.{Answer_commit, Ask, Commit, Count, Cover, Crash, End, Engage, Inquire, Issue, Issue_local, Join, Learn, Lend, Meet, Notice, Restart_home, Restart_in_doubt, Serve, Serve_told, Take_told, Tell, Vote_recoverable, Vote_volatile, Yes, Yield, Step}
use Rattle.qs_world_agree.specs.Runs.{four_nodes, LateJoin}
use Rattle.qs_world_agree.proofs.Opens.{opens}

abbrev w0 : World
w0 = start four_nodes

abbrev w1 : World
w1 = record w0 {
  peer = with_at2 w0.peer 1 (w0.node 2) 2;
  posted = with_at2 w0.posted 1 2 (w0.sent 1 (w0.node 2));
  inquiry_put = with_at2 w0.inquiry_put 1 2 (w0.inquiries 1);
}

s1 : Step (Meet 1 2) w0 w1
s1 = grind (arith, nat_tests)

abbrev w2 : World
w2 = record w1 {
  peer = with_at2 w1.peer 2 (w1.node 1) 1;
  posted = with_at2 w1.posted 2 1 (w1.sent 2 (w1.node 1));
  inquiry_put = with_at2 w1.inquiry_put 2 1 (w1.inquiries 2);
}

s2 : Step (Meet 2 1) w1 w2
s2 = grind (arith, nat_tests)

abbrev w3 : World
w3 = record w2 {
  peer = with_at2 w2.peer 1 (w2.node 3) 3;
  posted = with_at2 w2.posted 1 3 (w2.sent 1 (w2.node 3));
  inquiry_put = with_at2 w2.inquiry_put 1 3 (w2.inquiries 1);
}

s3 : Step (Meet 1 3) w2 w3
s3 = grind (arith, nat_tests)

abbrev w4 : World
w4 = record w3 {
  peer = with_at2 w3.peer 3 (w3.node 1) 1;
  posted = with_at2 w3.posted 3 1 (w3.sent 3 (w3.node 1));
  inquiry_put = with_at2 w3.inquiry_put 3 1 (w3.inquiries 3);
}

s4 : Step (Meet 3 1) w3 w4
s4 = grind (arith, nat_tests)

abbrev w5 : World
w5 = record w4 {
  peer = with_at2 w4.peer 2 (w4.node 3) 3;
  posted = with_at2 w4.posted 2 3 (w4.sent 2 (w4.node 3));
  inquiry_put = with_at2 w4.inquiry_put 2 3 (w4.inquiries 2);
}

s5 : Step (Meet 2 3) w4 w5
s5 = grind (arith, nat_tests)

abbrev w6 : World
w6 = record w5 {
  peer = with_at2 w5.peer 3 (w5.node 2) 2;
  posted = with_at2 w5.posted 3 2 (w5.sent 3 (w5.node 2));
  inquiry_put = with_at2 w5.inquiry_put 3 2 (w5.inquiries 3);
}

s6 : Step (Meet 3 2) w5 w6
s6 = grind (arith, nat_tests)

abbrev w7 : World
w7 = record w6 { arrived = with_at2 w6.arrived 1 2 (w6.arrived 1 2 + 1) }

s7 : Step (Issue_local 1 2) w6 w7
s7 = grind (arith, nat_tests)

abbrev w8 : World
w8 = record w7 {
  served = with_at2 w7.served 1 2 (w7.served 1 2 + 1);
  involved = with_at w7.involved 1 true;
  way = with_at w7.way (w7.node 1) (held (w7.way (w7.node 1)));
  holder = with_at w7.holder (w7.node 1) (held_at (w7.way (w7.node 1)) 1 (w7.holder (w7.node 1)));
}

s8 : Step (Serve_told 1 2) w7 w8
s8 = grind (arith, nat_tests)

abbrev w9 : World
w9 = record w8 {
  sent = with_at2 w8.sent 1 1 (w8.sent 1 1 + 1);
  server_of = with_at3 w8.server_of 1 1 (w8.sent 1 1 + 1) 0;
  posted = with_at2 w8.posted 1 (w8.peer 1 1) (w8.sent 1 1 + 1);
  involved = with_at w8.involved 1 true;
  way = with_at w8.way (w8.node 1) (held (w8.way (w8.node 1)));
  holder = with_at w8.holder (w8.node 1) (held_at (w8.way (w8.node 1)) 1 (w8.holder (w8.node 1)));
}

s9 : Step (Issue 1 1 0) w8 w9
s9 = grind (arith, nat_tests)

abbrev w10 : World
w10 = record w9 {
  received = with_at2 w9.received 2 1 (next w9 2 1);
  last = with_at2 w9.last 2 1 (next w9 2 1);
  arrived = with_at2 w9.arrived 2 (next_server w9 2 1) (w9.arrived 2 (next_server w9 2 1) + 1);
  engaged = with_at w9.engaged 2 true;
  superior = with_at w9.superior 2 (w9.node 1);
  engager = with_at w9.engager 2 1;
  engaging = with_at w9.engaging 2 (next w9 2 1);
  depth = with_at w9.depth 2 (w9.depth 1 + 1);
  received_at = with_at3 w9.received_at 1 (w9.node 2) (next w9 2 1) 2;
  arrival = with_at3 w9.arrival 1 (w9.node 2) (next w9 2 1) (w9.arrived 2 (next_server w9 2 1) + 1);
}

s10 : Step (Engage 2 1) w9 w10
s10 = grind (arith, nat_tests)

abbrev w11 : World
w11 = record w10 { served = with_at2 w10.served 2 0 (w10.served 2 0 + 1) }

s11 : Step (Serve 2 0) w10 w11
s11 = grind (arith, nat_tests)

abbrev w12 : World
w12 = record w11 {
  sent = with_at2 w11.sent 1 1 (w11.sent 1 1 + 1);
  server_of = with_at3 w11.server_of 1 1 (w11.sent 1 1 + 1) 3;
  posted = with_at2 w11.posted 1 (w11.peer 1 1) (w11.sent 1 1 + 1);
  involved = with_at w11.involved 1 true;
  way = with_at w11.way (w11.node 1) (held (w11.way (w11.node 1)));
  holder = with_at w11.holder (w11.node 1) (held_at (w11.way (w11.node 1)) 1 (w11.holder (w11.node 1)));
}

s12 : Step (Issue 1 1 3) w11 w12
s12 = grind (arith, nat_tests)

abbrev w13 : World
w13 = record w12 {
  received = with_at2 w12.received 2 1 (next w12 2 1);
  last = with_at2 w12.last 2 1 (next w12 2 1);
  arrived = with_at2 w12.arrived 2 (next_server w12 2 1) (w12.arrived 2 (next_server w12 2 1) + 1);
  received_at = with_at3 w12.received_at 1 (w12.node 2) (next w12 2 1) 2;
  arrival = with_at3 w12.arrival 1 (w12.node 2) (next w12 2 1) (w12.arrived 2 (next_server w12 2 1) + 1);
}

s13 : Step (Join 2 1) w12 w13
s13 = grind (arith, nat_tests)

abbrev w14 : World
w14 = record w13 { served = with_at2 w13.served 2 3 (w13.served 2 3 + 1); loans = with_at w13.loans 2 (w13.loans 2 + 1) }

s14 : Step (Lend 2 3) w13 w14
s14 = grind (arith, nat_tests)

abbrev w15 : World
w15 = record w14 {
  sent = with_at2 w14.sent 2 2 (w14.sent 2 2 + 1);
  server_of = with_at3 w14.server_of 2 2 (w14.sent 2 2 + 1) 0;
  posted = with_at2 w14.posted 2 (w14.peer 2 2) (w14.sent 2 2 + 1);
  involved = with_at w14.involved 2 true;
  way = with_at w14.way (w14.node 2) (held (w14.way (w14.node 2)));
  holder = with_at w14.holder (w14.node 2) (held_at (w14.way (w14.node 2)) 2 (w14.holder (w14.node 2)));
}

s15 : Step (Issue 2 2 0) w14 w15
s15 = grind (arith, nat_tests)

abbrev w16 : World
w16 = record w15 {
  received = with_at2 w15.received 3 2 (next w15 3 2);
  last = with_at2 w15.last 3 2 (next w15 3 2);
  arrived = with_at2 w15.arrived 3 (next_server w15 3 2) (w15.arrived 3 (next_server w15 3 2) + 1);
  engaged = with_at w15.engaged 3 true;
  superior = with_at w15.superior 3 (w15.node 2);
  engager = with_at w15.engager 3 2;
  engaging = with_at w15.engaging 3 (next w15 3 2);
  depth = with_at w15.depth 3 (w15.depth 2 + 1);
  received_at = with_at3 w15.received_at 2 (w15.node 3) (next w15 3 2) 3;
  arrival = with_at3 w15.arrival 2 (w15.node 3) (next w15 3 2) (w15.arrived 3 (next_server w15 3 2) + 1);
}

s16 : Step (Engage 3 2) w15 w16
s16 = grind (arith, nat_tests)

abbrev w17 : World
w17 = record w16 { served = with_at2 w16.served 3 0 (w16.served 3 0 + 1) }

s17 : Step (Serve 3 0) w16 w17
s17 = grind (arith, nat_tests)

abbrev w18 : World
w18 = record w17 {
  sent = with_at2 w17.sent 1 2 (w17.sent 1 2 + 1);
  server_of = with_at3 w17.server_of 1 2 (w17.sent 1 2 + 1) 1;
  posted = with_at2 w17.posted 1 (w17.peer 1 2) (w17.sent 1 2 + 1);
  involved = with_at w17.involved 1 true;
  way = with_at w17.way (w17.node 1) (held (w17.way (w17.node 1)));
  holder = with_at w17.holder (w17.node 1) (held_at (w17.way (w17.node 1)) 1 (w17.holder (w17.node 1)));
}

s18 : Step (Issue 1 2 1) w17 w18
s18 = grind (arith, nat_tests)

abbrev w19 : World
w19 = record w18 {
  received = with_at2 w18.received 3 1 (next w18 3 1);
  last = with_at2 w18.last 3 1 (next w18 3 1);
  arrived = with_at2 w18.arrived 3 (next_server w18 3 1) (w18.arrived 3 (next_server w18 3 1) + 1);
  closers = with_at2 w18.closers 3 1 (w18.closers 3 1 + 1);
  closer = with_at3 w18.closer 3 1 (w18.closers 3 1 + 1) (next w18 3 1);
  received_at = with_at3 w18.received_at 1 (w18.node 3) (next w18 3 1) 3;
  arrival = with_at3 w18.arrival 1 (w18.node 3) (next w18 3 1) (w18.arrived 3 (next_server w18 3 1) + 1);
}

s19 : Step (Cover 3 1) w18 w19
s19 = grind (arith, nat_tests)

abbrev w20 : World
w20 = record w19 { served = with_at2 w19.served 3 1 (w19.served 3 1 + 1) }

s20 : Step (Serve 3 1) w19 w20
s20 = grind (arith, nat_tests)

abbrev w21 : World
w21 = record w20 {
  closers_taken = with_at2 w20.closers_taken 1 3 (w20.closers_taken 1 3 + 1);
  covered = with_at2 w20.covered 1 (w20.node 3) (max (w20.covered 1 (w20.node 3)) (w20.closer 3 1 (w20.closers_taken 1 3 + 1)));
  told_set = with_at w20.told_set 1 (λ n. if w20.told_set 1 n then true else w20.closer_set 3 1 (w20.closers_taken 1 3 + 1) n);
  way = λ n. if w20.holder n == 1 then (if w20.sender n == 3 then (if w20.index n == w20.closers_taken 1 3 + 1 then landed (w20.way n) else w20.way n) else w20.way n) else w20.way n;
}

s21 : Step (Count 1 3) w20 w21
s21 = grind (arith, nat_tests)

abbrev w22 : World
w22 = record w21 { asked = with_at w21.asked 3 true }

s22 : Step (Ask 3) w21 w22
s22 = grind (arith, nat_tests)

abbrev w23 : World
w23 = record w22 {
  voted = with_at2 w22.voted 3 0 (w22.served 3 0);
  involved = with_at w22.involved 3 true;
  prepared = with_at2 w22.prepared (w22.node 3) 0 true;
  way = with_at w22.way (w22.node 3) (held (w22.way (w22.node 3)));
  holder = with_at w22.holder (w22.node 3) (held_at (w22.way (w22.node 3)) 3 (w22.holder (w22.node 3)));
}

s23 : Step (Vote_recoverable 3 0) w22 w23
s23 = grind (arith, nat_tests)

abbrev w24 : World
w24 = record w23 {
  voted = with_at2 w23.voted 3 1 (w23.served 3 1);
  involved = with_at w23.involved 3 true;
  way = with_at w23.way (w23.node 3) (held (w23.way (w23.node 3)));
  holder = with_at w23.holder (w23.node 3) (held_at (w23.way (w23.node 3)) 3 (w23.holder (w23.node 3)));
}

s24 : Step (Vote_volatile 3 1) w23 w24
s24 = grind (arith, nat_tests)

abbrev w25 : World
w25 = record w24 {
  sent = with_at2 w24.sent 2 2 (w24.sent 2 2 + 1);
  server_of = with_at3 w24.server_of 2 2 (w24.sent 2 2 + 1) 0;
  posted = with_at2 w24.posted 2 (w24.peer 2 2) (w24.sent 2 2 + 1);
  involved = with_at w24.involved 2 true;
  way = with_at w24.way (w24.node 2) (held (w24.way (w24.node 2)));
  holder = with_at w24.holder (w24.node 2) (held_at (w24.way (w24.node 2)) 2 (w24.holder (w24.node 2)));
}

s25 : Step (Issue 2 2 0) w24 w25
s25 = grind (arith, nat_tests)

abbrev w26 : World
w26 = record w25 {
  received = with_at2 w25.received 3 2 (next w25 3 2);
  last = with_at2 w25.last 3 2 (next w25 3 2);
  arrived = with_at2 w25.arrived 3 (next_server w25 3 2) (w25.arrived 3 (next_server w25 3 2) + 1);
  received_at = with_at3 w25.received_at 2 (w25.node 3) (next w25 3 2) 3;
  arrival = with_at3 w25.arrival 2 (w25.node 3) (next w25 3 2) (w25.arrived 3 (next_server w25 3 2) + 1);
}

s26 : Step (Join 3 2) w25 w26
s26 = grind (arith, nat_tests)

abbrev w27 : World
w27 = record w26 { served = with_at2 w26.served 3 0 (w26.served 3 0 + 1) }

s27 : Step (Serve 3 0) w26 w27
s27 = grind (arith, nat_tests)

abbrev w28 : World
w28 = record w27 { loans = with_at w27.loans 2 0 }

s28 : Step (Yield 2) w27 w28
s28 = (grind (arith, nat_tests), grind (arith, nat_tests), (0, grind (arith, nat_tests), refl))

abbrev w29 : World
w29 = record w28 {
  voted = with_at2 w28.voted 3 0 (w28.served 3 0);
  involved = with_at w28.involved 3 true;
  prepared = with_at2 w28.prepared (w28.node 3) 0 true;
  way = with_at w28.way (w28.node 3) (held (w28.way (w28.node 3)));
  holder = with_at w28.holder (w28.node 3) (held_at (w28.way (w28.node 3)) 3 (w28.holder (w28.node 3)));
}

s29 : Step (Vote_recoverable 3 0) w28 w29
s29 = grind (arith, nat_tests)

abbrev w30 : World
w30 = record w29 {
  engaged = with_at w29.engaged 3 false;
  closers = with_at2 w29.closers 3 (w29.engager 3) (w29.closers 3 (w29.engager 3) + 1);
  closer = with_at3 w29.closer 3 (w29.engager 3) (w29.closers 3 (w29.engager 3) + 1) (w29.last 3 (w29.engager 3));
  closer_set = with_at3 w29.closer_set 3 (w29.engager 3) (w29.closers 3 (w29.engager 3) + 1) (carried w29 3);
  way = λ n. if w29.holder n == 3 then passed (w29.way n) Flight else w29.way n;
  holder = λ n. if w29.holder n == 3 then passed_to (w29.way n) (w29.engager 3) 3 else w29.holder n;
  sender = λ n. if w29.holder n == 3 then passed_to (w29.way n) 3 (w29.sender n) else w29.sender n;
  index = λ n. if w29.holder n == 3 then passed_to (w29.way n) (w29.closers 3 (w29.engager 3) + 1) (w29.index n) else w29.index n;
}

s30 : Step (Yes 3) w29 w30
s30 = grind (arith, nat_tests)

abbrev w31 : World
w31 = record w30 {
  closers_taken = with_at2 w30.closers_taken 2 3 (w30.closers_taken 2 3 + 1);
  covered = with_at2 w30.covered 2 (w30.node 3) (max (w30.covered 2 (w30.node 3)) (w30.closer 3 2 (w30.closers_taken 2 3 + 1)));
  told_set = with_at w30.told_set 2 (λ n. if w30.told_set 2 n then true else w30.closer_set 3 2 (w30.closers_taken 2 3 + 1) n);
  way = λ n. if w30.holder n == 2 then (if w30.sender n == 3 then (if w30.index n == w30.closers_taken 2 3 + 1 then landed (w30.way n) else w30.way n) else w30.way n) else w30.way n;
}

s31 : Step (Count 2 3) w30 w31
s31 = grind (arith, nat_tests)

abbrev w32 : World
w32 = record w31 { up = with_at w31.up 3 false }

s32 : Step (Crash 3) w31 w32
s32 = grind (arith, nat_tests)

abbrev w33 : World
w33 = record w32 {
  present = with_at w32.present (w32.node 7) 7;
  up = with_at w32.up 7 true;
  involved = with_at w32.involved 7 true;
}

s33 : Step (Restart_in_doubt 7 0) w32 w33
s33 = grind (arith, nat_tests)

abbrev w34 : World
w34 = record w33 { asked = with_at w33.asked 2 true }

s34 : Step (Ask 2) w33 w34
s34 = grind (arith, nat_tests)

abbrev w35 : World
w35 = record w34 {
  voted = with_at2 w34.voted 2 0 (w34.served 2 0);
  involved = with_at w34.involved 2 true;
  prepared = with_at2 w34.prepared (w34.node 2) 0 true;
  way = with_at w34.way (w34.node 2) (held (w34.way (w34.node 2)));
  holder = with_at w34.holder (w34.node 2) (held_at (w34.way (w34.node 2)) 2 (w34.holder (w34.node 2)));
}

s35 : Step (Vote_recoverable 2 0) w34 w35
s35 = grind (arith, nat_tests)

abbrev w36 : World
w36 = record w35 {
  engaged = with_at w35.engaged 2 false;
  closers = with_at2 w35.closers 2 (w35.engager 2) (w35.closers 2 (w35.engager 2) + 1);
  closer = with_at3 w35.closer 2 (w35.engager 2) (w35.closers 2 (w35.engager 2) + 1) (w35.last 2 (w35.engager 2));
  closer_set = with_at3 w35.closer_set 2 (w35.engager 2) (w35.closers 2 (w35.engager 2) + 1) (carried w35 2);
  way = λ n. if w35.holder n == 2 then passed (w35.way n) Flight else w35.way n;
  holder = λ n. if w35.holder n == 2 then passed_to (w35.way n) (w35.engager 2) 2 else w35.holder n;
  sender = λ n. if w35.holder n == 2 then passed_to (w35.way n) 2 (w35.sender n) else w35.sender n;
  index = λ n. if w35.holder n == 2 then passed_to (w35.way n) (w35.closers 2 (w35.engager 2) + 1) (w35.index n) else w35.index n;
}

s36 : Step (Yes 2) w35 w36
s36 = grind (arith, nat_tests)

abbrev w37 : World
w37 = record w36 {
  closers_taken = with_at2 w36.closers_taken 1 2 (w36.closers_taken 1 2 + 1);
  covered = with_at2 w36.covered 1 (w36.node 2) (max (w36.covered 1 (w36.node 2)) (w36.closer 2 1 (w36.closers_taken 1 2 + 1)));
  told_set = with_at w36.told_set 1 (λ n. if w36.told_set 1 n then true else w36.closer_set 2 1 (w36.closers_taken 1 2 + 1) n);
  way = λ n. if w36.holder n == 1 then (if w36.sender n == 2 then (if w36.index n == w36.closers_taken 1 2 + 1 then landed (w36.way n) else w36.way n) else w36.way n) else w36.way n;
}

s37 : Step (Count 1 2) w36 w37
s37 = grind (arith, nat_tests)

abbrev w38 : World
w38 = record w37 { asked = with_at w37.asked 1 true }

s38 : Step (Ask 1) w37 w38
s38 = grind (arith, nat_tests)

abbrev w39 : World
w39 = record w38 {
  engaged = with_at w38.engaged w38.home false;
  outcome = with_at w38.outcome w38.home Committed;
  prepared = with_at w38.prepared (w38.node w38.home) (λ s. false);
  commit_logged = true;
  unended = true;
  commit_list = w38.told_set w38.home;
  cell = Committed;
  learnt_commit = with_at w38.learnt_commit (w38.node w38.home) true;
}

s39 : Step Commit w38 w39
s39 = grind (arith, nat_tests)

abbrev w40 : World
w40 = record w39 {
  peer = with_at2 w39.peer 1 (w39.node 7) 7;
  posted = with_at2 w39.posted 1 7 (w39.sent 1 (w39.node 7));
  received = with_at2 w39.received 7 1 (w39.sent 1 (w39.node 7));
  inquiry_put = with_at2 w39.inquiry_put 1 7 (w39.inquiries 1);
  inquiry_taken = with_at2 w39.inquiry_taken 7 1 (w39.inquiries 1);
  gone = if w39.covered 1 (w39.node 7) == w39.sent 1 (w39.node 7) then w39.gone else with_at w39.gone 1 true;
}

s40 : Step (Notice 1 7) w39 w40
s40 = grind (arith, nat_tests)

abbrev w41 : World
w41 = record w40 {
  peer = with_at2 w40.peer 7 (w40.node 1) 1;
  posted = with_at2 w40.posted 7 1 (w40.sent 7 (w40.node 1));
  inquiry_put = with_at2 w40.inquiry_put 7 1 (w40.inquiries 7);
}

s41 : Step (Meet 7 1) w40 w41
s41 = grind (arith, nat_tests)

abbrev w42 : World
w42 = record w41 {
  inquiries = with_at w41.inquiries 7 (w41.inquiries 7 + 1);
  inquiry_put = if w41.peer 7 (w41.node w41.home) == 0 then w41.inquiry_put else with_at2 w41.inquiry_put 7 (w41.peer 7 (w41.node w41.home)) (w41.inquiries 7 + 1);
}

s42 : Step (Inquire 7) w41 w42
s42 = grind (arith, nat_tests)

abbrev w43 : World
w43 = record w42 { tell_commit = with_at w42.tell_commit (w42.node 7) true; inquiry_taken = with_at2 w42.inquiry_taken 1 7 (w42.inquiry_taken 1 7 + 1) }

s43 : Step (Answer_commit 1 7) w42 w43
s43 = grind (arith, nat_tests)

abbrev w44 : World
w44 = record w43 {
  outcome = with_at w43.outcome 7 Committed;
  prepared = with_at w43.prepared (w43.node 7) (λ s. false);
  ack_put = with_at w43.ack_put 7 true;
  learnt_commit = with_at w43.learnt_commit (w43.node 7) true;
}

s44 : Step (Learn 7) w43 w44
s44 = grind (arith, nat_tests)

abbrev w45 : World
w45 = record w44 { tell_commit = with_at w44.tell_commit 1 true }

s45 : Step (Tell 1 1) w44 w45
s45 = grind (arith, nat_tests)

abbrev w46 : World
w46 = record w45 {
  outcome = with_at w45.outcome 2 Committed;
  prepared = with_at w45.prepared (w45.node 2) (λ s. false);
  ack_put = with_at w45.ack_put 2 true;
  learnt_commit = with_at w45.learnt_commit (w45.node 2) true;
}

s46 : Step (Learn 2) w45 w46
s46 = grind (arith, nat_tests)

abbrev w47 : World
w47 = record w46 { acknowledged = with_at w46.acknowledged (w46.node 7) true }

s47 : Step (Take_told 1 7) w46 w47
s47 = grind (arith, nat_tests)

abbrev w48 : World
w48 = record w47 { acknowledged = with_at w47.acknowledged (w47.node 2) true }

s48 : Step (Take_told 1 2) w47 w48
s48 = grind (arith, nat_tests)

abbrev w49 : World
w49 = record w48 { unended = false }

s49 : Step (End 1) w48 w49
s49 = grind (arith, nat_tests)

abbrev w50 : World
w50 = record w49 { up = with_at w49.up 1 false }

s50 : Step (Crash 1) w49 w50
s50 = grind (arith, nat_tests)

abbrev w51 : World
w51 = record w50 {
  present = with_at w50.present (w50.node 5) 5;
  up = with_at w50.up 5 true;
  involved = with_at w50.involved 5 false;
  outcome = with_at w50.outcome 5 (if w50.commit_logged then Committed else Open);
  acknowledged = λ n. false;
  cell = closed w50.cell;
}

s51 : Step (Restart_home 5) w50 w51
s51 = grind (arith, nat_tests)

pub shown : LateJoin
shown = record { opens = opens; new = w51; run = (w1, s1, (w2, s2, (w3, s3, (w4, s4, (w5, s5, (w6, s6, (w7, s7, (w8, s8, (w9, s9, (w10, s10, (w11, s11, (w12, s12, (w13, s13, (w14, s14, (w15, s15, (w16, s16, (w17, s17, (w18, s18, (w19, s19, (w20, s20, (w21, s21, (w22, s22, (w23, s23, (w24, s24, (w25, s25, (w26, s26, (w27, s27, (w28, s28, (w29, s29, (w30, s30, (w31, s31, (w32, s32, (w33, s33, (w34, s34, (w35, s35, (w36, s36, (w37, s37, (w38, s38, (w39, s39, (w40, s40, (w41, s41, (w42, s42, (w43, s43, (w44, s44, (w45, s45, (w46, s46, (w47, s47, (w48, s48, (w49, s49, (w50, s50, (w51, s51, refl))))))))))))))))))))))))))))))))))))))))))))))))))); cell = refl; learnt = (refl, refl, refl); listed = (refl, refl, refl); prepared = (refl, refl); ended = refl; known = refl }
