-- The chain that is drawn in after an abort was decided, step by step.
use Rattle.std.proofs.Common.{◌+◌, ◌==◌, max, true, false, refl, arith, if◌then◌else◌}
use Rattle.std.proofs.lemmas.Bool.Decides.{nat_tests}
use Rattle.qs_world_agree.specs.World.{Aborted, Flight, World, start, with_at, with_at2, with_at3}
use Rattle.qs_world_agree.specs.Guards.{next, next_server, carried, drawn, held, held_at, passed, passed_to, landed}
use Rattle.qs_world_agree.specs.Step.{Abort, Ask, Count, Engage, Ignore, Issue, Meet, Serve, Vote_recoverable, Yes, Step}
use Rattle.qs_world_agree.specs.Runs.{four_nodes}
use Rattle.qs_world_agree.proofs.Opens.{opens}
use Rattle.qs_world_agree_ends.specs.Seen.{ChainIsSeen}

abbrev w0 : World
w0 = start four_nodes

abbrev w1 : World
w1 = record w0 {
  peer = with_at2 w0.peer 1 (w0.node 2) 2;
  posted = with_at2 w0.posted 1 2 (w0.sent 1 (w0.node 2));
  inquiry_put = with_at2 w0.inquiry_put 1 2 (w0.inquiries 1);
}

s1 : Step (Meet 1 2) w0 w1
s1 = grind (arith, nat_tests)

abbrev w2 : World
w2 = record w1 {
  peer = with_at2 w1.peer 2 (w1.node 1) 1;
  posted = with_at2 w1.posted 2 1 (w1.sent 2 (w1.node 1));
  inquiry_put = with_at2 w1.inquiry_put 2 1 (w1.inquiries 2);
}

s2 : Step (Meet 2 1) w1 w2
s2 = grind (arith, nat_tests)

abbrev w3 : World
w3 = record w2 {
  peer = with_at2 w2.peer 2 (w2.node 3) 3;
  posted = with_at2 w2.posted 2 3 (w2.sent 2 (w2.node 3));
  inquiry_put = with_at2 w2.inquiry_put 2 3 (w2.inquiries 2);
}

s3 : Step (Meet 2 3) w2 w3
s3 = grind (arith, nat_tests)

abbrev w4 : World
w4 = record w3 {
  peer = with_at2 w3.peer 3 (w3.node 2) 2;
  posted = with_at2 w3.posted 3 2 (w3.sent 3 (w3.node 2));
  inquiry_put = with_at2 w3.inquiry_put 3 2 (w3.inquiries 3);
}

s4 : Step (Meet 3 2) w3 w4
s4 = grind (arith, nat_tests)

abbrev w5 : World
w5 = record w4 {
  sent = with_at2 w4.sent 1 1 (w4.sent 1 1 + 1);
  server_of = with_at3 w4.server_of 1 1 (w4.sent 1 1 + 1) 0;
  posted = with_at2 w4.posted 1 (w4.peer 1 1) (w4.sent 1 1 + 1);
  involved = with_at w4.involved 1 true;
  way = with_at w4.way (w4.node 1) (held (w4.way (w4.node 1)));
  holder = with_at w4.holder (w4.node 1) (held_at (w4.way (w4.node 1)) 1 (w4.holder (w4.node 1)));
}

s5 : Step (Issue 1 1 0) w4 w5
s5 = grind (arith, nat_tests)

abbrev w6 : World
w6 = record w5 {
  received = with_at2 w5.received 2 1 (next w5 2 1);
  last = with_at2 w5.last 2 1 (next w5 2 1);
  arrived = with_at2 w5.arrived 2 (next_server w5 2 1) (w5.arrived 2 (next_server w5 2 1) + 1);
  engaged = with_at w5.engaged 2 true;
  superior = with_at w5.superior 2 (w5.node 1);
  engager = with_at w5.engager 2 1;
  engaging = with_at w5.engaging 2 (next w5 2 1);
  depth = with_at w5.depth 2 (w5.depth 1 + 1);
  received_at = with_at3 w5.received_at 1 (w5.node 2) (next w5 2 1) 2;
  arrival = with_at3 w5.arrival 1 (w5.node 2) (next w5 2 1) (w5.arrived 2 (next_server w5 2 1) + 1);
}

s6 : Step (Engage 2 1) w5 w6
s6 = grind (arith, nat_tests)

abbrev w7 : World
w7 = record w6 {
  sent = with_at2 w6.sent 2 2 (w6.sent 2 2 + 1);
  server_of = with_at3 w6.server_of 2 2 (w6.sent 2 2 + 1) 0;
  posted = with_at2 w6.posted 2 (w6.peer 2 2) (w6.sent 2 2 + 1);
  involved = with_at w6.involved 2 true;
  way = with_at w6.way (w6.node 2) (held (w6.way (w6.node 2)));
  holder = with_at w6.holder (w6.node 2) (held_at (w6.way (w6.node 2)) 2 (w6.holder (w6.node 2)));
}

s7 : Step (Issue 2 2 0) w6 w7
s7 = grind (arith, nat_tests)

abbrev w8 : World
w8 = record w7 {
  engaged = with_at w7.engaged w7.home false;
  outcome = with_at w7.outcome w7.home Aborted;
  to_tell = with_at w7.to_tell w7.home (drawn w7 w7.home);
  cell = Aborted;
  learnt_abort = with_at w7.learnt_abort (w7.node w7.home) true;
}

s8 : Step Abort w7 w8
s8 = grind (arith, nat_tests)

abbrev w9 : World
w9 = record w8 {
  received = with_at2 w8.received 3 2 (next w8 3 2);
  last = with_at2 w8.last 3 2 (next w8 3 2);
  arrived = with_at2 w8.arrived 3 (next_server w8 3 2) (w8.arrived 3 (next_server w8 3 2) + 1);
  engaged = with_at w8.engaged 3 true;
  superior = with_at w8.superior 3 (w8.node 2);
  engager = with_at w8.engager 3 2;
  engaging = with_at w8.engaging 3 (next w8 3 2);
  depth = with_at w8.depth 3 (w8.depth 2 + 1);
  received_at = with_at3 w8.received_at 2 (w8.node 3) (next w8 3 2) 3;
  arrival = with_at3 w8.arrival 2 (w8.node 3) (next w8 3 2) (w8.arrived 3 (next_server w8 3 2) + 1);
}

s9 : Step (Engage 3 2) w8 w9
s9 = grind (arith, nat_tests)

abbrev w10 : World
w10 = record w9 { served = with_at2 w9.served 3 0 (w9.served 3 0 + 1) }

s10 : Step (Serve 3 0) w9 w10
s10 = grind (arith, nat_tests)

abbrev w11 : World
w11 = record w10 { asked = with_at w10.asked 3 true }

s11 : Step (Ask 3) w10 w11
s11 = grind (arith, nat_tests)

abbrev w12 : World
w12 = record w11 {
  voted = with_at2 w11.voted 3 0 (w11.served 3 0);
  involved = with_at w11.involved 3 true;
  prepared = with_at2 w11.prepared (w11.node 3) 0 true;
  way = with_at w11.way (w11.node 3) (held (w11.way (w11.node 3)));
  holder = with_at w11.holder (w11.node 3) (held_at (w11.way (w11.node 3)) 3 (w11.holder (w11.node 3)));
}

s12 : Step (Vote_recoverable 3 0) w11 w12
s12 = grind (arith, nat_tests)

abbrev w13 : World
w13 = record w12 {
  engaged = with_at w12.engaged 3 false;
  closers = with_at2 w12.closers 3 (w12.engager 3) (w12.closers 3 (w12.engager 3) + 1);
  closer = with_at3 w12.closer 3 (w12.engager 3) (w12.closers 3 (w12.engager 3) + 1) (w12.last 3 (w12.engager 3));
  closer_set = with_at3 w12.closer_set 3 (w12.engager 3) (w12.closers 3 (w12.engager 3) + 1) (carried w12 3);
  way = λ n. if w12.holder n == 3 then passed (w12.way n) Flight else w12.way n;
  holder = λ n. if w12.holder n == 3 then passed_to (w12.way n) (w12.engager 3) 3 else w12.holder n;
  sender = λ n. if w12.holder n == 3 then passed_to (w12.way n) 3 (w12.sender n) else w12.sender n;
  index = λ n. if w12.holder n == 3 then passed_to (w12.way n) (w12.closers 3 (w12.engager 3) + 1) (w12.index n) else w12.index n;
}

s13 : Step (Yes 3) w12 w13
s13 = grind (arith, nat_tests)

abbrev w14 : World
w14 = record w13 {
  closers_taken = with_at2 w13.closers_taken 2 3 (w13.closers_taken 2 3 + 1);
  covered = with_at2 w13.covered 2 (w13.node 3) (max (w13.covered 2 (w13.node 3)) (w13.closer 3 2 (w13.closers_taken 2 3 + 1)));
  told_set = with_at w13.told_set 2 (λ n. if w13.told_set 2 n then true else w13.closer_set 3 2 (w13.closers_taken 2 3 + 1) n);
  way = λ n. if w13.holder n == 2 then (if w13.sender n == 3 then (if w13.index n == w13.closers_taken 2 3 + 1 then landed (w13.way n) else w13.way n) else w13.way n) else w13.way n;
}

s14 : Step (Count 2 3) w13 w14
s14 = grind (arith, nat_tests)

abbrev w15 : World
w15 = record w14 { served = with_at2 w14.served 2 0 (w14.served 2 0 + 1) }

s15 : Step (Serve 2 0) w14 w15
s15 = grind (arith, nat_tests)

abbrev w16 : World
w16 = record w15 { asked = with_at w15.asked 2 true }

s16 : Step (Ask 2) w15 w16
s16 = grind (arith, nat_tests)

abbrev w17 : World
w17 = record w16 {
  voted = with_at2 w16.voted 2 0 (w16.served 2 0);
  involved = with_at w16.involved 2 true;
  prepared = with_at2 w16.prepared (w16.node 2) 0 true;
  way = with_at w16.way (w16.node 2) (held (w16.way (w16.node 2)));
  holder = with_at w16.holder (w16.node 2) (held_at (w16.way (w16.node 2)) 2 (w16.holder (w16.node 2)));
}

s17 : Step (Vote_recoverable 2 0) w16 w17
s17 = grind (arith, nat_tests)

abbrev w18 : World
w18 = record w17 {
  engaged = with_at w17.engaged 2 false;
  closers = with_at2 w17.closers 2 (w17.engager 2) (w17.closers 2 (w17.engager 2) + 1);
  closer = with_at3 w17.closer 2 (w17.engager 2) (w17.closers 2 (w17.engager 2) + 1) (w17.last 2 (w17.engager 2));
  closer_set = with_at3 w17.closer_set 2 (w17.engager 2) (w17.closers 2 (w17.engager 2) + 1) (carried w17 2);
  way = λ n. if w17.holder n == 2 then passed (w17.way n) Flight else w17.way n;
  holder = λ n. if w17.holder n == 2 then passed_to (w17.way n) (w17.engager 2) 2 else w17.holder n;
  sender = λ n. if w17.holder n == 2 then passed_to (w17.way n) 2 (w17.sender n) else w17.sender n;
  index = λ n. if w17.holder n == 2 then passed_to (w17.way n) (w17.closers 2 (w17.engager 2) + 1) (w17.index n) else w17.index n;
}

s18 : Step (Yes 2) w17 w18
s18 = grind (arith, nat_tests)

abbrev w19 : World
w19 = record w18 { closers_taken = with_at2 w18.closers_taken 1 2 (w18.closers_taken 1 2 + 1) }

s19 : Step (Ignore 1 2) w18 w19
s19 = grind (arith, nat_tests)

pub seen : ChainIsSeen
seen = record {
  opens = opens;
  asked = w5;
  asks = (w1, s1, (w2, s2, (w3, s3, (w4, s4, (w5, s5, refl)))));
  left = (record { put = omega arith; uncovered = omega arith }, record { number = omega arith; put = omega arith; untaken = omega arith });
  drawn = w9;
  draws = (w6, s6, (w7, s7, (w8, s8, (w9, s9, refl))));
  aborted = refl;
  owed = (record { put = omega arith; uncovered = omega arith }, record { engaged = refl; other = grind arith; superior = refl; taken = omega arith });
  told = w13;
  tells = (w10, s10, (w11, s11, (w12, s12, (w13, s13, refl))));
  answered = (record { put = omega arith; uncovered = omega arith }, record { index = 1; untaken = omega arith; put = omega arith; covers = omega arith });
  done = w19;
  ends = (w14, s14, (w15, s15, (w16, s16, (w17, s17, (w18, s18, (w19, s19, refl))))));
  dropped = (refl, refl, refl);
  released = (refl, refl, refl);
  moments = (refl, refl, refl, refl);
}
