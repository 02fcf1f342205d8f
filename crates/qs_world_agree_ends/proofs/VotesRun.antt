-- The votes of two nodes, step by step, up to a world in which nothing of them is left to do.
use Rattle.std.proofs.Common.{◌+◌, ◌==◌, max, true, false, refl, arith, if◌then◌else◌}
use Rattle.std.proofs.lemmas.Bool.Decides.{nat_tests}
use Rattle.qs_world_agree.specs.World.{Flight, World, start, with_at, with_at2, with_at3}
use Rattle.qs_world_agree.specs.Guards.{next, next_server, carried, held, held_at, passed, passed_to, landed}
use Rattle.qs_world_agree.specs.Step.{Ask, Count, Engage, Issue, Meet, Serve, Vote_recoverable, Yes, Step}
use Rattle.qs_world_agree.specs.Runs.{four_nodes}
use Rattle.qs_world_agree_ends.specs.Seen.{VotesAreSeen}

abbrev w0 : World
w0 = start four_nodes

abbrev w1 : World
w1 = record w0 {
  peer = with_at2 w0.peer 1 (w0.node 2) 2;
  posted = with_at2 w0.posted 1 2 (w0.sent 1 (w0.node 2));
  inquiry_put = with_at2 w0.inquiry_put 1 2 (w0.inquiries 1);
}

s1 : Step (Meet 1 2) w0 w1
s1 = grind (arith, nat_tests)

abbrev w2 : World
w2 = record w1 {
  peer = with_at2 w1.peer 2 (w1.node 1) 1;
  posted = with_at2 w1.posted 2 1 (w1.sent 2 (w1.node 1));
  inquiry_put = with_at2 w1.inquiry_put 2 1 (w1.inquiries 2);
}

s2 : Step (Meet 2 1) w1 w2
s2 = grind (arith, nat_tests)

abbrev w3 : World
w3 = record w2 {
  sent = with_at2 w2.sent 1 1 (w2.sent 1 1 + 1);
  server_of = with_at3 w2.server_of 1 1 (w2.sent 1 1 + 1) 0;
  posted = with_at2 w2.posted 1 (w2.peer 1 1) (w2.sent 1 1 + 1);
  involved = with_at w2.involved 1 true;
  way = with_at w2.way (w2.node 1) (held (w2.way (w2.node 1)));
  holder = with_at w2.holder (w2.node 1) (held_at (w2.way (w2.node 1)) 1 (w2.holder (w2.node 1)));
}

s3 : Step (Issue 1 1 0) w2 w3
s3 = grind (arith, nat_tests)

abbrev w4 : World
w4 = record w3 {
  received = with_at2 w3.received 2 1 (next w3 2 1);
  last = with_at2 w3.last 2 1 (next w3 2 1);
  arrived = with_at2 w3.arrived 2 (next_server w3 2 1) (w3.arrived 2 (next_server w3 2 1) + 1);
  engaged = with_at w3.engaged 2 true;
  superior = with_at w3.superior 2 (w3.node 1);
  engager = with_at w3.engager 2 1;
  engaging = with_at w3.engaging 2 (next w3 2 1);
  depth = with_at w3.depth 2 (w3.depth 1 + 1);
  received_at = with_at3 w3.received_at 1 (w3.node 2) (next w3 2 1) 2;
  arrival = with_at3 w3.arrival 1 (w3.node 2) (next w3 2 1) (w3.arrived 2 (next_server w3 2 1) + 1);
}

s4 : Step (Engage 2 1) w3 w4
s4 = grind (arith, nat_tests)

abbrev w5 : World
w5 = record w4 { served = with_at2 w4.served 2 0 (w4.served 2 0 + 1) }

s5 : Step (Serve 2 0) w4 w5
s5 = grind (arith, nat_tests)

abbrev w6 : World
w6 = record w5 { asked = with_at w5.asked 2 true }

s6 : Step (Ask 2) w5 w6
s6 = grind (arith, nat_tests)

abbrev w7 : World
w7 = record w6 {
  voted = with_at2 w6.voted 2 0 (w6.served 2 0);
  involved = with_at w6.involved 2 true;
  prepared = with_at2 w6.prepared (w6.node 2) 0 true;
  way = with_at w6.way (w6.node 2) (held (w6.way (w6.node 2)));
  holder = with_at w6.holder (w6.node 2) (held_at (w6.way (w6.node 2)) 2 (w6.holder (w6.node 2)));
}

s7 : Step (Vote_recoverable 2 0) w6 w7
s7 = grind (arith, nat_tests)

abbrev w8 : World
w8 = record w7 {
  engaged = with_at w7.engaged 2 false;
  closers = with_at2 w7.closers 2 (w7.engager 2) (w7.closers 2 (w7.engager 2) + 1);
  closer = with_at3 w7.closer 2 (w7.engager 2) (w7.closers 2 (w7.engager 2) + 1) (w7.last 2 (w7.engager 2));
  closer_set = with_at3 w7.closer_set 2 (w7.engager 2) (w7.closers 2 (w7.engager 2) + 1) (carried w7 2);
  way = λ n. if w7.holder n == 2 then passed (w7.way n) Flight else w7.way n;
  holder = λ n. if w7.holder n == 2 then passed_to (w7.way n) (w7.engager 2) 2 else w7.holder n;
  sender = λ n. if w7.holder n == 2 then passed_to (w7.way n) 2 (w7.sender n) else w7.sender n;
  index = λ n. if w7.holder n == 2 then passed_to (w7.way n) (w7.closers 2 (w7.engager 2) + 1) (w7.index n) else w7.index n;
}

s8 : Step (Yes 2) w7 w8
s8 = grind (arith, nat_tests)

abbrev w9 : World
w9 = record w8 {
  closers_taken = with_at2 w8.closers_taken 1 2 (w8.closers_taken 1 2 + 1);
  covered = with_at2 w8.covered 1 (w8.node 2) (max (w8.covered 1 (w8.node 2)) (w8.closer 2 1 (w8.closers_taken 1 2 + 1)));
  told_set = with_at w8.told_set 1 (λ n. if w8.told_set 1 n then true else w8.closer_set 2 1 (w8.closers_taken 1 2 + 1) n);
  way = λ n. if w8.holder n == 1 then (if w8.sender n == 2 then (if w8.index n == w8.closers_taken 1 2 + 1 then landed (w8.way n) else w8.way n) else w8.way n) else w8.way n;
}

s9 : Step (Count 1 2) w8 w9
s9 = grind (arith, nat_tests)

abbrev w10 : World
w10 = record w9 { asked = with_at w9.asked 1 true }

s10 : Step (Ask 1) w9 w10
s10 = grind (arith, nat_tests)

pub seen : VotesAreSeen
seen = record {
  voted = w10;
  votes = (w1, s1, (w2, s2, (w3, s3, (w4, s4, (w5, s5, (w6, s6, (w7, s7, (w8, s8, (w9, s9, (w10, s10, refl))))))))));
  still = record {
    known = λ p m. grind (arith, nat_tests);
    put = λ p m. grind (arith, nat_tests);
    taken = λ p q. grind (arith, nat_tests);
    counted = λ p q. grind (arith, nat_tests);
    done = λ q. grind (arith, nat_tests);
    said = λ q other ready. grind (arith, nat_tests, ready);
  };
  runs = refl;
  undecided = refl;
}
