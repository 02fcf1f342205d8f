-- The agreement machine beside a run in which two nodes are told a commit, and one of them does not take it in, step by step.
use Rattle.std.proofs.Common.{◌+◌, ◌==◌, max, true, false, refl, arith, if◌then◌else◌, drop}
use Rattle.std.proofs.lemmas.Bool.Decides.{nat_tests}
use Rattle.std.specs.Fmt.{digits}
use Rattle.std.specs.Global.{Global}
use Rattle.qs_engage.specs.Nodes.{all_nodes}
use Rattle.qs_tm.specs.Members.{all_servers}
use Rattle.qs_world_agree.specs.World.{Committed, Flight, World, start, with_at, with_at2, with_at3}
use Rattle.qs_world_agree.specs.Guards.{carried, held, held_at, landed, next, next_server, passed, passed_to}
use Rattle.qs_world_agree.specs.Step.{Ask, Commit, Count, Engage, Issue, Learn, Meet, Serve, Take_told, Tell, Vote_recoverable, Yes, Step}
use Rattle.qs_world_trials.specs.ShownRuns.{begun_at, three_legs, three_nodes}
use Rattle.qs_world_trials.specs.SmallRuns.{told_one}
use Rattle.qs_world_trials.specs.TriedShown.{IsShownAlong, begun_in}
use Rattle.qs_world_trials.proofs.ShownOpens.{three_nodes_open}

abbrev w0 : World
w0 = start three_nodes

abbrev w1 : World
w1 = record w0 {
  sent = with_at2 w0.sent 256 1 (w0.sent 256 1 + 1);
  server_of = with_at3 w0.server_of 256 1 (w0.sent 256 1 + 1) 0;
  posted = with_at2 w0.posted 256 (w0.peer 256 1) (w0.sent 256 1 + 1);
  involved = with_at w0.involved 256 true;
  way = with_at w0.way (w0.node 256) (held (w0.way (w0.node 256)));
  holder = with_at w0.holder (w0.node 256) (held_at (w0.way (w0.node 256)) 256 (w0.holder (w0.node 256)));
}

s1 : Step (Issue 256 1 0) w0 w1
s1 = grind (arith, nat_tests)

abbrev w2 : World
w2 = record w1 {
  received = with_at2 w1.received 257 256 (next w1 257 256);
  last = with_at2 w1.last 257 256 (next w1 257 256);
  arrived = with_at2 w1.arrived 257 (next_server w1 257 256) (w1.arrived 257 (next_server w1 257 256) + 1);
  engaged = with_at w1.engaged 257 true;
  superior = with_at w1.superior 257 (w1.node 256);
  engager = with_at w1.engager 257 256;
  engaging = with_at w1.engaging 257 (next w1 257 256);
  depth = with_at w1.depth 257 (w1.depth 256 + 1);
  received_at = with_at3 w1.received_at 256 (w1.node 257) (next w1 257 256) 257;
  arrival = with_at3 w1.arrival 256 (w1.node 257) (next w1 257 256) (w1.arrived 257 (next_server w1 257 256) + 1);
}

s2 : Step (Engage 257 256) w1 w2
s2 = grind (arith, nat_tests)

abbrev w3 : World
w3 = record w2 { served = with_at2 w2.served 257 0 (w2.served 257 0 + 1) }

s3 : Step (Serve 257 0) w2 w3
s3 = grind (arith, nat_tests)

abbrev w4 : World
w4 = record w3 {
  peer = with_at2 w3.peer 256 (w3.node 258) 258;
  posted = with_at2 w3.posted 256 258 (w3.sent 256 (w3.node 258));
  inquiry_put = with_at2 w3.inquiry_put 256 258 (w3.inquiries 256);
}

s4 : Step (Meet 256 258) w3 w4
s4 = grind (arith, nat_tests)

abbrev w5 : World
w5 = record w4 {
  peer = with_at2 w4.peer 258 (w4.node 256) 256;
  posted = with_at2 w4.posted 258 256 (w4.sent 258 (w4.node 256));
  inquiry_put = with_at2 w4.inquiry_put 258 256 (w4.inquiries 258);
}

s5 : Step (Meet 258 256) w4 w5
s5 = grind (arith, nat_tests)

abbrev w6 : World
w6 = record w5 {
  sent = with_at2 w5.sent 256 2 (w5.sent 256 2 + 1);
  server_of = with_at3 w5.server_of 256 2 (w5.sent 256 2 + 1) 0;
  posted = with_at2 w5.posted 256 (w5.peer 256 2) (w5.sent 256 2 + 1);
  involved = with_at w5.involved 256 true;
  way = with_at w5.way (w5.node 256) (held (w5.way (w5.node 256)));
  holder = with_at w5.holder (w5.node 256) (held_at (w5.way (w5.node 256)) 256 (w5.holder (w5.node 256)));
}

s6 : Step (Issue 256 2 0) w5 w6
s6 = grind (arith, nat_tests)

abbrev w7 : World
w7 = record w6 {
  received = with_at2 w6.received 258 256 (next w6 258 256);
  last = with_at2 w6.last 258 256 (next w6 258 256);
  arrived = with_at2 w6.arrived 258 (next_server w6 258 256) (w6.arrived 258 (next_server w6 258 256) + 1);
  engaged = with_at w6.engaged 258 true;
  superior = with_at w6.superior 258 (w6.node 256);
  engager = with_at w6.engager 258 256;
  engaging = with_at w6.engaging 258 (next w6 258 256);
  depth = with_at w6.depth 258 (w6.depth 256 + 1);
  received_at = with_at3 w6.received_at 256 (w6.node 258) (next w6 258 256) 258;
  arrival = with_at3 w6.arrival 256 (w6.node 258) (next w6 258 256) (w6.arrived 258 (next_server w6 258 256) + 1);
}

s7 : Step (Engage 258 256) w6 w7
s7 = grind (arith, nat_tests)

abbrev w8 : World
w8 = record w7 { served = with_at2 w7.served 258 0 (w7.served 258 0 + 1) }

s8 : Step (Serve 258 0) w7 w8
s8 = grind (arith, nat_tests)

abbrev w9 : World
w9 = record w8 { asked = with_at w8.asked 256 true }

s9 : Step (Ask 256) w8 w9
s9 = grind (arith, nat_tests)

abbrev w10 : World
w10 = record w9 { asked = with_at w9.asked 257 true }

s10 : Step (Ask 257) w9 w10
s10 = grind (arith, nat_tests)

abbrev w11 : World
w11 = record w10 {
  voted = with_at2 w10.voted 257 0 (w10.served 257 0);
  involved = with_at w10.involved 257 true;
  prepared = with_at2 w10.prepared (w10.node 257) 0 true;
  way = with_at w10.way (w10.node 257) (held (w10.way (w10.node 257)));
  holder = with_at w10.holder (w10.node 257) (held_at (w10.way (w10.node 257)) 257 (w10.holder (w10.node 257)));
}

s11 : Step (Vote_recoverable 257 0) w10 w11
s11 = grind (arith, nat_tests)

abbrev w12 : World
w12 = record w11 {
  engaged = with_at w11.engaged 257 false;
  closers = with_at2 w11.closers 257 (w11.engager 257) (w11.closers 257 (w11.engager 257) + 1);
  closer = with_at3 w11.closer 257 (w11.engager 257) (w11.closers 257 (w11.engager 257) + 1) (w11.last 257 (w11.engager 257));
  closer_set = with_at3 w11.closer_set 257 (w11.engager 257) (w11.closers 257 (w11.engager 257) + 1) (carried w11 257);
  way = λ n. if w11.holder n == 257 then passed (w11.way n) Flight else w11.way n;
  holder = λ n. if w11.holder n == 257 then passed_to (w11.way n) (w11.engager 257) 257 else w11.holder n;
  sender = λ n. if w11.holder n == 257 then passed_to (w11.way n) 257 (w11.sender n) else w11.sender n;
  index = λ n. if w11.holder n == 257 then passed_to (w11.way n) (w11.closers 257 (w11.engager 257) + 1) (w11.index n) else w11.index n;
}

s12 : Step (Yes 257) w11 w12
s12 = grind (arith, nat_tests)

abbrev w13 : World
w13 = record w12 { asked = with_at w12.asked 258 true }

s13 : Step (Ask 258) w12 w13
s13 = grind (arith, nat_tests)

abbrev w14 : World
w14 = record w13 {
  voted = with_at2 w13.voted 258 0 (w13.served 258 0);
  involved = with_at w13.involved 258 true;
  prepared = with_at2 w13.prepared (w13.node 258) 0 true;
  way = with_at w13.way (w13.node 258) (held (w13.way (w13.node 258)));
  holder = with_at w13.holder (w13.node 258) (held_at (w13.way (w13.node 258)) 258 (w13.holder (w13.node 258)));
}

s14 : Step (Vote_recoverable 258 0) w13 w14
s14 = grind (arith, nat_tests)

abbrev w15 : World
w15 = record w14 {
  engaged = with_at w14.engaged 258 false;
  closers = with_at2 w14.closers 258 (w14.engager 258) (w14.closers 258 (w14.engager 258) + 1);
  closer = with_at3 w14.closer 258 (w14.engager 258) (w14.closers 258 (w14.engager 258) + 1) (w14.last 258 (w14.engager 258));
  closer_set = with_at3 w14.closer_set 258 (w14.engager 258) (w14.closers 258 (w14.engager 258) + 1) (carried w14 258);
  way = λ n. if w14.holder n == 258 then passed (w14.way n) Flight else w14.way n;
  holder = λ n. if w14.holder n == 258 then passed_to (w14.way n) (w14.engager 258) 258 else w14.holder n;
  sender = λ n. if w14.holder n == 258 then passed_to (w14.way n) 258 (w14.sender n) else w14.sender n;
  index = λ n. if w14.holder n == 258 then passed_to (w14.way n) (w14.closers 258 (w14.engager 258) + 1) (w14.index n) else w14.index n;
}

s15 : Step (Yes 258) w14 w15
s15 = grind (arith, nat_tests)

abbrev w16 : World
w16 = record w15 {
  closers_taken = with_at2 w15.closers_taken 256 257 (w15.closers_taken 256 257 + 1);
  covered = with_at2 w15.covered 256 (w15.node 257) (max (w15.covered 256 (w15.node 257)) (w15.closer 257 256 (w15.closers_taken 256 257 + 1)));
  told_set = with_at w15.told_set 256 (λ n. if w15.told_set 256 n then true else w15.closer_set 257 256 (w15.closers_taken 256 257 + 1) n);
  way = λ n. if w15.holder n == 256 then (if w15.sender n == 257 then (if w15.index n == w15.closers_taken 256 257 + 1 then landed (w15.way n) else w15.way n) else w15.way n) else w15.way n;
}

s16 : Step (Count 256 257) w15 w16
s16 = grind (arith, nat_tests)

abbrev w17 : World
w17 = record w16 {
  closers_taken = with_at2 w16.closers_taken 256 258 (w16.closers_taken 256 258 + 1);
  covered = with_at2 w16.covered 256 (w16.node 258) (max (w16.covered 256 (w16.node 258)) (w16.closer 258 256 (w16.closers_taken 256 258 + 1)));
  told_set = with_at w16.told_set 256 (λ n. if w16.told_set 256 n then true else w16.closer_set 258 256 (w16.closers_taken 256 258 + 1) n);
  way = λ n. if w16.holder n == 256 then (if w16.sender n == 258 then (if w16.index n == w16.closers_taken 256 258 + 1 then landed (w16.way n) else w16.way n) else w16.way n) else w16.way n;
}

s17 : Step (Count 256 258) w16 w17
s17 = grind (arith, nat_tests)

abbrev w18 : World
w18 = record w17 {
  engaged = with_at w17.engaged w17.home false;
  outcome = with_at w17.outcome w17.home Committed;
  prepared = with_at w17.prepared (w17.node w17.home) (λ s. false);
  commit_logged = true;
  unended = true;
  commit_list = w17.told_set w17.home;
  cell = Committed;
  learnt_commit = with_at w17.learnt_commit (w17.node w17.home) true;
}

s18 : Step Commit w17 w18
s18 = grind (arith, nat_tests)

abbrev w19 : World
w19 = record w18 { tell_commit = with_at w18.tell_commit 1 true }

s19 : Step (Tell 256 1) w18 w19
s19 = grind (arith, nat_tests)

abbrev w20 : World
w20 = record w19 { tell_commit = with_at w19.tell_commit 2 true }

s20 : Step (Tell 256 2) w19 w20
s20 = grind (arith, nat_tests)

abbrev w21 : World
w21 = record w20 {
  outcome = with_at w20.outcome 257 Committed;
  prepared = with_at w20.prepared (w20.node 257) (λ s. false);
  ack_put = with_at w20.ack_put 257 true;
  learnt_commit = with_at w20.learnt_commit (w20.node 257) true;
}

s21 : Step (Learn 257) w20 w21
s21 = grind (arith, nat_tests)

abbrev w22 : World
w22 = record w21 { acknowledged = with_at w21.acknowledged (w21.node 257) true }

s22 : Step (Take_told 256 257) w21 w22
s22 = grind (arith, nat_tests)

pub three_holds : (alloc : Global) → IsShownAlong (begun_in alloc told_one) (drop begun_at told_one.doings) three_nodes three_legs
unfolding all_nodes all_servers digits
three_holds alloc = record {
  opens = three_nodes_open;
  begins = refl;
  goes = (w1, (w1, s1, refl), refl, refl, (w2, (w2, s2, refl), refl, refl, (w3, (w3, s3, refl), refl, refl, (w4, (w4, s4, refl), refl, refl, (w5, (w5, s5, refl), refl, refl, (w6, (w6, s6, refl), refl, refl, (w7, (w7, s7, refl), refl, refl, (w8, (w8, s8, refl), refl, refl, (w9, (w9, s9, refl), refl, refl, (w11, (w10, s10, (w11, s11, refl)), refl, refl, (w12, (w12, s12, refl), refl, refl, (w14, (w13, s13, (w14, s14, refl)), refl, refl, (w15, (w15, s15, refl), refl, refl, (w16, (w16, s16, refl), refl, refl, (w20, (w17, s17, (w18, s18, (w19, s19, (w20, s20, refl)))), refl, refl, (w21, (w21, s21, refl), refl, refl, (w22, (w22, s22, refl), refl, refl, tt)))))))))))))))));
}
