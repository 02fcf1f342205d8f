-- The agreement machine beside a run in which a node restarts in doubt while a client has a loan, step by step.
use Rattle.std.proofs.Common.{◌+◌, ◌==◌, max, true, false, refl, arith, if◌then◌else◌, drop}
use Rattle.std.proofs.lemmas.Bool.Decides.{nat_tests}
use Rattle.std.specs.Fmt.{digits}
use Rattle.std.specs.Global.{Global}
use Rattle.qs_engage.specs.Nodes.{all_nodes}
use Rattle.qs_tm.specs.Members.{all_servers}
use Rattle.qs_world_agree.specs.World.{Flight, World, start, with_at, with_at2, with_at3}
use Rattle.qs_world_agree.specs.Guards.{carried, held, held_at, landed, next, next_server, passed, passed_to}
use Rattle.qs_world_agree.specs.Step.{Answer_running, Ask, Count, Crash, Engage, Inquire, Issue, Issue_local, Lend, Meet, Notice, Restart_in_doubt, Serve, Vote_recoverable, Yes, Step}
use Rattle.qs_world_trials.specs.ShownRuns.{begun_at, doubt_legs, met_nodes}
use Rattle.qs_world_trials.specs.SmallRuns.{in_doubt}
use Rattle.qs_world_trials.specs.TriedShown.{IsShownAlong, begun_in}
use Rattle.qs_world_trials.proofs.ShownOpens.{met_nodes_open}

abbrev w0 : World
w0 = start met_nodes

abbrev w1 : World
w1 = record w0 { arrived = with_at2 w0.arrived 256 33 (w0.arrived 256 33 + 1) }

s1 : Step (Issue_local 256 33) w0 w1
s1 = grind (arith, nat_tests)

abbrev w2 : World
w2 = record w1 { served = with_at2 w1.served 256 33 (w1.served 256 33 + 1); loans = with_at w1.loans 256 (w1.loans 256 + 1) }

s2 : Step (Lend 256 33) w1 w2
s2 = grind (arith, nat_tests)

abbrev w3 : World
w3 = record w2 {
  sent = with_at2 w2.sent 256 1 (w2.sent 256 1 + 1);
  server_of = with_at3 w2.server_of 256 1 (w2.sent 256 1 + 1) 0;
  posted = with_at2 w2.posted 256 (w2.peer 256 1) (w2.sent 256 1 + 1);
  involved = with_at w2.involved 256 true;
  way = with_at w2.way (w2.node 256) (held (w2.way (w2.node 256)));
  holder = with_at w2.holder (w2.node 256) (held_at (w2.way (w2.node 256)) 256 (w2.holder (w2.node 256)));
}

s3 : Step (Issue 256 1 0) w2 w3
s3 = grind (arith, nat_tests)

abbrev w4 : World
w4 = record w3 {
  received = with_at2 w3.received 257 256 (next w3 257 256);
  last = with_at2 w3.last 257 256 (next w3 257 256);
  arrived = with_at2 w3.arrived 257 (next_server w3 257 256) (w3.arrived 257 (next_server w3 257 256) + 1);
  engaged = with_at w3.engaged 257 true;
  superior = with_at w3.superior 257 (w3.node 256);
  engager = with_at w3.engager 257 256;
  engaging = with_at w3.engaging 257 (next w3 257 256);
  depth = with_at w3.depth 257 (w3.depth 256 + 1);
  received_at = with_at3 w3.received_at 256 (w3.node 257) (next w3 257 256) 257;
  arrival = with_at3 w3.arrival 256 (w3.node 257) (next w3 257 256) (w3.arrived 257 (next_server w3 257 256) + 1);
}

s4 : Step (Engage 257 256) w3 w4
s4 = grind (arith, nat_tests)

abbrev w5 : World
w5 = record w4 { served = with_at2 w4.served 257 0 (w4.served 257 0 + 1) }

s5 : Step (Serve 257 0) w4 w5
s5 = grind (arith, nat_tests)

abbrev w6 : World
w6 = record w5 { asked = with_at w5.asked 256 true }

s6 : Step (Ask 256) w5 w6
s6 = grind (arith, nat_tests)

abbrev w7 : World
w7 = record w6 { asked = with_at w6.asked 257 true }

s7 : Step (Ask 257) w6 w7
s7 = grind (arith, nat_tests)

abbrev w8 : World
w8 = record w7 {
  voted = with_at2 w7.voted 257 0 (w7.served 257 0);
  involved = with_at w7.involved 257 true;
  prepared = with_at2 w7.prepared (w7.node 257) 0 true;
  way = with_at w7.way (w7.node 257) (held (w7.way (w7.node 257)));
  holder = with_at w7.holder (w7.node 257) (held_at (w7.way (w7.node 257)) 257 (w7.holder (w7.node 257)));
}

s8 : Step (Vote_recoverable 257 0) w7 w8
s8 = grind (arith, nat_tests)

abbrev w9 : World
w9 = record w8 {
  engaged = with_at w8.engaged 257 false;
  closers = with_at2 w8.closers 257 (w8.engager 257) (w8.closers 257 (w8.engager 257) + 1);
  closer = with_at3 w8.closer 257 (w8.engager 257) (w8.closers 257 (w8.engager 257) + 1) (w8.last 257 (w8.engager 257));
  closer_set = with_at3 w8.closer_set 257 (w8.engager 257) (w8.closers 257 (w8.engager 257) + 1) (carried w8 257);
  way = λ n. if w8.holder n == 257 then passed (w8.way n) Flight else w8.way n;
  holder = λ n. if w8.holder n == 257 then passed_to (w8.way n) (w8.engager 257) 257 else w8.holder n;
  sender = λ n. if w8.holder n == 257 then passed_to (w8.way n) 257 (w8.sender n) else w8.sender n;
  index = λ n. if w8.holder n == 257 then passed_to (w8.way n) (w8.closers 257 (w8.engager 257) + 1) (w8.index n) else w8.index n;
}

s9 : Step (Yes 257) w8 w9
s9 = grind (arith, nat_tests)

abbrev w10 : World
w10 = record w9 {
  closers_taken = with_at2 w9.closers_taken 256 257 (w9.closers_taken 256 257 + 1);
  covered = with_at2 w9.covered 256 (w9.node 257) (max (w9.covered 256 (w9.node 257)) (w9.closer 257 256 (w9.closers_taken 256 257 + 1)));
  told_set = with_at w9.told_set 256 (λ n. if w9.told_set 256 n then true else w9.closer_set 257 256 (w9.closers_taken 256 257 + 1) n);
  way = λ n. if w9.holder n == 256 then (if w9.sender n == 257 then (if w9.index n == w9.closers_taken 256 257 + 1 then landed (w9.way n) else w9.way n) else w9.way n) else w9.way n;
}

s10 : Step (Count 256 257) w9 w10
s10 = grind (arith, nat_tests)

abbrev w11 : World
w11 = record w10 { up = with_at w10.up 257 false }

s11 : Step (Crash 257) w10 w11
s11 = grind (arith, nat_tests)

abbrev w12 : World
w12 = record w11 {
  present = with_at w11.present (w11.node 513) 513;
  up = with_at w11.up 513 true;
  involved = with_at w11.involved 513 true;
}

s12 : Step (Restart_in_doubt 513 0) w11 w12
s12 = grind (arith, nat_tests)

abbrev w13 : World
w13 = record w12 {
  peer = with_at2 w12.peer 513 (w12.node 256) 256;
  posted = with_at2 w12.posted 513 256 (w12.sent 513 (w12.node 256));
  inquiry_put = with_at2 w12.inquiry_put 513 256 (w12.inquiries 513);
}

s13 : Step (Meet 513 256) w12 w13
s13 = grind (arith, nat_tests)

abbrev w14 : World
w14 = record w13 {
  peer = with_at2 w13.peer 256 (w13.node 513) 513;
  posted = with_at2 w13.posted 256 513 (w13.sent 256 (w13.node 513));
  received = with_at2 w13.received 513 256 (w13.sent 256 (w13.node 513));
  inquiry_put = with_at2 w13.inquiry_put 256 513 (w13.inquiries 256);
  inquiry_taken = with_at2 w13.inquiry_taken 513 256 (w13.inquiries 256);
  gone = if w13.covered 256 (w13.node 513) == w13.sent 256 (w13.node 513) then w13.gone else with_at w13.gone 256 true;
}

s14 : Step (Notice 256 513) w13 w14
s14 = grind (arith, nat_tests)

abbrev w15 : World
w15 = record w14 {
  inquiries = with_at w14.inquiries 513 (w14.inquiries 513 + 1);
  inquiry_put = if w14.peer 513 (w14.node w14.home) == 0 then w14.inquiry_put else with_at2 w14.inquiry_put 513 (w14.peer 513 (w14.node w14.home)) (w14.inquiries 513 + 1);
}

s15 : Step (Inquire 513) w14 w15
s15 = grind (arith, nat_tests)

abbrev w16 : World
w16 = record w15 { told_set = with_at2 w15.told_set w15.home (w15.node 513) true; inquiry_taken = with_at2 w15.inquiry_taken w15.home 513 (w15.inquiry_taken w15.home 513 + 1) }

s16 : Step (Answer_running 513) w15 w16
s16 = grind (arith, nat_tests)

abbrev w17 : World
w17 = record w16 {
  sent = with_at2 w16.sent 256 1 (w16.sent 256 1 + 1);
  server_of = with_at3 w16.server_of 256 1 (w16.sent 256 1 + 1) 0;
  posted = with_at2 w16.posted 256 (w16.peer 256 1) (w16.sent 256 1 + 1);
  involved = with_at w16.involved 256 true;
  way = with_at w16.way (w16.node 256) (held (w16.way (w16.node 256)));
  holder = with_at w16.holder (w16.node 256) (held_at (w16.way (w16.node 256)) 256 (w16.holder (w16.node 256)));
}

s17 : Step (Issue 256 1 0) w16 w17
s17 = grind (arith, nat_tests)

abbrev w18 : World
w18 = record w17 {
  received = with_at2 w17.received 513 256 (next w17 513 256);
  last = with_at2 w17.last 513 256 (next w17 513 256);
  arrived = with_at2 w17.arrived 513 (next_server w17 513 256) (w17.arrived 513 (next_server w17 513 256) + 1);
  engaged = with_at w17.engaged 513 true;
  superior = with_at w17.superior 513 (w17.node 256);
  engager = with_at w17.engager 513 256;
  engaging = with_at w17.engaging 513 (next w17 513 256);
  depth = with_at w17.depth 513 (w17.depth 256 + 1);
  received_at = with_at3 w17.received_at 256 (w17.node 513) (next w17 513 256) 513;
  arrival = with_at3 w17.arrival 256 (w17.node 513) (next w17 513 256) (w17.arrived 513 (next_server w17 513 256) + 1);
}

s18 : Step (Engage 513 256) w17 w18
s18 = grind (arith, nat_tests)

abbrev w19 : World
w19 = record w18 { asked = with_at w18.asked 513 true }

s19 : Step (Ask 513) w18 w19
s19 = grind (arith, nat_tests)

abbrev w20 : World
w20 = record w19 { served = with_at2 w19.served 513 0 (w19.served 513 0 + 1) }

s20 : Step (Serve 513 0) w19 w20
s20 = grind (arith, nat_tests)

abbrev w21 : World
w21 = record w20 {
  voted = with_at2 w20.voted 513 0 (w20.served 513 0);
  involved = with_at w20.involved 513 true;
  prepared = with_at2 w20.prepared (w20.node 513) 0 true;
  way = with_at w20.way (w20.node 513) (held (w20.way (w20.node 513)));
  holder = with_at w20.holder (w20.node 513) (held_at (w20.way (w20.node 513)) 513 (w20.holder (w20.node 513)));
}

s21 : Step (Vote_recoverable 513 0) w20 w21
s21 = grind (arith, nat_tests)

pub doubt_holds : (alloc : Global) → IsShownAlong (begun_in alloc in_doubt) (drop begun_at in_doubt.doings) met_nodes doubt_legs
unfolding all_nodes all_servers digits
doubt_holds alloc = record {
  opens = met_nodes_open;
  begins = refl;
  goes = (w1, (w1, s1, refl), refl, refl, (w2, (w2, s2, refl), refl, refl, (w3, (w3, s3, refl), refl, refl, (w4, (w4, s4, refl), refl, refl, (w5, (w5, s5, refl), refl, refl, (w6, (w6, s6, refl), refl, refl, (w8, (w7, s7, (w8, s8, refl)), refl, refl, (w9, (w9, s9, refl), refl, refl, (w10, (w10, s10, refl), refl, refl, (w11, (w11, s11, refl), refl, refl, (w12, (w12, s12, refl), refl, refl, (w13, (w13, s13, refl), refl, refl, (w14, (w14, s14, refl), refl, refl, (w15, (w15, s15, refl), refl, refl, (w16, (w16, s16, refl), refl, refl, (w17, (w17, s17, refl), refl, refl, (w18, (w18, s18, refl), refl, refl, (w19, (w19, s19, refl), refl, refl, (w20, (w20, s20, refl), refl, refl, (w21, (w21, s21, refl), refl, refl, tt))))))))))))))))))));
}
