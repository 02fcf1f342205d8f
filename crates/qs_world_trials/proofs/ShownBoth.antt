-- The agreement machine beside a run in which a file is put at each of two nodes, and committed, step by step.
use Rattle.std.proofs.Common.{◌+◌, ◌==◌, max, true, false, refl, arith, if◌then◌else◌}
use Rattle.std.proofs.lemmas.Bool.Decides.{nat_tests}
use Rattle.std.specs.Fmt.{digits}
use Rattle.std.specs.Global.{Global}
use Rattle.qs_engage.specs.Nodes.{all_nodes}
use Rattle.qs_tm.specs.Members.{all_servers}
use Rattle.qs_world_agree.specs.World.{Committed, Flight, World, start, with_at, with_at2, with_at3}
use Rattle.qs_world_agree.specs.Guards.{carried, held, held_at, landed, next, next_server, passed, passed_to}
use Rattle.qs_world_agree.specs.Step.{Ask, Commit, Count, Engage, Issue, Issue_local, Learn, Meet, Serve, Take_told, Tell, Vote_recoverable, Yes, Step}
use Rattle.qs_world.specs.Faults.{both}
use Rattle.qs_world_trials.specs.ShownRuns.{both_doings, both_legs, two_nodes}
use Rattle.qs_world_trials.specs.TriedShown.{IsShownAlong}
use Rattle.qs_world_trials.specs.Walks.{after_stages}
use Rattle.qs_world_trials.proofs.ShownOpens.{two_nodes_open}

abbrev w0 : World
w0 = start two_nodes

abbrev w1 : World
w1 = record w0 {
  peer = with_at2 w0.peer 257 (w0.node 256) 256;
  posted = with_at2 w0.posted 257 256 (w0.sent 257 (w0.node 256));
  inquiry_put = with_at2 w0.inquiry_put 257 256 (w0.inquiries 257);
}

s1 : Step (Meet 257 256) w0 w1
s1 = grind (arith, nat_tests)

abbrev w2 : World
w2 = record w1 { arrived = with_at2 w1.arrived 256 0 (w1.arrived 256 0 + 1) }

s2 : Step (Issue_local 256 0) w1 w2
s2 = grind (arith, nat_tests)

abbrev w3 : World
w3 = record w2 { served = with_at2 w2.served 256 0 (w2.served 256 0 + 1) }

s3 : Step (Serve 256 0) w2 w3
s3 = grind (arith, nat_tests)

abbrev w4 : World
w4 = record w3 {
  sent = with_at2 w3.sent 256 1 (w3.sent 256 1 + 1);
  server_of = with_at3 w3.server_of 256 1 (w3.sent 256 1 + 1) 0;
  posted = with_at2 w3.posted 256 (w3.peer 256 1) (w3.sent 256 1 + 1);
  involved = with_at w3.involved 256 true;
  way = with_at w3.way (w3.node 256) (held (w3.way (w3.node 256)));
  holder = with_at w3.holder (w3.node 256) (held_at (w3.way (w3.node 256)) 256 (w3.holder (w3.node 256)));
}

s4 : Step (Issue 256 1 0) w3 w4
s4 = grind (arith, nat_tests)

abbrev w5 : World
w5 = record w4 {
  received = with_at2 w4.received 257 256 (next w4 257 256);
  last = with_at2 w4.last 257 256 (next w4 257 256);
  arrived = with_at2 w4.arrived 257 (next_server w4 257 256) (w4.arrived 257 (next_server w4 257 256) + 1);
  engaged = with_at w4.engaged 257 true;
  superior = with_at w4.superior 257 (w4.node 256);
  engager = with_at w4.engager 257 256;
  engaging = with_at w4.engaging 257 (next w4 257 256);
  depth = with_at w4.depth 257 (w4.depth 256 + 1);
  received_at = with_at3 w4.received_at 256 (w4.node 257) (next w4 257 256) 257;
  arrival = with_at3 w4.arrival 256 (w4.node 257) (next w4 257 256) (w4.arrived 257 (next_server w4 257 256) + 1);
}

s5 : Step (Engage 257 256) w4 w5
s5 = grind (arith, nat_tests)

abbrev w6 : World
w6 = record w5 { served = with_at2 w5.served 257 0 (w5.served 257 0 + 1) }

s6 : Step (Serve 257 0) w5 w6
s6 = grind (arith, nat_tests)

abbrev w7 : World
w7 = record w6 { asked = with_at w6.asked 256 true }

s7 : Step (Ask 256) w6 w7
s7 = grind (arith, nat_tests)

abbrev w8 : World
w8 = record w7 {
  voted = with_at2 w7.voted 256 0 (w7.served 256 0);
  involved = with_at w7.involved 256 true;
  prepared = with_at2 w7.prepared (w7.node 256) 0 true;
  way = with_at w7.way (w7.node 256) (held (w7.way (w7.node 256)));
  holder = with_at w7.holder (w7.node 256) (held_at (w7.way (w7.node 256)) 256 (w7.holder (w7.node 256)));
}

s8 : Step (Vote_recoverable 256 0) w7 w8
s8 = grind (arith, nat_tests)

abbrev w9 : World
w9 = record w8 { asked = with_at w8.asked 257 true }

s9 : Step (Ask 257) w8 w9
s9 = grind (arith, nat_tests)

abbrev w10 : World
w10 = record w9 {
  voted = with_at2 w9.voted 257 0 (w9.served 257 0);
  involved = with_at w9.involved 257 true;
  prepared = with_at2 w9.prepared (w9.node 257) 0 true;
  way = with_at w9.way (w9.node 257) (held (w9.way (w9.node 257)));
  holder = with_at w9.holder (w9.node 257) (held_at (w9.way (w9.node 257)) 257 (w9.holder (w9.node 257)));
}

s10 : Step (Vote_recoverable 257 0) w9 w10
s10 = grind (arith, nat_tests)

abbrev w11 : World
w11 = record w10 {
  engaged = with_at w10.engaged 257 false;
  closers = with_at2 w10.closers 257 (w10.engager 257) (w10.closers 257 (w10.engager 257) + 1);
  closer = with_at3 w10.closer 257 (w10.engager 257) (w10.closers 257 (w10.engager 257) + 1) (w10.last 257 (w10.engager 257));
  closer_set = with_at3 w10.closer_set 257 (w10.engager 257) (w10.closers 257 (w10.engager 257) + 1) (carried w10 257);
  way = λ n. if w10.holder n == 257 then passed (w10.way n) Flight else w10.way n;
  holder = λ n. if w10.holder n == 257 then passed_to (w10.way n) (w10.engager 257) 257 else w10.holder n;
  sender = λ n. if w10.holder n == 257 then passed_to (w10.way n) 257 (w10.sender n) else w10.sender n;
  index = λ n. if w10.holder n == 257 then passed_to (w10.way n) (w10.closers 257 (w10.engager 257) + 1) (w10.index n) else w10.index n;
}

s11 : Step (Yes 257) w10 w11
s11 = grind (arith, nat_tests)

abbrev w12 : World
w12 = record w11 {
  closers_taken = with_at2 w11.closers_taken 256 257 (w11.closers_taken 256 257 + 1);
  covered = with_at2 w11.covered 256 (w11.node 257) (max (w11.covered 256 (w11.node 257)) (w11.closer 257 256 (w11.closers_taken 256 257 + 1)));
  told_set = with_at w11.told_set 256 (λ n. if w11.told_set 256 n then true else w11.closer_set 257 256 (w11.closers_taken 256 257 + 1) n);
  way = λ n. if w11.holder n == 256 then (if w11.sender n == 257 then (if w11.index n == w11.closers_taken 256 257 + 1 then landed (w11.way n) else w11.way n) else w11.way n) else w11.way n;
}

s12 : Step (Count 256 257) w11 w12
s12 = grind (arith, nat_tests)

abbrev w13 : World
w13 = record w12 {
  engaged = with_at w12.engaged w12.home false;
  outcome = with_at w12.outcome w12.home Committed;
  prepared = with_at w12.prepared (w12.node w12.home) (λ s. false);
  commit_logged = true;
  unended = true;
  commit_list = w12.told_set w12.home;
  cell = Committed;
  learnt_commit = with_at w12.learnt_commit (w12.node w12.home) true;
}

s13 : Step Commit w12 w13
s13 = grind (arith, nat_tests)

abbrev w14 : World
w14 = record w13 { tell_commit = with_at w13.tell_commit 1 true }

s14 : Step (Tell 256 1) w13 w14
s14 = grind (arith, nat_tests)

abbrev w15 : World
w15 = record w14 {
  outcome = with_at w14.outcome 257 Committed;
  prepared = with_at w14.prepared (w14.node 257) (λ s. false);
  ack_put = with_at w14.ack_put 257 true;
  learnt_commit = with_at w14.learnt_commit (w14.node 257) true;
}

s15 : Step (Learn 257) w14 w15
s15 = grind (arith, nat_tests)

abbrev w16 : World
w16 = record w15 { acknowledged = with_at w15.acknowledged (w15.node 257) true }

s16 : Step (Take_told 256 257) w15 w16
s16 = grind (arith, nat_tests)

pub both_files_holds : (alloc : Global) → IsShownAlong (after_stages (both alloc) 1 5) both_doings two_nodes both_legs
unfolding all_nodes all_servers digits
both_files_holds alloc = record {
  opens = two_nodes_open;
  begins = refl;
  goes = (w0, refl, refl, refl, (w1, (w1, s1, refl), refl, refl, (w2, (w2, s2, refl), refl, refl, (w3, (w3, s3, refl), refl, refl, (w4, (w4, s4, refl), refl, refl, (w5, (w5, s5, refl), refl, refl, (w6, (w6, s6, refl), refl, refl, (w7, (w7, s7, refl), refl, refl, (w8, (w8, s8, refl), refl, refl, (w10, (w9, s9, (w10, s10, refl)), refl, refl, (w11, (w11, s11, refl), refl, refl, (w14, (w12, s12, (w13, s13, (w14, s14, refl))), refl, refl, (w15, (w15, s15, refl), refl, refl, (w16, (w16, s16, refl), refl, refl, tt))))))))))))));
}
