-- A Commit that an earlier run left is told and ended, step by step.
use Rattle.std.proofs.Common.{◌+◌, ◌==◌, true, false, refl, arith, if◌then◌else◌}
use Rattle.std.proofs.lemmas.Bool.Decides.{nat_tests}
use Rattle.qs_world_agree.specs.World.{Committed, World, with_at, with_at2}
use Rattle.qs_world_agree.specs.Origins.{reopened}
use Rattle.qs_world_agree.specs.Step.{Acknowledge, Answer_commit, End, Inquire, Learn, Meet, Take_told, Tell, Step}
use Rattle.qs_world_agree.specs.Runs.{left_over, LeftCommit}
use Rattle.qs_world_agree.proofs.Opens.{reopens}

abbrev w0 : World
w0 = reopened (left_over true)

abbrev w1 : World
w1 = record w0 {
  peer = with_at2 w0.peer 5 (w0.node 6) 6;
  posted = with_at2 w0.posted 5 6 (w0.sent 5 (w0.node 6));
  inquiry_put = with_at2 w0.inquiry_put 5 6 (w0.inquiries 5);
}

s1 : Step (Meet 5 6) w0 w1
s1 = grind (arith, nat_tests)

abbrev w2 : World
w2 = record w1 {
  peer = with_at2 w1.peer 6 (w1.node 5) 5;
  posted = with_at2 w1.posted 6 5 (w1.sent 6 (w1.node 5));
  inquiry_put = with_at2 w1.inquiry_put 6 5 (w1.inquiries 6);
}

s2 : Step (Meet 6 5) w1 w2
s2 = grind (arith, nat_tests)

abbrev w3 : World
w3 = record w2 { tell_commit = with_at w2.tell_commit 1 true }

s3 : Step (Tell 5 1) w2 w3
s3 = grind (arith, nat_tests)

abbrev w4 : World
w4 = record w3 {
  inquiries = with_at w3.inquiries 6 (w3.inquiries 6 + 1);
  inquiry_put = if w3.peer 6 (w3.node w3.home) == 0 then w3.inquiry_put else with_at2 w3.inquiry_put 6 (w3.peer 6 (w3.node w3.home)) (w3.inquiries 6 + 1);
}

s4 : Step (Inquire 6) w3 w4
s4 = grind (arith, nat_tests)

abbrev w5 : World
w5 = record w4 {
  outcome = with_at w4.outcome 6 Committed;
  prepared = with_at w4.prepared (w4.node 6) (λ s. false);
  ack_put = with_at w4.ack_put 6 true;
  learnt_commit = with_at w4.learnt_commit (w4.node 6) true;
}

s5 : Step (Learn 6) w4 w5
s5 = grind (arith, nat_tests)

abbrev w6 : World
w6 = record w5 { tell_commit = with_at w5.tell_commit (w5.node 6) true; inquiry_taken = with_at2 w5.inquiry_taken 5 6 (w5.inquiry_taken 5 6 + 1) }

s6 : Step (Answer_commit 5 6) w5 w6
s6 = grind (arith, nat_tests)

abbrev w7 : World
w7 = record w6 { ack_put = with_at w6.ack_put 6 true }

s7 : Step (Acknowledge 6) w6 w7
s7 = grind (arith, nat_tests)

abbrev w8 : World
w8 = record w7 { acknowledged = with_at w7.acknowledged (w7.node 6) true }

s8 : Step (Take_told 5 6) w7 w8
s8 = grind (arith, nat_tests)

abbrev w9 : World
w9 = record w8 {
  peer = with_at2 w8.peer 5 (w8.node 7) 7;
  posted = with_at2 w8.posted 5 7 (w8.sent 5 (w8.node 7));
  inquiry_put = with_at2 w8.inquiry_put 5 7 (w8.inquiries 5);
}

s9 : Step (Meet 5 7) w8 w9
s9 = grind (arith, nat_tests)

abbrev w10 : World
w10 = record w9 {
  peer = with_at2 w9.peer 7 (w9.node 5) 5;
  posted = with_at2 w9.posted 7 5 (w9.sent 7 (w9.node 5));
  inquiry_put = with_at2 w9.inquiry_put 7 5 (w9.inquiries 7);
}

s10 : Step (Meet 7 5) w9 w10
s10 = grind (arith, nat_tests)

abbrev w11 : World
w11 = record w10 { tell_commit = with_at w10.tell_commit 2 true }

s11 : Step (Tell 5 2) w10 w11
s11 = grind (arith, nat_tests)

abbrev w12 : World
w12 = record w11 { ack_put = with_at w11.ack_put 7 true }

s12 : Step (Acknowledge 7) w11 w12
s12 = grind (arith, nat_tests)

abbrev w13 : World
w13 = record w12 { acknowledged = with_at w12.acknowledged (w12.node 7) true }

s13 : Step (Take_told 5 7) w12 w13
s13 = grind (arith, nat_tests)

abbrev w14 : World
w14 = record w13 { unended = false }

s14 : Step (End 5) w13 w14
s14 = grind (arith, nat_tests)

pub shown : LeftCommit
shown = record { opens = reopens true; new = w14; run = (w1, s1, (w2, s2, (w3, s3, (w4, s4, (w5, s5, (w6, s6, (w7, s7, (w8, s8, (w9, s9, (w10, s10, (w11, s11, (w12, s12, (w13, s13, (w14, s14, refl)))))))))))))); cell = refl; learnt = (refl, refl); acknowledged = (refl, refl); ended = (refl, refl) }
