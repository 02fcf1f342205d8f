-- A vote in doubt that an earlier run left, of which the home's log has no Commit, is aborted, step by step.
use Rattle.std.proofs.Common.{◌+◌, ◌==◌, true, false, refl, arith, if◌then◌else◌}
use Rattle.std.proofs.lemmas.Bool.Decides.{nat_tests}
use Rattle.qs_world_agree.specs.World.{Aborted, World, with_at, with_at2}
use Rattle.qs_world_agree.specs.Origins.{reopened}
use Rattle.qs_world_agree.specs.Guards.{names}
use Rattle.qs_world_agree.specs.Step.{Abort_logged, Answer_abort, Inquire, Learn_abort, Meet, Step}
use Rattle.qs_world_agree.specs.Runs.{left_over, LeftDoubt}
use Rattle.qs_world_agree.proofs.Opens.{reopens}

abbrev w0 : World
w0 = reopened (left_over false)

abbrev w1 : World
w1 = record w0 {
  peer = with_at2 w0.peer 5 (w0.node 6) 6;
  posted = with_at2 w0.posted 5 6 (w0.sent 5 (w0.node 6));
  inquiry_put = with_at2 w0.inquiry_put 5 6 (w0.inquiries 5);
}

s1 : Step (Meet 5 6) w0 w1
s1 = grind (arith, nat_tests)

abbrev w2 : World
w2 = record w1 {
  peer = with_at2 w1.peer 6 (w1.node 5) 5;
  posted = with_at2 w1.posted 6 5 (w1.sent 6 (w1.node 5));
  inquiry_put = with_at2 w1.inquiry_put 6 5 (w1.inquiries 6);
}

s2 : Step (Meet 6 5) w1 w2
s2 = grind (arith, nat_tests)

abbrev w3 : World
w3 = record w2 {
  inquiries = with_at w2.inquiries 6 (w2.inquiries 6 + 1);
  inquiry_put = if w2.peer 6 (w2.node w2.home) == 0 then w2.inquiry_put else with_at2 w2.inquiry_put 6 (w2.peer 6 (w2.node w2.home)) (w2.inquiries 6 + 1);
}

s3 : Step (Inquire 6) w2 w3
s3 = grind (arith, nat_tests)

abbrev w4 : World
w4 = record w3 {
  outcome = with_at w3.outcome 5 Aborted;
  tell_abort = with_at w3.tell_abort (w3.node 6) true;
  to_tell = with_at2 w3.to_tell 5 (w3.node 6) true;
  inquiry_taken = with_at2 w3.inquiry_taken 5 6 (w3.inquiry_taken 5 6 + 1);
}

s4 : Step (Answer_abort 5 6) w3 w4
s4 = grind (arith, nat_tests)

abbrev w5 : World
w5 = record w4 {
  outcome = with_at w4.outcome 6 Aborted;
  named = with_at w4.named 6 (names w4 6);
  learnt_abort = with_at w4.learnt_abort (w4.node 6) true;
}

s5 : Step (Learn_abort 6) w4 w5
s5 = grind (arith, nat_tests)

abbrev w6 : World
w6 = record w5 { prepared = with_at w5.prepared (w5.node 6) (λ s. false) }

s6 : Step (Abort_logged 6) w5 w6
s6 = grind (arith, nat_tests)

pub shown : LeftDoubt
shown = record { opens = reopens false; new = w6; run = (w1, s1, (w2, s2, (w3, s3, (w4, s4, (w5, s5, (w6, s6, refl)))))); cell = refl; learnt = refl; known = (refl, refl); prepared = refl }
