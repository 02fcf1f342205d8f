-- A face that is ready is a place that is.
use Rattle.qs_world_refine.proofs.Words.{◌≡◌, ℕ, ◌+◌, ◌≤◌, arith, ◌∙◌, Face, ShowsFace, ShowsOpen, FaceReady}
use Rattle.qs_world_agree.specs.World.{World}
use Rattle.qs_world_agree.specs.Guards.{IsReady}

pub is_ready : (f : Face) (q : ℕ) (w : World) → ((m : ℕ) → w.covered q m ≤ w.sent q m) → ShowsFace f q w → FaceReady f q w → IsReady w q
is_ready f q w counts i r = record {
  up = i.up;
  engaged = i.engaged ∙ r.on;
  asked = o.asked ∙ r.asked;
  unknown = i.outcome ∙ r.undecided;
  refused = o.refused r.free;
  gone = o.gone r.free;
  abort_vote = o.abort_vote r.free;
  loans = o.loans ∙ r.loans;
  served = λ s. served s (o.waits s) (r.waits s);
  voted = λ s votes. voted s (o.uncast s votes) (r.voted s votes) (o.waits s) (r.waits s);
  covered = λ m. covered m (o.covered m) (i.sent (λ is. cc (is, r.undecided)) m) (r.covered m) (counts m);
}
  where
    o : ShowsOpen f q w
    o = i.running r.undecided

    served : (s : ℕ) → w.arrived q s ≡ w.served q s + f.waits s → f.waits s ≡ 0 → w.served q s ≡ w.arrived q s
    served s a b = omega (arith, a, b)

    voted : (s : ℕ) → w.served q s ≡ w.voted q s + f.uncast s → f.uncast s ≡ 0 → w.arrived q s ≡ w.served q s + f.waits s → f.waits s ≡ 0 → w.voted q s ≡ w.arrived q s
    voted s a b c d = omega (arith, a, b, c, d)

    covered : (m : ℕ) → w.covered q m ≡ f.covered m → w.sent q m ≡ f.sent m → f.sent m ≤ f.covered m → w.covered q m ≤ w.sent q m → w.covered q m ≡ w.sent q m
    covered m a b c d = omega (arith, a, b, c, d)
