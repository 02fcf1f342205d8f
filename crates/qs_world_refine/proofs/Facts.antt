-- What the machine's invariant says of any world that it leads to.
use Rattle.qs_world_refine.proofs.Words.{◌≡◌, ℕ, ◌≤◌, Leads, IsLawful, Inv, lawful}
use Rattle.qs_world_agree.specs.World.{World}
use Rattle.qs_world_agree.proofs.Lawful.{inv_reached}
use Rattle.qs_world_agree.proofs.Carries.{reached_on}

pub invariant : (w : World) → IsLawful w → Inv w
invariant w l = inv_reached w l.reached

pub lawful_on : (w v : World) → IsLawful w → Leads w v → IsLawful v
lawful_on w v l go = lawful v (reached_on w v l.reached go)

pub posted_below : (w : World) → IsLawful w → (p q : ℕ) → w.posted p q ≤ w.sent p (w.node q)
posted_below w l = (invariant w l).counts.posted_sent

pub posted_all : (w : World) → IsLawful w → (p q : ℕ) → w.peer p (w.node q) ≡ q → 1 ≤ q → w.posted p q ≡ w.sent p (w.node q)
posted_all w l = (invariant w l).counts.posted_all
