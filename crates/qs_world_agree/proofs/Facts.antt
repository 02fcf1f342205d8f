-- Facts that single events need beside their own record.
use Rattle.std.proofs.Common.{◌≡◌, ◌≢◌, ◌⊎◌, ℕ, ◌+◌, ◌<◌, ◌≤◌, true, false, sym, subst, arith, ap, ◌∙◌}
use Rattle.qs_world_agree.specs.World.{Open, Committed, World}
use Rattle.qs_world_agree.specs.Guards.{MayIssue, NextAt, VoteDue, IsReady}
use Rattle.qs_world_agree.proofs.Counts.{Counts}
use Rattle.qs_world_agree.proofs.Servers.{Servers}
use Rattle.qs_world_agree.proofs.Outcomes.{Outcomes}
use Rattle.qs_world_agree.proofs.Keeps.{Keeps}
use Rattle.qs_world_agree.proofs.Tree.{Tree, engaged_open, issuer_engaged, voter_engaged}
use Rattle.qs_world_agree.proofs.Orphans.{Orphans}
use Rattle.qs_world_agree.proofs.Doubt.{Doubt}
use Rattle.qs_world_agree.proofs.Knows.{Knows}

-- the home that is ready has decided nothing
pub home_open : (w : World) → ((k : ℕ) → Keeps w k) → w.up w.home ≡ true → w.outcome w.home ≡ Open → w.cell ≡ Open
home_open w y up unknown = sym ((y w.home).home_keeps up) ∙ unknown

pub decides : (w : World) → ((k : ℕ) → Keeps w k) → IsReady w w.home → w.cell ≡ Open
decides w y r = home_open w y r.up r.unknown

-- who issues or votes does so before a commit
pub issue_open : (w : World) (p : ℕ) → Tree w → MayIssue w p → w.cell ≢ Committed
issue_open w p t s = engaged_open w p t (issuer_engaged w p t s)

pub vote_open : (w : World) (q i : ℕ) → Servers w q i → Tree w → VoteDue w q i → w.cell ≢ Committed
vote_open w q i x t s = engaged_open w q t (voter_engaged w q i x t s)

-- one place of a node runs
pub one_place : (w : World) (p k : ℕ) → Counts w → w.up p ≡ true → w.up k ≡ true → w.node k ≡ w.node p → k ≡ p
one_place w p k c up on same = let a = c.up_present p up in let b = c.up_present k on in cc (a, b, ap w.present same)

-- while nothing is decided the home's node runs the home
pub home_place : (w : World) (k : ℕ) → Counts w → Tree w → w.cell ≡ Open → w.up k ≡ true → w.node k ≡ w.node w.home → k ≡ w.home
home_place w k c t is on same = let a = t.home.home_present is in let b = c.up_present k on in cc (a, b, ap w.present same)

-- before a commit nobody acknowledges it, and no log holds it
pub quiet : (w : World) (k : ℕ) → Outcomes w → w.cell ≢ Committed → w.ack_put k ≡ false
quiet w k o stop = grind (arith, o.answered k, stop)

pub fresh : (w : World) (n : ℕ) → Outcomes w → w.cell ≡ Open → w.acknowledged n ≡ false
fresh w n o is = grind (arith, o.acks n, is)

pub no_record : (w : World) → Outcomes w → w.cell ≡ Open → w.commit_logged ≡ false
no_record w o is = grind (arith, o.logged, is)

pub not_orphaned : (w : World) → Tree w → Orphans w → w.cell ≡ Committed → w.orphaned ≡ false
not_orphaned w t d is = grind (arith, d.above, (t.at w.orphaned_by).committed is)

-- an Inquire that waited is put for a place of the home's node that is met: that place knows the commit
pub meets : (w : World) (p q : ℕ) → Outcomes w → Tree w → Orphans w → Doubt w p → Knows w q → w.up p ≡ true → w.node q ≢ w.node p → w.peer p (w.node q) ≡ 0
    → w.cell ≡ Committed → w.up q ≡ true → w.node q ≡ w.node w.home → 1 ≤ w.inquiries p → w.outcome q ≡ Committed
meets w p q o t d b k up other new is on same asked =
    let away : w.node p ≢ w.node w.home = λ e. other (same ∙ sym e) in
    let unknown : w.outcome p ≡ Open = b.unmet away (subst (λ (m : ℕ). w.peer p m ≡ 0) same new) in
    k.knows is (o.stands (b.in_doubt is up (involved w p (b.asks asked) (not_orphaned w t d is)) unknown away).0) on same
  where
    involved : (w : World) (p : ℕ) → (w.involved p ≡ true) ⊎ (w.orphaned ≡ true) → w.orphaned ≡ false → w.involved p ≡ true
    involved w p either off = grind (arith, either, off)

-- numbers on a link
pub closer_received : (w : World) (q p x : ℕ) → Counts w → 1 ≤ x → x ≤ w.closers q p → w.closer q p x ≤ w.received q p
closer_received w q p x c from to = omega (arith, c.closer_last q p x from to, c.last_received q p)

pub next_closer : (w : World) (p q : ℕ) → Counts w → w.closers_taken p q < w.closers q p → w.closer q p (w.closers_taken p q + 1) ≤ w.posted p q
next_closer w p q c more = omega (arith, c.closer_last q p (w.closers_taken p q + 1) (omega arith) (omega arith), c.last_received q p, c.received_posted q p)

pub old_received : (w : World) (p q r : ℕ) → Counts w → NextAt w q p → w.node r ≡ w.node q → r < q → w.posted p r ≤ w.received q p
old_received w p q r c s same below = c.posted_old p q r same below (omega (arith, s.2))

pub known_now : (w : World) (p q : ℕ) → Counts w → NextAt w q p → w.peer p (w.node q) ≤ q
known_now w p q c s = omega (arith, c.peer_present p (w.node q), c.up_present q s.0)

pub born : (w : World) (p : ℕ) → Counts w → w.up p ≡ true → p ≤ w.present (w.node p)
born w p c on = omega (arith, c.up_present p on)

-- a superior that is known as a later place than the engager has restarted
pub lost_below : (w : World) (p : ℕ) → w.superior p ≡ w.node (w.engager p) → w.peer p (w.superior p) ≤ w.present (w.superior p) → w.engager p < w.peer p (w.superior p) → w.engager p < w.present (w.node (w.engager p))
lost_below w p a b d = grind arith
