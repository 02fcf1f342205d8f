-- The numbers of the links, at any place. They hold in every world.
use Rattle.std.proofs.Common.{◌≡◌, ℕ, ◌<◌, ◌≤◌, true}
use Rattle.qs_world_agree.specs.World.{World}

pub record Counts (w : World) : Type 0 where
  pub last_received : (q p : ℕ) → w.last q p ≤ w.received q p  -- the last request is one that was handed up
  pub received_posted : (q p : ℕ) → w.received q p ≤ w.posted p q  -- what is handed up was put
  pub posted_sent : (p q : ℕ) → w.posted p q ≤ w.sent p (w.node q)  -- what is put was sent
  pub posted_all : (p q : ℕ) → w.peer p (w.node q) ≡ q → 1 ≤ q → w.posted p q ≡ w.sent p (w.node q)  -- for the place that is known all was put
  pub posted_known : (p q : ℕ) → w.peer p (w.node q) < q → w.posted p q ≡ 0  -- for a later one nothing
  pub posted_none : (p : ℕ) → w.posted p 0 ≡ 0  -- for no place nothing
  pub peer_node : (p m : ℕ) → 1 ≤ w.peer p m → w.node (w.peer p m) ≡ m  -- who is known as a node's place is one
  pub peer_present : (p m : ℕ) → w.peer p m ≤ w.present m  -- and no later than its present one
  pub up_present : (p : ℕ) → w.up p ≡ true → w.present (w.node p) ≡ p  -- what runs is its node's present place
  pub posted_old : (p q r : ℕ) → w.node r ≡ w.node q → r < q → 1 ≤ w.posted p q → w.posted p r ≤ w.received q p  -- what was put for an earlier incarnation is no news to a later one
  pub closer_last : (q p x : ℕ) → 1 ≤ x → x ≤ w.closers q p → w.closer q p x ≤ w.last q p  -- Covered and VotedYes count what was handed up
  pub covered_sent : (p m : ℕ) → w.covered p m ≤ w.sent p m  -- what is covered was sent
