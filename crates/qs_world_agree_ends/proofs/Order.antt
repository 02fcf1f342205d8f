-- When place k was engaged and said yes, and when its engager did, up to a moment now.
use Rattle.std.proofs.Common.{◌≡◌, ◌≢◌, ℕ, ◌<◌, ◌≤◌, true, false}
use Rattle.qs_world_agree.specs.World.{World}

pub record Order (w : World) (now : ℕ) (since said : ℕ → ℕ) (k : ℕ) : Type 0 where
  pub since_past : since k ≤ now  -- it was engaged before
  pub said_past : said k ≤ now  -- and said yes before
  pub away : 1 ≤ since k → w.node k ≢ w.node w.home  -- no place of the home's node is engaged by a request
  pub is_in : w.engaged k ≡ true → k ≢ w.home → 1 ≤ since k  -- who is engaged was engaged at some moment
  pub left : 1 ≤ since k → w.engaged k ≡ false → 1 ≤ said k  -- and who is no more has said yes
  pub superior : 1 ≤ since k → w.superior k ≡ w.node (w.engager k)  -- its superior is, or was last, the engager's node
  pub took : 1 ≤ since k → 1 ≤ w.last k (w.engager k)  -- it took a request of its engager
  pub was : 1 ≤ since k → w.engager k ≢ w.home → 1 ≤ since (w.engager k)  -- which was engaged itself, or is the home
  pub earlier : w.engaged k ≡ true → k ≢ w.home → w.engager k ≢ w.home → since (w.engager k) < since k  -- and before it
  pub later : 1 ≤ since k → w.engaged k ≡ false → w.engager k ≢ w.home → w.engaged (w.engager k) ≡ false → said k < said (w.engager k)  -- who said yes did so before its engager
