-- A round that is cut short: the disk of a node failed as the node was started again, or memory was refused.
use Rattle.std.specs.Prelude.{◌≡◌, ◌⊎◌, ℕ, List, Option, Some, None, slice_get, slice_set}
use Rattle.qs_base.specs.Causes.{Rose}
use Rattle.qs_base.specs.declared.identifiers.NodeNo.{NodeNo}
use Rattle.qs_disk.specs.Disk.{DiskState}
use Rattle.qs_world_rounds.specs.Breaks as one
use Rattle.qs_world_rounds.specs.Breaks.{own_faults}
use Rattle.qs_world_rounds.specs.Repeats.{VisitsUpTo}
use Rattle.qs_world_rounds.specs.Rounds.{Cast}
use Rattle.qs_world_sites.specs.Rounds.{VisitAt}
use Rattle.qs_world_sites.specs.Sites.{AreCarried, Each, HasSameCell, SitesValue, links_of}
use Rattle.qs_world_sites.specs.declared.turn.Turn.{Turn}

-- P of the site whose turn the place means, before and after; all others are as they were
abbrev pub OfSite : {D : Type 0} → (ℕ → Cast D → Cast D → Type 0) → Turn → Option (Cast D) → List (Cast D) → List (Cast D) → Type 0
OfSite P turn None old new = ⊥
OfSite P turn (Some site) old new = (after : Cast _) × (P turn.place site after × (new ≡ slice_set old turn.site after))

abbrev pub OfTurn : {D : Type 0} → (ℕ → Cast D → Cast D → Type 0) → Option Turn → List (Cast D) → List (Cast D) → Type 0
OfTurn P None old new = ⊥
OfTurn P (Some turn) old new = OfSite P turn (slice_get old turn.site) old new

-- the disk of that node failed
pub record FailsHere {D : Type 0} (told : Type 0) (state : D → DiskState) (own size : D → ℕ) (node : NodeNo) (place : ℕ) (old new : Cast D) : Type 0 where
  pub fails : one.FailsAt told state own size place old new
  pub node_is : node ≡ (links_of old).me

abbrev pub FailsAt : {D : Type 0} → Type 0 → (D → DiskState) → (D → ℕ) → (D → ℕ) → NodeNo → ℕ → SitesValue D → SitesValue D → Type 0
FailsAt told state own size node place old new = OfTurn (FailsHere told state own size node) (slice_get old.turns place) old.sites new.sites × (new.turns ≡ old.turns)

abbrev pub RefusedAt : {D : Type 0} → Type 0 → (D → DiskState) → (D → ℕ) → (D → ℕ) → ℕ → SitesValue D → SitesValue D → Type 0
RefusedAt told state own size place old new = OfTurn (one.RefusedAt told state own size) (slice_get old.turns place) old.sites new.sites × (new.turns ≡ old.turns)

-- those before a place were visited, and this came of the visit there
abbrev pub VisitsUntil : {D : Type 0} → Type 0 → (D → DiskState) → (D → ℕ) → (D → ℕ) → (ℕ → SitesValue D → SitesValue D → Type 0) → List ℕ → SitesValue D → SitesValue D → Type 0
VisitsUntil told state own size Comes places old new = VisitsUpTo (VisitAt told state own size) Comes places old new

-- the count of that node's disk rose since it was handed in
pub record HasRisen {D : Type 0} (own : D → ℕ) (node : NodeNo) (old new : List (Cast D)) : Type 0 where
  pub before : Cast D
  pub after : Cast D
  pub before_is : slice_get old node.0 ≡ Some before
  pub after_is : slice_get new node.0 ≡ Some after
  pub rose : Rose before.node.faults (own_faults own after.node)

pub record BreaksRound {D : Type 0} (told : Type 0) (state : D → DiskState) (own size : D → ℕ) (order : List ℕ) (node : NodeNo) (old new : SitesValue D) : Type 0 where
  pub carried : SitesValue D
  pub carries : AreCarried old.sites carried.sites
  pub turns : carried.turns ≡ old.turns
  pub visits : VisitsUntil told state own size (FailsAt told state own size node) order carried new
  pub rose : HasRisen own node old.sites new.sites

-- ---- memory was refused

-- in a visit, behind those before it
pub record IsRefusedIn {D : Type 0} (told : Type 0) (state : D → DiskState) (own size : D → ℕ) (order : List ℕ) (old new : SitesValue D) : Type 0 where
  pub carried : SitesValue D
  pub carries : AreCarried old.sites carried.sites
  pub turns : carried.turns ≡ old.turns
  pub visits : VisitsUntil told state own size (RefusedAt told state own size) order carried new

-- as the round began, so that each node is as it was, or in a visit
abbrev pub RefusesRound : {D : Type 0} → Type 0 → (D → DiskState) → (D → ℕ) → (D → ℕ) → List ℕ → SitesValue D → SitesValue D → Type 0
RefusesRound told state own size order old new = Each HasSameCell old.sites new.sites ⊎ IsRefusedIn told state own size order old new
