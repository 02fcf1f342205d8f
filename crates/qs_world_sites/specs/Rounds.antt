-- The visits of a round, whom they are of, and when a round of all sites is quiet.
use Rattle.std.specs.Prelude.{◌≡◌, ℕ, Bool, false, not, ◌&&◌, List, Option, Some, None, slice_get, slice_set}
use Rattle.std.specs.List.{list_all, list_any}
use Rattle.qs_disk.specs.Disk.{DiskState}
use Rattle.qs_world_plans.specs.Order.{drawn_order}
use Rattle.qs_world_rounds.specs.Repeats.{AllVisits, RoundsBy}
use Rattle.qs_world_rounds.specs.Rounds as one
use Rattle.qs_world_rounds.specs.Rounds.{Cast, is_up}
use Rattle.qs_world_sites.specs.Sites.{AreCarried, SitesValue, count_of, has_packets}
use Rattle.qs_world_sites.specs.declared.turn.Turn.{Turn}
use Rattle.rand_pcg.specs.Lcg.{Lcg}

-- ---- visits; each says whether anything was done in it

-- at that place of the site, where there is such a site; all others are as they were
abbrev pub VisitOfSite : {D : Type 0} → Type 0 → (D → DiskState) → (D → ℕ) → (D → ℕ) → Turn → Option (Cast D) → List (Cast D) → List (Cast D) → Bool → Type 0
VisitOfSite told state own size turn None old new did = (new ≡ old) × (did ≡ false)
VisitOfSite told state own size turn (Some site) old new did = (after : Cast _) × (one.VisitAt told state own size turn.place site after did × (new ≡ slice_set old turn.site after))

abbrev pub VisitOfTurn : {D : Type 0} → Type 0 → (D → DiskState) → (D → ℕ) → (D → ℕ) → Option Turn → List (Cast D) → List (Cast D) → Bool → Type 0
VisitOfTurn told state own size None old new did = (new ≡ old) × (did ≡ false)
VisitOfTurn told state own size (Some turn) old new did = VisitOfSite told state own size turn (slice_get old turn.site) old new did

-- whom the place means
abbrev pub VisitAt : {D : Type 0} → Type 0 → (D → DiskState) → (D → ℕ) → (D → ℕ) → ℕ → SitesValue D → SitesValue D → Bool → Type 0
VisitAt told state own size place old new did = VisitOfTurn told state own size (slice_get old.turns place) old.sites new.sites did × (new.turns ≡ old.turns)

abbrev pub VisitAll : {D : Type 0} → Type 0 → (D → DiskState) → (D → ℕ) → (D → ℕ) → List ℕ → SitesValue D → SitesValue D → Bool → Type 0
VisitAll told state own size places old new did = AllVisits (VisitAt told state own size) places old new did

-- ---- a round

abbrev pub all_up : {D : Type 0} → SitesValue D → Bool
all_up all = list_all (λ site. is_up site.node) all.sites

abbrev pub any_packets : {D : Type 0} → SitesValue D → Bool
any_packets all = list_any has_packets all.sites

-- what stood in the lanes and on the links is carried, and each actor is visited; the round is quiet where each node was up as it began, no packet stood on a
-- link, and nothing was done in it
pub record IsRound {D : Type 0} (told : Type 0) (state : D → DiskState) (own size : D → ℕ) (order : List ℕ) (old new : SitesValue D) (quiet : Bool) : Type 0 where
  pub carried : SitesValue D
  pub carries : AreCarried old.sites carried.sites
  pub turns : carried.turns ≡ old.turns
  pub did : Bool
  pub visits : VisitAll told state own size order carried new did
  pub quiet_is : quiet ≡ (all_up old && (not (any_packets carried) && not did))

-- so many rounds, in orders that are drawn one after the other
abbrev pub Rounds : {D : Type 0} → Type 0 → (D → DiskState) → (D → ℕ) → (D → ℕ) → Lcg → ℕ → SitesValue D → SitesValue D → Lcg → Type 0
Rounds told state own size rng n old new later = RoundsBy drawn_order count_of (IsRound told state own size) rng n old new later

-- ---- where the actors stand

-- each script has ended
abbrev pub all_ended : {D : Type 0} → SitesValue D → Bool
all_ended all = list_all one.all_ended all.sites

-- and no transaction is unended at a node
abbrev pub are_settled : {D : Type 0} → SitesValue D → Bool
are_settled all = list_all one.are_settled all.sites
