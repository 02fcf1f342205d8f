-- Rounds leave the sites in the world, to their end.
use Rattle.std.proofs.Common.{◌≡◌, ℕ, Bool, List, Some, slice_get, slice_set}
use Rattle.qs_base.specs.declared.identifiers.NodeNo.{NodeNo}
use Rattle.qs_book_script.specs.declared.script.Script.{Script}
use Rattle.qs_disk.specs.Disk.{DiskState}
use Rattle.qs_link.specs.declared.outgoing.LinkFault.{LinkFault}
use Rattle.qs_world.specs.World.{Opening}
use Rattle.qs_world_nodes.proofs.Carrying.{each_carries}
use Rattle.qs_world_nodes.proofs.Visiting.{site_failed, site_visited}
use Rattle.qs_world_nodes.proofs.Walking.{broken_keeps, cut_keeps, ending_keeps, round_keeps, rounds_keep, visits_keep}
use Rattle.qs_world_nodes.specs.Nodes.{AreSitesIn}
use Rattle.qs_world_nodes.specs.Running.{BrokenRoundKeeps, RoundKeeps, RoundsKeep, VisitsKeep}
use Rattle.qs_world_rounds.specs.Breaks.{FailsAt}
use Rattle.qs_world_rounds.specs.Rounds.{Cast, VisitAt}
use Rattle.qs_world_rounds.specs.declared.rounds.Ending.{Ending}
use Rattle.qs_world_sites.specs.Endings.{IsCutShort, IsEnding}
use Rattle.qs_world_sites.specs.Sites.{SitesValue}
use Rattle.rand_pcg.specs.Lcg.{Lcg}

module _ {D : Type 0} (told : Type 0) (state : D → DiskState) (own size : D → ℕ) (o : Opening) (plans : ℕ → ℕ → List LinkFault) where
  abbrev Are : List (Cast D) → Type 0
  Are sites = AreSitesIn told state o plans sites

  visited : told → (olds : List (Cast D)) (k place : ℕ) (site after : Cast D) (did : Bool) → slice_get olds k ≡ Some site → VisitAt told state own size place site after did → Are olds → Are (slice_set olds k after)
  visited t olds k place site after did got visit was = site_visited told state own size o plans olds k site after got was place did t visit

  failed : told → (olds : List (Cast D)) (k place : ℕ) (site after : Cast D) → slice_get olds k ≡ Some site → FailsAt told state own size place site after → Are olds → Are (slice_set olds k after)
  failed t olds k place site after got fails was = site_failed told state own size o plans olds k site after got was place t fails

  pub each_visits : (places : List ℕ) (old new : SitesValue D) (did : Bool) → VisitsKeep told state own size o plans places old new did
  each_visits places old new did t visits was = visits_keep told state own size Are (visited t) places old new did visits was

  pub each_round : (order : List ℕ) (old new : SitesValue D) (quiet : Bool) → RoundKeeps told state own size o plans order old new quiet
  each_round order old new quiet t r was = round_keeps told state own size Are (visited t) (each_carries told state o plans) order old new quiet r was

  pub each_rounds : (rng : Lcg) (n : ℕ) (old new : SitesValue D) (later : Lcg) → RoundsKeep told state own size o plans rng n old new later
  each_rounds rng n old new later t rounds was = rounds_keep told state own size Are (visited t) (each_carries told state o plans) rng n old new later rounds was

  pub each_broken : (order : List ℕ) (node : NodeNo) (old new : SitesValue D) → BrokenRoundKeeps told state own size o plans order node old new
  each_broken order node old new t b was = broken_keeps told state own size Are (visited t) (each_carries told state o plans) (failed t) order node old new b was

  -- ---- as they end, and where one is cut short

  pub each_ending : (script : Script) (seed : ℕ) (old new : SitesValue D) (ending : Ending) → told → IsEnding told state own size script seed old new ending → Are old.sites → Are new.sites
  each_ending script seed old new ending t is was = ending_keeps told state own size Are (visited t) (each_carries told state o plans) script seed old new ending is was

  pub each_cut : (seed : ℕ) (node : NodeNo) (old new : SitesValue D) → told → IsCutShort told state own size seed node old new → Are old.sites → Are new.sites
  each_cut seed node old new t is was = cut_keeps told state own size Are (visited t) (each_carries told state o plans) (failed t) seed node old new is was
