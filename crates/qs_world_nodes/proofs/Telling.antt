-- What the cells of sites in the world tell, merged, is traced.
use Rattle.std.proofs.Common.{subst, sym, ℕ, List, arith, slice_get, ◌≡◌, Some}
use Rattle.std.specs.Global.{Global}
use Rattle.qs_base.specs.declared.identifiers.NodeNo.{NodeNo}
use Rattle.qs_book_script.specs.declared.script.Script.{Script}
use Rattle.qs_disk.specs.Disk.{DiskState}
use Rattle.qs_link.specs.declared.outgoing.LinkFault.{LinkFault}
use Rattle.qs_world.specs.World.{Opening}
use Rattle.qs_world_merge.specs.Observed.{AreOfLocalRuns, IsOfLocalRun}
use Rattle.qs_world_nodes.proofs.Beginning.{each_begins}
use Rattle.qs_world_nodes.proofs.Keeping.{each_cells}
use Rattle.qs_world_nodes.proofs.Places.{found}
use Rattle.qs_world_nodes.proofs.Refused.{each_refused}
use Rattle.qs_world_nodes.proofs.Rounds.{each_cut, each_ending, each_rounds}
use Rattle.qs_world_nodes.specs.Nodes.{AreCellsIn, journal_at, journal_by, plans_of, trace_at, trace_by}
use Rattle.qs_world_nodes.specs.Running.{CellsAreTraced, CutShortIsTraced, EndingsAreTraced, RefusedIsTraced, RoundsAreTraced, SitesAreTraced}
use Rattle.qs_world_plans.specs.Order.{drawn_order, seeded}
use Rattle.qs_world_rounds.specs.Rounds.{Cast}
use Rattle.qs_world_rounds.specs.declared.rounds.Ending.{Ending}
use Rattle.qs_world_seats.proofs.Cellular.{each_cell_tells}
use Rattle.qs_world_sites.specs.Sites.{SitesValue, count_of}
use Rattle.qs_world_traces.proofs.TracesRun.{each_traced}
use Rattle.qs_world_traces.specs.Links.{observed_by}
use Rattle.rand_pcg.specs.Lcg.{Lcg}

module _ {D : Type 0} (told : Type 0) (state : D → DiskState) (o : Opening) (plans : ℕ → ℕ → List LinkFault) (sites : List (Cast D)) (are : AreCellsIn told state o plans sites) where
  -- each tells of a local run
  tells_at : (n : ℕ) (a : Cast D) → slice_get sites n ≡ Some a → IsOfLocalRun o n (observed_by (journal_at sites n) (trace_at sites n))
  tells_at n a is = subst (λ (x : _). IsOfLocalRun o n (observed_by (journal_by x) (trace_by x))) (sym is) (each_cell_tells told state o n a.node.seat.node (are.each n a is))

  pub local : AreOfLocalRuns o (λ n. observed_by (journal_at sites n) (trace_at sites n))
  local n low = by (found sites n (omega (arith, low, are.count)))
    where
      by : (a : Cast D) × (slice_get sites n ≡ Some a) → IsOfLocalRun o n (observed_by (journal_at sites n) (trace_at sites n))
      by (a, is) = tells_at n a is

pub each_cells_traced : {D : Type 0} (told : Type 0) (state : D → DiskState) (o : Opening) (plans : ℕ → ℕ → List LinkFault) (sites : List (Cast D)) → CellsAreTraced told state o plans sites
each_cells_traced told state o plans sites are journal trace entries steps =
    each_traced o plans (journal_at sites) (trace_at sites) (local told state o plans sites are) are.keep journal trace entries steps

pub each_sites_traced : {D : Type 0} (told : Type 0) (state : D → DiskState) (o : Opening) (plans : ℕ → ℕ → List LinkFault) (sites : List (Cast D)) → SitesAreTraced told state o plans sites
each_sites_traced told state o plans sites are = each_cells_traced told state o plans sites (each_cells told state o plans sites are)

-- ---- of a run that has begun

module _ {D : Type 0} (told : Type 0) (state : D → DiskState) (own size : D → ℕ) (alloc : Global) (script : Script) (disks : List D) (o : Opening) where
  pub each_rounds_traced : (rng : Lcg) (n : ℕ) (all new : SitesValue D) (later : Lcg) → RoundsAreTraced told state own size alloc script disks o rng n all new later
  each_rounds_traced rng n all new later t begun opens rounds =
      each_sites_traced told state o (plans_of script) new.sites (each_rounds told state own size o (plans_of script) rng n all new later t rounds (each_begins told state own alloc script disks all o t begun opens))

  pub each_ending_traced : (seed : ℕ) (all new : SitesValue D) (ending : Ending) → EndingsAreTraced told state own size alloc script disks o seed all new ending
  each_ending_traced seed all new ending t begun opens is =
      each_sites_traced told state o (plans_of script) new.sites (each_ending told state own size o (plans_of script) script seed all new ending t is (each_begins told state own alloc script disks all o t begun opens))

  pub each_cut_traced : (seed : ℕ) (node : NodeNo) (all new : SitesValue D) → CutShortIsTraced told state own size alloc script disks o seed node all new
  each_cut_traced seed node all new t begun opens is =
      each_sites_traced told state o (plans_of script) new.sites (each_cut told state own size o (plans_of script) seed node all new t is (each_begins told state own alloc script disks all o t begun opens))

  pub each_refused_traced : (seed : ℕ) (all new : SitesValue D) → RefusedIsTraced told state own size alloc script disks o seed all new
  each_refused_traced seed all new t begun opens out =
      each_cells_traced told state o (plans_of script) new.sites
      (each_refused told state own size o (plans_of script) (drawn_order (count_of out.before) out.drawn).0 out.before new t out.refused
      (each_rounds told state own size o (plans_of script) (seeded seed) out.rounds all out.before out.drawn t out.earlier (each_begins told state own alloc script disks all o t begun opens)))
