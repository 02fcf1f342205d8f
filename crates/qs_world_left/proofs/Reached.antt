-- After any rounds of a run that has begun over coherent logs its sites are in a world that a run may begin with.
use Rattle.std.proofs.Common.{ℕ, List, length}
use Rattle.std.specs.Global.{Global}
use Rattle.qs_base.specs.declared.identifiers.NodeNo.{NodeNo}
use Rattle.qs_book_script.specs.declared.script.Script.{Script}
use Rattle.qs_disk.specs.Disk.{DiskState}
use Rattle.qs_world.specs.Openings.{IsOpening}
use Rattle.qs_world.specs.World.{Opening}
use Rattle.qs_world_nodes.proofs.Beginning.{each_begins}
use Rattle.qs_world_nodes.proofs.Histories.{each_may_begin}
use Rattle.qs_world_nodes.proofs.Opened.{each_opening}
use Rattle.qs_world_nodes.proofs.Refused.{each_refused}
use Rattle.qs_world_nodes.proofs.Rounds.{each_cut, each_ending, each_rounds}
use Rattle.qs_world_nodes.specs.Lawful.{HaveCoherentLogs}
use Rattle.qs_world_nodes.specs.Nodes.{AreCellsIn, AreSitesIn, plans_of}
use Rattle.qs_world_nodes.specs.Openings.{SitOnce, opening_over}
use Rattle.qs_world_opening.specs.Scripts.{Fits, MayBegin}
use Rattle.qs_world_plans.specs.Order.{drawn_order, seeded}
use Rattle.qs_world_rounds.specs.declared.rounds.Ending.{Ending}
use Rattle.qs_world_sites.specs.Endings.{IsCutShort, IsEnding, IsOutOfMemory}
use Rattle.qs_world_sites.specs.Rounds.{Rounds}
use Rattle.qs_world_sites.specs.Seats.{HasBegun}
use Rattle.qs_world_sites.specs.Sites.{SitesValue, count_of}
use Rattle.rand_pcg.specs.Lcg.{Lcg}

pub record AreReached {D : Type 0} (told : Type 0) (state : D → DiskState) (alloc : Global) (script : Script) (disks : List D) (all new : SitesValue D) : Type 0 where
  pub opens : IsOpening (opening_over alloc script disks all.sites)
  pub are : AreSitesIn told state (opening_over alloc script disks all.sites) (plans_of script) new.sites

-- or, where memory was refused, their cells
pub record AreLeftThere {D : Type 0} (told : Type 0) (state : D → DiskState) (alloc : Global) (script : Script) (disks : List D) (all new : SitesValue D) : Type 0 where
  pub opens : IsOpening (opening_over alloc script disks all.sites)
  pub are : AreCellsIn told state (opening_over alloc script disks all.sites) (plans_of script) new.sites

module _ {D : Type 0} (may : (o : Opening) → MayBegin o) (told : Type 0) (state : D → DiskState) (own size : D → ℕ) (alloc : Global) (script : Script) (disks : List D) (all : SitesValue D)
    (t : told) (begun : HasBegun told state own alloc script disks all) (once : SitOnce script.seats) (fits : Fits (length disks) script) (coherent : HaveCoherentLogs alloc disks all.sites) where
  abbrev o : Opening
  o = opening_over alloc script disks all.sites

  pub may_open : IsOpening o
  may_open = each_may_begin may told state own alloc script disks all t begun fits coherent

  pub first_in : AreSitesIn told state o (plans_of script) all.sites
  first_in = each_begins told state own alloc script disks all o t begun (each_opening told state own alloc script disks all begun once)

  pub rounds_reach : (rng : Lcg) (n : ℕ) (new : SitesValue D) (later : Lcg) → Rounds told state own size rng n all new later → AreReached told state alloc script disks all new
  rounds_reach rng n new later rounds = record { opens = may_open; are = each_rounds told state own size o (plans_of script) rng n all new later t rounds first_in }

  pub ending_reaches : (seed : ℕ) (new : SitesValue D) (ending : Ending) → IsEnding told state own size script seed all new ending → AreReached told state alloc script disks all new
  ending_reaches seed new ending is = record { opens = may_open; are = each_ending told state own size o (plans_of script) script seed all new ending t is first_in }

  pub cut_reaches : (seed : ℕ) (node : NodeNo) (new : SitesValue D) → IsCutShort told state own size seed node all new → AreReached told state alloc script disks all new
  cut_reaches seed node new is = record { opens = may_open; are = each_cut told state own size o (plans_of script) seed node all new t is first_in }

  pub refused_leaves : (seed : ℕ) (new : SitesValue D) → IsOutOfMemory told state own size seed all new → AreLeftThere told state alloc script disks all new
  refused_leaves seed new out = record {
    opens = may_open;
    are = each_refused told state own size o (plans_of script) (drawn_order (count_of out.before) out.drawn).0 out.before new t out.refused
        (each_rounds told state own size o (plans_of script) (seeded seed) out.rounds all out.before out.drawn t out.earlier first_in);
  }
