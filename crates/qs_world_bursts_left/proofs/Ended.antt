-- Whichever way a run ends, and by whichever schedule its rounds follow one another, it leaves all that a run leaves.
use Rattle.std.proofs.Common.{◌∙◌, inl, inr, subst, sym, ℕ, ◌-◌, List, map}
use Rattle.std.specs.Global.{Global}
use Rattle.qs_base.specs.declared.identifiers.NodeNo.{NodeNo}
use Rattle.qs_book_script.specs.declared.script.Script.{Script}
use Rattle.qs_disk.specs.Disk.{DiskState}
use Rattle.qs_world.specs.Openings.{IsOpening}
use Rattle.qs_world.specs.World.{Opening}
use Rattle.qs_world_bursts.proofs.Bursting.{behind, each_round_behind, each_rounds_behind, joined_in}
use Rattle.qs_world_bursts.proofs.Leaving.{each_refused_burst, fifo_at}
use Rattle.qs_world_bursts.proofs.Scheduled.{rounds_behind}
use Rattle.qs_world_bursts_left.proofs.Rooms.{burst_rooms, each_rounds_behind_roomy, refused_rooms, round_room}
use Rattle.qs_world_bursts_left.specs.Endings.{Begins, CutLeavesAll, EndingsLeaveAll, LeavesAll, RefusedLeavesAll}
use Rattle.qs_world_left.proofs.Reached.{first_in, may_open}
use Rattle.qs_world_left.proofs.SitesLeave.{each_cells_leave}
use Rattle.qs_world_left.proofs.SitesStand.{each_cells_stand}
use Rattle.qs_world_nodes.proofs.Histories.{lawful_of}
use Rattle.qs_world_nodes.proofs.Keeping.{each_cells}
use Rattle.qs_world_nodes.proofs.Refused as nodes_refused
use Rattle.qs_world_nodes.proofs.Rounds as nodes
use Rattle.qs_world_nodes.proofs.Telling.{each_cells_traced}
use Rattle.qs_world_nodes.specs.Nodes.{AreCellsIn, AreSitesIn, plans_of}
use Rattle.qs_world_nodes.specs.Openings.{opening_over}
use Rattle.qs_world_one.specs.Rooms.{Began}
use Rattle.qs_world_opening.specs.Scripts.{MayBegin}
use Rattle.qs_world_packets.specs.PacketLawful.{EachJournalLawful}
use Rattle.qs_world_rooms.proofs.Runs as runs
use Rattle.qs_world_rooms.proofs.Sites as rooms
use Rattle.qs_world_rooms.specs.Leaving.{BeginsRoomy}
use Rattle.qs_world_rooms.specs.Rooms.{AreRoomyContents, AreRoomySites, sizes_of}
use Rattle.qs_world_rounds.specs.Rounds.{Cast}
use Rattle.qs_world_rounds.specs.declared.rounds.Ending.{Ending}
use Rattle.qs_world_sites.specs.Bursts.{IsRefusedBehind, IsRefusedRound}
use Rattle.qs_world_sites.specs.Schedules.{IsCutIn, IsEndingIn, IsOutOfMemoryIn, RoundsIn, drawn_first, order_in, turns_in}
use Rattle.qs_world_sites.specs.Sites.{SitesValue, count_of}
use Rattle.qs_world_sites.specs.declared.schedule.Schedule.{Schedule}
use Rattle.rand_pcg.specs.Lcg.{Lcg}

module _ {D : Type 0} (may : (o : Opening) → MayBegin o) (lawful : EachJournalLawful) (told : Type 0) (state : D → DiskState) (own size : D → ℕ) (alloc : Global) (script : Script) (disks : List D) (schedule : Schedule)
    (all : SitesValue D) (t : told) (b : Begins told state own alloc script disks all) where
  abbrev turns : ℕ
  turns = turns_in schedule

  -- the order of a round
  abbrev order : SitesValue D → Lcg → List ℕ
  order before drawn = (order_in schedule (count_of before) drawn).0

  abbrev o : Opening
  o = opening_over alloc script disks all.sites

  opens : IsOpening o
  opens = may_open may told state own size alloc script disks all t b.begun b.once b.fits b.coherent

  first : AreSitesIn told state o (plans_of script) all.sites
  first = first_in may told state own size alloc script disks all t b.begun b.once b.fits b.coherent

  after : (n : ℕ) (rng : Lcg) (new : SitesValue D) (later : Lcg) → RoundsIn told state own size schedule rng n all new later → AreSitesIn told state o (plans_of script) new.sites
  after n rng new later rounds = each_rounds_behind told state own size o (plans_of script) turns n all new t (rounds_behind told state own size schedule rng n all new later rounds) first

  -- ---- with room, where it began so

  module _ (roomy : AreRoomyContents (sizes_of size all.sites) (map state disks)) where
    begins : BeginsRoomy told state own size alloc script disks all
    begins = record { begun = b.begun; once = b.once; fits = b.fits; coherent = b.coherent; roomy = roomy }

    abbrev began : ℕ → Began
    began n = runs.began may told state own size alloc script disks all t begins n

    abbrev Rooms : List (Cast D) → Type 0
    Rooms sites = AreRoomySites state size began sites

    rooms_after : (n : ℕ) (rng : Lcg) (new : SitesValue D) (later : Lcg) → RoundsIn told state own size schedule rng n all new later → Rooms new.sites
    rooms_after n rng new later rounds = each_rounds_behind_roomy told state own size o (plans_of script) began turns n all new t opens first (rounds_behind told state own size schedule rng n all new later rounds)
        (runs.begins may told state own size alloc script disks all t begins).rooms

  -- ---- all that it leaves

  leaves : (new : SitesValue D) → AreCellsIn told state o (plans_of script) new.sites → ((roomy : AreRoomyContents (sizes_of size all.sites) (map state disks)) → Rooms roomy new.sites) → LeavesAll state size alloc script disks all new
  leaves new are rooms = record {
    traced = each_cells_traced told state o (plans_of script) new.sites are;
    lawful = λ journal trace is. lawful_of lawful o (plans_of script) journal trace opens (each_cells_traced told state o (plans_of script) new.sites are journal trace is.entries is.steps);
    coherent = each_cells_leave told state o (plans_of script) new.sites t opens are;
    stand = λ journal trace is. each_cells_stand told state o (plans_of script) new.sites journal trace t opens are is;
    room = λ roomy. runs.leave state size (began roomy) new.sites (rooms roomy);
  }

  -- after the last round, and where one is cut short
  ends : (new : SitesValue D) (ending : Ending) → IsEndingIn told state own size script schedule all new ending → LeavesAll state size alloc script disks all new
  ends new ending it = leaves new (each_cells told state o (plans_of script) new.sites (each_round_behind told state own size o (plans_of script) turns (order it.ends.before it.ends.drawn) it.ends.before new it.quiet t it.ends.last was))
      (λ roomy. round_room told state own size o (plans_of script) (began roomy) turns t opens (order it.ends.before it.ends.drawn) it.ends.before new it.quiet was it.ends.last
      (rooms_after roomy (ending.rounds - 1) (drawn_first schedule) it.ends.before it.ends.drawn it.ends.earlier))
    where
      was : AreSitesIn told state o (plans_of script) it.ends.before.sites
      was = after (ending.rounds - 1) (drawn_first schedule) it.ends.before it.ends.drawn it.ends.earlier

  cut : (node : NodeNo) (new : SitesValue D) → IsCutIn told state own size schedule node all new → LeavesAll state size alloc script disks all new
  cut node new c = leaves new (each_cells told state o (plans_of script) new.sites
      (nodes.each_broken told state own size o (plans_of script) (order c.before c.drawn) node c.broken.burst new t c.broken.broken there))
      (λ roomy. rooms.each_broken told state own size o (plans_of script) (began roomy) (order c.before c.drawn) node c.broken.burst new t opens there c.broken.broken
      (burst_rooms told state own size o (plans_of script) (began roomy) turns t opens c.before.sites c.broken.burst.sites c.broken.bursts was there (rooms_after roomy c.rounds (drawn_first schedule) c.before c.drawn c.earlier)))
    where
      was : AreSitesIn told state o (plans_of script) c.before.sites
      was = after c.rounds (drawn_first schedule) c.before c.drawn c.earlier

      there : AreSitesIn told state o (plans_of script) c.broken.burst.sites
      there = behind told state own size o (plans_of script) turns c.before.sites c.broken.burst.sites c.broken.broken.carried.sites t c.broken.bursts c.broken.broken.carries was

  -- memory was refused: before the burst, in it, or in the round behind it
  module _ (places : List ℕ) (before new : SitesValue D) (was : AreSitesIn told state o (plans_of script) before.sites) (had : (roomy : AreRoomyContents (sizes_of size all.sites) (map state disks)) → Rooms roomy before.sites) where
    in_round : IsRefusedRound told state own size turns places before new → LeavesAll state size alloc script disks all new
    in_round it = leaves new (nodes_refused.each_refused told state own size o (plans_of script) places it.burst new t it.refused there)
        (λ roomy. rooms.each_refused told state own size o (plans_of script) (began roomy) places it.burst new t opens there it.refused
        (burst_rooms told state own size o (plans_of script) (began roomy) turns t opens before.sites it.burst.sites it.bursts was there (had roomy)))
      where
        there : AreSitesIn told state o (plans_of script) it.burst.sites
        there = joined_in told state own size o (plans_of script) turns before.sites it.burst.sites t it.bursts (fifo_at o.size it.burst.sites (it.bursts.count ∙ was.count) it.joined) was

    out : IsRefusedBehind told state own size turns places before new → LeavesAll state size alloc script disks all new
    out (inl same) = subst (λ (s : SitesValue D). LeavesAll state size alloc script disks all s) (sym same) (leaves before (each_cells told state o (plans_of script) before.sites was) had)
    out (inr (inl it)) = leaves new (each_refused_burst told state own size o (plans_of script) turns before.sites new.sites t it was)
        (λ roomy. refused_rooms told state own size o (plans_of script) (began roomy) turns t opens before.sites new.sites it was (had roomy))
    out (inr (inr it)) = in_round it

  refused : (new : SitesValue D) → IsOutOfMemoryIn told state own size schedule all new → LeavesAll state size alloc script disks all new
  refused new r = out (order r.before r.drawn) r.before new (after r.rounds (drawn_first schedule) r.before r.drawn r.earlier)
      (λ roomy. rooms_after roomy r.rounds (drawn_first schedule) r.before r.drawn r.earlier) r.refused

-- ---- the laws

module _ {D : Type 0} (may : (o : Opening) → MayBegin o) (lawful : EachJournalLawful) (told : Type 0) (state : D → DiskState) (own size : D → ℕ) (alloc : Global) (script : Script) (disks : List D) (schedule : Schedule) (all new : SitesValue D) where
  pub each_ending_leaves : (ending : Ending) → EndingsLeaveAll told state own size alloc script disks schedule all new ending
  each_ending_leaves ending t b e = ends may lawful told state own size alloc script disks schedule all t b new ending e

  pub each_cut_leaves : (node : NodeNo) → CutLeavesAll told state own size alloc script disks schedule node all new
  each_cut_leaves node t b c = cut may lawful told state own size alloc script disks schedule all t b node new c

  pub each_refused_leaves : RefusedLeavesAll told state own size alloc script disks schedule all new
  each_refused_leaves t b r = refused may lawful told state own size alloc script disks schedule all t b new r
