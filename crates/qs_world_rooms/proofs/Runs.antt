-- A run that begins over coherent logs with room in each leaves room, to its end and where it is cut short.
use Rattle.std.proofs.Common.{◌≡◌, ◌∙◌, ap, refl, subst, sym, ℕ, true, false, List, length, map, Option, None, Some, option_map, arith, slice_get}
use Rattle.std.proofs.lemmas.List.{length-map}
use Rattle.std.proofs.lemmas.Option.{slice_get-map}
use Rattle.std.specs.Global.{Global}
use Rattle.qs_base.specs.declared.identifiers.NodeNo.{NodeNo}
use Rattle.qs_book_script.specs.declared.script.Script.{Script}
use Rattle.qs_cell.specs.Starts.{IsStarted}
use Rattle.qs_cell.specs.State.{disk_of}
use Rattle.qs_cell.specs.declared.state.CellState.{CellState}
use Rattle.qs_cell.specs.declared.state.CellState.TheVariants as states
use Rattle.qs_disk.specs.Disk.{DiskState}
use Rattle.qs_node_room.specs.Opens.{are_named}
use Rattle.qs_restart.specs.Recovery.{recovery}
use Rattle.qs_world.specs.Openings.{IsOpening}
use Rattle.qs_world.specs.World.{Opening}
use Rattle.qs_world_left.proofs.Reached.{first_in, may_open}
use Rattle.qs_world_left.specs.Disks.{content_at, content_by, disk_state, disks_of}
use Rattle.qs_world_nodes.proofs.Places.{found, low_of, same_some}
use Rattle.qs_world_nodes.proofs.Walking.{cut_keeps, ending_keeps, rounds_keep}
use Rattle.qs_world_nodes.specs.Nodes.{AreSitesIn, plans_of}
use Rattle.qs_world_nodes.specs.Openings.{opening_over}
use Rattle.qs_world_one.proofs.RoomyCells.{begun_roomy, is_set}
use Rattle.qs_world_one.specs.Rooms.{Began, IsRoomyCell, IsRoomyDisk}
use Rattle.qs_world_opening.specs.Scripts.{MayBegin}
use Rattle.qs_world_plans.specs.Order.{drawn_order, seeded}
use Rattle.qs_world_plans.specs.Plan.{setting_of}
use Rattle.qs_world_rooms.proofs.AllThere.{log_named, sites_there}
use Rattle.qs_world_rooms.proofs.Sites.{Stay, carried, failed, refused, visited}
use Rattle.qs_world_rooms.specs.Leaving.{BeginsRoomy, CutShortLeavesRoom, EndingsLeaveRoom, LeaveRoom, RefusedLeavesRoom, RoundsLeaveRoom}
use Rattle.qs_world_rooms.specs.Rooms.{AreRoomySites, RoomyAreRead, disk_size, is_full, sizes_of}
use Rattle.qs_world_rounds.specs.Rounds.{Cast}
use Rattle.qs_world_rounds.specs.Seats.{BeginsAt, plan_of}
use Rattle.qs_world_rounds.specs.declared.rounds.Ending.{Ending}
use Rattle.qs_world_seats.specs.Reached.{IsInWorld, IsRunning}
use Rattle.qs_world_sites.specs.Endings.{IsCutShort, IsEnding, IsOutOfMemory}
use Rattle.qs_world_sites.specs.Rounds.{Rounds}
use Rattle.qs_world_sites.specs.Sites.{SitesValue, count_of}
use Rattle.rand_pcg.specs.Lcg.{Lcg}

pub each_read : (sizes : List ℕ) (disks : List DiskState) → RoomyAreRead sizes disks
each_read sizes disks read roomy n size disk of_size of_disk = roomy n size disk of_size of_disk disk.content (read n disk of_disk)

-- ---- what is left

mapped : {A B : Type 0} (f : A → B) (xs : List A) (n : ℕ) (x : A) → slice_get xs n ≡ Some x → slice_get (map f xs) n ≡ Some (f x)
mapped f xs n x is = slice_get-map f xs n ∙ ap (λ (a : Option _). option_map f a) is

not_full : {D : Type 0} (state : D → DiskState) (size : D → ℕ) (began : Began) (node : CellState D) → IsRoomyCell state size began node → is_full node ≡ false
not_full state size began (states.Up running) room = refl
not_full state size began (states.Down stopped) room = room.roomy

pub leave : {D : Type 0} (state : D → DiskState) (size : D → ℕ) (began : ℕ → Began) (sites : List (Cast D)) → AreRoomySites state size began sites → LeaveRoom state size sites
leave {D} state size began sites rooms = record {
  disks = λ n bytes disk of_size of_disk. by n bytes disk of_size of_disk (found sites n (omega (arith, low_of (sizes_of size sites) n bytes of_size, length-map sites (disk_size size))));
  none = λ n site is. not_full state size (began n) site.node.seat.node (rooms n site is);
}
  where
    by : (n bytes : ℕ) (disk : DiskState) → slice_get (sizes_of size sites) n ≡ Some bytes → slice_get (disks_of state sites) n ≡ Some disk → (a : Cast D) × (slice_get sites n ≡ Some a) → IsRoomyDisk bytes disk
    by n bytes disk of_size of_disk (a, is) = subst (λ (d : DiskState). IsRoomyDisk bytes d) (same_some (disk_state state a) disk (sym (mapped (disk_state state) sites n a is) ∙ of_disk))
        (subst (λ (k : ℕ). IsRoomyDisk k (disk_state state a)) (same_some (disk_size size a) bytes (sym (mapped (disk_size size) sites n a is) ∙ of_size)) (rooms n a is).disk)

-- ---- a run begins

module _ {D : Type 0} (may : (o : Opening) → MayBegin o) (told : Type 0) (state : D → DiskState) (own size : D → ℕ) (alloc : Global) (script : Script) (disks : List D) (all : SitesValue D) (t : told)
    (b : BeginsRoomy told state own size alloc script disks all) where
  abbrev pub o : Opening
  o = opening_over alloc script disks all.sites

  pub opens : IsOpening o
  opens = may_open may told state own size alloc script disks all t b.begun b.once b.fits b.coherent

  pub first : AreSitesIn told state o (plans_of script) all.sites
  first = first_in may told state own size alloc script disks all t b.begun b.once b.fits b.coherent

  abbrev pub bytes_by : Option (Cast D) → ℕ
  bytes_by None = 0
  bytes_by (Some site) = disk_size size site

  abbrev pub began : ℕ → Began
  began n = record { content = content_at (map state disks) n; bytes = bytes_by (slice_get all.sites n) }

  module _ (n : ℕ) (disk : D) (site : Cast D) (of_disk : slice_get disks n ≡ Some disk) (there : slice_get all.sites n ≡ Some site) where
    begun : BeginsAt told state own alloc script (length disks) (record { 0 = n }) disk site
    begun = b.begun.each n disk site of_disk there

    abbrev started : IsStarted told state alloc disk (setting_of script (length disks) (record { 0 = n }) 0) site.node.links site.node.seat.ends (plan_of (record { 0 = n }) script.faults) site.node
    started = begun.started

    abbrev its : Began
    its = record { content = (state disk).content; bytes = disk_size size site }

    same : began n ≡ its
    same = ap (λ (c : List ℕ). record { content = c; bytes = bytes_by (slice_get all.sites n) }) (ap content_by (mapped state disks n disk of_disk))
        ∙ ap (λ (x : Option (Cast D)). record { content = (state disk).content; bytes = bytes_by x }) there

    named : are_named (recovery started.running.host.log.forced) ≡ true
    named = log_named told state o opens all.sites
        (sites_there told state o (plans_of script) all.sites first)
        n site there started.running site.node.seat.ends site.clients started.node running
      where
        running : IsRunning told state o n started.running site.node.seat.ends site.clients
        running = subst (λ (x : CellState D). IsInWorld told state o n x site.node.seat.ends site.clients) started.node
            (first.each n site there).there.there

    begins_at : IsRoomyCell state size (began n) site.node.seat.node
    begins_at = subst (λ (x : CellState D). IsRoomyCell state size (began n) x) (sym started.node) (subst (λ (x : Began). IsRoomyCell state size x (states.Up started.running)) (sym same)
        (begun_roomy state size alloc (setting_of script (length disks) (record { 0 = n }) 0) _ _ started.running its started.begins (started.raised t) (started.stands t)
        (ap (λ (x : CellState D). size (disk_of x).disk) (sym started.node)) (is_set (setting_of script (length disks) (record { 0 = n }) 0) refl refl)
        (b.roomy n (disk_size size site) (state disk) (mapped (disk_size size) all.sites n site there) (mapped state disks n disk of_disk)) named))

  -- ---- and goes on

  abbrev pub Stays : List (Cast D) → Type 0
  Stays sites = Stay told state own size o (plans_of script) began t opens sites

  pub begins : Stays all.sites
  begins = record { are = first; rooms = rooms }
    where
      rooms : AreRoomySites state size began all.sites
      rooms n site there = by (found disks n (omega (arith, low_of all.sites n site there, b.begun.count)))
        where
          by : (disk : D) × (slice_get disks n ≡ Some disk) → IsRoomyCell state size (began n) site.node.seat.node
          by (disk, of_disk) = begins_at n disk site of_disk there

  rounds_leave : (rng : Lcg) (n : ℕ) (new : SitesValue D) (later : Lcg) → Rounds told state own size rng n all new later → LeaveRoom state size new.sites
  rounds_leave rng n new later rounds = leave state size began new.sites ((rounds_keep told state own size Stays (visited told state own size o (plans_of script) began t opens)
      (carried told state own size o (plans_of script) began t opens) rng n all new later rounds begins).rooms)

  ending_leaves : (seed : ℕ) (new : SitesValue D) (ending : Ending) → IsEnding told state own size script seed all new ending → LeaveRoom state size new.sites
  ending_leaves seed new ending is = leave state size began new.sites ((ending_keeps told state own size Stays (visited told state own size o (plans_of script) began t opens)
      (carried told state own size o (plans_of script) began t opens) script seed all new ending is begins).rooms)

  cut_leaves : (seed : ℕ) (node : NodeNo) (new : SitesValue D) → IsCutShort told state own size seed node all new → LeaveRoom state size new.sites
  cut_leaves seed node new is = leave state size began new.sites ((cut_keeps told state own size Stays (visited told state own size o (plans_of script) began t opens)
      (carried told state own size o (plans_of script) began t opens) (failed told state own size o (plans_of script) began t opens) seed node all new is begins).rooms)

  refused_leaves : (seed : ℕ) (new : SitesValue D) → IsOutOfMemory told state own size seed all new → LeaveRoom state size new.sites
  refused_leaves seed new out = leave state size began new.sites (refused told state own size o (plans_of script) began t opens (drawn_order (count_of out.before) out.drawn).0 out.before new out.refused
      (rounds_keep told state own size Stays (visited told state own size o (plans_of script) began t opens) (carried told state own size o (plans_of script) began t opens) (seeded seed) out.rounds all out.before out.drawn out.earlier begins))

-- ---- the laws

module _ {D : Type 0} (may : (o : Opening) → MayBegin o) (told : Type 0) (state : D → DiskState) (own size : D → ℕ) (alloc : Global) (script : Script) (disks : List D) (all : SitesValue D) where
  pub each_rounds_leave : (rng : Lcg) (n : ℕ) (new : SitesValue D) (later : Lcg) → RoundsLeaveRoom told state own size alloc script disks rng n all new later
  each_rounds_leave rng n new later t b rounds = rounds_leave may told state own size alloc script disks all t b rng n new later rounds

  pub each_ending_leaves : (seed : ℕ) (new : SitesValue D) (ending : Ending) → EndingsLeaveRoom told state own size alloc script disks seed all new ending
  each_ending_leaves seed new ending t b is = ending_leaves may told state own size alloc script disks all t b seed new ending is

  pub each_cut_leaves : (seed : ℕ) (node : NodeNo) (new : SitesValue D) → CutShortLeavesRoom told state own size alloc script disks seed node all new
  each_cut_leaves seed node new t b is = cut_leaves may told state own size alloc script disks all t b seed node new is

  pub each_refused_leaves : (seed : ℕ) (new : SitesValue D) → RefusedLeavesRoom told state own size alloc script disks seed all new
  each_refused_leaves seed new t b out = refused_leaves may told state own size alloc script disks all t b seed new out
