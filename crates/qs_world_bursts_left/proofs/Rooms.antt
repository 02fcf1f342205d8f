-- Sites with room in their logs have it behind a burst, whatever order in time their turns fell in; and behind rounds with bursts before them.
use Rattle.std.proofs.Common.{◌≡◌, ◌∙◌, ap, inl, subst, sym, ℕ, zero, suc, ◌<◌, Bool, List, ◌++◌, append_assoc, arith, drop, length, slice_get, Some}
use Rattle.std.specs.Prelude.{All}
use Rattle.std.specs.Global.{Global}
use Rattle.std.proofs.Math.Seq.{drop-append_seam}
use Rattle.qs_book_script.specs.declared.script.Script.{Script}
use Rattle.qs_cell.specs.Hearing.{Post}
use Rattle.qs_cell.specs.Starts.{post_of, trace_of}
use Rattle.qs_cell.specs.State.{Up}
use Rattle.qs_cell.specs.WholeVisits.{steps_in}
use Rattle.qs_cell.specs.declared.state.CellState.TheVariants as states
use Rattle.qs_client.specs.declared.cell.ClientCell.{ClientCell}
use Rattle.qs_disk.specs.Disk.{DiskState}
use Rattle.qs_link.specs.declared.ends.NodeEnds.{NodeEnds}
use Rattle.qs_link.specs.declared.outgoing.LinkFault.{LinkFault}
use Rattle.qs_node_step.specs.declared.trace.Step.{Step}
use Rattle.qs_world.specs.Openings.{IsOpening}
use Rattle.qs_world.specs.World.{Opening}
use Rattle.qs_world_bursts.proofs.Bursting.{behind, each_round_behind}
use Rattle.qs_world_bursts.proofs.Leaving.{leaves, some_tells}
use Rattle.qs_world_bursts.specs.Refused.{TellsOfSome}
use Rattle.qs_world_bursts.specs.Threads.{RoundsBehind}
use Rattle.qs_world_bursts_left.proofs.Cut.{amid_one_run}
use Rattle.qs_world_bursts_left.proofs.Turns.{Stays, some_room}
use Rattle.qs_world_bursts_left.specs.Rooms.{BurstStaysRoomy, RefusedBurstStaysRoomy, RoundBehindStaysRoomy, RoundsBehindLeaveRoom, RoundsBehindStayRoomy}
use Rattle.qs_world_links.proofs.Ends.{all_behind}
use Rattle.qs_world_links.specs.Between.{BearsStamp}
use Rattle.qs_world_links.specs.Posts.{IsPostOf}
use Rattle.qs_world_nodes.proofs.Keeping.{each_cells}
use Rattle.qs_world_nodes.proofs.Places.{found, low_of, post_there}
use Rattle.qs_world_nodes.proofs.Telling.{local}
use Rattle.qs_world_nodes.specs.Nodes.{AreCellsIn, AreSitesIn, journal_at, plans_of, trace_at, trace_by}
use Rattle.qs_world_one.specs.Rooms.{Began, IsRoomyCell}
use Rattle.qs_world_opening.specs.Scripts.{MayBegin}
use Rattle.qs_world_rooms.proofs.Amid.{IsFront, whole_front}
use Rattle.qs_world_rooms.proofs.InOneRun.{IsFresh, running_fresh}
use Rattle.qs_world_rooms.proofs.Runs as runs
use Rattle.qs_world_rooms.proofs.Sites.{each_round, rooms_same}
use Rattle.qs_world_rooms.specs.Rooms.{AreRoomySites}
use Rattle.qs_world_rounds.specs.Rounds.{Cast}
use Rattle.qs_world_rounds.specs.Turns.{TakesSome}
use Rattle.qs_world_seats.specs.Reached.{IsInWorld}
use Rattle.qs_world_sites.specs.Bursts.{Bursts, IsRefusedBurst, IsRoundBehind}
use Rattle.qs_world_sites.specs.Sites.{Each, SitesValue}
use Rattle.qs_world_traces.proofs.LinksBring.{each_link_brings}

module _ {D : Type 0} (told : Type 0) (state : D → DiskState) (own size : D → ℕ) (o : Opening) (plans : ℕ → ℕ → List LinkFault) (began : ℕ → Began) (turns : ℕ) (t : told) (opens : IsOpening o) where
  -- ---- a burst in which memory may have been refused

  module _ (old new : List (Cast D)) (e : Each (TakesSome told state own size turns) old new) (was : AreSitesIn told state o plans old) (cells : AreCellsIn told state o plans new) (rooms : AreRoomySites state size began old) where
    module _ (k : ℕ) (site after : Cast D) (got : slice_get old k ≡ Some site) (now : slice_get new k ≡ Some after) where
      low : k < o.size
      low = omega (arith, low_of old k site got, was.count)

      of_post : IsPostOf o.size k (post_of site.node)
      of_post = subst (λ (p : Post D). IsPostOf o.size k p) (post_there (post_of site.node) old k site got) ((was.links (post_of site.node)).of k low)

      tells : TellsOfSome o.size k (post_of site.node) (post_of after.node)
      tells = some_tells told state own size o.size k turns site after (e.each k site after got now) of_post

      module _ (so_far : List Step) (since : IsFront (trace_of site.node) so_far) (till : IsFront so_far (trace_of after.node)) where
        steps_are : tells.steps ≡ since.rest ++ till.rest
        steps_are = sym (drop-append_seam (trace_of site.node) tells.steps)
            ∙ (ap (λ (l : List Step). drop (length (trace_of site.node)) l)
            (sym tells.trace ∙ (till.is ∙ (ap (λ (l : List Step). l ++ till.rest) since.is ∙ append_assoc (trace_of site.node) since.rest till.rest)))
            ∙ drop-append_seam (trace_of site.node) (since.rest ++ till.rest))

        bears : All BearsStamp till.rest
        bears = all_behind BearsStamp since.rest till.rest (subst (λ (l : List Step). All BearsStamp l) steps_are tells.bears)

      fresh : (clients : List ClientCell) (running : Up D) (ends : List NodeEnds) → IsInWorld told state o k (states.Up running) ends clients → IsFront (trace_of site.node) (steps_in (states.Up running))
          → IsFront (steps_in (states.Up running)) (trace_of after.node) → IsFresh running
      fresh clients running ends there since till = running_fresh told state o opens k running ends clients there
          (amid_one_run o opens k low (journal_at new) (trace_at new) (local told state o plans new cells) (each_link_brings o.size plans (journal_at new) (trace_at new) cells.keep)
          running.carried.chronicle.told.journal (steps_in (states.Up running)) till.rest (ap trace_by now ∙ till.is) (bears (steps_in (states.Up running)) since till)
          running.carried.chronicle.told.stamp there.reached.world there.reached.reached)

      begins : Stays told state own size o k (began k) t (trace_of site.node) (trace_of after.node) fresh site
      begins = record { there = was.each k site got; of = of_post; since = whole_front (trace_of site.node); room = λ till. rooms k site got }

      room_after : IsRoomyCell state size (began k) after.node.seat.node
      room_after = some_room told state own size o k (began k) t (trace_of site.node) (trace_of after.node) fresh turns site after (e.each k site after got now) begins (whole_front (trace_of after.node))

    rooms_after : AreRoomySites state size began new
    rooms_after k after now = by (found old k (omega (arith, low_of new k after now, e.count)))
      where
        by : (site : Cast D) × (slice_get old k ≡ Some site) → IsRoomyCell state size (began k) after.node.seat.node
        by (site, got) = room_after k site after got now

  -- whatever becomes of the links then
  pub refused_rooms : (old new : List (Cast D)) → IsRefusedBurst told state own size turns old new → AreSitesIn told state o plans old → AreRoomySites state size began old → AreRoomySites state size began new
  refused_rooms old new it was rooms = rooms_same state size began it.burst new it.same.count (λ n a b a_is b_is. (it.same.each n a b a_is b_is).node)
      (rooms_after old it.burst it.some was (leaves told state own size o plans turns old it.burst t it.some it.joined was) rooms)

  -- ---- one in which none was, and the round behind it

  burst_some : (old new : List (Cast D)) → Bursts told state own size turns old new → Each (TakesSome told state own size turns) old new
  burst_some old new b = record { count = b.count; each = λ n a c a_is c_is. inl (b.each n a c a_is c_is) }

  pub burst_rooms : (old mid : List (Cast D)) → Bursts told state own size turns old mid → AreSitesIn told state o plans old → AreSitesIn told state o plans mid → AreRoomySites state size began old → AreRoomySites state size began mid
  burst_rooms old mid b was there rooms = rooms_after old mid (burst_some old mid b) was (each_cells told state o plans mid there) rooms

  pub round_room : (order : List ℕ) (old new : SitesValue D) (quiet : Bool) → AreSitesIn told state o plans old.sites → IsRoundBehind told state own size turns order old new quiet → AreRoomySites state size began old.sites
      → AreRoomySites state size began new.sites
  round_room order old new quiet was r rooms = each_round told state own size o plans began order r.burst new quiet t opens there r.round
      (burst_rooms old.sites r.burst.sites r.bursts was there rooms)
    where
      there : AreSitesIn told state o plans r.burst.sites
      there = behind told state own size o plans turns old.sites r.burst.sites r.round.carried.sites t r.bursts r.round.carries was

  -- they stay in the world, and have room
  record Stay (sites : List (Cast D)) : Type 0 where
    are : AreSitesIn told state o plans sites
    rooms : AreRoomySites state size began sites

  rounds_room : (n : ℕ) (old new : SitesValue D) → RoundsBehind told state own size turns n old new → Stay old.sites → Stay new.sites
  rounds_room zero old new same was = subst (λ (s : SitesValue D). Stay s.sites) (sym same) was
  rounds_room (suc n) old new (mid, (before, (order, (quiet, round)))) was =
      let between : Stay mid.sites = rounds_room n old mid before was in
      record { are = each_round_behind told state own size o plans turns order mid new quiet t round between.are; rooms = round_room order mid new quiet between.are round between.rooms }

-- ---- the laws

module _ {D : Type 0} (told : Type 0) (state : D → DiskState) (own size : D → ℕ) (o : Opening) (plans : ℕ → ℕ → List LinkFault) (began : ℕ → Began) (turns : ℕ) where
  pub each_burst_roomy : (old mid new : List (Cast D)) → BurstStaysRoomy told state own size o plans began turns old mid new
  each_burst_roomy old mid new t opens was b c rooms = burst_rooms told state own size o plans began turns t opens old mid b was (behind told state own size o plans turns old mid new t b c was) rooms

  pub each_refused_burst_roomy : (old new : List (Cast D)) → RefusedBurstStaysRoomy told state own size o plans began turns old new
  each_refused_burst_roomy old new t opens was it rooms = refused_rooms told state own size o plans began turns t opens old new it was rooms

  pub each_round_behind_roomy : (order : List ℕ) (old new : SitesValue D) (quiet : Bool) → RoundBehindStaysRoomy told state own size o plans began turns order old new quiet
  each_round_behind_roomy order old new quiet t opens was r rooms = round_room told state own size o plans began turns t opens order old new quiet was r rooms

  pub each_rounds_behind_roomy : (n : ℕ) (old new : SitesValue D) → RoundsBehindStayRoomy told state own size o plans began turns n old new
  each_rounds_behind_roomy n old new t opens was r rooms = (rounds_room told state own size o plans began turns t opens n old new r (record { are = was; rooms = rooms })).rooms

pub each_rounds_behind_leave : {D : Type 0} (may : (o : Opening) → MayBegin o) (told : Type 0) (state : D → DiskState) (own size : D → ℕ) (alloc : Global) (script : Script) (disks : List D) (turns n : ℕ) (all new : SitesValue D)
    → RoundsBehindLeaveRoom told state own size alloc script disks turns n all new
each_rounds_behind_leave may told state own size alloc script disks turns n all new t b rounds = runs.leave state size (runs.began may told state own size alloc script disks all t b) new.sites
    (each_rounds_behind_roomy told state own size (runs.o may told state own size alloc script disks all t b) (plans_of script) (runs.began may told state own size alloc script disks all t b) turns n all new t
    (runs.opens may told state own size alloc script disks all t b) (runs.first may told state own size alloc script disks all t b) rounds (runs.begins may told state own size alloc script disks all t b).rooms)
