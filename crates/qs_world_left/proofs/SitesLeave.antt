-- For a choice of one image of each disk, what all cells tell is of one run of the world over packets whose nodes have the logs of these images: so these are
-- coherent.
use Rattle.std.proofs.Common.{◌≡◌, ◌∙◌, ap, subst, sym, ℕ, ◌+◌, ◌<◌, List, length, option_map, arith, slice_get, Some}
use Rattle.std.proofs.lemmas.List.{length-map}
use Rattle.std.proofs.lemmas.Option.{slice_get-map}
use Rattle.std.specs.Global.{Global}
use Rattle.qs_base.specs.declared.identifiers.NodeNo.{NodeNo}
use Rattle.qs_book_script.specs.declared.script.Script.{Script}
use Rattle.qs_disk.specs.Disk.{DiskState, IsImage}
use Rattle.qs_link.specs.declared.outgoing.LinkFault.{LinkFault}
use Rattle.qs_record.specs.declared.record.Record.{Record}
use Rattle.qs_slot.specs.Slot.{Present}
use Rattle.qs_world.specs.Openings.{IsOpening}
use Rattle.qs_world.specs.World.{Host, Opening}
use Rattle.qs_world_left.proofs.Chosen.{ComesTo, comes, has_log, stamp_at, stamp_by}
use Rattle.qs_world_left.proofs.Reached.{AreLeftThere, AreReached, cut_reaches, ending_reaches, refused_leaves, rounds_reach}
use Rattle.qs_world_left.proofs.RunsLeave.{each_leaves_coherent, same_size}
use Rattle.qs_world_left.specs.Disks.{AreImagesOf, HasSomeLog, HaveLogs, LeaveCoherent, ShowLogs, disk_state, disks_of}
use Rattle.qs_world_left.specs.Left.{CellsLeaveCoherent, CellsLeaveLogs, CutShortLeavesCoherent, EndingsLeaveCoherent, RefusedLeavesCoherent, RoundsLeaveCoherent, SitesLeaveCoherent, SitesLeaveLogs}
use Rattle.qs_world_left.specs.Packets.{AreLeft}
use Rattle.qs_world_left.specs.Standing.{up_at, up_by}
use Rattle.qs_world_merge.proofs.OfOneRun.{each_is_of_one_run}
use Rattle.qs_world_merge.specs.MergedRuns.{untimed}
use Rattle.qs_world_merge.specs.Observed.{AreOfLocalRuns, IsOfOneRun, Observed}
use Rattle.qs_world_nodes.proofs.Places.{found, low_of, same_some}
use Rattle.qs_world_nodes.proofs.Keeping.{each_cells}
use Rattle.qs_world_nodes.specs.Nodes.{AreCellsIn, journal_at, journal_by, plans_of, trace_at, trace_by}
use Rattle.qs_world_nodes.specs.Openings.{opening_over}
use Rattle.qs_world_opening.specs.Coherent.{AreCoherentLogs}
use Rattle.qs_world_opening.specs.Scripts.{MayBegin}
use Rattle.qs_world_rounds.specs.Rounds.{Cast}
use Rattle.qs_world_rounds.specs.declared.rounds.Ending.{Ending}
use Rattle.qs_world_seats.proofs.Cellular.{each_site_cell}
use Rattle.qs_world_seats.specs.Cells.{IsCellIn}
use Rattle.qs_world_sites.specs.Sites.{SitesValue}
use Rattle.qs_world_traces.proofs.LinksBring.{each_link_brings}
use Rattle.qs_world_traces.specs.Links.{observed_by}
use Rattle.rand_pcg.specs.Lcg.{Lcg}

module _ {D : Type 0} (told : Type 0) (state : D → DiskState) (o : Opening) (plans : ℕ → ℕ → List LinkFault) (sites : List (Cast D)) (t : told) (opens : IsOpening o) (are : AreCellsIn told state o plans sites)
    (images : ℕ → List ℕ) (left_are : AreImagesOf (disks_of state sites) images) (presents : ℕ → Present) (records : ℕ → List Record) (show : ShowLogs (length (disks_of state sites)) images presents records) where
  abbrev observed : ℕ → Observed
  observed n = observed_by (journal_at sites n) (trace_at sites n)

  count : length (disks_of state sites) ≡ length sites
  count = length-map sites (disk_state state)

  -- ---- each node comes to a world with the log of its image

  comes_at : (n : ℕ) (a : Cast D) → slice_get sites n ≡ Some a → ComesTo o n (stamp_at sites n) (observed n) (up_at sites n) (presents n).value.inc (records n)
  comes_at n a is = subst (λ (x : _). ComesTo o n (stamp_by x) (observed_by (journal_by x) (trace_by x)) (up_by x) (presents n).value.inc (records n)) (sym is)
      (comes told state o n t a.node.seat.node (are.each n a is) (images n)
      (left_are n (disk_state state a) (slice_get-map (disk_state state) sites n ∙ ap (λ (x : _). option_map (disk_state state) x) is)) (presents n) (records n)
      (show n (low (low_of sites n a is))))
    where
      low : n < length sites → n < length (disks_of state sites)
      low is = omega (arith, is, count)

  each : (n : ℕ) → n < o.size → ComesTo o n (stamp_at sites n) (observed n) (up_at sites n) (presents n).value.inc (records n)
  each n low = by (found sites n (omega (arith, low, are.count)))
    where
      by : (a : Cast D) × (slice_get sites n ≡ Some a) → ComesTo o n (stamp_at sites n) (observed n) (up_at sites n) (presents n).value.inc (records n)
      by (a, is) = comes_at n a is

  -- ---- and all to one world

  abbrev local : AreOfLocalRuns o observed
  local n low = (each n low).to.local

  one : IsOfOneRun o observed local
  one = each_is_of_one_run o observed local (each_link_brings o.size plans (journal_at sites) (trace_at sites) are.keep)

  sized : one.world.size ≡ o.size
  sized = same_size o (untimed one.moves) one.world opens one.run

  in_run : (n : ℕ) → n < one.world.size → n < o.size
  in_run n low = omega (arith, low, sized)

  left : AreLeft one.world (λ n. (presents n).value.inc + 1) records
  left = record {
    same = λ n low. (each n (in_run n low)).has.log_is ∙ sym (ap (λ (h : Host). h.log) (one.each n (in_run n low)).host);
    later = λ n low. subst (λ (k : ℕ). k < (presents n).value.inc + 1) (sym (one.each n (in_run n low)).network.inc) (each n (in_run n low)).has.later;
  }

  chosen_coherent : (alloc : Global) → AreCoherentLogs alloc (length (disks_of state sites)) (λ n. (presents n).value.inc + 1) records
  chosen_coherent alloc = subst (λ (size : ℕ). AreCoherentLogs alloc size (λ n. (presents n).value.inc + 1) records) (omega (arith, sized, count, are.count))
      (each_leaves_coherent o (untimed one.moves) one.world alloc (λ n. (presents n).value.inc + 1) records opens one.run left)

pub each_cells_leave : {D : Type 0} (told : Type 0) (state : D → DiskState) (o : Opening) (plans : ℕ → ℕ → List LinkFault) (sites : List (Cast D)) → CellsLeaveCoherent told state o plans sites
each_cells_leave told state o plans sites t opens are alloc images left_are presents records show = chosen_coherent told state o plans sites t opens are images left_are presents records show alloc

pub each_sites_leave : {D : Type 0} (told : Type 0) (state : D → DiskState) (o : Opening) (plans : ℕ → ℕ → List LinkFault) (sites : List (Cast D)) → SitesLeaveCoherent told state o plans sites
each_sites_leave told state o plans sites t opens are = each_cells_leave told state o plans sites t opens (each_cells told state o plans sites are)

-- each image has a log
have_logs : {D : Type 0} (told : Type 0) (state : D → DiskState) (o : Opening) (sites : List (Cast D)) → told → ((n : ℕ) (a : Cast D) → slice_get sites n ≡ Some a → IsCellIn told state o n a.node.seat.node) → HaveLogs (disks_of state sites)
have_logs {D} told state o sites t cells n disk of_disk image at = by (found sites n (omega (arith, low_of (disks_of state sites) n disk of_disk, length-map sites (disk_state state))))
  where
    by : (a : Cast D) × (slice_get sites n ≡ Some a) → HasSomeLog image
    by (a, is) = has_log told state o n t a.node.seat.node (cells n a is) image
        (subst (λ (d : DiskState). IsImage d.now image) (same_some disk (disk_state state a) (sym of_disk ∙ (slice_get-map (disk_state state) sites n ∙ ap (λ (x : _). option_map (disk_state state) x) is))) at)

pub each_cells_have_logs : {D : Type 0} (told : Type 0) (state : D → DiskState) (o : Opening) (plans : ℕ → ℕ → List LinkFault) (sites : List (Cast D)) → CellsLeaveLogs told state o plans sites
each_cells_have_logs told state o plans sites t are = have_logs told state o sites t are.each

pub each_sites_have_logs : {D : Type 0} (told : Type 0) (state : D → DiskState) (o : Opening) (plans : ℕ → ℕ → List LinkFault) (sites : List (Cast D)) → SitesLeaveLogs told state o plans sites
each_sites_have_logs told state o plans sites t are = have_logs told state o sites t (λ n a is. each_site_cell told state o n a (are.each n a is))

-- ---- of a run that has begun

module _ {D : Type 0} (may : (o : Opening) → MayBegin o) (told : Type 0) (state : D → DiskState) (own size : D → ℕ) (alloc : Global) (script : Script) (disks : List D) (all : SitesValue D) where
  leave : (new : SitesValue D) → told → AreReached told state alloc script disks all new → LeaveCoherent state new.sites
  leave new t reached = each_sites_leave told state (opening_over alloc script disks all.sites) (plans_of script) new.sites t reached.opens reached.are

  pub each_rounds_leave : (rng : Lcg) (n : ℕ) (new : SitesValue D) (later : Lcg) → RoundsLeaveCoherent told state own size alloc script disks rng n all new later
  each_rounds_leave rng n new later t begun once fits coherent rounds = leave new t (rounds_reach may told state own size alloc script disks all t begun once fits coherent rng n new later rounds)

  pub each_ending_leaves : (seed : ℕ) (new : SitesValue D) (ending : Ending) → EndingsLeaveCoherent told state own size alloc script disks seed all new ending
  each_ending_leaves seed new ending t begun once fits coherent is = leave new t (ending_reaches may told state own size alloc script disks all t begun once fits coherent seed new ending is)

  pub each_cut_leaves : (seed : ℕ) (node : NodeNo) (new : SitesValue D) → CutShortLeavesCoherent told state own size alloc script disks seed node all new
  each_cut_leaves seed node new t begun once fits coherent is = leave new t (cut_reaches may told state own size alloc script disks all t begun once fits coherent seed node new is)

  pub each_refused_leaves : (seed : ℕ) (new : SitesValue D) → RefusedLeavesCoherent told state own size alloc script disks seed all new
  each_refused_leaves seed new t begun once fits coherent out =
      let left : AreLeftThere told state alloc script disks all new = refused_leaves may told state own size alloc script disks all t begun once fits coherent seed new out in
      each_cells_leave told state (opening_over alloc script disks all.sites) (plans_of script) new.sites t left.opens left.are
