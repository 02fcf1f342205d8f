-- Sites that each stand in the world by themselves, and took what was put, are in one world of packets. So each has what a node of a run has: what a client begins at a
-- node that is up is not known to it, and the logs that the disk of one that is down may have are of transactions.
use Rattle.std.proofs.Common.{◌≡◌, ◌⊎◌, ap, inl, inr, subst, sym, ℕ, ◌<◌, true, List, length, Some, arith, slice_get}
use Rattle.qs_cell.specs.State.{Up, carried_of}
use Rattle.qs_cell.specs.declared.state.CellState.{CellState}
use Rattle.qs_cell.specs.declared.state.CellState.TheVariants as states
use Rattle.qs_cell.specs.declared.stopped.Stopped.{Stopped}
use Rattle.qs_client.specs.declared.cell.ClientCell.{ClientCell}
use Rattle.qs_disk.specs.Disk.{DiskState}
use Rattle.qs_link.specs.declared.ends.NodeEnds.{NodeEnds}
use Rattle.qs_link.specs.declared.outgoing.LinkFault.{LinkFault}
use Rattle.qs_node_room.specs.Opens.{are_named}
use Rattle.qs_record.specs.declared.record.Record.{Record}
use Rattle.qs_restart.specs.Recovery.{recovery}
use Rattle.qs_world.specs.Openings.{IsOpening}
use Rattle.qs_world.specs.World.{Host, Opening}
use Rattle.qs_world_merge.specs.Observed.{IsOfLocalRun, Observed, TookWhatWasPut}
use Rattle.qs_world_merge.specs.Reaching.{HasReached}
use Rattle.qs_world_nodes.proofs.Places.{found, low_of}
use Rattle.qs_world_nodes.proofs.Keeping.{keep}
use Rattle.qs_world_nodes.specs.Nodes.{AreSitesIn, journal_at, journal_by, trace_at, trace_by}
use Rattle.qs_world_packets.specs.PacketWorld.{PacketWorld}
use Rattle.qs_world_rooms.proofs.InOneRun.{IsFresh, IsInRun, in_one_run, named_there, running_fresh}
use Rattle.qs_world_rounds.specs.Rounds.{Cast}
use Rattle.qs_world_seats.proofs.Starting.{each_tells}
use Rattle.qs_world_seats.specs.Reached.{IsHalted, IsRunning}
use Rattle.qs_world_seats.specs.Seats.{SeatDown}
use Rattle.qs_world_seats.specs.Shown.{Reaches, observed_of}
use Rattle.qs_world_seats.specs.Visiting.{PostInWorld}
use Rattle.qs_world_traces.proofs.LinksBring.{each_link_brings}
use Rattle.qs_world_traces.specs.Links.{observed_by}

pub record AreThere {D : Type 0} (told : Type 0) (state : D → DiskState) (o : Opening) (sites : List (Cast D)) : Type 0 where
  pub count : length sites ≡ o.size
  pub each : (n : ℕ) (site : Cast D) → slice_get sites n ≡ Some site → PostInWorld told state o n site.node.seat site.clients
  pub took : TookWhatWasPut o.size (λ n. observed_by (journal_at sites n) (trace_at sites n))

pub took_in : {D : Type 0} (told : Type 0) (state : D → DiskState) (o : Opening) (plans : ℕ → ℕ → List LinkFault) (sites : List (Cast D)) → AreSitesIn told state o plans sites
    → TookWhatWasPut o.size (λ n. observed_by (journal_at sites n) (trace_at sites n))
took_in told state o plans sites are = each_link_brings o.size plans (journal_at sites) (trace_at sites) (keep told state o plans sites are)

pub sites_there : {D : Type 0} (told : Type 0) (state : D → DiskState) (o : Opening) (plans : ℕ → ℕ → List LinkFault) (sites : List (Cast D)) → AreSitesIn told state o plans sites → AreThere told state o sites
sites_there told state o plans sites are = record { count = are.count; each = λ n site is. (are.each n site is).there.there; took = took_in told state o plans sites are }

module _ {D : Type 0} (told : Type 0) (state : D → DiskState) (o : Opening) (opens : IsOpening o) (sites : List (Cast D)) (are : AreThere told state o sites) (k : ℕ) (site : Cast D) (there : slice_get sites k ≡ Some site) where
  abbrev observed : ℕ → Observed
  observed n = observed_by (journal_at sites n) (trace_at sites n)

  tells : (n : ℕ) → n < o.size → IsOfLocalRun o n (observed n)
  tells n low = by (found sites n (omega (arith, low, are.count)))
    where
      by : (a : Cast D) × (slice_get sites n ≡ Some a) → IsOfLocalRun o n (observed n)
      by (a, is) = subst (λ (x : _). IsOfLocalRun o n (observed_by (journal_by x) (trace_by x))) (sym is) (each_tells told state o n a.node.seat.node a.node.seat.ends a.clients (are.each n a is))

  in_run : (stamp : ℕ) (world : PacketWorld) → HasReached o k (observed_by (journal_by (Some site)) (trace_by (Some site))) stamp world → IsInRun o k world
  in_run stamp world reached = in_one_run o opens observed tells are.took k (omega (arith, low_of sites k site there, are.count)) stamp world
      (subst (λ (x : _). HasReached o k (observed_by (journal_by x) (trace_by x)) stamp world) (sym there) reached)

  -- ---- as the cell has it

  -- where it is up
  running_in : (running : Up D) (ends : List NodeEnds) (clients : List ClientCell) → site.node.seat.node ≡ states.Up running → (was : IsRunning told state o k running ends clients) → IsInRun o k was.reached.world
  running_in running ends clients e was = in_run running.carried.chronicle.told.stamp was.reached.world
      (subst (λ (x : CellState D). HasReached o k (observed_of (carried_of x).chronicle.told) running.carried.chronicle.told.stamp was.reached.world) (sym e) was.reached.reached)

  pub node_fresh : (running : Up D) (ends : List NodeEnds) (clients : List ClientCell) → site.node.seat.node ≡ states.Up running → IsRunning told state o k running ends clients → IsFresh running
  node_fresh running ends clients e was = running_fresh told state o opens k running ends clients was (running_in running ends clients e was)

  -- its log
  pub log_named : (running : Up D) (ends : List NodeEnds) (clients : List ClientCell) → site.node.seat.node ≡ states.Up running → IsRunning told state o k running ends clients → are_named (recovery running.host.log.forced) ≡ true
  log_named running ends clients e was = subst (λ (l : List Record). are_named (recovery l) ≡ true) (ap (λ (h : Host). h.log) was.reached.shows.node.host)
      (named_there o opens k was.reached.world (running_in running ends clients e was))

  -- and either log that its disk may have where it is down
  pub logs_named : (stopped : Stopped D) (ends : List NodeEnds) (clients : List ClientCell) → site.node.seat.node ≡ states.Down stopped → (was : IsHalted told state o k stopped ends clients) → (log : List Record)
      → (log ≡ was.first) ⊎ (log ≡ was.other) → are_named (recovery log) ≡ true
  logs_named stopped ends clients e was log = by
    where
      of_log : (found : List Record) → Reaches o k stopped.carried.chronicle.told (SeatDown o k stopped ends clients found) → are_named (recovery found) ≡ true
      of_log found r = subst (λ (l : List Record). are_named (recovery l) ≡ true) r.shows.node.log_is
          (named_there o opens k r.world (in_run stopped.carried.chronicle.told.stamp r.world (subst (λ (x : CellState D). HasReached o k (observed_of (carried_of x).chronicle.told) stopped.carried.chronicle.told.stamp r.world) (sym e) r.reached)))

      by : (log ≡ was.first) ⊎ (log ≡ was.other) → are_named (recovery log) ≡ true
      by (inl first) = subst (λ (l : List Record). are_named (recovery l) ≡ true) (sym first) (of_log was.first was.to_first)
      by (inr other) = subst (λ (l : List Record). are_named (recovery l) ≡ true) (sym other) (of_log was.other was.to_other)
