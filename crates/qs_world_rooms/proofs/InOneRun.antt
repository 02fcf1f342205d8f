-- Local runs of all nodes, of which each took what was put, are in one run. So a node has in it what it has by itself: what a client begins there is not known to it, and its
-- log is of transactions.
use Rattle.std.proofs.Common.{◌≡◌, ◌∙◌, ap, refl, subst, sym, ℕ, ◌==◌, ◌<◌, Bool, true, false, List, arith}
use Rattle.std.proofs.lemmas.Bool.{eqb-false, eqb-true}
use Rattle.qs_cell.specs.State.{Up}
use Rattle.qs_client.specs.declared.cell.ClientCell.{ClientCell}
use Rattle.qs_disk.specs.Disk.{DiskState}
use Rattle.qs_link.specs.declared.ends.NodeEnds.{NodeEnds}
use Rattle.qs_node_room.specs.Fits.{BeginsNew}
use Rattle.qs_node_room.specs.Opens.{are_named}
use Rattle.qs_node_step.specs.Restarts.{begin_incarnation}
use Rattle.qs_node_step.specs.State.{NodeValue, work_on}
use Rattle.qs_node_step.specs.declared.event.Event.{Event}
use Rattle.qs_restart.specs.Recovery.{recovery}
use Rattle.qs_world.specs.Openings.{IsOpening}
use Rattle.qs_world.specs.World.{Host, Opening}
use Rattle.qs_world_left.proofs.RunsLeave.{same_size}
use Rattle.qs_world_merge.proofs.OfOneRun.{each_is_of_one_run}
use Rattle.qs_world_merge.specs.LocalRuns.{client_at}
use Rattle.qs_world_merge.specs.MergedRuns.{untimed}
use Rattle.qs_world_merge.specs.Observed.{AreOfLocalRuns, IsOfLocalRun, IsOfOneRun, Observed, TookWhatWasPut}
use Rattle.qs_world_merge.specs.Reaching.{HasReached}
use Rattle.qs_world_merge.specs.SameAt.{SameAt}
use Rattle.qs_world_packets.specs.PacketMoves.{Move}
use Rattle.qs_world_packets.specs.PacketRuns.{Run}
use Rattle.qs_world_packets.specs.PacketWorld.{PacketWorld, start}
use Rattle.qs_world_rooms.proofs.RunsBegin.{each_run_begins_new, each_run_is_named}
use Rattle.qs_world_seats.specs.Reached.{IsRunning}

-- the node has in a world of a run of all nodes what it has in this one
pub record IsInRun (o : Opening) (k : ℕ) (world : PacketWorld) : Type 0 where
  pub moves : List Move
  pub all : PacketWorld
  pub run : Run (start o) moves all
  pub low : k < all.size
  pub host : all.hosts k ≡ world.hosts k
  pub up : all.network.up k ≡ world.network.up k

module _ (o : Opening) (opens : IsOpening o) (observed : ℕ → Observed) (each : AreOfLocalRuns o observed) (took : TookWhatWasPut o.size observed) (k : ℕ) (in_k : k < o.size) (stamp : ℕ) (world : PacketWorld)
    (reached : HasReached o k (observed k) stamp world) where
  -- each tells of a local run, and that of node k came to this world
  record Goes (n : ℕ) : Type 0 where
    local : IsOfLocalRun o n (observed n)
    is : n ≡ k → local.world ≡ world

  chosen : Goes k
  chosen = record {
    local = record { steps = reached.steps; are = reached.are; world = world; run = reached.run; journal_is = reached.journal_is; trace_is = reached.trace_is; puts = reached.puts; takes = reached.takes };
    is = λ same. refl;
  }

  goes : (n : ℕ) → n < o.size → Goes n
  goes n low = by (n == k) refl
    where
      by : (b : Bool) → (n == k) ≡ b → Goes n
      by true e = subst (λ (j : ℕ). Goes j) (sym (eqb-true n k e)) chosen
      by false e = record { local = each n low; is = λ same. absurd (eqb-false n k e same) }

  abbrev local : AreOfLocalRuns o observed
  local n low = (goes n low).local

  one : IsOfOneRun o observed local
  one = each_is_of_one_run o observed local took

  same : SameAt (client_at o) k one.world (local k in_k).world
  same = one.each k in_k

  pub in_one_run : IsInRun o k world
  in_one_run = record {
    moves = untimed one.moves;
    all = one.world;
    run = one.run;
    low = omega (arith, in_k, same_size o (untimed one.moves) one.world opens one.run);
    host = same.host ∙ ap (λ (w : PacketWorld). w.hosts k) ((goes k in_k).is refl);
    up = same.network.up ∙ ap (λ (w : PacketWorld). w.network.up k) ((goes k in_k).is refl);
  }

-- what a node has whose world is so in a run of all
module _ (o : Opening) (opens : IsOpening o) (k : ℕ) (world : PacketWorld) (r : IsInRun o k world) where
  pub begins_there : world.network.up k ≡ true → (free : ℕ) (event : Event) → BeginsNew event (begin_incarnation (work_on (world.hosts k).node free))
  begins_there up free event = subst (λ (h : Host). BeginsNew event (begin_incarnation (work_on h.node free))) r.host (each_run_begins_new o r.moves r.all k free event opens r.run r.low (r.up ∙ up))

  pub named_there : are_named (recovery (world.hosts k).log) ≡ true
  named_there = subst (λ (h : Host). are_named (recovery h.log) ≡ true) r.host (each_run_is_named o r.moves r.all k opens r.run r.low)

-- whatever comes to a node that is up begins what is new to it
abbrev pub IsFresh : {D : Type 0} → Up D → Type 0
IsFresh running = (free : ℕ) (event : Event) → BeginsNew event (begin_incarnation (work_on running.host.node free))

pub running_fresh : {D : Type 0} (told : Type 0) (state : D → DiskState) (o : Opening) (opens : IsOpening o) (k : ℕ) (running : Up D) (ends : List NodeEnds) (clients : List ClientCell) (was : IsRunning told state o k running ends clients)
    → IsInRun o k was.reached.world → IsFresh running
running_fresh told state o opens k running ends clients was r free event = subst (λ (n : NodeValue). BeginsNew event (begin_incarnation (work_on n free))) (ap (λ (h : Host). h.node) was.reached.shows.node.host)
    (begins_there o opens k was.reached.world r was.reached.shows.node.up free event)
