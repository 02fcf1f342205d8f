-- All sites of a run at once: each a node with its clients in a world over packets, and each link between the traces of its two nodes.
use Rattle.std.specs.Prelude.{◌≡◌, ℕ, List, [], length, Option, Some, None, slice_get}
use Rattle.std.specs.Global.{Global}
use Rattle.qs_book_journal.specs.declared.entry.Entry.{Entry}
use Rattle.qs_book_script.specs.declared.script.Script.{Script}
use Rattle.qs_cell.specs.Hearing.{Post}
use Rattle.qs_cell.specs.Starts.{journal_of, post_of, trace_of}
use Rattle.qs_disk.specs.Disk.{DiskState}
use Rattle.qs_link.specs.declared.outgoing.LinkFault.{LinkFault}
use Rattle.qs_node_step.specs.declared.trace.Step.{Step}
use Rattle.qs_world.specs.World.{Opening}
use Rattle.qs_world_links.specs.Everywhere.{LinksAreTold}
use Rattle.qs_world_plans.specs.Plan.{setting_of}
use Rattle.qs_world_rounds.specs.Rounds.{Cast}
use Rattle.qs_world_seats.specs.Cells.{IsCellIn}
use Rattle.qs_world_seats.specs.Sites.{IsSiteIn, OpensSite}
use Rattle.qs_world_sites.specs.Seats.{HasBegun, plan_between}
use Rattle.qs_world_sites.specs.Sites.{SitesValue}
use Rattle.qs_world_traces.specs.Links.{KeepPlans}

-- ---- what the cells tell, by the numbers of their nodes, and nothing where there is no such node

abbrev pub journal_by : {D : Type 0} → Option (Cast D) → List Entry
journal_by None = []
journal_by (Some site) = journal_of site.node

abbrev pub trace_by : {D : Type 0} → Option (Cast D) → List Step
trace_by None = []
trace_by (Some site) = trace_of site.node

abbrev pub journal_at : {D : Type 0} → List (Cast D) → ℕ → List Entry
journal_at sites n = journal_by (slice_get sites n)

abbrev pub trace_at : {D : Type 0} → List (Cast D) → ℕ → List Step
trace_at sites n = trace_by (slice_get sites n)

-- ---- they stand in the world

-- the node with its ends of its links, and any other where there is no such node
abbrev pub post_by : {D : Type 0} → Post D → Option (Cast D) → Post D
post_by other None = other
post_by other (Some site) = post_of site.node

abbrev pub post_at : {D : Type 0} → Post D → List (Cast D) → ℕ → Post D
post_at other sites n = post_by other (slice_get sites n)

-- as many sites as the opening has nodes, each in the world, and links that keep these plans; plans m n is that of the link from m to n
pub record AreSitesIn {D : Type 0} (told : Type 0) (state : D → DiskState) (o : Opening) (plans : ℕ → ℕ → List LinkFault) (sites : List (Cast D)) : Type 0 where
  pub count : length sites ≡ o.size
  pub each : (n : ℕ) (site : Cast D) → slice_get sites n ≡ Some site → IsSiteIn told state o n site
  pub links : (other : Post D) → LinksAreTold o.size plans (post_at other sites)

-- so much stands where memory was refused at one of them: each cell is where its node has come to, whatever became of the clients, and what each took of each
-- other one is a front of what goes out by the plan of that link
pub record AreCellsIn {D : Type 0} (told : Type 0) (state : D → DiskState) (o : Opening) (plans : ℕ → ℕ → List LinkFault) (sites : List (Cast D)) : Type 0 where
  pub count : length sites ≡ o.size
  pub each : (n : ℕ) (site : Cast D) → slice_get sites n ≡ Some site → IsCellIn told state o n site.node.seat.node
  pub keep : KeepPlans o.size plans (trace_at sites)

-- ---- as they begin

-- what a script has planned for the links
abbrev pub plans_of : Script → ℕ → ℕ → List LinkFault
plans_of script n m = plan_between n m script.faults

-- the opening has as many nodes as there are disks, each over the log that was raised on its disk, with the clients there and their commands
pub record OpensSites {D : Type 0} (told : Type 0) (state : D → DiskState) (own : D → ℕ) (alloc : Global) (script : Script) (disks : List D) (all : SitesValue D) (begun : HasBegun told state own alloc script disks all) (o : Opening) : Type 0 where
  pub size : o.size ≡ length disks
  pub sites : (n : ℕ) (disk : D) (site : Cast D) (of_disk : slice_get disks n ≡ Some disk) (there : slice_get all.sites n ≡ Some site)
      → OpensSite alloc n (setting_of script (length disks) (record { 0 = n }) 0) script site.clients (begun.each n disk site of_disk there).started.running.host.log o
