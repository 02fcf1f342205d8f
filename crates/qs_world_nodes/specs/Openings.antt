-- What a run of many nodes opens with is not assumed: it is the script over the logs that the nodes raised as they began.
use Rattle.std.specs.Prelude.{◌≡◌, ℕ, List, [], length, Option, Some, None, Ok, slice_get}
use Rattle.std.specs.Global.{Global}
use Rattle.qs_book_script.specs.declared.script.Script.{Script}
use Rattle.qs_book_script.specs.declared.script.Seat.{Seat}
use Rattle.qs_cell.specs.State.{carried_of}
use Rattle.qs_cell.specs.declared.state.CellState.{CellState}
use Rattle.qs_cell.specs.declared.state.CellState.TheVariants as states
use Rattle.qs_disk.specs.Disk.{DiskState}
use Rattle.qs_record.specs.declared.record.Record.{Record}
use Rattle.qs_session_channels.specs.Network.{Among}
use Rattle.qs_text_script.specs.Script.{script_of}
use Rattle.qs_world.specs.World.{Opening}
use Rattle.qs_world_nodes.specs.Nodes.{OpensSites}
use Rattle.qs_world_opening.specs.Scripts.{opening_by}
use Rattle.qs_world_rounds.specs.Rounds.{Cast}
use Rattle.qs_world_sites.specs.Seats.{HasBegun}
use Rattle.qs_world_sites.specs.Sites.{SitesValue}

-- the incarnation of each node, and what its log has
abbrev pub inc_by : {D : Type 0} → Option (Cast D) → ℕ
inc_by None = 0
inc_by (Some site) = (carried_of site.node.seat.node).setting.inc

abbrev pub forced_in : {D : Type 0} → CellState D → List Record
forced_in (states.Up running) = running.host.log.forced
forced_in (states.Down stopped) = []

abbrev pub log_by : {D : Type 0} → Option (Cast D) → List Record
log_by None = []
log_by (Some site) = forced_in site.node.seat.node

abbrev pub opening_over : {D : Type 0} → Global → Script → List D → List (Cast D) → Opening
opening_over alloc script disks sites = opening_by alloc script (length disks) (λ n. inc_by (slice_get sites n)) (λ n. log_by (slice_get sites n))

-- no client sits at two nodes
abbrev pub SitOnce : List Seat → Type 0
SitOnce seats = (a b : Seat) → Among seats a → Among seats b → a.client.0 ≡ b.client.0 → a.node.0 ≡ b.node.0

abbrev pub NodesHaveOpening : {D : Type 0} → Type 0 → (D → DiskState) → (D → ℕ) → Global → Script → List D → SitesValue D → Type 0
NodesHaveOpening told state own alloc script disks all =
    (begun : HasBegun told state own alloc script disks all) → SitOnce script.seats → OpensSites told state own alloc script disks all begun (opening_over alloc script disks all.sites)

-- none does by a script that is read
abbrev pub ReadSitOnce : ℕ → List ℕ → Script → Type 0
ReadSitOnce nodes text script = script_of nodes text ≡ Ok script → SitOnce script.seats
