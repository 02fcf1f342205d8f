-- The actors as a run of a script begins: the node over its disk, and the clients at the first of their lines.
use Rattle.std.specs.Prelude.{◌≡◌, ⊤, ℕ, zero, suc, ◌==◌, Bool, List, [], ◌∷◌, ◌++◌, ◌&&◌, map, Result, Ok, Err, if◌then◌else◌}
use Rattle.std.specs.List.{list_any}
use Rattle.std.specs.Global.{Global}
use Rattle.qs_base.specs.declared.identifiers.ClientNo.{ClientNo}
use Rattle.qs_base.specs.declared.identifiers.NodeNo.{NodeNo}
use Rattle.qs_cell.specs.Starts.{IsStarted}
use Rattle.qs_cell.specs.State.{disk_of}
use Rattle.qs_cell.specs.declared.starting.CellOpen.{CellOpen}
use Rattle.qs_cell.specs.declared.starting.NodePlan.{NodePlan}
use Rattle.qs_cell_peers.specs.Links.{LinksValue}
use Rattle.qs_client.specs.Progress.{begun}
use Rattle.qs_client.specs.declared.cell.ClientCell.{ClientCell}
use Rattle.qs_disk.specs.Disk.{DiskState}
use Rattle.qs_disk.specs.Fuse.{FusedValue}
use Rattle.qs_link.specs.declared.ends.NodeEnds.{NodeEnds}
use Rattle.qs_link.specs.Lane.{IsLane, on_way}
use Rattle.qs_world_plans.specs.Plan.{setting_of, commands_of, crashes_of, stops_of, points_of}
use Rattle.qs_world_plans.specs.Waiting.{client_count}
use Rattle.qs_world_rounds.specs.Rounds.{Cast}
use Rattle.qs_book_script.specs.declared.script.FaultLine.{FaultLine}
use Rattle.qs_book_script.specs.declared.script.Script.{Script}
use Rattle.qs_book_script.specs.declared.script.Seat.{Seat}

-- ---- the node

-- links of a node, in a run of so many
pub record AreLinksOf (size : ℕ) (node : NodeNo) (links : LinksValue) : Type 0 where
  pub size_is : links.size ≡ size
  pub me : links.me ≡ node

-- what a script has planned for a node
abbrev pub plan_of : NodeNo → List FaultLine → NodePlan
plan_of node lines = record { crashes = crashes_of node lines; stops = stops_of node lines; points = points_of node lines }

-- ---- the clients

-- a line gives the client a seat at the node
abbrev pub sits_at : NodeNo → ClientNo → List Seat → Bool
sits_at node client seats = list_any (λ seat. (seat.client.0 == client.0) && (seat.node.0 == node.0)) seats

abbrev pub seated_as : NodeNo → ClientNo → List Seat → List ClientNo
seated_as node client seats = if sits_at node client seats then client ∷ [] else []

-- those whose numbers are below this one, by number
abbrev pub seated_below : NodeNo → List Seat → ℕ → List ClientNo
seated_below node seats zero = []
seated_below node seats (suc n) = seated_below node seats n ++ seated_as node (record { 0 = n }) seats

unfoldable pub seated : NodeNo → List Seat → List ClientNo
seated node seats = seated_below node seats client_count

-- a client at the first of its lines, and the node's ends of its lanes, in which nothing is on its way
pub record IsSeated (script : Script) (client : ClientCell) (end : NodeEnds) : Type 0 where
  pub number : end.client ≡ client.client
  pub progress : client.progress ≡ begun (commands_of client.client script.lines)
  pub commands : IsLane client.commands end.commands
  pub answers : IsLane end.answers client.answers
  pub no_commands : on_way client.commands end.commands ≡ []
  pub no_answers : on_way end.answers client.answers ≡ []

abbrev pub AreSeated : Script → List ClientCell → List NodeEnds → Type 0
AreSeated script [] [] = ⊤
AreSeated script (client ∷ clients) (end ∷ ends) = IsSeated script client end × AreSeated script clients ends
AreSeated script _ _ = ⊥

abbrev pub number_of : ClientCell → ClientNo
number_of client = client.client

-- one more client stands behind the others
pub record IsOneMore (script : Script) (number : ClientNo) (clients : List ClientCell) (ends : List NodeEnds) (new_clients : List ClientCell) (new_ends : List NodeEnds) : Type 0 where
  pub client : ClientCell
  pub end : NodeEnds
  pub number_is : client.client ≡ number
  pub seat : IsSeated script client end
  pub clients_are : new_clients ≡ clients ++ client ∷ []
  pub ends_are : new_ends ≡ ends ++ end ∷ []

-- ---- all of them

-- a node of a run of so many began over the disk, as the script sets it, and so did the clients that have a seat there, by number
pub record BeginsAt {D : Type 0} (told : Type 0) (state : D → DiskState) (own : D → ℕ) (alloc : Global) (script : Script) (size : ℕ) (node : NodeNo) (disk : D) (cast : Cast D) : Type 0 where
  pub started : IsStarted told state alloc disk (setting_of script size node 0) cast.node.links cast.node.seat.ends (plan_of node script.faults) cast.node
  pub links : AreLinksOf size node cast.node.links
  pub faults : cast.node.faults ≡ own disk
  pub clients : map number_of cast.clients ≡ seated node script.seats
  pub seats : AreSeated script cast.clients cast.node.seat.ends

-- the disk, whether they began or not
abbrev pub begun_disk : {D : Type 0} → Result (Cast D) (CellOpen D) → FusedValue D
begun_disk (Ok cast) = disk_of cast.node.seat.node
begun_disk (Err back) = back.disk
