-- One site of a run: a node and its clients in a world over packets, through carrying, visits in any order and whatever changes its links. And as it
-- begins.
use Rattle.std.specs.Prelude.{◌≡◌, ℕ, zero, suc, ◌<◌, Bool, List, [], ◌∷◌, ◌++◌, map, if◌then◌else◌}
use Rattle.std.specs.Global.{Global}
use Rattle.qs_base.specs.declared.identifiers.ClientNo.{ClientNo}
use Rattle.qs_cell.specs.Starts.{CellValue, IsStarted, setting_in}
use Rattle.qs_cell.specs.declared.starting.NodePlan.{NodePlan}
use Rattle.qs_cell_peers.specs.Links.{LinksValue}
use Rattle.qs_client.specs.declared.cell.ClientCell.{ClientCell}
use Rattle.qs_disk.specs.Disk.{DiskState}
use Rattle.qs_disk.specs.Fuse.{FusedValue}
use Rattle.qs_book_script.specs.declared.script.Script.{Script}
use Rattle.qs_log.specs.Log.{LogValue}
use Rattle.qs_node_step.specs.declared.setting.Setting.{Setting}
use Rattle.qs_session_channels.specs.Network.{Among}
use Rattle.qs_world.specs.World.{Opening}
use Rattle.qs_world_one.specs.Seats.{AreApart}
use Rattle.qs_world_plans.specs.Plan.{commands_of}
use Rattle.qs_world_plans.specs.Waiting.{client_count}
use Rattle.qs_world_rounds.specs.Breaks.{FailsAt}
use Rattle.qs_world_rounds.specs.Rounds.{CarriesAll, Cast, NodeVisit, VisitAll, VisitAt}
use Rattle.qs_world_rounds.specs.Seats.{AreSeated, number_of}
use Rattle.qs_world_seats.specs.Beginnings.{OpensWith}
use Rattle.qs_world_seats.specs.Carrying.{IsWithClients}
use Rattle.qs_world_seats.specs.Visiting.{AreOfClients}

-- node n with its clients in the world; each of its lanes is of one of them
pub record IsSiteIn {D : Type 0} (told : Type 0) (state : D → DiskState) (o : Opening) (n : ℕ) (cast : Cast D) : Type 0 where
  pub there : IsWithClients told state o n cast.node cast.clients
  pub lanes : AreOfClients cast.node.seat.ends cast.clients

-- ---- a visit of the node: it makes its events where it is up, and is started again where it is down; no memory is refused

-- where the disk tells what is on it
abbrev pub NodeGoesOn : {D : Type 0} → Type 0 → (D → DiskState) → (D → ℕ) → (D → ℕ) → Opening → ℕ → CellValue D → CellValue D → Bool → List ClientCell → Type 0
NodeGoesOn told state own size o n old new did clients =
    told → NodeVisit told state own size old new did → IsSiteIn told state o n (record { node = old; clients = clients }) → IsSiteIn told state o n (record { node = new; clients = clients })

-- ---- the lanes are carried, and one actor after the other has its visit

abbrev pub SiteCarries : {D : Type 0} → Type 0 → (D → DiskState) → Opening → ℕ → Cast D → Cast D → Type 0
SiteCarries told state o n old new = CarriesAll old.node new.node old.clients new.clients → IsSiteIn told state o n old → IsSiteIn told state o n new

abbrev pub SiteVisits : {D : Type 0} → Type 0 → (D → DiskState) → (D → ℕ) → (D → ℕ) → Opening → ℕ → ℕ → Cast D → Cast D → Bool → Type 0
SiteVisits told state own size o n place old new did = told → VisitAt told state own size place old new did → IsSiteIn told state o n old → IsSiteIn told state o n new

abbrev pub SiteGoesOn : {D : Type 0} → Type 0 → (D → DiskState) → (D → ℕ) → (D → ℕ) → Opening → ℕ → List ℕ → Cast D → Cast D → Bool → Type 0
SiteGoesOn told state own size o n places old new did = told → VisitAll told state own size places old new did → IsSiteIn told state o n old → IsSiteIn told state o n new

-- a restart that fails stays where it was
abbrev pub SiteFails : {D : Type 0} → Type 0 → (D → DiskState) → (D → ℕ) → (D → ℕ) → Opening → ℕ → ℕ → Cast D → Cast D → Type 0
SiteFails told state own size o n place old new = told → FailsAt told state own size place old new → IsSiteIn told state o n old → IsSiteIn told state o n new

-- ---- the links of the node are no matter

abbrev pub with_links : {D : Type 0} → LinksValue → Cast D → Cast D
with_links links cast = record cast { node = record cast.node { links = links } }

abbrev pub SiteLinks : {D : Type 0} → Type 0 → (D → DiskState) → Opening → ℕ → Cast D → LinksValue → Type 0
SiteLinks told state o n cast links = IsSiteIn told state o n cast → IsSiteIn told state o n (with_links links cast)

-- ---- as it begins

-- the opening has the node over this log, which was raised as the node began, and there each client with its commands
pub record OpensSite {D : Type 0} (alloc : Global) (n : ℕ) (given : Setting) (script : Script) (clients : List ClientCell) (log : LogValue (FusedValue D)) (o : Opening) : Type 0 where
  pub node : OpensWith n alloc (setting_in log given) log.forced o
  pub scripts : (client : ClientCell) → Among clients client → o.clients client.client.0 ≡ (n, commands_of client.client script.lines)

-- clients have numbers of their own, below that limit
pub record AreNumbered (limit : ℕ) (clients : List ClientCell) : Type 0 where
  pub apart : AreApart clients
  pub below : (client : ClientCell) → Among clients client → client.client.0 < limit

-- the node is started over a disk that tells what is on it, and each client is at the first of its lines
abbrev pub SiteBegins : {D : Type 0} → Type 0 → (D → DiskState) → Opening → ℕ → Global → Setting → NodePlan → Script → D → Cast D → Type 0
SiteBegins told state o n alloc given plan script disk cast =
    told → (started : IsStarted told state alloc disk given cast.node.links cast.node.seat.ends plan cast.node) → OpensSite alloc n given script cast.clients started.running.host.log o
    → AreNumbered client_count cast.clients → AreSeated script cast.clients cast.node.seat.ends → IsSiteIn told state o n cast

-- the numbers below a limit of which a test holds
abbrev pub numbers_below : (ClientNo → Bool) → ℕ → List ClientNo
numbers_below is zero = []
numbers_below is (suc n) = numbers_below is n ++ (if is (record { 0 = n }) then record { 0 = n } ∷ [] else [])

-- clients that stand so by number
abbrev pub ByNumber : (ClientNo → Bool) → ℕ → List ClientCell → Type 0
ByNumber is limit clients = map number_of clients ≡ numbers_below is limit → AreNumbered limit clients
