-- What a start, a visit and a restart do with the links of their node: the trace tells it.
use Rattle.std.specs.Prelude.{◌≡◌, ℕ, List, [], Result, Bool}
use Rattle.std.specs.Global.{Global}
use Rattle.qs_cell.specs.Hearing.{Post}
use Rattle.qs_cell.specs.Starts.{CellValue, IsStarted, post_of, trace_of}
use Rattle.qs_cell.specs.State.{StartsAgain}
use Rattle.qs_cell.specs.WholeVisits.{Breaks, Visits}
use Rattle.qs_cell.specs.declared.starting.NodePlan.{NodePlan}
use Rattle.qs_cell.specs.declared.state.RestartFault.{RestartFault}
use Rattle.qs_cell_peers.specs.Links.{LinksValue}
use Rattle.qs_disk.specs.Disk.{DiskState}
use Rattle.qs_link.specs.declared.ends.NodeEnds.{NodeEnds}
use Rattle.qs_node_step.specs.declared.setting.Setting.{Setting}
use Rattle.qs_world_links.specs.Posts.{IsPostOf, TellsOfLinks, TellsOfTakes}

-- with links of its own node it is the cell of that node, and tells of nothing yet
abbrev pub StartTells : {D : Type 0} → Type 0 → (D → DiskState) → ℕ → Global → D → Setting → LinksValue → List NodeEnds → NodePlan → CellValue D → Type 0
StartTells told state n alloc disk setting links ends plan new =
    IsStarted told state alloc disk setting links ends plan new → setting.node.0 ≡ n → links.size ≡ setting.nodes → links.me.0 ≡ n
    → IsPostOf setting.nodes n (post_of new) × ((trace_of new ≡ []) × (new.links ≡ links))

abbrev pub VisitTells : {D : Type 0} → Type 0 → (D → DiskState) → (D → ℕ) → (D → ℕ) → ℕ → ℕ → Post D → Post D → Type 0
VisitTells told state own size nodes n old new = Visits told state own size old new → IsPostOf nodes n old → TellsOfLinks nodes n old new

-- nothing is put as a node starts again, and nothing is taken
abbrev pub RestartTells : {D : Type 0} → Type 0 → (D → DiskState) → (D → ℕ) → (D → ℕ) → Global → ℕ → ℕ → Post D → Post D → Result Bool RestartFault → Type 0
RestartTells told state own size alloc nodes n old new answer =
    StartsAgain told state own size alloc old.seat.node new.seat.node answer → new.links ≡ old.links → IsPostOf nodes n old → TellsOfLinks nodes n old new

-- ---- where memory was refused

-- within a visit
abbrev pub BreakTells : {D : Type 0} → Type 0 → (D → DiskState) → (D → ℕ) → (D → ℕ) → ℕ → ℕ → Post D → Post D → Type 0
BreakTells told state own size nodes n old new = Breaks told state own size old new → IsPostOf nodes n old → TellsOfTakes nodes n old new

-- a visit that was made tells as much
abbrev pub VisitTellsTakes : {D : Type 0} → Type 0 → (D → DiskState) → (D → ℕ) → (D → ℕ) → ℕ → ℕ → Post D → Post D → Type 0
VisitTellsTakes told state own size nodes n old new = Visits told state own size old new → IsPostOf nodes n old → TellsOfTakes nodes n old new

-- and a restart, whatever it answers
abbrev pub RestartTellsTakes : {D : Type 0} → Type 0 → (D → DiskState) → (D → ℕ) → (D → ℕ) → Global → ℕ → ℕ → Post D → Post D → Result Bool RestartFault → Type 0
RestartTellsTakes told state own size alloc nodes n old new answer =
    StartsAgain told state own size alloc old.seat.node new.seat.node answer → IsPostOf nodes n old → TellsOfTakes nodes n old new
