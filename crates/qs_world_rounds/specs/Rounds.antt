-- The actors of a node: what is carried between them, who is visited, and where they stand.
use Rattle.std.specs.Prelude.{◌≡◌, ◌↔◌, ℕ, zero, suc, Bool, true, false, ◌&&◌, ◌||◌, List, [], ◌∷◌, is_none, Option, Some, None, Ok, slice_get, slice_set}
use Rattle.std.specs.List.{list_all}
use Rattle.qs_cell.specs.Starts.{CellValue, journal_of, post_of, trace_of}
use Rattle.qs_cell.specs.State.{StartsAgain, cause_of, is_settled_node, rounds_of}
use Rattle.qs_cell.specs.Visits.{has_noted}
use Rattle.qs_cell.specs.WholeVisits.{Visits, has_put}
use Rattle.qs_cell_peers.specs.Links.{IsSameNode}
use Rattle.qs_client.specs.Progress.{number_at, to_send}
use Rattle.qs_client.specs.Turns.{HearsThenSends}
use Rattle.qs_client.specs.declared.cell.ClientCell.{ClientCell}
use Rattle.qs_disk.specs.Disk.{DiskState}
use Rattle.qs_book_journal.specs.declared.entry.CrashCause.{CrashCause}
use Rattle.qs_book_journal.specs.declared.entry.CrashCause.TheVariants as causes
use Rattle.qs_link.specs.Lanes.{ends_of, CarriesIn, CarriesOut}
use Rattle.qs_world_rounds.specs.Repeats.{AllVisits}

-- the node, and its clients by number
pub record Cast (D : Type 0) : Type 0 where
  pub node : CellValue D
  pub clients : List ClientCell

abbrev pub is_up : {D : Type 0} → CellValue D → Bool
is_up cell = is_none (cause_of cell.seat.node)

-- ---- as a round begins, what stands in the lanes is carried to their ends

-- a cell keeps what it was started with, what its disk had counted then, and whose links it has
pub record IsSameStart {D : Type 0} (old new : CellValue D) : Type 0 where
  pub opened : new.opened ≡ old.opened
  pub faults : new.faults ≡ old.faults
  pub links : IsSameNode old.links new.links

-- between the node and one client
pub record CarriesBoth {D : Type 0} (old new : CellValue D) (before after : ClientCell) : Type 0 where
  pub mid : CellValue D
  pub held : ℕ
  pub heard : ℕ
  pub commands : CarriesIn before.client before.commands after.commands old.seat.ends mid.seat.ends (Ok held) (ends_of before.client old.seat.ends)
  pub answers : CarriesOut before.client before.answers after.answers mid.seat.ends new.seat.ends (Ok heard) (ends_of before.client mid.seat.ends)
  pub node : new.seat.node ≡ old.seat.node
  pub links : new.links ≡ old.links
  pub start : IsSameStart old new
  pub client : after ≡ record before { commands = after.commands; answers = after.answers }

-- between the node and each of these clients, in order
abbrev pub CarriesAll : {D : Type 0} → CellValue D → CellValue D → List ClientCell → List ClientCell → Type 0
CarriesAll old new [] [] = new ≡ old
CarriesAll old new (before ∷ befores) (after ∷ afters) =
    (mid : CellValue _) × (CarriesBoth old mid before after × CarriesAll mid new befores afters)
CarriesAll old new _ _ = ⊥

-- ---- visits; each says whether anything was done in it

-- memory was refused within a step
abbrev pub is_refused : Option CrashCause → Bool
is_refused (Some causes.Memory) = true
is_refused _ = false

-- a node that is up makes its events
pub record NodeActs {D : Type 0} (told : Type 0) (state : D → DiskState) (own size : D → ℕ) (old new : CellValue D) (did : Bool) : Type 0 where
  pub visits : Visits told state own size (post_of old) (post_of new)
  pub did_is : did ≡ (has_put (trace_of old) (trace_of new) || has_noted (journal_of old) (journal_of new))
  pub granted : is_refused (cause_of new.seat.node) ≡ false
  pub start : IsSameStart old new

-- a node that is down is started again; it stays down where its fuse trips
pub record NodeStarts {D : Type 0} (told : Type 0) (state : D → DiskState) (own size : D → ℕ) (old new : CellValue D) (did : Bool) : Type 0 where
  pub starts : StartsAgain told state own size old.alloc old.seat.node new.seat.node (Ok did)
  pub ends : new.seat.ends ≡ old.seat.ends
  pub links : new.links ≡ old.links
  pub start : IsSameStart old new

abbrev pub NodeVisitIf : {D : Type 0} → Bool → Type 0 → (D → DiskState) → (D → ℕ) → (D → ℕ) → CellValue D → CellValue D → Bool → Type 0
NodeVisitIf true told state own size old new did = NodeActs told state own size old new did
NodeVisitIf false told state own size old new did = NodeStarts told state own size old new did

abbrev pub NodeVisit : {D : Type 0} → Type 0 → (D → DiskState) → (D → ℕ) → (D → ℕ) → CellValue D → CellValue D → Bool → Type 0
NodeVisit told state own size old new did = NodeVisitIf (is_up old) told state own size old new did

-- a client takes an answer that was carried, and then sends its next command; it does nothing exactly where no answer was carried and it has no command to send
pub record ClientVisit (old new : ClientCell) (did : Bool) : Type 0 where
  pub turn : HearsThenSends did old new
  pub idle : (did ≡ false) ↔ (to_send old.progress ≡ None) × (old.answers.inbox ≡ [])
  pub client : new.client ≡ old.client
  pub commands : new.commands.ring ≡ old.commands.ring
  pub answers : new.answers.ring ≡ old.answers.ring

-- the client at that place, where there is one
abbrev pub ClientVisitAt : ℕ → Option ClientCell → List ClientCell → List ClientCell → Bool → Type 0
ClientVisitAt at None old new did = (new ≡ old) × (did ≡ false)
ClientVisitAt at (Some client) old new did = (after : ClientCell) × (ClientVisit client after did × (new ≡ slice_set old at after))

-- place 0 is the node, and the places behind it are the clients
abbrev pub VisitAt : {D : Type 0} → Type 0 → (D → DiskState) → (D → ℕ) → (D → ℕ) → ℕ → Cast D → Cast D → Bool → Type 0
VisitAt told state own size zero old new did = NodeVisit told state own size old.node new.node did × (new.clients ≡ old.clients)
VisitAt told state own size (suc at) old new did =
    (new.node ≡ old.node) × ClientVisitAt at (slice_get old.clients at) old.clients new.clients did

-- in the order of these places; something was done where it was in one of them
abbrev pub VisitAll : {D : Type 0} → Type 0 → (D → DiskState) → (D → ℕ) → (D → ℕ) → List ℕ → Cast D → Cast D → Bool → Type 0
VisitAll told state own size places old new did = AllVisits (VisitAt told state own size) places old new did

-- ---- how often the node is visited

-- the visits and restarts of the node so far
abbrev pub visits_of : {D : Type 0} → Cast D → ℕ
visits_of cast = rounds_of cast.node.seat.node

-- ---- where the actors stand

abbrev pub has_ended : ClientCell → Bool
has_ended client = is_none (number_at client.progress)

-- each script has ended
abbrev pub all_ended : {D : Type 0} → Cast D → Bool
all_ended cast = list_all has_ended cast.clients

-- and no transaction is unended at the node
abbrev pub are_settled : {D : Type 0} → Cast D → Bool
are_settled cast = all_ended cast && is_settled_node cast.node.seat.node
