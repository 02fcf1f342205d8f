-- The packets of a visit: of each other node of the run those that were carried, one after the other, as long as the node is up.
use Rattle.std.specs.Prelude.{◌≡◌, ◌⊎◌, ◌↔◌, ℕ, zero, suc, ◌==◌, ◌<◌, true, not, List, [], option_to_list, Option, Some, None}
use Rattle.qs_disk.specs.Disk.{DiskState}
use Rattle.qs_files.specs.declared.files.Files.{Files}
use Rattle.qs_link.specs.Lane.{Drawn}
use Rattle.qs_ops.specs.declared.no_server.NoServer.{NoServer}
use Rattle.qs_packet.specs.declared.packet.Packet.{Packet}
use Rattle.qs_node_step.specs.declared.event.ClientAnswer.{ClientAnswer}
use Rattle.qs_cell_chronicle.specs.declared.occasion.Occasion.TheVariants as occasions
use Rattle.qs_cell_peers.specs.Hears.{ends_heard, heard_of}
use Rattle.qs_cell_peers.specs.Links.{IsSameNode, LinksValue, SameInto, SameOut, carried_from, into_of}
use Rattle.qs_cell_peers.specs.Sessions.{EndAs, SessionsValue}
use Rattle.qs_cell_peers.specs.declared.heard.Heard.{Heard}
use Rattle.qs_cell_peers.specs.declared.heard.Heard.TheVariants as heards
use Rattle.qs_cell.specs.Asides.{IsAsideOutcome}
use Rattle.qs_cell.specs.Outcomes.{Outcome}
use Rattle.qs_cell.specs.State.{Up, answers_of, state_of}
use Rattle.qs_cell.specs.Visits as visits
use Rattle.qs_cell.specs.Visits.{MakesIn, Seat, all_delivered}
use Rattle.qs_cell.specs.declared.state.CellState.{CellState}
use Rattle.qs_cell.specs.declared.state.CellState.TheVariants as states

-- the node with its lanes, and its ends of its links
pub record Post (D : Type 0) : Type 0 where
  pub seat : Seat D
  pub links : LinksValue

-- ---- one packet

-- the next one of those that were carried from that node was taken; none exactly where there is none
pub record HasTaken (m : ℕ) (taken : Option Packet) (old new : LinksValue) : Type 0 where
  pub same : IsSameNode old new
  pub out : SameOut (λ k. true) old new
  pub others : SameInto (λ k. not (k == m)) old new
  pub took : Drawn (option_to_list taken) (into_of old m) (into_of new m)
  pub ring : (into_of new m).ring ≡ (into_of old m).ring
  pub none : taken ≡ None ↔ (into_of old m).inbox ≡ []

-- a packet aside is an event that leaves the node as it is
abbrev pub SetsAside : {D : Type 0} → Packet → CellState D → CellState D → List ClientAnswer → Type 0
SetsAside packet (states.Up old) new answers =
    (outcome : Outcome _ Files NoServer) × (IsAsideOutcome packet old outcome × ((new ≡ state_of outcome) × (answers ≡ answers_of outcome)))
SetsAside packet (states.Down old) new answers = (new ≡ states.Down old) × (answers ≡ [])

-- by what the sessions made of it, it is an event of the node, or of the cell alone; a strange one is none
abbrev pub HandsUp : {D : Type 0} → Type 0 → (D → DiskState) → (D → ℕ) → (D → ℕ) → Heard → Packet → CellState D → CellState D → List ClientAnswer → Type 0
HandsUp told state own size heards.Strange packet old new answers = (new ≡ old) × (answers ≡ [])
HandsUp told state own size heards.Aside packet old new answers = SetsAside packet old new answers
HandsUp told state own size heards.Message packet old new answers = MakesIn told state own size (occasions.Message packet) old new answers
HandsUp told state own size (heards.Restarted known) packet old new answers = MakesIn told state own size (occasions.Restarted packet known) old new answers

-- the sessions have taken it in, and else all is as it was
pub record HasHeard {D : Type 0} (packet : Packet) (old : Up D) (new : CellState D) (heard : Heard) : Type 0 where
  pub sessions : SessionsValue
  pub ends : EndAs old.sessions (ends_heard old.sessions packet) sessions
  pub node : new ≡ states.Up (record old { sessions = sessions })
  pub is : heard ≡ heard_of old.sessions packet

-- nothing comes to a node that is down
abbrev pub HasTakenIn : {D : Type 0} → Packet → CellState D → CellState D → Heard → Type 0
HasTakenIn packet (states.Up old) new heard = HasHeard packet old new heard
HasTakenIn packet (states.Down old) new heard = (new ≡ states.Down old) × (heard ≡ heards.Strange)

-- that comes first
pub record TakesIn {D : Type 0} (told : Type 0) (state : D → DiskState) (own size : D → ℕ) (packet : Packet) (old new : CellState D) (answers : List ClientAnswer) : Type 0 where
  pub mid : CellState D
  pub heard : Heard
  pub takes : HasTakenIn packet old mid heard
  pub hands : HandsUp told state own size heard packet mid new answers

-- ---- the turn of a node's packets

abbrev pub HearsIf : {D : Type 0} → Type 0 → (D → DiskState) → (D → ℕ) → (D → ℕ) → Option Packet → Post D → Post D → Type 0
HearsIf told state own size None old new = new ≡ old
HearsIf told state own size (Some packet) old new =
    (new.links ≡ old.links) × ((answers : List ClientAnswer) × (TakesIn told state own size packet old.seat.node new.seat.node answers × (new.seat.ends ≡ all_delivered answers old.seat.ends)))

-- what comes to a node that is down stays there
abbrev pub HearsIn : {D : Type 0} → Type 0 → (D → DiskState) → (D → ℕ) → (D → ℕ) → ℕ → CellState D → Post D → Post D → Type 0
HearsIn told state own size m (states.Down stopped) old new = new ≡ record old { seat = record old.seat { node = states.Down stopped } }
HearsIn told state own size m (states.Up running) old new =
    (taken : Option Packet) × ((left : LinksValue) × (HasTaken m taken old.links left × HearsIf told state own size taken (record { seat = record old.seat { node = states.Up running }; links = left }) new))

-- room for a crash is made before
pub record Hears {D : Type 0} (told : Type 0) (state : D → DiskState) (own size : D → ℕ) (m : ℕ) (old new : Post D) : Type 0 where
  pub ready : CellState D
  pub same : visits.IsSameNode old.seat.node ready
  pub turn : HearsIn told state own size m ready old new

-- so many turns of that node
abbrev pub HearsTimes : {D : Type 0} → Type 0 → (D → DiskState) → (D → ℕ) → (D → ℕ) → ℕ → ℕ → Post D → Post D → Type 0
HearsTimes told state own size m zero old new = new ≡ old
HearsTimes told state own size m (suc count) old new = (mid : Post _) × (HearsTimes told state own size m count old mid × Hears told state own size m mid new)

-- as many as packets of it were carried
abbrev pub HearsFrom : {D : Type 0} → Type 0 → (D → DiskState) → (D → ℕ) → (D → ℕ) → ℕ → Post D → Post D → Type 0
HearsFrom told state own size m old new = HearsTimes told state own size m (carried_from old.links m) old new

-- of each node below a number, in order
abbrev pub HearsBelow : {D : Type 0} → Type 0 → (D → DiskState) → (D → ℕ) → (D → ℕ) → ℕ → Post D → Post D → Type 0
HearsBelow told state own size zero old new = new ≡ old
HearsBelow told state own size (suc m) old new = (mid : Post _) × (HearsBelow told state own size m old mid × HearsFrom told state own size m mid new)

-- ---- memory was refused

-- within a turn of node m: the node is as it was but for room, and a packet may be lost; or the next one of those that were carried from there was taken in
abbrev pub BreaksHearing : {D : Type 0} → Type 0 → (D → DiskState) → (D → ℕ) → (D → ℕ) → ℕ → Post D → Post D → Type 0
BreaksHearing told state own size m old new =
    visits.IsSameNode old.seat.node new.seat.node
    ⊎ ((ready : CellState _) × (visits.IsSameNode old.seat.node ready
    × ((packet : Packet) × (HasTaken m (Some packet) old.links new.links
    × ((answers : List ClientAnswer) × TakesIn told state own size packet ready new.seat.node answers)))))

-- the turns before it were taken
pub record BreaksFrom {D : Type 0} (told : Type 0) (state : D → DiskState) (own size : D → ℕ) (m : ℕ) (old new : Post D) : Type 0 where
  pub count : ℕ
  pub few : count < carried_from old.links m
  pub mid : Post D
  pub heard : HearsTimes told state own size m count old mid
  pub breaks : BreaksHearing told state own size m mid new

pub record BreaksBelow {D : Type 0} (told : Type 0) (state : D → DiskState) (own size : D → ℕ) (nodes : ℕ) (old new : Post D) : Type 0 where
  pub at : ℕ
  pub low : at < nodes
  pub mid : Post D
  pub heard : HearsBelow told state own size at old mid
  pub breaks : BreaksFrom told state own size at mid new
