-- All links of a run: each between the traces of its two nodes.
use Rattle.std.specs.Prelude.{◌≡◌, ◌≢◌, ◌<◌, ◌==◌, ℕ, true, not, Bool, List, [], Result}
use Rattle.std.specs.Global.{Global}
use Rattle.qs_base.specs.declared.memory.NoMemory.{NoMemory}
use Rattle.qs_cell.specs.Hearing.{Post}
use Rattle.qs_cell.specs.State.{StartsAgain}
use Rattle.qs_cell.specs.WholeVisits.{Visits}
use Rattle.qs_cell.specs.declared.state.RestartFault.{RestartFault}
use Rattle.qs_cell_peers.specs.Links.{HasCarried, IsSameNode, SameInto, SameOut, into_of, out_of}
use Rattle.qs_disk.specs.Disk.{DiskState}
use Rattle.qs_link.specs.Lane.{DrawValue}
use Rattle.qs_link.specs.Plan.{OutgoingValue}
use Rattle.qs_link.specs.declared.outgoing.LinkFault.{LinkFault}
use Rattle.qs_packet.specs.declared.packet.Packet.{Packet}
use Rattle.qs_world_links.specs.Between.{IsLinkOf, IsNewLink}
use Rattle.qs_world_links.specs.Posts.{IsPostOf, TellsOfLinks, TellsOfTakes, trace_in}
use Rattle.qs_world_traces.specs.Links.{KeepPlans}

-- the cells of a run, by the numbers of their nodes; plans m n is that of the link from m to n
pub record LinksAreTold {D : Type 0} (nodes : ℕ) (plans : ℕ → ℕ → List LinkFault) (posts : ℕ → Post D) : Type 0 where
  pub of : (n : ℕ) → n < nodes → IsPostOf nodes n (posts n)
  pub links : (m n : ℕ) → m < nodes → n < nodes → m ≢ n
      → IsLinkOf (plans m n) m n (trace_in (posts m)) (trace_in (posts n)) (out_of (posts m).links n) (into_of (posts n).links m)

-- ---- as they begin

pub record AreNew {D : Type 0} (nodes : ℕ) (plans : ℕ → ℕ → List LinkFault) (posts : ℕ → Post D) : Type 0 where
  pub of : (n : ℕ) → n < nodes → IsPostOf nodes n (posts n)
  pub none : (n : ℕ) → n < nodes → trace_in (posts n) ≡ []
  pub links : (m n : ℕ) → m < nodes → n < nodes → m ≢ n → IsNewLink (plans m n) (out_of (posts m).links n) (into_of (posts n).links m)

abbrev pub ToldAsNew : {D : Type 0} → ℕ → (ℕ → ℕ → List LinkFault) → (ℕ → Post D) → Type 0
ToldAsNew nodes plans posts = AreNew nodes plans posts → LinksAreTold nodes plans posts

-- ---- as one of them goes on

abbrev pub OthersStay : {D : Type 0} → ℕ → ℕ → (ℕ → Post D) → (ℕ → Post D) → Type 0
OthersStay nodes k old new = (j : ℕ) → j < nodes → j ≢ k → new j ≡ old j

-- where the cell of node k tells what it did with its links
abbrev pub ToldAsOneTells : {D : Type 0} → ℕ → (ℕ → ℕ → List LinkFault) → ℕ → (ℕ → Post D) → (ℕ → Post D) → Type 0
ToldAsOneTells nodes plans k old new = k < nodes → TellsOfLinks nodes k (old k) (new k) → OthersStay nodes k old new → LinksAreTold nodes plans old → LinksAreTold nodes plans new

abbrev pub ToldAsVisited : {D : Type 0} → Type 0 → (D → DiskState) → (D → ℕ) → (D → ℕ) → ℕ → (ℕ → ℕ → List LinkFault) → ℕ → (ℕ → Post D) → (ℕ → Post D) → Type 0
ToldAsVisited told state own size nodes plans k old new =
    k < nodes → Visits told state own size (old k) (new k) → OthersStay nodes k old new → LinksAreTold nodes plans old → LinksAreTold nodes plans new

abbrev pub ToldAsRestarted : {D : Type 0} → Type 0 → (D → DiskState) → (D → ℕ) → (D → ℕ) → Global → ℕ → (ℕ → ℕ → List LinkFault) → ℕ → (ℕ → Post D) → (ℕ → Post D) → Result Bool RestartFault → Type 0
ToldAsRestarted told state own size alloc nodes plans k old new answer =
    k < nodes → StartsAgain told state own size alloc (old k).seat.node (new k).seat.node answer → (new k).links ≡ (old k).links → OthersStay nodes k old new
    → LinksAreTold nodes plans old → LinksAreTold nodes plans new

-- ---- as a link is carried, and as nothing is done with any

-- the link from node m to node n was carried, and no other
pub record HasCarriedLink {D : Type 0} (nodes m n : ℕ) (result : Result ℕ NoMemory) (old new : ℕ → Post D) : Type 0 where
  pub from : (new m).seat.node ≡ (old m).seat.node
  pub to : (new n).seat.node ≡ (old n).seat.node
  pub same_from : IsSameNode (old m).links (new m).links
  pub same_to : IsSameNode (old n).links (new n).links
  pub its_out : SameOut (λ k. not (k == n)) (old m).links (new m).links
  pub its_into : SameInto (λ k. true) (old m).links (new m).links
  pub own_out : SameOut (λ k. true) (old n).links (new n).links
  pub own_into : SameInto (λ k. not (k == m)) (old n).links (new n).links
  pub carried : HasCarried result (out_of (old m).links n) (out_of (new m).links n) (into_of (old n).links m) (into_of (new n).links m)
  pub others : (j : ℕ) → j < nodes → j ≢ m → j ≢ n → new j ≡ old j

abbrev pub ToldAsCarried : {D : Type 0} → ℕ → (ℕ → ℕ → List LinkFault) → ℕ → ℕ → Result ℕ NoMemory → (ℕ → Post D) → (ℕ → Post D) → Type 0
ToldAsCarried nodes plans m n result old new =
    m < nodes → n < nodes → m ≢ n → HasCarriedLink nodes m n result old new → LinksAreTold nodes plans old → LinksAreTold nodes plans new

-- all links were
pub record WasCarried (o p : OutgoingValue) (i j : DrawValue Packet) : Type 0 where
  pub result : Result ℕ NoMemory
  pub carried : HasCarried result o p i j

pub record HaveCarriedLinks {D : Type 0} (nodes : ℕ) (old new : ℕ → Post D) : Type 0 where
  pub same : (n : ℕ) → n < nodes → ((new n).seat.node ≡ (old n).seat.node) × IsSameNode (old n).links (new n).links
  pub each : (m n : ℕ) → m < nodes → n < nodes → m ≢ n → WasCarried (out_of (old m).links n) (out_of (new m).links n) (into_of (old n).links m) (into_of (new n).links m)

abbrev pub ToldAsAllCarried : {D : Type 0} → ℕ → (ℕ → ℕ → List LinkFault) → (ℕ → Post D) → (ℕ → Post D) → Type 0
ToldAsAllCarried nodes plans old new = HaveCarriedLinks nodes old new → LinksAreTold nodes plans old → LinksAreTold nodes plans new

-- the lanes to clients may change
abbrev pub AreSameNodes : {D : Type 0} → ℕ → (ℕ → Post D) → (ℕ → Post D) → Type 0
AreSameNodes nodes old new = (n : ℕ) → n < nodes → ((new n).seat.node ≡ (old n).seat.node) × ((new n).links ≡ (old n).links)

abbrev pub ToldAsSame : {D : Type 0} → ℕ → (ℕ → ℕ → List LinkFault) → (ℕ → Post D) → (ℕ → Post D) → Type 0
ToldAsSame nodes plans old new = AreSameNodes nodes old new → LinksAreTold nodes plans old → LinksAreTold nodes plans new

-- ---- what follows

abbrev pub ToldKeepPlans : {D : Type 0} → ℕ → (ℕ → ℕ → List LinkFault) → (ℕ → Post D) → Type 0
ToldKeepPlans nodes plans posts = LinksAreTold nodes plans posts → KeepPlans nodes plans (λ n. trace_in (posts n))

-- ---- where memory was refused at one of them

-- no more is told of the links, but what was taken of each is still a front of what goes out by its plan
abbrev pub KeepAsOneTook : {D : Type 0} → ℕ → (ℕ → ℕ → List LinkFault) → ℕ → (ℕ → Post D) → (ℕ → Post D) → Type 0
KeepAsOneTook nodes plans k old new =
    k < nodes → TellsOfTakes nodes k (old k) (new k) → OthersStay nodes k old new → LinksAreTold nodes plans old → KeepPlans nodes plans (λ n. trace_in (new n))
