-- A cell as that of one node of a run, and what its trace tells of its links.
use Rattle.std.specs.Prelude.{◌≡◌, ⊤, ℕ, true, All, List, ◌++◌}
use Rattle.std.specs.List.{flat_map}
use Rattle.qs_cell.specs.Hearing.{Post}
use Rattle.qs_cell.specs.State.{carried_of}
use Rattle.qs_cell.specs.WholeVisits.{steps_in}
use Rattle.qs_cell.specs.declared.state.CellState.{CellState}
use Rattle.qs_cell.specs.declared.state.CellState.TheVariants as states
use Rattle.qs_cell_peers.specs.Links.{LinksValue, into_of, out_of}
use Rattle.qs_cell_peers.specs.Peers.{is_peer}
use Rattle.qs_link.specs.Lane.{DrawValue, Drawn}
use Rattle.qs_link.specs.Plan.{OutgoingValue}
use Rattle.qs_link.specs.Planned.{PutAll}
use Rattle.qs_link.specs.declared.outgoing.LinkFault.{LinkFault}
use Rattle.qs_node_step.specs.declared.trace.Step.{Step}
use Rattle.qs_packet.specs.declared.packet.Packet.{Packet}
use Rattle.qs_world_links.specs.Between.{Goes, IsFrom, IsLinkOf}
use Rattle.qs_world_traces.specs.Links.{put_to, puts_of, took_from}

-- ---- whose cell it is

-- the sessions of a node that is up are those of node n of a run of so many
abbrev pub HasSessions : {D : Type 0} → ℕ → ℕ → CellState D → Type 0
HasSessions nodes n (states.Up running) = (running.sessions.size ≡ nodes) × (running.sessions.me.0 ≡ n)
HasSessions nodes n (states.Down stopped) = ⊤

-- the cell is of that node
pub record IsOfNode {D : Type 0} (nodes n : ℕ) (node : CellState D) : Type 0 where
  pub count : (carried_of node).setting.nodes ≡ nodes
  pub number : (carried_of node).setting.node.0 ≡ n
  pub sessions : HasSessions nodes n node

-- and so are its links
pub record IsPostOf {D : Type 0} (nodes n : ℕ) (post : Post D) : Type 0 where
  pub node : IsOfNode nodes n post.seat.node
  pub size : post.links.size ≡ nodes
  pub me : post.links.me.0 ≡ n

-- ---- what it tells

abbrev pub trace_in : {D : Type 0} → Post D → List Step
trace_in post = steps_in post.seat.node

-- each packet that was carried there goes from the node that the link comes from to this one
abbrev pub AreCarriedNamed : ℕ → ℕ → LinksValue → Type 0
AreCarriedNamed nodes n links = (m : ℕ) → is_peer nodes n m ≡ true → All (Goes m n) (into_of links m).inbox

-- the trace has these steps more, and what they put goes from this node. Each link got what they put for its node, in order. And where all that was
-- carried is so named, of each link what they took of its node was drawn, in order. No ring was popped
pub record TellsOfLinks {D : Type 0} (nodes n : ℕ) (old new : Post D) : Type 0 where
  pub steps : List Step
  pub trace : trace_in new ≡ trace_in old ++ steps
  pub from : All (IsFrom n) (flat_map puts_of steps)
  pub put : (m : ℕ) → is_peer nodes n m ≡ true → PutAll (put_to m steps) (out_of old.links m) (out_of new.links m)
  pub took : AreCarriedNamed nodes n old.links → (m : ℕ) → is_peer nodes n m ≡ true → Drawn (took_from m steps) (into_of old.links m) (into_of new.links m)
  pub rings : (m : ℕ) → is_peer nodes n m ≡ true → (into_of new.links m).ring ≡ (into_of old.links m).ring
  pub post : IsPostOf nodes n new

-- ---- what it tells where memory was refused

-- what was taken stood in front of what was carried
pub record AreInFront (taken carried : List Packet) : Type 0 where
  pub rest : List Packet
  pub is : carried ≡ taken ++ rest

-- the trace has these steps more; where all that was carried is so named, what they took of each node stood in front there. What they put may not have gone
-- out
pub record TellsOfTakes {D : Type 0} (nodes n : ℕ) (old new : Post D) : Type 0 where
  pub steps : List Step
  pub trace : trace_in new ≡ trace_in old ++ steps
  pub took : AreCarriedNamed nodes n old.links → (m : ℕ) → is_peer nodes n m ≡ true → AreInFront (took_from m steps) (into_of old.links m).inbox

-- ---- what that makes of a link, by the cell of its sender and by that of its receiver

abbrev pub LinkIsPutTo : {D : Type 0} → ℕ → ℕ → ℕ → Post D → Post D → Type 0
LinkIsPutTo nodes m n old new = (plan : List LinkFault) (receiver : List Step) (i : DrawValue Packet) → TellsOfLinks nodes m old new → is_peer nodes m n ≡ true
    → IsLinkOf plan m n (trace_in old) receiver (out_of old.links n) i → IsLinkOf plan m n (trace_in new) receiver (out_of new.links n) i

abbrev pub LinkIsTakenFrom : {D : Type 0} → ℕ → ℕ → ℕ → Post D → Post D → Type 0
LinkIsTakenFrom nodes m n old new = (plan : List LinkFault) (sender : List Step) (o : OutgoingValue) → TellsOfLinks nodes n old new → is_peer nodes n m ≡ true
    → AreCarriedNamed nodes n old.links → IsLinkOf plan m n sender (trace_in old) o (into_of old.links m) → IsLinkOf plan m n sender (trace_in new) o (into_of new.links m)
