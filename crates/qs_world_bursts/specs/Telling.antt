-- What acts do with the links of their node: the trace tells it. What was popped from a ring is said of the consumer's end alone, as the producer's is in another thread.
use Rattle.std.specs.Prelude.{◌≡◌, ◌≢◌, ◌<◌, ℕ, true, All, List, ◌++◌}
use Rattle.std.specs.List.{flat_map}
use Rattle.qs_cell.specs.Acts.{Acts}
use Rattle.qs_cell.specs.Hearing.{Post}
use Rattle.qs_cell_peers.specs.Links.{LinksValue, into_of, out_of}
use Rattle.qs_cell_peers.specs.Peers.{is_peer}
use Rattle.qs_disk.specs.Disk.{DiskState}
use Rattle.qs_link.specs.Lane.{IsFifo}
use Rattle.qs_link.specs.Planned.{PutAll}
use Rattle.qs_link.specs.declared.outgoing.LinkFault.{LinkFault}
use Rattle.qs_node_step.specs.declared.trace.Step.{Step}
use Rattle.qs_packet.specs.declared.packet.Packet.{Packet}
use Rattle.qs_world_links.specs.Between.{BearsStamp, Goes, IsFrom}
use Rattle.qs_world_links.specs.Everywhere.{LinksAreTold}
use Rattle.qs_world_links.specs.Posts.{IsPostOf, trace_in}
use Rattle.qs_world_traces.specs.Links.{put_to, puts_of, took_from}
use Rattle.rtrb.specs.Ring.{SameConsumer, received}

-- each packet that stood in an inbox, or was popped since, goes from the node that the link comes from to this one
abbrev pub ComeNamed : ℕ → ℕ → LinksValue → (ℕ → List Packet) → Type 0
ComeNamed nodes n links on = (m : ℕ) → is_peer nodes n m ≡ true → All (Goes m n) ((into_of links m).inbox ++ on m)

-- the trace has these steps more, and what they put goes from this node, with the stamps of its steps. Each link got what they put for its node, in order. Packets were popped from the rings; and where
-- all that came is so named, what they took of each node stood first in its inbox, or was popped, in order
pub record TellsOfActs {D : Type 0} (nodes n : ℕ) (old new : Post D) : Type 0 where
  pub steps : List Step
  pub trace : trace_in new ≡ trace_in old ++ steps
  pub from : All (IsFrom n) (flat_map puts_of steps)
  pub bears : All BearsStamp steps
  pub put : (m : ℕ) → is_peer nodes n m ≡ true → PutAll (put_to m steps) (out_of old.links m) (out_of new.links m)
  pub on : ℕ → List Packet
  pub received : (m : ℕ) → is_peer nodes n m ≡ true → received (into_of new.links m).ring ≡ received (into_of old.links m).ring ++ on m
  pub ring : (m : ℕ) → is_peer nodes n m ≡ true → SameConsumer (into_of old.links m).ring (into_of new.links m).ring
  pub took : ComeNamed nodes n old.links on → (m : ℕ) → is_peer nodes n m ≡ true → (into_of old.links m).inbox ++ on m ≡ took_from m steps ++ (into_of new.links m).inbox
  pub post : IsPostOf nodes n new

abbrev pub ActTells : {D : Type 0} → Type 0 → (D → DiskState) → (D → ℕ) → (D → ℕ) → ℕ → ℕ → Post D → Post D → Type 0
ActTells told state own size nodes n old new = Acts told state own size old new → IsPostOf nodes n old → TellsOfActs nodes n old new

-- one after the other
abbrev pub ActsTellOn : {D : Type 0} → ℕ → ℕ → Post D → Post D → Post D → Type 0
ActsTellOn nodes n old mid new = TellsOfActs nodes n old mid → TellsOfActs nodes n mid new → TellsOfActs nodes n old new

-- ---- where the threads have joined

-- each ring has lost, repeated and reordered nothing
abbrev pub AreFifo : {D : Type 0} → ℕ → (ℕ → Post D) → Type 0
AreFifo nodes posts = (m n : ℕ) → m < nodes → n < nodes → m ≢ n → IsFifo (out_of (posts m).links n).feed (into_of (posts n).links m)

-- each link stands between the traces of its two nodes as before
abbrev pub ToldAfterActs : {D : Type 0} → ℕ → (ℕ → ℕ → List LinkFault) → (ℕ → Post D) → (ℕ → Post D) → Type 0
ToldAfterActs nodes plans old new = ((n : ℕ) → n < nodes → TellsOfActs nodes n (old n) (new n)) → AreFifo nodes new → LinksAreTold nodes plans old → LinksAreTold nodes plans new
