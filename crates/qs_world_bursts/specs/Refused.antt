-- Where memory was refused in a burst, at one site or at several: each of these stopped there, and the others took all their turns.
use Rattle.std.specs.Prelude.{◌≡◌, ◌<◌, ◌++◌, ℕ, true, All, List}
use Rattle.std.specs.List.{filter, flat_map}
use Rattle.qs_cell.specs.Acts.{BreaksAct}
use Rattle.qs_cell.specs.Hearing.{Post}
use Rattle.qs_cell_peers.specs.Links.{into_of, out_of}
use Rattle.qs_cell_peers.specs.Peers.{is_peer, is_to}
use Rattle.qs_disk.specs.Disk.{DiskState}
use Rattle.qs_link.specs.Planned.{PutAll}
use Rattle.qs_link.specs.declared.outgoing.LinkFault.{LinkFault}
use Rattle.qs_node_step.specs.declared.trace.Step.{Step}
use Rattle.qs_packet.specs.declared.packet.Packet.{Packet}
use Rattle.qs_world.specs.World.{Opening}
use Rattle.qs_world_bursts.specs.Telling.{AreFifo, ComeNamed}
use Rattle.qs_world_links.specs.Between.{BearsStamp, IsFrom}
use Rattle.qs_world_links.specs.Everywhere.{LinksAreTold}
use Rattle.qs_world_links.specs.Posts.{AreInFront, IsPostOf, trace_in}
use Rattle.qs_world_nodes.specs.Nodes.{AreCellsIn, AreSitesIn}
use Rattle.qs_world_rounds.specs.Rounds.{Cast}
use Rattle.qs_world_sites.specs.Bursts.{IsRefusedBurst}
use Rattle.qs_world_traces.specs.Links.{KeepPlans, puts_of, took_from}
use Rattle.rtrb.specs.Ring.{SameConsumer, received}

-- ---- what the trace tells then

-- the trace has these steps more. The first packets that they put went to the links, from this node. Packets were popped from the rings; and where all that came is named as
-- it goes, what they took of each node stood first in its inbox, or was popped
pub record TellsOfSome {D : Type 0} (nodes n : ℕ) (old new : Post D) : Type 0 where
  pub steps : List Step
  pub trace : trace_in new ≡ trace_in old ++ steps
  pub bears : All BearsStamp steps
  pub out : List Packet
  pub rest : List Packet
  pub puts : flat_map puts_of steps ≡ out ++ rest
  pub from : All (IsFrom n) out
  pub put : (m : ℕ) → is_peer nodes n m ≡ true → PutAll (filter (is_to m) out) (out_of old.links m) (out_of new.links m)
  pub on : ℕ → List Packet
  pub received : (m : ℕ) → is_peer nodes n m ≡ true → received (into_of new.links m).ring ≡ received (into_of old.links m).ring ++ on m
  pub ring : (m : ℕ) → is_peer nodes n m ≡ true → SameConsumer (into_of old.links m).ring (into_of new.links m).ring
  pub took : ComeNamed nodes n old.links on → (m : ℕ) → is_peer nodes n m ≡ true → AreInFront (took_from m steps) ((into_of old.links m).inbox ++ on m)

abbrev pub RefusedActTells : {D : Type 0} → Type 0 → (D → DiskState) → (D → ℕ) → (D → ℕ) → ℕ → ℕ → Post D → Post D → Type 0
RefusedActTells told state own size nodes n old new = BreaksAct told state own size old new → IsPostOf nodes n old → TellsOfSome nodes n old new

-- where the threads have joined, no more is told of the links, but what was taken of each is still a front of what goes out by its plan
abbrev pub KeepAfterSome : {D : Type 0} → ℕ → (ℕ → ℕ → List LinkFault) → (ℕ → Post D) → (ℕ → Post D) → Type 0
KeepAfterSome nodes plans old new = ((n : ℕ) → n < nodes → TellsOfSome nodes n (old n) (new n)) → AreFifo nodes new → LinksAreTold nodes plans old → KeepPlans nodes plans (λ n. trace_in (new n))

-- ---- of all sites

-- the cells are still where their nodes have come to, and the links keep their plans
abbrev pub RefusedBurstLeaves : {D : Type 0} → Type 0 → (D → DiskState) → (D → ℕ) → (D → ℕ) → Opening → (ℕ → ℕ → List LinkFault) → ℕ → List (Cast D) → List (Cast D) → Type 0
RefusedBurstLeaves told state own size o plans turns old new =
    told → IsRefusedBurst told state own size turns old new → AreSitesIn told state o plans old → AreCellsIn told state o plans new
