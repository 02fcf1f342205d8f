-- The link from one node to another, between the traces of both: what was put stands in the one, and what was taken in the other.
use Rattle.std.specs.Prelude.{◌≡◌, ℕ, All, List, [], ◌++◌, Result}
use Rattle.qs_base.specs.declared.memory.NoMemory.{NoMemory}
use Rattle.qs_cell_peers.specs.Links.{HasCarried}
use Rattle.qs_link.specs.Lane.{DrawValue, Drawn, IsFifo, on_way}
use Rattle.qs_link.specs.Plan.{IsFresh, IsPlan, OutgoingValue}
use Rattle.qs_link.specs.Planned.{IsLink, PutAll}
use Rattle.qs_link.specs.declared.outgoing.LinkFault.{LinkFault}
use Rattle.qs_node_step.specs.declared.trace.Step.{Step}
use Rattle.qs_packet.specs.declared.packet.Packet.{Packet}
use Rattle.qs_world_traces.specs.Links.{IsTakenByPlan, put_to, took_from}

abbrev pub IsFrom : ℕ → Packet → Type 0
IsFrom m packet = packet.from.0 ≡ m

-- each packet that a step put bears its stamp
abbrev pub BearsStamp : Step → Type 0
BearsStamp step = All (λ p. p.stamp ≡ step.stamp) step.put

-- the packet goes from node m to node n
abbrev pub Goes : ℕ → ℕ → Packet → Type 0
Goes m n packet = IsFrom m packet × (packet.to.0 ≡ n)

-- by the plan, from node m to node n: what the receiver's trace took of the sender, and what is on its way, is all that goes out by the plan of what
-- the sender's trace put for the receiver, all of it as from the sender
pub record IsLinkOf (plan : List LinkFault) (m n : ℕ) (sender receiver : List Step) (o : OutgoingValue) (i : DrawValue Packet) : Type 0 where
  pub by_plan : o.plan ≡ plan
  pub is_plan : IsPlan plan
  pub fifo : IsFifo o.feed i
  pub from : All (IsFrom m) (put_to n sender)
  pub is : IsLink (put_to n sender) (took_from m receiver) o i

-- ---- it begins, and is carried

-- nothing was put to it, and nothing stands on it
pub record IsNewLink (plan : List LinkFault) (o : OutgoingValue) (i : DrawValue Packet) : Type 0 where
  pub is_plan : IsPlan plan
  pub fresh : IsFresh plan o
  pub empty : on_way o.feed i ≡ []
  pub fifo : IsFifo o.feed i

abbrev pub EachLinkBegins : Type 0
EachLinkBegins = (plan : List LinkFault) (m n : ℕ) (o : OutgoingValue) (i : DrawValue Packet) → IsNewLink plan o i → IsLinkOf plan m n [] [] o i

abbrev pub EachLinkIsCarried : Type 0
EachLinkIsCarried = (plan : List LinkFault) (m n : ℕ) (sender receiver : List Step) (result : Result ℕ NoMemory) (o p : OutgoingValue) (i j : DrawValue Packet)
    → HasCarried result o p i j → IsLinkOf plan m n sender receiver o i → IsLinkOf plan m n sender receiver p j

-- ---- it goes on

-- both its ends went on, each in a thread of its own, and the traces with them: these steps more put that, as from the sender, and those took this
abbrev pub EachLinkGoesOn : Type 0
EachLinkGoesOn = (plan : List LinkFault) (m n : ℕ) (sender steps receiver more : List Step) (o p : OutgoingValue) (i j : DrawValue Packet)
    → IsLinkOf plan m n sender receiver o i → All (IsFrom m) (put_to n steps) → PutAll (put_to n steps) o p → Drawn (took_from m more) i j → IsFifo p.feed j
    → IsLinkOf plan m n (sender ++ steps) (receiver ++ more) p j

-- ---- what it tells

-- all that stands on it goes from the sender to the receiver
abbrev pub EachLinkIsNamed : Type 0
EachLinkIsNamed = (plan : List LinkFault) (m n : ℕ) (sender receiver : List Step) (o : OutgoingValue) (i : DrawValue Packet)
    → IsLinkOf plan m n sender receiver o i → All (Goes m n) (on_way o.feed i)

abbrev pub EachLinkKeepsPlan : Type 0
EachLinkKeepsPlan = (plan : List LinkFault) (m n : ℕ) (sender receiver : List Step) (o : OutgoingValue) (i : DrawValue Packet)
    → IsLinkOf plan m n sender receiver o i → IsTakenByPlan plan (put_to n sender) (took_from m receiver)
