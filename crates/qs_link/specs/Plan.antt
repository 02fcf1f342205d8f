-- What a link lets out.
use Rattle.std.specs.Prelude.{◌≡◌, ◌≢◌, ◌≤◌, ◌<◌, ℕ, All, ◌+◌, ◌==◌, ◌-◌, ◌^◌, min, Bool, false, not, List, [], ◌∷◌, ◌++◌, map, filter, if◌then◌else◌}
use Rattle.qs_link.specs.declared.outgoing.LinkFault.{LinkFault}
use Rattle.qs_link.specs.declared.outgoing.LinkFault.TheVariants.{Drop, Again, Hold}
use Rattle.qs_link.specs.declared.outgoing.Way.{Way}
use Rattle.qs_link.specs.declared.outgoing.Way.TheVariants.{Passes, Lost, Twice, Kept}
use Rattle.qs_link.specs.declared.outgoing.HeldPacket.{HeldPacket}
use Rattle.qs_link.specs.Lane.{FeedValue, Fed}
use Rattle.qs_packet.specs.declared.packet.Packet.{Packet}

-- by the plan, for the packet with number n
abbrev pub fate : List LinkFault → ℕ → Way
fate [] n = Passes
fate (Drop packet ∷ plan) n = if packet == n then Lost else fate plan n
fate (Again packet ∷ plan) n = if packet == n then Twice else fate plan n
fate (Hold packet count ∷ plan) n = if packet == n then Kept (min (n + count) (2 ^ 64 - 1)) else fate plan n

-- what goes out of the packet itself
abbrev pub own : {T : Type 0} → Way → T → List T
own Passes x = x ∷ []
own Lost x = []
own Twice x = x ∷ x ∷ []
own (Kept until) x = []

abbrev pub kept : {T : Type 0} → Way → T → List (HeldPacket T)
kept Passes x = []
kept Lost x = []
kept Twice x = []
kept (Kept until) x = record { until = until; item = x } ∷ []

abbrev pub is_due : {T : Type 0} → ℕ → HeldPacket T → Bool
is_due n h = h.until == n

abbrev pub is_early : {T : Type 0} → ℕ → HeldPacket T → Bool
is_early n h = not (h.until == n)

abbrev pub item_of : {T : Type 0} → HeldPacket T → T
item_of h = h.item

-- what is due once packet n was put, and what stays
abbrev pub due : {T : Type 0} → ℕ → List (HeldPacket T) → List T
due n held = map item_of (filter (is_due n) held)

abbrev pub early : {T : Type 0} → ℕ → List (HeldPacket T) → List (HeldPacket T)
early n held = filter (is_early n) held

-- what a contract sees of the sending end: the lane's end, the plan, how many packets were put, and those that are held
pub record OutgoingValue : Type 0 where
  pub feed : FeedValue Packet
  pub plan : List LinkFault
  pub count : ℕ
  pub held : List (HeldPacket Packet)

-- a packet was put, which the end can count: what goes of it, and then what is due, goes out
pub record PutOne (packet : Packet) (old new : OutgoingValue) : Type 0 where
  pub few : old.count + 1 < 2 ^ 63
  pub out : Fed (own (fate old.plan (old.count + 1)) packet ++ due (old.count + 1) old.held) old.feed new.feed
  pub held : new.held ≡ early (old.count + 1) old.held ++ kept (fate old.plan (old.count + 1)) packet
  pub count : new.count ≡ old.count + 1
  pub plan : new.plan ≡ old.plan

-- nothing was put; some packets may have gone on from the outbox into the ring
pub record PutNone (old new : OutgoingValue) : Type 0 where
  pub out : Fed [] old.feed new.feed
  pub held : new.held ≡ old.held
  pub count : new.count ≡ old.count
  pub plan : new.plan ≡ old.plan

-- a sending end to which nothing was put
pub record IsFresh (faults : List LinkFault) (o : OutgoingValue) : Type 0 where
  pub plan : o.plan ≡ faults
  pub count : o.count ≡ 0
  pub held : o.held ≡ []

-- the packet that a fault is of
abbrev pub packet_of : LinkFault → ℕ
packet_of (Drop packet) = packet
packet_of (Again packet) = packet
packet_of (Hold packet count) = packet

-- the fault is of that packet
abbrev pub is_of : ℕ → LinkFault → Bool
is_of packet fault = packet_of fault == packet

-- its packet is held back for no other
abbrev pub holds_none : LinkFault → Bool
holds_none (Drop packet) = false
holds_none (Again packet) = false
holds_none (Hold packet count) = count == 0

-- each packet that is held back is held back for at least one
abbrev pub HoldsSome : List LinkFault → Type 0
HoldsSome [] = Unit {0}
HoldsSome (Drop packet ∷ plan) = HoldsSome plan
HoldsSome (Again packet ∷ plan) = HoldsSome plan
HoldsSome (Hold packet count ∷ plan) = (1 ≤ count) × HoldsSome plan

-- no packet has two faults
abbrev pub NamesOnce : List LinkFault → Type 0
NamesOnce [] = Unit {0}
NamesOnce (fault ∷ plan) = All (λ other. packet_of other ≢ packet_of fault) plan × NamesOnce plan

pub record IsPlan (plan : List LinkFault) : Type 0 where
  pub once : NamesOnce plan
  pub held : HoldsSome plan
