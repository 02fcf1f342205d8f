-- All that a link lets out, by its plan: said over the whole list of what was put.
use Rattle.std.specs.Prelude.{◌≡◌, ℕ, ◌+◌, Bool, List, [], ◌∷◌, ◌++◌, length, filter, nat_lt}
use Rattle.qs_link.specs.declared.outgoing.LinkFault.{LinkFault}
use Rattle.qs_link.specs.declared.outgoing.HeldPacket.{HeldPacket}
use Rattle.qs_link.specs.Plan.{OutgoingValue, PutOne, PutNone, fate, own, kept, due}
use Rattle.qs_link.specs.Lane.{DrawValue, on_way}
use Rattle.qs_packet.specs.declared.packet.Packet.{Packet}

-- the packets of xs, numbered from k + 1 on, that the plan holds back, in order
abbrev pub held_of : {T : Type 0} → List LinkFault → ℕ → List T → List (HeldPacket T)
held_of plan k [] = []
held_of plan k (x ∷ xs) = kept (fate plan (k + 1)) x ++ held_of plan (k + 1) xs

-- behind the packets `before` the packets xs go out: each by its fate, and then what was held back until it
abbrev pub goes_out : {T : Type 0} → List LinkFault → List T → List T → List T
goes_out plan before [] = []
goes_out plan before (x ∷ xs) = own (fate plan (length before + 1)) x ++ due (length before + 1) (held_of plan 0 before) ++ goes_out plan (before ++ x ∷ []) xs

-- what is still held once they were put
abbrev pub is_later : {T : Type 0} → ℕ → HeldPacket T → Bool
is_later n h = nat_lt n h.until

abbrev pub still_held : {T : Type 0} → List LinkFault → List T → List (HeldPacket T)
still_held plan before = filter (is_later (length before)) (held_of plan 0 before)

-- these packets were put
pub record HasPut (packets : List Packet) (o : OutgoingValue) : Type 0 where
  pub count : o.count ≡ length packets
  pub held : o.held ≡ still_held o.plan packets

-- a packet was put, and then others, with pushes into the ring before each
pub record PutThen (packet : Packet) (Others : OutgoingValue → Type 0) (old : OutgoingValue) : Type 0 where
  pub pushed : OutgoingValue
  pub after : OutgoingValue
  pub none : PutNone old pushed
  pub one : PutOne packet pushed after
  pub others : Others after

-- packets were put, one after the other
abbrev pub PutAll : List Packet → OutgoingValue → OutgoingValue → Type 0
PutAll [] old new = PutNone old new
PutAll (packet ∷ packets) old new = PutThen packet (λ after. PutAll packets after new) old

-- these packets were put to a link, and these parcels were taken of it; what was taken and what is on its way is
-- all that goes out by the plan
pub record IsLink (put taken : List Packet) (o : OutgoingValue) (i : DrawValue Packet) : Type 0 where
  pub has : HasPut put o
  pub way : taken ++ on_way o.feed i ≡ goes_out o.plan [] put

-- what stood in ring and outbox was carried into the inbox
pub record Carried (o p : OutgoingValue) (i j : DrawValue Packet) : Type 0 where
  pub way : on_way p.feed j ≡ on_way o.feed i
  pub plan : p.plan ≡ o.plan
  pub count : p.count ≡ o.count
  pub held : p.held ≡ o.held
