-- What a receiving end took.
use Rattle.std.specs.Prelude.{◌≡◌, [], ◌∷◌, Option, Some, None, Result, Ok, Err}
use Rattle.qs_base.specs.declared.memory.NoMemory.{NoMemory}
use Rattle.qs_link.specs.Lane.{DrawValue, Drawn}
use Rattle.qs_packet.specs.declared.packet.Packet.{Packet}

-- a packet was taken that memory was refused for
pub record Lost (old new : DrawValue Packet) : Type 0 where
  pub packet : Packet
  pub drawn : Drawn (packet ∷ []) old new

-- the packet was taken, or none, or one that is lost
abbrev pub Took : Result (Option Packet) NoMemory → DrawValue Packet → DrawValue Packet → Type 0
Took (Ok (Some packet)) old new = Drawn (packet ∷ []) old new
Took (Ok None) old new = Drawn [] old new
Took (Err e) old new = Lost old new

-- there was none to take
abbrev pub TookNone : Result (Option Packet) NoMemory → Type 0
TookNone result = result ≡ Ok None
