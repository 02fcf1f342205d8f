-- Runs of packets told by which packet comes when: by its place among those that were sent.
use Rattle.std.specs.Prelude.{◌≡◌, ℕ, ◌==◌, Bool, true, false, ◌&&◌, List, [], ◌∷◌, Option, Some, None, slice_get, if◌then◌else◌}
use Rattle.qs_session_channels.specs.End as end
use Rattle.qs_session_channels.specs.End.{Answer, Packet}
use Rattle.qs_book_journal.specs.declared.entry.CrashCause.TheVariants as crashes
use Rattle.qs_world.specs.Scenes.{fresh_room}
use Rattle.qs_world.specs.World.{Parcel}
use Rattle.qs_world_packets.specs.PacketMoves.{Move, Step, Stop, Rise, Meet, Take, Tick, Commanded, Queues, Clock, Brought, answer_at, may_move, moved}
use Rattle.qs_world_packets.specs.PacketRuns.{Run}
use Rattle.qs_world_packets.specs.PacketWorld.{PacketWorld}

-- a node, and a stamp where there is one
pub data Play : Type 0 where
  Commands : ℕ → ℕ → ℕ → Play  -- the next line of that client
  Serves : ℕ → ℕ → Play  -- what waits is served
  Ticks : ℕ → ℕ → Play  -- its clock
  Sends : ℕ → ℕ → ℕ → Play  -- its session with that node ticks
  Comes : ℕ → ℕ → ℕ → ℕ → Play  -- from that node, the packet at that place among those that were sent, the newest first
  Stops : ℕ → ℕ → Play
  Rises : ℕ → ℕ → ℕ → Play  -- into that incarnation

abbrev pub brought : ℕ → ℕ → ℕ → Packet Parcel → Answer Parcel → Move
brought n stamp m p (end.OldPeer known got) = Take n m p
brought n stamp m p (end.NewPeer old new) = if old == 0 then Meet n stamp m p else Step n stamp fresh_room (Brought m p)
brought n stamp m p (end.OldSelf mine got) = Take n m p
brought n stamp m p end.Hello = Take n m p
brought n stamp m p (end.Repeat number) = Take n m p
brought n stamp m p (end.Early number expected) = Take n m p
brought n stamp m p (end.Message parcel) = Step n stamp fresh_room (Brought m p)

abbrev pub taking : PacketWorld → ℕ → ℕ → ℕ → Option (Packet Parcel) → Option Move
taking world n stamp m None = None
taking world n stamp m (Some p) = Some (brought n stamp m p (answer_at world n m p))

abbrev pub move_of : PacketWorld → Play → Option Move
move_of world (Commands n stamp k) = Some (Step n stamp fresh_room (Commanded k))
move_of world (Serves n stamp) = Some (Step n stamp fresh_room Queues)
move_of world (Ticks n stamp) = Some (Step n stamp fresh_room Clock)
move_of world (Sends n stamp m) = Some (Tick n m stamp)
move_of world (Comes n stamp m place) = taking world n stamp m (slice_get (world.network.packets m n) place)
move_of world (Stops n stamp) = Some (Stop n stamp crashes.Plan)
move_of world (Rises n stamp inc) = Some (Rise n stamp inc)

-- ---- whether each may be, and where they lead

abbrev pub may_be : PacketWorld → Option Move → Bool
may_be world None = false
may_be world (Some move) = may_move world move

abbrev pub after : PacketWorld → Option Move → PacketWorld
after world None = world
after world (Some move) = moved move world

abbrev pub may_play : PacketWorld → List Play → Bool
may_play world [] = true
may_play world (play ∷ plays) = may_be world (move_of world play) && may_play (after world (move_of world play)) plays

abbrev pub played : PacketWorld → List Play → PacketWorld
played world [] = world
played world (play ∷ plays) = played (after world (move_of world play)) plays

-- such plays are runs
pub record IsRun (old new : PacketWorld) : Type 0 where
  pub moves : List Move
  pub run : Run old moves new

abbrev pub EachPlayRuns : Type 0
EachPlayRuns = (world : PacketWorld) (plays : List Play) → may_play world plays ≡ true → IsRun world (played world plays)
