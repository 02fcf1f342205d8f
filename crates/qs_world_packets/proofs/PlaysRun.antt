-- Plays that may be made are runs: a packet at a place among those that were sent was sent.
use Rattle.std.proofs.Common.{◌≡◌, ℕ, ◌==◌, Bool, true, false, List, [], ◌∷◌, Option, Some, None, zero, suc, refl, inl, inr, if◌then◌else◌}
use Rattle.std.specs.Prelude.{slice_get}
use Rattle.qs_session_channels.specs.End.{Answer, Packet, OldPeer, NewPeer, OldSelf, Hello, Repeat, Early, Message}
use Rattle.qs_session_channels.specs.Network.{Among}
use Rattle.qs_world.specs.Scenes.{fresh_room}
use Rattle.qs_world.specs.World.{Parcel}
use Rattle.qs_world_packets.specs.PacketMoves.{Move, Step, Meet, Brought, WasSent, answer_at}
use Rattle.qs_world_packets.specs.PacketPlays.{Play, Commands, Serves, Ticks, Sends, Comes, Stops, Rises, EachPlayRuns, IsRun, after, brought, may_be, move_of, played, taking}
use Rattle.qs_world_packets.specs.PacketWorld.{PacketWorld}
use Rattle.qs_world_packets.proofs.StepsGo.{both}

among_get : {A : Type 0} (xs : List A) (k : ℕ) (x : A) → slice_get xs k ≡ Some x → Among xs x
among_get [] k x is = absurd (cc is)
among_get (y ∷ xs) zero x is = inl (cc is)
among_get (y ∷ xs) (suc k) x is = inr (among_get xs k x is)

-- what is asked of the move that an option has, if any
abbrev OfMove : (Move → Type 0) → Option Move → Type 0
OfMove P None = Unit {0}
OfMove P (Some move) = P move

module _ (world : PacketWorld) where
  brought_sent : (n stamp m : ℕ) (p : Packet Parcel) (a : Answer Parcel) → Among (world.network.packets m n) p → WasSent world (brought n stamp m p a)
  brought_sent n stamp m p (OldPeer known got) h = h
  brought_sent n stamp m p (NewPeer old new) h = by (old == 0)
    where
      by : (b : Bool) → WasSent world (if b then Meet n stamp m p else Step n stamp fresh_room (Brought m p))
      by true = h
      by false = h
  brought_sent n stamp m p (OldSelf mine got) h = h
  brought_sent n stamp m p Hello h = h
  brought_sent n stamp m p (Repeat number) h = h
  brought_sent n stamp m p (Early number expected) h = h
  brought_sent n stamp m p (Message parcel) h = h

  taking_sent : (n stamp m : ℕ) (o : Option (Packet Parcel)) → ((p : Packet Parcel) → o ≡ Some p → Among (world.network.packets m n) p) → OfMove (WasSent world) (taking world n stamp m o)
  taking_sent n stamp m None among = tt
  taking_sent n stamp m (Some p) among = brought_sent n stamp m p (answer_at world n m p) (among p refl)

  play_sent : (play : Play) → OfMove (WasSent world) (move_of world play)
  play_sent (Commands n stamp k) = tt
  play_sent (Serves n stamp) = tt
  play_sent (Ticks n stamp) = tt
  play_sent (Sends n stamp m) = tt
  play_sent (Comes n stamp m place) = taking_sent n stamp m (slice_get (world.network.packets m n) place) (λ p is. among_get (world.network.packets m n) place p is)
  play_sent (Stops n stamp) = tt
  play_sent (Rises n stamp inc) = tt

  goes_on : (o : Option Move) (new : PacketWorld) → OfMove (WasSent world) o → may_be world o ≡ true → IsRun (after world o) new → IsRun world new
  goes_on None new sent may run = absurd (cc may)
  goes_on (Some move) new sent may run = record { moves = move ∷ run.moves; run = (record { may = may; sent = sent }, run.run) }

pub each_play_runs : EachPlayRuns
each_play_runs world [] may = record { moves = []; run = refl }
each_play_runs world (play ∷ plays) may =
    let is = both (may_be world (move_of world play)) _ may in
    goes_on world (move_of world play) (played (after world (move_of world play)) plays) (play_sent world play) is.0 (each_play_runs (after world (move_of world play)) plays is.1)
