-- The last step of a run of packets has the stamp of the host that made it.
use Rattle.std.proofs.Common.{◌≡◌, refl, subst, sym, ℕ, ◌<◌, ◌&&◌, Bool, true, List, [], ◌∷◌, Option, None, Some, nat_lt}
use Rattle.std.proofs.lemmas.Bool.{ltb-true}
use Rattle.qs_node_step.specs.declared.event.Event.{Event}
use Rattle.qs_session_channels.specs.Network.{with_at}
use Rattle.qs_world.specs.World.{Host}
use Rattle.qs_world_opening.proofs.Tests.{itself, parts}
use Rattle.qs_world_packets.specs.PacketMoves.{Cut, Meet, Move, Rise, Source, Step, Stop, Take, Tick, cut_with, event_of, is_in_order, is_later, may_move, moved, step_with}
use Rattle.qs_world_packets.specs.PacketRuns.{Run}
use Rattle.qs_world_packets.specs.PacketWorld.{PacketWorld}
use Rattle.qs_book_journal.specs.declared.entry.CrashCause.{CrashCause}

pub record IsLast (world : PacketWorld) : Type 0 where
  pub in_run : world.last.1 < world.size
  pub stamp_is : (world.hosts world.last.1).stamp ≡ world.last.0

-- ---- which node makes a move

ordered : (world : PacketWorld) (n stamp : ℕ) → is_in_order world n stamp ≡ true → n < world.size
ordered world n stamp is = ltb-true n world.size (parts (nat_lt n world.size) _ (parts (nat_lt n world.size && _) _ is).0).0

later : (world : PacketWorld) (n stamp : ℕ) → is_later world n stamp ≡ true → n < world.size
later world n stamp is = ordered world n stamp (parts (is_in_order world n stamp) _ is).0

at_host : (hosts : ℕ → Host) (n stamp : ℕ) (host : Host) → host.stamp ≡ stamp → (with_at hosts n host n).stamp ≡ stamp
at_host hosts n stamp host is = rw (itself n) is

-- ---- each move

stepped_last : (world : PacketWorld) (n stamp free : ℕ) (source : Source) (event : Option Event) → n < world.size → IsLast world → IsLast (step_with world n stamp free source event)
stepped_last world n stamp free source None low was = was
stepped_last world n stamp free source (Some event) low was = record { in_run = low; stamp_is = at_host world.hosts n stamp _ refl }

cut_last : (world : PacketWorld) (n stamp free : ℕ) (is_kept : Bool) (cause : CrashCause) (event : Option Event) → n < world.size → IsLast world → IsLast (cut_with world n stamp free is_kept cause event)
cut_last world n stamp free is_kept cause None low was = was
cut_last world n stamp free is_kept cause (Some event) low was = record { in_run = low; stamp_is = at_host world.hosts n stamp _ refl }

moved_last : (move : Move) (world : PacketWorld) → may_move world move ≡ true → IsLast world → IsLast (moved move world)
moved_last (Step n stamp free source) world may was = stepped_last world n stamp free source (event_of world n stamp source) (later world n stamp (parts (is_later world n stamp) _ (parts (world.network.up n) _ may).1).0) was
moved_last (Cut n stamp free source is_kept cause) world may was =
    cut_last world n stamp free is_kept cause (event_of world n stamp source) (later world n stamp (parts (is_later world n stamp) _ (parts (world.network.up n) _ (parts (world.network.up n && _) _ may).0).1).0) was
moved_last (Stop n stamp cause) world may was = record { in_run = ordered world n stamp (parts (is_in_order world n stamp) _ (parts (world.network.up n) _ may).1).0; stamp_is = at_host world.hosts n stamp _ refl }
moved_last (Rise n stamp inc) world may was = record { in_run = ordered world n stamp (parts (is_in_order world n stamp) _ (parts _ _ may).1).0; stamp_is = at_host world.hosts n stamp _ refl }
moved_last (Meet n stamp m p) world may was = record { in_run = later world n stamp (parts (is_later world n stamp) _ (parts (world.network.up n) _ may).1).0; stamp_is = at_host world.hosts n stamp _ refl }
moved_last (Take n m p) world may was = record { in_run = was.in_run; stamp_is = was.stamp_is }
moved_last (Tick n m stamp) world may was = record { in_run = was.in_run; stamp_is = was.stamp_is }

pub run_last : (moves : List Move) (old new : PacketWorld) → Run old moves new → IsLast old → IsLast new
run_last [] old new run was = subst IsLast (sym run) was
run_last (move ∷ moves) old new run was = run_last moves (moved move old) new run.1 (moved_last move old run.0.may was)
