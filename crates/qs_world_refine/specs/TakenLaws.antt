-- What a step's event takes from the channels of a world is what it takes from all that is read of the world.
use Rattle.std.specs.Prelude.{◌≡◌, ℕ, List, [], ◌∷◌, ◌++◌, drop, length, map, Some}
use Rattle.qs_base.specs.declared.identifiers.Tid.{Tid}
use Rattle.qs_packet.specs.declared.message.Message.{Message}
use Rattle.qs_record.specs.declared.record.Record.{Record}
use Rattle.qs_node_step.specs.State.{Work}
use Rattle.qs_world.specs.Moves.{Handed, Noticed}
use Rattle.qs_world.specs.Posting.{next_parcel}
use Rattle.qs_world.specs.World.{Parcel, World}
use Rattle.qs_world_agree.specs.World as machine
use Rattle.qs_world_refine.specs.MoveLaws.{taken_scene}
use Rattle.qs_world_refine.specs.RestartLaws.{noticed}
use Rattle.qs_world_refine.specs.Shows.{message_of, scene_of, handed, Shows}
use Rattle.qs_world_refine.specs.StepLaws.{stepped}

-- what node m has for node n behind that message
abbrev pub rest_behind : World → ℕ → ℕ → Parcel → List Message
rest_behind world n m parcel =
    map message_of (drop (length (world.channels.handed m n (world.channels.peer n m) (world.channels.inc n) ++ parcel ∷ [])) (world.channels.posted m n (world.channels.peer n m) (world.channels.inc n)))

-- a message was handed up
abbrev pub HandedTaken : Type 0
HandedTaken = (tid : Tid) (world : World) (n m : ℕ) (parcel : Parcel) (work : Work) (log : List Record) (w : machine.World) → next_parcel world n m ≡ Some parcel
    → Shows tid (stepped (handed (scene_of world) m (world.channels.peer n m) n (rest_behind world n m parcel)) n work log) w → Shows tid (stepped (taken_scene world n (Handed m)) n work log) w

-- a restart was noticed
abbrev pub NoticedTaken : Type 0
NoticedTaken = (tid : Tid) (world : World) (n m new : ℕ) (work : Work) (log : List Record) (w : machine.World)
    → Shows tid (stepped (noticed (scene_of world) n m new) n work log) w → Shows tid (stepped (taken_scene world n (Noticed m new)) n work log) w
