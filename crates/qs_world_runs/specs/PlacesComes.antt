-- What all places hold as a message comes: it is off its way, and a request of the transaction waits at its server.
use Rattle.std.specs.Prelude.{◌≡◌, ℕ, true, false, List, [], Some, ◌<◌, ◌≤◌, map}
use Rattle.qs_base.specs.declared.identifiers.Member.{Member}
use Rattle.qs_base.specs.declared.identifiers.ServerNo.{ServerNo}
use Rattle.qs_base.specs.declared.identifiers.Tid.{Tid}
use Rattle.qs_engage.specs.Nodes.{same_node}
use Rattle.qs_ipc.specs.Queue.{is_for}
use Rattle.qs_book_laws.proofs.Outcomes.{Inv}
use Rattle.qs_book_machine.specs.Book.{BookValue}
use Rattle.qs_ops.specs.declared.operation.Op.{Op}
use Rattle.qs_packet.specs.declared.message.Message.TheVariants as messages
use Rattle.qs_node_step.specs.Serving.{is_dropped, request_came}
use Rattle.qs_node_step.specs.State.{Work, here, part_of}
use Rattle.qs_world.specs.Moves.{Handed, Noticed, node_no, taken_by}
use Rattle.qs_world.specs.Posting.{next_parcel}
use Rattle.qs_world.specs.World.{Parcel, World}
use Rattle.qs_world_lawful.specs.GivenStep.{first_work}
use Rattle.qs_world_lawful.specs.Parcels.{is_asking_for, pending}
use Rattle.qs_world_runs.specs.Placed.{asked, field_of, message_of}
use Rattle.qs_world_runs.specs.PlacesAmid.{PlacedAmid}
use Rattle.qs_world_runs.specs.PlacesEnds.{taken}
use Rattle.qs_world_runs.specs.PlacesRules.{AreLawful}

-- one that asks for nothing of it
abbrev pub MessageComes : Type 0
MessageComes = (t : Tid) (world : World) (n m stamp : ℕ) (before : BookValue) (work : Work) (parcel : Parcel) → next_parcel world n m ≡ Some parcel → ((server : ServerNo) (number : ℕ) → is_asking_for t server number parcel.message ≡ [])
    → PlacedAmid t (field_of world) (world.channels.peer n) n stamp before work → PlacedAmid t (field_of (taken world n (Handed m))) ((taken_by world n (Handed m)).peer n) n stamp before work

-- a request of it, that is not dropped
abbrev pub RequestComes : Type 0
RequestComes = (t : Tid) (world : World) (n m stamp : ℕ) (before : BookValue) (work : Work) (label : List ℕ) (member : Member) (number : ℕ) (issuer : ServerNo) (op : Op) (parcel : Parcel) → Inv before → next_parcel world n m ≡ Some parcel
    → parcel.message ≡ messages.Request t label member number issuer op → is_for member.server op ≡ true → is_dropped (same_node t.home (here work)) (part_of t work) ≡ false → AreLawful n stamp before (request_came (node_no m) t label member number op work)
    → PlacedAmid t (field_of world) (world.channels.peer n) n stamp before work
    → PlacedAmid t (field_of (taken world n (Handed m))) ((taken_by world n (Handed m)).peer n) n stamp before (request_came (node_no m) t label member number op work)

-- ---- a later incarnation of another node becomes known

-- of the earlier ones no request of it is left on its way
abbrev pub NoticeComes : Type 0
NoticeComes = (t : Tid) (world : World) (n m new stamp free : ℕ) (before : BookValue) → 1 ≤ world.channels.peer n m → world.channels.peer n m < new → new ≤ world.channels.inc m
    → ((i : ℕ) (server : ServerNo) (number : ℕ) → i < new → asked t server number (map message_of (pending world.channels m n i (world.channels.inc n))) ≡ 0)
    → PlacedAmid t (field_of world) (world.channels.peer n) n stamp before (first_work (world.hosts n).node free)
    → PlacedAmid t (field_of (taken world n (Noticed m new))) ((taken_by world n (Noticed m new)).peer n) n stamp before (first_work (world.hosts n).node free)
