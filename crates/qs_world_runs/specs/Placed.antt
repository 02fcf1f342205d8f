-- What all places hold of a transaction that is undecided, those that run and those that died: each request that stands in the reference
-- machine waits at a node that runs or is on its way to one, who issued it runs still, and each life that is over agrees to commit. Else it is doomed.
use Rattle.std.specs.Prelude.{◌≡◌, ◌⊎◌, ℕ, ◌+◌, ◌-◌, ◌==◌, ◌<◌, ◌≤◌, ◌&&◌, Bool, true, false, List, [], ◌∷◌, ⊤, length, map, Some, is_some, nat_lt, if◌then◌else◌}
use Rattle.std.specs.List.{filter, flat_map, list_all}
use Rattle.qs_base.specs.declared.identifiers.Class.TheVariants as classes
use Rattle.qs_base.specs.declared.identifiers.ClientNo.{ClientNo}
use Rattle.qs_base.specs.declared.identifiers.Member.{Member}
use Rattle.qs_base.specs.declared.identifiers.ServerNo.{ServerNo}
use Rattle.qs_base.specs.declared.identifiers.Tid.{Tid}
use Rattle.qs_book_laws.proofs.Rising.{IsRising}
use Rattle.qs_ops.specs.Members.{class_of, is_two_phase}
use Rattle.qs_ops.specs.Servers.{client_no}
use Rattle.qs_book_machine.specs.Book.{BookValue, find_transaction}
use Rattle.qs_book_machine.specs.Transaction.{TransactionValue, agrees, is_empty, is_open, is_standing, life_cmp, part_of, request_cmp, sent_in, sent_on, standing_request}
use Rattle.qs_book_machine.specs.declared.transaction.Life.{Life}
use Rattle.qs_book_machine.specs.declared.transaction.Part.{Part}
use Rattle.qs_book_machine.specs.declared.transaction.Request.{Request}
use Rattle.qs_book_machine.specs.declared.transaction.RequestNo.{RequestNo}
use Rattle.qs_packet.specs.declared.message.Message.{Message}
use Rattle.qs_node_step.specs.State.{NodeValue}
use Rattle.qs_world.specs.World.{Parcel, World}
use Rattle.qs_world_agree.specs.World as machine
use Rattle.qs_world_agree.specs.Doomed.{IsDoomed}
use Rattle.qs_world_lawful.specs.Face.{at_server, is_numbered, waiting_at}
use Rattle.qs_world_lawful.specs.Parcels.{is_asking_for, pending, pending_from}

-- ---- nodes and what is on its way between them, between two steps or in the middle of one

pub record Field : Type 0 where
  pub size : ℕ
  pub up : ℕ → Bool
  pub inc : ℕ → ℕ
  pub node : ℕ → NodeValue
  pub sent : ℕ → ℕ → List Message  -- what a node has on its way to another's last incarnation, whatever incarnation of its own sent it
  pub kept : ℕ → ℕ → List Message  -- what a node that runs keeps back for one of which it knows no incarnation

abbrev pub message_of : Parcel → Message
message_of parcel = parcel.message

-- from the incarnations of n that m does not know to have passed
abbrev pub sent_between : World → ℕ → ℕ → List Parcel
sent_between world n m = pending_from (λ i. pending world.channels n m i (world.channels.inc m)) (world.channels.peer m n) ((world.channels.inc n + 1) - world.channels.peer m n)

abbrev pub kept_between : World → Bool → ℕ → ℕ → List Parcel
kept_between world runs n m = if runs && (world.channels.peer n m == 0) then world.channels.waits n m else []

abbrev pub field_of : World → Field
field_of world = record {
  size = world.size;
  up = world.channels.up;
  inc = world.channels.inc;
  node = λ n. (world.hosts n).node;
  sent = λ n m. map message_of (sent_between world n m);
  kept = λ n m. map message_of (kept_between world (world.channels.up n) n m);
}

-- ---- requests: of those under one number

-- how many stand at a server of the node to which they go
abbrev pub standing : RequestNo → ServerNo → List Request → ℕ
standing at server requests = length (filter (is_standing (at_server at.link.to server)) requests)

-- how many wait there
abbrev pub waiting : Tid → Field → RequestNo → ServerNo → ℕ
waiting tid field at server = length (filter (is_numbered at) (waiting_at (field.node at.link.to.0) tid server))

-- and how many are on their way there, or kept back
abbrev pub asked : Tid → ServerNo → ℕ → List Message → ℕ
asked tid server number messages = length (flat_map (is_asking_for tid server number) messages)

abbrev pub goes_there : RequestNo → Request → Bool
goes_there at request = request.member.node.0 == at.link.to.0

pub record IsPlaced (tid : Tid) (field : Field) (at : RequestNo) (requests : List Request) : Type 0 where
  pub from_in : at.link.from.0 < field.size
  pub to_in : at.link.to.0 < field.size
  pub there : list_all (goes_there at) requests ≡ true
  pub runs : field.up at.link.to.0 ≡ true → (server : ServerNo) → standing at server requests ≤ waiting tid field at server + (asked tid server at.number (field.sent at.link.from.0 at.link.to.0) + asked tid server at.number (field.kept at.link.from.0 at.link.to.0))
  pub stopped : field.up at.link.to.0 ≡ false → (server : ServerNo) → standing at server requests ≤ asked tid server at.number (field.kept at.link.from.0 at.link.to.0)

abbrev pub EachPlaced : Tid → Field → List (RequestNo × List Request) → Type 0
EachPlaced tid field [] = ⊤
EachPlaced tid field (entry ∷ entries) = IsPlaced tid field entry.0 entry.1 × EachPlaced tid field entries

-- ---- who issued a request

-- its node runs, and gave that number in its present incarnation: so the next number that it gives is another
pub record IsIssued (tx : TransactionValue) (field : Field) (at : RequestNo) : Type 0 where
  pub up : field.up at.link.from.0 ≡ true
  pub given : at.number ≤ sent_in (field.inc at.link.from.0) (sent_on tx at.link)

-- each number of a link under which a request stands
abbrev pub AreIssued : TransactionValue → Field → Type 0
AreIssued tx field = (at : RequestNo) (member : Member) → is_some (standing_request tx at member) ≡ true → IsIssued tx field at

-- ---- lives

-- of a node that runs, in its present incarnation
pub record IsPresent (field : Field) (l : Life) : Type 0 where
  pub in_run : l.member.node.0 < field.size
  pub up : field.up l.member.node.0 ≡ true
  pub now : l.inc ≡ field.inc l.member.node.0

-- a server of a node, or a client
abbrev pub IsMember : ServerNo → Type 0
IsMember server = (nat_lt server.0 7 ≡ true) ⊎ ((client : ClientNo) × (nat_lt client.0 224 ≡ true) × (server.0 ≡ client_no client.0))

pub record IsLife (tx : TransactionValue) (field : Field) (l : Life) (part : Part) : Type 0 where
  pub kept : part_of tx l.member l.inc ≡ part
  pub member : IsMember l.member.server
  pub cast : is_two_phase (class_of l.member.server.0) ≡ true → part.covered ≡ part.voted  -- no vote was against
  pub made : class_of l.member.server.0 ≡ classes.Activity → part.made ≡ part.served  -- each lend makes its loan at once
  pub lives : IsPresent field l ⊎ (agrees (l, part) ≡ true)  -- it goes on, or agreed as it ended

abbrev pub EachLives : TransactionValue → Field → List (Life × Part) → Type 0
EachLives tx field [] = ⊤
EachLives tx field (entry ∷ entries) = IsLife tx field entry.0 entry.1 × EachLives tx field entries

-- ---- all of it

pub record Placed (tid : Tid) (tx : TransactionValue) (field : Field) : Type 0 where
  pub numbers : IsRising request_cmp tx.requests  -- each number of a link once
  pub members : IsRising life_cmp tx.parts  -- and each life
  pub requests : EachPlaced tid field tx.requests
  pub issued : AreIssued tx field
  pub lives : EachLives tx field tx.parts
  pub unrefused : is_empty tx.refusals ≡ true
  pub uncrossed : is_empty tx.crossed ≡ true

-- in a world of nodes that a world of the agreement machine shows: while it is undecided it is doomed, or so placed
abbrev pub HoldsPlaced : Tid → BookValue → Field → machine.World → Type 0
HoldsPlaced tid book field w = (tx : TransactionValue) → find_transaction book tid ≡ Some tx → is_open tx.cell ≡ true → IsDoomed w ⊎ Placed tid tx field
