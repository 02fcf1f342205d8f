-- What a message says of the machine: it was so as the message was posted, and is so for good.
use Rattle.std.specs.Prelude.{◌≡◌, ℕ, ◌+◌, ◌-◌, ◌==◌, ◌≤◌, ⊤, true, false, ◌&&◌, List, [], ◌∷◌, ◌++◌, drop, length, Some, None, is_some, nat_lt, zero, suc, if◌then◌else◌}
use Rattle.std.specs.List.{flat_map, list_any}
use Rattle.qs_base.specs.Order.{same_tid}
use Rattle.qs_base.specs.declared.identifiers.ServerNo.{ServerNo}
use Rattle.qs_base.specs.declared.identifiers.Tid.{Tid}
use Rattle.qs_session_channels.specs.Channels as channel
use Rattle.qs_session_channels.specs.Channels.{Channels}
use Rattle.qs_book_machine.specs.Book.{BookValue, find_transaction}
use Rattle.qs_book_machine.specs.Transaction.{TransactionValue}
use Rattle.qs_book_machine.specs.declared.transaction.RequestNo.{RequestNo}
use Rattle.qs_ops.specs.declared.operation.Op.{Op}
use Rattle.qs_packet.specs.declared.message.Message.{Message}
use Rattle.qs_packet.specs.declared.message.Message.TheVariants as messages
use Rattle.qs_node_step.specs.State.{NodeValue}
use Rattle.qs_node_step.specs.Telling.{is_other_node}
use Rattle.qs_world.specs.World.{Parcel, World}
use Rattle.qs_world_lawful.specs.Beside.{IsTrueCause}
use Rattle.qs_world_lawful.specs.Face.{waiting_at}
use Rattle.qs_world_lawful.specs.Logged.{HasAborted, HasOutcome}
use Rattle.qs_world_lawful.specs.Logs.{Every}
use Rattle.qs_world_lawful.specs.Waits.{IsWithin, standing_ops, waiting_ops}

-- ---- one message

abbrev pub IsAsked : BookValue → Tid → Type 0
IsAsked book tid = (tx : TransactionValue) × (find_transaction book tid ≡ Some tx) × (is_some tx.asked ≡ true)

abbrev pub IsThere : BookValue → Tid → Type 0
IsThere book tid = is_some (find_transaction book tid) ≡ true

abbrev pub IsSaid : BookValue → Message → Type 0
IsSaid book (messages.Request tid label member number issuer op) = IsThere book tid
IsSaid book (messages.AskVote tid) = IsAsked book tid
IsSaid book (messages.VotedAbort tid cause) = IsTrueCause book tid cause
IsSaid book (messages.Tell tid outcome) = HasOutcome book tid outcome
IsSaid book (messages.Told tid further) = list_any (is_other_node tid) further ≡ true → HasAborted book tid
IsSaid book (messages.Inquire tid) = IsThere book tid
IsSaid book _ = ⊤

-- an inquiry goes to the home
abbrev pub GoesTo : ℕ → Message → Type 0
GoesTo m (messages.Inquire tid) = tid.home.0 ≡ m
GoesTo m _ = ⊤

-- ---- all that was posted, whether it was handed up or not, goes between two nodes of the run

pub record IsBetween (size n m : ℕ) : Type 0 where
  pub other : (n == m) ≡ false
  pub from : nat_lt n size ≡ true
  pub to : nat_lt m size ≡ true

pub record IsParcel (book : BookValue) (size n m : ℕ) (parcel : Parcel) : Type 0 where
  pub between : IsBetween size n m
  pub goes : GoesTo m parcel.message
  pub says : IsSaid book parcel.message

pub record HoldsChannels (book : BookValue) (size : ℕ) (channels : Channels Parcel) : Type 0 where
  pub posted : (n m i j : ℕ) → Every (IsParcel book size n m) (channels.posted n m i j)
  pub waits : (n m : ℕ) → Every (IsParcel book size n m) (channels.waits n m)
  pub known : (n m : ℕ) → channels.peer n m ≤ channels.inc m  -- a node knows incarnations that began

-- ---- what happens to channels: what is new in them is so, and nobody gets to know what has not begun

abbrev pub FitsChannels : BookValue → ℕ → channel.Move Parcel → Channels Parcel → Type 0
FitsChannels book size (channel.Wait n m x) c = IsParcel book size n m x
FitsChannels book size (channel.Post n m x) c = IsParcel book size n m x
FitsChannels book size (channel.Meet n m j) c = j ≤ c.inc m
FitsChannels book size (channel.Notice n m j) c = j ≤ c.inc m
FitsChannels book size (channel.Restart n i) c = c.inc n ≤ i
FitsChannels book size move c = ⊤

-- ---- the requests that are on their way stand in the machine behind those that wait, in their order

abbrev pub is_asking_for : Tid → ServerNo → ℕ → Message → List Op
is_asking_for tid server number (messages.Request t label member k issuer op) = if same_tid tid t && ((member.server.0 == server.0) && (k == number)) then op ∷ [] else []
is_asking_for tid server number _ = []

abbrev pub ops_of : Tid → ServerNo → ℕ → List Parcel → List Op
ops_of tid server number parcels = flat_map (λ (parcel : Parcel). is_asking_for tid server number parcel.message) parcels

-- what was posted and is not handed up
abbrev pub pending : Channels Parcel → ℕ → ℕ → ℕ → ℕ → List Parcel
pending channels n m i j = drop (length (channels.handed n m i j)) (channels.posted n m i j)

-- from incarnation i on, so many incarnations
abbrev pub pending_from : (ℕ → List Parcel) → ℕ → ℕ → List Parcel
pending_from at i zero = []
pending_from at i (suc more) = at i ++ pending_from at (suc i) more

-- what node n has on its way to the present incarnation of node m, from the incarnation on that this one knows, and what n keeps back
abbrev pub on_its_way : Channels Parcel → ℕ → ℕ → List Parcel
on_its_way channels n m =
    pending_from (λ i. pending channels n m i (channels.inc m)) (channels.peer m n) ((channels.inc n + 1) - channels.peer m n) ++ channels.waits n m

abbrev pub way_between : ℕ → ℕ → ℕ → RequestNo
way_between n m number = record { link = record { from = record { 0 = n }; to = record { 0 = m } }; number = number }

abbrev pub HoldsWay : BookValue → Channels Parcel → ℕ → ℕ → NodeValue → Type 0
HoldsWay book channels n m node = (tid : Tid) (tx : TransactionValue) (server : ServerNo) (number : ℕ) → find_transaction book tid ≡ Some tx
    → IsWithin (waiting_ops (way_between n m number) (waiting_at node tid server) ++ ops_of tid server number (on_its_way channels n m)) (standing_ops tx (way_between n m number) (record { 0 = m }) server)

abbrev pub HoldsWays : BookValue → World → Type 0
HoldsWays book world = (n m : ℕ) → nat_lt n world.size ≡ true → nat_lt m world.size ≡ true → (n == m) ≡ false → HoldsWay book world.channels n m (world.hosts m).node

-- of what the machine does not know nothing waits at a node
abbrev pub WaitsForKnown : BookValue → NodeValue → Type 0
WaitsForKnown book node = (tid : Tid) (server : ServerNo) → find_transaction book tid ≡ None → waiting_at node tid server ≡ []
