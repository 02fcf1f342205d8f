-- A reply that is handed up was posted to the present incarnation of its node: so it is true.
use Rattle.qs_world_runs.proofs.Words.{◌≡◌, ◌⊎◌, inl, inr, ℕ, Bool, true, List, [], ◌∷◌, length, Option, Some, None, sym, ap, subst, ◌∙◌, lookup, is_some, slice_get, Member, NodeNo, Tid, BookValue, find_transaction, inc_at, TransactionValue, is_crossed, is_empty, standing_request, Reply, Message, Event, Clock, Commanded, Handed, Noticed, Queues, Source, event_of, Opening, Parcel, World, from_client, from_node, from_notice, steady, way_between, HoldsNodeAt, Joined, book_in, PlacesAt, Placed}
use Rattle.qs_world_runs.proofs.Words.{field_of, IsOfLast, IsServed, RepliesAt, some_same}
use Rattle.qs_book_laws.proofs.Turns.{Stands}
use Rattle.qs_book_machine.specs.Nodes as book_nodes
use Rattle.qs_packet.specs.declared.message.Message.TheVariants as messages
use Rattle.qs_node_step.specs.declared.event.Event.TheVariants as events
use Rattle.qs_world.specs.Moves.{node_no}
use Rattle.qs_world_runs.specs.RepliesTrue.{IsTold, RepliesTrue}
use Rattle.qs_world_runs.proofs.ComesUnknown.{every_get}

none_in : {A : Type 0} (p : A → Bool) (xs : List (A × ℕ)) → is_empty xs ≡ true → is_some (lookup p xs) ≡ true → ⊥
none_in p [] empty is = cc is
none_in p (x ∷ xs) empty is = cc empty

module _ (o : Opening) (world : World) (n stamp : ℕ) (peer : NodeNo) (tid : Tid) (member : Member) (number : ℕ) (reply : Reply) (tx : TransactionValue) (j : Joined PlacesAt o world) (replies : RepliesAt o world)
    (found : find_transaction (book_in o world) tid ≡ Some tx) (placed : Placed tid tx (field_of world)) where
  abbrev book : BookValue
  book = book_in o world

  abbrev reply_is : Message
  reply_is = messages.Answered tid member number reply

  abbrev event : Event
  event = events.Received peer reply_is

  abbrev Goal : Type 0
  Goal = standing_request tx (way_between n member.node.0 number) member ≡ None

  of_last : inc_at book (record { 0 = n }) ≡ world.channels.inc n → IsOfLast book n (world.channels.inc n) tid (IsServed n (world.channels.inc n) member number) → Goal
  of_last now last = by (subst (λ (x : TransactionValue). IsServed n (world.channels.inc n) member number x) (some_same (sym stands.found ∙ found)) stands.holds).none
    where
      stands : Stands tid (IsServed n (world.channels.inc n) member number) book
      stands = last.holds now

      by : (is_crossed tx member ≡ true) ⊎ (standing_request tx (way_between n member.node.0 number) member ≡ None) → Goal
      by (inl crossed) = absurd (none_in _ tx.crossed placed.uncrossed crossed)
      by (inr none) = none

  came : (m : ℕ) (parcel : Parcel) → inc_at book (record { 0 = n }) ≡ world.channels.inc n → event ≡ events.Received (node_no m) parcel.message
      → slice_get (world.channels.posted m n (world.channels.peer n m) (world.channels.inc n)) (length (world.channels.handed m n (world.channels.peer n m) (world.channels.inc n))) ≡ Some parcel → Goal
  came m parcel now is there = of_last now (subst (IsTold book m n (world.channels.peer n m) (world.channels.inc n)) (message_is is)
      (every_get (λ (p : Parcel). IsTold book m n (world.channels.peer n m) (world.channels.inc n) p.message) (length (world.channels.handed m n (world.channels.peer n m) (world.channels.inc n))) (world.channels.posted m n (world.channels.peer n m) (world.channels.inc n)) parcel
      (replies.posted m n (world.channels.peer n m) (world.channels.inc n)) there))
    where
      message_is : events.Received peer reply_is ≡ events.Received (node_no m) parcel.message → parcel.message ≡ reply_is
      message_is e = cc e

  by_source : (source : Source) → inc_at book (record { 0 = n }) ≡ world.channels.inc n → event_of world n stamp source ≡ Some event → Goal
  by_source (Commanded k) now comes = let from = from_client world n k event (steady world j.shown) comes in absurd (cc from.is)
  by_source (Handed m) now comes = let from = from_node world n stamp m event comes in came m from.parcel now from.is from.found
  by_source Queues now comes = absurd (cc comes)
  by_source Clock now comes = absurd (cc comes)
  by_source (Noticed m new) now comes = let from = from_notice world n stamp m new event comes in absurd (cc from.is)

pub replies_true : RepliesTrue
replies_true o world n stamp source peer tid member number reply tx j replies low makes found placed = by_source o world n stamp peer tid member number reply tx j replies found placed source now makes.comes
  where
    at : HoldsNodeAt (book_in o world) world n
    at = j.held.nodes n low

    now : inc_at (book_in o world) (record { 0 = n }) ≡ world.channels.inc n
    now = ap (λ (x : Option book_nodes.NodeValue). elim x [ None ↦ 0 | Some state ↦ state.inc ]) at.there ∙ at.inc_is
