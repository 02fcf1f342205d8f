-- A message comes: a request of the transaction is off its way and waits at its server, and any other leaves as many requests on their way.
use Rattle.qs_world_runs.proofs.Words.{◌≡◌, ℕ, ◌+◌, ◌≤◌, ◌==◌, ◌&&◌, not, Bool, true, false, List, [], ◌∷◌, ◌++◌, length, Option, Some, refl, sym, ap, subst, ◌∙◌, arith, if◌then◌else◌, nat_tests, same_tid, same_tid-self, ServerNo, Tid, Delivery, Channels, find_transaction, RequestNo, Op, Message, engage, learn_label, request_came, take_in, Work, with_queues, Sending, Handed, hand_next, taken_by, next_parcel, Parcel, World, sent_to, is_asking_for, Field, asked, field_of, waiting, OpenPlaced}
use Rattle.qs_world_runs.proofs.Words.{LeavesPlaces, book_amid, field_amid, apart_turned, eq_le}
use Rattle.qs_ipc.specs.Ipc as ipc
use Rattle.qs_book_machine.specs.Lawful.{IsLawful}
use Rattle.qs_world.specs.Moves.{node_no}
use Rattle.qs_world_lawful.specs.Face.{is_numbered}
use Rattle.qs_world_runs.specs.PlacesAmid.{counted}
use Rattle.qs_world_runs.specs.PlacesComes.{MessageComes, RequestComes}
use Rattle.qs_world_runs.proofs.CountedQueues.{count_enqueued}
use Rattle.qs_world_runs.proofs.FieldRoom.{less_by}
use Rattle.qs_world_runs.proofs.FieldTaken.{handed_world, sent_less}
use Rattle.qs_world_runs.proofs.LeftRequests.{engage_leaves, label_leaves}
use Rattle.qs_world_runs.proofs.PlacedActs.{open_grown}
use Rattle.qs_world_runs.proofs.PlacedAmid.{entries, kept_amid, left_on, room, there_amid}
use Rattle.qs_world_runs.proofs.PlacedServes.{one_if}
use Rattle.qs_world_runs.proofs.PlacedTx.{Grows, back, there}
use Rattle.qs_world_runs.proofs.PlacesLeft.{then_leaves}
use Rattle.qs_base_lemmas.proofs.Tests.{is_plus_zero}

-- what waits is more by what is off its way
room_moved : (h g s : Bool) (w v x a c b p k : ℕ) → v ≡ w + k → (h ≡ true → a ≤ c + k) → (h ≡ false → a ≤ c) → room h g s w x a b p ≤ room h g s v x c b p
room_moved true true true w v x a c b p k e on off = let m = on refl in omega (arith, e, m)
room_moved true true false w v x a c b p k e on off = let m = on refl in omega (arith, e, m)
room_moved true false true w v x a c b p k e on off = let m = on refl in omega (arith, e, m)
room_moved true false false w v x a c b p k e on off = let m = on refl in omega (arith, e, m)
room_moved false true true w v x a c b p k e on off = let m = off refl in omega (arith, m)
room_moved false true false w v x a c b p k e on off = let m = off refl in omega (arith, m)
room_moved false false true w v x a c b p k e on off = let m = off refl in omega (arith, m)
room_moved false false false w v x a c b p k e on off = let m = off refl in omega (arith, m)

module _ (t : Tid) (world : World) (n m : ℕ) (parcel : Parcel) (next : next_parcel world n m ≡ Some parcel) where
  abbrev after : World
  after = handed_world t world n m parcel next

  abbrev old_base : Field
  old_base = field_of world

  abbrev new_base : Field
  new_base = field_of after

  abbrev knows : ℕ → ℕ
  knows = world.channels.peer n

  -- where as many more wait as asked for this
  comes_grows : (work new : Work) (k : RequestNo → ServerNo → ℕ) → new.out.messages ≡ work.out.messages → ((at : RequestNo) (server : ServerNo) → counted t at server new.node ≡ counted t at server work.node + k at server)
      → ((at : RequestNo) (server : ServerNo) → (at.link.to.0 == n) ≡ true → (at.link.from.0 == m) ≡ true → asked t server at.number (parcel.message ∷ []) ≡ k at server) → Grows t (field_amid old_base knows n work) (field_amid new_base knows n new)
  comes_grows work new k ms waits its = record {
    nodes = record { size = refl; up = λ j. refl; inc = λ j. refl };
    room = λ at. record { runs = λ up server. all at server; stopped = λ off server. kept at server };
  }
    where
      posted : (at : RequestNo) (server : ServerNo) → asked t server at.number (sent_to at.link.to.0 new.out.messages) ≡ asked t server at.number (sent_to at.link.to.0 work.out.messages)
      posted at server = ap (λ (xs : List Sending). asked t server at.number (sent_to at.link.to.0 xs)) ms

      kept : (at : RequestNo) (server : ServerNo) → back t (field_amid old_base knows n work) at server ≤ back t (field_amid new_base knows n new) at server
      kept at server = eq_le (back t (field_amid old_base knows n work) at server) (back t (field_amid new_base knows n new) at server) (kept_amid t old_base knows n work at server
          ∙ (ap (λ (x : ℕ). back t old_base at server + (if (at.link.from.0 == n) && (knows at.link.to.0 == 0) then x else 0)) (sym (posted at server)) ∙ sym (kept_amid t new_base knows n new at server)))

      all : (at : RequestNo) (server : ServerNo) → there t (field_amid old_base knows n work) at server ≤ there t (field_amid new_base knows n new) at server
      all at server = less_by (there_amid t old_base knows n work at server)
          (there_amid t new_base knows n new at server ∙ ap (λ (x : ℕ). room (at.link.to.0 == n) goes_now stays_back (counted t at server new.node) (waiting t old_base at server) (asked t server at.number (new_base.sent at.link.from.0 at.link.to.0)) (back t old_base at server) x) (posted at server))
          (room_moved (at.link.to.0 == n) goes_now stays_back (counted t at server work.node) (counted t at server new.node) (waiting t old_base at server) (asked t server at.number (old_base.sent at.link.from.0 at.link.to.0)) (asked t server at.number (new_base.sent at.link.from.0 at.link.to.0))
          (back t old_base at server) (asked t server at.number (sent_to at.link.to.0 work.out.messages)) (k at server) (waits at server) on off)
        where
          goes_now : Bool
          goes_now = (at.link.from.0 == n) && ((knows at.link.to.0 == world.channels.inc at.link.to.0) && not (knows at.link.to.0 == 0))

          stays_back : Bool
          stays_back = (at.link.from.0 == n) && (knows at.link.to.0 == 0)

          less : asked t server at.number (old_base.sent at.link.from.0 at.link.to.0) ≤ asked t server at.number (new_base.sent at.link.from.0 at.link.to.0) + (if (at.link.from.0 == m) && (at.link.to.0 == n) then asked t server at.number (parcel.message ∷ []) else 0)
          less = sent_less t world n m parcel next at.link.from.0 at.link.to.0 server at.number

          on : (at.link.to.0 == n) ≡ true → asked t server at.number (old_base.sent at.link.from.0 at.link.to.0) ≤ asked t server at.number (new_base.sent at.link.from.0 at.link.to.0) + k at server
          on to_n = by (at.link.from.0 == m) refl
            where
              more : (a c x y : ℕ) → a ≤ c + x → x ≡ y → a ≤ c + y
              more a c x y p q = omega (arith, p, q)

              least : (a c x y : ℕ) → a ≤ c + x → x ≡ 0 → a ≤ c + y
              least a c x y p q = omega (arith, p, q)

              by : (b : Bool) → (at.link.from.0 == m) ≡ b → asked t server at.number (old_base.sent at.link.from.0 at.link.to.0) ≤ asked t server at.number (new_base.sent at.link.from.0 at.link.to.0) + k at server
              by true from_m = more _ _ (if (at.link.from.0 == m) && (at.link.to.0 == n) then asked t server at.number (parcel.message ∷ []) else 0) (k at server) less (rw (from_m, to_n) (its at server to_n from_m))
              by false apart = least _ _ (if (at.link.from.0 == m) && (at.link.to.0 == n) then asked t server at.number (parcel.message ∷ []) else 0) (k at server) less (rw apart refl)

          off : (at.link.to.0 == n) ≡ false → asked t server at.number (old_base.sent at.link.from.0 at.link.to.0) ≤ asked t server at.number (new_base.sent at.link.from.0 at.link.to.0)
          off apart = least _ _ (if (at.link.from.0 == m) && (at.link.to.0 == n) then asked t server at.number (parcel.message ∷ []) else 0) less (rw apart (none (at.link.from.0 == m)))
            where
              least : (a c x : ℕ) → a ≤ c + x → x ≡ 0 → a ≤ c
              least a c x p q = omega (arith, p, q)

              none : (b : Bool) → (if b && false then asked t server at.number (parcel.message ∷ []) else 0) ≡ 0
              none true = refl
              none false = refl

  taken_is : taken_by world n (Handed m) ≡ after.channels
  taken_is = ap (λ (o : Option Parcel). hand_next n m o world.channels) next

pub message_comes : MessageComes
message_comes t world n m stamp before work parcel next nothing placed tx found =
    subst (λ (c : Channels Parcel). OpenPlaced t (field_amid (field_of (record world { channels = c })) (c.peer n) n work) tx) (sym (taken_is t world n m parcel next))
    (open_grown t (field_amid (field_of world) (world.channels.peer n) n work) (field_amid (field_of (handed_world t world n m parcel next)) (world.channels.peer n) n work)
    (comes_grows t world n m parcel next work work (λ at server. 0) refl (λ at server. is_plus_zero (counted t at server work.node)) (λ at server to_n from_m. ap (λ (ops : List Op). length (ops ++ [])) (nothing server at.number))) tx (placed tx found))

pub request_comes : RequestComes
request_comes t world n m stamp before work label member number issuer op parcel i next says fits kept lawful placed tx found =
    subst (λ (c : Channels Parcel). OpenPlaced t (field_amid (field_of (record world { channels = c })) (c.peer n) n (request_came (node_no m) t label member number op work)) tx) (sym (taken_is t world n m parcel next))
    (subst (λ (w : Work). OpenPlaced t (field_amid (field_of (handed_world t world n m parcel next)) (world.channels.peer n) n w) tx) (sym is)
    (open_grown t (field_amid (field_of world) (world.channels.peer n) n engaged) (field_amid (field_of (handed_world t world n m parcel next)) (world.channels.peer n) n queued)
    (comes_grows t world n m parcel next engaged queued (λ at server. one_if ((server.0 == member.server.0) && is_numbered at delivery)) refl (λ at server. count_enqueued t at engaged.node.queues member.server delivery (same_tid-self t) server) its) tx
    (left_on t (field_of world) (world.channels.peer n) n stamp before i work engaged leaves allowed placed tx (subst (λ (w : Work). find_transaction (book_amid n stamp before w) t ≡ Some tx) is found))))
  where
    delivery : Delivery
    delivery = record { tid = t; from = node_no m; number = number; op = op; stale = false }

    engaged : Work
    engaged = engage t (node_no m) number (learn_label label t work)

    leaves : LeavesPlaces t work engaged
    leaves = then_leaves t work (learn_label label t work) engaged (label_leaves t label t work) (engage_leaves t t (node_no m) number (learn_label label t work))

    queued : Work
    queued = with_queues (ipc.enqueue member.server delivery) engaged

    is : request_came (node_no m) t label member number op work ≡ queued
    is = ap (λ (b : Bool). take_in b member delivery engaged) kept ∙ ap (λ (b : Bool). if b then queued else engaged) fits

    allowed : IsLawful before (entries t (field_of world) (world.channels.peer n) n stamp before i engaged)
    allowed = subst (λ (w : Work). IsLawful before (entries t (field_of world) (world.channels.peer n) n stamp before i w)) is lawful

    its : (at : RequestNo) (server : ServerNo) → (at.link.to.0 == n) ≡ true → (at.link.from.0 == m) ≡ true → asked t server at.number (parcel.message ∷ []) ≡ one_if ((server.0 == member.server.0) && is_numbered at delivery)
    its at server to_n from_m = ap (λ (x : Message). length (is_asking_for t server at.number x ++ [])) says ∙ by (server.0 == member.server.0) (number == at.number) refl refl
      where
        from_is : (m == at.link.from.0) ≡ true
        from_is = turned m at.link.from.0 from_m
          where
            turned : (a b : ℕ) → (b == a) ≡ true → (a == b) ≡ true
            turned a b e = grind (arith, nat_tests, e)

        by : (a b : Bool) → (server.0 == member.server.0) ≡ a → (number == at.number) ≡ b → length ((if same_tid t t && ((member.server.0 == server.0) && (number == at.number)) then op ∷ [] else []) ++ []) ≡ one_if ((server.0 == member.server.0) && ((m == at.link.from.0) && (number == at.number)))
        by true b p q = let r : (member.server.0 == server.0) ≡ true = flip server.0 member.server.0 p in rw (same_tid-self t, p, q, from_is, r) (one b)
          where
            flip : (a b : ℕ) → (a == b) ≡ true → (b == a) ≡ true
            flip a b e = grind (arith, nat_tests, e)

            one : (b : Bool) → length ((if b then op ∷ [] else []) ++ []) ≡ one_if b
            one true = refl
            one false = refl
        by false b p q = let r : (member.server.0 == server.0) ≡ false = apart_turned server.0 member.server.0 p in rw (same_tid-self t, p, r) refl
