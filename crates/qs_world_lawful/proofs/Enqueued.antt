-- A request waits at its server, behind what waits there: it stands in that order.
use Rattle.qs_world_lawful.proofs.Words.{◌≡◌, ◌≢◌, ◌⊎◌, inl, inr, ℕ, ◌==◌, ◌≤◌, Bool, true, false, [], ◌∷◌, ◌++◌, Option, Some, refl, sym, ap, subst, ◌∙◌, arith, length, if◌then◌else◌, filter, NodeNo, ServerNo, Tid, same_tid-self, queue_at, QueueValue, Delivery, BookValue, find_transaction, TransactionValue, is_standing, requests_at, RequestNo, enqueue, Work, with_queues, HoldsWork, book_at, at_server, face_of, HoldsAt, HoldsTid, HoldsWaits, HoldsWaitsAt, IsWithin, op_in, op_of, standing_ops}
use Rattle.qs_world_lawful.proofs.Words.{waiting_ops, eqb_turned, eqb-false, and_parts, eqb-true}
use Rattle.qs_ipc.specs.Ipc as ipc
use Rattle.qs_ipc.specs.Queue as queues
use Rattle.qs_ipc.specs.Queue.{is_of}
use Rattle.qs_node_step.specs.State.{NodeValue}
use Rattle.qs_world_lawful.specs.Face.{is_numbered, waiting_at}
use Rattle.qs_world_lawful.proofs.Apart.{Apart, same_or_apart}
use Rattle.qs_world_lawful.proofs.Clauses.{of_tid}
use Rattle.qs_world_lawful.proofs.Faces.{filter_last, filter_more, queued_elsewhere, queued_here, same_server_or, waiting_apart}
use Rattle.qs_world_lawful.proofs.Frames.{at_each, clients_on, held_on}
use Rattle.qs_world_lawful.proofs.Growing.{kept_on}
use Rattle.qs_world_lawful.proofs.Issued.{numbered_as}
use Rattle.qs_world_lawful.proofs.SameWaits.{waits_alike}
use Rattle.qs_world_lawful.proofs.Steps.{waits_of}
use Rattle.qs_world_lawful.proofs.Within.{map_last, map_length, within_count}

module _ (stamp : ℕ) (before : BookValue) (work : Work) (h : HoldsWork stamp before work) (server : ServerNo) (delivery : Delivery) (tx : TransactionValue) (found : find_transaction (book_at stamp before work) delivery.tid ≡ Some tx) where
  abbrev node : NodeValue
  node = work.node

  abbrev here : NodeNo
  here = node.setting.node

  abbrev tid : Tid
  tid = delivery.tid

  abbrev new : NodeValue
  new = record node { queues = ipc.enqueue server delivery node.queues }

  abbrev book : BookValue
  book = book_at stamp before work

  abbrev its_at : RequestNo
  its_at = record { link = record { from = delivery.from; to = here }; number = delivery.number }

  waits_here : waiting_at new tid server ≡ waiting_at node tid server ++ delivery ∷ []
  waits_here = ap (λ (q : QueueValue). filter (is_of tid) q.waiting) (queued_here server delivery node.queues) ∙ filter_last (is_of tid) (queue_at node.queues server).waiting delivery (same_tid-self tid)

  waits_elsewhere : (other : ServerNo) → other ≢ server → waiting_at new tid other ≡ waiting_at node tid other
  waits_elsewhere other far = same_server_or server other _ (λ same. absurd (far (sym same)))
      (λ apart keys. ap (λ (q : QueueValue). filter (is_of tid) q.waiting) (queued_elsewhere server other delivery node.queues apart))

  key_is : (at : RequestNo) → at.link.to ≡ here → is_numbered at delivery ≡ true → its_at ≡ at
  key_is at near is =
      let parts = and_parts (delivery.from.0 == at.link.from.0) (delivery.number == at.number) is in
      made delivery.from at.link.from here at.link.to delivery.number at.number (ap (λ (n : ℕ). record { 0 = n }) (eqb-true delivery.from.0 at.link.from.0 parts.0)) (sym near) (eqb-true delivery.number at.number parts.1)
    where
      made : (a b c d : NodeNo) (m n : ℕ) → a ≡ b → c ≡ d → m ≡ n → numbered_as a c m ≡ numbered_as b d n
      made a b c d m n p q r = ap (λ (x : NodeNo). numbered_as x c m) p ∙ (ap (λ (x : NodeNo). numbered_as b x m) q ∙ ap (numbered_as b d) r)

  its_waits : HoldsWaits here node.setting.inc tid tx (face_of node tid).waiting node.servers
  its_waits = waits_of stamp book node h.holds tid tx found

  module _ (stands : IsWithin (waiting_ops its_at (waiting_at node tid server) ++ delivery.op ∷ []) (standing_ops tx its_at here server)) where
    within_here : (at : RequestNo) → at.link.to ≡ here → IsWithin (waiting_ops at (waiting_at node tid server ++ delivery ∷ [])) (standing_ops tx at here server)
    within_here at near = by (is_numbered at delivery) refl
      where
        own : (key : RequestNo) → is_numbered key delivery ≡ true → IsWithin (waiting_ops key (waiting_at node tid server) ++ delivery.op ∷ []) (standing_ops tx key here server) → IsWithin (waiting_ops key (waiting_at node tid server ++ delivery ∷ [])) (standing_ops tx key here server)
        own key is w = rw (filter_last (is_numbered key) (waiting_at node tid server) delivery is, map_last op_of (filter (is_numbered key) (waiting_at node tid server)) delivery) w

        by : (b : Bool) → is_numbered at delivery ≡ b → IsWithin (waiting_ops at (waiting_at node tid server ++ delivery ∷ [])) (standing_ops tx at here server)
        by true is = own at is (subst (λ (k : RequestNo). IsWithin (waiting_ops k (waiting_at node tid server) ++ delivery.op ∷ []) (standing_ops tx k here server)) (key_is at near is) stands)
        by false is = rw (filter_more (is_numbered at) (waiting_at node tid server) delivery is) (its_waits.within server at near)

    within_on : (other : ServerNo) (at : RequestNo) → at.link.to ≡ here → IsWithin (waiting_ops at (waiting_at new tid other)) (standing_ops tx at here other)
    within_on other at near = by (other.0 == server.0) refl
      where
        by : (b : Bool) → (other.0 == server.0) ≡ b → IsWithin (waiting_ops at (waiting_at new tid other)) (standing_ops tx at here other)
        by true is = subst (λ (s : ServerNo). IsWithin (waiting_ops at (waiting_at new tid s)) (standing_ops tx at here s)) (ap (λ (n : ℕ). record { 0 = n }) (eqb_turned other.0 server.0 is)) (rw waits_here (within_here at near))
        by false is = rw (waits_elsewhere other (λ e. eqb-false other.0 server.0 is (ap (λ (s : ServerNo). s.0) e))) (its_waits.within other at near)

    queued_on : (other : ServerNo) (at : RequestNo) → at.link.to ≡ here → length (filter (is_numbered at) (waiting_at new tid other)) ≤ length (filter (is_standing (at_server here other)) (requests_at tx at))
    queued_on other at near = fewer _ _ _ _ (map_length op_of (filter (is_numbered at) (waiting_at new tid other))) (map_length op_in (filter (is_standing (at_server here other)) (requests_at tx at)))
        (within_count (waiting_ops at (waiting_at new tid other)) (standing_ops tx at here other) (within_on other at near))
      where
        fewer : (a b c d : ℕ) → a ≡ b → c ≡ d → a ≤ c → b ≤ d
        fewer a b c d p q e = grind (arith, p, q, e)

    own : HoldsTid here node.setting.inc tid tx (face_of new tid)
    own =
        let k = of_tid stamp book node h.holds tid tx found in
        record {
          sized = k.sized;
          members = k.members;
          asked = k.asked;
          outcome = k.outcome;
          silent = k.silent;
          local = k.local;
          sent = k.sent;
          pending = k.pending;
          noted = k.noted;
          queued = queued_on;
          made = k.made;
          yielded = k.yielded;
          home = k.home;
        }

    waits : (t : Tid) → HoldsWaitsAt here node.setting.inc t (find_transaction book t) (face_of new t).waiting node.servers
    waits t = by (same_or_apart tid t)
      where
        own_waits : HoldsWaits here node.setting.inc tid tx (face_of new tid).waiting node.servers
        own_waits = record { whole = its_waits.whole; due = its_waits.due; within = within_on; once = its_waits.once; fits = its_waits.fits }

        by : (tid ≡ t) ⊎ Apart tid t → HoldsWaitsAt here node.setting.inc t (find_transaction book t) (face_of new t).waiting node.servers
        by (inl same) = subst (λ (u : Tid). HoldsWaitsAt here node.setting.inc u (find_transaction book u) (face_of new u).waiting node.servers) same
            (subst (λ (o : Option TransactionValue). HoldsWaitsAt here node.setting.inc tid o (face_of new tid).waiting node.servers) (sym found) own_waits)
        by (inr far) = waits_alike here node.setting.inc t (find_transaction book t) (face_of node t).waiting (face_of new t).waiting node.servers node.servers (λ s. waiting_apart t server s delivery node.queues far.of) refl (h.holds.waits t)

    by_waiting : HoldsWork stamp before (with_queues (ipc.enqueue server delivery) work)
    by_waiting = kept_on stamp before work (with_queues (ipc.enqueue server delivery) work) h refl refl
        (held_on stamp book book node new h.holds (record { setting = refl; at = refl; in_inc = refl }) refl h.holds.state (record { up = refl; inc = refl; begun = refl; format = refl })
        h.holds.order refl h.holds.there (λ t is. is)
        (at_each here node.setting.inc book book node new tid h.holds.at (λ t far. refl) (λ t far. record { known = refl; local = refl; changes = refl; loans = refl; waiting = λ s. waiting_apart t server s delivery node.queues far.of })
        (subst (λ (o : Option TransactionValue). HoldsAt here node.setting.inc tid o (face_of new tid)) (sym found) own))
        (clients_on book book node new (λ t. refl) (λ k. refl) (record { setting = refl; at = refl; in_inc = refl }) (record { commands = refl; labels = refl; outcomes = refl }) h.holds.clients (λ t. refl)) h.holds.servers waits)

    -- an operation that is not its server's is refused
    pub by_enqueue : HoldsWork stamp before (enqueue server delivery work)
    by_enqueue = by (queues.is_for server delivery.op)
      where
        by : (b : Bool) → HoldsWork stamp before (if b then with_queues (ipc.enqueue server delivery) work else work)
        by true = by_waiting
        by false = h
