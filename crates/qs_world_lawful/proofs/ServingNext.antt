-- The request that waits first at a server leaves its queue and is served, with its loan and its reply: as a whole.
use Rattle.qs_world_lawful.proofs.Words.{◌≡◌, ◌⊎◌, ℕ, ◌==◌, ◌≤◌, ◌+◌, Bool, true, false, List, [], ◌∷◌, Option, Some, None, refl, sym, ap, subst, ◌∙◌, drop, not, ◌&&◌, ◌||◌, if◌then◌else◌, filter, list_any, ClientNo, Member, ServerNo, Tid, same_tid-self, last_number, same_node, queue_at, Delivery, after_serving, reply_of, Reply, TransactionValue, served_in, has_note, RequestNo, BookValue, find_transaction, class_here, is_told_class, member_of, has_noted, awaits_note, is_answered_by, is_undecided}
use Rattle.qs_world_lawful.proofs.Words.{waiting_for, Outstanding, Participant, is_client, server_at, member_here, send, reply_came, take_reply, enter_serve, make_loan, lent_to, serve_or_drop, serve_next, reply_here, Work, here, with_manager, with_queues, change_server, face_of, at_server, HoldsFiles, HoldsAt, HoldsWork, book_at, IsWithin, waiting_ops, standing_ops, Op, none_is, some_same, eqb-true, eq-eqb}
use Rattle.qs_ipc.specs.Ipc as ipc
use Rattle.qs_ipc.specs.Queue.{is_of, is_for, first_of}
use Rattle.qs_ops.specs.Servers as numbers
use Rattle.qs_ops.specs.declared.reply.Reply.TheVariants as replies
use Rattle.qs_packet.specs.declared.message.Message.TheVariants as messages
use Rattle.qs_book_machine.specs.Book.{is_done}
use Rattle.qs_book_machine.specs.Clauses.{note_text}
use Rattle.qs_tm.specs.Manager as tm
use Rattle.qs_tm.specs.Participant as participant
use Rattle.qs_tm.specs.Participant.{is_by_files}
use Rattle.qs_node_step.specs.Requests as requests
use Rattle.qs_node_step.specs.Serving.{give_reply, serve}
use Rattle.qs_world_lawful.specs.Face.{waiting_at}
use Rattle.qs_world_lawful.specs.Holds.{is_kept}
use Rattle.qs_world_lawful.proofs.Asking.{by_send}
use Rattle.qs_world_lawful.proofs.Steps.{waits_of}
use Rattle.qs_world_lawful.proofs.Faces.{part_changed, left_here}
use Rattle.qs_world_lawful.proofs.Replying.{by_reply}
use Rattle.qs_world_lawful.proofs.ServingFiled.{by_serving_filed}
use Rattle.qs_world_lawful.proofs.ReplyRules.{may_serve_first}
use Rattle.qs_world_lawful.proofs.Silent.{by_next}

-- what the node knows the machine knows
pub found_of : (stamp : ℕ) (before : BookValue) (work : Work) → HoldsWork stamp before work → (tid : Tid) (part : Participant) → tm.part_of tid work.node.manager ≡ Some part → (tx : TransactionValue) × (find_transaction (book_at stamp before work) tid ≡ Some tx)
found_of stamp before work h tid part known = by (find_transaction (book_at stamp before work) tid) refl
  where
    clash : Some part ≡ None → ⊥
    clash e = cc e

    empty : HoldsAt work.node.setting.node work.node.setting.inc tid None (face_of work.node tid) → tm.part_of tid work.node.manager ≡ None
    empty held = held.known

    by : (o : Option TransactionValue) → find_transaction (book_at stamp before work) tid ≡ o → (tx : TransactionValue) × (find_transaction (book_at stamp before work) tid ≡ Some tx)
    by (Some tx) found = (tx, found)
    by None found = absurd (clash (sym known ∙ empty (subst (λ (o : Option TransactionValue). HoldsAt work.node.setting.node work.node.setting.inc tid o (face_of work.node tid)) found (h.holds.at tid))))

-- a reply comes of what may be unknown here
by_reply_came : (stamp : ℕ) (before : BookValue) (work : Work) (tid : Tid) (member : Member) (number : ℕ) (reply : Reply) → HoldsWork stamp before work
    → ((part : Participant) → tm.part_of tid work.node.manager ≡ Some part → list_any (λ (r : Outstanding). is_answered_by member number r && is_by_files r) part.waiting ≡ false)
    → HoldsWork stamp before (reply_came tid member number reply work)
by_reply_came stamp before work tid member number reply h none = by (tm.part_of tid work.node.manager) refl
  where
    by : (o : Option Participant) → tm.part_of tid work.node.manager ≡ o → HoldsWork stamp before (reply_came tid member number reply work)
    by (Some part) known = let tx = found_of stamp before work h tid part known in by_reply stamp before work tid member number reply part tx.0 h known tx.1 (none part known)
    by None known = subst (λ (o : Option Outstanding). HoldsWork stamp before (elim o [ None ↦ work | Some request ↦ take_reply tid reply request (with_manager (tm.drop_waiting tid member number) work) ])) (sym nothing) h
      where
        nothing : requests.waiting_at tid member number work ≡ None
        nothing = ap (λ (p : Option Participant). elim p [ None ↦ None | Some part ↦ waiting_for member number part ]) known

-- the reply goes where its request came from
by_give_reply : (stamp : ℕ) (before : BookValue) (work : Work) (member : Member) (delivery : Delivery) (reply : Reply) → HoldsWork stamp before work
    → (same_node delivery.from (here work) ≡ true → HoldsWork stamp before (reply_came delivery.tid member delivery.number reply work)) → HoldsWork stamp before (give_reply member delivery reply work)
by_give_reply stamp before work member delivery reply h comes = by (same_node delivery.from (here work)) refl delivery.stale
  where
    by : (b : Bool) → same_node delivery.from (here work) ≡ b → (s : Bool) → HoldsWork stamp before (if b then reply_came delivery.tid member delivery.number reply work else if s then work else send delivery.from (messages.Answered delivery.tid member delivery.number reply) work)
    by true near s = comes near
    by false far true = h
    by false far false = by_send stamp before work delivery.from (messages.Answered delivery.tid member delivery.number reply) h

-- what is served of it waits as before
pub served_waiting : (server : ServerNo) (part : Participant) → (participant.served server part).waiting ≡ part.waiting
served_waiting server part = by ((member_of part server).served == last_number)
  where
    by : (b : Bool) → (if b then part else record (participant.with_member server (record (member_of part server) { served = (member_of part server).served + 1; fresh = true }) part) { involved = part.involved || is_told_class (class_here server) }).waiting ≡ part.waiting
    by true = refl
    by false = refl

-- serving and lending leave the node's setting, and of its transactions count alone
module _ (server : ServerNo) (delivery : Delivery) (reply : Reply) (work : Work) where
  pub changed_alike : (b : Bool) → ((if b then work else change_server server (λ value. after_serving value delivery.tid delivery.op reply) work).node.setting ≡ work.node.setting)
      × ((if b then work else change_server server (λ value. after_serving value delivery.tid delivery.op reply) work).node.manager ≡ work.node.manager)
  changed_alike true = (refl, refl)
  changed_alike false = (refl, refl)

  pub loan_alike : (o : Option ClientNo) → ((make_loan delivery.tid o (enter_serve server delivery reply work)).node.setting ≡ work.node.setting)
      × ((make_loan delivery.tid o (enter_serve server delivery reply work)).node.manager ≡ tm.served delivery.tid server work.node.manager)
  loan_alike None = ((changed_alike (is_client server)).0, ap (tm.served delivery.tid server) (changed_alike (is_client server)).1)
  loan_alike (Some client) = ((changed_alike (is_client server)).0, ap (tm.served delivery.tid server) (changed_alike (is_client server)).1)

-- once it is served
abbrev pub after_serve : ServerNo → Delivery → Reply → Work → Work
after_serve server delivery reply work = make_loan delivery.tid (lent_to delivery.op) (enter_serve server delivery reply work)

-- its reply is given, and comes where the request was issued here
abbrev pub Comes : ℕ → BookValue → Work → ServerNo → Delivery → Reply → Type 0
Comes stamp before work server delivery reply = same_node delivery.from work.node.setting.node ≡ true → HoldsWork stamp before (after_serve server delivery reply work)
    → HoldsWork stamp before (reply_came delivery.tid (at_server work.node.setting.node server) delivery.number reply (after_serve server delivery reply work))

by_serve : (stamp : ℕ) (before : BookValue) (work : Work) (server : ServerNo) (delivery : Delivery) (reply : Reply) → Comes stamp before work server delivery reply → HoldsWork stamp before (after_serve server delivery reply work) → HoldsWork stamp before (serve server delivery reply work)
by_serve stamp before work server delivery reply comes served =
    by_give_reply stamp before (after_serve server delivery reply work) (member_here work server) delivery reply served
    (λ near. comes (sym (ap (λ v. same_node delivery.from v.node) (loan_alike server delivery reply work (lent_to delivery.op)).0) ∙ near) served)

-- where no note of files waits for it
client_comes : (stamp : ℕ) (before : BookValue) (work : Work) (server : ServerNo) (delivery : Delivery) (reply : Reply) (part : Participant) → tm.part_of delivery.tid work.node.manager ≡ Some part
    → (same_node delivery.from work.node.setting.node ≡ true → list_any (λ (r : Outstanding). is_answered_by (at_server work.node.setting.node server) delivery.number r && is_by_files r) part.waiting ≡ false)
    → Comes stamp before work server delivery reply
client_comes stamp before work server delivery reply part known none near served =
    by_reply_came stamp before (after_serve server delivery reply work) delivery.tid (at_server work.node.setting.node server) delivery.number reply served
    (λ p is. subst (λ (w : List Outstanding). list_any (λ (r : Outstanding). is_answered_by (at_server work.node.setting.node server) delivery.number r && is_by_files r) w ≡ false) (sym (waiting_is p is)) (none near))
  where
    waiting_is : (p : Participant) → tm.part_of delivery.tid (after_serve server delivery reply work).node.manager ≡ Some p → p.waiting ≡ part.waiting
    waiting_is p is =
        let it : Some (participant.served server part) ≡ Some p =
        sym (part_changed delivery.tid (participant.served server) work.node.manager part known) ∙ (sym (ap (tm.part_of delivery.tid) (loan_alike server delivery reply work (lent_to delivery.op)).1) ∙ is) in
        ap (λ (q : Participant). q.waiting) (sym (some_same it)) ∙ served_waiting server part

-- what waits first waits before those behind it
first_more : (delivery : Delivery) (at : RequestNo) → at.link.from ≡ delivery.from → at.number ≡ delivery.number → (waiting : List Delivery) → first_of waiting ≡ Some delivery
    → waiting_ops at (filter (is_of delivery.tid) waiting) ≡ delivery.op ∷ waiting_ops at (filter (is_of delivery.tid) (drop 1 waiting))
first_more delivery at from same [] is = absurd (cc is)
first_more delivery at from same (d ∷ ds) is =
    subst (λ (e : Delivery). waiting_ops at (filter (is_of delivery.tid) (e ∷ ds)) ≡ delivery.op ∷ waiting_ops at (filter (is_of delivery.tid) ds)) (sym (some_same is))
    (rw (same_tid-self delivery.tid) (rw (eq-eqb delivery.from.0 at.link.from.0 (sym (ap (λ n. n.0) from)), eq-eqb delivery.number at.number (sym same)) refl))

module _ (stamp : ℕ) (before : BookValue) (work : Work) (h : HoldsWork stamp before work) (files : HoldsFiles work.node.servers) (server : ServerNo) where
  abbrev left_work : Work
  left_work = with_queues (ipc.after_next server) work

  left : HoldsWork stamp before (with_queues (ipc.after_next server) work)
  left = by_next stamp before work h server

  abbrev its_at : Delivery → RequestNo
  its_at delivery = record { link = record { from = delivery.from; to = work.node.setting.node }; number = delivery.number }

  -- it stands before what waits behind it
  one_more : (delivery : Delivery) → ipc.next server work.node.queues ≡ Some delivery → (tx : TransactionValue) → find_transaction (book_at stamp before work) delivery.tid ≡ Some tx
      → IsWithin (delivery.op ∷ waiting_ops (its_at delivery) (waiting_at left_work.node delivery.tid server)) (standing_ops tx (its_at delivery) work.node.setting.node server)
  one_more delivery next tx found =
      subst (λ (ops : List Op). IsWithin ops (standing_ops tx (its_at delivery) work.node.setting.node server))
      (first_more delivery (its_at delivery) refl refl (queue_at work.node.queues server).waiting next
      ∙ sym (ap (λ (w : List Delivery). delivery.op ∷ waiting_ops (its_at delivery) (filter (is_of delivery.tid) w)) (left_here server work.node.queues)))
      ((waits_of stamp (book_at stamp before work) work.node h.holds delivery.tid tx found).within server (its_at delivery) refl)

  -- a server replies to what is its own, and files by what they hold
  replies_by : (delivery : Delivery) (reply : Reply) → reply_here server delivery.tid delivery.op work.node ≡ Some reply
      → (is_for server delivery.op ≡ true) × ((server.0 == numbers.files_no) ≡ true → reply_of work.node.servers.files delivery.tid delivery.op ≡ Some reply)
  replies_by delivery reply is = by (is_for server delivery.op) refl is
    where
      by : (b : Bool) → is_for server delivery.op ≡ b → (if not b then None else if is_client server then Some replies.Done else reply_of (server_at work.node.servers server) delivery.tid delivery.op) ≡ Some reply
          → (is_for server delivery.op ≡ true) × ((server.0 == numbers.files_no) ≡ true → reply_of work.node.servers.files delivery.tid delivery.op ≡ Some reply)
      by false so e = absurd (cc e)
      by true so e = (so, λ at. own (eqb-true server.0 numbers.files_no at) e)
        where
          own : server.0 ≡ numbers.files_no → (if is_client server then Some replies.Done else reply_of (server_at work.node.servers server) delivery.tid delivery.op) ≡ Some reply → reply_of work.node.servers.files delivery.tid delivery.op ≡ Some reply
          own at = subst (λ (n : ℕ). (if numbers.is_client_no n then Some replies.Done else reply_of (server_at work.node.servers (record { 0 = n })) delivery.tid delivery.op) ≡ Some reply → reply_of work.node.servers.files delivery.tid delivery.op ≡ Some reply) (sym at) (λ x. x)

  module _ (room : (delivery : Delivery) (part : Participant) → ipc.next server work.node.queues ≡ Some delivery → tm.part_of delivery.tid work.node.manager ≡ Some part → is_kept server ≡ true → ((member_of part server).served == last_number) ≡ false)
      (noted : (delivery : Delivery) (reply : Reply) (part : Participant) (tx : TransactionValue) → ipc.next server work.node.queues ≡ Some delivery → tm.part_of delivery.tid work.node.manager ≡ Some part → find_transaction (book_at stamp before work) delivery.tid ≡ Some tx
      → reply_here server delivery.tid delivery.op work.node ≡ Some reply → (count : ℕ) → 1 ≤ count
      → has_note (served_in (record { link = record { from = delivery.from; to = work.node.setting.node }; number = delivery.number }) (at_server work.node.setting.node server) work.node.setting.inc stamp (is_done reply) tx)
      (record { node = work.node.setting.node; inc = work.node.setting.inc; text = note_text delivery.tid work.node.setting.node.0 count }) ≡ true → (has_noted count part ≡ true) ⊎ (awaits_note part ≡ true))
      (comes : (delivery : Delivery) (reply : Reply) (part : Participant) → ipc.next server work.node.queues ≡ Some delivery → tm.part_of delivery.tid work.node.manager ≡ Some part → reply_here server delivery.tid delivery.op work.node ≡ Some reply → Comes stamp before left_work server delivery reply) where
    served_next : (delivery : Delivery) → ipc.next server work.node.queues ≡ Some delivery → (part : Participant) → tm.part_of delivery.tid work.node.manager ≡ Some part → part.outcome ≡ None
        → (reply : Reply) → reply_here server delivery.tid delivery.op work.node ≡ Some reply → HoldsWork stamp before (serve server delivery reply left_work)
    served_next delivery next part known unknown reply says =
        let tx = found_of stamp before work h delivery.tid part known in
        let own = replies_by delivery reply says in
        by_serve stamp before left_work server delivery reply (comes delivery reply part next known says)
        (by_serving_filed stamp before left_work server delivery reply part tx.0 left files known tx.1 (room delivery part next known) (one_more delivery next tx.0 tx.1) (noted delivery reply part tx.0 next known tx.1 says) own.0 own.1
        (may_serve_first stamp (book_at stamp before work) work.node h.holds server delivery (waiting_ops (its_at delivery) (waiting_at left_work.node delivery.tid server)) reply part tx.0 tx.1 known unknown says (one_more delivery next tx.0 tx.1)))

    -- what waits first is served, or dropped where it is not undecided here
    pub by_next_served : HoldsWork stamp before (serve_next work server)
    by_next_served = by (ipc.next server work.node.queues) refl
      where
        replied : (delivery : Delivery) → ipc.next server work.node.queues ≡ Some delivery → (part : Participant) → tm.part_of delivery.tid work.node.manager ≡ Some part → part.outcome ≡ None
            → (o : Option Reply) → reply_here server delivery.tid delivery.op work.node ≡ o → HoldsWork stamp before (elim o [ None ↦ left_work | Some reply ↦ serve server delivery reply left_work ])
        replied delivery next part known unknown None says = left
        replied delivery next part known unknown (Some reply) says = served_next delivery next part known unknown reply says

        undecided : (delivery : Delivery) → ipc.next server work.node.queues ≡ Some delivery → (part : Participant) → tm.part_of delivery.tid work.node.manager ≡ Some part → (b : Bool) → is_undecided part ≡ b
            → HoldsWork stamp before (if b then elim (reply_here server delivery.tid delivery.op work.node) [ None ↦ left_work | Some reply ↦ serve server delivery reply left_work ] else left_work)
        undecided delivery next part known true is = replied delivery next part known (none_is part.outcome is) (reply_here server delivery.tid delivery.op work.node) refl
        undecided delivery next part known false is = left

        of_part : (delivery : Delivery) → ipc.next server work.node.queues ≡ Some delivery → (o : Option Participant) → tm.part_of delivery.tid work.node.manager ≡ o
            → HoldsWork stamp before (if (elim o [ None ↦ false | Some part ↦ is_undecided part ]) then elim (reply_here server delivery.tid delivery.op work.node) [ None ↦ left_work | Some reply ↦ serve server delivery reply left_work ] else left_work)
        of_part delivery next None known = left
        of_part delivery next (Some part) known = undecided delivery next part known (is_undecided part) refl

        by : (o : Option Delivery) → ipc.next server work.node.queues ≡ o → HoldsWork stamp before (elim o [ None ↦ work | Some delivery ↦ serve_or_drop server delivery left_work ])
        by None is = h
        by (Some delivery) is = of_part delivery is (tm.part_of delivery.tid work.node.manager) refl

-- where no note of files waits for a reply here
pub by_serve_next : (stamp : ℕ) (before : BookValue) (work : Work) (h : HoldsWork stamp before work) (files : HoldsFiles work.node.servers) (server : ServerNo)
    → ((delivery : Delivery) (part : Participant) → ipc.next server work.node.queues ≡ Some delivery → tm.part_of delivery.tid work.node.manager ≡ Some part → is_kept server ≡ true → ((member_of part server).served == last_number) ≡ false)
    → ((delivery : Delivery) (reply : Reply) (part : Participant) (tx : TransactionValue) → ipc.next server work.node.queues ≡ Some delivery → tm.part_of delivery.tid work.node.manager ≡ Some part → find_transaction (book_at stamp before work) delivery.tid ≡ Some tx
    → reply_here server delivery.tid delivery.op work.node ≡ Some reply → (count : ℕ) → 1 ≤ count
    → has_note (served_in (record { link = record { from = delivery.from; to = work.node.setting.node }; number = delivery.number }) (at_server work.node.setting.node server) work.node.setting.inc stamp (is_done reply) tx)
    (record { node = work.node.setting.node; inc = work.node.setting.inc; text = note_text delivery.tid work.node.setting.node.0 count }) ≡ true → (has_noted count part ≡ true) ⊎ (awaits_note part ≡ true))
    → ((delivery : Delivery) (part : Participant) → ipc.next server work.node.queues ≡ Some delivery → tm.part_of delivery.tid work.node.manager ≡ Some part
    → same_node delivery.from work.node.setting.node ≡ true → list_any (λ (r : Outstanding). is_answered_by (at_server work.node.setting.node server) delivery.number r && is_by_files r) part.waiting ≡ false)
    → HoldsWork stamp before (serve_next work server)
by_serve_next stamp before work h files server room noted clients =
    by_next_served stamp before work h files server room noted (λ delivery reply part next known says. client_comes stamp before (with_queues (ipc.after_next server) work) server delivery reply part known (clients delivery part next known))
