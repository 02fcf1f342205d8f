-- A request that is served leaves every other transaction, and each server of its kind; of its own it changes no outcome.
use Rattle.qs_world_refine.proofs.Words.{◌≡◌, ℕ, ◌==◌, ◌&&◌, not, Bool, true, false, List, [], ◌∷◌, ◌++◌, length, drop, Option, Some, None, refl, ap, ◌∙◌, if◌then◌else◌, filter, lookup, is_at, filter-append, same_tid, ClientNo, Member, ServerNo, Tid, same_node, IpcValue, queue_at, first_of, Delivery, is_standing_loan, Lent, answer_of, after_serving, Reply, is_client, client_of, member_of, with_member, is_undecided, is_by_files, Outstanding, member_here, enter, send, answer, reply_came, take_reply}
use Rattle.qs_world_refine.proofs.Words.{answer_issuer, waits_as, reply_here, enter_serve, lent_to, make_loan, give_reply, serve, serve_or_drop, serve_next, Work, here, with_manager, with_queues, with_doings, change_server, client_cmp, same_Some}
use Rattle.qs_ipc.specs.Ipc as ipc
use Rattle.qs_book_journal.specs.declared.entry.Act.TheVariants as acts
use Rattle.qs_packet.specs.declared.message.Message.TheVariants as messages
use Rattle.qs_tm.specs.Manager as tm
use Rattle.qs_tm.specs.Participant as participant
use Rattle.qs_node_step.specs.Requests.{waiting_at}
use Rattle.qs_node_step.specs.Serving.{may_serve}
use Rattle.qs_world_refine.proofs.BorrowerStands.{answer_kinds}
use Rattle.qs_world_refine.proofs.During.{Leaves, leaves_itself, leaves_on, send_leaves}
use Rattle.qs_world_refine.proofs.Frames.{out_leaves, part_apart}
use Rattle.qs_world_refine.proofs.KindsKept.{KeepsKinds, change_kinds, send_kinds}
use Rattle.qs_world_refine.proofs.LogFrames.{Apart}
use Rattle.qs_world_refine.proofs.OthersCame.{reply_leaves}
use Rattle.qs_world_refine.proofs.Queues.{waits_next_other}
use Rattle.qs_world_refine.proofs.Sending.{append_nil}
use Rattle.qs_world_refine.proofs.ServerKinds.{serving_kind}

-- ---- what waits first

pub first_is : (waiting : List Delivery) (d : Delivery) → first_of waiting ≡ Some d → waiting ≡ d ∷ drop 1 waiting
first_is [] d is = absurd (cc is)
first_is (e ∷ rest) d is = ap (λ (x : Delivery). x ∷ rest) (same_Some e d is)

-- ---- every other transaction

module _ (t : Tid) (server : ServerNo) (d : Delivery) (apart : Apart t d.tid) where
  entered_leaves : (reply : Reply) (work : Work) → Leaves t work (enter_serve server d reply work)
  entered_leaves reply work = by (is_client server)
    where
      by : (b : Bool) → Leaves t work (enter (acts.Serve d.tid (member_here work server) d.from d.number reply)
          (with_manager (tm.served d.tid server) (with_doings d.tid (λ doings. record doings { served = true }) (if b then work else change_server server (λ value. after_serving value d.tid d.op reply) work))))
      by true = out_leaves t work _ (record { around = record { setting = refl; waits = λ s. refl; loans = refl; past = refl }; part = part_apart t d.tid (participant.served server) work.node.manager apart }) refl refl
      by false = out_leaves t work _ (record { around = record { setting = refl; waits = λ s. refl; loans = refl; past = refl }; part = part_apart t d.tid (participant.served server) work.node.manager apart }) refl refl

  loan_leaves : (o : Option ClientNo) (work : Work) → Leaves t work (make_loan d.tid o work)
  loan_leaves None work = leaves_itself t work
  loan_leaves (Some client) work = out_leaves t work (make_loan d.tid (Some client) work) (record { around = record { setting = refl; waits = λ s. refl; loans = ap length stands; past = refl }; part = refl }) refl refl
    where
      loan : Lent
      loan = record { tid = d.tid; client = client; inc = work.node.setting.inc; taken = false; yielded = false }

      none : (a : Bool) → a ≡ false → (b : Bool) → (if a && b then loan ∷ [] else []) ≡ []
      none a is b = rw is refl

      stands : filter (is_standing_loan t work.node.setting.inc) (work.node.kept.now.loans ++ loan ∷ []) ≡ filter (is_standing_loan t work.node.setting.inc) work.node.kept.now.loans
      stands = filter-append (is_standing_loan t work.node.setting.inc) work.node.kept.now.loans (loan ∷ [])
          ∙ (ap (λ (l : List Lent). filter (is_standing_loan t work.node.setting.inc) work.node.kept.now.loans ++ l) (none (same_tid t d.tid) apart (not loan.yielded && (loan.inc == work.node.setting.inc)))
          ∙ append_nil (filter (is_standing_loan t work.node.setting.inc) work.node.kept.now.loans))

  replied_leaves : (member : Member) (reply : Reply) (work : Work) → Leaves t work (give_reply member d reply work)
  replied_leaves member reply work = by (same_node d.from (here work)) d.stale
    where
      by : (a b : Bool) → Leaves t work (if a then reply_came d.tid member d.number reply work else if b then work else send d.from (messages.Answered d.tid member d.number reply) work)
      by true b = reply_leaves t d.tid apart member d.number reply work
      by false true = leaves_itself t work
      by false false = send_leaves t d.from (messages.Answered d.tid member d.number reply) work refl

  serve_leaves : (reply : Reply) (work : Work) → Leaves t work (serve server d reply work)
  serve_leaves reply work =
      leaves_on t work entered (serve server d reply work) (entered_leaves reply work)
      (leaves_on t entered lent (serve server d reply work) (loan_leaves (lent_to d.op) entered) (replied_leaves (member_here work server) reply lent))
    where
      entered : Work
      entered = enter_serve server d reply work

      lent : Work
      lent = make_loan d.tid (lent_to d.op) entered

  dropped_leaves : (work : Work) → Leaves t work (serve_or_drop server d work)
  dropped_leaves work = by (may_serve d.tid work) (reply_here server d.tid d.op work.node)
    where
      by : (b : Bool) (o : Option Reply) → Leaves t work (if b then elim o [ None ↦ work | Some reply ↦ serve server d reply work ] else work)
      by true None = leaves_itself t work
      by true (Some reply) = serve_leaves reply work
      by false o = leaves_itself t work

  pub next_leaves : (work : Work) → ipc.next server work.node.queues ≡ Some d → Leaves t work (serve_or_drop server d (with_queues (ipc.after_next server) work))
  next_leaves work next = leaves_on t work left (serve_or_drop server d left)
      (out_leaves t work left (record {
        around = record { setting = refl; waits = λ r. waits_next_other t server.0 r d (drop 1 (queue_at work.node.queues server).waiting) work.node.queues (first_is (queue_at work.node.queues server).waiting d next) apart; loans = refl; past = refl };
        part = refl;
      }) refl refl)
      (dropped_leaves left)
    where
      left : Work
      left = with_queues (ipc.after_next server) work

-- ---- kinds

pub reply_kinds : (tid : Tid) (member : Member) (number : ℕ) (reply : Reply) (work : Work) → KeepsKinds work (reply_came tid member number reply work)
reply_kinds tid member number reply work = by (waiting_at tid member number work)
  where
    dropped : Work
    dropped = with_manager (tm.drop_waiting tid member number) work

    answered : (request : Outstanding) (b : Bool) → KeepsKinds dropped (if b then answer (client_of request.issuer) (answer_of reply) dropped else dropped)
    answered request true has = answer_kinds (client_of request.issuer) (answer_of reply) dropped has
    answered request false has = has

    taken : (request : Outstanding) (b : Bool) → KeepsKinds dropped (if b then with_manager (tm.note_served tid request.count) dropped else answer_issuer tid request.member request.number reply (client_of request.issuer) dropped)
    taken request true has = has
    taken request false has = answered request (waits_as tid request.member request.number (lookup (is_at (client_cmp (client_of request.issuer))) dropped.node.commands)) has

    by : (o : Option Outstanding) → KeepsKinds work (elim o [ None ↦ work | Some request ↦ take_reply tid reply request dropped ])
    by None has = has
    by (Some request) has = taken request (is_by_files request) has

module _ (server : ServerNo) (d : Delivery) where
  entered_kinds : (reply : Reply) (work : Work) → KeepsKinds work (enter_serve server d reply work)
  entered_kinds reply work = by (is_client server)
    where
      by : (b : Bool) → KeepsKinds work (if b then work else change_server server (λ value. after_serving value d.tid d.op reply) work)
      by true has = has
      by false has = change_kinds server (λ value. after_serving value d.tid d.op reply) (λ value. serving_kind value d.tid d.op reply) work has

  loan_kinds : (o : Option ClientNo) (work : Work) → KeepsKinds work (make_loan d.tid o work)
  loan_kinds None work has = has
  loan_kinds (Some client) work has = has

  replied_kinds : (member : Member) (reply : Reply) (work : Work) → KeepsKinds work (give_reply member d reply work)
  replied_kinds member reply work = by (same_node d.from (here work)) d.stale
    where
      by : (a b : Bool) → KeepsKinds work (if a then reply_came d.tid member d.number reply work else if b then work else send d.from (messages.Answered d.tid member d.number reply) work)
      by true b has = reply_kinds d.tid member d.number reply work has
      by false true has = has
      by false false has = send_kinds d.from (messages.Answered d.tid member d.number reply) work has

  dropped_kinds : (work : Work) → KeepsKinds work (serve_or_drop server d work)
  dropped_kinds work = by (may_serve d.tid work) (reply_here server d.tid d.op work.node)
    where
      by : (b : Bool) (o : Option Reply) → KeepsKinds work (if b then elim o [ None ↦ work | Some reply ↦ serve server d reply work ] else work)
      by true None has = has
      by true (Some reply) has = replied_kinds (member_here work server) reply (make_loan d.tid (lent_to d.op) (enter_serve server d reply work)) (loan_kinds (lent_to d.op) (enter_serve server d reply work) (entered_kinds reply work has))
      by false o has = has

pub next_kinds : (work : Work) (server : ServerNo) → KeepsKinds work (serve_next work server)
next_kinds work server = by (ipc.next server work.node.queues)
  where
    by : (o : Option Delivery) → KeepsKinds work (elim o [ None ↦ work | Some d ↦ serve_or_drop server d (with_queues (ipc.after_next server) work) ])
    by None has = has
    by (Some d) has = dropped_kinds server d (with_queues (ipc.after_next server) work) has
