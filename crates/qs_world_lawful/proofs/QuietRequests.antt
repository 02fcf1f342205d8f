-- Requests that are issued, come, wait and are served, and replies: none of these rules makes a record.
use Rattle.qs_world_lawful.proofs.Words.{◌≡◌, ℕ, ◌==◌, Bool, true, false, List, [], ◌∷◌, ◌++◌, Option, Some, None, refl, sym, ap, subst, ◌+◌, if◌then◌else◌, ◌||◌, is_none, lookup, is_at, ClientNo, Member, NodeNo, ServerNo, Tid, same_node, Engaged, is_client, Delivery, Op, Reply, KeptLabel, is_told_class, class_here, member_of, Outstanding, Participant, last_number, enter, send, member_here, enqueue, enter_issue, with_local, issue_here, ask_on, issue_away, issue_as, next_number, is_asked, label_of}
use Rattle.qs_world_lawful.proofs.Words.{answer_issuer, waits_as, take_reply, reply_came, label_at, put_label, learn_label, met, cover_from, engage, take_in, is_dropped, request_came, reply_here, enter_serve, lent_to, make_loan, serve_or_drop, serve_next, Work, with_manager, with_queues, with_kept, with_doings, here, client_cmp, or_left}
use Rattle.qs_engage.specs.declared.engage.Engaged.TheVariants as engagements
use Rattle.qs_ipc.specs.Ipc as ipc
use Rattle.qs_ipc.specs.Queue.{is_for}
use Rattle.qs_book_journal.specs.declared.entry.Act.TheVariants as acts
use Rattle.qs_packet.specs.declared.message.Message.TheVariants as messages
use Rattle.qs_tm.specs.Manager as tm
use Rattle.qs_tm.specs.Participant as participant
use Rattle.qs_tm.specs.Participant.{is_by_files}
use Rattle.qs_node_step.specs.Requests.{issue, waiting_at}
use Rattle.qs_node_step.specs.Serving.{change_served, give_reply, may_serve, serve, serve_all}
use Rattle.qs_node_step.specs.State.{part_of}
use Rattle.qs_world_lawful.proofs.Marks.{SameMarks, KnowsOn, knows_self}
use Rattle.qs_world_lawful.proofs.Recordless.{Quiet, quiet_of, quiet_self, quiet_then, quiet_if, quiet_elim, quiet_fold, quiet_enter, quiet_part, quiet_send, quiet_answer, quiet_meet}

-- what changes neither what it did nor its transactions
pub quiet_node : (work new : Work) → new.out ≡ work.out → new.node.setting ≡ work.node.setting → new.node.manager ≡ work.node.manager → Quiet work new
quiet_node work new out setting manager = quiet_of work new (ap (λ o. o.entries) out) (ap (λ o. o.records) out) (ap (λ o. o.force) out) setting (subst (λ m. KnowsOn work.node.manager m) (sym manager) (knows_self work.node.manager))

-- ---- issuing

quiet_enqueue : (server : ServerNo) (delivery : Delivery) (work : Work) → Quiet work (enqueue server delivery work)
quiet_enqueue server delivery work = quiet_if (is_for server delivery.op) work (with_queues (ipc.enqueue server delivery) work) work (quiet_node work (with_queues (ipc.enqueue server delivery) work) refl refl refl) (quiet_self work)

quiet_entered : (tid : Tid) (request : Outstanding) (op : Op) (work : Work) → Quiet work (enter_issue tid request op work)
quiet_entered tid request op work =
    let entered : Work = enter (acts.Issue tid (member_here work request.issuer) request.member request.number op) work in
    quiet_then work entered (enter_issue tid request op work) (quiet_enter _ work refl)
    (quiet_part tid (participant.issued request) entered (λ part. record { log = refl; outcome = refl; involved = λ is. is }))

quiet_here : (tid : Tid) (request : Outstanding) (op : Op) (work : Work) → Quiet work (issue_here tid request op work)
quiet_here tid request op work =
    let entered : Work = enter_issue tid request op work in
    let local : Work = with_local tid request.number entered in
    quiet_then work entered (issue_here tid request op work) (quiet_entered tid request op work)
    (quiet_then entered local (issue_here tid request op work) (quiet_node entered local refl refl refl)
    (quiet_enqueue request.member.server (record { tid = tid; from = here work; number = request.number; op = op; stale = false }) local))

quiet_ask_on : (b : Bool) (tid : Tid) (to : NodeNo) (work : Work) → Quiet work (ask_on b tid to work)
quiet_ask_on false tid to work = quiet_self work
quiet_ask_on true tid to work = quiet_send to (messages.AskVote tid) work

quiet_away : (tid : Tid) (request : Outstanding) (op : Op) (work : Work) → Quiet work (issue_away tid request op work)
quiet_away tid request op work =
    let entered : Work = enter_issue tid request op work in
    let sent : Work = with_manager (tm.sent tid request.member.node) entered in
    let message = messages.Request tid (label_of tid work.node) request.member request.number request.issuer op in
    quiet_then work entered (issue_away tid request op work) (quiet_entered tid request op work)
    (quiet_then entered sent (issue_away tid request op work) (quiet_part tid (participant.sent request.member.node) entered (λ part. record { log = refl; outcome = refl; involved = λ is. refl }))
    (quiet_then sent (send request.member.node message sent) (issue_away tid request op work) (quiet_send request.member.node message sent)
    (quiet_ask_on (is_asked tid work) tid request.member.node (send request.member.node message sent))))

pub quiet_issue_as : (tid : Tid) (request : Outstanding) (op : Op) (work : Work) → Quiet work (issue_as tid request op work)
quiet_issue_as tid request op work = quiet_if (same_node request.member.node (here work)) work _ _ (quiet_here tid request op work) (quiet_away tid request op work)

pub quiet_issue : (tid : Tid) (issuer : ServerNo) (member : Member) (op : Op) (count : ℕ) (work : Work) → Quiet work (issue tid issuer member op count work)
quiet_issue tid issuer member op count work = quiet_elim (next_number tid member.node work) work work _ (quiet_self work) (λ number. quiet_issue_as tid (record { issuer = issuer; member = member; number = number; count = count }) op work)

-- ---- replies

quiet_issuer : (tid : Tid) (member : Member) (number : ℕ) (reply : Reply) (client : ClientNo) (work : Work) → Quiet work (answer_issuer tid member number reply client work)
quiet_issuer tid member number reply client work = quiet_if (waits_as tid member number (lookup (is_at (client_cmp client)) work.node.commands)) work _ work (quiet_answer client _ work) (quiet_self work)

quiet_take : (tid : Tid) (reply : Reply) (request : Outstanding) (work : Work) → Quiet work (take_reply tid reply request work)
quiet_take tid reply request work = quiet_if (is_by_files request) work _ _
    (quiet_part tid (participant.note_served request.count) work (λ part. record { log = refl; outcome = refl; involved = λ is. is }))
    (quiet_issuer tid request.member request.number reply _ work)

pub quiet_reply : (tid : Tid) (member : Member) (number : ℕ) (reply : Reply) (work : Work) → Quiet work (reply_came tid member number reply work)
quiet_reply tid member number reply work =
    let dropped : Work = with_manager (tm.drop_waiting tid member number) work in
    quiet_elim (waiting_at tid member number work) work work _ (quiet_self work)
    (λ request. quiet_then work dropped (take_reply tid reply request dropped) (quiet_part tid (participant.drop_waiting member number) work (λ part. record { log = refl; outcome = refl; involved = λ is. is })) (quiet_take tid reply request dropped))

-- ---- a request comes

pub quiet_label : (b : KeptLabel) (work : Work) → Quiet work (put_label b work)
quiet_label b work = quiet_node work (put_label b work) refl refl refl

quiet_learn_label : (label : List ℕ) (tid : Tid) (work : Work) → Quiet work (learn_label label tid work)
quiet_learn_label label tid work = quiet_if (is_none (label_at label work.node)) work _ work (quiet_label _ work) (quiet_self work)

quiet_met : (tid : Tid) (work : Work) → Quiet work (met tid work)
quiet_met tid work = quiet_if (same_node tid.home (here work)) work work _ (quiet_self work) (quiet_meet tid work)

quiet_cover : (engaged : Engaged) (tid : Tid) (peer : NodeNo) (number : ℕ) (work : Work) → Quiet work (cover_from engaged tid peer number work)
quiet_cover engagements.Superior tid peer number work = quiet_self work
quiet_cover engagements.Elsewhere tid peer number work = quiet_send peer (messages.Covered tid number) work

quiet_engage : (tid : Tid) (peer : NodeNo) (number : ℕ) (work : Work) → Quiet work (engage tid peer number work)
quiet_engage tid peer number work =
    let known : Work = met tid work in
    let requested : Work = with_manager (tm.requested tid peer number) known in
    quiet_then work known (engage tid peer number work) (quiet_met tid work)
    (quiet_then known requested (engage tid peer number work) (quiet_part tid (participant.requested peer number) known (λ part. record { log = refl; outcome = refl; involved = λ is. is }))
    (quiet_cover (tm.engaged_at tid peer known.node.manager) tid peer number requested))

quiet_take_in : (b : Bool) (member : Member) (delivery : Delivery) (work : Work) → Quiet work (take_in b member delivery work)
quiet_take_in true member delivery work = quiet_self work
quiet_take_in false member delivery work = quiet_enqueue member.server delivery work

pub quiet_request : (peer : NodeNo) (tid : Tid) (label : List ℕ) (member : Member) (number : ℕ) (op : Op) (work : Work) → Quiet work (request_came peer tid label member number op work)
quiet_request peer tid label member number op work =
    let learnt : Work = learn_label label tid work in
    let engaged : Work = engage tid peer number learnt in
    quiet_then work learnt (request_came peer tid label member number op work) (quiet_learn_label label tid work)
    (quiet_then learnt engaged (request_came peer tid label member number op work) (quiet_engage tid peer number learnt)
    (quiet_take_in (is_dropped (same_node tid.home (here work)) (part_of tid work)) member (record { tid = tid; from = peer; number = number; op = op; stale = false }) engaged))

-- ---- serving

served_marks : (server : ServerNo) (part : Participant) → SameMarks part (participant.served server part)
served_marks server part = by ((member_of part server).served == last_number)
  where
    by : (b : Bool) → SameMarks part (if b then part
        else record (participant.with_member server (record (member_of part server) { served = (member_of part server).served + 1; fresh = true }) part) {
          involved = part.involved || is_told_class (class_here server);
        })
    by true = record { log = refl; outcome = refl; involved = λ is. is }
    by false = record { log = refl; outcome = refl; involved = or_left part.involved (is_told_class (class_here server)) }

quiet_changed : (server : ServerNo) (tid : Tid) (op : Op) (reply : Reply) (work : Work) → Quiet work (change_served server tid op reply work)
quiet_changed server tid op reply work = quiet_if (is_client server) work work _ (quiet_self work) (quiet_node work _ refl refl refl)

quiet_entered_serve : (server : ServerNo) (delivery : Delivery) (reply : Reply) (work : Work) → Quiet work (enter_serve server delivery reply work)
quiet_entered_serve server delivery reply work =
    let changed : Work = change_served server delivery.tid delivery.op reply work in
    let noted : Work = with_doings delivery.tid (λ doings. record doings { served = true }) changed in
    let counted : Work = with_manager (tm.served delivery.tid server) noted in
    quiet_then work changed (enter_serve server delivery reply work) (quiet_changed server delivery.tid delivery.op reply work)
    (quiet_then changed noted (enter_serve server delivery reply work) (quiet_node changed noted refl refl refl)
    (quiet_then noted counted (enter_serve server delivery reply work) (quiet_part delivery.tid (participant.served server) noted (served_marks server))
    (quiet_enter (acts.Serve delivery.tid (member_here work server) delivery.from delivery.number reply) counted refl)))

quiet_loan : (tid : Tid) (o : Option ClientNo) (work : Work) → Quiet work (make_loan tid o work)
quiet_loan tid None work = quiet_self work
quiet_loan tid (Some client) work =
    let lent : Work = with_kept (λ kept. record kept {
      loans = kept.loans ++ record { tid = tid; client = client; inc = work.node.setting.inc; taken = false; yielded = false } ∷ [];
    }) work in
    quiet_then work lent (make_loan tid (Some client) work) (quiet_node work lent refl refl refl) (quiet_enter (acts.Loan tid client) lent refl)

quiet_given : (member : Member) (delivery : Delivery) (reply : Reply) (work : Work) → Quiet work (give_reply member delivery reply work)
quiet_given member delivery reply work =
    quiet_if (same_node delivery.from (here work)) work _ _ (quiet_reply delivery.tid member delivery.number reply work)
    (quiet_if delivery.stale work work _ (quiet_self work) (quiet_send delivery.from (messages.Answered delivery.tid member delivery.number reply) work))

quiet_serve : (server : ServerNo) (delivery : Delivery) (reply : Reply) (work : Work) → Quiet work (serve server delivery reply work)
quiet_serve server delivery reply work =
    let entered : Work = enter_serve server delivery reply work in
    let lent : Work = make_loan delivery.tid (lent_to delivery.op) entered in
    quiet_then work entered (serve server delivery reply work) (quiet_entered_serve server delivery reply work)
    (quiet_then entered lent (serve server delivery reply work) (quiet_loan delivery.tid (lent_to delivery.op) entered)
    (quiet_given (member_here work server) delivery reply lent))

quiet_serve_or_drop : (server : ServerNo) (delivery : Delivery) (work : Work) → Quiet work (serve_or_drop server delivery work)
quiet_serve_or_drop server delivery work =
    quiet_if (may_serve delivery.tid work) work _ work
    (quiet_elim (reply_here server delivery.tid delivery.op work.node) work work _ (quiet_self work) (λ reply. quiet_serve server delivery reply work)) (quiet_self work)

quiet_serve_next : (work : Work) (server : ServerNo) → Quiet work (serve_next work server)
quiet_serve_next work server =
    let left : Work = with_queues (ipc.after_next server) work in
    quiet_elim (ipc.next server work.node.queues) work work _ (quiet_self work)
    (λ delivery. quiet_then work left (serve_or_drop server delivery left) (quiet_node work left refl refl refl) (quiet_serve_or_drop server delivery left))

pub quiet_serve_all : (work : Work) → Quiet work (serve_all work)
quiet_serve_all work = quiet_fold serve_next quiet_serve_next (ipc.turns work.node.queues) work
