-- What a node waits for stands on through its rules: messages, requests and replies, serving, notices and decisions.
use Rattle.qs_world_runs.proofs.Words.{◌≡◌, ℕ, ◌==◌, Bool, true, false, List, [], ◌∷◌, ◌++◌, fold, Option, Some, None, refl, sym, ap, ◌∙◌, if◌then◌else◌, is_at, lookup, is_none, ClientNo, Member, NodeNo, ServerNo, Tid, same_node, Engaged, Delivery, Entry, answer_of, after_serving, is_client_no, Op, Reply, Message, Record, client_of, is_client, where_undecided, answer, enter, is_other, log_if, member_here, send, send_each, send_next, tid_of, answer_issuer, ask_on, enqueue, is_asked, issue_as}
use Rattle.qs_world_runs.proofs.Words.{issue_away, issue_here, label_of, next_local, reply_came, take_reply, waits_as, cover_from, engage, enter_serve, is_dropped, label_at, learn_label, lent_to, make_loan, put_label, reply_here, request_came, serve, serve_all, serve_next, serve_or_drop, take_in, Work, change_server, client_cmp, here, with_doings, with_kept, with_manager, with_queues, is_by_files, is_undecided, Outstanding, Participant, entry_of, Amid, IsCommanded, LeavesWaits, around}
use Rattle.qs_engage.specs.declared.engage.Engaged.TheVariants as engagements
use Rattle.qs_ipc.specs.Ipc as ipc
use Rattle.qs_ipc.specs.Queue.{is_for}
use Rattle.qs_book_journal.specs.declared.entry.Act.TheVariants as acts
use Rattle.qs_ops.specs.Servers.{files_no}
use Rattle.qs_packet.specs.declared.message.Message.TheVariants as messages
use Rattle.qs_node_step.specs.Requests as requests
use Rattle.qs_node_step.specs.Requests.{next_number}
use Rattle.qs_node_step.specs.Serving.{may_serve, met}
use Rattle.qs_node_step.specs.State.{part_of}
use Rattle.qs_tm.specs.Manager as tm
use Rattle.qs_tm.specs.Outcomes as outcome_rules
use Rattle.qs_tm.specs.Participant as participant
use Rattle.qs_world_runs.proofs.OwingEnters.{answered_amid, commanded_as, entered_amid, history_more, labelled_amid}
use Rattle.qs_world_runs.proofs.OwingIssues.{waits_issued, waits_sent}
use Rattle.qs_world_runs.proofs.OwingLeaves.{logged_left, noted_left, requested_left, served_left}
use Rattle.qs_world_runs.proofs.OwingParts.{waits_left, waits_met}
use Rattle.qs_world_runs.proofs.OwingReplies.{unawaited, waits_dropped}

module _ (before : List Entry) (stamp : ℕ) where
  abbrev pub Keeps : Work → Work → Type 0
  Keeps work new = Amid before stamp work → Amid before stamp new

  -- ---- shapes

  pub if_keeps : (b : Bool) (x y work : Work) → (b ≡ true → Keeps work x) → (b ≡ false → Keeps work y) → Keeps work (if b then x else y)
  if_keeps true x y work p q = p refl
  if_keeps false x y work p q = q refl

  pub elim_keeps : {A : Type 0} (o : Option A) (n : Work) (f : A → Work) (work : Work) → Keeps work n → ((x : A) → o ≡ Some x → Keeps work (f x)) → Keeps work (elim o [ None ↦ n | Some x ↦ f x ])
  elim_keeps None n f work p q = p
  elim_keeps (Some x) n f work p q = q x refl

  pub fold_keeps : {A : Type 0} (f : Work → A → Work) → ((w : Work) (x : A) → Keeps w (f w x)) → (xs : List A) (work : Work) → Keeps work (fold f work xs)
  fold_keeps f each [] work h = h
  fold_keeps f each (x ∷ xs) work h = fold_keeps f each xs (f work x) (each work x h)

  pub undecided_keeps : (tid : Tid) (rule : Participant → Work → Work) (work : Work) → ((part : Participant) → Keeps work (rule part work)) → Keeps work (where_undecided tid rule work)
  undecided_keeps tid rule work each = elim_keeps (part_of tid work) work (λ part. if is_undecided part then rule part work else work) work (λ h. h)
      (λ part known. if_keeps (is_undecided part) (rule part work) work work (λ is. each part) (λ is h. h))

  pub part_keeps : (tid : Tid) (f : Participant → Participant) → LeavesWaits f → (work : Work) → Keeps work (with_manager (tm.with_part tid f) work)
  part_keeps tid f leaves work = waits_left (around before stamp work) tid f work.node.manager leaves

  -- ---- messages and records

  pub send_keeps : (to : NodeNo) (message : Message) (work : Work) → Keeps work (send to message work)
  send_keeps to message work = if_keeps (is_other work.node.setting to) (record work { out = record work.out { messages = work.out.messages ++ record { to = to; message = message } ∷ [] } }) work work (λ is h. h) (λ is h. h)

  pub send_each_keeps : (nodes : List NodeNo) (message : Message) (work : Work) → Keeps work (send_each nodes message work)
  send_each_keeps nodes message work = fold_keeps (send_next message) (λ w to. send_keeps to message w) nodes work

  pub log_if_keeps : (o : Option Record) (work : Work) → Keeps work (log_if o work)
  log_if_keeps None work h = h
  log_if_keeps (Some rec) work h = waits_left (around before stamp work) (tid_of rec) (outcome_rules.logged rec) work.node.manager (logged_left rec) h

  -- ---- requests

  pub enqueue_keeps : (server : ServerNo) (delivery : Delivery) (work : Work) → Keeps work (enqueue server delivery work)
  enqueue_keeps server delivery work = if_keeps (is_for server delivery.op) (with_queues (ipc.enqueue server delivery) work) work work (λ is h. h) (λ is h. h)

  ask_on_keeps : (b : Bool) (tid : Tid) (to : NodeNo) (work : Work) → Keeps work (ask_on b tid to work)
  ask_on_keeps false tid to work h = h
  ask_on_keeps true tid to work h = send_keeps to (messages.AskVote tid) work h

  -- files issue it, or a client whose command waits for it
  abbrev pub MayIssue : Tid → Outstanding → Work → Type 0
  MayIssue tid request work = (request.issuer.0 == files_no) ≡ false → IsCommanded (around before stamp work) tid request × (is_client_no request.issuer.0 ≡ true)

  module _ (tid : Tid) (request : Outstanding) (op : Op) (work : Work) (may : MayIssue tid request work) (h : Amid before stamp work) where
    abbrev entered : Work
    entered = enter (acts.Issue tid (member_here work request.issuer) request.member request.number op) work

    amid : Amid before stamp entered
    amid = entered_amid before stamp (acts.Issue tid (member_here work request.issuer) request.member request.number op) work (record { counts = λ t peer number. refl; answers = λ server. refl }) h

    may_now : (request.issuer.0 == files_no) ≡ false → IsCommanded (around before stamp entered) tid request × (is_client_no request.issuer.0 ≡ true)
    may_now other = (commanded_as (around before stamp work) (around before stamp entered) tid request (λ command there. there) (λ label begun found. found) (λ kept. kept) (may other).0, (may other).1)

    its_history : (around before stamp entered).history ≡ (around before stamp work).history ++ entry_of work.node.setting.node.0 stamp (acts.Issue tid (member_here work request.issuer) request.member request.number op) ∷ []
    its_history = history_more before work.node.setting.node.0 stamp work.out.entries (acts.Issue tid (member_here work request.issuer) request.member request.number op)

    here_issued : Amid before stamp (issue_here tid request op work)
    here_issued = enqueue_keeps request.member.server (record { tid = tid; from = here work; number = request.number; op = op; stale = false }) (requests.with_local tid request.number (requests.enter_issue tid request op work))
        (waits_issued (around before stamp entered) (around before stamp work).history (entry_of work.node.setting.node.0 stamp (acts.Issue tid (member_here work request.issuer) request.member request.number op)) refl its_history tid request (member_here work request.issuer) refl op refl may_now work.node.manager amid)

    away_issued : tm.sent_as tid request.member.node work.node.manager ≡ Some request.number → Amid before stamp (issue_away tid request op work)
    away_issued next = ask_on_keeps (is_asked tid work) tid request.member.node (send request.member.node (messages.Request tid (label_of tid work.node) request.member request.number request.issuer op) made)
        (send_keeps request.member.node (messages.Request tid (label_of tid work.node) request.member request.number request.issuer op) made
        (waits_sent (around before stamp entered) (around before stamp work).history (entry_of work.node.setting.node.0 stamp (acts.Issue tid (member_here work request.issuer) request.member request.number op)) refl its_history tid request (member_here work request.issuer) refl op refl may_now work.node.manager next amid))
      where
        made : Work
        made = with_manager (tm.sent tid request.member.node) (requests.enter_issue tid request op work)

  pub issue_as_keeps : (tid : Tid) (request : Outstanding) (op : Op) (work : Work) → next_number tid request.member.node work ≡ Some request.number → MayIssue tid request work → Keeps work (issue_as tid request op work)
  issue_as_keeps tid request op work next may = if_keeps (same_node request.member.node (here work)) (issue_here tid request op work) (issue_away tid request op work) work (λ near h. here_issued tid request op work may h)
      (λ away h. away_issued tid request op work may h (sym (ap (λ (b : Bool). if b then next_local tid work.node else tm.sent_as tid request.member.node work.node.manager) away) ∙ next))

  -- ---- replies

  take_reply_keeps : (tid : Tid) (member : Member) (number : ℕ) (reply : Reply) (request : Outstanding) (work : Work) → requests.waiting_at tid member number work ≡ Some request → Keeps work (take_reply tid reply request (with_manager (tm.drop_waiting tid member number) work))
  take_reply_keeps tid member number reply request work waits h = if_keeps (is_by_files request) (with_manager (tm.note_served tid request.count) dropped) (answer_issuer tid request.member request.number reply (client_of request.issuer) dropped) dropped
      (λ is. part_keeps tid (participant.note_served request.count) (noted_left request.count) dropped)
      (λ is. if_keeps (waits_as tid request.member request.number (lookup (is_at (client_cmp (client_of request.issuer))) work.node.commands)) (answer (client_of request.issuer) (answer_of reply) dropped) dropped dropped
      (λ hand. answered_amid before stamp (client_of request.issuer) (answer_of reply) dropped (unawaited (around before stamp work) work.node.manager tid member number request waits hand)) (λ hand k. k))
      (waits_dropped (around before stamp work) tid member number work.node.manager h)
    where
      dropped : Work
      dropped = with_manager (tm.drop_waiting tid member number) work

  pub reply_keeps : (tid : Tid) (member : Member) (number : ℕ) (reply : Reply) (work : Work) → Keeps work (reply_came tid member number reply work)
  reply_keeps tid member number reply work = elim_keeps (requests.waiting_at tid member number work) work (λ request. take_reply tid reply request (with_manager (tm.drop_waiting tid member number) work)) work (λ h. h)
      (λ request is. take_reply_keeps tid member number reply request work is)

  -- ---- requests that come, and serving

  cover_keeps : (e : Engaged) (tid : Tid) (peer : NodeNo) (number : ℕ) (work : Work) → Keeps work (cover_from e tid peer number work)
  cover_keeps engagements.Superior tid peer number work h = h
  cover_keeps engagements.Elsewhere tid peer number work h = send_keeps peer (messages.Covered tid number) work h

  take_in_keeps : (b : Bool) (member : Member) (delivery : Delivery) (work : Work) → Keeps work (take_in b member delivery work)
  take_in_keeps true member delivery work h = h
  take_in_keeps false member delivery work h = enqueue_keeps member.server delivery work h

  pub request_keeps : (peer : NodeNo) (tid : Tid) (label : List ℕ) (member : Member) (number : ℕ) (op : Op) (work : Work) → Keeps work (request_came peer tid label member number op work)
  request_keeps peer tid label member number op work h =
      take_in_keeps (is_dropped (same_node tid.home (here work)) (part_of tid work)) member (record { tid = tid; from = peer; number = number; op = op; stale = false }) (engage tid peer number (learn_label label tid work))
      (cover_keeps (tm.engaged_at tid peer (met tid (learn_label label tid work)).node.manager) tid peer number (with_manager (tm.requested tid peer number) (met tid (learn_label label tid work)))
      (part_keeps tid (participant.requested peer number) (requested_left peer number) (met tid (learn_label label tid work)) (met_keeps (learn_label label tid work) (noted h))))
    where
      met_keeps : (w : Work) → Keeps w (met tid w)
      met_keeps w = if_keeps (same_node tid.home (here w)) w (with_manager (tm.meet tid) w) w (λ is h. h) (λ is h. waits_met (around before stamp w) tid w.node.manager h)

      noted : Keeps work (learn_label label tid work)
      noted = if_keeps (is_none (label_at label work.node)) (put_label (record { label = label; tid = Some tid; owner = None }) work) work work (λ is. labelled_amid before stamp (record { label = label; tid = Some tid; owner = None }) work) (λ is h. h)

  loan_keeps : (tid : Tid) (o : Option ClientNo) (work : Work) → Keeps work (make_loan tid o work)
  loan_keeps tid None work h = h
  loan_keeps tid (Some client) work h = entered_amid before stamp (acts.Loan tid client)
      (with_kept (λ kept. record kept { loans = kept.loans ++ record { tid = tid; client = client; inc = work.node.setting.inc; taken = false; yielded = false } ∷ [] }) work) (record { counts = λ t peer number. refl; answers = λ server. refl }) h

  enter_serve_keeps : (server : ServerNo) (delivery : Delivery) (reply : Reply) (work : Work) → Keeps work (enter_serve server delivery reply work)
  enter_serve_keeps server delivery reply work h = by (is_client server)
    where
      of : Work → Work
      of w = with_manager (tm.served delivery.tid server) (with_doings delivery.tid (λ doings. record doings { served = true }) w)

      by : (b : Bool) → Amid before stamp (enter (acts.Serve delivery.tid (member_here work server) delivery.from delivery.number reply) (of (if b then work else change_server server (λ value. after_serving value delivery.tid delivery.op reply) work)))
      by true = entered_amid before stamp (acts.Serve delivery.tid (member_here work server) delivery.from delivery.number reply) (of work) (record { counts = λ t peer number. refl; answers = λ s. refl })
          (part_keeps delivery.tid (participant.served server) (served_left server) work h)
      by false = entered_amid before stamp (acts.Serve delivery.tid (member_here work server) delivery.from delivery.number reply) (of (change_server server (λ value. after_serving value delivery.tid delivery.op reply) work))
          (record { counts = λ t peer number. refl; answers = λ s. refl }) (part_keeps delivery.tid (participant.served server) (served_left server) (change_server server (λ value. after_serving value delivery.tid delivery.op reply) work) h)

  serve_keeps : (server : ServerNo) (delivery : Delivery) (reply : Reply) (work : Work) → Keeps work (serve server delivery reply work)
  serve_keeps server delivery reply work h = given (loan_keeps delivery.tid (lent_to delivery.op) (enter_serve server delivery reply work) (enter_serve_keeps server delivery reply work h))
    where
      lends : Work
      lends = make_loan delivery.tid (lent_to delivery.op) (enter_serve server delivery reply work)

      given : Keeps lends (serve server delivery reply work)
      given = if_keeps (same_node delivery.from (here lends)) (reply_came delivery.tid (member_here work server) delivery.number reply lends) (if delivery.stale then lends else send delivery.from (messages.Answered delivery.tid (member_here work server) delivery.number reply) lends) lends
          (λ is. reply_keeps delivery.tid (member_here work server) delivery.number reply lends)
          (λ is. if_keeps delivery.stale lends (send delivery.from (messages.Answered delivery.tid (member_here work server) delivery.number reply) lends) lends (λ s k. k) (λ s. send_keeps delivery.from (messages.Answered delivery.tid (member_here work server) delivery.number reply) lends))

  pub serve_next_keeps : (work : Work) (server : ServerNo) → Keeps work (serve_next work server)
  serve_next_keeps work server = elim_keeps (ipc.next server work.node.queues) work (λ delivery. serve_or_drop server delivery left) work (λ h. h)
      (λ delivery is. if_keeps (may_serve delivery.tid left) (elim (reply_here server delivery.tid delivery.op left.node) [ None ↦ left | Some reply ↦ serve server delivery reply left ]) left work
      (λ may. elim_keeps (reply_here server delivery.tid delivery.op left.node) left (λ reply. serve server delivery reply left) work (λ h. h) (λ reply says h. serve_keeps server delivery reply left h)) (λ may h. h))
    where
      left : Work
      left = with_queues (ipc.after_next server) work

  pub serve_all_keeps : (work : Work) → Keeps work (serve_all work)
  serve_all_keeps work = fold_keeps serve_next serve_next_keeps (ipc.turns work.node.queues) work
