-- Requests, replies, engagement and serving are the same where the node knows of other Commits.
use Rattle.std.proofs.Common.{◌∙◌, ℕ, Bool, true, false, List, refl, ap, Option, Some, None}
use Rattle.std.specs.Prelude.{is_none, if◌then◌else◌}
use Rattle.std.specs.Map.{lookup}
use Rattle.std.specs.BTreeMap.{is_at}
use Rattle.qs_base.specs.declared.identifiers.NodeNo.{NodeNo}
use Rattle.qs_base.specs.declared.identifiers.Tid.{Tid}
use Rattle.qs_base.specs.declared.identifiers.ClientNo.{ClientNo}
use Rattle.qs_base.specs.declared.identifiers.Member.{Member}
use Rattle.qs_base.specs.declared.identifiers.ServerNo.{ServerNo}
use Rattle.qs_ops.specs.Server.{after_serving}
use Rattle.qs_ops.specs.Operations.{answer_of}
use Rattle.qs_ops.specs.declared.operation.Op.{Op}
use Rattle.qs_ops.specs.declared.reply.Reply.{Reply}
use Rattle.qs_packet.specs.declared.message.Message.{Message}
use Rattle.qs_packet.specs.declared.message.Message.TheVariants as messages
use Rattle.qs_book_journal.specs.declared.entry.Act.TheVariants as acts
use Rattle.qs_engage.specs.Nodes.{same_node}
use Rattle.qs_engage.specs.declared.engage.Engaged.{Engaged}
use Rattle.qs_engage.specs.declared.engage.Engaged.TheVariants as engagements
use Rattle.qs_ipc.specs.Queue.{is_for}
use Rattle.qs_ipc.specs.Ipc as ipc
use Rattle.qs_ipc.specs.declared.delivery.Delivery.{Delivery}
use Rattle.qs_tm.specs.Participant.{is_by_files}
use Rattle.qs_tm.specs.Manager as tm
use Rattle.qs_tm.specs.declared.participant.Outstanding.{Outstanding}
use Rattle.qs_node_servers.specs.Servers.{client_of, is_client}
use Rattle.qs_node_step.specs.State.{Work, here, part_of, with_manager, with_doings, client_cmp, change_server, with_queues}
use Rattle.qs_node_step.specs.Bringing.{send, enter, answer, member_here}
use Rattle.qs_node_step.specs.Asking.{count}
use Rattle.qs_node_step.specs.Requests.{issue_as, next_number, enqueue, enter_issue, with_local, issue_here, label_of, is_asked, ask_on, issue_away, issue, waits_as, answer_issuer, take_reply, waiting_at, reply_came}
use Rattle.qs_node_step.specs.Serving.{put_label, label_at, learn_label, met, cover_from, engage, is_dropped, take_in, request_came, reply_here, change_served, enter_serve, lent_to, make_loan, give_reply, serve, may_serve, serve_or_drop, serve_next, serve_all}
use Rattle.qs_world_forgetting.proofs.KnowingDeeds.{Commutes, unchanged, answer_goes, fold_goes, if_goes, opt_goes, same_goes, send_goes, unless_goes, when_goes}

module _ (c : List Tid) where
  -- ---- requests and replies

  enqueue_goes : (server : ServerNo) (delivery : Delivery) → Commutes c (enqueue server delivery)
  enqueue_goes server delivery w = when_goes c (is_for server delivery.op) (with_queues (ipc.enqueue server delivery)) (λ u. refl) w

  ask_on_goes : (b : Bool) (tid : Tid) (to : NodeNo) → Commutes c (ask_on b tid to)
  ask_on_goes false tid to w = refl
  ask_on_goes true tid to w = send_goes c to (messages.AskVote tid) w

  issue_away_goes : (tid : Tid) (request : Outstanding) (op : Op) → Commutes c (issue_away tid request op)
  issue_away_goes tid request op w =
      let made : Work = with_manager (tm.sent tid request.member.node) (enter_issue tid request op w) in
      let message : Message = messages.Request tid (label_of tid w.node) request.member request.number request.issuer op in
      ap (ask_on (is_asked tid w) tid request.member.node) (send_goes c request.member.node message made) ∙ ask_on_goes (is_asked tid w) tid request.member.node (send request.member.node message made)

  pub issue_as_goes : (tid : Tid) (request : Outstanding) (op : Op) → Commutes c (issue_as tid request op)
  issue_as_goes tid request op w = if_goes c (same_node request.member.node (here w)) (issue_here tid request op) (issue_away tid request op)
      (λ u. enqueue_goes request.member.server (record { tid = tid; from = here u; number = request.number; op = op; stale = false }) (with_local tid request.number (enter_issue tid request op u))) (issue_away_goes tid request op) w

  pub issue_goes : (tid : Tid) (issuer : ServerNo) (member : Member) (op : Op) (count : ℕ) → Commutes c (issue tid issuer member op count)
  issue_goes tid issuer member op count w = opt_goes c (next_number tid member.node w) unchanged (λ number u. issue_as tid (record { issuer = issuer; member = member; number = number; count = count }) op u) (same_goes c)
      (λ number u. issue_as_goes tid (record { issuer = issuer; member = member; number = number; count = count }) op u) w

  answer_issuer_goes : (tid : Tid) (member : Member) (number : ℕ) (reply : Reply) (client : ClientNo) → Commutes c (answer_issuer tid member number reply client)
  answer_issuer_goes tid member number reply client w = when_goes c (waits_as tid member number (lookup (is_at (client_cmp client)) w.node.commands)) (answer client (answer_of reply)) (answer_goes c client (answer_of reply)) w

  take_reply_goes : (tid : Tid) (reply : Reply) (request : Outstanding) → Commutes c (take_reply tid reply request)
  take_reply_goes tid reply request w = if_goes c (is_by_files request) (with_manager (tm.note_served tid request.count)) (answer_issuer tid request.member request.number reply (client_of request.issuer)) (λ u. refl)
      (answer_issuer_goes tid request.member request.number reply (client_of request.issuer)) w

  pub reply_goes : (tid : Tid) (member : Member) (number : ℕ) (reply : Reply) → Commutes c (reply_came tid member number reply)
  reply_goes tid member number reply w = opt_goes c (waiting_at tid member number w) unchanged (λ request u. take_reply tid reply request (with_manager (tm.drop_waiting tid member number) u)) (same_goes c)
      (λ request u. take_reply_goes tid reply request (with_manager (tm.drop_waiting tid member number) u)) w

  -- ---- engagement and serving

  learn_label_goes : (label : List ℕ) (tid : Tid) → Commutes c (learn_label label tid)
  learn_label_goes label tid w = when_goes c (is_none (label_at label w.node)) (put_label (record { label = label; tid = Some tid; owner = None })) (λ u. refl) w

  met_goes : (tid : Tid) → Commutes c (met tid)
  met_goes tid w = unless_goes c (same_node tid.home (here w)) (with_manager (tm.meet tid)) (λ u. refl) w

  cover_goes : (engagement : Engaged) (tid : Tid) (peer : NodeNo) (number : ℕ) → Commutes c (cover_from engagement tid peer number)
  cover_goes engagements.Superior tid peer number w = refl
  cover_goes engagements.Elsewhere tid peer number w = send_goes c peer (messages.Covered tid number) w

  engage_goes : (tid : Tid) (peer : NodeNo) (number : ℕ) → Commutes c (engage tid peer number)
  engage_goes tid peer number w =
      ap (λ (v : Work). cover_from (tm.engaged_at tid peer v.node.manager) tid peer number (with_manager (tm.requested tid peer number) v)) (met_goes tid w)
      ∙ cover_goes (tm.engaged_at tid peer (met tid w).node.manager) tid peer number (with_manager (tm.requested tid peer number) (met tid w))

  take_in_goes : (b : Bool) (member : Member) (delivery : Delivery) → Commutes c (take_in b member delivery)
  take_in_goes true member delivery w = refl
  take_in_goes false member delivery w = enqueue_goes member.server delivery w

  pub request_goes : (peer : NodeNo) (tid : Tid) (label : List ℕ) (member : Member) (number : ℕ) (op : Op) → Commutes c (request_came peer tid label member number op)
  request_goes peer tid label member number op w =
      let drops : Bool = is_dropped (same_node tid.home (here w)) (part_of tid w) in
      let delivery : Delivery = record { tid = tid; from = peer; number = number; op = op; stale = false } in
      ap (λ (v : Work). take_in drops member delivery (engage tid peer number v)) (learn_label_goes label tid w)
      ∙ ap (take_in drops member delivery) (engage_goes tid peer number (learn_label label tid w))
      ∙ take_in_goes drops member delivery (engage tid peer number (learn_label label tid w))

  change_served_goes : (server : ServerNo) (tid : Tid) (op : Op) (reply : Reply) → Commutes c (change_served server tid op reply)
  change_served_goes server tid op reply w = unless_goes c (is_client server) (change_server server (λ value. after_serving value tid op reply)) (λ u. refl) w

  enter_serve_goes : (server : ServerNo) (delivery : Delivery) (reply : Reply) → Commutes c (enter_serve server delivery reply)
  enter_serve_goes server delivery reply w =
      ap (λ (v : Work). enter (acts.Serve delivery.tid (member_here w server) delivery.from delivery.number reply) (with_manager (tm.served delivery.tid server) (with_doings delivery.tid (λ doings. record doings { served = true }) v)))
      (change_served_goes server delivery.tid delivery.op reply w)

  loan_goes : (tid : Tid) (o : Option ClientNo) → Commutes c (make_loan tid o)
  loan_goes tid None w = refl
  loan_goes tid (Some client) w = refl

  give_reply_goes : (member : Member) (delivery : Delivery) (reply : Reply) → Commutes c (give_reply member delivery reply)
  give_reply_goes member delivery reply w = if_goes c (same_node delivery.from (here w)) (reply_came delivery.tid member delivery.number reply)
      (λ u. if delivery.stale then u else send delivery.from (messages.Answered delivery.tid member delivery.number reply) u) (reply_goes delivery.tid member delivery.number reply)
      (λ u. unless_goes c delivery.stale (send delivery.from (messages.Answered delivery.tid member delivery.number reply)) (send_goes c delivery.from (messages.Answered delivery.tid member delivery.number reply)) u) w

  serve_goes : (server : ServerNo) (delivery : Delivery) (reply : Reply) → Commutes c (serve server delivery reply)
  serve_goes server delivery reply w =
      ap (λ (v : Work). give_reply (member_here w server) delivery reply (make_loan delivery.tid (lent_to delivery.op) v)) (enter_serve_goes server delivery reply w)
      ∙ ap (give_reply (member_here w server) delivery reply) (loan_goes delivery.tid (lent_to delivery.op) (enter_serve server delivery reply w))
      ∙ give_reply_goes (member_here w server) delivery reply (make_loan delivery.tid (lent_to delivery.op) (enter_serve server delivery reply w))

  serve_or_drop_goes : (server : ServerNo) (delivery : Delivery) → Commutes c (serve_or_drop server delivery)
  serve_or_drop_goes server delivery w = when_goes c (may_serve delivery.tid w) (λ u. elim (reply_here server delivery.tid delivery.op u.node) [ None ↦ u | Some reply ↦ serve server delivery reply u ])
      (λ u. opt_goes c (reply_here server delivery.tid delivery.op u.node) unchanged (λ reply v. serve server delivery reply v) (same_goes c) (λ reply v. serve_goes server delivery reply v) u) w

  serve_next_goes : (server : ServerNo) → Commutes c (λ w. serve_next w server)
  serve_next_goes server w = opt_goes c (ipc.next server w.node.queues) unchanged (λ delivery u. serve_or_drop server delivery (with_queues (ipc.after_next server) u)) (same_goes c) (λ delivery u. serve_or_drop_goes server delivery (with_queues (ipc.after_next server) u)) w

  pub serve_all_goes : Commutes c serve_all
  serve_all_goes w = fold_goes c serve_next serve_next_goes (ipc.turns w.node.queues) w
