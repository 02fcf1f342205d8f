-- What holds of each thing that a step does holds of requests that are issued, come, wait and are served, and of replies.
use Rattle.qs_world_runs.proofs.Words.{ℕ, Bool, true, false, List, [], ◌∷◌, ◌++◌, Option, Some, None, refl, is_none, lookup, is_at, ClientNo, Member, NodeNo, ServerNo, Tid, same_node, Engaged, is_client, Delivery, Op, Reply, KeptLabel, member_of, is_by_files, Outstanding, enter, send, member_here, enqueue, enter_issue, with_local, issue_here, ask_on, issue_away, issue_as, issue, is_asked, label_of, answer_issuer, waits_as, take_reply, reply_came, label_at, put_label, learn_label, cover_from}
use Rattle.qs_world_runs.proofs.Words.{engage, take_in, is_dropped, request_came, reply_here, change_served, enter_serve, lent_to, make_loan, serve, serve_or_drop, serve_next, serve_all, Work, with_manager, with_queues, with_kept, with_doings, here, client_cmp}
use Rattle.qs_engage.specs.declared.engage.Engaged.TheVariants as engagements
use Rattle.qs_ipc.specs.Ipc as ipc
use Rattle.qs_ipc.specs.Queue.{is_for}
use Rattle.qs_book_journal.specs.declared.entry.Act.TheVariants as acts
use Rattle.qs_packet.specs.declared.message.Message.TheVariants as messages
use Rattle.qs_tm.specs.Manager as tm
use Rattle.qs_tm.specs.Participant as participant
use Rattle.qs_node_step.specs.Requests.{next_number, waiting_at}
use Rattle.qs_node_step.specs.Serving.{met, give_reply, may_serve}
use Rattle.qs_node_step.specs.State.{part_of}
use Rattle.qs_world_runs.proofs.Goes.{Goes, goes_answer, goes_elim, goes_enter, goes_fold, goes_if, goes_meet, goes_send}

module _ (R : Work → Work → Type 0) (g : Goes R) where
  -- ---- issuing

  goes_enqueue : (server : ServerNo) (delivery : Delivery) (work : Work) → R work (enqueue server delivery work)
  goes_enqueue server delivery work = goes_if R g (is_for server delivery.op) work (with_queues (ipc.enqueue server delivery) work) work (g.still work (with_queues (ipc.enqueue server delivery) work) refl refl) (g.self work)

  goes_entered : (tid : Tid) (request : Outstanding) (op : Op) (work : Work) → R work (enter_issue tid request op work)
  goes_entered tid request op work =
      let entered : Work = enter (acts.Issue tid (member_here work request.issuer) request.member request.number op) work in
      g.both work entered (enter_issue tid request op work) (goes_enter R g _ work)
      (g.part tid (participant.issued request) entered (λ part. record { members = refl; involved = λ is. is }))

  goes_here : (tid : Tid) (request : Outstanding) (op : Op) (work : Work) → R work (issue_here tid request op work)
  goes_here tid request op work =
      let entered : Work = enter_issue tid request op work in
      let local : Work = with_local tid request.number entered in
      g.both work entered (issue_here tid request op work) (goes_entered tid request op work)
      (g.both entered local (issue_here tid request op work) (g.still entered local refl refl)
      (goes_enqueue request.member.server (record { tid = tid; from = here work; number = request.number; op = op; stale = false }) local))

  goes_ask_on : (b : Bool) (tid : Tid) (to : NodeNo) (work : Work) → R work (ask_on b tid to work)
  goes_ask_on false tid to work = g.self work
  goes_ask_on true tid to work = goes_send R g to (messages.AskVote tid) work

  goes_away : (tid : Tid) (request : Outstanding) (op : Op) (work : Work) → R work (issue_away tid request op work)
  goes_away tid request op work =
      let entered : Work = enter_issue tid request op work in
      let sent : Work = with_manager (tm.sent tid request.member.node) entered in
      let message = messages.Request tid (label_of tid work.node) request.member request.number request.issuer op in
      g.both work entered (issue_away tid request op work) (goes_entered tid request op work)
      (g.both entered sent (issue_away tid request op work) (g.part tid (participant.sent request.member.node) entered (λ part. record { members = refl; involved = λ is. refl }))
      (g.both sent (send request.member.node message sent) (issue_away tid request op work) (goes_send R g request.member.node message sent)
      (goes_ask_on (is_asked tid work) tid request.member.node (send request.member.node message sent))))

  pub goes_issue_as : (tid : Tid) (request : Outstanding) (op : Op) (work : Work) → R work (issue_as tid request op work)
  goes_issue_as tid request op work = goes_if R g (same_node request.member.node (here work)) work _ _ (goes_here tid request op work) (goes_away tid request op work)

  pub goes_issue : (tid : Tid) (issuer : ServerNo) (member : Member) (op : Op) (count : ℕ) (work : Work) → R work (issue tid issuer member op count work)
  goes_issue tid issuer member op count work = goes_elim R g (next_number tid member.node work) work work _ (g.self work) (λ number. goes_issue_as tid (record { issuer = issuer; member = member; number = number; count = count }) op work)

  -- ---- replies

  goes_issuer : (tid : Tid) (member : Member) (number : ℕ) (reply : Reply) (client : ClientNo) (work : Work) → R work (answer_issuer tid member number reply client work)
  goes_issuer tid member number reply client work = goes_if R g (waits_as tid member number (lookup (is_at (client_cmp client)) work.node.commands)) work _ work (goes_answer R g client _ work) (g.self work)

  goes_take : (tid : Tid) (reply : Reply) (request : Outstanding) (work : Work) → R work (take_reply tid reply request work)
  goes_take tid reply request work = goes_if R g (is_by_files request) work _ _
      (g.part tid (participant.note_served request.count) work (λ part. record { members = refl; involved = λ is. is }))
      (goes_issuer tid request.member request.number reply _ work)

  pub goes_reply : (tid : Tid) (member : Member) (number : ℕ) (reply : Reply) (work : Work) → R work (reply_came tid member number reply work)
  goes_reply tid member number reply work =
      let dropped : Work = with_manager (tm.drop_waiting tid member number) work in
      goes_elim R g (waiting_at tid member number work) work work _ (g.self work)
      (λ request. g.both work dropped (take_reply tid reply request dropped) (g.part tid (participant.drop_waiting member number) work (λ part. record { members = refl; involved = λ is. is })) (goes_take tid reply request dropped))

  -- ---- a request comes

  pub goes_label : (b : KeptLabel) (work : Work) → R work (put_label b work)
  goes_label b work = g.still work (put_label b work) refl refl

  goes_learn_label : (label : List ℕ) (tid : Tid) (work : Work) → R work (learn_label label tid work)
  goes_learn_label label tid work = goes_if R g (is_none (label_at label work.node)) work _ work (goes_label _ work) (g.self work)

  goes_met : (tid : Tid) (work : Work) → R work (met tid work)
  goes_met tid work = goes_if R g (same_node tid.home (here work)) work work _ (g.self work) (goes_meet R g tid work)

  goes_cover : (engaged : Engaged) (tid : Tid) (peer : NodeNo) (number : ℕ) (work : Work) → R work (cover_from engaged tid peer number work)
  goes_cover engagements.Superior tid peer number work = g.self work
  goes_cover engagements.Elsewhere tid peer number work = goes_send R g peer (messages.Covered tid number) work

  goes_engage : (tid : Tid) (peer : NodeNo) (number : ℕ) (work : Work) → R work (engage tid peer number work)
  goes_engage tid peer number work =
      let known : Work = met tid work in
      let requested : Work = with_manager (tm.requested tid peer number) known in
      g.both work known (engage tid peer number work) (goes_met tid work)
      (g.both known requested (engage tid peer number work) (g.part tid (participant.requested peer number) known (λ part. record { members = refl; involved = λ is. is }))
      (goes_cover (tm.engaged_at tid peer known.node.manager) tid peer number requested))

  goes_take_in : (b : Bool) (member : Member) (delivery : Delivery) (work : Work) → R work (take_in b member delivery work)
  goes_take_in true member delivery work = g.self work
  goes_take_in false member delivery work = goes_enqueue member.server delivery work

  pub goes_request : (peer : NodeNo) (tid : Tid) (label : List ℕ) (member : Member) (number : ℕ) (op : Op) (work : Work) → R work (request_came peer tid label member number op work)
  goes_request peer tid label member number op work =
      let learnt : Work = learn_label label tid work in
      let engaged : Work = engage tid peer number learnt in
      g.both work learnt (request_came peer tid label member number op work) (goes_learn_label label tid work)
      (g.both learnt engaged (request_came peer tid label member number op work) (goes_engage tid peer number learnt)
      (goes_take_in (is_dropped (same_node tid.home (here work)) (part_of tid work)) member (record { tid = tid; from = peer; number = number; op = op; stale = false }) engaged))

  -- ---- serving

  goes_changed : (server : ServerNo) (tid : Tid) (op : Op) (reply : Reply) (work : Work) → R work (change_served server tid op reply work)
  goes_changed server tid op reply work = goes_if R g (is_client server) work work _ (g.self work) (g.still work _ refl refl)

  goes_entered_serve : (server : ServerNo) (delivery : Delivery) (reply : Reply) (work : Work) → R work (enter_serve server delivery reply work)
  goes_entered_serve server delivery reply work =
      let changed : Work = change_served server delivery.tid delivery.op reply work in
      let noted : Work = with_doings delivery.tid (λ doings. record doings { served = true }) changed in
      let counted : Work = with_manager (tm.served delivery.tid server) noted in
      g.both work changed (enter_serve server delivery reply work) (goes_changed server delivery.tid delivery.op reply work)
      (g.both changed noted (enter_serve server delivery reply work) (g.still changed noted refl refl)
      (g.both noted counted (enter_serve server delivery reply work) (g.served delivery.tid server noted)
      (goes_enter R g (acts.Serve delivery.tid (member_here work server) delivery.from delivery.number reply) counted)))

  goes_loan : (tid : Tid) (o : Option ClientNo) (work : Work) → R work (make_loan tid o work)
  goes_loan tid None work = g.self work
  goes_loan tid (Some client) work =
      let lent : Work = with_kept (λ kept. record kept {
        loans = kept.loans ++ record { tid = tid; client = client; inc = work.node.setting.inc; taken = false; yielded = false } ∷ [];
      }) work in
      g.both work lent (make_loan tid (Some client) work) (g.still work lent refl refl) (goes_enter R g (acts.Loan tid client) lent)

  goes_given : (member : Member) (delivery : Delivery) (reply : Reply) (work : Work) → R work (give_reply member delivery reply work)
  goes_given member delivery reply work =
      goes_if R g (same_node delivery.from (here work)) work _ _ (goes_reply delivery.tid member delivery.number reply work)
      (goes_if R g delivery.stale work work _ (g.self work) (goes_send R g delivery.from (messages.Answered delivery.tid member delivery.number reply) work))

  goes_serve : (server : ServerNo) (delivery : Delivery) (reply : Reply) (work : Work) → R work (serve server delivery reply work)
  goes_serve server delivery reply work =
      let entered : Work = enter_serve server delivery reply work in
      let lent : Work = make_loan delivery.tid (lent_to delivery.op) entered in
      g.both work entered (serve server delivery reply work) (goes_entered_serve server delivery reply work)
      (g.both entered lent (serve server delivery reply work) (goes_loan delivery.tid (lent_to delivery.op) entered)
      (goes_given (member_here work server) delivery reply lent))

  goes_serve_or_drop : (server : ServerNo) (delivery : Delivery) (work : Work) → R work (serve_or_drop server delivery work)
  goes_serve_or_drop server delivery work =
      goes_if R g (may_serve delivery.tid work) work _ work
      (goes_elim R g (reply_here server delivery.tid delivery.op work.node) work work _ (g.self work) (λ reply. goes_serve server delivery reply work)) (g.self work)

  goes_serve_next : (work : Work) (server : ServerNo) → R work (serve_next work server)
  goes_serve_next work server =
      let left : Work = with_queues (ipc.after_next server) work in
      goes_elim R g (ipc.next server work.node.queues) work work _ (g.self work)
      (λ delivery. g.both work left (serve_or_drop server delivery left) (g.still work left refl refl) (goes_serve_or_drop server delivery left))

  pub goes_serve_all : (work : Work) → R work (serve_all work)
  goes_serve_all work = goes_fold R g serve_next goes_serve_next (ipc.turns work.node.queues) work
