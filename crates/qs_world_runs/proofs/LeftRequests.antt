-- What is issued, served and voted for one transaction leaves the places of every other; and no reply bears on any.
use Rattle.qs_world_runs.proofs.Words.{◌≡◌, ℕ, Bool, true, false, List, length, Option, Some, None, refl, sym, ap, subst, ◌∙◌, arith, nat_tests, is_at, filter, lookup, same_tid, ClientNo, Member, NodeNo, ServerNo, Tid, same_node, Engaged, IpcValue, queue_at, Delivery, Op, Reply, Vote, answer_of, Note, after_serving, client_of, is_client, answer, enter, member_here, send, end_members, answer_issuer, ask_on, enqueue, enter_issue, is_asked, issue, issue_as, issue_away, issue_here, label_of}
use Rattle.qs_world_runs.proofs.Words.{reply_came, take_reply, waits_as, with_local, change_served, cover_from, engage, enter_serve, is_dropped, learn_label, lent_to, make_loan, put_label, request_came, serve, take_in, Work, change_server, client_cmp, here, with_doings, with_manager, with_queues, change_count, due_votes, enter_vote, issue_note, log_vote, owes_note, vote_next, vote_pass, vote_with, is_by_files, Outstanding, LeavesPlaces}
use Rattle.qs_engage.specs.declared.engage.Engaged.TheVariants as engagements
use Rattle.qs_ipc.specs.Ipc as ipc
use Rattle.qs_ipc.specs.Queue.{is_for}
use Rattle.qs_book_journal.specs.declared.entry.Act.TheVariants as acts
use Rattle.qs_ops.specs.declared.vote.Vote.TheVariants as votes
use Rattle.qs_packet.specs.declared.message.Message.TheVariants as messages
use Rattle.qs_node_servers.specs.Servers.{audit_no}
use Rattle.qs_tm.specs.Members.{files_no}
use Rattle.qs_node_step.specs.Requests.{next_number}
use Rattle.qs_node_step.specs.Requests as requests
use Rattle.qs_node_step.specs.Serving.{met}
use Rattle.qs_node_step.specs.State.{part_of}
use Rattle.qs_node_step.specs.Voting.{note_text}
use Rattle.qs_tm.specs.Manager as tm
use Rattle.qs_world_lawful.specs.Face.{is_numbered}
use Rattle.qs_world_lawful.proofs.Faces.{waiting_apart}
use Rattle.qs_world_runs.proofs.LeftOutcomes.{ended_leaves}
use Rattle.qs_world_runs.proofs.PlacesLeft.{answer_leaves, elim_leaves, entry_leaves, fold_leaves, if_leaves, itself_leaves, queues_leave, same_leaves, send_leaves, then_leaves}

module _ (t : Tid) where
  abbrev L : Work → Work → Type 0
  L work new = LeavesPlaces t work new

  still : (work new : Work) → new.out.entries ≡ work.out.entries → new.out.messages ≡ work.out.messages → new.node.queues ≡ work.node.queues → new.node.setting ≡ work.node.setting → L work new
  still work new p q r s = same_leaves t work new p q r s

  turned : (tid : Tid) → same_tid tid t ≡ false → same_tid t tid ≡ false
  turned tid far = grind (arith, nat_tests, far)

  -- ---- replies

  pub reply_leaves : (tid : Tid) (member : Member) (number : ℕ) (reply : Reply) (work : Work) → L work (reply_came tid member number reply work)
  reply_leaves tid member number reply work = elim_leaves t (requests.waiting_at tid member number work) work (λ request. take_reply tid reply request dropped) work (itself_leaves t work)
      (λ request. then_leaves t work dropped (take_reply tid reply request dropped) (still work dropped refl refl refl refl)
      (if_leaves t (is_by_files request) (with_manager (tm.note_served tid request.count) dropped) (answer_issuer tid request.member request.number reply (client_of request.issuer) dropped) dropped
      (still dropped (with_manager (tm.note_served tid request.count) dropped) refl refl refl refl)
      (if_leaves t (waits_as tid request.member request.number (lookup (is_at (client_cmp (client_of request.issuer))) dropped.node.commands)) (answer (client_of request.issuer) (answer_of reply) dropped) dropped dropped
      (answer_leaves t (client_of request.issuer) (answer_of reply) dropped) (itself_leaves t dropped))))
    where
      dropped : Work
      dropped = with_manager (tm.drop_waiting tid member number) work

  -- a request comes, but for its place in a queue
  pub engage_leaves : (tid : Tid) (peer : NodeNo) (number : ℕ) (work : Work) → L work (engage tid peer number work)
  engage_leaves tid peer number work = then_leaves t work known (engage tid peer number work)
      (if_leaves t (same_node tid.home (here work)) work (with_manager (tm.meet tid) work) work (itself_leaves t work) (still work (with_manager (tm.meet tid) work) refl refl refl refl))
      (then_leaves t known asked_here (engage tid peer number work) (still known asked_here refl refl refl refl) (cover (tm.engaged_at tid peer known.node.manager) asked_here))
    where
      known : Work
      known = met tid work

      asked_here : Work
      asked_here = with_manager (tm.requested tid peer number) known

      cover : (e : Engaged) (w : Work) → L w (cover_from e tid peer number w)
      cover engagements.Superior w = itself_leaves t w
      cover engagements.Elsewhere w = send_leaves t peer (messages.Covered tid number) w (λ server k. refl)

  pub label_leaves : (label : List ℕ) (tid : Tid) (work : Work) → L work (learn_label label tid work)
  label_leaves label tid work = if_leaves t _ (put_label (record { label = label; tid = Some tid; owner = None }) work) work work (still work (put_label (record { label = label; tid = Some tid; owner = None }) work) refl refl refl refl) (itself_leaves t work)

  -- ---- of another transaction

  module _ (tid : Tid) (far : same_tid tid t ≡ false) where
    enqueue_leaves : (server : ServerNo) (delivery : Delivery) (work : Work) → delivery.tid ≡ tid → L work (enqueue server delivery work)
    enqueue_leaves server delivery work its = if_leaves t (is_for server delivery.op) (with_queues (ipc.enqueue server delivery) work) work work
        (queues_leave t (ipc.enqueue server delivery) work (λ at other. ap (λ (ds : List Delivery). length (filter (is_numbered at) ds)) (waiting_apart t server other delivery work.node.queues (ap (same_tid t) its ∙ turned tid far))))
        (itself_leaves t work)

    ask_on_leaves : (b : Bool) (to : NodeNo) (work : Work) → L work (ask_on b tid to work)
    ask_on_leaves false to work = itself_leaves t work
    ask_on_leaves true to work = send_leaves t to (messages.AskVote tid) work (λ server k. refl)

    entered_leaves : (request : Outstanding) (op : Op) (work : Work) → L work (enter_issue tid request op work)
    entered_leaves request op work = entry_leaves t (acts.Issue tid _ request.member request.number op) work (enter_issue tid request op work) far refl refl refl refl

    here_leaves : (request : Outstanding) (op : Op) (work : Work) → L work (issue_here tid request op work)
    here_leaves request op work = then_leaves t work (enter_issue tid request op work) (issue_here tid request op work) (entered_leaves request op work)
        (then_leaves t (enter_issue tid request op work) counted (issue_here tid request op work) (still (enter_issue tid request op work) counted refl refl refl refl)
        (enqueue_leaves request.member.server (record { tid = tid; from = here work; number = request.number; op = op; stale = false }) counted refl))
      where
        counted : Work
        counted = with_local tid request.number (enter_issue tid request op work)

    away_leaves : (request : Outstanding) (op : Op) (work : Work) → L work (issue_away tid request op work)
    away_leaves request op work = then_leaves t work (enter_issue tid request op work) (issue_away tid request op work) (entered_leaves request op work)
        (then_leaves t (enter_issue tid request op work) counted (issue_away tid request op work) (still (enter_issue tid request op work) counted refl refl refl refl)
        (then_leaves t counted told (issue_away tid request op work)
        (send_leaves t request.member.node (messages.Request tid (label_of tid work.node) request.member request.number request.issuer op) counted (λ server k. rw (turned tid far) refl))
        (ask_on_leaves (is_asked tid work) request.member.node told)))
      where
        counted : Work
        counted = with_manager (tm.sent tid request.member.node) (enter_issue tid request op work)

        told : Work
        told = send request.member.node (messages.Request tid (label_of tid work.node) request.member request.number request.issuer op) counted

    pub issue_as_leaves : (request : Outstanding) (op : Op) (work : Work) → L work (issue_as tid request op work)
    issue_as_leaves request op work = if_leaves t (same_node request.member.node (here work)) (issue_here tid request op work) (issue_away tid request op work) work (here_leaves request op work) (away_leaves request op work)

    issue_leaves : (issuer : ServerNo) (member : Member) (op : Op) (changes : ℕ) (work : Work) → L work (issue tid issuer member op changes work)
    issue_leaves issuer member op changes work = elim_leaves t (next_number tid member.node work) work (λ number. issue_as tid (record { issuer = issuer; member = member; number = number; count = changes }) op work) work (itself_leaves t work)
        (λ number. issue_as_leaves (record { issuer = issuer; member = member; number = number; count = changes }) op work)

    pub came_leaves : (peer : NodeNo) (label : List ℕ) (member : Member) (number : ℕ) (op : Op) (work : Work) → L work (request_came peer tid label member number op work)
    came_leaves peer label member number op work = then_leaves t work labelled (request_came peer tid label member number op work) (label_leaves label tid work)
        (then_leaves t labelled engaged (request_came peer tid label member number op work) (engage_leaves tid peer number labelled) (taken (is_dropped (same_node tid.home (here work)) (part_of tid work)) engaged))
      where
        labelled : Work
        labelled = learn_label label tid work

        engaged : Work
        engaged = engage tid peer number labelled

        taken : (b : Bool) (w : Work) → L w (take_in b member (record { tid = tid; from = peer; number = number; op = op; stale = false }) w)
        taken true w = itself_leaves t w
        taken false w = enqueue_leaves member.server (record { tid = tid; from = peer; number = number; op = op; stale = false }) w refl

    -- ---- votes

    log_vote_leaves : (ballot : Vote) (server : ServerNo) (work : Work) → L work (log_vote ballot tid server work)
    log_vote_leaves (votes.Abort reason) server work = itself_leaves t work
    log_vote_leaves votes.ReadOnly server work = itself_leaves t work
    log_vote_leaves votes.Volatile server work = itself_leaves t work
    log_vote_leaves votes.Recoverable server work = still work (log_vote votes.Recoverable tid server work) refl refl refl refl

    pub vote_leaves : (server : ServerNo) (ballot : Vote) (work : Work) → L work (vote_with tid server ballot work)
    vote_leaves server ballot work = then_leaves t work (enter_vote tid server ballot work) (vote_with tid server ballot work) (entry_leaves t (acts.Vote tid _ ballot _) work (enter_vote tid server ballot work) far refl refl refl refl) (log_vote_leaves ballot server (enter_vote tid server ballot work))

    note_leaves : (o : Option NodeNo) (work : Work) → L work (issue_note tid o work)
    note_leaves None work = itself_leaves t work
    note_leaves (Some node) work = issue_leaves files_no (record { node = node; server = audit_no }) (Note (note_text tid (here work) (change_count tid work.node))) (change_count tid work.node) work

    pub vote_pass_leaves : (work : Work) → L work (vote_pass tid work)
    vote_pass_leaves work = then_leaves t work (end_members tid work) (vote_pass tid work) (ended_leaves t tid work)
        (fold_leaves t (vote_next tid) (λ w server. if_leaves t (owes_note tid server w) (issue_note tid w.node.setting.audit w) _ w (note_leaves w.node.setting.audit w) (vote_leaves server _ w)) (due_votes tid work) (end_members tid work))

    -- ---- serving

    lent_leaves : (o : Option ClientNo) (work : Work) → L work (make_loan tid o work)
    lent_leaves None work = itself_leaves t work
    lent_leaves (Some client) work = entry_leaves t (acts.Loan tid client) work (make_loan tid (Some client) work) far refl refl refl refl

    pub served_leaves : (server : ServerNo) (delivery : Delivery) (reply : Reply) (work : Work) → delivery.tid ≡ tid → L work (serve server delivery reply work)
    served_leaves server delivery reply work its = then_leaves t work served (serve server delivery reply work) entered (then_leaves t served lent (serve server delivery reply work) made given)
      where
        served : Work
        served = enter_serve server delivery reply work

        lent : Work
        lent = make_loan delivery.tid (lent_to delivery.op) served

        entered : L work served
        entered = by (change_served server delivery.tid delivery.op reply work) changed
          where
            changed : L work (change_served server delivery.tid delivery.op reply work)
            changed = if_leaves t (is_client server) work (change_server server (λ value. after_serving value delivery.tid delivery.op reply) work) work (itself_leaves t work) (still work (change_server server (λ value. after_serving value delivery.tid delivery.op reply) work) refl refl refl refl)

            by : (w : Work) → L work w → L work (enter (acts.Serve delivery.tid (member_here work server) delivery.from delivery.number reply) (with_manager (tm.served delivery.tid server) (with_doings delivery.tid (λ doings. record doings { served = true }) w)))
            by w l = then_leaves t work w _ l (entry_leaves t (acts.Serve delivery.tid (member_here work server) delivery.from delivery.number reply) w _ (ap (λ (x : Tid). same_tid x t) its ∙ far) refl refl refl refl)

        made : L served lent
        made = subst (λ (x : Tid). L served (make_loan x (lent_to delivery.op) served)) (sym its) (lent_leaves (lent_to delivery.op) served)

        given : L lent (serve server delivery reply work)
        given = if_leaves t (same_node delivery.from (here lent)) (reply_came delivery.tid (member_here work server) delivery.number reply lent) _ lent
            (reply_leaves delivery.tid (member_here work server) delivery.number reply lent)
            (if_leaves t delivery.stale lent (send delivery.from (messages.Answered delivery.tid (member_here work server) delivery.number reply) lent) lent (itself_leaves t lent) (send_leaves t delivery.from (messages.Answered delivery.tid (member_here work server) delivery.number reply) lent (λ s k. refl)))
