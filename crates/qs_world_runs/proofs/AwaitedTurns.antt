-- What waits for its reply waits on as requests come, are issued and served, as servers vote, and as a transaction is settled, until that is decided: its node is busy, so it answers nobody.
use Rattle.qs_world_runs.proofs.Words.{◌≡◌, inl, ℕ, ◌==◌, ◌&&◌, Bool, true, false, List, [], ◌∷◌, ◌++◌, fold, Option, Some, None, refl, sym, subst, if◌then◌else◌, is_none, same_member, ClientNo, Member, NodeNo, ServerNo, Tid, same_node, Engaged, Delivery, after_serving, Op, Note, Reply, Vote, client_of, is_client, member_here, send, end_members, ask_on, enqueue, enter_issue, is_asked, issue, issue_as, issue_away, issue_here, label_of, reply_came, with_local, change_served, cover_from}
use Rattle.qs_world_runs.proofs.Words.{enter_serve, label_at, learn_label, lent_to, make_loan, put_label, reply_here, request_came, serve, serve_all, serve_next, serve_or_drop, take_in, is_pass_due, pass_rule, Work, change_server, here, with_doings, with_manager, with_queues, change_count, due_votes, enter_vote, issue_note, log_vote, owes_note, vote_next, vote_pass, vote_with, Setting, awaits_note, is_answered_by, is_by_files, is_forgotten, new_participant, Outstanding, Participant, and_first}
use Rattle.qs_engage.specs.declared.engage.Engaged.TheVariants as engagements
use Rattle.qs_ipc.specs.Ipc as ipc
use Rattle.qs_ipc.specs.Queue.{is_for}
use Rattle.qs_ops.specs.declared.vote.Vote.TheVariants as votes
use Rattle.qs_packet.specs.declared.message.Message.TheVariants as messages
use Rattle.qs_node_step.specs.Requests.{next_number}
use Rattle.qs_node_step.specs.Serving.{give_reply, may_serve, met}
use Rattle.qs_node_step.specs.Serving as serving
use Rattle.qs_node_step.specs.State.{part_of}
use Rattle.qs_node_step.specs.Voting.{note_text}
use Rattle.qs_tm.specs.Manager as tm
use Rattle.qs_tm.specs.Members.{files_no}
use Rattle.qs_tm.specs.Participant as participant
use Rattle.qs_node_servers.specs.Servers.{audit_no}
use Rattle.qs_world_lawful.proofs.SameSetting.{serve_next_same}
use Rattle.qs_world_runs.proofs.AwaitedKept.{labelled_on, lent_on, part_on, unknown_on, with_borrowed}
use Rattle.qs_world_runs.proofs.AwaitedRequests.{issued_kept, reply_on, requested_kept, sent_kept, served_kept}
use Rattle.qs_world_runs.proofs.AwaitedRules.{On, change_on, ended_on, fold_on, if_on, itself_on, log_on, plain, send_on, then_on, waits_on}

module _ (D : Type 0) (tid : Tid) (member : Member) (number : ℕ) where
  abbrev L : Work → Work → Type 0
  L work new = On D tid member number work new

  -- ---- a request comes

  met_on : (t : Tid) (work : Work) → L work (met t work)
  met_on t work = if_on D tid member number (same_node t.home (here work)) work (with_manager (tm.meet t) work) work (λ so. itself_on D tid member number work)
      (λ so. waits_on D tid member number work (with_manager (tm.meet t) work) (λ w. inl (unknown_on tid member number work.node.commands work.node.kept.now work.node.setting.inc t (new_participant (tm.is_home t work.node.manager)) work.node.manager w)) (λ k. k))

  engage_on : (t : Tid) (peer : NodeNo) (n : ℕ) (work : Work) → L work (serving.engage t peer n work)
  engage_on t peer n work = then_on D tid member number work (met t work) (serving.engage t peer n work) (met_on t work)
      (then_on D tid member number (met t work) asked_here (serving.engage t peer n work) (change_on D tid member number t (participant.requested peer n) (met t work) (λ e. requested_kept D tid member number peer n)) (cover (tm.engaged_at t peer (met t work).node.manager) asked_here))
    where
      asked_here : Work
      asked_here = with_manager (tm.requested t peer n) (met t work)

      cover : (e : Engaged) (w : Work) → L w (cover_from e t peer n w)
      cover engagements.Superior w = itself_on D tid member number w
      cover engagements.Elsewhere w = send_on D tid member number peer (messages.Covered t n) w

  label_on : (work : Work) (name : List ℕ) (t : Tid) → L work (learn_label name t work)
  label_on work name t = if_on D tid member number (is_none (label_at name work.node)) (put_label (record { label = name; tid = Some t; owner = None }) work) work work
      (λ so. waits_on D tid member number work (put_label (record { label = name; tid = Some t; owner = None }) work) (with_borrowed tid member number work.node.manager work.node.commands work.node.commands work.node.kept.now (record work.node.kept.now { labels = work.node.kept.now.labels ++ record { label = name; tid = Some t; owner = None } ∷ [] }) work.node.setting.inc D
      (λ b. inl (labelled_on tid member number work.node.commands work.node.setting.inc work.node.kept.now (record { label = name; tid = Some t; owner = None }) b))) (λ k. k))
      (λ so. itself_on D tid member number work)

  enqueue_on : (server : ServerNo) (delivery : Delivery) (work : Work) → L work (enqueue server delivery work)
  enqueue_on server delivery work = if_on D tid member number (is_for server delivery.op) (with_queues (ipc.enqueue server delivery) work) work work (λ so w. inl w) (λ so w. inl w)

  pub came_on : (peer : NodeNo) (t : Tid) (name : List ℕ) (m : Member) (n : ℕ) (op : Op) (work : Work) → L work (request_came peer t name m n op work)
  came_on peer t name m n op work = then_on D tid member number work labelled (request_came peer t name m n op work) (label_on work name t)
      (then_on D tid member number labelled engaged (request_came peer t name m n op work) (engage_on t peer n labelled) (taken (serving.is_dropped (same_node t.home (here work)) (part_of t work)) engaged))
    where
      labelled : Work
      labelled = learn_label name t work

      engaged : Work
      engaged = serving.engage t peer n labelled

      taken : (b : Bool) (w : Work) → L w (take_in b m (record { tid = t; from = peer; number = n; op = op; stale = false }) w)
      taken true w = itself_on D tid member number w
      taken false w = enqueue_on m.server (record { tid = t; from = peer; number = n; op = op; stale = false }) w

  -- ---- a request is issued

  entered_on : (t : Tid) (request : Outstanding) (op : Op) (work : Work) → L work (enter_issue t request op work)
  entered_on t request op work = waits_on D tid member number work (enter_issue t request op work) (λ w. inl (part_on tid member number work.node.commands work.node.kept.now work.node.setting.inc t (participant.issued request) work.node.manager (λ e. issued_kept D tid member number request) w)) (λ k. k)

  issue_here_on : (t : Tid) (request : Outstanding) (op : Op) (work : Work) → L work (issue_here t request op work)
  issue_here_on t request op work = then_on D tid member number work (enter_issue t request op work) (issue_here t request op work) (entered_on t request op work)
      (then_on D tid member number (enter_issue t request op work) (with_local t request.number (enter_issue t request op work)) (issue_here t request op work) (λ w. inl w)
      (enqueue_on request.member.server (record { tid = t; from = here work; number = request.number; op = op; stale = false }) (with_local t request.number (enter_issue t request op work))))

  ask_on_on : (b : Bool) (t : Tid) (to : NodeNo) (work : Work) → L work (ask_on b t to work)
  ask_on_on false t to work = itself_on D tid member number work
  ask_on_on true t to work = send_on D tid member number to (messages.AskVote t) work

  -- once it is entered
  pub away_on : (t : Tid) (request : Outstanding) (op : Op) (work : Work) → L (enter_issue t request op work) (issue_away t request op work)
  away_on t request op work = then_on D tid member number entered counted (issue_away t request op work) (change_on D tid member number t (participant.sent request.member.node) entered (λ e. sent_kept D tid member number request.member.node))
      (then_on D tid member number counted told (issue_away t request op work) (send_on D tid member number request.member.node (messages.Request t (label_of t work.node) request.member request.number request.issuer op) counted) (ask_on_on (is_asked t work) t request.member.node told))
    where
      entered : Work
      entered = enter_issue t request op work

      counted : Work
      counted = with_manager (tm.sent t request.member.node) entered

      told : Work
      told = send request.member.node (messages.Request t (label_of t work.node) request.member request.number request.issuer op) counted

  issue_away_on : (t : Tid) (request : Outstanding) (op : Op) (work : Work) → L work (issue_away t request op work)
  issue_away_on t request op work = then_on D tid member number work (enter_issue t request op work) (issue_away t request op work) (entered_on t request op work) (away_on t request op work)

  pub issue_as_on : (t : Tid) (request : Outstanding) (op : Op) (work : Work) → L work (issue_as t request op work)
  issue_as_on t request op work = if_on D tid member number (same_node request.member.node (here work)) (issue_here t request op work) (issue_away t request op work) work (λ so. issue_here_on t request op work) (λ so. issue_away_on t request op work)

  issue_on : (t : Tid) (issuer : ServerNo) (m : Member) (op : Op) (count : ℕ) (work : Work) → L work (issue t issuer m op count work)
  issue_on t issuer m op count work = by (next_number t m.node work)
    where
      by : (o : Option ℕ) → L work (elim o [ None ↦ work | Some n ↦ issue_as t (record { issuer = issuer; member = m; number = n; count = count }) op work ])
      by None = itself_on D tid member number work
      by (Some n) = issue_as_on t (record { issuer = issuer; member = m; number = n; count = count }) op work

  -- ---- serving

  -- it is a request to another node
  abbrev pub IsAway : Work → Type 0
  IsAway work = (server : ServerNo) → same_member member (member_here work server) ≡ false

  serve_on : (server : ServerNo) (delivery : Delivery) (reply : Reply) (work : Work) → IsAway work → L work (serve server delivery reply work)
  serve_on server delivery reply work away = then_on D tid member number work served (serve server delivery reply work) entered
      (then_on D tid member number served lent (serve server delivery reply work) (made (lent_to delivery.op)) given)
    where
      served : Work
      served = enter_serve server delivery reply work

      lent : Work
      lent = make_loan delivery.tid (lent_to delivery.op) served

      changed : Work
      changed = change_served server delivery.tid delivery.op reply work

      entered : L work served
      entered = then_on D tid member number work changed served
          (if_on D tid member number (is_client server) work (change_server server (λ value. after_serving value delivery.tid delivery.op reply) work) work (λ so w. inl w) (λ so w. inl w))
          (change_on D tid member number delivery.tid (participant.served server) (with_doings delivery.tid (λ doings. record doings { served = true }) changed) (λ e. served_kept D tid member number server))

      made : (o : Option ClientNo) → L served (make_loan delivery.tid o served)
      made None = itself_on D tid member number served
      made (Some client) = waits_on D tid member number served (make_loan delivery.tid (Some client) served) (with_borrowed tid member number served.node.manager served.node.commands served.node.commands served.node.kept.now
          (record served.node.kept.now { loans = served.node.kept.now.loans ++ record { tid = delivery.tid; client = client; inc = served.node.setting.inc; taken = false; yielded = false } ∷ [] }) served.node.setting.inc D
          (λ b. inl (lent_on tid member number served.node.commands served.node.setting.inc served.node.kept.now (record { tid = delivery.tid; client = client; inc = served.node.setting.inc; taken = false; yielded = false }) b))) (λ k. k)

      not_its : {X : Type 0} → (same_member member (member_here work server) && (number == delivery.number)) ≡ true → X
      not_its so = absurd (let yes_it : same_member member (member_here work server) ≡ true = and_first (same_member member (member_here work server)) _ so in let not_it : same_member member (member_here work server) ≡ false = away server in cc (yes_it, not_it))

      given : L lent (serve server delivery reply work)
      given = if_on D tid member number (same_node delivery.from (here lent)) (reply_came delivery.tid (member_here work server) delivery.number reply lent) (if delivery.stale then lent else send delivery.from (messages.Answered delivery.tid (member_here work server) delivery.number reply) lent) lent
          (λ so. reply_on D tid member number delivery.tid (member_here work server) delivery.number reply lent (λ e is. not_its is))
          (λ so. if_on D tid member number delivery.stale lent (send delivery.from (messages.Answered delivery.tid (member_here work server) delivery.number reply) lent) lent (λ s. itself_on D tid member number lent) (λ s. send_on D tid member number delivery.from (messages.Answered delivery.tid (member_here work server) delivery.number reply) lent))

  next_on : (work : Work) (server : ServerNo) → IsAway work → L work (serve_next work server)
  next_on work server away = by (ipc.next server work.node.queues)
    where
      left : Work
      left = with_queues (ipc.after_next server) work

      replied : (delivery : Delivery) (o : Option Reply) → L left (elim o [ None ↦ left | Some reply ↦ serve server delivery reply left ])
      replied delivery None = itself_on D tid member number left
      replied delivery (Some reply) = serve_on server delivery reply left away

      by : (o : Option Delivery) → L work (elim o [ None ↦ work | Some delivery ↦ serve_or_drop server delivery left ])
      by None = itself_on D tid member number work
      by (Some delivery) = then_on D tid member number work left (serve_or_drop server delivery left) (λ w. inl w)
          (if_on D tid member number (may_serve delivery.tid left) (elim (reply_here server delivery.tid delivery.op left.node) [ None ↦ left | Some reply ↦ serve server delivery reply left ]) left left
          (λ so. replied delivery (reply_here server delivery.tid delivery.op left.node)) (λ so. itself_on D tid member number left))

  pub serve_all_on : (work : Work) → IsAway work → L work (serve_all work)
  serve_all_on work away = each (ipc.turns work.node.queues) work away
    where
      each : (servers : List ServerNo) (w : Work) → IsAway w → L w (fold serve_next w servers)
      each [] w far = itself_on D tid member number w
      each (server ∷ servers) w far = then_on D tid member number w (serve_next w server) (fold serve_next w (server ∷ servers)) (next_on w server far)
          (each servers (serve_next w server) (subst (λ (s : Setting). (k : ServerNo) → same_member member (record { node = s.node; server = k }) ≡ false) (sym (serve_next_same w server)) far))

  -- ---- votes

  vote_on : (t : Tid) (server : ServerNo) (ballot : Vote) (work : Work) → L work (vote_with t server ballot work)
  vote_on t server ballot work = then_on D tid member number work (enter_vote t server ballot work) (vote_with t server ballot work)
      (change_on D tid member number t (participant.voted (member_here work server) ballot (Rattle.qs_node_step.specs.Voting.served_count t server work)) (change_server server (λ value. Rattle.qs_ops.specs.Server.after_vote value t ballot) work)
      (λ e. plain D tid member number (participant.voted (member_here work server) ballot (Rattle.qs_node_step.specs.Voting.served_count t server work)) (λ p. refl) (λ p. refl) (λ p. refl)))
      (logged ballot)
    where
      logged : (b : Vote) → L (enter_vote t server ballot work) (log_vote b t server (enter_vote t server ballot work))
      logged (votes.Abort reason) = itself_on D tid member number (enter_vote t server ballot work)
      logged votes.ReadOnly = itself_on D tid member number (enter_vote t server ballot work)
      logged votes.Volatile = itself_on D tid member number (enter_vote t server ballot work)
      logged votes.Recoverable = log_on D tid member number (Rattle.qs_record.specs.declared.record.Record.TheVariants.Prepare t server (Rattle.qs_node_step.specs.Voting.served_count t server noted) (Rattle.qs_ops.specs.Server.changes_in (Rattle.qs_node_servers.specs.Servers.server_at noted.node.servers server) t)) (with_doings t (λ doings. record doings { prepared = true }) (enter_vote t server ballot work))
        where
          noted : Work
          noted = enter_vote t server ballot work

  note_on : (t : Tid) (o : Option NodeNo) (work : Work) → L work (issue_note t o work)
  note_on t None work = itself_on D tid member number work
  note_on t (Some node) work = issue_on t files_no (record { node = node; server = audit_no }) (Note (note_text t (here work) (change_count t work.node))) (change_count t work.node) work

  pub next_vote_on : (t : Tid) (work : Work) (server : ServerNo) → L work (vote_next t work server)
  next_vote_on t work server = if_on D tid member number (owes_note t server work) (issue_note t work.node.setting.audit work) _ work (λ s. note_on t work.node.setting.audit work) (λ s. vote_on t server _ work)

  pub pass_on : (t : Tid) (part : Participant) (work : Work) → L work (pass_rule t part work)
  pass_on t part work = if_on D tid member number (is_pass_due t part work) (vote_pass t work) work work
      (λ so. then_on D tid member number work (end_members t work) (vote_pass t work) (ended_on D tid member number t work) (fold_on D tid member number (vote_next t) (next_vote_on t) (due_votes t work) (end_members t work)))
      (λ so. itself_on D tid member number work)
