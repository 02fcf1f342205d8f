-- What deeds and whole rules keep, the rules keep that bring them about: answers, requests and replies, serving, decisions and causes.
use Rattle.qs_world_walk.proofs.Words.{Bool, ClientNo, Event, InHand, Later, List, Member, Message, NodeNo, None, Op, OpenCommand, Option, Outcome, Participant, ServerNo, Settles, Some, Stage, Table, Tid, Waits, Whole, Work, [], after, answer}
use Rattle.qs_world_walk.proofs.Words.{become_asked, decide, during, false, here, if◌then◌else◌, inl, inr, is_at, is_undecided, issue_as, lookup, next_number, not, part_of, refl, same_node, send, subst, sym, true, with_doings, with_manager}
use Rattle.qs_world_walk.proofs.Words.{with_queues, ℕ, ◌&&◌, ◌++◌, ◌∷◌, ◌≡◌}
use Rattle.std.proofs.lemmas.Bool.{and_parts, not-true}
use Rattle.std.proofs.lemmas.Option.{same_Some}
use Rattle.qs_ops.specs.Operations.{answer_of}
use Rattle.qs_ops.specs.Server.{after_serving}
use Rattle.qs_ops.specs.declared.answer.Cause.{Cause}
use Rattle.qs_ops.specs.declared.reply.Reply.{Reply}
use Rattle.qs_record.specs.declared.record.Record.{Record}
use Rattle.qs_engage.specs.Engage.{is_node}
use Rattle.qs_ipc.specs.Ipc.{IpcValue}
use Rattle.qs_ipc.specs.Queue.{is_for}
use Rattle.qs_ipc.specs.declared.delivery.Delivery.{Delivery}
use Rattle.qs_tm.specs.Participant.{is_by_files}
use Rattle.qs_tm.specs.declared.manager.Decision.{Decision}
use Rattle.qs_tm.specs.declared.participant.Outstanding.{Outstanding}
use Rattle.qs_node_kept.specs.Keeping.{with_now}
use Rattle.qs_node_servers.specs.Servers.{client_of, is_client, with_server}
use Rattle.qs_node_step.specs.Asking.{ask_came, asked_by, block, closer_came, count, pass_unknown, refusal_came}
use Rattle.qs_node_step.specs.Bringing.{enter, log_if, member_here}
use Rattle.qs_node_step.specs.Deciding.{decide_commit, give_notices, keep_outcome}
use Rattle.qs_node_step.specs.Requests.{answer_issuer, ask_on, enqueue, enter_issue, is_asked, issue_away, issue_here, label_of, reply_came, take_reply, waiting_at, waits_as, with_local}
use Rattle.qs_node_step.specs.Serving.{enter_serve, give_reply, lent_to, make_loan, may_serve, reply_here, serve, serve_all, serve_next, serve_or_drop}
use Rattle.qs_node_step.specs.Settling.{ready}
use Rattle.qs_node_step.specs.State.{change_server, client_cmp}
use Rattle.qs_world_walk.specs.Deed.{Issuer, Why, answer_by, closed, did, issued_by, left, lent, loan_entered, served, taken_reply, waiting}
use Rattle.qs_world_walk.specs.May.{Answers, IsReady, MayAnswer, MayDecide, MayIssue, MayServe, RepliesNow}
use Rattle.qs_world_walk.specs.Stage.{Serves, in_turn}
use Rattle.qs_world_walk.specs.When.{WhenIssued, issuing, replying}
use Rattle.qs_base.specs.declared.identifiers.Outcome.TheVariants as outcomes
use Rattle.qs_ops.specs.declared.answer.Cause.TheVariants as causes
use Rattle.qs_book_journal.specs.declared.entry.Act.TheVariants as acts
use Rattle.qs_ipc.specs.Ipc as ipc
use Rattle.qs_tm.specs.Manager as tm
use Rattle.qs_packet.specs.declared.message.Message.TheVariants as messages
use Rattle.qs_node_step.specs.declared.event.Event.TheVariants as events
use Rattle.qs_world_walk.proofs.First as first
use Rattle.qs_world_walk.proofs.Shapes as shapes
use Rattle.qs_world_walk.specs.Deed as d
use Rattle.qs_world_walk.specs.May as may

-- the command that is in hand is answered
pub closed_is : (P : Work → Type 0) (client : ClientNo) (command : OpenCommand) (work : Work) → InHand client command work → (f : OpenCommand → Work) (n : Work) → P (f command) → P (elim (lookup (is_at (client_cmp client)) work.node.commands) [ None ↦ n | Some c ↦ f c ])
closed_is P client command work there f n h = by (lookup (is_at (client_cmp client)) work.node.commands) there
  where
    by : (o : Option OpenCommand) → o ≡ Some command → P (elim o [ None ↦ n | Some c ↦ f c ])
    by None is = absurd (cc is)
    by (Some c) is = subst (λ (x : OpenCommand). P (f x)) (sym (same_Some c command is)) h

-- an operation waits where its server has such operations
pub waiting_is : (P : Work → Type 0) (server : ServerNo) (delivery : Delivery) (work : Work) → P (waiting server delivery work) → P (enqueue server delivery work)
waiting_is P server delivery work = by (is_for server delivery.op)
  where
    by : (b : Bool) → P (with_queues (λ (queues : IpcValue). if b then ipc.enqueue server delivery queues else queues) work) → P (if b then with_queues (ipc.enqueue server delivery) work else work)
    by true h = h
    by false h = h

-- what is served, test by test
served_is : (server : ServerNo) (delivery : Delivery) (reply : Reply) (work : Work) → served server delivery reply work ≡ make_loan delivery.tid (lent_to delivery.op) (enter_serve server delivery reply (left server work))
served_is server delivery reply work = by (is_client server) (lent_to delivery.op)
  where
    by : (b : Bool) (o : Option ClientNo) → record work {
      node = record work.node {
        queues = ipc.after_next server work.node.queues;
        servers = if b then work.node.servers else with_server server (λ value. after_serving value delivery.tid delivery.op reply) work.node.servers;
        manager = tm.served delivery.tid server work.node.manager;
        kept = with_now (λ kept. record kept { loans = lent delivery.tid work.node.setting.inc o kept.loans }) work.node.kept;
      };
      doings = (with_doings delivery.tid (λ doings. record doings { served = true }) work).doings;
      out = record work.out { entries = loan_entered delivery.tid o (work.out.entries ++ acts.Serve delivery.tid (member_here work server) delivery.from delivery.number reply ∷ []) };
    } ≡ make_loan delivery.tid o (enter (acts.Serve delivery.tid (member_here work server) delivery.from delivery.number reply)
        (with_manager (tm.served delivery.tid server) (with_doings delivery.tid (λ doings. record doings { served = true })
        (if b then left server work else change_server server (λ value. after_serving value delivery.tid delivery.op reply) (left server work)))))
    by true None = refl
    by true (Some client) = refl
    by false None = refl
    by false (Some client) = refl

-- ---- whole rules, from a table

module _ (event : Event) (I : Stage → Work → Type 0) (k : Table event I) where
  ask_on_keeps : (stage : Stage) (b : Bool) (tid : Tid) (to : NodeNo) (work : Work) → I stage work → I stage (ask_on b tid to work)
  ask_on_keeps stage false tid to work h = h
  ask_on_keeps stage true tid to work h = first.send_keeps event I k stage to (messages.AskVote tid) work tt h

  pub issue_as_keeps : (by : Issuer) (tid : Tid) (request : Outstanding) (op : Op) (when : WhenIssued by) (work : Work) → next_number tid request.member.node work ≡ Some request.number → MayIssue by tid request op work
      → I (issuing by tid when) work → I (issuing by tid when) (issue_as tid request op (issued_by by tid request work))
  issue_as_keeps by tid request op when work next reason = shapes.if_keeps P (same_node request.member.node (here noted)) (issue_here tid request op noted) (issue_away tid request op noted) work
      (λ is h. waiting_is P request.member.server (record { tid = tid; from = here noted; number = request.number; op = op; stale = false }) (with_local tid request.number (enter_issue tid request op noted))
      (k (d.IssuesHere by tid request op) when work (is, (next, reason)) h))
      (λ is h. ask_on_keeps (issuing by tid when) (is_asked tid noted) tid request.member.node (send request.member.node message made)
      (first.sent_is P request.member.node message made (k (d.IssuesAway by tid request op) when work (is, (next, reason)) h)))
    where
      P : Work → Type 0
      P w = I (issuing by tid when) w

      noted : Work
      noted = issued_by by tid request work

      made : Work
      made = with_manager (tm.sent tid request.member.node) (enter_issue tid request op noted)

      message : Message
      message = messages.Request tid (label_of tid noted.node) request.member request.number request.issuer op

  pub decided_keeps : (tid : Tid) (outcome : Outcome) (cause : Option Cause) (own : Bool) (work : Work) → MayDecide event tid outcome cause work → I (in_turn own (Settles tid)) work → I (in_turn own (Settles tid)) (decide tid outcome cause work)
  decided_keeps tid outcome cause own work reason h = first.send_each_keeps event I k (in_turn own (Settles tid)) made.tell (messages.Tell tid outcome) (give_notices tid outcome (entered made.rec)) (λ w to. tt)
      (first.noticed_keeps event I k (Later own) tid outcome (entered made.rec) (logged made.rec refl (k (d.Decides tid outcome cause) own work reason h)))
    where
      made : Decision
      made = tm.decision tid outcome work.node.manager

      entered : Option Record → Work
      entered o = enter (acts.Decide tid outcome cause) (keep_outcome tid outcome cause (log_if o (with_manager (tm.decide tid outcome) work)))

      logged : (o : Option Record) → made.rec ≡ o → I (in_turn own (Settles tid)) (did (d.Decides tid outcome cause) work) → I (in_turn own (Settles tid)) (entered o)
      logged None is h = h
      logged (Some rec) is h = k (d.Logs tid rec) (Later own) (did (d.Decides tid outcome cause) work) (may.Decided work outcome cause refl is) h

-- ---- the rules

module _ (event : Event) (I : Stage → Work → Type 0) (r : Whole event I) where
  abbrev P : Work → Type 0
  P work = I after work

  abbrev Keeps : Work → Work → Type 0
  Keeps work new = P work → P new

  -- ---- answers

  pub answer_keeps : (own : Bool) (client : ClientNo) (command : OpenCommand) (why : Why) (work : Work) → InHand client command work → MayAnswer client command why work
      → I (in_turn own (Waits client)) work → I (in_turn own (Waits client)) (answer client (answer_by command why) work)
  answer_keeps own client command why work there reason h = closed_is (I (in_turn own (Waits client))) client command work there (λ c. closed client c (answer_by command why) work) work (r.does (d.Answers client command why) own work tt (there, reason) h)

  -- ---- replies

  pub reply_keeps : (server : Option ServerNo) (tid : Tid) (member : Member) (number : ℕ) (reply : Reply) (work : Work) → RepliesNow event tid member number reply work → I (replying server) work → I (replying server) (reply_came tid member number reply work)
  reply_keeps server tid member number reply work now = shapes.elim_keeps R (waiting_at tid member number work) work (λ request. take_reply tid reply request (taken_reply tid member number work)) work (λ none h. h)
      (λ request waits. shapes.if_keeps R (is_by_files request) (with_manager (tm.note_served tid request.count) dropped) (answer_issuer tid request.member request.number reply (client_of request.issuer) dropped) work
      (λ is. r.does (d.NotesReply tid member number request) server work tt (waits, (is, (reply, now))))
      (λ is. answers request waits is (lookup (is_at (client_cmp (client_of request.issuer))) work.node.commands) refl))
    where
      R : Work → Type 0
      R w = I (replying server) w

      dropped : Work
      dropped = taken_reply tid member number work

      answers : (request : Outstanding) → waiting_at tid member number work ≡ Some request → is_by_files request ≡ false → (o : Option OpenCommand) → lookup (is_at (client_cmp (client_of request.issuer))) work.node.commands ≡ o
          → R work → R (if waits_as tid request.member request.number o then elim o [ None ↦ dropped | Some c ↦ closed (client_of request.issuer) c (answer_of reply) dropped ] else dropped)
      answers request waits is None there = r.does (d.LosesReply tid member number request) server work tt (waits, is)
      answers request waits is (Some command) there = shapes.if_keeps R (waits_as tid request.member request.number (Some command)) (closed (client_of request.issuer) command (answer_of reply) dropped) dropped work
          (λ its. r.does (d.GivesReply tid member number request command reply) server work tt (waits, (is, (there, (its, now)))))
          (λ its. r.does (d.LosesReply tid member number request) server work tt (waits, is))

  -- ---- serving

  module _ (server : ServerNo) where
    abbrev S : Work → Type 0
    S work = I (during (Serves server)) work

    serve_keeps : (delivery : Delivery) (reply : Reply) (work : Work) → MayServe server delivery reply work → S work → S (serve server delivery reply (left server work))
    serve_keeps delivery reply work serves h = subst (λ (w : Work). S (give_reply member delivery reply w)) (served_is server delivery reply work) (given h)
      where
        made : Work
        made = served server delivery reply work

        member : Member
        member = member_here work server

        answered : Message
        answered = messages.Answered delivery.tid member delivery.number reply

        given : S work → S (give_reply member delivery reply made)
        given = shapes.if_keeps S (same_node delivery.from (here made)) (reply_came delivery.tid member delivery.number reply made) (if delivery.stale then made else send delivery.from answered made) work
            (λ own h. reply_keeps (Some server) delivery.tid member delivery.number reply made (may.ServedHere server delivery (record { old = work; may = serves; is = refl }) own refl refl refl)
            (r.does (d.Serves server delivery reply) tt work tt (serves, inl own) h))
            (λ far. shapes.if_keeps S delivery.stale made (send delivery.from answered made) work (λ stale. r.does (d.Serves server delivery reply) tt work tt (serves, inr stale))
            (λ live h. first.sent_is S delivery.from answered made (r.does (d.ServesAway server delivery reply) tt work tt (serves, (far, live)) h)))

    pub serve_next_keeps : (work : Work) → S work → S (serve_next work server)
    serve_next_keeps work = shapes.elim_keeps S (ipc.next server work.node.queues) work (λ delivery. serve_or_drop server delivery (left server work)) work (λ none h. h)
        (λ delivery next. shapes.if_keeps S (may_serve delivery.tid (left server work)) (elim (reply_here server delivery.tid delivery.op (left server work).node) [ None ↦ left server work | Some reply ↦ serve server delivery reply (left server work) ]) (left server work) work
        (λ may. shapes.elim_keeps S (reply_here server delivery.tid delivery.op (left server work).node) (left server work) (λ reply. serve server delivery reply (left server work)) work (λ none. r.does (d.Drops server delivery) tt work tt next)
        (λ reply says. serve_keeps delivery reply work (record { first = next; runs = may; says = says })))
        (λ may. r.does (d.Drops server delivery) tt work tt next))

    -- in its turn
    pub serve_turn_keeps : event ≡ events.ServeAll → (work : Work) → Keeps work (serve_next work server)
    serve_turn_keeps is work h = r.does (d.Rests (Serves server)) tt (serve_next work server) tt is (serve_next_keeps work (r.does (d.Turns (Serves server)) tt work tt is h))

  pub serve_all_keeps : event ≡ events.ServeAll → (work : Work) → Keeps work (serve_all work)
  serve_all_keeps is work = shapes.fold_keeps P serve_next (λ w server. serve_turn_keeps server is w) (ipc.turns work.node.queues) work

  -- ---- decisions

  pub commit_keeps : (tid : Tid) (part : Participant) (work : Work) → IsReady tid part work → I (during (Settles tid)) work → I (during (Settles tid)) (decide_commit tid work)
  commit_keeps tid part work ready = shapes.elim_keeps (I (during (Settles tid))) (tm.need_past tid work.room work.node.manager) (decide tid outcomes.Commit None work) (λ need. decide tid outcomes.Abort (Some (causes.Room need work.room)) work) work
      (λ none. r.decides tid outcomes.Commit None true work (refl, (none, (part, ready))))
      (λ need is. r.decides tid outcomes.Abort (Some (causes.Room need work.room)) true work (may.NoRoom part need ready is refl))

  -- ---- asking, counting, and causes

  pub ask_came_keeps : (peer : NodeNo) (tid : Tid) (work : Work) → event ≡ events.Received peer (messages.AskVote tid) → Keeps work (ask_came peer tid work)
  ask_came_keeps peer tid work is = shapes.open_keeps P tid (asked_by peer tid) work (λ part running. shapes.if_keeps P (is_node peer part.engage.superior && (not part.engage.home && not part.asked)) (become_asked tid part work) work work
      (λ due. let rest : (not part.engage.home && not part.asked) ≡ true = (and_parts (is_node peer part.engage.superior) _ due).1 in
      r.asked peer tid part work (is, (part, (running, ((and_parts (is_node peer part.engage.superior) _ due).0, (not-true part.engage.home (and_parts (not part.engage.home) _ rest).0, not-true part.asked (and_parts (not part.engage.home) _ rest).1))))) running)
      (λ due h. h))

  pub closer_keeps : (peer : NodeNo) (tid : Tid) (up_to : ℕ) (told : List NodeNo) (work : Work) → Answers event peer tid up_to told → Keeps work (closer_came peer tid up_to told work)
  closer_keeps peer tid up_to told work is = shapes.elim_keeps P (part_of tid work) work (λ part. if is_undecided part then count peer tid up_to told work else work) work
      (λ none. r.does (d.Ignores peer tid up_to told) tt work tt (inl none, is))
      (λ part known. shapes.if_keeps P (is_undecided part) (count peer tid up_to told work) work work
      (λ free. r.does (d.Counts peer tid up_to told) tt work tt ((part, record { known = known; undecided = free }), is))
      (λ over. r.does (d.Ignores peer tid up_to told) tt work tt (inr (part, (known, over)), is)))

  pub refusal_keeps : (peer : NodeNo) (tid : Tid) (cause : Cause) (work : Work) → event ≡ events.Received peer (messages.VotedAbort tid cause) → Keeps work (refusal_came tid cause work)
  refusal_keeps peer tid cause work is = shapes.elim_keeps P (part_of tid work) (pass_unknown tid cause work) (λ part. if is_undecided part then block tid cause work else work) work
      (λ none. shapes.if_keeps P (same_node tid.home (here work)) work (send tid.home (messages.VotedAbort tid cause) work) work (λ home h. h) (λ away. first.lone_send event I r after tid.home (messages.VotedAbort tid cause) work (refl, (away, (none, (peer, is))))))
      (λ part known. shapes.if_keeps P (is_undecided part) (block tid cause work) work work (λ free. r.does (d.Blocks tid cause) tt work tt (inl (peer, (is, (part, record { known = known; undecided = free }))))) (λ over h. h))
