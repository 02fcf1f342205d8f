-- Each rule of a step leaves what was served and what waits within the numbers that were given; a request is issued where that is known of its transaction.
use Rattle.qs_world_runs.proofs.Words.{◌≡◌, ℕ, ◌+◌, ◌≤◌, ◌==◌, arith, Bool, true, false, List, [], ◌∷◌, ◌++◌, fold, Option, Some, None, refl, sym, subst, ◌∙◌, le_refl, nat_tests, insert_entry, is_at, lookup, remove_entry, slice_index_or, if◌then◌else◌, ClientNo, Member, NodeNo, ServerNo, Tid, last_number, uncovered, listed, same_node, Delivery, answer_of, after_serving, Answer, Cause, Op, Reply, Notice, Vote, tid_cmp, server_no, Message, Record, client_of, is_client, become_asked}
use Rattle.qs_world_runs.proofs.Words.{where_undecided, answer, enter, is_other, log_if, member_here, send, send_each, send_next, tid_of, due_endings, end_member, end_members, give_notices, keep_outcome, learn_member, learn_members, learners_at, notice_of, notify, answer_issuer, ask_on, enter_issue, is_asked, issue, issue_away, issue_here, label_of, next_local, reply_came, take_reply, waits_as, with_local, enter_serve, lent_to, make_loan, reply_here, serve, serve_all, serve_next}
use Rattle.qs_world_runs.proofs.Words.{serve_or_drop, Work, change_server, client_cmp, here, with_doings, with_manager, OpenCommand, ballot_of, no_member, MemberPart, is_by_files, is_undecided, member_of, Decision, Outstanding, Participant, AreTallied, IsTallied, Tally, tally_of}
use Rattle.qs_base.specs.declared.identifiers.Outcome.{Outcome}
use Rattle.qs_base.specs.declared.identifiers.Outcome.TheVariants as outcomes
use Rattle.qs_ipc.specs.Ipc as ipc
use Rattle.qs_ipc.specs.Queue.{is_for}
use Rattle.qs_book_journal.specs.declared.entry.Act.TheVariants as acts
use Rattle.qs_ops.specs.declared.answer.Cause.TheVariants as causes
use Rattle.qs_ops.specs.declared.vote.Notice.TheVariants as notices
use Rattle.qs_packet.specs.declared.message.Message.TheVariants as messages
use Rattle.qs_node_step.specs.Bringing.{log}
use Rattle.qs_node_step.specs.Deciding.{decide, decide_commit}
use Rattle.qs_node_step.specs.Requests as requests
use Rattle.qs_node_step.specs.Requests.{local_count}
use Rattle.qs_node_step.specs.Serving.{may_serve}
use Rattle.qs_node_step.specs.State.{part_of}
use Rattle.qs_node_step.specs.State as state
use Rattle.qs_tm.specs.Manager as tm
use Rattle.qs_tm.specs.Outcomes as outcome_rules
use Rattle.qs_tm.specs.Participant as participant
use Rattle.qs_world_lawful.proofs.FactsQuiet.{sent_home}
use Rattle.qs_world_runs.proofs.TalliedLoans.{lend_tallied}
use Rattle.qs_world_runs.proofs.TalliedParts.{IsStill, ask_tallied, part_tallied, same_served}
use Rattle.qs_world_runs.proofs.TalliedQueues.{enqueued_tallied, left_tallied, refused_tallied, served_it, served_tallied}

-- ---- what counts no more

issued_still : (request : Outstanding) → IsStill (participant.issued request)
issued_still request = record { home = λ p. refl; outcome = λ p e. e; asked = λ p e. e; served = λ p s. le_refl (member_of p (server_no s)).served }

sent_still : (to : NodeNo) → IsStill (participant.sent to)
sent_still to = record { home = λ p. sent_home to p.engage; outcome = λ p e. e; asked = λ p e. e; served = λ p s. le_refl (member_of p (server_no s)).served }

logged_still : (rec : Record) → IsStill (outcome_rules.logged rec)
logged_still rec = record { home = λ p. refl; outcome = λ p e. e; asked = λ p e. e; served = λ p s. le_refl (member_of p (server_no s)).served }

pub plain_still : (f : Participant → Participant) → ((p : Participant) → (f p).engage.home ≡ p.engage.home) → ((p : Participant) → (f p).outcome ≡ p.outcome) → ((p : Participant) → (f p).asked ≡ p.asked) → ((p : Participant) → (f p).members ≡ p.members) → IsStill f
plain_still f home outcome asked members = record {
  home = home;
  outcome = λ p e. sym (outcome p) ∙ e;
  asked = λ p e. sym (asked p) ∙ e;
  served = λ p s. subst (λ (ms : List MemberPart). (slice_index_or ms s no_member).served ≤ (member_of p (server_no s)).served) (sym (members p)) (le_refl (member_of p (server_no s)).served);
}

settled_still : (server : ServerNo) → IsStill (outcome_rules.settled server)
settled_still server = record { home = λ p. refl; outcome = λ p e. e; asked = λ p e. e; served = λ p s. same_served p server (record (member_of p server) { fresh = false }) refl s }

decided_still : (outcome : Outcome) → IsStill (outcome_rules.decided outcome)
decided_still outcome = record { home = λ p. refl; outcome = λ p e. absurd (cc e); asked = λ p e. e; served = λ p s. le_refl (member_of p (server_no s)).served }

pub voted_still : (member : Member) (vote : Vote) (covers : ℕ) → IsStill (participant.voted member vote covers)
voted_still member vote covers = record {
  home = λ p. refl;
  outcome = λ p e. e;
  asked = λ p e. e;
  served = λ p s. same_served (participant.with_causes_of member vote p) member.server (record (member_of p member.server) { vote = Some (record { ballot = ballot_of vote; covers = covers }) }) refl s;
}

-- one more number may be given
below_last : (a b : ℕ) → (a == b) ≡ false → a ≤ b → a + 1 ≤ b
below_last a b other most = grind (arith, nat_tests, other, most)

module _ (W : Tid → Type 0) where
  abbrev pub Keeps : Work → Work → Type 0
  Keeps work new = AreTallied W (tally_of work.node) → AreTallied W (tally_of new.node)

  -- ---- shapes

  pub if_keeps : (b : Bool) (x y work : Work) → (b ≡ true → Keeps work x) → (b ≡ false → Keeps work y) → Keeps work (if b then x else y)
  if_keeps true x y work p q = p refl
  if_keeps false x y work p q = q refl

  pub elim_keeps : {A : Type 0} (o : Option A) (n : Work) (f : A → Work) (work : Work) → Keeps work n → ((x : A) → o ≡ Some x → Keeps work (f x)) → Keeps work (elim o [ None ↦ n | Some x ↦ f x ])
  elim_keeps None n f work p q = p
  elim_keeps (Some x) n f work p q = q x refl

  pub fold_keeps : {A : Type 0} (f : Work → A → Work) → ((w : Work) (x : A) → Keeps w (f w x)) → (xs : List A) (work : Work) → Keeps work (fold f work xs)
  fold_keeps f each [] work h = h
  fold_keeps f each (x ∷ xs) work h = fold_keeps f each xs (f work x) (each work x h)

  pub undecided_keeps : (tid : Tid) (rule : Participant → Work → Work) (work : Work) → ((part : Participant) → part_of tid work ≡ Some part → is_undecided part ≡ true → Keeps work (rule part work)) → Keeps work (where_undecided tid rule work)
  undecided_keeps tid rule work each = elim_keeps (part_of tid work) work (λ part. if is_undecided part then rule part work else work) work (λ h. h)
      (λ part known. if_keeps (is_undecided part) (rule part work) work work (λ is. each part known is) (λ is h. h))

  pub part_keeps : (tid : Tid) (f : Participant → Participant) (work : Work) → IsStill f → Keeps work (with_manager (tm.with_part tid f) work)
  part_keeps tid f work still h = part_tallied W tid f still (tally_of work.node) h

  -- ---- messages, answers and records

  pub send_keeps : (to : NodeNo) (message : Message) (work : Work) → Keeps work (send to message work)
  send_keeps to message work = if_keeps (is_other work.node.setting to) (record work { out = record work.out { messages = work.out.messages ++ record { to = to; message = message } ∷ [] } }) work work (λ is h. h) (λ is h. h)

  pub send_each_keeps : (nodes : List NodeNo) (message : Message) (work : Work) → Keeps work (send_each nodes message work)
  send_each_keeps nodes message work = fold_keeps (send_next message) (λ w to. send_keeps to message w) nodes work

  pub log_keeps : (rec : Record) (work : Work) → Keeps work (log rec work)
  log_keeps rec work h = part_tallied W (tid_of rec) (outcome_rules.logged rec) (logged_still rec) (tally_of work.node) h

  pub log_if_keeps : (o : Option Record) (work : Work) → Keeps work (log_if o work)
  log_if_keeps None work h = h
  log_if_keeps (Some rec) work h = log_keeps rec work h

  pub answer_keeps : (client : ClientNo) (said : Answer) (work : Work) → Keeps work (answer client said work)
  answer_keeps client said work = by (lookup (is_at (client_cmp client)) work.node.commands)
    where
      answered : OpenCommand → Work
      answered command = record work {
        node = record work.node { commands = remove_entry (is_at (client_cmp client)) work.node.commands };
        out = record work.out {
          answers = work.out.answers ++ record { client = client; answer = record { line = command.line.line; answer = said } } ∷ [];
          entries = work.out.entries ++ acts.Answer client command.line.line said ∷ [];
        };
      }

      by : (o : Option OpenCommand) → Keeps work (elim o [ None ↦ work | Some command ↦ answered command ])
      by None g = g
      by (Some command) g = g

  -- ---- requests

  pub here_keeps : (tid : Tid) (issuer : ServerNo) (member : Member) (changes : ℕ) (op : Op) (work : Work) → (local_count tid work.node == last_number) ≡ false → IsTallied tid (tally_of work.node)
      → Keeps work (issue_here tid (record { issuer = issuer; member = member; number = local_count tid work.node + 1; count = changes }) op work)
  here_keeps tid issuer member changes op work left its h = by (is_for member.server op)
    where
      request : Outstanding
      request = record { issuer = issuer; member = member; number = local_count tid work.node + 1; count = changes }

      delivery : Delivery
      delivery = record { tid = tid; from = here work; number = request.number; op = op; stale = false }

      t : Tally
      t = tally_of work.node

      room : local_count tid work.node + 1 ≤ last_number
      room = below_last (local_count tid work.node) last_number left (h.given tid)

      by : (b : Bool) → AreTallied W (tally_of (if b then state.with_queues (ipc.enqueue member.server delivery) (with_local tid request.number (enter_issue tid request op work)) else with_local tid request.number (enter_issue tid request op work)).node)
      by true = part_tallied W tid (participant.issued request) (issued_still request) (record t { queues = ipc.enqueue member.server delivery t.queues; locals = insert_entry tid_cmp t.locals tid request.number }) (enqueued_tallied W tid t its room h member.server delivery refl)
      by false = part_tallied W tid (participant.issued request) (issued_still request) (record t { locals = insert_entry tid_cmp t.locals tid request.number }) (refused_tallied W tid t its room h)

  ask_on_keeps : (b : Bool) (tid : Tid) (to : NodeNo) (work : Work) → Keeps work (ask_on b tid to work)
  ask_on_keeps false tid to work h = h
  ask_on_keeps true tid to work h = send_keeps to (messages.AskVote tid) work h

  pub away_keeps : (tid : Tid) (request : Outstanding) (op : Op) (work : Work) → Keeps work (issue_away tid request op work)
  away_keeps tid request op work h = ask_on_keeps (is_asked tid work) tid request.member.node (send request.member.node message made)
      (send_keeps request.member.node message made (part_keeps tid (participant.sent request.member.node) (enter_issue tid request op work) (sent_still request.member.node) (part_tallied W tid (participant.issued request) (issued_still request) (tally_of work.node) h)))
    where
      message : Message
      message = messages.Request tid (label_of tid work.node) request.member request.number request.issuer op

      made : Work
      made = with_manager (tm.sent tid request.member.node) (enter_issue tid request op work)

  pub issue_keeps : (tid : Tid) (issuer : ServerNo) (member : Member) (op : Op) (changes : ℕ) (work : Work) → IsTallied tid (tally_of work.node) → Keeps work (issue tid issuer member op changes work)
  issue_keeps tid issuer member op changes work its = by (same_node member.node (here work))
    where
      request : ℕ → Outstanding
      request number = record { issuer = issuer; member = member; number = number; count = changes }

      near : (full : Bool) → (local_count tid work.node == last_number) ≡ full → Keeps work (elim (if full then None else Some (local_count tid work.node + 1)) [ None ↦ work | Some number ↦ issue_here tid (request number) op work ])
      near true is h = h
      near false is h = here_keeps tid issuer member changes op work is its h

      by : (b : Bool) → Keeps work (elim (if b then next_local tid work.node else tm.sent_as tid member.node work.node.manager) [ None ↦ work | Some number ↦ if b then issue_here tid (request number) op work else issue_away tid (request number) op work ])
      by true = near (local_count tid work.node == last_number) refl
      by false = elim_keeps (tm.sent_as tid member.node work.node.manager) work (λ number. issue_away tid (request number) op work) work (λ h. h) (λ number is. away_keeps tid (request number) op work)

  -- ---- replies

  take_reply_keeps : (tid : Tid) (reply : Reply) (request : Outstanding) (work : Work) → Keeps work (take_reply tid reply request work)
  take_reply_keeps tid reply request work = if_keeps (is_by_files request) (with_manager (tm.note_served tid request.count) work) (answer_issuer tid request.member request.number reply (client_of request.issuer) work) work
      (λ is. part_keeps tid (participant.note_served request.count) work (plain_still (participant.note_served request.count) (λ p. refl) (λ p. refl) (λ p. refl) (λ p. refl)))
      (λ is. if_keeps (waits_as tid request.member request.number (lookup (is_at (client_cmp (client_of request.issuer))) work.node.commands)) (answer (client_of request.issuer) (answer_of reply) work) work work (λ w. answer_keeps (client_of request.issuer) (answer_of reply) work) (λ w h. h))

  reply_keeps : (tid : Tid) (member : Member) (number : ℕ) (reply : Reply) (work : Work) → Keeps work (reply_came tid member number reply work)
  reply_keeps tid member number reply work = elim_keeps (requests.waiting_at tid member number work) work (λ request. take_reply tid reply request (with_manager (tm.drop_waiting tid member number) work)) work (λ h. h)
      (λ request is h. take_reply_keeps tid reply request (with_manager (tm.drop_waiting tid member number) work)
      (part_keeps tid (participant.drop_waiting member number) work (plain_still (participant.drop_waiting member number) (λ p. refl) (λ p. refl) (λ p. refl) (λ p. refl)) h))

  -- ---- serving

  module _ (server : ServerNo) (delivery : Delivery) (reply : Reply) (work : Work) (next : ipc.next server work.node.queues ≡ Some delivery) (h : AreTallied W (tally_of work.node)) where
    abbrev left : Work
    left = state.with_queues (ipc.after_next server) work

    abbrev after : Bool → Work
    after b = enter (acts.Serve delivery.tid (member_here left server) delivery.from delivery.number reply)
        (with_manager (tm.served delivery.tid server) (with_doings delivery.tid (λ doings. record doings { served = true }) (if b then left else change_server server (λ value. after_serving value delivery.tid delivery.op reply) left)))

    after_tallied : (b : Bool) → AreTallied W (tally_of (after b).node)
    after_tallied true = served_tallied W server delivery (tally_of work.node) next h
    after_tallied false = served_tallied W server delivery (tally_of work.node) next h

    after_it : (b : Bool) → IsTallied delivery.tid (tally_of (after b).node)
    after_it true = served_it W server delivery (tally_of work.node) next h
    after_it false = served_it W server delivery (tally_of work.node) next h

    loan_tallied : (b : Bool) (o : Option ClientNo) → AreTallied W (tally_of (make_loan delivery.tid o (after b)).node)
    loan_tallied b None = after_tallied b
    loan_tallied b (Some client) = lend_tallied W (record { tid = delivery.tid; client = client; inc = (after b).node.setting.inc; taken = false; yielded = false }) (tally_of (after b).node) (after_it b) (after_tallied b)

    serve_keeps : AreTallied W (tally_of (serve server delivery reply left).node)
    serve_keeps = given (loan_tallied (is_client server) (lent_to delivery.op))
      where
        lends : Work
        lends = make_loan delivery.tid (lent_to delivery.op) (enter_serve server delivery reply left)

        given : Keeps lends (serve server delivery reply left)
        given = if_keeps (same_node delivery.from (here lends)) (reply_came delivery.tid (member_here left server) delivery.number reply lends)
            (if delivery.stale then lends else send delivery.from (messages.Answered delivery.tid (member_here left server) delivery.number reply) lends) lends
            (λ is. reply_keeps delivery.tid (member_here left server) delivery.number reply lends)
            (λ is. if_keeps delivery.stale lends (send delivery.from (messages.Answered delivery.tid (member_here left server) delivery.number reply) lends) lends
            (λ s h. h) (λ s. send_keeps delivery.from (messages.Answered delivery.tid (member_here left server) delivery.number reply) lends))

  serve_next_keeps : (work : Work) (server : ServerNo) → Keeps work (serve_next work server)
  serve_next_keeps work server = elim_keeps (ipc.next server work.node.queues) work (λ delivery. serve_or_drop server delivery dropped) work (λ h. h)
      (λ delivery next. if_keeps (may_serve delivery.tid dropped) (elim (reply_here server delivery.tid delivery.op dropped.node) [ None ↦ dropped | Some reply ↦ serve server delivery reply dropped ]) dropped work
      (λ may. elim_keeps (reply_here server delivery.tid delivery.op dropped.node) dropped (λ reply. serve server delivery reply dropped) work (left_tallied W server delivery (tally_of work.node) next) (λ reply says h. serve_keeps server delivery reply work next h))
      (λ may. left_tallied W server delivery (tally_of work.node) next))
    where
      dropped : Work
      dropped = state.with_queues (ipc.after_next server) work

  pub serve_all_keeps : (work : Work) → Keeps work (serve_all work)
  serve_all_keeps work = fold_keeps serve_next serve_next_keeps (ipc.turns work.node.queues) work

  -- ---- notices and decisions

  notify_keeps : (tid : Tid) (notice : Notice) (server : ServerNo) (work : Work) → Keeps work (notify tid notice server work)
  notify_keeps tid notice server work h = part_tallied W tid (outcome_rules.settled server) (settled_still server) (tally_of work.node) h

  pub ended_keeps : (tid : Tid) (work : Work) → Keeps work (end_members tid work)
  ended_keeps tid work = fold_keeps (end_member tid) (λ w s h. notify_keeps tid notices.Ending s w h) (due_endings tid work) work

  learnt_keeps : (tid : Tid) (outcome : Outcome) (work : Work) → Keeps work (learn_members tid outcome work)
  learnt_keeps tid outcome work = fold_keeps (learn_member tid outcome) (λ w s h. notify_keeps tid (notice_of outcome) s w h) (learners_at tid work) work

  pub noticed_keeps : (tid : Tid) (outcome : Outcome) (work : Work) → Keeps work (give_notices tid outcome work)
  noticed_keeps tid outcomes.Commit work h = learnt_keeps tid outcomes.Commit work h
  noticed_keeps tid outcomes.Abort work h = learnt_keeps tid outcomes.Abort (end_members tid work) (ended_keeps tid work h)

  pub decided_keeps : (tid : Tid) (outcome : Outcome) (cause : Option Cause) (work : Work) → Keeps work (decide tid outcome cause work)
  decided_keeps tid outcome cause work h = send_each_keeps made.tell (messages.Tell tid outcome) (give_notices tid outcome entered) (noticed_keeps tid outcome entered
      (log_if_keeps made.rec (with_manager (tm.decide tid outcome) work) (part_keeps tid (outcome_rules.decided outcome) work (decided_still outcome) h)))
    where
      made : Decision
      made = tm.decision tid outcome work.node.manager

      entered : Work
      entered = enter (acts.Decide tid outcome cause) (keep_outcome tid outcome cause (log_if made.rec (with_manager (tm.decide tid outcome) work)))

  pub commit_keeps : (tid : Tid) (work : Work) → Keeps work (decide_commit tid work)
  commit_keeps tid work = elim_keeps (tm.need_past tid work.room work.node.manager) (decide tid outcomes.Commit None work) (λ need. decide tid outcomes.Abort (Some (causes.Room need work.room)) work) work
      (decided_keeps tid outcomes.Commit None work) (λ need is. decided_keeps tid outcomes.Abort (Some (causes.Room need work.room)) work)

  pub become_asked_keeps : (tid : Tid) (part : Participant) (work : Work) → ((p : Participant) → part_of tid work ≡ Some p → p.engage.home ≡ true) → Keeps work (become_asked tid part work)
  become_asked_keeps tid part work home h = send_each_keeps (listed (uncovered part.engage)) (messages.AskVote tid) (with_manager (tm.ask tid) work) (ask_tallied W tid (tally_of work.node) home h)
