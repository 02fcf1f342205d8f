-- What is known in a pass over the servers stays known: notices, votes and requests leave what a node knows of its log.
use Rattle.std.proofs.Common.{◌≡◌, ℕ, Bool, true, false, List, [], ◌∷◌, Option, Some, None, refl, sym, ap, ◌∙◌, fold, if◌then◌else◌}
use Rattle.std.specs.Prelude.{is_some}
use Rattle.std.specs.Map.{lookup}
use Rattle.std.specs.BTreeMap.{is_at}
use Rattle.qs_base.specs.Order.{tid_cmp}
use Rattle.qs_base.specs.declared.identifiers.NodeNo.{NodeNo}
use Rattle.qs_base.specs.declared.identifiers.Outcome.{Outcome}
use Rattle.qs_base.specs.declared.identifiers.Outcome.TheVariants as outcomes
use Rattle.qs_base.specs.declared.identifiers.ServerNo.{ServerNo}
use Rattle.qs_base.specs.declared.identifiers.Tid.{Tid}
use Rattle.qs_book_journal.specs.declared.entry.Act.TheVariants as acts
use Rattle.qs_ops.specs.Server.{changes_in, vote_of}
use Rattle.qs_ops.specs.declared.operation.Op.TheVariants.{Note}
use Rattle.qs_ops.specs.declared.vote.Vote.{Vote}
use Rattle.qs_ops.specs.declared.vote.Vote.TheVariants as votes
use Rattle.qs_ops.specs.declared.vote.Notice.{Notice}
use Rattle.qs_ops.specs.declared.vote.Notice.TheVariants as notices
use Rattle.qs_ops.specs.Server.{after_notice}
use Rattle.qs_packet.specs.declared.message.Message.TheVariants as messages
use Rattle.qs_record.specs.declared.record.Record.TheVariants as made
use Rattle.qs_node_servers.specs.Servers.{audit_no, server_at}
use Rattle.qs_node_step.specs.Bringing.{enter, member_here}
use Rattle.qs_node_step.specs.Deciding.{due_endings, end_member, end_members, give_notices, learn_member, learners_at, notice_of, notify}
use Rattle.qs_node_step.specs.State.{Work, change_server, here, part_of, with_manager}
use Rattle.qs_node_step.specs.Voting.{change_count, enter_vote, issue_note, note_text, owes_note, served_count, vote_frame, vote_next, vote_with}
use Rattle.qs_tm.specs.Manager as tm
use Rattle.qs_tm.specs.Members as members
use Rattle.qs_tm.specs.Members.{all_servers}
use Rattle.qs_tm.specs.Outcomes as outcome_rules
use Rattle.qs_tm.specs.Outcomes.{told_with_own}
use Rattle.qs_tm.specs.Participant as participant
use Rattle.qs_tm.specs.Participant.{is_due_at, is_forgotten, is_undecided, only_read, servers_due}
use Rattle.qs_tm.specs.declared.participant.Participant.{Participant}
use Rattle.qs_node_room.proofs.Goes.{log_of}
use Rattle.qs_book_laws.proofs.Maps.{lookup_changed, changed_alike}
use Rattle.std.specs.Prelude.{◌++◌}
use Rattle.std.specs.Option.{option_map}
use Rattle.qs_base.specs.declared.identifiers.Member.{Member}
use Rattle.qs_engage.specs.Nodes.{same_node}
use Rattle.qs_ipc.specs.Ipc as ipc
use Rattle.qs_ipc.specs.Queue.{is_for}
use Rattle.qs_ipc.specs.declared.delivery.Delivery.{Delivery}
use Rattle.qs_ops.specs.declared.operation.Op.{Op}
use Rattle.qs_packet.specs.declared.message.Message.{Message}
use Rattle.qs_node_step.specs.Bringing.{is_other, send}
use Rattle.qs_node_step.specs.Requests.{ask_on, enqueue, enter_issue, is_asked, issue, issue_as, issue_away, issue_here, label_of, next_number, with_local}
use Rattle.qs_node_step.specs.State.{with_queues}
use Rattle.qs_tm.specs.declared.participant.Outstanding.{Outstanding}

-- a rule that leaves what its node knows of a log leaves what is known
abbrev pub SameLogs : Work → Work → Type 0
SameLogs work new = (tid : Tid) → log_of tid new ≡ log_of tid work

same_then : (work mid new : Work) → SameLogs work mid → SameLogs mid new → SameLogs work new
same_then work mid new a b tid = b tid ∙ a tid

pub same_part : (t : Tid) (f : Participant → Participant) (work : Work) → ((part : Participant) → (f part).log ≡ part.log) → SameLogs work (with_manager (tm.with_part t f) work)
same_part t f work keeps tid = changed_alike (is_at (tid_cmp t)) (λ (part : Participant). part.log) f keeps (is_at (tid_cmp tid)) work.node.manager.known

same_fold : {A : Type 0} (f : Work → A → Work) → ((work : Work) (a : A) → SameLogs work (f work a)) → (xs : List A) (work : Work) → SameLogs work (fold f work xs)
same_fold f each [] work = λ tid. refl
same_fold f each (x ∷ xs) work = same_then work (f work x) (fold f (f work x) xs) (each work x) (same_fold f each xs (f work x))

same_notify : (t : Tid) (notice : Notice) (server : ServerNo) (work : Work) → SameLogs work (notify t notice server work)
same_notify t notice server work = same_part t (outcome_rules.settled server) (change_server server (λ value. after_notice value t notice) work) (λ part. refl)

same_end : (t : Tid) (work : Work) (server : ServerNo) → SameLogs work (end_member t work server)
same_end t work server = same_notify t notices.Ending server work

pub same_ends : (t : Tid) (work : Work) → SameLogs work (end_members t work)
same_ends t work = same_fold (end_member t) (same_end t) (due_endings t work) work

same_learn : (t : Tid) (outcome : Outcome) (work : Work) (server : ServerNo) → SameLogs work (learn_member t outcome work server)
same_learn t outcome work server = same_notify t (notice_of outcome) server work

pub same_notices : (t : Tid) (outcome : Outcome) (work : Work) → SameLogs work (give_notices t outcome work)
same_notices t outcomes.Commit work = same_fold (learn_member t outcomes.Commit) (same_learn t outcomes.Commit) (learners_at t work) work
same_notices t outcomes.Abort work = let ended : Work = end_members t work in same_then work ended (give_notices t outcomes.Abort work) (same_ends t work) (same_fold (learn_member t outcomes.Abort) (same_learn t outcomes.Abort) (learners_at t ended) ended)

same_send : (to : NodeNo) (message : Message) (work : Work) → SameLogs work (send to message work)
same_send to message work tid = by (is_other work.node.setting to)
  where
    by : (b : Bool) → log_of tid (if b then record work { out = record work.out { messages = work.out.messages ++ record { to = to; message = message } ∷ [] } } else work) ≡ log_of tid work
    by true = refl
    by false = refl

same_if : (b : Bool) (work x y : Work) → SameLogs work x → SameLogs work y → SameLogs work (if b then x else y)
same_if true work x y p q = p
same_if false work x y p q = q

same_enqueue : (server : ServerNo) (delivery : Delivery) (work : Work) → SameLogs work (enqueue server delivery work)
same_enqueue server delivery work = same_if (is_for server delivery.op) work (with_queues (ipc.enqueue server delivery) work) work (λ tid. refl) (λ tid. refl)

same_issue_as : (t : Tid) (request : Outstanding) (op : Op) (work : Work) → SameLogs work (issue_as t request op work)
same_issue_as t request op work = same_if (same_node request.member.node (here work)) work (issue_here t request op work) (issue_away t request op work)
    (same_then work local (issue_here t request op work) entered_same (same_enqueue request.member.server (record { tid = t; from = here work; number = request.number; op = op; stale = false }) local))
    (same_then work sent (issue_away t request op work) (same_then work entered sent entered_same (same_part t (participant.sent request.member.node) entered (λ part. refl)))
    (same_then sent (send request.member.node message sent) (issue_away t request op work) (same_send request.member.node message sent) (asks (is_asked t work))))
  where
    entered : Work
    entered = enter_issue t request op work

    entered_same : SameLogs work entered
    entered_same = same_part t (participant.issued request) (enter (acts.Issue t (member_here work request.issuer) request.member request.number op) work) (λ part. refl)

    local : Work
    local = with_local t request.number entered

    sent : Work
    sent = with_manager (tm.sent t request.member.node) entered

    message : Message
    message = messages.Request t (label_of t work.node) request.member request.number request.issuer op

    asks : (b : Bool) → SameLogs (send request.member.node message sent) (ask_on b t request.member.node (send request.member.node message sent))
    asks false = λ tid. refl
    asks true = same_send request.member.node (messages.AskVote t) (send request.member.node message sent)

same_issue : (t : Tid) (issuer : ServerNo) (member : Member) (op : Op) (count : ℕ) (work : Work) → SameLogs work (issue t issuer member op count work)
same_issue t issuer member op count work = by (next_number t member.node work)
  where
    by : (o : Option ℕ) → SameLogs work (elim o [ None ↦ work | Some number ↦ issue_as t (record { issuer = issuer; member = member; number = number; count = count }) op work ])
    by None = λ tid. refl
    by (Some number) = same_issue_as t (record { issuer = issuer; member = member; number = number; count = count }) op work

pub known_on : (tid : Tid) (work new : Work) → SameLogs work new → is_some (part_of tid work) ≡ true → is_some (part_of tid new) ≡ true
known_on tid work new same some = by (part_of tid work) (part_of tid new) (same tid) some
  where
    by : (o n : Option Participant) → option_map (λ (part : Participant). part.log) n ≡ option_map (λ (part : Participant). part.log) o → is_some o ≡ true → is_some n ≡ true
    by o (Some part) e is = refl
    by None None e is = is
    by (Some part) None e is = absurd (cc e)

changed_known : (tid : Tid) (f : Participant → Participant) (known : List (Tid × Participant)) → is_some (lookup (is_at (tid_cmp tid)) known) ≡ true → is_some (lookup (is_at (tid_cmp tid)) (tm.changed_value (is_at (tid_cmp tid)) f known)) ≡ true
changed_known tid f known some = by (lookup (is_at (tid_cmp tid)) known) refl
  where
    by : (o : Option Participant) → lookup (is_at (tid_cmp tid)) known ≡ o → is_some (lookup (is_at (tid_cmp tid)) (tm.changed_value (is_at (tid_cmp tid)) f known)) ≡ true
    by None none = absurd (cc (sym (ap is_some none) ∙ some))
    by (Some part) is = ap is_some (lookup_changed (is_at (tid_cmp tid)) f known part is)

vote_known : (tid : Tid) (server : ServerNo) (ballot : Vote) (work : Work) → is_some (part_of tid work) ≡ true → is_some (part_of tid (vote_with tid server ballot work)) ≡ true
vote_known tid server votes.Recoverable work some = changed_known tid (outcome_rules.logged (made.Prepare tid server (served_count tid server (enter_vote tid server votes.Recoverable work)) (changes_in (server_at (enter_vote tid server votes.Recoverable work).node.servers server) tid))) (enter_vote tid server votes.Recoverable work).node.manager.known
    (changed_known tid (participant.voted (member_here work server) votes.Recoverable (served_count tid server work)) work.node.manager.known some)
vote_known tid server votes.ReadOnly work some = changed_known tid (participant.voted (member_here work server) votes.ReadOnly (served_count tid server work)) work.node.manager.known some
vote_known tid server votes.Volatile work some = changed_known tid (participant.voted (member_here work server) votes.Volatile (served_count tid server work)) work.node.manager.known some
vote_known tid server (votes.Abort reason) work some = changed_known tid (participant.voted (member_here work server) (votes.Abort reason) (served_count tid server work)) work.node.manager.known some

pub next_known : (tid : Tid) (work : Work) (server : ServerNo) → is_some (part_of tid work) ≡ true → is_some (part_of tid (vote_next tid work server)) ≡ true
next_known tid work server some = by (owes_note tid server work)
  where
    note : (o : Option NodeNo) → SameLogs work (issue_note tid o work)
    note None = λ t. refl
    note (Some node) = same_issue tid members.files_no (record { node = node; server = audit_no }) (Note (note_text tid (here work) (change_count tid work.node))) (change_count tid work.node) work

    by : (b : Bool) → is_some (part_of tid (if b then issue_note tid work.node.setting.audit work else vote_with tid server (vote_of (server_at work.node.servers server) tid work.room (vote_frame work)) work)) ≡ true
    by true = known_on tid work (issue_note tid work.node.setting.audit work) (note work.node.setting.audit) some
    by false = vote_known tid server (vote_of (server_at work.node.servers server) tid work.room (vote_frame work)) work some
