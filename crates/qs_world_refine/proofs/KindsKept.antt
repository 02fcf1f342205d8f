-- What a node does of itself leaves each server of its kind.
use Rattle.qs_world_refine.proofs.Words.{◌≡◌, ℕ, Bool, true, false, List, [], ◌∷◌, Option, Some, None, fold, ap, ◌∙◌, if◌then◌else◌, NodeNo, ServerNo, Tid, release_of, same_node, is_for, ServerValue, number_of, vote_of, after_vote, after_notice, Cause, Op, Note, Vote, Message, Record, server_at, audit_no, files_no, is_undecided, is_forgotten, Decision, Outstanding, Participant, enter, send, send_each, log_if, notify, end_member, end_members, due_endings, learn_member, learners_at, give_notices}
use Rattle.qs_world_refine.proofs.Words.{keep_outcome, decide, decide_as, enter_issue, with_local, issue_as, issue_here, issue_away, next_number, is_asked, ask_on, label_of, may_answer, is_quiet, is_pass_due, pass_rule, ready_rule, say_yes, refusal_goes_to, send_refusal, refuse_elsewhere, refuse_rule, forget_rule, try, settle_tid, Work, here, part_of, doings_of, with_manager, with_queues, change_server, forget, owes_note, issue_note, note_text, change_count, vote_with, vote_next, vote_frame}
use Rattle.qs_world_refine.proofs.Words.{due_votes, vote_pass, HasKinds}
use Rattle.qs_base.specs.declared.identifiers.Outcome.{Outcome}
use Rattle.qs_base.specs.declared.identifiers.Outcome.TheVariants as outcomes
use Rattle.qs_ipc.specs.Ipc as ipc
use Rattle.qs_ops.specs.declared.answer.Cause.TheVariants as causes
use Rattle.qs_ops.specs.declared.vote.Notice.{Notice}
use Rattle.qs_ops.specs.declared.vote.Notice.TheVariants as notices
use Rattle.qs_ops.specs.declared.vote.Vote.TheVariants as votes
use Rattle.qs_packet.specs.declared.message.Message.TheVariants as messages
use Rattle.qs_tm.specs.Manager as tm
use Rattle.qs_book_journal.specs.declared.entry.Act.TheVariants as acts
use Rattle.qs_node_step.specs.Deciding.{notice_of}
use Rattle.qs_world_refine.proofs.SendGoes.{send_node}
use Rattle.qs_world_refine.proofs.ServerKinds.{kind_kept, vote_kind, notice_kind}

abbrev pub KeepsKinds : Work → Work → Type 0
KeepsKinds work new = HasKinds work.node → HasKinds new.node

pub fold_kinds : {X : Type 0} (f : Work → X → Work) → ((work : Work) (x : X) → KeepsKinds work (f work x)) → (xs : List X) (work : Work) → KeepsKinds work (fold f work xs)
fold_kinds f each [] work = λ has. has
fold_kinds f each (x ∷ xs) work = λ has. fold_kinds f each xs (f work x) (each work x has)

pub change_kinds : (server : ServerNo) (f : ServerValue → ServerValue) → ((value : ServerValue) → (f value).kind ≡ value.kind) → (work : Work) → KeepsKinds work (change_server server f work)
change_kinds server f keeps work has r below = ap number_of (kind_kept f keeps r work.node.servers server) ∙ has r below

pub send_kinds : (to : NodeNo) (message : Message) (work : Work) → KeepsKinds work (send to message work)
send_kinds to message work has = rw (send_node to message work) has

pub sends_kinds : (nodes : List NodeNo) (message : Message) (work : Work) → KeepsKinds work (send_each nodes message work)
sends_kinds nodes message work = fold_kinds (λ work to. send to message work) (λ work to. send_kinds to message work) nodes work

pub log_kinds : (rec : Option Record) (work : Work) → KeepsKinds work (log_if rec work)
log_kinds None work has = has
log_kinds (Some rec) work has = has

-- ---- notices

notify_kinds : (tid : Tid) (notice : Notice) (server : ServerNo) (work : Work) → KeepsKinds work (notify tid notice server work)
notify_kinds tid notice server work has = change_kinds server (λ value. after_notice value tid notice) (λ value. notice_kind value tid notice) work has

pub ends_kinds : (tid : Tid) (work : Work) → KeepsKinds work (end_members tid work)
ends_kinds tid work = fold_kinds (end_member tid) (λ work server. notify_kinds tid notices.Ending server work) (due_endings tid work) work

pub notices_kinds : (tid : Tid) (outcome : Outcome) (work : Work) → KeepsKinds work (give_notices tid outcome work)
notices_kinds tid outcomes.Commit work has = fold_kinds (learn_member tid outcomes.Commit) (λ work server. notify_kinds tid (notice_of outcomes.Commit) server work) (learners_at tid work) work has
notices_kinds tid outcomes.Abort work has =
    fold_kinds (learn_member tid outcomes.Abort) (λ work server. notify_kinds tid (notice_of outcomes.Abort) server work) (learners_at tid (end_members tid work)) (end_members tid work) (ends_kinds tid work has)

-- ---- decisions

pub decide_kinds : (tid : Tid) (outcome : Outcome) (cause : Option Cause) (work : Work) → KeepsKinds work (decide tid outcome cause work)
decide_kinds tid outcome cause work = by (tm.decision tid outcome work.node.manager)
  where
    by : (made : Decision) → KeepsKinds work (decide_as tid outcome cause made work)
    by made has =
        let logged : Work = log_if made.rec (with_manager (tm.decide tid outcome) work) in
        let entered : Work = enter (acts.Decide tid outcome cause) (keep_outcome tid outcome cause logged) in
        sends_kinds made.tell (messages.Tell tid outcome) (give_notices tid outcome entered)
        (notices_kinds tid outcome entered (log_kinds made.rec (with_manager (tm.decide tid outcome) work) has))

-- ---- votes

pub issue_kinds : (tid : Tid) (request : Outstanding) (op : Op) (work : Work) → KeepsKinds work (issue_as tid request op work)
issue_kinds tid request op work = by (same_node request.member.node (here work))
  where
    waiting : (b : Bool) (work : Work) → KeepsKinds work (if b then with_queues (ipc.enqueue request.member.server (record { tid = tid; from = here work; number = request.number; op = op; stale = false })) work else work)
    waiting true work has = has
    waiting false work has = has

    away : (b : Bool) (work : Work) → KeepsKinds work (ask_on b tid request.member.node work)
    away true work has = send_kinds request.member.node (messages.AskVote tid) work has
    away false work has = has

    by : (b : Bool) → KeepsKinds work (if b then issue_here tid request op work else issue_away tid request op work)
    by true has = waiting (is_for request.member.server op) (with_local tid request.number (enter_issue tid request op work)) has
    by false has =
        let sent : Work = with_manager (tm.sent tid request.member.node) (enter_issue tid request op work) in
        away (is_asked tid work) (send request.member.node (messages.Request tid (label_of tid work.node) request.member request.number request.issuer op) sent)
        (send_kinds request.member.node (messages.Request tid (label_of tid work.node) request.member request.number request.issuer op) sent has)

note_kinds : (tid : Tid) (o : Option NodeNo) (work : Work) → KeepsKinds work (issue_note tid o work)
note_kinds tid None work has = has
note_kinds tid (Some node) work has = by (next_number tid node work) has
  where
    by : (o : Option ℕ) → KeepsKinds work (elim o [
      | None ↦ work
      | Some number ↦ issue_as tid (record { issuer = files_no; member = record { node = node; server = audit_no }; number = number; count = change_count tid work.node }) (Note (note_text tid (here work) (change_count tid work.node))) work
    ])
    by None has = has
    by (Some number) has = issue_kinds tid (record { issuer = files_no; member = record { node = node; server = audit_no }; number = number; count = change_count tid work.node }) (Note (note_text tid (here work) (change_count tid work.node))) work has

vote_kinds : (tid : Tid) (server : ServerNo) (ballot : Vote) (work : Work) → KeepsKinds work (vote_with tid server ballot work)
vote_kinds tid server (votes.Abort reason) work has = change_kinds server (λ value. after_vote value tid (votes.Abort reason)) (λ value. vote_kind value tid (votes.Abort reason)) work has
vote_kinds tid server votes.ReadOnly work has = change_kinds server (λ value. after_vote value tid votes.ReadOnly) (λ value. vote_kind value tid votes.ReadOnly) work has
vote_kinds tid server votes.Volatile work has = change_kinds server (λ value. after_vote value tid votes.Volatile) (λ value. vote_kind value tid votes.Volatile) work has
vote_kinds tid server votes.Recoverable work has = change_kinds server (λ value. after_vote value tid votes.Recoverable) (λ value. vote_kind value tid votes.Recoverable) work has

pub pass_kinds : (tid : Tid) (part : Participant) (work : Work) → KeepsKinds work (pass_rule tid part work)
pass_kinds tid part work = by (is_pass_due tid part work)
  where
    each : (work : Work) (server : ServerNo) → KeepsKinds work (vote_next tid work server)
    each work server = picked (owes_note tid server work)
      where
        picked : (b : Bool) → KeepsKinds work (if b then issue_note tid work.node.setting.audit work else vote_with tid server (vote_of (server_at work.node.servers server) tid work.room (vote_frame work)) work)
        picked true has = note_kinds tid work.node.setting.audit work has
        picked false has = vote_kinds tid server (vote_of (server_at work.node.servers server) tid work.room (vote_frame work)) work has

    by : (b : Bool) → KeepsKinds work (if b then vote_pass tid work else work)
    by true has = fold_kinds (vote_next tid) each (due_votes tid work) (end_members tid work) (ends_kinds tid work has)
    by false has = has

-- ---- readiness, refusals and forgetting

pub ready_kinds : (tid : Tid) (part : Participant) (work : Work) → KeepsKinds work (ready_rule tid part work)
ready_kinds tid part work = by (may_answer tid part work) part.engage.home (is_quiet (doings_of tid work)) (tm.need_past tid work.room work.node.manager) (release_of part.engage)
  where
    by : (a b c : Bool) (room : Option ℕ) (to : Option (NodeNo × ℕ)) → KeepsKinds work
        (if a then (if b then (if c then elim room [ None ↦ decide tid outcomes.Commit None work | Some need ↦ decide tid outcomes.Abort (Some (causes.Room need work.room)) work ] else work)
        else elim to [ None ↦ work | Some superior ↦ say_yes tid part superior work ]) else work)
    by true true true None to has = decide_kinds tid outcomes.Commit None work has
    by true true true (Some need) to has = decide_kinds tid outcomes.Abort (Some (causes.Room need work.room)) work has
    by true true false room to has = has
    by true false c room None has = has
    by true false c room (Some superior) has = send_kinds superior.0 _ (with_manager (tm.released tid) work) has
    by false b c room to has = has

pub refuse_kinds : (tid : Tid) (part : Participant) (work : Work) → KeepsKinds work (refuse_rule tid part work)
refuse_kinds tid part work = by part.engage.home part.causes
  where
    by : (b : Bool) (list : List Cause) → KeepsKinds work (if b then elim list [ [] ↦ work | cause ∷ more ↦ decide tid outcomes.Abort (Some cause) work ] else refuse_elsewhere tid part work)
    by true [] has = has
    by true (cause ∷ more) has = decide_kinds tid outcomes.Abort (Some cause) work has
    by false list has = fold_kinds (send_refusal tid (refusal_goes_to tid part)) (λ work cause. send_kinds (refusal_goes_to tid part) (messages.VotedAbort tid cause) work) part.causes (with_manager (tm.take_causes tid) work) has

pub forget_kinds : (tid : Tid) (part : Participant) (work : Work) → KeepsKinds work (forget_rule tid part work)
forget_kinds tid part work = by (is_forgotten part)
  where
    by : (b : Bool) → KeepsKinds work (if b then forget tid work else work)
    by true has = has
    by false has = has

pub try_kinds : (tid : Tid) (rule : Tid → Participant → Work → Work) → ((part : Participant) (work : Work) → KeepsKinds work (rule tid part work)) → (work : Work) → KeepsKinds work (try tid rule work)
try_kinds tid rule each work = by (part_of tid work)
  where
    picked : (part : Participant) (b : Bool) → KeepsKinds work (if b then rule tid part work else work)
    picked part true has = each part work has
    picked part false has = has

    by : (o : Option Participant) → KeepsKinds work (elim o [ None ↦ work | Some part ↦ if is_undecided part then rule tid part work else work ])
    by None has = has
    by (Some part) has = picked part (is_undecided part) has

pub settle_kinds : (tid : Tid) (work : Work) → KeepsKinds work (settle_tid work tid)
settle_kinds tid work has =
    try_kinds tid forget_rule (forget_kinds tid) refused (try_kinds tid refuse_rule (refuse_kinds tid) readied (try_kinds tid ready_rule (ready_kinds tid) passed (try_kinds tid pass_rule (pass_kinds tid) work has)))
  where
    passed : Work
    passed = try tid pass_rule work

    readied : Work
    readied = try tid ready_rule passed

    refused : Work
    refused = try tid refuse_rule readied
