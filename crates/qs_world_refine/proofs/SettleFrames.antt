-- What a node does of itself for one transaction leaves every other one.
use Rattle.qs_world_refine.proofs.Words.{◌≡◌, ℕ, ◌||◌, Bool, true, false, List, [], ◌∷◌, ◌++◌, Option, Some, None, refl, sym, ap, if◌then◌else◌, find, list_any, same_tid, Member, NodeNo, ServerNo, Tid, release_of, same_node, listed, is_outcome_of, Decided, vote_of, Cause, Op, Note, Vote, Record, server_at, audit_no, files_no, told_with_own, is_undecided, is_forgotten, Decision, Outstanding, Participant, is_kept_commit, was_committed, enter, log_if, tid_of, member_here, decide, decide_as}
use Rattle.qs_world_refine.proofs.Words.{decide_commit, keep_outcome, give_notices, end_members, enter_issue, with_local, issue, issue_as, issue_here, issue_away, next_number, may_answer, is_quiet, is_pass_due, pass_rule, ready_rule, answer_superior, say_yes, refusal_goes_to, send_refusal, refuse_elsewhere, refuse_rule, forget_rule, try, settle_tid, Work, here, part_of, doings_of, with_manager, forget, owes_note, issue_note, note_text, change_count, served_count, enter_vote, vote_with, vote_next}
use Rattle.qs_world_refine.proofs.Words.{vote_frame, due_votes, vote_pass, began_here, is_past_commit, same_Some}
use Rattle.qs_base.specs.declared.identifiers.Outcome.{Outcome}
use Rattle.qs_base.specs.declared.identifiers.Outcome.TheVariants as outcomes
use Rattle.qs_ops.specs.declared.answer.Cause.TheVariants as causes
use Rattle.qs_ops.specs.declared.vote.Vote.TheVariants as votes
use Rattle.qs_packet.specs.declared.message.Message.TheVariants as messages
use Rattle.qs_record.specs.declared.record.Record.TheVariants as records
use Rattle.qs_tm.specs.Manager as tm
use Rattle.qs_tm.specs.Outcomes as outcome_rules
use Rattle.qs_tm.specs.Participant as participant
use Rattle.qs_tm.specs.Participant.{is_ready}
use Rattle.qs_node_step.specs.Voting.{log_prepare}
use Rattle.qs_book_journal.specs.declared.entry.Act.TheVariants as acts
use Rattle.qs_world_refine.proofs.During.{Leaves, leaves_itself, leaves_on, send_leaves}
use Rattle.qs_world_refine.proofs.Frames.{out_leaves, part_leaves, part_apart, log_leaves, sends_leave}
use Rattle.qs_world_refine.proofs.IssueAway.{issue_leaves}
use Rattle.qs_world_refine.proofs.LogFrames.{Apart}
use Rattle.qs_world_refine.proofs.Others.{fold_leaves, log_if_leaves, ends_leave, notices_leave}
use Rattle.qs_world_refine.proofs.OthersCame.{enqueue_leaves, forget_leaves}

-- ---- a decision

find_other : (p : Decided → Bool) (x : Decided) → p x ≡ false → (xs : List Decided) → find p (xs ++ x ∷ []) ≡ find p xs
find_other p x off [] = rw off refl
find_other p x off (y ∷ xs) = by (p y) (find_other p x off xs)
  where
    by : (b : Bool) → find p (xs ++ x ∷ []) ≡ find p xs → (if b then Some y else find p (xs ++ x ∷ [])) ≡ (if b then Some y else find p xs)
    by true more = refl
    by false more = more

module _ (t tid : Tid) (apart : Apart t tid) where
  kept_leaves : (outcome : Outcome) (cause : Option Cause) (work : Work) → Leaves t work (keep_outcome tid outcome cause work)
  kept_leaves outcome cause work = out_leaves t work (keep_outcome tid outcome cause work) (record { around = record { setting = refl; waits = λ s. refl; loans = refl; past = past }; part = refl }) refl refl
    where
      committed : was_committed t (keep_outcome tid outcome cause work).node ≡ was_committed t work.node
      committed = ap (λ (o : Option Decided). is_kept_commit o || list_any (same_tid t) work.node.committed) (find_other (is_outcome_of t) (record { tid = tid; outcome = outcome; cause = cause }) apart work.node.kept.now.outcomes)

      past : is_past_commit (keep_outcome tid outcome cause work).node t ≡ is_past_commit work.node t
      past = ap (λ (b : Bool). if began_here work.node t then b else list_any (same_tid t) work.node.committed) committed

  record_apart : (outcome : Outcome) (part : Participant) (r : Record) → outcome_rules.record_of tid outcome part ≡ Some r → Apart t (tid_of r)
  record_apart outcomes.Commit part r is = by (outcome_rules.writes_commit part) is
    where
      by : (b : Bool) → (if b then Some (records.Commit tid (listed part.told)) else None) ≡ Some r → Apart t (tid_of r)
      by true is = rw (sym (same_Some (records.Commit tid (listed part.told)) r is)) apart
      by false is = absurd (cc is)
  record_apart outcomes.Abort part r is = by part.log.prepared is
    where
      by : (b : Bool) → (if b then Some (records.Aborted tid) else None) ≡ Some r → Apart t (tid_of r)
      by true is = rw (sym (same_Some (records.Aborted tid) r is)) apart
      by false is = absurd (cc is)

  made_leaves : (outcome : Outcome) (cause : Option Cause) (made : Decision) (work : Work) → ((r : Record) → made.rec ≡ Some r → Apart t (tid_of r)) → Leaves t work (decide_as tid outcome cause made work)
  made_leaves outcome cause made work own =
      leaves_on t work decided (decide_as tid outcome cause made work) (part_leaves t tid (outcome_rules.decided outcome) work apart)
      (leaves_on t decided logged (decide_as tid outcome cause made work) (log_if_leaves t made.rec decided own)
      (leaves_on t logged kept (decide_as tid outcome cause made work) (kept_leaves outcome cause logged)
      (leaves_on t kept entered (decide_as tid outcome cause made work) (out_leaves t kept entered (record { around = record { setting = refl; waits = λ s. refl; loans = refl; past = refl }; part = refl }) refl refl)
      (leaves_on t entered noticed (decide_as tid outcome cause made work) (notices_leave t tid outcome entered apart)
      (sends_leave t made.tell (messages.Tell tid outcome) noticed (rw apart refl))))))
    where
      decided : Work
      decided = with_manager (tm.decide tid outcome) work

      logged : Work
      logged = log_if made.rec decided

      kept : Work
      kept = keep_outcome tid outcome cause logged

      entered : Work
      entered = enter (acts.Decide tid outcome cause) kept

      noticed : Work
      noticed = give_notices tid outcome entered

  pub decide_leaves : (outcome : Outcome) (cause : Option Cause) (work : Work) → Leaves t work (decide tid outcome cause work)
  decide_leaves outcome cause work = by (part_of tid work)
    where
      none : (r : Record) → None ≡ Some r → Apart t (tid_of r)
      none r is = absurd (cc is)

      by : (o : Option Participant) → Leaves t work (decide_as tid outcome cause (elim o [ None ↦ tm.no_decision | Some part ↦ record { rec = outcome_rules.record_of tid outcome part; tell = listed (outcome_rules.tell_of outcome part) } ]) work)
      by None = made_leaves outcome cause tm.no_decision work none
      by (Some part) = made_leaves outcome cause (record { rec = outcome_rules.record_of tid outcome part; tell = listed (outcome_rules.tell_of outcome part) }) work (record_apart outcome part)

  -- ---- a vote pass

  here_leaves : (request : Outstanding) (op : Op) (work : Work) → Leaves t work (issue_here tid request op work)
  here_leaves request op work =
      leaves_on t work issued (issue_here tid request op work)
      (out_leaves t work issued (record { around = record { setting = refl; waits = λ s. refl; loans = refl; past = refl }; part = part_apart t tid (participant.issued request) work.node.manager apart }) refl refl)
      (enqueue_leaves t tid apart request.member.server (record { tid = tid; from = here work; number = request.number; op = op; stale = false }) issued refl)
    where
      issued : Work
      issued = with_local tid request.number (enter_issue tid request op work)

  pub issue_as_leaves : (request : Outstanding) (op : Op) (work : Work) → Leaves t work (issue_as tid request op work)
  issue_as_leaves request op work = by (same_node request.member.node (here work))
    where
      by : (b : Bool) → Leaves t work (if b then issue_here tid request op work else issue_away tid request op work)
      by true = here_leaves request op work
      by false = issue_leaves t tid request op work apart

  issues_leave : (issuer : ServerNo) (member : Member) (op : Op) (count : ℕ) (work : Work) → Leaves t work (issue tid issuer member op count work)
  issues_leave issuer member op count work = by (next_number tid member.node work)
    where
      by : (o : Option ℕ) → Leaves t work (elim o [ None ↦ work | Some number ↦ issue_as tid (record { issuer = issuer; member = member; number = number; count = count }) op work ])
      by None = leaves_itself t work
      by (Some number) = issue_as_leaves (record { issuer = issuer; member = member; number = number; count = count }) op work

  note_leaves : (o : Option NodeNo) (work : Work) → Leaves t work (issue_note tid o work)
  note_leaves None work = leaves_itself t work
  note_leaves (Some node) work = issues_leave files_no (record { node = node; server = audit_no }) (Note (note_text tid (here work) (change_count tid work.node))) (change_count tid work.node) work

  entered_leaves : (server : ServerNo) (ballot : Vote) (work : Work) → Leaves t work (enter_vote tid server ballot work)
  entered_leaves server ballot work = out_leaves t work (enter_vote tid server ballot work)
      (record { around = record { setting = refl; waits = λ s. refl; loans = refl; past = refl }; part = part_apart t tid (participant.voted (member_here work server) ballot (served_count tid server work)) work.node.manager apart }) refl refl

  prepare_leaves : (server : ServerNo) (work : Work) → Leaves t work (log_prepare tid server work)
  prepare_leaves server work = leaves_on t work _ (log_prepare tid server work) (out_leaves t work _ (record { around = record { setting = refl; waits = λ s. refl; loans = refl; past = refl }; part = refl }) refl refl) (log_leaves t _ _ apart)

  vote_leaves : (server : ServerNo) (ballot : Vote) (work : Work) → Leaves t work (vote_with tid server ballot work)
  vote_leaves server (votes.Abort reason) work = entered_leaves server (votes.Abort reason) work
  vote_leaves server votes.ReadOnly work = entered_leaves server votes.ReadOnly work
  vote_leaves server votes.Volatile work = entered_leaves server votes.Volatile work
  vote_leaves server votes.Recoverable work = leaves_on t work (enter_vote tid server votes.Recoverable work) (vote_with tid server votes.Recoverable work) (entered_leaves server votes.Recoverable work) (prepare_leaves server (enter_vote tid server votes.Recoverable work))

  next_leaves : (work : Work) (server : ServerNo) → Leaves t work (vote_next tid work server)
  next_leaves work server = by (owes_note tid server work)
    where
      by : (b : Bool) → Leaves t work (if b then issue_note tid work.node.setting.audit work else vote_with tid server (vote_of (server_at work.node.servers server) tid work.room (vote_frame work)) work)
      by true = note_leaves work.node.setting.audit work
      by false = vote_leaves server (vote_of (server_at work.node.servers server) tid work.room (vote_frame work)) work

  pub pass_leaves : (part : Participant) (work : Work) → Leaves t work (pass_rule tid part work)
  pass_leaves part work = by (is_pass_due tid part work)
    where
      by : (b : Bool) → Leaves t work (if b then vote_pass tid work else work)
      by true = leaves_on t work (end_members tid work) (vote_pass tid work) (ends_leave t tid work apart) (fold_leaves t (vote_next tid) next_leaves (due_votes tid work) (end_members tid work))
      by false = leaves_itself t work

  -- ---- readiness

  commit_leaves : (work : Work) → Leaves t work (decide_commit tid work)
  commit_leaves work = by (tm.need_past tid work.room work.node.manager)
    where
      by : (o : Option ℕ) → Leaves t work (elim o [ None ↦ decide tid outcomes.Commit None work | Some need ↦ decide tid outcomes.Abort (Some (causes.Room need work.room)) work ])
      by None = decide_leaves outcomes.Commit None work
      by (Some need) = decide_leaves outcomes.Abort (Some (causes.Room need work.room)) work

  answer_leaves : (part : Participant) (work : Work) → Leaves t work (answer_superior tid part work)
  answer_leaves part work = by (release_of part.engage)
    where
      by : (o : Option (NodeNo × ℕ)) → Leaves t work (elim o [ None ↦ work | Some superior ↦ say_yes tid part superior work ])
      by None = leaves_itself t work
      by (Some superior) = leaves_on t work (with_manager (tm.released tid) work) (say_yes tid part superior work) (part_leaves t tid participant.released work apart)
          (send_leaves t superior.0 (messages.VotedYes tid superior.1 (listed (told_with_own (here work) part))) (with_manager (tm.released tid) work) (rw apart refl))

  pub ready_leaves : (part : Participant) (work : Work) → Leaves t work (ready_rule tid part work)
  ready_leaves part work = by (may_answer tid part work) part.engage.home (is_quiet (doings_of tid work))
    where
      by : (a b c : Bool) → Leaves t work (if a then (if b then (if c then decide_commit tid work else work) else answer_superior tid part work) else work)
      by true true true = commit_leaves work
      by true true false = leaves_itself t work
      by true false c = answer_leaves part work
      by false b c = leaves_itself t work

  -- ---- refusals, and forgetting

  pub refuse_leaves : (part : Participant) (work : Work) → Leaves t work (refuse_rule tid part work)
  refuse_leaves part work = by part.engage.home part.causes
    where
      by : (b : Bool) (list : List Cause) → Leaves t work (if b then elim list [ [] ↦ work | cause ∷ more ↦ decide tid outcomes.Abort (Some cause) work ] else refuse_elsewhere tid part work)
      by true [] = leaves_itself t work
      by true (cause ∷ more) = decide_leaves outcomes.Abort (Some cause) work
      by false list = leaves_on t work (with_manager (tm.take_causes tid) work) (refuse_elsewhere tid part work) (part_leaves t tid participant.take_causes work apart)
          (fold_leaves t (send_refusal tid (refusal_goes_to tid part)) (λ work cause. send_leaves t (refusal_goes_to tid part) (messages.VotedAbort tid cause) work refl) part.causes (with_manager (tm.take_causes tid) work))

  pub forget_rule_leaves : (part : Participant) (work : Work) → Leaves t work (forget_rule tid part work)
  forget_rule_leaves part work = by (is_forgotten part)
    where
      by : (b : Bool) → Leaves t work (if b then forget tid work else work)
      by true = forget_leaves t tid apart work
      by false = leaves_itself t work

  -- ---- all of it

  try_leaves : (rule : Tid → Participant → Work → Work) → ((part : Participant) (work : Work) → Leaves t work (rule tid part work)) → (work : Work) → Leaves t work (try tid rule work)
  try_leaves rule each work = by (part_of tid work)
    where
      picked : (part : Participant) (b : Bool) → Leaves t work (if b then rule tid part work else work)
      picked part true = each part work
      picked part false = leaves_itself t work

      by : (o : Option Participant) → Leaves t work (elim o [ None ↦ work | Some part ↦ if is_undecided part then rule tid part work else work ])
      by None = leaves_itself t work
      by (Some part) = picked part (is_undecided part)

  pub settle_leaves : (work : Work) → Leaves t work (settle_tid work tid)
  settle_leaves work =
      leaves_on t work passed (settle_tid work tid) (try_leaves pass_rule pass_leaves work)
      (leaves_on t passed readied (settle_tid work tid) (try_leaves ready_rule ready_leaves passed)
      (leaves_on t readied refused (settle_tid work tid) (try_leaves refuse_rule refuse_leaves readied) (try_leaves forget_rule forget_rule_leaves refused)))
    where
      passed : Work
      passed = try tid pass_rule work

      readied : Work
      readied = try tid ready_rule passed

      refused : Work
      refused = try tid refuse_rule readied
