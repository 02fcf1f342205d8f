-- Files: quotas, and the notes of audit.
use Rattle.std.specs.Prelude.{◌≡◌, ℕ, List, [], ◌∷◌, ◌++◌, codes, Some, None}
use Rattle.qs_base.specs.declared.identifiers.Outcome.TheVariants as outcomes
use Rattle.qs_ops.specs.declared.answer.Answer.TheVariants as answers
use Rattle.qs_ops.specs.declared.answer.Cause.TheVariants as causes
use Rattle.qs_ops.specs.declared.operation.Op.TheVariants.{Lend, Note}
use Rattle.qs_ops.specs.declared.reply.Reply.TheVariants as replies
use Rattle.qs_ops.specs.declared.vote.Reason.TheVariants as reasons
use Rattle.qs_ops.specs.declared.vote.Vote.{Vote}
use Rattle.qs_ops.specs.declared.vote.Vote.TheVariants as votes
use Rattle.qs_book_journal.specs.declared.entry.Act.TheVariants as acts
use Rattle.qs_book_journal.specs.declared.entry.CrashCause.TheVariants as crashes
use Rattle.qs_book_journal.specs.declared.entry.Entry.{Entry}
use Rattle.qs_book_journal.specs.declared.entry.Found.{Found}
use Rattle.qs_book_journal.specs.declared.script_line.Command.TheVariants as commands
use Rattle.qs_book_script.specs.declared.script.Script.{Script}
use Rattle.qs_book_conformance.specs.OwnerRows.{a}
use Rattle.qs_book_conformance.specs.Scenes.{node, client, member, tid, put, seat, said, asks, script, with_quota, with_audit, with_faults, crash, step, ending, judged, well, broken_at, unlawful_at}
use Rattle.qs_book_conformance.specs.declared.fault.Rule.TheVariants as rules

abbrev pub put_xy : List ℕ → Script
put_xy label = script (seat 0 0 ∷ [])
    (said 0 2 label commands.Begin ∷ said 0 3 label (asks 0 0 (put (codes "f") (codes "xy"))) ∷ said 0 4 label commands.Commit ∷ [])

abbrev pub xy_start : List Entry
xy_start =
    step 1 0 (acts.Begin (tid 1) a (client 0) ∷ acts.Answer (client 0) 2 answers.Done ∷ [])
    ++ (step 2 0 (acts.Issue (tid 1) (member 0 32) (member 0 0) 1 (put (codes "f") (codes "xy")) ∷ [])
    ++ (step 3 0 (acts.Serve (tid 1) (member 0 0) (node 0) 1 replies.Done ∷ acts.Answer (client 0) 3 answers.Done ∷ [])
    ++ step 4 0 (acts.Ask (tid 1) ∷ [])))

-- files vote so
abbrev pub xy_votes : Vote → List Entry
xy_votes vote = xy_start ++ step 5 0 (acts.Tick ∷ acts.Vote (tid 1) (member 0 0) vote 1 ∷ [])

abbrev pub over : ℕ → ℕ → Vote
over bytes limit = votes.Abort (reasons.Quota bytes limit)

-- the Prepare needs 204 bytes
abbrev pub no_room : Vote
no_room = votes.Abort (reasons.LogRoom 204 100)

-- ---- quotas

abbrev pub low_quota : Script
low_quota = with_quota 0 1 (put_xy a)

abbrev pub refused_history : List Entry
refused_history =
    xy_votes (over 2 1) ++ step 6 0 (acts.Tick ∷ acts.Decide (tid 1) outcomes.Abort (Some (causes.Voted (member 0 0) (reasons.Quota 2 1)))
    ∷ acts.Learn (tid 1) (member 0 0) outcomes.Abort ∷ acts.Answer (client 0) 4 (answers.Aborted (causes.Voted (member 0 0) (reasons.Quota 2 1))) ∷ [])

pub record QuotaRows : Type 0 where
  pub refused : judged 1 low_quota refused_history ≡ well
  pub limit : judged 1 low_quota (xy_votes (over 2 0)) ≡ broken_at 7 rules.LimitIsTheQuota
  pub recoverable : judged 1 low_quota (xy_votes votes.Recoverable) ≡ broken_at 7 rules.WithinQuota
  pub room : judged 1 low_quota (xy_votes no_room) ≡ broken_at 7 rules.WithinQuota
  -- up to the quota, and where the quota is another node's
  pub within : judged 1 (with_quota 0 2 (put_xy a)) (xy_votes votes.Recoverable) ≡ well
  pub no_room_within : judged 1 (with_quota 0 2 (put_xy a)) (xy_votes no_room) ≡ well
  pub other : judged 1 (with_quota 1 1 (put_xy a)) (xy_votes votes.Recoverable) ≡ well
  pub default : judged 1 (put_xy a) (xy_votes (over 2 1)) ≡ broken_at 7 rules.LimitIsTheQuota
  pub bytes : judged 1 low_quota (xy_votes (over 3 1)) ≡ unlawful_at 7 42

-- ---- audit: files of node 0 tell the audit of node 1

abbrev pub noted_script : Script
noted_script = with_audit 1 (put_xy a)

abbrev pub noted_history : List Entry
noted_history =
    xy_start ++ (step 5 0 (acts.Tick ∷ acts.Issue (tid 1) (member 0 0) (member 1 1) 1 (Note (codes "0.1.1:files@0:1")) ∷ [])
    ++ (step 6 1 (acts.Serve (tid 1) (member 1 1) (node 0) 1 replies.Done ∷ [])
    ++ (step 7 1 (acts.Vote (tid 1) (member 1 1) votes.Recoverable 1 ∷ [])
    ++ (step 8 0 (acts.Vote (tid 1) (member 0 0) votes.Recoverable 1 ∷ acts.Counted (tid 1) (node 1) 1 ∷ [])
    ++ (step 9 0 (acts.Decide (tid 1) outcomes.Commit None ∷ acts.Learn (tid 1) (member 0 0) outcomes.Commit ∷ acts.Answer (client 0) 4 answers.Committed ∷ [])
    ++ step 10 1 (acts.Learn (tid 1) (member 1 1) outcomes.Commit ∷ []))))))

-- from this place on the history is another
abbrev pub noted_but : ℕ → List Entry → List Entry
noted_but place end = ending place end noted_history

-- files vote recoverable
abbrev pub files_vote : List Entry
files_vote = step 8 0 (acts.Vote (tid 1) (member 0 0) votes.Recoverable 1 ∷ [])

pub record NoteRows : Type 0 where
  pub whole : judged 2 noted_script noted_history ≡ well
  pub elsewhere : judged 2 noted_script (noted_but 7 (step 5 0 (acts.Issue (tid 1) (member 0 0) (member 0 1) 2 (Note (codes "0.1.1:files@0:1")) ∷ []))) ≡ broken_at 7 rules.NoteGoesToAudit
  pub no_audit : judged 2 (put_xy a) noted_history ≡ broken_at 7 rules.NoteGoesToAudit
  pub unnoted : judged 2 noted_script (noted_but 7 files_vote) ≡ broken_at 7 rules.NoteWasServed
  pub unserved : judged 2 noted_script (noted_but 8 files_vote) ≡ broken_at 8 rules.NoteWasServed
  pub not_asked_for : judged 2 (put_xy a) (noted_but 7 files_vote) ≡ well
  -- nobody but a client and files issues
  pub issuer : judged 2 noted_script (noted_but 7 (step 5 0 (acts.Issue (tid 1) (member 0 2) (member 1 1) 1 (Note (codes "0.1.1:files@0:1")) ∷ []))) ≡ unlawful_at 7 21

-- ---- a vote that a restart finds

abbrev pub found : List Found
found = record { tid = tid 1; server = record { 0 = 0 }; covers = 1 } ∷ []

-- the home stops and finds the vote of its files
abbrev pub finds : List Entry
finds = step 8 0 (acts.Crash crashes.Plan ∷ []) ++ step 9 0 (acts.Restart 2 found [] ∷ [])

abbrev pub planned : Script → Script
planned script = with_faults (crash 0 ∷ []) script

pub record FoundRows : Type 0 where
  pub found : judged 2 (planned (put_xy a)) (noted_but 6 finds) ≡ well
  pub unnoted : judged 2 (planned noted_script) (noted_but 6 finds) ≡ broken_at 7 rules.NoteWasServed
  pub unserved : judged 2 (planned noted_script) (noted_but 8 finds) ≡ broken_at 9 rules.NoteWasServed
  pub noted : judged 2 (planned noted_script) (noted_but 9 finds) ≡ well
  -- what the step that the crash cut off applied before the vote is not told, and no quota is asked of it
  pub over : judged 2 (planned low_quota) (noted_but 6 finds) ≡ well
  -- on record already
  pub recorded : judged 2 (planned noted_script) (noted_but 11 finds) ≡ well

-- ---- files of node 1 tell the audit of node 0; their note is lost as their node stops, and a later one has its number

abbrev pub lost_note : Script
lost_note = with_faults (crash 1 ∷ crash 1 ∷ []) (with_audit 0 (script (seat 0 0 ∷ seat 1 0 ∷ [])
    (said 0 2 a commands.Begin ∷ said 0 3 a (asks 1 0 (put (codes "f") (codes "xy"))) ∷ said 0 4 a (asks 0 33 (Lend (client 1)))
    ∷ said 0 5 a commands.Commit ∷ said 1 6 a commands.Take ∷ said 1 7 a (asks 1 0 (put (codes "g") (codes "z"))) ∷ [])))

abbrev pub lost_start : List Entry
lost_start =
    step 1 0 (acts.Begin (tid 1) a (client 0) ∷ acts.Answer (client 0) 2 answers.Done ∷ [])
    ++ (step 2 0 (acts.Issue (tid 1) (member 0 32) (member 1 0) 1 (put (codes "f") (codes "xy")) ∷ [])
    ++ (step 3 1 (acts.Serve (tid 1) (member 1 0) (node 0) 1 replies.Done ∷ [])
    ++ (step 4 0 (acts.Answer (client 0) 3 answers.Done ∷ acts.Issue (tid 1) (member 0 32) (member 0 33) 1 (Lend (client 1)) ∷ [])
    ++ (step 5 0 (acts.Serve (tid 1) (member 0 33) (node 0) 1 replies.Done ∷ acts.Loan (tid 1) (client 1) ∷ acts.Answer (client 0) 4 answers.Done
    ∷ acts.Answer (client 1) 6 answers.Done ∷ [])
    ++ (step 6 0 (acts.Ask (tid 1) ∷ [])
    ++ (step 7 1 (acts.Issue (tid 1) (member 1 0) (member 0 1) 1 (Note (codes "0.1.1:files@1:1")) ∷ [])
    ++ (step 8 1 (acts.Crash crashes.Plan ∷ []) ++ (step 9 1 (acts.Restart 2 [] [] ∷ [])
    ++ (step 10 0 (acts.Issue (tid 1) (member 0 33) (member 1 0) 2 (put (codes "g") (codes "z")) ∷ [])
    ++ step 11 1 (acts.Serve (tid 1) (member 1 0) (node 0) 2 replies.Done ∷ []))))))))))

-- the later one is served, so that it is not known which was, and the transaction is crossed at the audit server
abbrev pub crossed_start : List Entry
crossed_start =
    lost_start ++ (step 12 1 (acts.Issue (tid 1) (member 1 0) (member 0 1) 1 (Note (codes "0.1.1:files@1:1")) ∷ [])
    ++ step 13 0 (acts.Serve (tid 1) (member 0 1) (node 1) 1 replies.Done ∷ []))

abbrev pub votes_then : List Entry
votes_then = step 14 1 (acts.Vote (tid 1) (member 1 0) votes.Recoverable 1 ∷ [])

abbrev pub finds_then : List Entry
finds_then = step 14 1 (acts.Crash crashes.Plan ∷ []) ++ step 15 1 (acts.Restart 3 found [] ∷ [])

pub record CrossedRows : Type 0 where
  pub crossed : judged 2 lost_note (crossed_start ++ votes_then) ≡ well
  pub found : judged 2 lost_note (crossed_start ++ finds_then) ≡ well
  -- where nothing is crossed the lost note counts for nothing
  pub lost : judged 2 lost_note (lost_start ++ votes_then) ≡ broken_at 16 rules.NoteWasServed
  pub lost_found : judged 2 lost_note (lost_start ++ finds_then) ≡ broken_at 17 rules.NoteWasServed
