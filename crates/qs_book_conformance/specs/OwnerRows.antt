-- Owners: one client at one node, whose transaction commits, aborts, or is refused for want of room.
use Rattle.std.specs.Prelude.{◌≡◌, ℕ, List, [], ◌∷◌, ◌++◌, codes, Some, None}
use Rattle.qs_base.specs.declared.identifiers.Outcome.TheVariants as outcomes
use Rattle.qs_ops.specs.declared.answer.Answer.TheVariants as answers
use Rattle.qs_ops.specs.declared.answer.Cause.TheVariants as causes
use Rattle.qs_ops.specs.declared.reply.Reply.TheVariants as replies
use Rattle.qs_ops.specs.declared.vote.Vote.TheVariants as votes
use Rattle.qs_book_journal.specs.declared.entry.Act.TheVariants as acts
use Rattle.qs_book_journal.specs.declared.entry.Entry.{Entry}
use Rattle.qs_book_journal.specs.declared.script_line.Command.TheVariants as commands
use Rattle.qs_book_script.specs.declared.script.Script.{Script}
use Rattle.qs_book_conformance.specs.Scenes.{node, client, member, tid, put, get, seat, said, asks, script, step, ending, judged, well, broken_at, unlawful_at}
use Rattle.qs_book_conformance.specs.declared.fault.Rule.TheVariants as rules

abbrev pub a : List ℕ
a = codes "a"

-- ---- it commits

abbrev pub commit_script : Script
commit_script = script (seat 0 0 ∷ [])
    (said 0 2 a commands.Begin ∷ said 0 3 a (asks 0 0 (put (codes "f") (codes "x"))) ∷ said 0 4 a commands.Commit ∷ [])

abbrev pub commit_history : List Entry
commit_history =
    step 1 0 (acts.Begin (tid 1) a (client 0) ∷ acts.Answer (client 0) 2 answers.Done ∷ [])
    ++ (step 2 0 (acts.Issue (tid 1) (member 0 32) (member 0 0) 1 (put (codes "f") (codes "x")) ∷ [])
    ++ (step 3 0 (acts.Serve (tid 1) (member 0 0) (node 0) 1 replies.Done ∷ acts.Answer (client 0) 3 answers.Done ∷ [])
    ++ (step 4 0 (acts.Ask (tid 1) ∷ [])
    ++ (step 5 0 (acts.Tick ∷ acts.Vote (tid 1) (member 0 0) votes.Recoverable 1 ∷ [])
    ++ step 6 0 (acts.Tick ∷ acts.Decide (tid 1) outcomes.Commit None ∷ acts.Learn (tid 1) (member 0 0) outcomes.Commit
    ∷ acts.Answer (client 0) 4 answers.Committed ∷ [])))))

-- from this place on the history is another
abbrev pub commits_but : ℕ → List Entry → List Entry
commits_but place end = ending place end commit_history

pub record CommitRows : Type 0 where
  pub whole : judged 1 commit_script commit_history ≡ well
  pub empty : judged 1 commit_script [] ≡ well
  -- another label, and another client
  pub label : judged 1 commit_script (commits_but 0 (step 1 0 (acts.Begin (tid 1) (codes "b") (client 0) ∷ []))) ≡ broken_at 0 rules.CarriesOutItsCommand
  pub by_other : judged 1 commit_script (commits_but 0 (step 1 0 (acts.Begin (tid 1) a (client 1) ∷ []))) ≡ broken_at 0 rules.CarriesOutItsCommand
  -- an answer without its begin; a line that is not the next
  pub no_begin : judged 1 commit_script (commits_but 0 (step 1 0 (acts.Answer (client 0) 2 answers.Done ∷ []))) ≡ broken_at 0 rules.AnswerIsDue
  pub skipped : judged 1 commit_script (commits_but 1 (step 1 0 (acts.Answer (client 0) 3 answers.Done ∷ []))) ≡ broken_at 1 rules.AnswersInOrder
  -- another operation, another server; a request twice
  pub op : judged 1 commit_script (commits_but 2 (step 2 0 (acts.Issue (tid 1) (member 0 32) (member 0 0) 1 (put (codes "f") (codes "y")) ∷ []))) ≡ broken_at 2 rules.CarriesOutItsCommand
  pub twice : judged 1 commit_script (commits_but 3 (step 3 0 (acts.Issue (tid 1) (member 0 32) (member 0 0) 2 (put (codes "f") (codes "x")) ∷ []))) ≡ broken_at 3 rules.OncePerCommand
  -- an answer without its serve, and one that is not the reply
  pub early : judged 1 commit_script (commits_but 3 (step 3 0 (acts.Answer (client 0) 3 answers.Done ∷ []))) ≡ broken_at 3 rules.AnswerIsDue
  pub other : judged 1 commit_script (commits_but 4 (step 3 0 (acts.Answer (client 0) 3 answers.TooLong ∷ []))) ≡ broken_at 4 rules.AnswerIsDue
  pub not_ended : judged 1 commit_script (commits_but 4 (step 3 0 (acts.Answer (client 0) 3 answers.Ended ∷ []))) ≡ broken_at 4 rules.AnswerIsDue
  -- it is asked for before it is the owner's turn; and an abort that the owner did not command
  pub ask : judged 1 commit_script (commits_but 4 (step 4 0 (acts.Ask (tid 1) ∷ []))) ≡ broken_at 4 rules.CarriesOutItsCommand
  pub abort : judged 1 commit_script (commits_but 5 (step 4 0 (acts.Decide (tid 1) outcomes.Abort (Some causes.Asked) ∷ []))) ≡ broken_at 5 rules.CarriesOutItsCommand
  -- before the decision, and not by the cell
  pub undecided : judged 1 commit_script (commits_but 9 (step 6 0 (acts.Answer (client 0) 4 answers.Ended ∷ []))) ≡ broken_at 9 rules.AnswerIsDue
  pub cell : judged 1 commit_script (commits_but 11 (step 6 0 (acts.Answer (client 0) 4 answers.Done ∷ []))) ≡ broken_at 11 rules.AnswerIsDue
  pub unlawful : judged 1 commit_script (commits_but 9 (step 6 0 (acts.Answer (client 0) 4 answers.Committed ∷ []))) ≡ unlawful_at 9 81
  -- a line past the last
  pub past : judged 1 commit_script (commit_history ++ step 7 0 (acts.Answer (client 0) 5 answers.Done ∷ [])) ≡ broken_at 12 rules.AnswersInOrder

-- ---- it is aborted by its owner while a request waits; the owner goes on

abbrev pub abort_script : Script
abort_script = script (seat 0 0 ∷ [])
    (said 0 2 a commands.Begin ∷ said 0 3 a commands.Abort ∷ said 0 4 a (asks 0 0 (get (codes "f")))
    ∷ said 0 5 a commands.Commit ∷ said 0 6 a commands.Abort ∷ [])

abbrev pub abort_history : List Entry
abort_history =
    step 1 0 (acts.Begin (tid 1) a (client 0) ∷ acts.Answer (client 0) 2 answers.Done ∷ [])
    ++ (step 2 0 (acts.Decide (tid 1) outcomes.Abort (Some causes.Asked) ∷ acts.Answer (client 0) 3 (answers.Aborted causes.Asked) ∷ [])
    ++ (step 3 0 (acts.Answer (client 0) 4 answers.Ended ∷ [])
    ++ (step 4 0 (acts.Answer (client 0) 5 (answers.Aborted causes.Asked) ∷ [])
    ++ step 5 0 (acts.Answer (client 0) 6 (answers.Aborted causes.Asked) ∷ []))))

pub record AbortRows : Type 0 where
  pub whole : judged 1 abort_script abort_history ≡ well
  pub again : judged 1 abort_script (ending 3 (step 2 0 (acts.Decide (tid 1) outcomes.Abort (Some causes.Asked) ∷ [])) abort_history) ≡ unlawful_at 3 70
  pub other_cause : judged 1 abort_script (ending 2 (step 2 0 (acts.Decide (tid 1) outcomes.Abort (Some (causes.Home 1)) ∷ [])) abort_history) ≡ unlawful_at 2 72
  pub late_request : judged 1 abort_script (ending 4 (step 3 0 (acts.Answer (client 0) 4 answers.Absent ∷ [])) abort_history) ≡ broken_at 4 rules.AnswerIsDue
  pub not_ended : judged 1 abort_script (ending 5 (step 4 0 (acts.Answer (client 0) 5 answers.Ended ∷ [])) abort_history) ≡ broken_at 5 rules.AnswerIsDue

-- ---- an age limit is nothing that a script sets

abbrev pub old_history : List Entry
old_history = step 1 0 (acts.Begin (tid 1) a (client 0) ∷ acts.Answer (client 0) 2 answers.Done ∷ [])
    ++ step 2 0 (acts.Tick ∷ acts.Decide (tid 1) outcomes.Abort (Some (causes.Old 1)) ∷ [])

-- ---- the log has no room: it is not begun

abbrev pub full_script : Script
full_script = script (seat 0 0 ∷ [])
    (said 0 2 a commands.Begin ∷ said 0 3 a (asks 0 0 (get (codes "f"))) ∷ said 0 4 a commands.Abort ∷ said 0 5 (codes "b") commands.Begin ∷ [])

abbrev pub full_history : List Entry
full_history =
    step 1 0 (acts.Answer (client 0) 2 (answers.LogFull 128 72) ∷ [])
    ++ (step 2 0 (acts.Answer (client 0) 3 answers.NotBegun ∷ [])
    ++ (step 3 0 (acts.Answer (client 0) 4 answers.NotBegun ∷ [])
    ++ step 4 0 (acts.Begin (tid 1) (codes "b") (client 0) ∷ acts.Answer (client 0) 5 answers.Done ∷ [])))

pub record FullRows : Type 0 where
  pub whole : judged 1 full_script full_history ≡ well
  pub room : judged 1 full_script (step 1 0 (acts.Answer (client 0) 2 (answers.LogFull 128 128) ∷ [])) ≡ broken_at 0 rules.AnswerIsDue
  pub need : judged 1 full_script (step 1 0 (acts.Answer (client 0) 2 (answers.LogFull 144 72) ∷ [])) ≡ broken_at 0 rules.AnswerIsDue
  pub begun_too : judged 1 full_script (step 1 0 (acts.Begin (tid 1) a (client 0) ∷ acts.Answer (client 0) 2 (answers.LogFull 128 72) ∷ [])) ≡ broken_at 1 rules.AnswerIsDue
  pub begun_later : judged 1 full_script (ending 1 (step 2 0 (acts.Begin (tid 1) a (client 0) ∷ [])) full_history) ≡ broken_at 1 rules.CarriesOutItsCommand
  pub ended : judged 1 full_script (ending 1 (step 2 0 (acts.Answer (client 0) 3 answers.Ended ∷ [])) full_history) ≡ broken_at 1 rules.AnswerIsDue
  pub other_label : judged 1 full_script (ending 3 (step 4 0 (acts.Answer (client 0) 5 answers.NotBegun ∷ [])) full_history) ≡ broken_at 3 rules.AnswerIsDue
  pub old : judged 1 commit_script old_history ≡ broken_at 3 rules.CauseIsAllowed
