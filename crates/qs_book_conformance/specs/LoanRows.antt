-- Borrowers: loans that are taken, given back, made twice, and void.
use Rattle.std.specs.Prelude.{◌≡◌, ℕ, List, [], ◌∷◌, ◌++◌, codes, Some, None}
use Rattle.qs_base.specs.declared.identifiers.Outcome.TheVariants as outcomes
use Rattle.qs_ops.specs.declared.answer.Answer.{Answer}
use Rattle.qs_ops.specs.declared.answer.Answer.TheVariants as answers
use Rattle.qs_ops.specs.declared.answer.Cause.TheVariants as causes
use Rattle.qs_ops.specs.declared.operation.Op.TheVariants.{Lend}
use Rattle.qs_ops.specs.declared.reply.Reply.TheVariants as replies
use Rattle.qs_book_journal.specs.declared.entry.Act.{Act}
use Rattle.qs_book_journal.specs.declared.entry.Act.TheVariants as acts
use Rattle.qs_book_journal.specs.declared.entry.CrashCause.TheVariants as crashes
use Rattle.qs_book_journal.specs.declared.entry.Entry.{Entry}
use Rattle.qs_book_journal.specs.declared.script_line.Command.TheVariants as commands
use Rattle.qs_book_script.specs.declared.script.Script.{Script}
use Rattle.qs_book_conformance.specs.OwnerRows.{a}
use Rattle.qs_book_conformance.specs.Scenes.{node, client, member, tid, put, get, seat, said, asks, script, with_faults, crash, step, ending, judged, well, broken_at, unlawful_at}
use Rattle.qs_book_conformance.specs.declared.fault.Rule.TheVariants as rules

-- ---- it is taken and given back, and then it is not the borrower's

abbrev pub lent_script : Script
lent_script = script (seat 0 0 ∷ seat 1 0 ∷ [])
    (said 0 3 a commands.Begin ∷ said 0 4 a (asks 0 33 (Lend (client 1))) ∷ said 0 5 a commands.Commit
    ∷ said 1 6 a commands.Take ∷ said 1 7 a commands.Yield ∷ said 1 8 a (asks 0 0 (put (codes "f") (codes "x"))) ∷ [])

abbrev pub lent_history : List Entry
lent_history =
    step 1 0 (acts.Begin (tid 1) a (client 0) ∷ acts.Answer (client 0) 3 answers.Done ∷ [])
    ++ (step 2 0 (acts.Issue (tid 1) (member 0 32) (member 0 33) 1 (Lend (client 1)) ∷ [])
    ++ (step 3 0 (acts.Serve (tid 1) (member 0 33) (node 0) 1 replies.Done ∷ acts.Loan (tid 1) (client 1)
    ∷ acts.Answer (client 0) 4 answers.Done ∷ acts.Answer (client 1) 6 answers.Done ∷ [])
    ++ (step 4 0 (acts.Yield (tid 1) (client 1) ∷ acts.Answer (client 1) 7 answers.Done ∷ [])
    ++ (step 5 0 (acts.Answer (client 1) 8 answers.NotYours ∷ [])
    ++ (step 6 0 (acts.Ask (tid 1) ∷ [])
    ++ step 7 0 (acts.Tick ∷ acts.Decide (tid 1) outcomes.Commit None ∷ acts.Answer (client 0) 5 answers.Committed ∷ []))))))

-- from this place on the history is another, in this step
abbrev pub lent_but : ℕ → ℕ → Act → List Entry
lent_but place stamp act = ending place (step stamp 0 (act ∷ [])) lent_history

pub record LentRows : Type 0 where
  pub whole : judged 1 lent_script lent_history ≡ well
  pub early : judged 1 lent_script (lent_but 4 3 (acts.Answer (client 1) 6 answers.Done)) ≡ broken_at 4 rules.AnswerIsDue
  pub not_yours : judged 1 lent_script (lent_but 6 3 (acts.Answer (client 1) 6 answers.NotYours)) ≡ broken_at 6 rules.AnswerIsDue
  pub not_ended : judged 1 lent_script (lent_but 6 3 (acts.Answer (client 1) 6 answers.Ended)) ≡ broken_at 6 rules.AnswerIsDue
  pub untaken : judged 1 lent_script (lent_but 6 4 (acts.Yield (tid 1) (client 1))) ≡ broken_at 6 rules.CarriesOutItsCommand
  pub no_yield : judged 1 lent_script (lent_but 7 4 (acts.Answer (client 1) 7 answers.Done)) ≡ broken_at 7 rules.AnswerIsDue
  pub twice : judged 1 lent_script (lent_but 8 4 (acts.Yield (tid 1) (client 1))) ≡ unlawful_at 8 88
  pub ok : judged 1 lent_script (lent_but 9 5 (acts.Answer (client 1) 8 answers.Done)) ≡ broken_at 9 rules.AnswerIsDue
  pub ended : judged 1 lent_script (lent_but 9 5 (acts.Answer (client 1) 8 answers.Ended)) ≡ broken_at 9 rules.AnswerIsDue
  pub issued : judged 1 lent_script (lent_but 9 5 (acts.Issue (tid 1) (member 0 33) (member 0 0) 2 (put (codes "f") (codes "x")))) ≡ unlawful_at 9 21

-- ---- two loans: between the takes the first counts, though the second stands

abbrev pub two_script : Script
two_script = script (seat 0 0 ∷ seat 1 0 ∷ [])
    (said 0 3 a commands.Begin ∷ said 0 4 a (asks 0 33 (Lend (client 1))) ∷ said 0 5 a (asks 0 33 (Lend (client 1))) ∷ said 0 6 a commands.Commit
    ∷ said 1 7 a commands.Take ∷ said 1 8 a commands.Yield ∷ said 1 9 a (asks 0 0 (put (codes "f") (codes "x")))
    ∷ said 1 10 a commands.Take ∷ said 1 11 a (asks 0 0 (put (codes "f") (codes "x"))) ∷ said 1 12 a commands.Yield ∷ [])

abbrev pub two_history : List Entry
two_history =
    step 1 0 (acts.Begin (tid 1) a (client 0) ∷ acts.Answer (client 0) 3 answers.Done ∷ [])
    ++ (step 2 0 (acts.Issue (tid 1) (member 0 32) (member 0 33) 1 (Lend (client 1)) ∷ [])
    ++ (step 3 0 (acts.Serve (tid 1) (member 0 33) (node 0) 1 replies.Done ∷ acts.Loan (tid 1) (client 1)
    ∷ acts.Answer (client 0) 4 answers.Done ∷ acts.Answer (client 1) 7 answers.Done ∷ [])
    ++ (step 4 0 (acts.Issue (tid 1) (member 0 32) (member 0 33) 2 (Lend (client 1)) ∷ [])
    ++ (step 5 0 (acts.Serve (tid 1) (member 0 33) (node 0) 2 replies.Done ∷ acts.Loan (tid 1) (client 1) ∷ acts.Answer (client 0) 5 answers.Done ∷ [])
    ++ (step 6 0 (acts.Yield (tid 1) (client 1) ∷ acts.Answer (client 1) 8 answers.Done ∷ [])
    ++ (step 7 0 (acts.Answer (client 1) 9 answers.NotYours ∷ [])
    ++ (step 8 0 (acts.Answer (client 1) 10 answers.Done ∷ [])
    ++ (step 9 0 (acts.Issue (tid 1) (member 0 33) (member 0 0) 3 (put (codes "f") (codes "x")) ∷ [])
    ++ (step 10 0 (acts.Serve (tid 1) (member 0 0) (node 0) 3 replies.Done ∷ acts.Answer (client 1) 11 answers.Done ∷ [])
    ++ step 11 0 (acts.Yield (tid 1) (client 1) ∷ acts.Answer (client 1) 12 answers.Done ∷ []))))))))))

pub record TwoLoanRows : Type 0 where
  pub whole : judged 1 two_script two_history ≡ well
  pub between : judged 1 two_script (ending 13 (step 7 0 (acts.Issue (tid 1) (member 0 33) (member 0 0) 3 (put (codes "f") (codes "x")) ∷ [])) two_history) ≡ broken_at 13 rules.LoanStands
  pub told : judged 1 two_script (ending 13 (step 7 0 (acts.Answer (client 1) 9 answers.Done ∷ [])) two_history) ≡ broken_at 13 rules.AnswerIsDue
  pub second : judged 1 two_script (ending 14 (step 8 0 (acts.Answer (client 1) 10 answers.NotYours ∷ [])) two_history) ≡ broken_at 14 rules.AnswerIsDue

-- ---- it is aborted while it is lent

abbrev pub ended_script : Script
ended_script = script (seat 0 0 ∷ seat 1 0 ∷ [])
    (said 0 3 a commands.Begin ∷ said 0 4 a (asks 0 33 (Lend (client 1))) ∷ said 0 5 a commands.Abort
    ∷ said 1 6 a commands.Take ∷ said 1 7 a (asks 0 0 (get (codes "f"))) ∷ said 1 8 a commands.Yield ∷ [])

abbrev pub ended_start : List Entry
ended_start =
    step 1 0 (acts.Begin (tid 1) a (client 0) ∷ acts.Answer (client 0) 3 answers.Done ∷ [])
    ++ (step 2 0 (acts.Issue (tid 1) (member 0 32) (member 0 33) 1 (Lend (client 1)) ∷ [])
    ++ (step 3 0 (acts.Serve (tid 1) (member 0 33) (node 0) 1 replies.Done ∷ acts.Loan (tid 1) (client 1)
    ∷ acts.Answer (client 0) 4 answers.Done ∷ acts.Answer (client 1) 6 answers.Done ∷ [])
    ++ step 4 0 (acts.Issue (tid 1) (member 0 33) (member 0 0) 2 (get (codes "f")) ∷ [])))

-- before its request is served, and after
abbrev pub ended_waiting : List Entry
ended_waiting =
    ended_start ++ (step 5 0 (acts.Decide (tid 1) outcomes.Abort (Some causes.Asked) ∷ acts.Answer (client 0) 5 (answers.Aborted causes.Asked)
    ∷ acts.Answer (client 1) 7 answers.Ended ∷ [])
    ++ step 6 0 (acts.Answer (client 1) 8 answers.Ended ∷ []))

abbrev pub ended_served : List Entry
ended_served =
    ended_start ++ (step 5 0 (acts.Serve (tid 1) (member 0 0) (node 0) 2 replies.Absent ∷ acts.Answer (client 1) 7 answers.Absent ∷ [])
    ++ (step 6 0 (acts.Decide (tid 1) outcomes.Abort (Some causes.Asked) ∷ acts.Learn (tid 1) (member 0 0) outcomes.Abort
    ∷ acts.Answer (client 0) 5 (answers.Aborted causes.Asked) ∷ [])
    ++ step 7 0 (acts.Answer (client 1) 8 answers.Ended ∷ [])))

pub record EndedRows : Type 0 where
  pub waiting : judged 1 ended_script ended_waiting ≡ well
  pub served : judged 1 ended_script ended_served ≡ well
  -- no member there learnt abort: the node may not know it yet
  pub yielded : judged 1 ended_script (ending 11 (step 6 0 (acts.Yield (tid 1) (client 1) ∷ acts.Answer (client 1) 8 answers.Done ∷ [])) ended_waiting) ≡ well
  pub early : judged 1 ended_script (ending 8 (step 5 0 (acts.Answer (client 1) 7 answers.Ended ∷ [])) ended_waiting) ≡ broken_at 8 rules.AnswerIsDue
  pub unserved : judged 1 ended_script (ending 10 (step 5 0 (acts.Answer (client 1) 7 answers.Absent ∷ [])) ended_waiting) ≡ broken_at 10 rules.AnswerIsDue
  pub known : judged 1 ended_script (ending 13 (step 7 0 (acts.Yield (tid 1) (client 1) ∷ [])) ended_served) ≡ broken_at 13 rules.LoanStands
  pub not_yours : judged 1 ended_script (ending 13 (step 7 0 (acts.Answer (client 1) 8 answers.NotYours ∷ [])) ended_served) ≡ broken_at 13 rules.AnswerIsDue

-- ---- the borrower's node restarts

abbrev pub far_script : Script
far_script = with_faults (crash 1 ∷ []) (script (seat 0 0 ∷ seat 1 1 ∷ [])
    (said 0 3 a commands.Begin ∷ said 0 4 a (asks 1 33 (Lend (client 1))) ∷ said 0 5 a commands.Commit
    ∷ said 1 6 a commands.Take ∷ said 1 7 a (asks 1 0 (put (codes "f") (codes "x"))) ∷ said 1 8 a commands.Yield ∷ []))

abbrev pub far_history : List Entry
far_history =
    step 1 0 (acts.Begin (tid 1) a (client 0) ∷ acts.Answer (client 0) 3 answers.Done ∷ [])
    ++ (step 2 0 (acts.Issue (tid 1) (member 0 32) (member 1 33) 1 (Lend (client 1)) ∷ [])
    ++ (step 3 1 (acts.Serve (tid 1) (member 1 33) (node 0) 1 replies.Done ∷ acts.Loan (tid 1) (client 1) ∷ acts.Answer (client 1) 6 answers.Done ∷ [])
    ++ (step 4 0 (acts.Answer (client 0) 4 answers.Done ∷ [])
    ++ (step 5 1 (acts.Crash crashes.Plan ∷ [])
    ++ (step 6 1 (acts.Restart 2 [] [] ∷ [])
    ++ step 7 1 (acts.Answer (client 1) 7 answers.Ended ∷ acts.Answer (client 1) 8 answers.Ended ∷ []))))))

-- the same with the take not answered as it stops
abbrev pub far_untaken : Answer → List Entry
far_untaken answer = ending 5 (step 5 1 (acts.Crash crashes.Plan ∷ []) ++ step 6 1 (acts.Restart 2 [] [] ∷ acts.Answer (client 1) 6 answer ∷ [])) far_history

-- the script lends to a place where the client does not sit
abbrev pub lost_script : Script
lost_script = script (seat 0 0 ∷ seat 1 0 ∷ []) (said 0 3 a commands.Begin ∷ said 0 4 a (asks 1 33 (Lend (client 1))) ∷ [])

pub record FarRows : Type 0 where
  pub whole : judged 2 far_script far_history ≡ well
  pub untaken : judged 2 far_script (far_untaken answers.Ended) ≡ well
  pub taken : judged 2 far_script (far_untaken answers.Done) ≡ broken_at 7 rules.AnswerIsDue
  pub not_yours : judged 2 far_script (ending 9 (step 7 1 (acts.Answer (client 1) 7 answers.NotYours ∷ [])) far_history) ≡ broken_at 9 rules.AnswerIsDue
  pub ok : judged 2 far_script (ending 10 (step 7 1 (acts.Answer (client 1) 8 answers.Done ∷ [])) far_history) ≡ broken_at 10 rules.AnswerIsDue
  pub elsewhere : judged 2 far_script (ending 5 (step 3 1 (acts.Answer (client 0) 4 answers.Done ∷ [])) far_history) ≡ broken_at 5 rules.AnswersInOrder
  pub begun_elsewhere : judged 2 far_script (step 1 1 (acts.Begin (record (tid 1) { home = node 1 }) a (client 0) ∷ [])) ≡ broken_at 0 rules.CarriesOutItsCommand
  pub loan : judged 2 lost_script (ending 5 [] far_history) ≡ broken_at 4 rules.LoanAtItsNode

-- ---- a request has the number of one of the incarnation before, which waits still: the answer is the reply of a serve since

abbrev pub again_script : Script
again_script = with_faults (crash 1 ∷ []) (script (seat 0 0 ∷ seat 1 1 ∷ [])
    (said 0 3 a commands.Begin ∷ said 0 4 a (asks 1 33 (Lend (client 1))) ∷ said 0 5 a (asks 1 33 (Lend (client 1)))
    ∷ said 1 6 a commands.Take ∷ said 1 7 a (asks 0 0 (put (codes "f") (codes "x"))) ∷ said 1 8 a commands.Yield
    ∷ said 1 9 a commands.Take ∷ said 1 10 a (asks 0 0 (get (codes "g"))) ∷ []))

abbrev pub again_history : Answer → List Entry
again_history answer =
    step 1 0 (acts.Begin (tid 1) a (client 0) ∷ acts.Answer (client 0) 3 answers.Done ∷ [])
    ++ (step 2 0 (acts.Issue (tid 1) (member 0 32) (member 1 33) 1 (Lend (client 1)) ∷ [])
    ++ (step 3 1 (acts.Serve (tid 1) (member 1 33) (node 0) 1 replies.Done ∷ acts.Loan (tid 1) (client 1) ∷ acts.Answer (client 1) 6 answers.Done ∷ [])
    ++ (step 4 0 (acts.Answer (client 0) 4 answers.Done ∷ [])
    ++ (step 5 1 (acts.Issue (tid 1) (member 1 33) (member 0 0) 1 (put (codes "f") (codes "x")) ∷ [])
    ++ (step 6 1 (acts.Crash crashes.Plan ∷ [])
    ++ (step 7 1 (acts.Restart 2 [] [] ∷ acts.Answer (client 1) 7 answers.Ended ∷ acts.Answer (client 1) 8 answers.Ended ∷ [])
    ++ (step 8 0 (acts.Issue (tid 1) (member 0 32) (member 1 33) 2 (Lend (client 1)) ∷ [])
    ++ (step 9 1 (acts.Serve (tid 1) (member 1 33) (node 0) 2 replies.Done ∷ acts.Loan (tid 1) (client 1) ∷ acts.Answer (client 1) 9 answers.Done ∷ [])
    ++ (step 10 1 (acts.Issue (tid 1) (member 1 33) (member 0 0) 1 (get (codes "g")) ∷ [])
    ++ (step 11 0 (acts.Serve (tid 1) (member 0 0) (node 1) 1 replies.Done ∷ [])
    ++ (step 12 0 (acts.Serve (tid 1) (member 0 0) (node 1) 1 replies.Absent ∷ [])
    ++ step 13 1 (acts.Answer (client 1) 10 answer ∷ []))))))))))))

pub record AgainRows : Type 0 where
  pub second : judged 2 again_script (again_history answers.Absent) ≡ well
  pub first : judged 2 again_script (again_history answers.Done) ≡ well
  pub none : judged 2 again_script (again_history answers.TooMany) ≡ broken_at 19 rules.AnswerIsDue
