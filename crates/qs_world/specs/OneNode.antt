-- Runs of one node, with their histories.
use Rattle.std.specs.Prelude.{◌≡◌, true, false, List, [], ◌∷◌, ◌++◌, drop, codes, Bool, Some, None}
use Rattle.qs_base.specs.declared.identifiers.Outcome.TheVariants as outcomes
use Rattle.qs_ops.specs.declared.answer.Answer.TheVariants as answers
use Rattle.qs_ops.specs.declared.answer.Cause.TheVariants as causes
use Rattle.qs_ops.specs.declared.operation.Op.TheVariants.{Timer, Left, Window, Title, Keep, Fetch}
use Rattle.qs_ops.specs.declared.reply.Reply.TheVariants as replies
use Rattle.qs_ops.specs.declared.vote.Vote.TheVariants as votes
use Rattle.qs_book_journal.specs.declared.entry.Act.TheVariants as acts
use Rattle.qs_book_journal.specs.declared.entry.CrashCause.TheVariants as crashes
use Rattle.qs_book_journal.specs.declared.entry.Entry.{Entry}
use Rattle.qs_book_journal.specs.declared.script_line.Command.TheVariants as commands
use Rattle.qs_book_journal.specs.declared.script_line.ScriptLine.{ScriptLine}
use Rattle.qs_record.specs.declared.record.Record.TheVariants as records
use Rattle.std.specs.Global.{Global}
use Rattle.qs_world.specs.World.{World, start}
use Rattle.qs_world.specs.Posting.{entries_of}
use Rattle.qs_world.specs.Moves.{Commanded, Queues, Clock, Move, Step, Cut, Rise}
use Rattle.qs_world.specs.Runs.{may_run, after_moves}
use Rattle.qs_world.specs.Scenes.{member, node, client_0, first_tid, second_tid, line, put_hello, alone, fresh_room}

-- ---- it commits

abbrev pub commit_script : List ScriptLine
commit_script =
    line 2 (codes "a") commands.Begin ∷ line 3 (codes "a") (commands.Request (member 0 0) put_hello) ∷ line 4 (codes "a") commands.Commit ∷ []

abbrev pub commit_moves : List Move
commit_moves =
    Step 0 1 fresh_room (Commanded 0) ∷ Step 0 2 fresh_room (Commanded 0) ∷ Step 0 3 fresh_room Queues ∷ Step 0 4 fresh_room (Commanded 0)
    ∷ Step 0 5 fresh_room Clock ∷ Step 0 6 fresh_room Clock ∷ []

abbrev pub commit_world : Global → World
commit_world alloc = after_moves (start (alone alloc 1 commit_script)) commit_moves

abbrev pub commit_journal : List Entry
commit_journal =
    entries_of 0 1 (acts.Begin first_tid (codes "a") client_0 ∷ acts.Answer client_0 2 answers.Done ∷ [])
    ++ (entries_of 0 2 (acts.Issue first_tid (member 0 32) (member 0 0) 1 put_hello ∷ [])
    ++ (entries_of 0 3 (acts.Serve first_tid (member 0 0) (node 0) 1 replies.Done ∷ acts.Answer client_0 3 answers.Done ∷ [])
    ++ (entries_of 0 4 (acts.Ask first_tid ∷ [])
    ++ (entries_of 0 5 (acts.Tick ∷ acts.Vote first_tid (member 0 0) votes.Recoverable 1 ∷ [])
    ++ entries_of 0 6 (acts.Tick ∷ acts.Decide first_tid outcomes.Commit None ∷ acts.Learn first_tid (member 0 0) outcomes.Commit ∷ acts.Answer client_0 4 answers.Committed ∷ [])))))

pub record RowCommit (alloc : Global) : Type 0 where
  pub moves : may_run (start (alone alloc 1 commit_script)) commit_moves ≡ true
  pub journal : (commit_world alloc).journal ≡ commit_journal
  pub log : ((commit_world alloc).hosts 0).log ≡ records.Prepare first_tid (record { 0 = 0 }) 1 (put_hello ∷ []) ∷ records.Commit first_tid [] ∷ []
  pub files : ((commit_world alloc).hosts 0).node.servers.files.table.contents ≡ record { name = codes "f"; content = codes "hello" } ∷ []

-- ---- its owner aborts

abbrev pub abort_script : List ScriptLine
abort_script =
    line 2 (codes "a") commands.Begin ∷ line 3 (codes "a") (commands.Request (member 0 0) put_hello) ∷ line 4 (codes "a") commands.Abort ∷ []

abbrev pub abort_moves : List Move
abort_moves =
    Step 0 1 fresh_room (Commanded 0) ∷ Step 0 2 fresh_room (Commanded 0) ∷ Step 0 3 fresh_room Queues ∷ Step 0 4 fresh_room (Commanded 0) ∷ []

abbrev pub abort_world : Global → World
abort_world alloc = after_moves (start (alone alloc 1 abort_script)) abort_moves

abbrev pub abort_journal : List Entry
abort_journal =
    entries_of 0 1 (acts.Begin first_tid (codes "a") client_0 ∷ acts.Answer client_0 2 answers.Done ∷ [])
    ++ (entries_of 0 2 (acts.Issue first_tid (member 0 32) (member 0 0) 1 put_hello ∷ [])
    ++ (entries_of 0 3 (acts.Serve first_tid (member 0 0) (node 0) 1 replies.Done ∷ acts.Answer client_0 3 answers.Done ∷ [])
    ++ entries_of 0 4 (acts.Decide first_tid outcomes.Abort (Some causes.Asked) ∷ acts.Learn first_tid (member 0 0) outcomes.Abort ∷ acts.Answer client_0 4 (answers.Aborted causes.Asked) ∷ [])))

pub record RowAbort (alloc : Global) : Type 0 where
  pub moves : may_run (start (alone alloc 1 abort_script)) abort_moves ≡ true
  pub journal : (abort_world alloc).journal ≡ abort_journal
  pub log : ((abort_world alloc).hosts 0).log ≡ []
  pub files : ((abort_world alloc).hosts 0).node.servers.files.table.contents ≡ []

-- ---- volatile servers: an abort tells timers that it ends, and windows and scratch that it aborts, in this order

abbrev pub volatile_script : List ScriptLine
volatile_script =
    line 2 (codes "a") commands.Begin
    ∷ line 3 (codes "a") (commands.Request (member 0 3) (Timer (codes "t") 5))
    ∷ line 4 (codes "a") (commands.Request (member 0 4) (Window (codes "w") (codes "hi")))
    ∷ line 5 (codes "a") (commands.Request (member 0 5) (Keep (codes "s") (codes "z")))
    ∷ line 6 (codes "a") commands.Abort
    ∷ line 7 (codes "b") commands.Begin
    ∷ line 8 (codes "b") (commands.Request (member 0 3) (Left (codes "t")))
    ∷ line 9 (codes "b") (commands.Request (member 0 4) (Title (codes "w")))
    ∷ line 10 (codes "b") (commands.Request (member 0 5) (Fetch (codes "s")))
    ∷ line 11 (codes "b") commands.Commit ∷ []

abbrev pub volatile_moves : List Move
volatile_moves =
    Step 0 1 fresh_room (Commanded 0)
    ∷ Step 0 2 fresh_room (Commanded 0) ∷ Step 0 3 fresh_room Queues
    ∷ Step 0 4 fresh_room (Commanded 0) ∷ Step 0 5 fresh_room Queues
    ∷ Step 0 6 fresh_room (Commanded 0) ∷ Step 0 7 fresh_room Queues
    ∷ Step 0 8 fresh_room (Commanded 0)
    ∷ Step 0 9 fresh_room (Commanded 0)
    ∷ Step 0 10 fresh_room (Commanded 0) ∷ Step 0 11 fresh_room Queues
    ∷ Step 0 12 fresh_room (Commanded 0) ∷ Step 0 13 fresh_room Queues
    ∷ Step 0 14 fresh_room (Commanded 0) ∷ Step 0 15 fresh_room Queues
    ∷ Step 0 16 fresh_room (Commanded 0) ∷ Step 0 17 fresh_room Clock ∷ Step 0 18 fresh_room Clock ∷ []

abbrev pub volatile_world : Global → World
volatile_world alloc = after_moves (start (alone alloc 1 volatile_script)) volatile_moves

-- the entries from the abort on
abbrev pub volatile_end : List Entry
volatile_end =
    entries_of 0 8 (acts.Decide first_tid outcomes.Abort (Some causes.Asked)
    ∷ acts.Ending first_tid (member 0 3)
    ∷ acts.Learn first_tid (member 0 4) outcomes.Abort
    ∷ acts.Learn first_tid (member 0 5) outcomes.Abort
    ∷ acts.Answer client_0 6 (answers.Aborted causes.Asked) ∷ [])
    ++ (entries_of 0 9 (acts.Begin second_tid (codes "b") client_0 ∷ acts.Answer client_0 7 answers.Done ∷ [])
    ++ (entries_of 0 10 (acts.Issue second_tid (member 0 32) (member 0 3) 1 (Left (codes "t")) ∷ [])
    ++ (entries_of 0 11 (acts.Serve second_tid (member 0 3) (node 0) 1 replies.Absent ∷ acts.Answer client_0 8 answers.Absent ∷ [])
    ++ (entries_of 0 12 (acts.Issue second_tid (member 0 32) (member 0 4) 2 (Title (codes "w")) ∷ [])
    ++ (entries_of 0 13 (acts.Serve second_tid (member 0 4) (node 0) 2 replies.Absent ∷ acts.Answer client_0 9 answers.Absent ∷ [])
    ++ (entries_of 0 14 (acts.Issue second_tid (member 0 32) (member 0 5) 3 (Fetch (codes "s")) ∷ [])
    ++ (entries_of 0 15 (acts.Serve second_tid (member 0 5) (node 0) 3 replies.Absent ∷ acts.Answer client_0 10 answers.Absent ∷ [])
    ++ (entries_of 0 16 (acts.Ask second_tid ∷ [])
    ++ (entries_of 0 17 (acts.Tick ∷ acts.Ending second_tid (member 0 3)
    ∷ acts.Decide second_tid outcomes.Commit None
    ∷ acts.Learn second_tid (member 0 4) outcomes.Commit
    ∷ acts.Learn second_tid (member 0 5) outcomes.Commit
    ∷ acts.Answer client_0 11 answers.Committed ∷ [])
    ++ entries_of 0 18 (acts.Tick ∷ []))))))))))

pub record RowVolatile (alloc : Global) : Type 0 where
  pub moves : may_run (start (alone alloc 1 volatile_script)) volatile_moves ≡ true
  pub journal : drop 11 (volatile_world alloc).journal ≡ volatile_end
  pub log : ((volatile_world alloc).hosts 0).log ≡ []

-- ---- the decision is cut off: with its batch on the disk the restart finds the commit, and without it the home aborts

abbrev pub before_cut : List Move
before_cut =
    Step 0 1 fresh_room (Commanded 0) ∷ Step 0 2 fresh_room (Commanded 0) ∷ Step 0 3 fresh_room Queues ∷ Step 0 4 fresh_room (Commanded 0)
    ∷ Step 0 5 fresh_room Clock ∷ []

abbrev pub cut_moves : Bool → List Move
cut_moves is_kept = before_cut ++ Cut 0 6 fresh_room Clock is_kept crashes.Plan ∷ Rise 0 7 2 ∷ Step 0 8 fresh_room (Commanded 0) ∷ []

abbrev pub cut_world : Global → Bool → World
cut_world alloc is_kept = after_moves (start (alone alloc 1 commit_script)) (cut_moves is_kept)

abbrev pub kept_end : List Entry
kept_end =
    entries_of 0 6 (acts.Crash crashes.Plan ∷ [])
    ++ (entries_of 0 7 (acts.Restart 2 [] (first_tid ∷ []) ∷ [])
    ++ entries_of 0 8 (acts.Answer client_0 4 answers.Committed ∷ []))

abbrev pub lost_end : List Entry
lost_end =
    entries_of 0 6 (acts.Crash crashes.Plan ∷ [])
    ++ (entries_of 0 7 (acts.Restart 2 (record { tid = first_tid; server = record { 0 = 0 }; covers = 1 } ∷ []) [] ∷ [])
    ++ entries_of 0 8 (acts.Learn first_tid (member 0 0) outcomes.Abort ∷ acts.Answer client_0 4 (answers.Aborted (causes.Home 1)) ∷ []))

pub record RowCut (alloc : Global) : Type 0 where
  pub kept_moves : may_run (start (alone alloc 1 commit_script)) (cut_moves true) ≡ true
  pub kept_journal : drop 8 (cut_world alloc true).journal ≡ kept_end
  pub kept_files : ((cut_world alloc true).hosts 0).node.servers.files.table.contents ≡ record { name = codes "f"; content = codes "hello" } ∷ []
  pub lost_moves : may_run (start (alone alloc 1 commit_script)) (cut_moves false) ≡ true
  pub lost_journal : drop 8 (cut_world alloc false).journal ≡ lost_end
  pub lost_files : ((cut_world alloc false).hosts 0).node.servers.files.table.contents ≡ []
