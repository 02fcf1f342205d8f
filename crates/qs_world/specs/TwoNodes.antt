-- Runs of two nodes, with their histories.
use Rattle.std.specs.Prelude.{◌≡◌, true, List, [], ◌∷◌, ◌++◌, drop, codes, Some, None}
use Rattle.qs_base.specs.declared.identifiers.Outcome.TheVariants as outcomes
use Rattle.qs_ops.specs.declared.answer.Answer.TheVariants as answers
use Rattle.qs_ops.specs.declared.answer.Cause.TheVariants as causes
use Rattle.qs_ops.specs.declared.reply.Reply.TheVariants as replies
use Rattle.qs_ops.specs.declared.vote.Vote.TheVariants as votes
use Rattle.qs_book_journal.specs.declared.entry.Act.TheVariants as acts
use Rattle.qs_book_journal.specs.declared.entry.CrashCause.TheVariants as crashes
use Rattle.qs_book_journal.specs.declared.entry.Entry.{Entry}
use Rattle.qs_book_journal.specs.declared.script_line.Command.TheVariants as commands
use Rattle.qs_book_journal.specs.declared.script_line.ScriptLine.{ScriptLine}
use Rattle.qs_record.specs.declared.record.Record.TheVariants as records
use Rattle.std.specs.Global.{Global}
use Rattle.qs_world.specs.World.{World, start}
use Rattle.qs_world.specs.Posting.{entries_of}
use Rattle.qs_world.specs.Moves.{Commanded, Handed, Queues, Clock, Noticed, Move, Step, Stop, Rise, Meet}
use Rattle.qs_world.specs.Runs.{may_run, after_moves}
use Rattle.qs_world.specs.Scenes.{member, node, client_0, first_tid, line, put_hello, alone, fresh_room}

-- client 0 of node 0 puts a file at node 1
abbrev pub remote_script : List ScriptLine
remote_script =
    line 2 (codes "a") commands.Begin ∷ line 3 (codes "a") (commands.Request (member 1 0) put_hello) ∷ line 4 (codes "a") commands.Commit ∷ []

-- it is put and answered
abbrev pub put_moves : List Move
put_moves =
    Step 0 1 fresh_room (Commanded 0) ∷ Step 0 2 fresh_room (Commanded 0) ∷ Meet 0 3 1 1 ∷ Meet 1 4 0 1
    ∷ Step 1 5 fresh_room (Handed 0) ∷ Step 1 6 fresh_room Queues ∷ Step 0 7 fresh_room (Handed 1) ∷ []

abbrev pub put_entries : List Entry
put_entries =
    entries_of 0 1 (acts.Begin first_tid (codes "a") client_0 ∷ acts.Answer client_0 2 answers.Done ∷ [])
    ++ (entries_of 0 2 (acts.Issue first_tid (member 0 32) (member 1 0) 1 put_hello ∷ [])
    ++ (entries_of 1 6 (acts.Serve first_tid (member 1 0) (node 0) 1 replies.Done ∷ [])
    ++ entries_of 0 7 (acts.Answer client_0 3 answers.Done ∷ [])))

-- ---- it commits, and the Commit is ended

abbrev pub remote_moves : List Move
remote_moves =
    put_moves ++ Step 0 8 fresh_room (Commanded 0) ∷ Step 1 9 fresh_room (Handed 0) ∷ Step 1 10 fresh_room Clock ∷ Step 0 11 fresh_room (Handed 1)
    ∷ Step 1 12 fresh_room (Handed 0) ∷ Step 0 13 fresh_room (Handed 1) ∷ []

abbrev pub remote_world : Global → World
remote_world alloc = after_moves (start (alone alloc 2 remote_script)) remote_moves

abbrev pub remote_journal : List Entry
remote_journal =
    put_entries
    ++ (entries_of 0 8 (acts.Ask first_tid ∷ [])
    ++ (entries_of 1 9 (acts.Vote first_tid (member 1 0) votes.Recoverable 1 ∷ [])
    ++ (entries_of 1 10 (acts.Tick ∷ [])
    ++ (entries_of 0 11 (acts.Counted first_tid (node 1) 1 ∷ acts.Decide first_tid outcomes.Commit None ∷ acts.Answer client_0 4 answers.Committed ∷ [])
    ++ entries_of 1 12 (acts.Learn first_tid (member 1 0) outcomes.Commit ∷ [])))))

pub record RowRemote (alloc : Global) : Type 0 where
  pub moves : may_run (start (alone alloc 2 remote_script)) remote_moves ≡ true
  pub journal : (remote_world alloc).journal ≡ remote_journal
  pub home_log : ((remote_world alloc).hosts 0).log ≡ records.Commit first_tid (node 1 ∷ []) ∷ []
  pub home_waiting : ((remote_world alloc).hosts 0).waiting ≡ records.End first_tid ∷ []
  pub log : ((remote_world alloc).hosts 1).log ≡ records.Prepare first_tid (record { 0 = 0 }) 1 (put_hello ∷ []) ∷ records.Commit first_tid [] ∷ []
  pub files : ((remote_world alloc).hosts 1).node.servers.files.table.contents ≡ record { name = codes "f"; content = codes "hello" } ∷ []

-- ---- node 1 stops before its vote: the home sees the restart and aborts, and node 1 has nothing left

abbrev pub gone_moves : List Move
gone_moves =
    put_moves ++ Step 0 8 fresh_room (Commanded 0) ∷ Stop 1 9 crashes.Plan ∷ Rise 1 10 2 ∷ Meet 1 11 0 1 ∷ Step 0 12 fresh_room (Noticed 1 2)
    ∷ Step 1 13 fresh_room (Handed 0) ∷ Step 0 14 fresh_room (Handed 1) ∷ []

abbrev pub gone_world : Global → World
gone_world alloc = after_moves (start (alone alloc 2 remote_script)) gone_moves

abbrev pub gone_journal : List Entry
gone_journal =
    put_entries
    ++ (entries_of 0 8 (acts.Ask first_tid ∷ [])
    ++ (entries_of 1 9 (acts.Crash crashes.Plan ∷ [])
    ++ (entries_of 1 10 (acts.Restart 2 [] [] ∷ [])
    ++ entries_of 0 12 (acts.Decide first_tid outcomes.Abort (Some (causes.Gone (node 1) 1)) ∷ acts.Answer client_0 4 (answers.Aborted (causes.Gone (node 1) 1)) ∷ []))))

pub record RowGone (alloc : Global) : Type 0 where
  pub moves : may_run (start (alone alloc 2 remote_script)) gone_moves ≡ true
  pub journal : (gone_world alloc).journal ≡ gone_journal
  pub files : ((gone_world alloc).hosts 1).node.servers.files.table.contents ≡ []

-- ---- node 1 stops before it learns: it restarts in doubt, inquires, and learns the commit

abbrev pub doubt_moves : List Move
doubt_moves =
    put_moves ++ Step 0 8 fresh_room (Commanded 0) ∷ Step 1 9 fresh_room (Handed 0) ∷ Step 1 10 fresh_room Clock ∷ Step 0 11 fresh_room (Handed 1)
    ∷ Stop 1 12 crashes.Plan ∷ Rise 1 13 2 ∷ Step 1 14 fresh_room Clock ∷ Meet 1 15 0 1 ∷ Step 0 16 fresh_room (Noticed 1 2)
    ∷ Step 0 17 fresh_room (Handed 1) ∷ Step 1 18 fresh_room (Handed 0) ∷ Step 1 19 fresh_room (Handed 0) ∷ Step 0 20 fresh_room (Handed 1) ∷ []

abbrev pub doubt_world : Global → World
doubt_world alloc = after_moves (start (alone alloc 2 remote_script)) doubt_moves

abbrev pub doubt_end : List Entry
doubt_end =
    entries_of 1 12 (acts.Crash crashes.Plan ∷ [])
    ++ (entries_of 1 13 (acts.Restart 2 (record { tid = first_tid; server = record { 0 = 0 }; covers = 1 } ∷ []) [] ∷ [])
    ++ (entries_of 1 14 (acts.Tick ∷ [])
    ++ entries_of 1 18 (acts.Learn first_tid (member 1 0) outcomes.Commit ∷ [])))

pub record RowDoubt (alloc : Global) : Type 0 where
  pub moves : may_run (start (alone alloc 2 remote_script)) doubt_moves ≡ true
  pub journal : drop 11 (doubt_world alloc).journal ≡ doubt_end
  pub home_waiting : ((doubt_world alloc).hosts 0).waiting ≡ records.End first_tid ∷ []
  pub files : ((doubt_world alloc).hosts 1).node.servers.files.table.contents ≡ record { name = codes "f"; content = codes "hello" } ∷ []
