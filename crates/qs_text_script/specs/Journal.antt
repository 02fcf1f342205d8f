-- The lines of a history. A line is its stamp and, each after a blank, its node and what tells the act.
use Rattle.std.specs.Prelude.{ℕ, ◌-◌, List, [], ◌∷◌, ◌++◌, Option, Some, None, map, nat_lt, codes, decimal, if◌then◌else◌}
use Rattle.std.specs.List.{flat_map}
use Rattle.qs_base.specs.declared.identifiers.ClientNo.{ClientNo}
use Rattle.qs_base.specs.declared.identifiers.Member.{Member}
use Rattle.qs_base.specs.declared.identifiers.NodeNo.{NodeNo}
use Rattle.qs_base.specs.declared.identifiers.Outcome.{Outcome}
use Rattle.qs_base.specs.declared.identifiers.Outcome.TheVariants as outcomes
use Rattle.qs_base.specs.declared.identifiers.Tid.{Tid}
use Rattle.qs_book_journal.specs.declared.entry.Act.{Act}
use Rattle.qs_book_journal.specs.declared.entry.Act.TheVariants as acts
use Rattle.qs_book_journal.specs.declared.entry.CrashCause.{CrashCause}
use Rattle.qs_book_journal.specs.declared.entry.CrashCause.TheVariants as crashes
use Rattle.qs_book_journal.specs.declared.entry.Entry.{Entry}
use Rattle.qs_book_journal.specs.declared.entry.Found.{Found}
use Rattle.qs_ops.specs.Operations.{answer_of}
use Rattle.qs_ops.specs.declared.answer.Answer.{Answer}
use Rattle.qs_ops.specs.declared.answer.Cause.{Cause}
use Rattle.qs_ops.specs.declared.operation.Op.{Op}
use Rattle.qs_ops.specs.declared.operation.Op.TheVariants.{Put, Append, Del, Get, Listing, Note, Notes, Bind, Find, Timer, Left, Window, Title, Keep, Fetch, Lend, Extra}
use Rattle.qs_ops.specs.declared.reply.Reply.{Reply}
use Rattle.qs_ops.specs.declared.vote.Vote.{Vote}
use Rattle.qs_ops.specs.declared.vote.Vote.TheVariants as votes
use Rattle.qs_text_script.specs.Answers.{tid_text, server_text, list_text, reason_text, cause_text, answer_text, told_text}

-- ---- members

-- the servers by their names, and from 32 on the clients as borrowers
abbrev pub part_text : ℕ → List ℕ
part_text server = if nat_lt server 32 then server_text server else codes "client" ++ decimal (server - 32)

-- SERVER@NODE
abbrev pub member_text : Member → List ℕ
member_text member = part_text member.server.0 ++ (codes "@" ++ decimal member.node.0)

-- ---- operations

abbrev pub op_word : Op → List ℕ
op_word (Put name text) = codes "put"
op_word (Append name text) = codes "append"
op_word (Del name) = codes "del"
op_word (Get name) = codes "get"
op_word Listing = codes "list"
op_word (Note text) = codes "note"
op_word Notes = codes "notes"
op_word (Bind name text) = codes "bind"
op_word (Find name) = codes "find"
op_word (Timer name ticks) = codes "timer"
op_word (Left name) = codes "left"
op_word (Window name text) = codes "window"
op_word (Title name) = codes "title"
op_word (Keep name text) = codes "keep"
op_word (Fetch name) = codes "fetch"
op_word (Lend client) = codes "lend"
op_word (Extra code text) = codes "extra"

abbrev pub op_arguments : Op → List (List ℕ)
op_arguments (Put name text) = name ∷ text ∷ []
op_arguments (Append name text) = name ∷ text ∷ []
op_arguments (Del name) = name ∷ []
op_arguments (Get name) = name ∷ []
op_arguments Listing = []
op_arguments (Note text) = text ∷ []
op_arguments Notes = []
op_arguments (Bind name text) = name ∷ text ∷ []
op_arguments (Find name) = name ∷ []
op_arguments (Timer name ticks) = name ∷ decimal ticks ∷ []
op_arguments (Left name) = name ∷ []
op_arguments (Window name text) = name ∷ text ∷ []
op_arguments (Title name) = name ∷ []
op_arguments (Keep name text) = name ∷ text ∷ []
op_arguments (Fetch name) = name ∷ []
op_arguments (Lend client) = decimal client.0 ∷ []
op_arguments (Extra code text) = decimal code ∷ text ∷ []

-- the operation as a script spells it, without label and node
abbrev pub op_words : Op → List (List ℕ)
op_words op = op_word op ∷ op_arguments op

-- ---- votes, outcomes and causes

-- readonly, volatile, recoverable, or abort REASON
abbrev pub ballot_text : Vote → List ℕ
ballot_text (votes.Abort reason) = codes "abort " ++ reason_text reason
ballot_text votes.ReadOnly = codes "readonly"
ballot_text votes.Volatile = codes "volatile"
ballot_text votes.Recoverable = codes "recoverable"

abbrev pub outcome_text : Outcome → List ℕ
outcome_text outcomes.Commit = codes "commit"
outcome_text outcomes.Abort = codes "abort"

-- the cause of an abort, where it has one
abbrev pub cause_words : Outcome → Option Cause → List (List ℕ)
cause_words outcomes.Abort (Some cause) = cause_text cause ∷ []
cause_words _ _ = []

-- why a node stopped
abbrev pub crash_words : CrashCause → List (List ℕ)
crash_words crashes.Plan = codes "plan" ∷ []
crash_words (crashes.Disk from to) = codes "disk" ∷ decimal from ∷ decimal to ∷ []
crash_words (crashes.Last value) = codes "last" ∷ decimal value ∷ []
crash_words crashes.Memory = codes "memory" ∷ []

-- ---- what a restart found

-- pend:TID:SERVER:COVERS
abbrev pub pend_text : Found → List ℕ
pend_text found =
    codes "pend:" ++ (tid_text found.tid ++ (codes ":" ++ (decimal found.server.0 ++ (codes ":" ++ decimal found.covers))))

-- done:TID
abbrev pub done_text : Tid → List ℕ
done_text tid = codes "done:" ++ tid_text tid

-- ---- acts

-- a reply reads as the answer that it makes; the holder of a busy one goes by its identifier
abbrev pub reply_text : Reply → List ℕ
reply_text reply = answer_text None (answer_of reply)

abbrev pub begin_words : Tid → List ℕ → ClientNo → List (List ℕ)
begin_words tid label client = codes "begin" ∷ tid_text tid ∷ label ∷ decimal client.0 ∷ []

abbrev pub issue_words : Tid → Member → Member → ℕ → Op → List (List ℕ)
issue_words tid issuer member number op =
    codes "issue" ∷ tid_text tid ∷ member_text issuer ∷ member_text member ∷ decimal number ∷ op_words op

abbrev pub serve_words : Tid → Member → NodeNo → ℕ → Reply → List (List ℕ)
serve_words tid member from number reply =
    codes "serve" ∷ tid_text tid ∷ member_text member ∷ decimal from.0 ∷ decimal number ∷ reply_text reply ∷ []

abbrev pub vote_words : Tid → Member → Vote → ℕ → List (List ℕ)
vote_words tid member vote covers = codes "vote" ∷ tid_text tid ∷ member_text member ∷ ballot_text vote ∷ decimal covers ∷ []

abbrev pub counted_words : Tid → NodeNo → ℕ → List (List ℕ)
counted_words tid peer up_to = codes "counted" ∷ tid_text tid ∷ decimal peer.0 ∷ decimal up_to ∷ []

abbrev pub decide_words : Tid → Outcome → Option Cause → List (List ℕ)
decide_words tid outcome cause = codes "decide" ∷ tid_text tid ∷ outcome_text outcome ∷ cause_words outcome cause

abbrev pub learn_words : Tid → Member → Outcome → List (List ℕ)
learn_words tid member outcome = codes "learn" ∷ tid_text tid ∷ member_text member ∷ outcome_text outcome ∷ []

abbrev pub answer_act_words : (Tid → Option (List ℕ)) → ClientNo → ℕ → Answer → List (List ℕ)
answer_act_words labels client line answer = codes "answer" ∷ decimal client.0 ∷ told_text labels line answer ∷ []

-- the found Prepares, then the found Commits
abbrev pub restart_words : ℕ → List Found → List Tid → List (List ℕ)
restart_words inc pend done = codes "restart" ∷ decimal inc ∷ (map pend_text pend ++ map done_text done)

abbrev pub act_words : (Tid → Option (List ℕ)) → Act → List (List ℕ)
act_words labels (acts.Begin tid label client) = begin_words tid label client
act_words labels (acts.Issue tid issuer member number op) = issue_words tid issuer member number op
act_words labels (acts.Serve tid member from number reply) = serve_words tid member from number reply
act_words labels (acts.Ask tid) = codes "ask" ∷ tid_text tid ∷ []
act_words labels (acts.Vote tid member vote covers) = vote_words tid member vote covers
act_words labels (acts.Counted tid peer up_to) = counted_words tid peer up_to
act_words labels (acts.Decide tid outcome cause) = decide_words tid outcome cause
act_words labels (acts.Ending tid member) = codes "ending" ∷ tid_text tid ∷ member_text member ∷ []
act_words labels (acts.Learn tid member outcome) = learn_words tid member outcome
act_words labels (acts.Answer client line answer) = answer_act_words labels client line answer
act_words labels (acts.Loan tid client) = codes "loan" ∷ tid_text tid ∷ decimal client.0 ∷ []
act_words labels (acts.Yield tid client) = codes "yield" ∷ tid_text tid ∷ decimal client.0 ∷ []
act_words labels acts.Tick = codes "tick" ∷ []
act_words labels (acts.Crash cause) = codes "crash" ∷ crash_words cause
act_words labels (acts.Restart inc pend done) = restart_words inc pend done

-- ---- lines

-- the line of an entry, without its line feed; the labels are those of transactions that were begun in this run
abbrev pub entry_line : (Tid → Option (List ℕ)) → Entry → List ℕ
entry_line labels entry = decimal entry.stamp ++ list_text (decimal entry.node.0 ∷ act_words labels entry.act)

abbrev pub entry_row : (Tid → Option (List ℕ)) → Entry → List ℕ
entry_row labels entry = entry_line labels entry ++ codes "\n"

-- the lines of a history in order, each with its line feed
abbrev pub journal_text : (Tid → Option (List ℕ)) → List Entry → List ℕ
journal_text labels history = flat_map (entry_row labels) history
