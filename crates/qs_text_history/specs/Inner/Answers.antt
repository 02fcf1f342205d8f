-- The answers, replies, causes and votes that words spell.
use Rattle.std.specs.Prelude.{ℕ, ◌^◌, List, [], ◌∷◌, length, nat_lt, Option, Some, None, codes, if◌then◌else◌}
use Rattle.qs_base.specs.Order.{same_bytes}
use Rattle.qs_base.specs.declared.identifiers.Outcome.{Outcome}
use Rattle.qs_base.specs.declared.identifiers.Outcome.TheVariants as outcomes
use Rattle.qs_base.specs.declared.identifiers.Tid.{Tid}
use Rattle.qs_book_journal.specs.declared.entry.CrashCause.{CrashCause}
use Rattle.qs_book_journal.specs.declared.entry.CrashCause.TheVariants as crashes
use Rattle.qs_ops.specs.declared.answer.Answer.{Answer}
use Rattle.qs_ops.specs.declared.answer.Answer.TheVariants as answers
use Rattle.qs_ops.specs.declared.answer.Cause.{Cause}
use Rattle.qs_ops.specs.declared.answer.Cause.TheVariants as causes
use Rattle.qs_ops.specs.declared.reply.Reply.{Reply}
use Rattle.qs_ops.specs.declared.reply.Reply.TheVariants as replies
use Rattle.qs_ops.specs.declared.vote.Reason.{Reason}
use Rattle.qs_ops.specs.declared.vote.Reason.TheVariants as reasons
use Rattle.qs_ops.specs.declared.vote.Vote.{Vote}
use Rattle.qs_ops.specs.declared.vote.Vote.TheVariants as votes
use Rattle.qs_text_history.specs.Inner.Lifts.{lift1, lift2}
use Rattle.qs_text_history.specs.Inner.Words.{wide_of, number_below, server_of, member_with, tid_of}

-- ---- reasons and causes

-- taken NAME, code CODE
unfoldable pub short_reason : List ℕ → List ℕ → Option Reason
short_reason word one =
    if same_bytes word (codes "taken") then Some (reasons.Taken one)
    else if same_bytes word (codes "code") then lift1 reasons.Code (number_below (2 ^ 32) one)
    else None

-- quota BYTES LIMIT, log NEED ROOM
unfoldable pub long_reason : List ℕ → List ℕ → List ℕ → Option Reason
long_reason word one two =
    if same_bytes word (codes "quota") then lift2 reasons.Quota (wide_of one) (wide_of two)
    else if same_bytes word (codes "log") then lift2 reasons.LogRoom (wide_of one) (wide_of two)
    else None

abbrev pub asked : List ℕ → Option Cause
asked word = if same_bytes word (codes "asked") then Some causes.Asked else None

-- home INC, old AGE
abbrev pub short_cause : List ℕ → List ℕ → Option Cause
short_cause word one =
    if same_bytes word (codes "home") then lift1 causes.Home (wide_of one)
    else if same_bytes word (codes "old") then lift1 causes.Old (wide_of one)
    else None

-- gone NODE INC, room NEED ROOM
abbrev pub long_cause : List ℕ → List ℕ → List ℕ → Option Cause
long_cause word one two =
    if same_bytes word (codes "gone") then lift2 (λ node inc. causes.Gone (record { 0 = node }) inc) (number_below 256 one) (wide_of two)
    else if same_bytes word (codes "room") then lift2 causes.Room (wide_of one) (wide_of two)
    else None

-- SERVER NODE and a reason
abbrev pub voted_cause : List ℕ → List ℕ → Option Reason → Option Cause
voted_cause server node reason = lift2 causes.Voted (member_with (server_of server) (number_below 256 node)) reason

-- a reason that begins with this word
abbrev pub reason_behind : List ℕ → List (List ℕ) → Option Reason
reason_behind word (one ∷ []) = short_reason word one
reason_behind word (one ∷ two ∷ []) = long_reason word one two
reason_behind word _ = None

-- the member that voted, and its reason
abbrev pub voted_of : List (List ℕ) → Option Cause
voted_of (server ∷ node ∷ word ∷ rest) = voted_cause server node (reason_behind word rest)
voted_of _ = None

-- a cause of at most three words
abbrev pub brief_cause : List (List ℕ) → Option Cause
brief_cause (word ∷ []) = asked word
brief_cause (word ∷ one ∷ []) = short_cause word one
brief_cause (word ∷ one ∷ two ∷ []) = long_cause word one two
brief_cause _ = None

-- the cause that the words spell
unfoldable pub cause_of : List (List ℕ) → Option Cause
cause_of words = if nat_lt 3 (length words) then voted_of words else brief_cause words

-- ---- votes, outcomes and crashes

-- readonly, volatile, recoverable
unfoldable pub ballot_of : List ℕ → Option Vote
ballot_of word =
    if same_bytes word (codes "readonly") then Some votes.ReadOnly
    else if same_bytes word (codes "volatile") then Some votes.Volatile
    else if same_bytes word (codes "recoverable") then Some votes.Recoverable
    else None

-- (abort) and a reason
unfoldable pub refusal_of : Option Reason → Option Vote
refusal_of reason = lift1 votes.Abort reason

-- commit, abort
unfoldable pub outcome_of : List ℕ → Option Outcome
outcome_of word =
    if same_bytes word (codes "commit") then Some outcomes.Commit
    else if same_bytes word (codes "abort") then Some outcomes.Abort
    else None

-- plan, memory
abbrev pub bare_crash : List ℕ → Option CrashCause
bare_crash word =
    if same_bytes word (codes "plan") then Some crashes.Plan
    else if same_bytes word (codes "memory") then Some crashes.Memory
    else None

-- last VALUE
abbrev pub last_crash : List ℕ → List ℕ → Option CrashCause
last_crash word value = if same_bytes word (codes "last") then lift1 crashes.Last (wide_of value) else None

-- disk FROM TO
abbrev pub disk_crash : List ℕ → List ℕ → List ℕ → Option CrashCause
disk_crash word from to = if same_bytes word (codes "disk") then lift2 crashes.Disk (wide_of from) (wide_of to) else None

-- why a node stopped
unfoldable pub crash_of : List (List ℕ) → Option CrashCause
crash_of (word ∷ []) = bare_crash word
crash_of (word ∷ value ∷ []) = last_crash word value
crash_of (word ∷ from ∷ to ∷ []) = disk_crash word from to
crash_of _ = None

-- ---- answers

-- ok, absent, committed, ended
abbrev pub bare_answer : List ℕ → Option Answer
bare_answer word =
    if same_bytes word (codes "ok") then Some answers.Done
    else if same_bytes word (codes "absent") then Some answers.Absent
    else if same_bytes word (codes "committed") then Some answers.Committed
    else if same_bytes word (codes "ended") then Some answers.Ended
    else None

-- too many, too long
abbrev pub too : List ℕ → Option Answer
too word =
    if same_bytes word (codes "many") then Some answers.TooMany
    else if same_bytes word (codes "long") then Some answers.TooLong
    else None

-- not yours, not begun
abbrev pub refused : List ℕ → Option Answer
refused word =
    if same_bytes word (codes "yours") then Some answers.NotYours
    else if same_bytes word (codes "begun") then Some answers.NotBegun
    else None

-- value TEXT, left TICKS, and the two words of too and not
abbrev pub answer_on : List ℕ → List ℕ → Option Answer
answer_on word one =
    if same_bytes word (codes "value") then Some (answers.Value one)
    else if same_bytes word (codes "left") then lift1 answers.Left (number_below (2 ^ 32) one)
    else if same_bytes word (codes "too") then too one
    else if same_bytes word (codes "not") then refused one
    else None

-- (log) full NEED ROOM
abbrev pub log_full : List (List ℕ) → Option Answer
log_full (full ∷ need ∷ room ∷ []) = if same_bytes full (codes "full") then lift2 answers.LogFull (wide_of need) (wide_of room) else None
log_full _ = None

-- an answer of one word or two
abbrev pub short_answer : List ℕ → List (List ℕ) → Option Answer
short_answer word [] = bare_answer word
short_answer word (one ∷ []) = answer_on word one
short_answer word _ = None

-- any answer but busy
abbrev pub plain_answer : List ℕ → List (List ℕ) → Option Answer
plain_answer word rest =
    if same_bytes word (codes "names") then Some (answers.Names rest)
    else if same_bytes word (codes "notes") then Some (answers.Notes rest)
    else if same_bytes word (codes "log") then log_full rest
    else if same_bytes word (codes "aborted") then lift1 answers.Aborted (cause_of rest)
    else short_answer word rest

-- (busy) NAME
abbrev pub busy_of : (List ℕ → Option Tid) → List (List ℕ) → Option Answer
busy_of holder (name ∷ []) = lift1 answers.Busy (holder name)
busy_of holder _ = None

-- the answer that the words spell, where it is told whom a name in a busy answer stands for
unfoldable pub answer_of : (List ℕ → Option Tid) → List (List ℕ) → Option Answer
answer_of holder (word ∷ rest) = if same_bytes word (codes "busy") then busy_of holder rest else plain_answer word rest
answer_of holder [] = None

-- the reply that makes an answer
abbrev pub reply_from : Option Answer → Option Reply
reply_from (Some answers.Done) = Some replies.Done
reply_from (Some (answers.Value text)) = Some (replies.Value text)
reply_from (Some (answers.Left ticks)) = Some (replies.Left ticks)
reply_from (Some (answers.Names list)) = Some (replies.Names list)
reply_from (Some (answers.Notes list)) = Some (replies.Notes list)
reply_from (Some (answers.Busy holder)) = Some (replies.Busy holder)
reply_from (Some answers.Absent) = Some replies.Absent
reply_from (Some answers.TooMany) = Some replies.TooMany
reply_from (Some answers.TooLong) = Some replies.TooLong
reply_from _ = None

-- the reply that the words spell; a holder goes by its identifier
unfoldable pub reply_of : List (List ℕ) → Option Reply
reply_of words = reply_from (answer_of tid_of words)
