-- The texts of answers, causes and identifiers.
use Rattle.std.specs.Prelude.{ℕ, ◌==◌, List, [], ◌++◌, Option, None, unwrap_or, codes, decimal, if◌then◌else◌}
use Rattle.std.specs.List.{flat_map}
use Rattle.qs_base.specs.declared.identifiers.Member.{Member}
use Rattle.qs_base.specs.declared.identifiers.Tid.{Tid}
use Rattle.qs_ops.specs.Servers.{files_no, audit_no, names_no, timers_no, windows_no, scratch_no, extra_no}
use Rattle.qs_ops.specs.declared.answer.Answer.{Answer}
use Rattle.qs_ops.specs.declared.answer.Answer.TheVariants.{Done, Value, Left, Names, Notes, Busy, Absent, TooMany, TooLong, Committed, Aborted, Ended, NotYours, NotBegun, LogFull}
use Rattle.qs_ops.specs.declared.answer.Cause.{Cause}
use Rattle.qs_ops.specs.declared.answer.Cause.TheVariants.{Asked, Voted, Gone, Home, Room, Old}
use Rattle.qs_ops.specs.declared.vote.Reason.{Reason}
use Rattle.qs_ops.specs.declared.vote.Reason.TheVariants.{Quota, LogRoom, Taken, Code}

-- home.inc.seq
abbrev pub tid_text : Tid → List ℕ
tid_text tid = decimal tid.home.0 ++ (codes "." ++ (decimal tid.inc ++ (codes "." ++ decimal tid.seq)))

-- two numbers with a blank between them
abbrev pub pair_text : ℕ → ℕ → List ℕ
pair_text a b = decimal a ++ (codes " " ++ decimal b)

-- texts, each after a blank
abbrev pub list_text : List (List ℕ) → List ℕ
list_text list = flat_map (λ text. codes " " ++ text) list

-- ---- causes of abort

abbrev pub server_text : ℕ → List ℕ
server_text server =
    if server == files_no then codes "files"
    else if server == audit_no then codes "audit"
    else if server == names_no then codes "names"
    else if server == timers_no then codes "timers"
    else if server == windows_no then codes "windows"
    else if server == scratch_no then codes "scratch"
    else if server == extra_no then codes "extra"
    else if server == 7 then codes "manager"
    else codes "server" ++ decimal server

abbrev pub reason_text : Reason → List ℕ
reason_text (Quota bytes limit) = codes "quota " ++ pair_text bytes limit
reason_text (LogRoom need room) = codes "log " ++ pair_text need room
reason_text (Taken name) = codes "taken " ++ name
reason_text (Code code) = codes "code " ++ decimal code

-- the member's server and node, and its reason
abbrev pub vote_text : Member → Reason → List ℕ
vote_text member reason = server_text member.server.0 ++ ((codes " " ++ (decimal member.node.0 ++ codes " ")) ++ reason_text reason)

abbrev pub cause_text : Cause → List ℕ
cause_text Asked = codes "asked"
cause_text (Voted member reason) = vote_text member reason
cause_text (Gone node inc) = codes "gone " ++ pair_text node.0 inc
cause_text (Home inc) = codes "home " ++ decimal inc
cause_text (Room need room) = codes "room " ++ pair_text need room
cause_text (Old age) = codes "old " ++ decimal age

-- ---- answers

-- a transaction goes by its label, or by its identifier where it has none
abbrev pub holder_text : Option (List ℕ) → Tid → List ℕ
holder_text label tid = unwrap_or label (tid_text tid)

-- the answer's first words
abbrev pub answer_words : Answer → List ℕ
answer_words Done = codes "ok"
answer_words (Value text) = codes "value "
answer_words (Left ticks) = codes "left " ++ decimal ticks
answer_words (Names list) = codes "names"
answer_words (Notes list) = codes "notes"
answer_words (Busy holder) = codes "busy "
answer_words Absent = codes "absent"
answer_words TooMany = codes "too many"
answer_words TooLong = codes "too long"
answer_words Committed = codes "committed"
answer_words (Aborted cause) = codes "aborted "
answer_words Ended = codes "ended"
answer_words NotYours = codes "not yours"
answer_words NotBegun = codes "not begun"
answer_words (LogFull need room) = codes "log full " ++ pair_text need room

-- and what it tells after them; the label is that of the holder
abbrev pub answer_rest : Option (List ℕ) → Answer → List ℕ
answer_rest label (Value text) = text
answer_rest label (Names list) = list_text list
answer_rest label (Notes list) = list_text list
answer_rest label (Busy holder) = holder_text label holder
answer_rest label (Aborted cause) = cause_text cause
answer_rest label _ = []

abbrev pub answer_text : Option (List ℕ) → Answer → List ℕ
answer_text label answer = answer_words answer ++ answer_rest label answer

-- the label of the transaction that a busy answer names
abbrev pub holder_label : (Tid → Option (List ℕ)) → Answer → Option (List ℕ)
holder_label labels (Busy holder) = labels holder
holder_label labels _ = None

-- LINE ANSWER
abbrev pub told_text : (Tid → Option (List ℕ)) → ℕ → Answer → List ℕ
told_text labels line answer = (decimal line ++ codes " ") ++ answer_text (holder_label labels answer) answer
