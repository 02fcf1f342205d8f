-- The acts, entries and opening lines that words spell.
use Rattle.std.specs.Prelude.{ℕ, ◌^◌, List, [], ◌∷◌, take, drop, Option, Some, None, codes, if◌then◌else◌}
use Rattle.std.specs.List.{position_or_len}
use Rattle.qs_base.specs.Order.{same_bytes}
use Rattle.qs_base.specs.declared.identifiers.Member.{Member}
use Rattle.qs_base.specs.declared.identifiers.Outcome.TheVariants as outcomes
use Rattle.qs_base.specs.declared.identifiers.Tid.{Tid}
use Rattle.qs_book_journal.specs.declared.entry.Act.{Act}
use Rattle.qs_book_journal.specs.declared.entry.Act.TheVariants as acts
use Rattle.qs_book_journal.specs.declared.entry.Entry.{Entry}
use Rattle.qs_book_journal.specs.declared.entry.Found.{Found}
use Rattle.qs_ops.specs.declared.answer.Answer.{Answer}
use Rattle.qs_ops.specs.declared.answer.Cause.{Cause}
use Rattle.qs_ops.specs.declared.reply.Reply.{Reply}
use Rattle.qs_ops.specs.declared.vote.Vote.{Vote}
use Rattle.qs_text_history.specs.Inner.Answers.{answer_of, reply_of, cause_of, ballot_of, refusal_of, short_reason, long_reason, outcome_of, crash_of}
use Rattle.qs_text_history.specs.Inner.Lifts.{lift1, lift2, lift3, lift4, lift5}
use Rattle.qs_text_history.specs.Inner.Operations.{op_of}
use Rattle.qs_text_history.specs.Inner.Words.{wide_of, number_below, tid_of, member_of, found_of, done_of, is_done}

-- ---- acts of few words

-- (begin) TID LABEL CLIENT
unfoldable pub begin_of : List (List ℕ) → Option Act
begin_of (tid ∷ label ∷ client ∷ []) =
    lift2 (λ tid client. acts.Begin tid label (record { 0 = client })) (tid_of tid) (number_below 256 client)
begin_of _ = None

-- (counted) TID PEER UP_TO
unfoldable pub counted_of : List (List ℕ) → Option Act
counted_of (tid ∷ peer ∷ up_to ∷ []) =
    lift3 (λ tid peer up_to. acts.Counted tid (record { 0 = peer }) up_to) (tid_of tid) (number_below 256 peer) (number_below (2 ^ 32) up_to)
counted_of _ = None

-- (ending) TID MEMBER
unfoldable pub ending_of : List (List ℕ) → Option Act
ending_of (tid ∷ member ∷ []) = lift2 acts.Ending (tid_of tid) (member_of member)
ending_of _ = None

-- (learn) TID MEMBER OUTCOME
unfoldable pub learn_of : List (List ℕ) → Option Act
learn_of (tid ∷ member ∷ outcome ∷ []) = lift3 acts.Learn (tid_of tid) (member_of member) (outcome_of outcome)
learn_of _ = None

-- (ask) TID
unfoldable pub ask_of : List (List ℕ) → Option Act
ask_of (tid ∷ []) = lift1 acts.Ask (tid_of tid)
ask_of _ = None

-- (loan) TID CLIENT
unfoldable pub loan_of : List (List ℕ) → Option Act
loan_of (tid ∷ client ∷ []) = lift2 (λ tid client. acts.Loan tid (record { 0 = client })) (tid_of tid) (number_below 256 client)
loan_of _ = None

-- (yield) TID CLIENT
unfoldable pub yield_of : List (List ℕ) → Option Act
yield_of (tid ∷ client ∷ []) = lift2 (λ tid client. acts.Yield tid (record { 0 = client })) (tid_of tid) (number_below 256 client)
yield_of _ = None

-- (tick)
unfoldable pub tick_of : List (List ℕ) → Option Act
tick_of [] = Some acts.Tick
tick_of _ = None

-- (crash) and why
unfoldable pub crash_act : List (List ℕ) → Option Act
crash_act words = lift1 acts.Crash (crash_of words)

-- ---- acts with further words

-- (issue) TID ISSUER MEMBER NUMBER and an operation
unfoldable pub issue_of : List (List ℕ) → Option Act
issue_of (tid ∷ issuer ∷ member ∷ number ∷ op) =
    lift5 acts.Issue (tid_of tid) (member_of issuer) (member_of member) (number_below (2 ^ 32) number) (op_of op)
issue_of _ = None

abbrev pub serve_with : Option Tid → Option Member → Option ℕ → Option ℕ → Option Reply → Option Act
serve_with tid member from number reply =
    lift5 (λ tid member from number reply. acts.Serve tid member (record { 0 = from }) number reply) tid member from number reply

-- (serve) TID MEMBER FROM NUMBER and a reply
unfoldable pub serve_of : List (List ℕ) → Option Act
serve_of (tid ∷ member ∷ from ∷ number ∷ reply) =
    serve_with (tid_of tid) (member_of member) (number_below 256 from) (number_below (2 ^ 32) number) (reply_of reply)
serve_of _ = None

unfoldable pub voted : List ℕ → List ℕ → Option Vote → List ℕ → Option Act
voted tid member vote covers = lift4 acts.Vote (tid_of tid) (member_of member) vote (number_below (2 ^ 32) covers)

-- (abort,) a reason, and for how many requests
abbrev pub refusal_act : List ℕ → List ℕ → List (List ℕ) → Option Act
refusal_act tid member (word ∷ one ∷ covers ∷ []) = voted tid member (refusal_of (short_reason word one)) covers
refusal_act tid member (word ∷ one ∷ two ∷ covers ∷ []) = voted tid member (refusal_of (long_reason word one two)) covers
refusal_act tid member _ = None

-- a vote of one word, and for how many requests
abbrev pub ballot_act : List ℕ → List ℕ → List ℕ → List (List ℕ) → Option Act
ballot_act tid member word (covers ∷ []) = voted tid member (ballot_of word) covers
ballot_act tid member word _ = None

-- (vote) TID MEMBER and a vote
unfoldable pub vote_of : List (List ℕ) → Option Act
vote_of (tid ∷ member ∷ word ∷ rest) =
    if same_bytes word (codes "abort") then refusal_act tid member rest else ballot_act tid member word rest
vote_of _ = None

-- (decide) TID (commit)
abbrev pub committed : List ℕ → List (List ℕ) → Option Act
committed tid [] = lift1 (λ tid. acts.Decide tid outcomes.Commit None) (tid_of tid)
committed tid _ = None

-- (decide) TID (abort) and a cause
abbrev pub aborted : List ℕ → Option Cause → Option Act
aborted tid cause = lift2 (λ tid cause. acts.Decide tid outcomes.Abort (Some cause)) (tid_of tid) cause

-- (decide) TID OUTCOME, and a cause of an abort
unfoldable pub decide_of : List (List ℕ) → Option Act
decide_of (tid ∷ outcome ∷ cause) =
    if same_bytes outcome (codes "commit") then committed tid cause
    else if same_bytes outcome (codes "abort") then aborted tid (cause_of cause)
    else None
decide_of _ = None

abbrev pub answer_with : Option ℕ → Option ℕ → Option Answer → Option Act
answer_with client line answer = lift3 (λ client line answer. acts.Answer (record { 0 = client }) line answer) client line answer

-- (answer) CLIENT LINE and an answer
unfoldable pub answer_act : (List ℕ → Option Tid) → List (List ℕ) → Option Act
answer_act holder (client ∷ line ∷ answer) = answer_with (number_below 256 client) (number_below (2 ^ 32) line) (answer_of holder answer)
answer_act holder _ = None

-- ---- restarts

-- what all the words spell, where each spells something
unfoldable pub all_of : {A : Type 0} → (List ℕ → Option A) → List (List ℕ) → Option (List A)
all_of read [] = Some []
all_of read (word ∷ words) = lift2 (λ one more. one ∷ more) (read word) (all_of read words)

-- the words before the first done:, and those from it on
unfoldable pub done_place : List (List ℕ) → ℕ
done_place words = position_or_len is_done words

abbrev pub restart_with : Option ℕ → Option (List Found) → Option (List Tid) → Option Act
restart_with inc pend done = lift3 acts.Restart inc pend done

-- (restart) INC, the found Prepares, and the found Commits
unfoldable pub restart_of : List (List ℕ) → Option Act
restart_of (inc ∷ found) =
    restart_with (wide_of inc) (all_of found_of (take (done_place found) found)) (all_of done_of (drop (done_place found) found))
restart_of _ = None

-- ---- all acts

-- the acts whose words hold further lists of words
unfoldable pub member_act : List ℕ → List (List ℕ) → Option Act
member_act word rest =
    if same_bytes word (codes "issue") then issue_of rest
    else if same_bytes word (codes "serve") then serve_of rest
    else if same_bytes word (codes "vote") then vote_of rest
    else if same_bytes word (codes "decide") then decide_of rest
    else if same_bytes word (codes "restart") then restart_of rest
    else None

-- the acts of few words
unfoldable pub short_act : List ℕ → List (List ℕ) → Option Act
short_act word rest =
    if same_bytes word (codes "begin") then begin_of rest
    else if same_bytes word (codes "ask") then ask_of rest
    else if same_bytes word (codes "counted") then counted_of rest
    else if same_bytes word (codes "ending") then ending_of rest
    else if same_bytes word (codes "learn") then learn_of rest
    else if same_bytes word (codes "loan") then loan_of rest
    else if same_bytes word (codes "yield") then yield_of rest
    else if same_bytes word (codes "tick") then tick_of rest
    else if same_bytes word (codes "crash") then crash_act rest
    else None

abbrev pub either : Option Act → Option Act → Option Act
either (Some act) other = Some act
either None other = other

-- the act that the words spell
unfoldable pub act_of : (List ℕ → Option Tid) → List (List ℕ) → Option Act
act_of holder (word ∷ rest) =
    if same_bytes word (codes "answer") then answer_act holder rest else either (short_act word rest) (member_act word rest)
act_of holder [] = None

abbrev pub entry_with : Option ℕ → Option ℕ → Option Act → Option Entry
entry_with stamp node act = lift3 (λ stamp node act. record { stamp = stamp; node = record { 0 = node }; act = act }) stamp node act

-- the entry that the words spell
unfoldable pub entry_of : (List ℕ → Option Tid) → List (List ℕ) → Option Entry
entry_of holder (stamp ∷ node ∷ act) = entry_with (wide_of stamp) (number_below 256 node) (act_of holder act)
entry_of holder _ = None
