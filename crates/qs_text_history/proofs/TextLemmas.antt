-- The line of an entry, by its words.
use Rattle.std.proofs.Common.{◌≡◌, ℕ, List, [], ◌∷◌, ◌++◌, map, Option, Some, None, refl, sym, ◌∙◌, ap, append_assoc}
use Rattle.std.specs.Prelude.{decimal, codes}
use Rattle.std.proofs.lemmas.List.{append-nil}
use Rattle.std.proofs.lemmas.List.Concat.{flat_map-append}
use Rattle.qs_base.specs.declared.identifiers.Outcome.TheVariants as outcomes
use Rattle.qs_book_journal.specs.declared.entry.Act.{Act}
use Rattle.qs_book_journal.specs.declared.entry.Act.TheVariants as acts
use Rattle.qs_book_journal.specs.declared.entry.Entry.{Entry}
use Rattle.qs_ops.specs.Operations.{answer_of as answer_made}
use Rattle.qs_ops.specs.declared.answer.Answer.{Answer}
use Rattle.qs_ops.specs.declared.answer.Answer.TheVariants as answers
use Rattle.qs_ops.specs.declared.answer.Cause.{Cause}
use Rattle.qs_ops.specs.declared.answer.Cause.TheVariants as causes
use Rattle.qs_ops.specs.declared.vote.Reason.{Reason}
use Rattle.qs_ops.specs.declared.vote.Reason.TheVariants as reasons
use Rattle.qs_ops.specs.declared.vote.Vote.{Vote}
use Rattle.qs_ops.specs.declared.vote.Vote.TheVariants as votes
use Rattle.qs_text_script.specs.Answers.{tid_text, list_text, pair_text, reason_text, cause_text, answer_text, holder_text, holder_label, told_text}
use Rattle.qs_text_script.specs.Journal.{member_text, op_words, ballot_text, outcome_text, crash_words, act_words, entry_line, pend_text, done_text}
use Rattle.qs_text_history.proofs.AnswerLemmas.{reason_tokens, cause_tokens, vote_tokens, answer_tokens}

-- how a line names the holder of a busy answer, if it has one
abbrev pub shown : Option (List ℕ) → Answer → List ℕ
shown label (answers.Busy tid) = holder_text label tid
shown label _ = codes "a"

abbrev pub decision_tokens : Option Cause → List (List ℕ)
decision_tokens None = []
decision_tokens (Some cause) = cause_tokens cause

-- the words of an act; the name is that of the holder in a busy answer
abbrev pub act_tokens : List ℕ → Act → List (List ℕ)
act_tokens name (acts.Begin tid label client) = codes "begin" ∷ tid_text tid ∷ label ∷ decimal client.0 ∷ []
act_tokens name (acts.Issue tid issuer member number op) = codes "issue" ∷ tid_text tid ∷ member_text issuer ∷ member_text member ∷ decimal number ∷ op_words op
act_tokens name (acts.Serve tid member from number reply) =
    codes "serve" ∷ tid_text tid ∷ member_text member ∷ decimal from.0 ∷ decimal number ∷ answer_tokens (shown None (answer_made reply)) (answer_made reply)
act_tokens name (acts.Ask tid) = codes "ask" ∷ tid_text tid ∷ []
act_tokens name (acts.Vote tid member vote covers) = codes "vote" ∷ tid_text tid ∷ member_text member ∷ (vote_tokens vote ++ decimal covers ∷ [])
act_tokens name (acts.Counted tid peer up_to) = codes "counted" ∷ tid_text tid ∷ decimal peer.0 ∷ decimal up_to ∷ []
act_tokens name (acts.Decide tid outcomes.Commit cause) = codes "decide" ∷ tid_text tid ∷ codes "commit" ∷ []
act_tokens name (acts.Decide tid outcomes.Abort cause) = codes "decide" ∷ tid_text tid ∷ codes "abort" ∷ decision_tokens cause
act_tokens name (acts.Ending tid member) = codes "ending" ∷ tid_text tid ∷ member_text member ∷ []
act_tokens name (acts.Learn tid member outcome) = codes "learn" ∷ tid_text tid ∷ member_text member ∷ outcome_text outcome ∷ []
act_tokens name (acts.Answer client line answer) = codes "answer" ∷ decimal client.0 ∷ decimal line ∷ answer_tokens name answer
act_tokens name (acts.Loan tid client) = codes "loan" ∷ tid_text tid ∷ decimal client.0 ∷ []
act_tokens name (acts.Yield tid client) = codes "yield" ∷ tid_text tid ∷ decimal client.0 ∷ []
act_tokens name acts.Tick = codes "tick" ∷ []
act_tokens name (acts.Crash cause) = codes "crash" ∷ crash_words cause
act_tokens name (acts.Restart inc pend done) = codes "restart" ∷ decimal inc ∷ (map pend_text pend ++ map done_text done)

abbrev pub shown_in : Option (List ℕ) → Act → List ℕ
shown_in label (acts.Answer client line answer) = shown label answer
shown_in label _ = codes "a"

reason_is : (reason : Reason) → list_text (reason_text reason ∷ []) ≡ list_text (reason_tokens reason)
reason_is (reasons.Quota bytes limit) = simp (append_assoc, append-nil)
reason_is (reasons.LogRoom need room) = simp (append_assoc, append-nil)
reason_is (reasons.Taken name) = simp (append_assoc, append-nil)
reason_is (reasons.Code code) = simp (append_assoc, append-nil)

cause_is : (cause : Cause) → list_text (cause_text cause ∷ []) ≡ list_text (cause_tokens cause)
cause_is causes.Asked = refl
cause_is (causes.Voted member reason) = rw (← reason_is reason) (simp (append_assoc, append-nil))
cause_is (causes.Gone node inc) = simp (append_assoc, append-nil)
cause_is (causes.Home inc) = simp (append_assoc, append-nil)
cause_is (causes.Room need room) = simp (append_assoc, append-nil)
cause_is (causes.Old age) = simp (append_assoc, append-nil)

-- a text behind a word that ends with a blank
behind : (word text : List ℕ) (tokens : List (List ℕ)) → list_text (text ∷ []) ≡ list_text tokens → list_text (((word ++ codes " ") ++ text) ∷ []) ≡ list_text (word ∷ tokens)
behind word text tokens e = rw (← e) (simp (append_assoc, append-nil))

bare : (word text : List ℕ) → list_text (((word ++ text) ++ []) ∷ []) ≡ list_text ((word ++ text) ∷ [])
bare word text = ap (λ t. list_text (t ∷ [])) (append-nil (word ++ text))

answer_is : (label : Option (List ℕ)) (answer : Answer) → list_text (answer_text label answer ∷ []) ≡ list_text (answer_tokens (shown label answer) answer)
answer_is label answers.Done = refl
answer_is label (answers.Value text) = simp (append_assoc, append-nil)
answer_is label (answers.Left ticks) = bare (codes "left ") (decimal ticks) ∙ simp (append_assoc, append-nil)
answer_is label (answers.Names list) = simp (append_assoc, append-nil)
answer_is label (answers.Notes list) = simp (append_assoc, append-nil)
answer_is label (answers.Busy holder) = simp (append_assoc, append-nil)
answer_is label answers.Absent = refl
answer_is label answers.TooMany = refl
answer_is label answers.TooLong = refl
answer_is label answers.Committed = refl
answer_is label (answers.Aborted cause) = behind (codes "aborted") (cause_text cause) (cause_tokens cause) (cause_is cause)
answer_is label answers.Ended = refl
answer_is label answers.NotYours = refl
answer_is label answers.NotBegun = refl
answer_is label (answers.LogFull need room) = bare (codes "log full ") (pair_text need room) ∙ simp (append_assoc, append-nil)

label_is : (label : Option (List ℕ)) (answer : Answer) → list_text (answer_text (holder_label (λ tid. label) answer) answer ∷ []) ≡ list_text (answer_tokens (shown label answer) answer)
label_is label answers.Done = answer_is None answers.Done
label_is label (answers.Value text) = answer_is None (answers.Value text)
label_is label (answers.Left ticks) = answer_is None (answers.Left ticks)
label_is label (answers.Names list) = answer_is None (answers.Names list)
label_is label (answers.Notes list) = answer_is None (answers.Notes list)
label_is label (answers.Busy holder) = answer_is label (answers.Busy holder)
label_is label answers.Absent = refl
label_is label answers.TooMany = refl
label_is label answers.TooLong = refl
label_is label answers.Committed = refl
label_is label (answers.Aborted cause) = answer_is None (answers.Aborted cause)
label_is label answers.Ended = refl
label_is label answers.NotYours = refl
label_is label answers.NotBegun = refl
label_is label (answers.LogFull need room) = answer_is None (answers.LogFull need room)

ballot_is : (vote : Vote) (rest : List (List ℕ)) → list_text (ballot_text vote ∷ rest) ≡ list_text (vote_tokens vote ++ rest)
ballot_is (votes.Abort reason) rest =
    ap (λ text. text ++ list_text rest) (sym (append-nil (codes " " ++ (codes "abort " ++ reason_text reason))) ∙ behind (codes "abort") (reason_text reason) (reason_tokens reason) (reason_is reason))
    ∙ sym (flat_map-append (λ text. codes " " ++ text) (codes "abort" ∷ reason_tokens reason) rest)
ballot_is votes.ReadOnly rest = refl
ballot_is votes.Volatile rest = refl
ballot_is votes.Recoverable rest = refl

-- three more words in front
front : (a b c : List ℕ) (some others : List (List ℕ)) → list_text some ≡ list_text others → list_text (a ∷ b ∷ c ∷ some) ≡ list_text (a ∷ b ∷ c ∷ others)
front a b c some others e = ap (λ text. (codes " " ++ a) ++ ((codes " " ++ b) ++ ((codes " " ++ c) ++ text))) e

front_two : (a b : List ℕ) (some others : List (List ℕ)) → list_text some ≡ list_text others → list_text (a ∷ b ∷ some) ≡ list_text (a ∷ b ∷ others)
front_two a b some others e = ap (λ text. (codes " " ++ a) ++ ((codes " " ++ b) ++ text)) e

act_is : (label : Option (List ℕ)) (act : Act) → list_text (act_words (λ tid. label) act) ≡ list_text (act_tokens (shown_in label act) act)
act_is label (acts.Begin tid name client) = refl
act_is label (acts.Issue tid issuer member number op) = refl
act_is label (acts.Serve tid member from number reply) =
    front (codes "serve") (tid_text tid) (member_text member) (decimal from.0 ∷ decimal number ∷ answer_text None (answer_made reply) ∷ [])
    (decimal from.0 ∷ decimal number ∷ answer_tokens (shown None (answer_made reply)) (answer_made reply))
    (front_two (decimal from.0) (decimal number) (answer_text None (answer_made reply) ∷ []) (answer_tokens (shown None (answer_made reply)) (answer_made reply))
    (answer_is None (answer_made reply)))
act_is label (acts.Ask tid) = refl
act_is label (acts.Vote tid member vote covers) =
    front (codes "vote") (tid_text tid) (member_text member) (ballot_text vote ∷ decimal covers ∷ []) (vote_tokens vote ++ decimal covers ∷ []) (ballot_is vote (decimal covers ∷ []))
act_is label (acts.Counted tid peer up_to) = refl
act_is label (acts.Decide tid outcomes.Commit cause) = refl
act_is label (acts.Decide tid outcomes.Abort None) = refl
act_is label (acts.Decide tid outcomes.Abort (Some cause)) =
    front (codes "decide") (tid_text tid) (codes "abort") (cause_text cause ∷ []) (cause_tokens cause) (cause_is cause)
act_is label (acts.Ending tid member) = refl
act_is label (acts.Learn tid member outcome) = refl
act_is label (acts.Answer client line answer) =
    front_two (codes "answer") (decimal client.0) (told_text (λ tid. label) line answer ∷ []) (decimal line ∷ answer_tokens (shown label answer) answer)
    ((behind (decimal line) (answer_text (holder_label (λ tid. label) answer) answer) (answer_tokens (shown label answer) answer) (label_is label answer)))
act_is label (acts.Loan tid client) = refl
act_is label (acts.Yield tid client) = refl
act_is label acts.Tick = refl
act_is label (acts.Crash cause) = refl
act_is label (acts.Restart inc pend done) = refl

pub line_is : (label : Option (List ℕ)) (entry : Entry)
    → entry_line (λ tid. label) entry ≡ decimal entry.stamp ++ list_text (decimal entry.node.0 ∷ act_tokens (shown_in label entry.act) entry.act)
line_is label entry = ap (λ text. decimal entry.stamp ++ ((codes " " ++ decimal entry.node.0) ++ text)) (act_is label entry.act)
