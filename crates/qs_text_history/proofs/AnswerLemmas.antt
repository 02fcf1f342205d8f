-- Causes, votes and answers have one spelling each.
use Rattle.std.proofs.Common.{◌≡◌, ℕ, ◌^◌, true, List, [], ◌∷◌, length, Option, Some, None, refl, sym, ◌∙◌, ap, subst, arith}
use Rattle.std.specs.Prelude.{decimal, codes, nat_lt, ⊤}
use Rattle.std.specs.List.{list_all}
use Rattle.std.proofs.lemmas.Bool.{lt-ltb}
use Rattle.qs_base.specs.Order.{same_bytes}
use Rattle.qs_base.proofs.Same.{same_bytes-true}
use Rattle.qs_base.specs.declared.identifiers.Member.{Member}
use Rattle.qs_base.specs.declared.identifiers.Outcome.{Outcome}
use Rattle.qs_base.specs.declared.identifiers.Outcome.TheVariants as outcomes
use Rattle.qs_base.specs.declared.identifiers.Tid.{Tid}
use Rattle.qs_book_journal.specs.declared.entry.CrashCause.{CrashCause}
use Rattle.qs_book_journal.specs.declared.entry.CrashCause.TheVariants as crashes
use Rattle.qs_ops.specs.declared.answer.Answer.{Answer}
use Rattle.qs_ops.specs.declared.answer.Answer.TheVariants as answers
use Rattle.qs_ops.specs.declared.answer.Cause.{Cause}
use Rattle.qs_ops.specs.declared.answer.Cause.TheVariants as causes
use Rattle.qs_ops.specs.declared.vote.Reason.{Reason}
use Rattle.qs_ops.specs.declared.vote.Reason.TheVariants as reasons
use Rattle.qs_ops.specs.declared.vote.Vote.{Vote}
use Rattle.qs_ops.specs.declared.vote.Vote.TheVariants as votes
use Rattle.qs_text_script.specs.Answers.{server_text}
use Rattle.qs_text_script.specs.Journal.{crash_words, outcome_text}
use Rattle.qs_text_history.specs.Inner.Answers.{short_reason, long_reason, short_cause, long_cause, voted_cause, reason_behind, cause_of, ballot_of, outcome_of, crash_of, bare_answer, too, refused, answer_on, log_full, short_answer, plain_answer, busy_of, answer_of}
use Rattle.qs_text_history.specs.Inner.Lifts.{lift1, lift2}
use Rattle.qs_text_history.specs.Spelled.{IsTid, IsReason, IsCause, IsVote, IsCrash, IsAnswer}
use Rattle.qs_text_history.specs.Words.{is_word}
use Rattle.qs_text_history.specs.Inner.Words.{wide_of, number_below, server_of, member_with}
use Rattle.qs_text_history.proofs.IdentifierLemmas.{chosen, wide_read, wide_back, server_read, server_back, server_word}
use Rattle.qs_text_history.proofs.LiftLemmas.{lifted1, lifted2}
use Rattle.qs_text_history.proofs.MarkLemmas.{both, decimal_word}
use Rattle.qs_text_history.proofs.NumberLemmas.{number_spelled, number_read}
use Rattle.qs_text_history.proofs.ReadingLemmas.{by_wide, by_below, by_two}
use Rattle.qs_text_history.proofs.OperationLemmas.{led}

-- ---- the words of each

abbrev pub reason_tokens : Reason → List (List ℕ)
reason_tokens (reasons.Quota bytes limit) = codes "quota" ∷ decimal bytes ∷ decimal limit ∷ []
reason_tokens (reasons.LogRoom need room) = codes "log" ∷ decimal need ∷ decimal room ∷ []
reason_tokens (reasons.Taken name) = codes "taken" ∷ name ∷ []
reason_tokens (reasons.Code code) = codes "code" ∷ decimal code ∷ []

abbrev pub vote_tokens : Vote → List (List ℕ)
vote_tokens (votes.Abort reason) = codes "abort" ∷ reason_tokens reason
vote_tokens votes.ReadOnly = codes "readonly" ∷ []
vote_tokens votes.Volatile = codes "volatile" ∷ []
vote_tokens votes.Recoverable = codes "recoverable" ∷ []

abbrev pub cause_tokens : Cause → List (List ℕ)
cause_tokens causes.Asked = codes "asked" ∷ []
cause_tokens (causes.Voted member reason) = server_text member.server.0 ∷ decimal member.node.0 ∷ reason_tokens reason
cause_tokens (causes.Gone node inc) = codes "gone" ∷ decimal node.0 ∷ decimal inc ∷ []
cause_tokens (causes.Home inc) = codes "home" ∷ decimal inc ∷ []
cause_tokens (causes.Room need room) = codes "room" ∷ decimal need ∷ decimal room ∷ []
cause_tokens (causes.Old age) = codes "old" ∷ decimal age ∷ []

-- the name is that of the holder in a busy answer
abbrev pub answer_tokens : List ℕ → Answer → List (List ℕ)
answer_tokens name answers.Done = codes "ok" ∷ []
answer_tokens name (answers.Value text) = codes "value" ∷ text ∷ []
answer_tokens name (answers.Left ticks) = codes "left" ∷ decimal ticks ∷ []
answer_tokens name (answers.Names list) = codes "names" ∷ list
answer_tokens name (answers.Notes list) = codes "notes" ∷ list
answer_tokens name (answers.Busy holder) = codes "busy" ∷ name ∷ []
answer_tokens name answers.Absent = codes "absent" ∷ []
answer_tokens name answers.TooMany = codes "too" ∷ codes "many" ∷ []
answer_tokens name answers.TooLong = codes "too" ∷ codes "long" ∷ []
answer_tokens name answers.Committed = codes "committed" ∷ []
answer_tokens name (answers.Aborted cause) = codes "aborted" ∷ cause_tokens cause
answer_tokens name answers.Ended = codes "ended" ∷ []
answer_tokens name answers.NotYours = codes "not" ∷ codes "yours" ∷ []
answer_tokens name answers.NotBegun = codes "not" ∷ codes "begun" ∷ []
answer_tokens name (answers.LogFull need room) = codes "log" ∷ codes "full" ∷ decimal need ∷ decimal room ∷ []

-- the name stands for the holder
abbrev pub Held : (List ℕ → Option Tid) → List ℕ → Answer → Type 0
Held holder name (answers.Busy tid) = holder name ≡ Some tid
Held holder name _ = ⊤

one : (word text : List ℕ) → same_bytes word text ≡ true → (word ∷ []) ≡ text ∷ []
one word text t = ap (λ w. w ∷ []) (same_bytes-true word text t)

pair : (word text a b : List ℕ) → same_bytes word text ≡ true → a ≡ b → (word ∷ a ∷ []) ≡ text ∷ b ∷ []
pair word text a b t e = let w : word ≡ text = same_bytes-true word text t in rw (w, e) refl

triple : (word text a b c d : List ℕ) → same_bytes word text ≡ true → a ≡ b → c ≡ d → (word ∷ a ∷ c ∷ []) ≡ text ∷ b ∷ d ∷ []
triple word text a b c d t e f = let w : word ≡ text = same_bytes-true word text t in rw (w, e, f) refl

-- ---- reasons

short_reason_back : (word one : List ℕ) (reason : Reason) → is_word one ≡ true → short_reason word one ≡ Some reason → IsReason reason × ((word ∷ one ∷ []) ≡ reason_tokens reason)
unfolding short_reason
short_reason_back word one reason good e =
    let P = λ (r : Reason). IsReason r × ((word ∷ one ∷ []) ≡ reason_tokens r) in
    chosen P (same_bytes word (codes "taken")) (reasons.Taken one) _ reason (λ t. (good, pair word (codes "taken") one one t refl))
    (led P (same_bytes word (codes "code")) (lift1 reasons.Code (number_below (2 ^ 32) one)) None reason
    (λ t. by_below (2 ^ 32) P reasons.Code one reason (λ m small is. (small, pair word (codes "code") one (decimal m) t is))) (λ none. cc)) e

long_reason_back : (word one two : List ℕ) (reason : Reason) → long_reason word one two ≡ Some reason → IsReason reason × ((word ∷ one ∷ two ∷ []) ≡ reason_tokens reason)
unfolding long_reason
long_reason_back word one two reason e =
    let P = λ (r : Reason). IsReason r × ((word ∷ one ∷ two ∷ []) ≡ reason_tokens r) in
    led P (same_bytes word (codes "quota")) (lift2 reasons.Quota (wide_of one) (wide_of two)) _ reason
    (λ t. by_two P reasons.Quota one two reason (λ m n s u p q. ((s, u), triple word (codes "quota") one (decimal m) two (decimal n) t p q)))
    (led P (same_bytes word (codes "log")) (lift2 reasons.LogRoom (wide_of one) (wide_of two)) None reason
    (λ t. by_two P reasons.LogRoom one two reason (λ m n s u p q. ((s, u), triple word (codes "log") one (decimal m) two (decimal n) t p q))) (λ none. cc)) e

pub reason_back : (word : List ℕ) (rest : List (List ℕ)) (reason : Reason) → list_all is_word rest ≡ true → reason_behind word rest ≡ Some reason
    → IsReason reason × ((word ∷ rest) ≡ reason_tokens reason)
reason_back word [] reason good e = cc
reason_back word (one ∷ []) reason good e = short_reason_back word one reason (both (is_word one) true good).0 e
reason_back word (one ∷ two ∷ []) reason good e = long_reason_back word one two reason e
reason_back word (one ∷ two ∷ three ∷ rest) reason good e = cc

pub reason_good : (reason : Reason) → IsReason reason → list_all is_word (reason_tokens reason) ≡ true
reason_good (reasons.Quota bytes limit) is = rw (decimal_word bytes is.0, decimal_word limit is.1) refl
reason_good (reasons.LogRoom need room) is = rw (decimal_word need is.0, decimal_word room is.1) refl
reason_good (reasons.Taken name) is = rw is refl
reason_good (reasons.Code code) is = rw (decimal_word code (omega (arith, is))) refl

-- ---- causes

pub cause_read : (cause : Cause) → IsCause cause → cause_of (cause_tokens cause) ≡ Some cause
unfolding cause_of short_reason long_reason
cause_read causes.Asked is = refl
cause_read (causes.Voted member (reasons.Quota bytes limit)) is =
    rw (server_read member.server.0 is.0.server, number_read 256 member.node.0 (omega arith) is.0.node, wide_read bytes is.1.0, wide_read limit is.1.1) refl
cause_read (causes.Voted member (reasons.LogRoom need room)) is =
    rw (server_read member.server.0 is.0.server, number_read 256 member.node.0 (omega arith) is.0.node, wide_read need is.1.0, wide_read room is.1.1) refl
cause_read (causes.Voted member (reasons.Taken name)) is =
    rw (server_read member.server.0 is.0.server, number_read 256 member.node.0 (omega arith) is.0.node) refl
cause_read (causes.Voted member (reasons.Code code)) is =
    rw (server_read member.server.0 is.0.server, number_read 256 member.node.0 (omega arith) is.0.node, number_read (2 ^ 32) code (omega arith) is.1) refl
cause_read (causes.Gone node inc) is = rw (number_read 256 node.0 (omega arith) is.0, wide_read inc is.1) refl
cause_read (causes.Home inc) is = rw (wide_read inc is) refl
cause_read (causes.Room need room) is = rw (wide_read need is.0, wide_read room is.1) refl
cause_read (causes.Old age) is = rw (wide_read age is) refl

pub cause_good : (cause : Cause) → IsCause cause → list_all is_word (cause_tokens cause) ≡ true
cause_good causes.Asked is = refl
cause_good (causes.Voted member reason) is =
    rw (server_word member.server.0 is.0.server, decimal_word member.node.0 (omega (arith, is.0.node)), reason_good reason is.1) refl
cause_good (causes.Gone node inc) is = rw (decimal_word node.0 (omega (arith, is.0)), decimal_word inc is.1) refl
cause_good (causes.Home inc) is = rw (decimal_word inc is) refl
cause_good (causes.Room need room) is = rw (decimal_word need is.0, decimal_word room is.1) refl
cause_good (causes.Old age) is = rw (decimal_word age is) refl

abbrev IsSpelling : List (List ℕ) → Cause → Type 0
IsSpelling words cause = IsCause cause × (words ≡ cause_tokens cause)

voter_parts : (server node : Option ℕ) (member : Member) → member_with server node ≡ Some member → (server ≡ Some member.server.0) × (node ≡ Some member.node.0)
voter_parts (Some server) (Some node) member e = let same : record { node = record { 0 = node }; server = record { 0 = server } } ≡ member = cc in rw (← same) (refl, refl)
voter_parts (Some server) None member e = cc
voter_parts None place member e = cc

voter_words : (a b c d : List ℕ) (xs ys : List (List ℕ)) → a ≡ b → c ≡ d → xs ≡ ys → (a ∷ c ∷ xs) ≡ b ∷ d ∷ ys
voter_words a b c d xs ys p q r = rw (p, q, r) refl

voted_back : (server node word : List ℕ) (rest : List (List ℕ)) (cause : Cause) → list_all is_word rest ≡ true → voted_cause server node (reason_behind word rest) ≡ Some cause
    → IsSpelling (server ∷ node ∷ word ∷ rest) cause
voted_back server node word rest cause good e =
    let l = lifted2 causes.Voted (member_with (server_of server) (number_below 256 node)) (reason_behind word rest) cause e in
    let m = voter_parts (server_of server) (number_below 256 node) l.0 l.1.1.0 in
    let s = server_back server l.0.server.0 m.0 in
    let n = number_spelled 256 node l.0.node.0 m.1 in
    let r = reason_back word rest l.1.0 good l.1.1.1.0 in
    subst (IsSpelling (server ∷ node ∷ word ∷ rest)) l.1.1.1.1 ((record { server = s.0; node = n.0 }, r.0), voter_words server (server_text l.0.server.0) node (decimal l.0.node.0) (word ∷ rest) (reason_tokens l.1.0) s.1 n.1 r.1)

short_cause_back : (word one : List ℕ) (cause : Cause) → short_cause word one ≡ Some cause → IsSpelling (word ∷ one ∷ []) cause
short_cause_back word one cause e =
    let P = IsSpelling (word ∷ one ∷ []) in
    led P (same_bytes word (codes "home")) (lift1 causes.Home (wide_of one)) _ cause (λ t. by_wide P causes.Home one cause (λ m small is. (small, pair word (codes "home") one (decimal m) t is)))
    (led P (same_bytes word (codes "old")) (lift1 causes.Old (wide_of one)) None cause (λ t. by_wide P causes.Old one cause (λ m small is. (small, pair word (codes "old") one (decimal m) t is))) (λ none. cc)) e

gone_back : (word one two : List ℕ) (cause : Cause) → same_bytes word (codes "gone") ≡ true
    → lift2 (λ node inc. causes.Gone (record { 0 = node }) inc) (number_below 256 one) (wide_of two) ≡ Some cause → IsSpelling (word ∷ one ∷ two ∷ []) cause
gone_back word one two cause t e =
    let l = lifted2 (λ node inc. causes.Gone (record { 0 = node }) inc) (number_below 256 one) (wide_of two) cause e in
    let m = number_spelled 256 one l.0 l.1.1.0 in
    let n = wide_back two l.1.0 l.1.1.1.0 in
    subst (IsSpelling (word ∷ one ∷ two ∷ [])) l.1.1.1.1 ((m.0, n.0), triple word (codes "gone") one (decimal l.0) two (decimal l.1.0) t m.1 n.1)

long_cause_back : (word one two : List ℕ) (cause : Cause) → long_cause word one two ≡ Some cause → IsSpelling (word ∷ one ∷ two ∷ []) cause
long_cause_back word one two cause e =
    let P = IsSpelling (word ∷ one ∷ two ∷ []) in
    led P (same_bytes word (codes "gone")) _ _ cause (gone_back word one two cause)
    (led P (same_bytes word (codes "room")) (lift2 causes.Room (wide_of one) (wide_of two)) None cause
    (λ t. by_two P causes.Room one two cause (λ m n s u p q. ((s, u), triple word (codes "room") one (decimal m) two (decimal n) t p q))) (λ none. cc)) e

pub cause_back : (words : List (List ℕ)) (cause : Cause) → list_all is_word words ≡ true → cause_of words ≡ Some cause → IsSpelling words cause
unfolding cause_of
cause_back [] cause good e = cc
cause_back (word ∷ []) cause good e =
    chosen (IsSpelling (word ∷ [])) (same_bytes word (codes "asked")) causes.Asked None cause (λ t. (tt, one word (codes "asked") t)) (λ none. cc) e
cause_back (word ∷ one ∷ []) cause good e = short_cause_back word one cause e
cause_back (word ∷ one ∷ two ∷ []) cause good e = long_cause_back word one two cause e
cause_back (server ∷ node ∷ word ∷ one ∷ rest) cause good e =
    let g = both (is_word server) (list_all is_word (node ∷ word ∷ one ∷ rest)) good in
    let h = both (is_word node) (list_all is_word (word ∷ one ∷ rest)) g.1 in
    let k = both (is_word word) (list_all is_word (one ∷ rest)) h.1 in
    let long : nat_lt 3 (length (server ∷ node ∷ word ∷ one ∷ rest)) ≡ true = lt-ltb 3 (length (server ∷ node ∷ word ∷ one ∷ rest)) (omega arith) in
    voted_back server node word (one ∷ rest) cause k.1 (rw long at e)

-- ---- votes, outcomes and crashes

pub ballot_back : (word : List ℕ) (vote : Vote) → ballot_of word ≡ Some vote → IsVote vote × ((word ∷ []) ≡ vote_tokens vote)
unfolding ballot_of
ballot_back word vote e =
    let P = λ (v : Vote). IsVote v × ((word ∷ []) ≡ vote_tokens v) in
    chosen P _ votes.ReadOnly _ vote (λ t. (tt, one word (codes "readonly") t))
    (chosen P _ votes.Volatile _ vote (λ t. (tt, one word (codes "volatile") t))
    (chosen P _ votes.Recoverable None vote (λ t. (tt, one word (codes "recoverable") t)) (λ none. cc))) e

pub outcome_back : (word : List ℕ) (outcome : Outcome) → outcome_of word ≡ Some outcome → word ≡ outcome_text outcome
unfolding outcome_of
outcome_back word outcome e =
    let P = λ (o : Outcome). word ≡ outcome_text o in
    chosen P _ outcomes.Commit _ outcome (λ t. same_bytes-true word (codes "commit") t)
    (chosen P _ outcomes.Abort None outcome (λ t. same_bytes-true word (codes "abort") t) (λ none. cc)) e

pub outcome_read : (outcome : Outcome) → outcome_of (outcome_text outcome) ≡ Some outcome
unfolding outcome_of
outcome_read outcomes.Commit = refl
outcome_read outcomes.Abort = refl

pub outcome_good : (outcome : Outcome) → is_word (outcome_text outcome) ≡ true
outcome_good outcomes.Commit = refl
outcome_good outcomes.Abort = refl

pub crash_read : (cause : CrashCause) → IsCrash cause → crash_of (crash_words cause) ≡ Some cause
unfolding crash_of
crash_read crashes.Plan is = refl
crash_read (crashes.Disk from to) is = rw (wide_read from is.0, wide_read to is.1) refl
crash_read (crashes.Last value) is = rw (wide_read value is) refl
crash_read crashes.Memory is = refl

pub crash_good : (cause : CrashCause) → IsCrash cause → list_all is_word (crash_words cause) ≡ true
crash_good crashes.Plan is = refl
crash_good (crashes.Disk from to) is = rw (decimal_word from is.0, decimal_word to is.1) refl
crash_good (crashes.Last value) is = rw (decimal_word value is) refl
crash_good crashes.Memory is = refl

pub crash_back : (words : List (List ℕ)) (cause : CrashCause) → crash_of words ≡ Some cause → IsCrash cause × (words ≡ crash_words cause)
unfolding crash_of
crash_back [] cause e = cc
crash_back (word ∷ []) cause e =
    let P = λ (c : CrashCause). IsCrash c × ((word ∷ []) ≡ crash_words c) in
    chosen P _ crashes.Plan _ cause (λ t. (tt, one word (codes "plan") t))
    (chosen P _ crashes.Memory None cause (λ t. (tt, one word (codes "memory") t)) (λ none. cc)) e
crash_back (word ∷ value ∷ []) cause e =
    let P = λ (c : CrashCause). IsCrash c × ((word ∷ value ∷ []) ≡ crash_words c) in
    led P (same_bytes word (codes "last")) (lift1 crashes.Last (wide_of value)) None cause
    (λ t. by_wide P crashes.Last value cause (λ m small is. (small, pair word (codes "last") value (decimal m) t is))) (λ none. cc) e
crash_back (word ∷ from ∷ to ∷ []) cause e =
    let P = λ (c : CrashCause). IsCrash c × ((word ∷ from ∷ to ∷ []) ≡ crash_words c) in
    led P (same_bytes word (codes "disk")) (lift2 crashes.Disk (wide_of from) (wide_of to)) None cause
    (λ t. by_two P crashes.Disk from to cause (λ m n s u p q. ((s, u), triple word (codes "disk") from (decimal m) to (decimal n) t p q))) (λ none. cc) e
crash_back (word ∷ from ∷ to ∷ more ∷ rest) cause e = cc

-- ---- answers

pub answer_read : (holder : List ℕ → Option Tid) (name : List ℕ) (answer : Answer) → IsAnswer answer → Held holder name answer → answer_of holder (answer_tokens name answer) ≡ Some answer
unfolding answer_of
answer_read holder name answers.Done is held = refl
answer_read holder name (answers.Value text) is held = refl
answer_read holder name (answers.Left ticks) is held = rw (number_read (2 ^ 32) ticks (omega arith) is) refl
answer_read holder name (answers.Names list) is held = refl
answer_read holder name (answers.Notes list) is held = refl
answer_read holder name (answers.Busy tid) is held = rw held refl
answer_read holder name answers.Absent is held = refl
answer_read holder name answers.TooMany is held = refl
answer_read holder name answers.TooLong is held = refl
answer_read holder name answers.Committed is held = refl
answer_read holder name (answers.Aborted cause) is held = rw (cause_read cause is) refl
answer_read holder name answers.Ended is held = refl
answer_read holder name answers.NotYours is held = refl
answer_read holder name answers.NotBegun is held = refl
answer_read holder name (answers.LogFull need room) is held = rw (wide_read need is.0, wide_read room is.1) refl

pub answer_good : (name : List ℕ) (answer : Answer) → IsAnswer answer → is_word name ≡ true → list_all is_word (answer_tokens name answer) ≡ true
answer_good name answers.Done is good = refl
answer_good name (answers.Value text) is good = rw is refl
answer_good name (answers.Left ticks) is good = rw (decimal_word ticks (omega (arith, is))) refl
answer_good name (answers.Names list) is good = is
answer_good name (answers.Notes list) is good = is
answer_good name (answers.Busy tid) is good = rw good refl
answer_good name answers.Absent is good = refl
answer_good name answers.TooMany is good = refl
answer_good name answers.TooLong is good = refl
answer_good name answers.Committed is good = refl
answer_good name (answers.Aborted cause) is good = cause_good cause is
answer_good name answers.Ended is good = refl
answer_good name answers.NotYours is good = refl
answer_good name answers.NotBegun is good = refl
answer_good name (answers.LogFull need room) is good = rw (decimal_word need is.0, decimal_word room is.1) refl

-- the answer is spelled by these words, and the name stands for its holder
pub record Told (holder : List ℕ → Option Tid) (words : List (List ℕ)) (answer : Answer) : Type 0 where
  pub name : List ℕ
  pub held : Held holder name answer
  pub is : IsAnswer answer
  pub spelled : words ≡ answer_tokens name answer
  pub good : is_word name ≡ true

some_word : is_word (codes "a") ≡ true
some_word = refl

told_one : (holder : List ℕ → Option Tid) (word text : List ℕ) (answer : Answer) → Held holder (codes "a") answer → IsAnswer answer → answer_tokens (codes "a") answer ≡ text ∷ [] → same_bytes word text ≡ true → Told holder (word ∷ []) answer
told_one holder word text answer held is e t = record { name = codes "a"; held = held; is = is; spelled = one word text t ∙ sym e; good = refl }

told_pair : (holder : List ℕ → Option Tid) (word text a b : List ℕ) (answer : Answer) → Held holder (codes "a") answer → IsAnswer answer → answer_tokens (codes "a") answer ≡ text ∷ b ∷ []
    → same_bytes word text ≡ true → a ≡ b → Told holder (word ∷ a ∷ []) answer
told_pair holder word text a b answer held is e t p = record { name = codes "a"; held = held; is = is; spelled = pair word text a b t p ∙ sym e; good = refl }

told_rest : (holder : List ℕ → Option Tid) (word text : List ℕ) (rest tokens : List (List ℕ)) (answer : Answer) → Held holder (codes "a") answer → IsAnswer answer → answer_tokens (codes "a") answer ≡ text ∷ tokens
    → same_bytes word text ≡ true → rest ≡ tokens → Told holder (word ∷ rest) answer
told_rest holder word text rest tokens answer held is e t p =
    let w : word ≡ text = same_bytes-true word text t in
    record { name = codes "a"; held = held; is = is; spelled = rw (w, p) (sym e); good = refl }

bare_back : (holder : List ℕ → Option Tid) (word : List ℕ) (answer : Answer) → bare_answer word ≡ Some answer → Told holder (word ∷ []) answer
bare_back holder word answer e =
    let P = Told holder (word ∷ []) in
    chosen P _ answers.Done _ answer (told_one holder word (codes "ok") answers.Done tt tt refl)
    (chosen P _ answers.Absent _ answer (told_one holder word (codes "absent") answers.Absent tt tt refl)
    (chosen P _ answers.Committed _ answer (told_one holder word (codes "committed") answers.Committed tt tt refl)
    (chosen P _ answers.Ended None answer (told_one holder word (codes "ended") answers.Ended tt tt refl) (λ none. cc)))) e

too_back : (holder : List ℕ → Option Tid) (word a : List ℕ) (answer : Answer) → same_bytes word (codes "too") ≡ true → too a ≡ Some answer → Told holder (word ∷ a ∷ []) answer
too_back holder word a answer t e =
    let P = Told holder (word ∷ a ∷ []) in
    chosen P _ answers.TooMany _ answer (λ u. told_pair holder word (codes "too") a (codes "many") answers.TooMany tt tt refl t (same_bytes-true a (codes "many") u))
    (chosen P _ answers.TooLong None answer (λ u. told_pair holder word (codes "too") a (codes "long") answers.TooLong tt tt refl t (same_bytes-true a (codes "long") u)) (λ none. cc)) e

refused_back : (holder : List ℕ → Option Tid) (word a : List ℕ) (answer : Answer) → same_bytes word (codes "not") ≡ true → refused a ≡ Some answer → Told holder (word ∷ a ∷ []) answer
refused_back holder word a answer t e =
    let P = Told holder (word ∷ a ∷ []) in
    chosen P _ answers.NotYours _ answer (λ u. told_pair holder word (codes "not") a (codes "yours") answers.NotYours tt tt refl t (same_bytes-true a (codes "yours") u))
    (chosen P _ answers.NotBegun None answer (λ u. told_pair holder word (codes "not") a (codes "begun") answers.NotBegun tt tt refl t (same_bytes-true a (codes "begun") u)) (λ none. cc)) e

on_back : (holder : List ℕ → Option Tid) (word a : List ℕ) (answer : Answer) → is_word a ≡ true → answer_on word a ≡ Some answer → Told holder (word ∷ a ∷ []) answer
on_back holder word a answer good e =
    let P = Told holder (word ∷ a ∷ []) in
    chosen P _ (answers.Value a) _ answer (λ t. told_pair holder word (codes "value") a a (answers.Value a) tt good refl t refl)
    (led P (same_bytes word (codes "left")) (lift1 answers.Left (number_below (2 ^ 32) a)) _ answer
    (λ t. by_below (2 ^ 32) P answers.Left a answer (λ m small is. told_pair holder word (codes "left") a (decimal m) (answers.Left m) tt small refl t is))
    (led P (same_bytes word (codes "too")) (too a) _ answer (too_back holder word a answer)
    (led P (same_bytes word (codes "not")) (refused a) None answer (refused_back holder word a answer) (λ none. cc)))) e

short_back : (holder : List ℕ → Option Tid) (word : List ℕ) (rest : List (List ℕ)) (answer : Answer) → list_all is_word rest ≡ true → short_answer word rest ≡ Some answer → Told holder (word ∷ rest) answer
short_back holder word [] answer good e = bare_back holder word answer e
short_back holder word (a ∷ []) answer good e = on_back holder word a answer (both (is_word a) true good).0 e
short_back holder word (a ∷ b ∷ rest) answer good e = cc

log_back : (holder : List ℕ → Option Tid) (word : List ℕ) (rest : List (List ℕ)) (answer : Answer) → same_bytes word (codes "log") ≡ true → log_full rest ≡ Some answer → Told holder (word ∷ rest) answer
log_back holder word [] answer t e = cc
log_back holder word (a ∷ []) answer t e = cc
log_back holder word (a ∷ b ∷ []) answer t e = cc
log_back holder word (full ∷ need ∷ room ∷ []) answer t e =
    let P = Told holder (word ∷ full ∷ need ∷ room ∷ []) in
    led P (same_bytes full (codes "full")) (lift2 answers.LogFull (wide_of need) (wide_of room)) None answer
    (λ u. by_two P answers.LogFull need room answer (λ m n s v p q.
    told_rest holder word (codes "log") (full ∷ need ∷ room ∷ []) (codes "full" ∷ decimal m ∷ decimal n ∷ []) (answers.LogFull m n) tt (s, v) refl t (triple full (codes "full") need (decimal m) room (decimal n) u p q)))
    (λ none. cc) e
log_back holder word (a ∷ b ∷ c ∷ d ∷ rest) answer t e = cc

aborted_back : (holder : List ℕ → Option Tid) (word : List ℕ) (rest : List (List ℕ)) (answer : Answer) → list_all is_word rest ≡ true → same_bytes word (codes "aborted") ≡ true
    → lift1 answers.Aborted (cause_of rest) ≡ Some answer → Told holder (word ∷ rest) answer
aborted_back holder word rest answer good t e =
    let l = lifted1 answers.Aborted (cause_of rest) answer e in
    let c = cause_back rest l.0 good l.1.0 in
    subst (Told holder (word ∷ rest)) l.1.1 (told_rest holder word (codes "aborted") rest (cause_tokens l.0) (answers.Aborted l.0) tt c.0 refl t c.1)

plain_back : (holder : List ℕ → Option Tid) (word : List ℕ) (rest : List (List ℕ)) (answer : Answer) → list_all is_word rest ≡ true → plain_answer word rest ≡ Some answer → Told holder (word ∷ rest) answer
plain_back holder word rest answer good e =
    let P = Told holder (word ∷ rest) in
    chosen P _ (answers.Names rest) _ answer (λ t. told_rest holder word (codes "names") rest rest (answers.Names rest) tt good refl t refl)
    (chosen P _ (answers.Notes rest) _ answer (λ t. told_rest holder word (codes "notes") rest rest (answers.Notes rest) tt good refl t refl)
    (led P (same_bytes word (codes "log")) (log_full rest) _ answer (log_back holder word rest answer)
    (led P (same_bytes word (codes "aborted")) (lift1 answers.Aborted (cause_of rest)) _ answer (aborted_back holder word rest answer good) (short_back holder word rest answer good)))) e

busy_back : (holder : List ℕ → Option Tid) → ((name : List ℕ) (tid : Tid) → holder name ≡ Some tid → IsTid tid) → (word : List ℕ) (rest : List (List ℕ)) (answer : Answer)
    → list_all is_word rest ≡ true → same_bytes word (codes "busy") ≡ true → busy_of holder rest ≡ Some answer → Told holder (word ∷ rest) answer
busy_back holder tids word [] answer good t e = cc
busy_back holder tids word (name ∷ []) answer good t e =
    let l = lifted1 answers.Busy (holder name) answer e in
    subst (Told holder (word ∷ name ∷ [])) l.1.1
    (record { name = name; held = l.1.0; is = tids name l.0 l.1.0; spelled = pair word (codes "busy") name name t refl; good = (both (is_word name) true good).0 })
busy_back holder tids word (a ∷ b ∷ rest) answer good t e = cc

pub answer_back : (holder : List ℕ → Option Tid) → ((name : List ℕ) (tid : Tid) → holder name ≡ Some tid → IsTid tid) → (words : List (List ℕ)) (answer : Answer)
    → list_all is_word words ≡ true → answer_of holder words ≡ Some answer → Told holder words answer
unfolding answer_of
answer_back holder tids [] answer good e = cc
answer_back holder tids (word ∷ rest) answer good e =
    let g = both (is_word word) (list_all is_word rest) good in
    led (Told holder (word ∷ rest)) (same_bytes word (codes "busy")) (busy_of holder rest) (plain_answer word rest) answer (busy_back holder tids word rest answer g.1) (plain_back holder word rest answer g.1) e
