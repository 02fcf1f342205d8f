-- Acts and entries have one spelling each.
use Rattle.std.proofs.Common.{◌≡◌, ◌<◌, ℕ, ◌^◌, true, List, [], ◌∷◌, ◌++◌, length, map, Option, Some, None, refl, sym, ◌∙◌, ap, subst, arith}
use Rattle.std.specs.Prelude.{decimal, codes, ⊤}
use Rattle.std.specs.List.{list_all}
use Rattle.std.proofs.Math.Seq.{take-append_seam, drop-append_seam}
use Rattle.std.proofs.lemmas.List.{length-map}
use Rattle.std.proofs.lemmas.List.Folds.{list_all-append}
use Rattle.qs_base.specs.declared.identifiers.Member.{Member}
use Rattle.qs_base.specs.declared.identifiers.Outcome.TheVariants as outcomes
use Rattle.qs_base.specs.declared.identifiers.Tid.{Tid}
use Rattle.qs_book_journal.specs.declared.entry.Act.{Act}
use Rattle.qs_book_journal.specs.declared.entry.Act.TheVariants as acts
use Rattle.qs_book_journal.specs.declared.entry.Found.{Found}
use Rattle.qs_ops.specs.Operations.{answer_of as answer_made}
use Rattle.qs_ops.specs.declared.answer.Answer.{Answer}
use Rattle.qs_ops.specs.declared.answer.Answer.TheVariants as answers
use Rattle.qs_ops.specs.declared.reply.Reply.{Reply}
use Rattle.qs_ops.specs.declared.reply.Reply.TheVariants as replies
use Rattle.qs_ops.specs.declared.vote.Reason.TheVariants as reasons
use Rattle.qs_ops.specs.declared.vote.Vote.{Vote}
use Rattle.qs_ops.specs.declared.vote.Vote.TheVariants as votes
use Rattle.qs_text_script.specs.Answers.{tid_text}
use Rattle.qs_text_script.specs.Journal.{member_text, pend_text, done_text}
use Rattle.qs_text_history.specs.Inner.Acts.{begin_of, counted_of, ending_of, learn_of, ask_of, loan_of, yield_of, tick_of, crash_act, issue_of, serve_of, voted, vote_of, decide_of, answer_act, all_of, done_place, restart_of, member_act, short_act, act_of}
use Rattle.qs_text_history.specs.Inner.Answers.{answer_of, reply_from, reply_of, ballot_of, refusal_of, short_reason, long_reason}
use Rattle.qs_text_history.specs.Spelled.{IsTid, IsMember, IsVote, IsAnswer, IsFound, IsAct, Each}
use Rattle.qs_text_history.specs.Words.{is_word}
use Rattle.qs_text_history.specs.Inner.Words.{tid_of, found_of, done_of}
use Rattle.qs_text_history.proofs.AnswerLemmas.{vote_tokens, answer_tokens, Held, reason_good, cause_read, cause_good, outcome_read, outcome_good, crash_read, crash_good, answer_read, answer_good, answer_back}
use Rattle.qs_text_history.proofs.IdentifierLemmas.{wide_read, tid_read, tid_back, tid_word, member_read, member_word, found_read, found_back, done_read, done_back, pend_word, done_word, pend_is_not_done, done_is_done}
use Rattle.qs_text_history.proofs.LiftLemmas.{lifted2}
use Rattle.qs_text_history.proofs.MarkLemmas.{decimal_word}
use Rattle.qs_text_history.proofs.NumberLemmas.{number_read}
use Rattle.qs_text_history.proofs.OperationLemmas.{op_read, op_good}
use Rattle.qs_text_history.proofs.TextLemmas.{shown, act_tokens}

-- ---- replies

reply_is : (reply : Reply) → reply_from (Some (answer_made reply)) ≡ Some reply
reply_is replies.Done = refl
reply_is (replies.Value text) = refl
reply_is (replies.Left ticks) = refl
reply_is (replies.Names list) = refl
reply_is (replies.Notes list) = refl
reply_is (replies.Busy holder) = refl
reply_is replies.Absent = refl
reply_is replies.TooMany = refl
reply_is replies.TooLong = refl

shown_held : (answer : Answer) → IsAnswer answer → Held tid_of (shown None answer) answer
shown_held answers.Done is = tt
shown_held (answers.Value text) is = tt
shown_held (answers.Left ticks) is = tt
shown_held (answers.Names list) is = tt
shown_held (answers.Notes list) is = tt
shown_held (answers.Busy holder) is = tid_read holder is
shown_held answers.Absent is = tt
shown_held answers.TooMany is = tt
shown_held answers.TooLong is = tt
shown_held answers.Committed is = tt
shown_held (answers.Aborted cause) is = tt
shown_held answers.Ended is = tt
shown_held answers.NotYours is = tt
shown_held answers.NotBegun is = tt
shown_held (answers.LogFull need room) is = tt

reply_read : (reply : Reply) → IsAnswer (answer_made reply) → reply_of (answer_tokens (shown None (answer_made reply)) (answer_made reply)) ≡ Some reply
unfolding reply_of
reply_read reply is = ap reply_from (answer_read tid_of (shown None (answer_made reply)) (answer_made reply) is (shown_held (answer_made reply) is)) ∙ reply_is reply

shown_word : (answer : Answer) → IsAnswer answer → is_word (shown None answer) ≡ true
shown_word answers.Done is = refl
shown_word (answers.Value text) is = refl
shown_word (answers.Left ticks) is = refl
shown_word (answers.Names list) is = refl
shown_word (answers.Notes list) is = refl
shown_word (answers.Busy holder) is = tid_word holder is
shown_word answers.Absent is = refl
shown_word answers.TooMany is = refl
shown_word answers.TooLong is = refl
shown_word answers.Committed is = refl
shown_word (answers.Aborted cause) is = refl
shown_word answers.Ended is = refl
shown_word answers.NotYours is = refl
shown_word answers.NotBegun is = refl
shown_word (answers.LogFull need room) is = refl

reply_parts : (answer : Option Answer) (reply : Reply) → reply_from answer ≡ Some reply → answer ≡ Some (answer_made reply)
reply_parts None reply e = cc
reply_parts (Some answers.Done) reply e = let same : replies.Done ≡ reply = cc in rw (← same) refl
reply_parts (Some (answers.Value text)) reply e = let same : replies.Value text ≡ reply = cc in rw (← same) refl
reply_parts (Some (answers.Left ticks)) reply e = let same : replies.Left ticks ≡ reply = cc in rw (← same) refl
reply_parts (Some (answers.Names list)) reply e = let same : replies.Names list ≡ reply = cc in rw (← same) refl
reply_parts (Some (answers.Notes list)) reply e = let same : replies.Notes list ≡ reply = cc in rw (← same) refl
reply_parts (Some (answers.Busy holder)) reply e = let same : replies.Busy holder ≡ reply = cc in rw (← same) refl
reply_parts (Some answers.Absent) reply e = let same : replies.Absent ≡ reply = cc in rw (← same) refl
reply_parts (Some answers.TooMany) reply e = let same : replies.TooMany ≡ reply = cc in rw (← same) refl
reply_parts (Some answers.TooLong) reply e = let same : replies.TooLong ≡ reply = cc in rw (← same) refl
reply_parts (Some answers.Committed) reply e = cc
reply_parts (Some (answers.Aborted cause)) reply e = cc
reply_parts (Some answers.Ended) reply e = cc
reply_parts (Some answers.NotYours) reply e = cc
reply_parts (Some answers.NotBegun) reply e = cc
reply_parts (Some (answers.LogFull need room)) reply e = cc

shown_is : (name : List ℕ) (answer : Answer) → Held tid_of name answer → answer_tokens name answer ≡ answer_tokens (shown None answer) answer
shown_is name answers.Done held = refl
shown_is name (answers.Value text) held = refl
shown_is name (answers.Left ticks) held = refl
shown_is name (answers.Names list) held = refl
shown_is name (answers.Notes list) held = refl
shown_is name (answers.Busy holder) held = ap (λ word. codes "busy" ∷ word ∷ []) (tid_back name holder held).1
shown_is name answers.Absent held = refl
shown_is name answers.TooMany held = refl
shown_is name answers.TooLong held = refl
shown_is name answers.Committed held = refl
shown_is name (answers.Aborted cause) held = refl
shown_is name answers.Ended held = refl
shown_is name answers.NotYours held = refl
shown_is name answers.NotBegun held = refl
shown_is name (answers.LogFull need room) held = refl

pub reply_back : (words : List (List ℕ)) (reply : Reply) → list_all is_word words ≡ true → reply_of words ≡ Some reply
    → IsAnswer (answer_made reply) × (words ≡ answer_tokens (shown None (answer_made reply)) (answer_made reply))
unfolding reply_of
reply_back words reply good e =
    let told = answer_back tid_of (λ name tid is. (tid_back name tid is).0) words (answer_made reply) good (reply_parts (answer_of tid_of words) reply e) in
    (told.is, told.spelled ∙ shown_is told.name (answer_made reply) told.held)

-- ---- restarts

pends_read : (pend : List Found) → Each IsFound pend → all_of found_of (map pend_text pend) ≡ Some pend
unfolding all_of
pends_read [] is = refl
pends_read (found ∷ pend) is = rw (found_read found is.0, pends_read pend is.1) refl

dones_read : (done : List Tid) → Each IsTid done → all_of done_of (map done_text done) ≡ Some done
unfolding all_of
dones_read [] is = refl
dones_read (tid ∷ done) is = rw (done_read tid is.0, dones_read done is.1) refl

place_of : (pend : List Found) (done : List Tid) → done_place (map pend_text pend ++ map done_text done) ≡ length pend
unfolding done_place
place_of [] [] = refl
place_of [] (tid ∷ done) = rw (done_is_done tid) refl
place_of (found ∷ pend) done = rw (pend_is_not_done found, place_of pend done) (omega arith)

restart_read : (inc : ℕ) (pend : List Found) (done : List Tid) → inc < 2 ^ 64 → Each IsFound pend → Each IsTid done
    → restart_of (decimal inc ∷ (map pend_text pend ++ map done_text done)) ≡ Some (acts.Restart inc pend done)
unfolding restart_of
restart_read inc pend done small p d =
    let at : done_place (map pend_text pend ++ map done_text done) ≡ length (map pend_text pend) = place_of pend done ∙ sym (length-map pend pend_text) in
    rw (at, take-append_seam (map pend_text pend) (map done_text done), drop-append_seam (map pend_text pend) (map done_text done), wide_read inc small, pends_read pend p, dones_read done d) refl

pub pends_back : (words : List (List ℕ)) (pend : List Found) → all_of found_of words ≡ Some pend → Each IsFound pend × (words ≡ map pend_text pend)
unfolding all_of
pends_back [] pend e = let same : [] ≡ pend = cc in rw (← same) (tt, refl)
pends_back (word ∷ words) pend e =
    let l = lifted2 (λ one more. one ∷ more) (found_of word) (all_of found_of words) pend e in
    let f = found_back word l.0 l.1.1.0 in
    let r = pends_back words l.1.0 l.1.1.1.0 in
    subst (λ p. Each IsFound p × ((word ∷ words) ≡ map pend_text p)) l.1.1.1.1 ((f.0, r.0), cons word (pend_text l.0) words (map pend_text l.1.0) f.1 r.1)
  where
    cons : (a b : List ℕ) (xs ys : List (List ℕ)) → a ≡ b → xs ≡ ys → (a ∷ xs) ≡ b ∷ ys
    cons a b xs ys p q = rw (p, q) refl

pub dones_back : (words : List (List ℕ)) (done : List Tid) → all_of done_of words ≡ Some done → Each IsTid done × (words ≡ map done_text done)
unfolding all_of
dones_back [] done e = let same : [] ≡ done = cc in rw (← same) (tt, refl)
dones_back (word ∷ words) done e =
    let l = lifted2 (λ one more. one ∷ more) (done_of word) (all_of done_of words) done e in
    let f = done_back word l.0 l.1.1.0 in
    let r = dones_back words l.1.0 l.1.1.1.0 in
    subst (λ p. Each IsTid p × ((word ∷ words) ≡ map done_text p)) l.1.1.1.1 ((f.0, r.0), cons word (done_text l.0) words (map done_text l.1.0) f.1 r.1)
  where
    cons : (a b : List ℕ) (xs ys : List (List ℕ)) → a ≡ b → xs ≡ ys → (a ∷ xs) ≡ b ∷ ys
    cons a b xs ys p q = rw (p, q) refl

pends_good : (pend : List Found) → Each IsFound pend → list_all is_word (map pend_text pend) ≡ true
pends_good [] is = refl
pends_good (found ∷ pend) is = rw (pend_word found is.0, pends_good pend is.1) refl

dones_good : (done : List Tid) → Each IsTid done → list_all is_word (map done_text done) ≡ true
dones_good [] is = refl
dones_good (tid ∷ done) is = rw (done_word tid is.0, dones_good done is.1) refl

-- ---- what is printed is read

-- the name stands for the holder, where the act is a busy answer
abbrev pub HeldIn : (List ℕ → Option Tid) → List ℕ → Act → Type 0
HeldIn holder name (acts.Answer client line answer) = Held holder name answer
HeldIn holder name _ = ⊤

vote_read : (tid : Tid) (member : Member) (vote : Vote) (covers : ℕ) → IsTid tid → IsMember member → IsVote vote → covers < 2 ^ 32
    → vote_of (tid_text tid ∷ member_text member ∷ (vote_tokens vote ++ decimal covers ∷ [])) ≡ Some (acts.Vote tid member vote covers)
unfolding vote_of voted ballot_of refusal_of short_reason long_reason
vote_read tid member (votes.Abort (reasons.Quota bytes limit)) covers t m v c =
    rw (tid_read tid t, member_read member m, wide_read bytes v.0, wide_read limit v.1, number_read (2 ^ 32) covers (omega arith) c) refl
vote_read tid member (votes.Abort (reasons.LogRoom need room)) covers t m v c =
    rw (tid_read tid t, member_read member m, wide_read need v.0, wide_read room v.1, number_read (2 ^ 32) covers (omega arith) c) refl
vote_read tid member (votes.Abort (reasons.Taken name)) covers t m v c = rw (tid_read tid t, member_read member m, number_read (2 ^ 32) covers (omega arith) c) refl
vote_read tid member (votes.Abort (reasons.Code code)) covers t m v c =
    rw (tid_read tid t, member_read member m, number_read (2 ^ 32) code (omega arith) v, number_read (2 ^ 32) covers (omega arith) c) refl
vote_read tid member votes.ReadOnly covers t m v c = rw (tid_read tid t, member_read member m, number_read (2 ^ 32) covers (omega arith) c) refl
vote_read tid member votes.Volatile covers t m v c = rw (tid_read tid t, member_read member m, number_read (2 ^ 32) covers (omega arith) c) refl
vote_read tid member votes.Recoverable covers t m v c = rw (tid_read tid t, member_read member m, number_read (2 ^ 32) covers (omega arith) c) refl

pub act_read : (holder : List ℕ → Option Tid) (name : List ℕ) (act : Act) → IsAct act → HeldIn holder name act → act_of holder (act_tokens name act) ≡ Some act
unfolding act_of short_act member_act begin_of counted_of ending_of learn_of ask_of loan_of yield_of tick_of crash_act issue_of serve_of decide_of answer_act
act_read holder name (acts.Begin tid label client) is held = rw (tid_read tid is.0, number_read 256 client.0 (omega arith) is.1.1) refl
act_read holder name (acts.Issue tid issuer member number op) is held =
    rw (tid_read tid is.0, member_read issuer is.1.0, member_read member is.1.1.0, number_read (2 ^ 32) number (omega arith) is.1.1.1.0, op_read op is.1.1.1.1) refl
act_read holder name (acts.Serve tid member from number reply) is held =
    rw (tid_read tid is.0, member_read member is.1.0, number_read 256 from.0 (omega arith) is.1.1.0, number_read (2 ^ 32) number (omega arith) is.1.1.1.0, reply_read reply is.1.1.1.1) refl
act_read holder name (acts.Ask tid) is held = rw (tid_read tid is) refl
act_read holder name (acts.Vote tid member vote covers) is held = rw (vote_read tid member vote covers is.0 is.1.0 is.1.1.0 is.1.1.1) refl
act_read holder name (acts.Counted tid peer up_to) is held = rw (tid_read tid is.0, number_read 256 peer.0 (omega arith) is.1.0, number_read (2 ^ 32) up_to (omega arith) is.1.1) refl
act_read holder name (acts.Decide tid outcomes.Commit None) is held = rw (tid_read tid is.0) refl
act_read holder name (acts.Decide tid outcomes.Commit (Some cause)) is held = absurd is.1
act_read holder name (acts.Decide tid outcomes.Abort None) is held = absurd is.1
act_read holder name (acts.Decide tid outcomes.Abort (Some cause)) is held = rw (tid_read tid is.0, cause_read cause is.1) refl
act_read holder name (acts.Ending tid member) is held = rw (tid_read tid is.0, member_read member is.1) refl
act_read holder name (acts.Learn tid member outcome) is held = rw (tid_read tid is.0, member_read member is.1, outcome_read outcome) refl
act_read holder name (acts.Answer client line answer) is held =
    rw (number_read 256 client.0 (omega arith) is.0, number_read (2 ^ 32) line (omega arith) is.1.0, answer_read holder name answer is.1.1 held) refl
act_read holder name (acts.Loan tid client) is held = rw (tid_read tid is.0, number_read 256 client.0 (omega arith) is.1) refl
act_read holder name (acts.Yield tid client) is held = rw (tid_read tid is.0, number_read 256 client.0 (omega arith) is.1) refl
act_read holder name acts.Tick is held = refl
act_read holder name (acts.Crash cause) is held = rw (crash_read cause is) refl
act_read holder name (acts.Restart inc pend done) is held = rw (restart_read inc pend done is.0 is.1.0 is.1.1) refl

vote_good : (vote : Vote) → IsVote vote → list_all is_word (vote_tokens vote) ≡ true
vote_good (votes.Abort reason) is = reason_good reason is
vote_good votes.ReadOnly is = refl
vote_good votes.Volatile is = refl
vote_good votes.Recoverable is = refl

pub act_good : (name : List ℕ) (act : Act) → is_word name ≡ true → IsAct act → list_all is_word (act_tokens name act) ≡ true
act_good name (acts.Begin tid label client) good is = rw (tid_word tid is.0, is.1.0, decimal_word client.0 (omega (arith, is.1.1))) refl
act_good name (acts.Issue tid issuer member number op) good is =
    rw (tid_word tid is.0, member_word issuer is.1.0, member_word member is.1.1.0, decimal_word number (omega (arith, is.1.1.1.0))) (op_good op is.1.1.1.1)
act_good name (acts.Serve tid member from number reply) good is =
    rw (tid_word tid is.0, member_word member is.1.0, decimal_word from.0 (omega (arith, is.1.1.0)), decimal_word number (omega (arith, is.1.1.1.0)))
    (answer_good (shown None (answer_made reply)) (answer_made reply) is.1.1.1.1 (shown_word (answer_made reply) is.1.1.1.1))
act_good name (acts.Ask tid) good is = rw (tid_word tid is) refl
act_good name (acts.Vote tid member vote covers) good is =
    rw (tid_word tid is.0, member_word member is.1.0, list_all-append is_word (vote_tokens vote) (decimal covers ∷ []), vote_good vote is.1.1.0, decimal_word covers (omega (arith, is.1.1.1))) refl
act_good name (acts.Counted tid peer up_to) good is = rw (tid_word tid is.0, decimal_word peer.0 (omega (arith, is.1.0)), decimal_word up_to (omega (arith, is.1.1))) refl
act_good name (acts.Decide tid outcomes.Commit cause) good is = rw (tid_word tid is.0) refl
act_good name (acts.Decide tid outcomes.Abort None) good is = absurd is.1
act_good name (acts.Decide tid outcomes.Abort (Some cause)) good is = rw (tid_word tid is.0) (cause_good cause is.1)
act_good name (acts.Ending tid member) good is = rw (tid_word tid is.0, member_word member is.1) refl
act_good name (acts.Learn tid member outcome) good is = rw (tid_word tid is.0, member_word member is.1, outcome_good outcome) refl
act_good name (acts.Answer client line answer) good is =
    rw (decimal_word client.0 (omega (arith, is.0)), decimal_word line (omega (arith, is.1.0))) (answer_good name answer is.1.1 good)
act_good name (acts.Loan tid client) good is = rw (tid_word tid is.0, decimal_word client.0 (omega (arith, is.1))) refl
act_good name (acts.Yield tid client) good is = rw (tid_word tid is.0, decimal_word client.0 (omega (arith, is.1))) refl
act_good name acts.Tick good is = refl
act_good name (acts.Crash cause) good is = crash_good cause is
act_good name (acts.Restart inc pend done) good is =
    rw (decimal_word inc is.0, list_all-append is_word (map pend_text pend) (map done_text done), pends_good pend is.1.0, dones_good done is.1.1) refl
