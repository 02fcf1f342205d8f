-- Acts that are read were printed so.
use Rattle.std.proofs.Common.{◌≡◌, ℕ, ◌^◌, true, List, [], ◌∷◌, ◌++◌, map, take, drop, Option, Some, None, refl, sym, ◌∙◌, ap, subst}
use Rattle.std.specs.Prelude.{decimal, codes}
use Rattle.std.specs.List.{list_all}
use Rattle.std.proofs.lemmas.List.{take-append-drop}
use Rattle.qs_base.specs.Order.{same_bytes}
use Rattle.qs_base.proofs.Same.{same_bytes-true}
use Rattle.qs_base.specs.declared.identifiers.Outcome.TheVariants as outcomes
use Rattle.qs_base.specs.declared.identifiers.Tid.{Tid}
use Rattle.qs_book_journal.specs.declared.entry.Act.{Act}
use Rattle.qs_book_journal.specs.declared.entry.Act.TheVariants as acts
use Rattle.qs_ops.specs.Operations.{answer_of as answer_made}
use Rattle.qs_ops.specs.declared.vote.Vote.{Vote}
use Rattle.qs_ops.specs.declared.vote.Vote.TheVariants as votes
use Rattle.qs_text_script.specs.Answers.{tid_text}
use Rattle.qs_text_script.specs.Journal.{member_text, op_words, outcome_text, crash_words, pend_text, done_text}
use Rattle.qs_text_history.specs.Inner.Acts.{begin_of, counted_of, ending_of, learn_of, ask_of, loan_of, yield_of, tick_of, crash_act, issue_of, serve_of, voted, refusal_act, ballot_act, vote_of, committed, aborted, decide_of, answer_act, all_of, done_place, restart_of, member_act, short_act, either, act_of}
use Rattle.qs_text_history.specs.Inner.Answers.{answer_of, reply_of, cause_of, ballot_of, refusal_of, short_reason, long_reason, reason_behind, outcome_of, crash_of}
use Rattle.qs_text_history.specs.Inner.Operations.{op_of}
use Rattle.qs_text_history.specs.Spelled.{IsTid, IsVote, IsAct}
use Rattle.qs_text_history.specs.Words.{is_word}
use Rattle.qs_text_history.specs.Inner.Words.{wide_of, number_below, tid_of, member_of, found_of, done_of}
use Rattle.qs_text_history.proofs.AnswerLemmas.{reason_tokens, cause_tokens, vote_tokens, answer_tokens, reason_back, cause_back, ballot_back, outcome_back, crash_back, answer_back}
use Rattle.qs_text_history.proofs.IdentifierLemmas.{wide_back, tid_back, member_back}
use Rattle.qs_text_history.proofs.LiftLemmas.{lifted1, lifted2, lifted3, lifted4, lifted5}
use Rattle.qs_text_history.proofs.MarkLemmas.{both}
use Rattle.qs_text_history.proofs.NumberLemmas.{number_spelled}
use Rattle.qs_text_history.proofs.OperationLemmas.{led, op_back}
use Rattle.qs_text_history.proofs.TextLemmas.{shown, act_tokens}
use Rattle.qs_text_history.proofs.ActLemmas.{HeldIn, reply_back, pends_back, dones_back}

-- ---- what is read was printed

-- the act is spelled by these words, and the name stands for the holder in a busy answer
pub record ActTold (holder : List ℕ → Option Tid) (words : List (List ℕ)) (act : Act) : Type 0 where
  pub name : List ℕ
  pub held : HeldIn holder name act
  pub is : IsAct act
  pub spelled : words ≡ act_tokens name act
  pub good : is_word name ≡ true

told : (holder : List ℕ → Option Tid) (word text : List ℕ) (rest tokens : List (List ℕ)) (act : Act) → HeldIn holder (codes "a") act → IsAct act → act_tokens (codes "a") act ≡ text ∷ tokens
    → same_bytes word text ≡ true → rest ≡ tokens → ActTold holder (word ∷ rest) act
told holder word text rest tokens act held is e t p =
    let w : word ≡ text = same_bytes-true word text t in
    record { name = codes "a"; held = held; is = is; spelled = rw (w, p) (sym e); good = refl }

cons : (a b : List ℕ) (xs ys : List (List ℕ)) → a ≡ b → xs ≡ ys → (a ∷ xs) ≡ b ∷ ys
cons a b xs ys p q = rw (p, q) refl

begin_back : (holder : List ℕ → Option Tid) (word : List ℕ) (rest : List (List ℕ)) (act : Act) → list_all is_word rest ≡ true → same_bytes word (codes "begin") ≡ true → begin_of rest ≡ Some act → ActTold holder (word ∷ rest) act
unfolding begin_of
begin_back holder word [] act good t e = cc
begin_back holder word (a ∷ []) act good t e = cc
begin_back holder word (a ∷ b ∷ []) act good t e = cc
begin_back holder word (a ∷ b ∷ c ∷ []) act good t e =
    let l = lifted2 (λ tid client. acts.Begin tid b (record { 0 = client })) (tid_of a) (number_below 256 c) act e in
    let tid = tid_back a l.0 l.1.1.0 in
    let n = number_spelled 256 c l.1.0 l.1.1.1.0 in
    let g = both (is_word a) (list_all is_word (b ∷ c ∷ [])) good in
    let h = both (is_word b) (list_all is_word (c ∷ [])) g.1 in
    subst (ActTold holder (word ∷ a ∷ b ∷ c ∷ [])) l.1.1.1.1
    (told holder word (codes "begin") (a ∷ b ∷ c ∷ []) (tid_text l.0 ∷ b ∷ decimal l.1.0 ∷ []) (acts.Begin l.0 b (record { 0 = l.1.0 })) tt (tid.0, (h.0, n.0)) refl t
    (cons a (tid_text l.0) (b ∷ c ∷ []) (b ∷ decimal l.1.0 ∷ []) tid.1 (cons b b (c ∷ []) (decimal l.1.0 ∷ []) refl (ap (λ x. x ∷ []) n.1))))
begin_back holder word (a ∷ b ∷ c ∷ d ∷ more) act good t e = cc

ask_back : (holder : List ℕ → Option Tid) (word : List ℕ) (rest : List (List ℕ)) (act : Act) → same_bytes word (codes "ask") ≡ true → ask_of rest ≡ Some act → ActTold holder (word ∷ rest) act
unfolding ask_of
ask_back holder word [] act t e = cc
ask_back holder word (a ∷ []) act t e =
    let l = lifted1 acts.Ask (tid_of a) act e in
    let tid = tid_back a l.0 l.1.0 in
    subst (ActTold holder (word ∷ a ∷ [])) l.1.1 (told holder word (codes "ask") (a ∷ []) (tid_text l.0 ∷ []) (acts.Ask l.0) tt tid.0 refl t (ap (λ x. x ∷ []) tid.1))
ask_back holder word (a ∷ b ∷ more) act t e = cc

counted_back : (holder : List ℕ → Option Tid) (word : List ℕ) (rest : List (List ℕ)) (act : Act) → same_bytes word (codes "counted") ≡ true → counted_of rest ≡ Some act → ActTold holder (word ∷ rest) act
unfolding counted_of
counted_back holder word [] act t e = cc
counted_back holder word (a ∷ []) act t e = cc
counted_back holder word (a ∷ b ∷ []) act t e = cc
counted_back holder word (a ∷ b ∷ c ∷ []) act t e =
    let l = lifted3 (λ tid peer up_to. acts.Counted tid (record { 0 = peer }) up_to) (tid_of a) (number_below 256 b) (number_below (2 ^ 32) c) act e in
    let tid = tid_back a l.0 l.1.1.1.0 in
    let m = number_spelled 256 b l.1.0 l.1.1.1.1.0 in
    let n = number_spelled (2 ^ 32) c l.1.1.0 l.1.1.1.1.1.0 in
    subst (ActTold holder (word ∷ a ∷ b ∷ c ∷ [])) l.1.1.1.1.1.1
    (told holder word (codes "counted") (a ∷ b ∷ c ∷ []) (tid_text l.0 ∷ decimal l.1.0 ∷ decimal l.1.1.0 ∷ []) (acts.Counted l.0 (record { 0 = l.1.0 }) l.1.1.0) tt (tid.0, (m.0, n.0)) refl t
    (cons a (tid_text l.0) (b ∷ c ∷ []) (decimal l.1.0 ∷ decimal l.1.1.0 ∷ []) tid.1 (cons b (decimal l.1.0) (c ∷ []) (decimal l.1.1.0 ∷ []) m.1 (ap (λ x. x ∷ []) n.1))))
counted_back holder word (a ∷ b ∷ c ∷ d ∷ more) act t e = cc

ending_back : (holder : List ℕ → Option Tid) (word : List ℕ) (rest : List (List ℕ)) (act : Act) → same_bytes word (codes "ending") ≡ true → ending_of rest ≡ Some act → ActTold holder (word ∷ rest) act
unfolding ending_of
ending_back holder word [] act t e = cc
ending_back holder word (a ∷ []) act t e = cc
ending_back holder word (a ∷ b ∷ []) act t e =
    let l = lifted2 acts.Ending (tid_of a) (member_of b) act e in
    let tid = tid_back a l.0 l.1.1.0 in
    let m = member_back b l.1.0 l.1.1.1.0 in
    subst (ActTold holder (word ∷ a ∷ b ∷ [])) l.1.1.1.1
    (told holder word (codes "ending") (a ∷ b ∷ []) (tid_text l.0 ∷ member_text l.1.0 ∷ []) (acts.Ending l.0 l.1.0) tt (tid.0, m.0) refl t
    (cons a (tid_text l.0) (b ∷ []) (member_text l.1.0 ∷ []) tid.1 (ap (λ x. x ∷ []) m.1)))
ending_back holder word (a ∷ b ∷ c ∷ more) act t e = cc

learn_back : (holder : List ℕ → Option Tid) (word : List ℕ) (rest : List (List ℕ)) (act : Act) → same_bytes word (codes "learn") ≡ true → learn_of rest ≡ Some act → ActTold holder (word ∷ rest) act
unfolding learn_of
learn_back holder word [] act t e = cc
learn_back holder word (a ∷ []) act t e = cc
learn_back holder word (a ∷ b ∷ []) act t e = cc
learn_back holder word (a ∷ b ∷ c ∷ []) act t e =
    let l = lifted3 acts.Learn (tid_of a) (member_of b) (outcome_of c) act e in
    let tid = tid_back a l.0 l.1.1.1.0 in
    let m = member_back b l.1.0 l.1.1.1.1.0 in
    let n = outcome_back c l.1.1.0 l.1.1.1.1.1.0 in
    subst (ActTold holder (word ∷ a ∷ b ∷ c ∷ [])) l.1.1.1.1.1.1
    (told holder word (codes "learn") (a ∷ b ∷ c ∷ []) (tid_text l.0 ∷ member_text l.1.0 ∷ outcome_text l.1.1.0 ∷ []) (acts.Learn l.0 l.1.0 l.1.1.0) tt (tid.0, m.0) refl t
    (cons a (tid_text l.0) (b ∷ c ∷ []) (member_text l.1.0 ∷ outcome_text l.1.1.0 ∷ []) tid.1 (cons b (member_text l.1.0) (c ∷ []) (outcome_text l.1.1.0 ∷ []) m.1 (ap (λ x. x ∷ []) n))))
learn_back holder word (a ∷ b ∷ c ∷ d ∷ more) act t e = cc

loan_back : (holder : List ℕ → Option Tid) (word : List ℕ) (rest : List (List ℕ)) (act : Act) → same_bytes word (codes "loan") ≡ true → loan_of rest ≡ Some act → ActTold holder (word ∷ rest) act
unfolding loan_of
loan_back holder word [] act t e = cc
loan_back holder word (a ∷ []) act t e = cc
loan_back holder word (a ∷ b ∷ []) act t e =
    let l = lifted2 (λ tid client. acts.Loan tid (record { 0 = client })) (tid_of a) (number_below 256 b) act e in
    let tid = tid_back a l.0 l.1.1.0 in
    let m = number_spelled 256 b l.1.0 l.1.1.1.0 in
    subst (ActTold holder (word ∷ a ∷ b ∷ [])) l.1.1.1.1
    (told holder word (codes "loan") (a ∷ b ∷ []) (tid_text l.0 ∷ decimal l.1.0 ∷ []) (acts.Loan l.0 (record { 0 = l.1.0 })) tt (tid.0, m.0) refl t
    (cons a (tid_text l.0) (b ∷ []) (decimal l.1.0 ∷ []) tid.1 (ap (λ x. x ∷ []) m.1)))
loan_back holder word (a ∷ b ∷ c ∷ more) act t e = cc

yield_back : (holder : List ℕ → Option Tid) (word : List ℕ) (rest : List (List ℕ)) (act : Act) → same_bytes word (codes "yield") ≡ true → yield_of rest ≡ Some act → ActTold holder (word ∷ rest) act
unfolding yield_of
yield_back holder word [] act t e = cc
yield_back holder word (a ∷ []) act t e = cc
yield_back holder word (a ∷ b ∷ []) act t e =
    let l = lifted2 (λ tid client. acts.Yield tid (record { 0 = client })) (tid_of a) (number_below 256 b) act e in
    let tid = tid_back a l.0 l.1.1.0 in
    let m = number_spelled 256 b l.1.0 l.1.1.1.0 in
    subst (ActTold holder (word ∷ a ∷ b ∷ [])) l.1.1.1.1
    (told holder word (codes "yield") (a ∷ b ∷ []) (tid_text l.0 ∷ decimal l.1.0 ∷ []) (acts.Yield l.0 (record { 0 = l.1.0 })) tt (tid.0, m.0) refl t
    (cons a (tid_text l.0) (b ∷ []) (decimal l.1.0 ∷ []) tid.1 (ap (λ x. x ∷ []) m.1)))
yield_back holder word (a ∷ b ∷ c ∷ more) act t e = cc

tick_back : (holder : List ℕ → Option Tid) (word : List ℕ) (rest : List (List ℕ)) (act : Act) → same_bytes word (codes "tick") ≡ true → tick_of rest ≡ Some act → ActTold holder (word ∷ rest) act
unfolding tick_of
tick_back holder word [] act t e = let same : acts.Tick ≡ act = cc in subst (ActTold holder (word ∷ [])) same (told holder word (codes "tick") [] [] acts.Tick tt tt refl t refl)
tick_back holder word (a ∷ more) act t e = cc

crash_act_back : (holder : List ℕ → Option Tid) (word : List ℕ) (rest : List (List ℕ)) (act : Act) → same_bytes word (codes "crash") ≡ true → crash_act rest ≡ Some act → ActTold holder (word ∷ rest) act
unfolding crash_act
crash_act_back holder word rest act t e =
    let l = lifted1 acts.Crash (crash_of rest) act e in
    let c = crash_back rest l.0 l.1.0 in
    subst (ActTold holder (word ∷ rest)) l.1.1 (told holder word (codes "crash") rest (crash_words l.0) (acts.Crash l.0) tt c.0 refl t c.1)

short_act_back : (holder : List ℕ → Option Tid) (word : List ℕ) (rest : List (List ℕ)) (act : Act) → list_all is_word rest ≡ true → short_act word rest ≡ Some act → ActTold holder (word ∷ rest) act
unfolding short_act
short_act_back holder word rest act good e =
    let P = ActTold holder (word ∷ rest) in
    led P _ (begin_of rest) _ act (begin_back holder word rest act good)
    (led P _ (ask_of rest) _ act (ask_back holder word rest act)
    (led P _ (counted_of rest) _ act (counted_back holder word rest act)
    (led P _ (ending_of rest) _ act (ending_back holder word rest act)
    (led P _ (learn_of rest) _ act (learn_back holder word rest act)
    (led P _ (loan_of rest) _ act (loan_back holder word rest act)
    (led P _ (yield_of rest) _ act (yield_back holder word rest act)
    (led P _ (tick_of rest) _ act (tick_back holder word rest act)
    (led P _ (crash_act rest) None act (crash_act_back holder word rest act) (λ none. cc))))))))) e

-- ---- acts with further words

issue_back : (holder : List ℕ → Option Tid) (word : List ℕ) (rest : List (List ℕ)) (act : Act) → list_all is_word rest ≡ true → same_bytes word (codes "issue") ≡ true → issue_of rest ≡ Some act → ActTold holder (word ∷ rest) act
unfolding issue_of
issue_back holder word [] act good t e = cc
issue_back holder word (a ∷ []) act good t e = cc
issue_back holder word (a ∷ b ∷ []) act good t e = cc
issue_back holder word (a ∷ b ∷ c ∷ []) act good t e = cc
issue_back holder word (a ∷ b ∷ c ∷ d ∷ op) act good t e =
    let l = lifted5 acts.Issue (tid_of a) (member_of b) (member_of c) (number_below (2 ^ 32) d) (op_of op) act e in
    let g1 = both (is_word a) (list_all is_word (b ∷ c ∷ d ∷ op)) good in
    let g2 = both (is_word b) (list_all is_word (c ∷ d ∷ op)) g1.1 in
    let g3 = both (is_word c) (list_all is_word (d ∷ op)) g2.1 in
    let g4 = both (is_word d) (list_all is_word op) g3.1 in
    let tid = tid_back a l.0 l.1.1.1.1.1.0 in
    let i = member_back b l.1.0 l.1.1.1.1.1.1.0 in
    let m = member_back c l.1.1.0 l.1.1.1.1.1.1.1.0 in
    let n = number_spelled (2 ^ 32) d l.1.1.1.0 l.1.1.1.1.1.1.1.1.0 in
    let o = op_back op l.1.1.1.1.0 g4.1 l.1.1.1.1.1.1.1.1.1.0 in
    subst (ActTold holder (word ∷ a ∷ b ∷ c ∷ d ∷ op)) l.1.1.1.1.1.1.1.1.1.1
    (told holder word (codes "issue") (a ∷ b ∷ c ∷ d ∷ op) (tid_text l.0 ∷ member_text l.1.0 ∷ member_text l.1.1.0 ∷ decimal l.1.1.1.0 ∷ op_words l.1.1.1.1.0)
    (acts.Issue l.0 l.1.0 l.1.1.0 l.1.1.1.0 l.1.1.1.1.0) tt (tid.0, (i.0, (m.0, (n.0, o.0)))) refl t
    (cons a (tid_text l.0) (b ∷ c ∷ d ∷ op) (member_text l.1.0 ∷ member_text l.1.1.0 ∷ decimal l.1.1.1.0 ∷ op_words l.1.1.1.1.0) tid.1
    (cons b (member_text l.1.0) (c ∷ d ∷ op) (member_text l.1.1.0 ∷ decimal l.1.1.1.0 ∷ op_words l.1.1.1.1.0) i.1
    (cons c (member_text l.1.1.0) (d ∷ op) (decimal l.1.1.1.0 ∷ op_words l.1.1.1.1.0) m.1
    (cons d (decimal l.1.1.1.0) op (op_words l.1.1.1.1.0) n.1 o.1)))))

serve_back : (holder : List ℕ → Option Tid) (word : List ℕ) (rest : List (List ℕ)) (act : Act) → list_all is_word rest ≡ true → same_bytes word (codes "serve") ≡ true → serve_of rest ≡ Some act → ActTold holder (word ∷ rest) act
unfolding serve_of
serve_back holder word [] act good t e = cc
serve_back holder word (a ∷ []) act good t e = cc
serve_back holder word (a ∷ b ∷ []) act good t e = cc
serve_back holder word (a ∷ b ∷ c ∷ []) act good t e = cc
serve_back holder word (a ∷ b ∷ c ∷ d ∷ reply) act good t e =
    let l = lifted5 (λ tid member from number reply. acts.Serve tid member (record { 0 = from }) number reply) (tid_of a) (member_of b) (number_below 256 c) (number_below (2 ^ 32) d) (reply_of reply) act e in
    let g1 = both (is_word a) (list_all is_word (b ∷ c ∷ d ∷ reply)) good in
    let g2 = both (is_word b) (list_all is_word (c ∷ d ∷ reply)) g1.1 in
    let g3 = both (is_word c) (list_all is_word (d ∷ reply)) g2.1 in
    let g4 = both (is_word d) (list_all is_word reply) g3.1 in
    let tid = tid_back a l.0 l.1.1.1.1.1.0 in
    let i = member_back b l.1.0 l.1.1.1.1.1.1.0 in
    let m = number_spelled 256 c l.1.1.0 l.1.1.1.1.1.1.1.0 in
    let n = number_spelled (2 ^ 32) d l.1.1.1.0 l.1.1.1.1.1.1.1.1.0 in
    let o = reply_back reply l.1.1.1.1.0 g4.1 l.1.1.1.1.1.1.1.1.1.0 in
    let tokens = answer_tokens (shown None (answer_made l.1.1.1.1.0)) (answer_made l.1.1.1.1.0) in
    subst (ActTold holder (word ∷ a ∷ b ∷ c ∷ d ∷ reply)) l.1.1.1.1.1.1.1.1.1.1
    (told holder word (codes "serve") (a ∷ b ∷ c ∷ d ∷ reply) (tid_text l.0 ∷ member_text l.1.0 ∷ decimal l.1.1.0 ∷ decimal l.1.1.1.0 ∷ tokens)
    (acts.Serve l.0 l.1.0 (record { 0 = l.1.1.0 }) l.1.1.1.0 l.1.1.1.1.0) tt (tid.0, (i.0, (m.0, (n.0, o.0)))) refl t
    (cons a (tid_text l.0) (b ∷ c ∷ d ∷ reply) (member_text l.1.0 ∷ decimal l.1.1.0 ∷ decimal l.1.1.1.0 ∷ tokens) tid.1
    (cons b (member_text l.1.0) (c ∷ d ∷ reply) (decimal l.1.1.0 ∷ decimal l.1.1.1.0 ∷ tokens) i.1
    (cons c (decimal l.1.1.0) (d ∷ reply) (decimal l.1.1.1.0 ∷ tokens) m.1
    (cons d (decimal l.1.1.1.0) reply tokens n.1 o.1)))))

voted_vote_back : (holder : List ℕ → Option Tid) (word a b covers : List ℕ) (between : List (List ℕ)) (vote : Option Vote) (act : Act) → same_bytes word (codes "vote") ≡ true
    → ((v : Vote) → vote ≡ Some v → IsVote v × (between ≡ vote_tokens v)) → voted a b vote covers ≡ Some act → ActTold holder (word ∷ a ∷ b ∷ (between ++ covers ∷ [])) act
unfolding voted
voted_vote_back holder word a b covers between vote act t reads e =
    let l = lifted4 acts.Vote (tid_of a) (member_of b) vote (number_below (2 ^ 32) covers) act e in
    let tid = tid_back a l.0 l.1.1.1.1.0 in
    let m = member_back b l.1.0 l.1.1.1.1.1.0 in
    let v = reads l.1.1.0 l.1.1.1.1.1.1.0 in
    let n = number_spelled (2 ^ 32) covers l.1.1.1.0 l.1.1.1.1.1.1.1.0 in
    subst (ActTold holder (word ∷ a ∷ b ∷ (between ++ covers ∷ []))) l.1.1.1.1.1.1.1.1
    (told holder word (codes "vote") (a ∷ b ∷ (between ++ covers ∷ [])) (tid_text l.0 ∷ member_text l.1.0 ∷ (vote_tokens l.1.1.0 ++ decimal l.1.1.1.0 ∷ []))
    (acts.Vote l.0 l.1.0 l.1.1.0 l.1.1.1.0) tt (tid.0, (m.0, (v.0, n.0))) refl t
    (cons a (tid_text l.0) (b ∷ (between ++ covers ∷ [])) (member_text l.1.0 ∷ (vote_tokens l.1.1.0 ++ decimal l.1.1.1.0 ∷ [])) tid.1
    (cons b (member_text l.1.0) (between ++ covers ∷ []) (vote_tokens l.1.1.0 ++ decimal l.1.1.1.0 ∷ []) m.1 (joined between (vote_tokens l.1.1.0) covers (decimal l.1.1.1.0) v.1 n.1))))
  where
    joined : (xs ys : List (List ℕ)) (c d : List ℕ) → xs ≡ ys → c ≡ d → xs ++ c ∷ [] ≡ ys ++ d ∷ []
    joined xs ys c d p q = rw (p, q) refl

refusal_reads : (abort word : List ℕ) (rest : List (List ℕ)) → list_all is_word rest ≡ true → same_bytes abort (codes "abort") ≡ true → (vote : Vote) → refusal_of (reason_behind word rest) ≡ Some vote
    → IsVote vote × ((abort ∷ word ∷ rest) ≡ vote_tokens vote)
unfolding refusal_of
refusal_reads abort word rest good t vote e =
    let l = lifted1 votes.Abort (reason_behind word rest) vote e in
    let r = reason_back word rest l.0 good l.1.0 in
    subst (λ v. IsVote v × ((abort ∷ word ∷ rest) ≡ vote_tokens v)) l.1.1 (r.0, cons abort (codes "abort") (word ∷ rest) (reason_tokens l.0) (same_bytes-true abort (codes "abort") t) r.1)

refusal_back : (holder : List ℕ → Option Tid) (word a b abort : List ℕ) (rest : List (List ℕ)) (act : Act) → list_all is_word rest ≡ true → same_bytes word (codes "vote") ≡ true → same_bytes abort (codes "abort") ≡ true
    → refusal_act a b rest ≡ Some act → ActTold holder (word ∷ a ∷ b ∷ abort ∷ rest) act
refusal_back holder word a b abort [] act good t u e = cc
refusal_back holder word a b abort (x ∷ []) act good t u e = cc
refusal_back holder word a b abort (x ∷ y ∷ []) act good t u e = cc
refusal_back holder word a b abort (x ∷ y ∷ covers ∷ []) act good t u e =
    let g = both (is_word x) (list_all is_word (y ∷ covers ∷ [])) good in
    let h = both (is_word y) (list_all is_word (covers ∷ [])) g.1 in
    let one : list_all is_word (y ∷ []) ≡ true = rw (h.0) refl in
    voted_vote_back holder word a b covers (abort ∷ x ∷ y ∷ []) (refusal_of (short_reason x y)) act t (refusal_reads abort x (y ∷ []) one u) e
refusal_back holder word a b abort (x ∷ y ∷ z ∷ covers ∷ []) act good t u e =
    let g = both (is_word x) (list_all is_word (y ∷ z ∷ covers ∷ [])) good in
    let h = both (is_word y) (list_all is_word (z ∷ covers ∷ [])) g.1 in
    let k = both (is_word z) (list_all is_word (covers ∷ [])) h.1 in
    let two : list_all is_word (y ∷ z ∷ []) ≡ true = rw (h.0, k.0) refl in
    voted_vote_back holder word a b covers (abort ∷ x ∷ y ∷ z ∷ []) (refusal_of (long_reason x y z)) act t (refusal_reads abort x (y ∷ z ∷ []) two u) e
refusal_back holder word a b abort (x ∷ y ∷ z ∷ v ∷ w ∷ more) act good t u e = cc

ballot_act_back : (holder : List ℕ → Option Tid) (word a b ballot : List ℕ) (rest : List (List ℕ)) (act : Act) → same_bytes word (codes "vote") ≡ true
    → ballot_act a b ballot rest ≡ Some act → ActTold holder (word ∷ a ∷ b ∷ ballot ∷ rest) act
ballot_act_back holder word a b ballot [] act t e = cc
ballot_act_back holder word a b ballot (covers ∷ []) act t e = voted_vote_back holder word a b covers (ballot ∷ []) (ballot_of ballot) act t (ballot_back ballot) e
ballot_act_back holder word a b ballot (x ∷ y ∷ more) act t e = cc

vote_back : (holder : List ℕ → Option Tid) (word : List ℕ) (rest : List (List ℕ)) (act : Act) → list_all is_word rest ≡ true → same_bytes word (codes "vote") ≡ true → vote_of rest ≡ Some act → ActTold holder (word ∷ rest) act
unfolding vote_of
vote_back holder word [] act good t e = cc
vote_back holder word (a ∷ []) act good t e = cc
vote_back holder word (a ∷ b ∷ []) act good t e = cc
vote_back holder word (a ∷ b ∷ c ∷ rest) act good t e =
    let g1 = both (is_word a) (list_all is_word (b ∷ c ∷ rest)) good in
    let g2 = both (is_word b) (list_all is_word (c ∷ rest)) g1.1 in
    let g3 = both (is_word c) (list_all is_word rest) g2.1 in
    led (ActTold holder (word ∷ a ∷ b ∷ c ∷ rest)) (same_bytes c (codes "abort")) (refusal_act a b rest) (ballot_act a b c rest) act
    (refusal_back holder word a b c rest act g3.1 t) (ballot_act_back holder word a b c rest act t) e

committed_back : (holder : List ℕ → Option Tid) (word a c : List ℕ) (rest : List (List ℕ)) (act : Act) → same_bytes word (codes "decide") ≡ true → same_bytes c (codes "commit") ≡ true
    → committed a rest ≡ Some act → ActTold holder (word ∷ a ∷ c ∷ rest) act
committed_back holder word a c [] act t u e =
    let l = lifted1 (λ tid. acts.Decide tid outcomes.Commit None) (tid_of a) act e in
    let tid = tid_back a l.0 l.1.0 in
    subst (ActTold holder (word ∷ a ∷ c ∷ [])) l.1.1
    (told holder word (codes "decide") (a ∷ c ∷ []) (tid_text l.0 ∷ codes "commit" ∷ []) (acts.Decide l.0 outcomes.Commit None) tt (tid.0, tt) refl t
    (cons a (tid_text l.0) (c ∷ []) (codes "commit" ∷ []) tid.1 (ap (λ x. x ∷ []) (same_bytes-true c (codes "commit") u))))
committed_back holder word a c (x ∷ more) act t u e = cc

aborted_back : (holder : List ℕ → Option Tid) (word a c : List ℕ) (rest : List (List ℕ)) (act : Act) → list_all is_word rest ≡ true → same_bytes word (codes "decide") ≡ true → same_bytes c (codes "abort") ≡ true
    → aborted a (cause_of rest) ≡ Some act → ActTold holder (word ∷ a ∷ c ∷ rest) act
aborted_back holder word a c rest act good t u e =
    let l = lifted2 (λ tid cause. acts.Decide tid outcomes.Abort (Some cause)) (tid_of a) (cause_of rest) act e in
    let tid = tid_back a l.0 l.1.1.0 in
    let r = cause_back rest l.1.0 good l.1.1.1.0 in
    subst (ActTold holder (word ∷ a ∷ c ∷ rest)) l.1.1.1.1
    (told holder word (codes "decide") (a ∷ c ∷ rest) (tid_text l.0 ∷ codes "abort" ∷ cause_tokens l.1.0) (acts.Decide l.0 outcomes.Abort (Some l.1.0)) tt (tid.0, r.0) refl t
    (cons a (tid_text l.0) (c ∷ rest) (codes "abort" ∷ cause_tokens l.1.0) tid.1 (cons c (codes "abort") rest (cause_tokens l.1.0) (same_bytes-true c (codes "abort") u) r.1)))

decide_back : (holder : List ℕ → Option Tid) (word : List ℕ) (rest : List (List ℕ)) (act : Act) → list_all is_word rest ≡ true → same_bytes word (codes "decide") ≡ true → decide_of rest ≡ Some act → ActTold holder (word ∷ rest) act
unfolding decide_of
decide_back holder word [] act good t e = cc
decide_back holder word (a ∷ []) act good t e = cc
decide_back holder word (a ∷ c ∷ rest) act good t e =
    let g1 = both (is_word a) (list_all is_word (c ∷ rest)) good in
    let g2 = both (is_word c) (list_all is_word rest) g1.1 in
    let P = ActTold holder (word ∷ a ∷ c ∷ rest) in
    led P (same_bytes c (codes "commit")) (committed a rest) _ act (committed_back holder word a c rest act t)
    (led P (same_bytes c (codes "abort")) (aborted a (cause_of rest)) None act (aborted_back holder word a c rest act g2.1 t) (λ none. cc)) e

restart_back : (holder : List ℕ → Option Tid) (word : List ℕ) (rest : List (List ℕ)) (act : Act) → same_bytes word (codes "restart") ≡ true → restart_of rest ≡ Some act → ActTold holder (word ∷ rest) act
unfolding restart_of
restart_back holder word [] act t e = cc
restart_back holder word (a ∷ found) act t e =
    let at = done_place found in
    let l = lifted3 acts.Restart (wide_of a) (all_of found_of (take at found)) (all_of done_of (drop at found)) act e in
    let n = wide_back a l.0 l.1.1.1.0 in
    let p = pends_back (take at found) l.1.0 l.1.1.1.1.0 in
    let d = dones_back (drop at found) l.1.1.0 l.1.1.1.1.1.0 in
    subst (ActTold holder (word ∷ a ∷ found)) l.1.1.1.1.1.1
    (told holder word (codes "restart") (a ∷ found) (decimal l.0 ∷ (map pend_text l.1.0 ++ map done_text l.1.1.0)) (acts.Restart l.0 l.1.0 l.1.1.0) tt (n.0, (p.0, d.0)) refl t
    (cons a (decimal l.0) found (map pend_text l.1.0 ++ map done_text l.1.1.0) n.1
    (sym (take-append-drop at found) ∙ joined (take at found) (map pend_text l.1.0) (drop at found) (map done_text l.1.1.0) p.1 d.1)))
  where
    joined : (xs ys zs ws : List (List ℕ)) → xs ≡ ys → zs ≡ ws → xs ++ zs ≡ ys ++ ws
    joined xs ys zs ws p q = rw (p, q) refl

member_act_back : (holder : List ℕ → Option Tid) (word : List ℕ) (rest : List (List ℕ)) (act : Act) → list_all is_word rest ≡ true → member_act word rest ≡ Some act → ActTold holder (word ∷ rest) act
unfolding member_act
member_act_back holder word rest act good e =
    let P = ActTold holder (word ∷ rest) in
    led P _ (issue_of rest) _ act (issue_back holder word rest act good)
    (led P _ (serve_of rest) _ act (serve_back holder word rest act good)
    (led P _ (vote_of rest) _ act (vote_back holder word rest act good)
    (led P _ (decide_of rest) _ act (decide_back holder word rest act good)
    (led P _ (restart_of rest) None act (restart_back holder word rest act) (λ none. cc))))) e

answer_act_back : (holder : List ℕ → Option Tid) → ((name : List ℕ) (tid : Tid) → holder name ≡ Some tid → IsTid tid) → (word : List ℕ) (rest : List (List ℕ)) (act : Act) → list_all is_word rest ≡ true → same_bytes word (codes "answer") ≡ true
    → answer_act holder rest ≡ Some act → ActTold holder (word ∷ rest) act
unfolding answer_act
answer_act_back holder tids word [] act good t e = cc
answer_act_back holder tids word (a ∷ []) act good t e = cc
answer_act_back holder tids word (a ∷ b ∷ answer) act good t e =
    let l = lifted3 (λ client line answer. acts.Answer (record { 0 = client }) line answer) (number_below 256 a) (number_below (2 ^ 32) b) (answer_of holder answer) act e in
    let g1 = both (is_word a) (list_all is_word (b ∷ answer)) good in
    let g2 = both (is_word b) (list_all is_word answer) g1.1 in
    let m = number_spelled 256 a l.0 l.1.1.1.0 in
    let n = number_spelled (2 ^ 32) b l.1.0 l.1.1.1.1.0 in
    let r = answer_back holder tids answer l.1.1.0 g2.1 l.1.1.1.1.1.0 in
    subst (ActTold holder (word ∷ a ∷ b ∷ answer)) l.1.1.1.1.1.1
    (record {
      name = r.name;
      held = r.held;
      is = (m.0, (n.0, r.is));
      spelled = cons word (codes "answer") (a ∷ b ∷ answer) (decimal l.0 ∷ decimal l.1.0 ∷ answer_tokens r.name l.1.1.0) (same_bytes-true word (codes "answer") t)
          (cons a (decimal l.0) (b ∷ answer) (decimal l.1.0 ∷ answer_tokens r.name l.1.1.0) m.1 (cons b (decimal l.1.0) answer (answer_tokens r.name l.1.1.0) n.1 r.spelled));
      good = r.good;
    })

either_back : (P : Act → Type 0) (act : Act) (a b : Option Act) → (a ≡ Some act → P act) → (b ≡ Some act → P act) → either a b ≡ Some act → P act
either_back P act (Some x) b one other e = one e
either_back P act None b one other e = other e

pub act_back : (holder : List ℕ → Option Tid) → ((name : List ℕ) (tid : Tid) → holder name ≡ Some tid → IsTid tid) → (words : List (List ℕ)) (act : Act) → list_all is_word words ≡ true
    → act_of holder words ≡ Some act → ActTold holder words act
unfolding act_of
act_back holder tids [] act good e = cc
act_back holder tids (word ∷ rest) act good e =
    let g = both (is_word word) (list_all is_word rest) good in
    let P = ActTold holder (word ∷ rest) in
    led P (same_bytes word (codes "answer")) (answer_act holder rest) (either (short_act word rest) (member_act word rest)) act (answer_act_back holder tids word rest act g.1)
    (either_back P act (short_act word rest) (member_act word rest) (short_act_back holder word rest act g.1) (member_act_back holder word rest act g.1)) e
