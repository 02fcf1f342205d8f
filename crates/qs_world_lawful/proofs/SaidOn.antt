-- Each act leaves what was said of a transaction: it stays in the machine, it stays asked for commit, and the votes against it stay.
use Rattle.qs_world_lawful.proofs.Words.{◌≡◌, ℕ, [], ◌∷◌, Bool, true, false, List, Option, Some, None, refl, ap, subst, sym, inl, inr, ◌∙◌, fold, if◌then◌else◌, list_any-append, is_at, list_any, lookup, set_value, is_some, slice_get, ⊤, tid_exact, tid_cmp, ClientNo, Member, Outcome, Tid, Act, Found, is_client_no, Cause, Op, Reason, Vote, BookValue, begin, crosses, find_transaction, give_back_from, hear, inc_at, loan_to, serve_node, waiting_of, with_crossing, with_owner, with_transaction}
use Rattle.qs_world_lawful.proofs.Words.{with_waiting, doubts_after, learn_node, end_node, borrower_at, link_to, effect_act, abort_begun, begun_at, begun_tid, commit_found, count_of, is_among, is_open_here, learn_found, member_at, put_new_votes, record_at, restart, up_to, vote_found, TransactionValue, decided_at, found_at, has_refusal, issued, learnt, voted, with_learnt, Request, RequestNo, Either, changed_either, lookup_put_apart, at_exact}
use Rattle.qs_base.specs.declared.identifiers.Outcome.TheVariants as outcomes
use Rattle.qs_book_journal.specs.declared.entry.Act.TheVariants as acts
use Rattle.qs_ops.specs.Servers.{audit_no, extra_no, files_no}
use Rattle.qs_ops.specs.declared.answer.Cause.TheVariants as causes
use Rattle.qs_ops.specs.declared.vote.Vote.TheVariants as votes
use Rattle.qs_book_machine.specs.Book.{answer, decide, issue, vote_here, with_node}
use Rattle.qs_book_machine.specs.Restart.{restart_found}
use Rattle.qs_book_machine.specs.Transaction.{is_refusal}
use Rattle.qs_world_lawful.proofs.Truths.{of_some}

-- of one transaction
pub record SaysMore (tx later : TransactionValue) : Type 0 where
  pub asked : is_some tx.asked ≡ true → is_some later.asked ≡ true
  pub refused : (member : Member) (reason : Reason) → has_refusal tx member reason ≡ true → has_refusal later member reason ≡ true

abbrev pub HasSaidMore : Option TransactionValue → TransactionValue → Type 0
HasSaidMore o tx = (later : TransactionValue) × (o ≡ Some later) × SaysMore tx later

abbrev pub SaidOn : BookValue → BookValue → Type 0
SaidOn old new = (tid : Tid) (tx : TransactionValue) → find_transaction old tid ≡ Some tx → HasSaidMore (find_transaction new tid) tx

still : (tx : TransactionValue) → SaysMore tx tx
still tx = record { asked = λ is. is; refused = λ member reason is. is }

pub said_self : (book : BookValue) → SaidOn book book
said_self book tid tx found = (tx, found, still tx)

pub said_then : (old mid new : BookValue) → SaidOn old mid → SaidOn mid new → SaidOn old new
said_then old mid new a b tid tx found =
    let p : HasSaidMore (find_transaction mid tid) tx = a tid tx found in
    let q : HasSaidMore (find_transaction new tid) p.0 = b tid p.0 p.1 in
    (q.0, q.1, record { asked = λ is. q.2.asked (p.2.asked is); refused = λ member reason is. q.2.refused member reason (p.2.refused member reason is) })

-- a change that takes nothing back
transaction_said : (tid : Tid) (f : TransactionValue → TransactionValue) → ((tx : TransactionValue) → SaysMore tx (f tx)) → (book : BookValue) → SaidOn book (with_transaction tid f book)
transaction_said tid f keeps book t tx found = by (find_transaction book tid) refl
  where
    at : (v : TransactionValue) → Either (find_transaction book t) (find_transaction (with_transaction tid f book) t) v (f v) → HasSaidMore (find_transaction (with_transaction tid f book) t) tx
    at v (inl same) = (tx, same ∙ found, still tx)
    at v (inr now) = (f v, now.1, subst (λ (x : TransactionValue). SaysMore x (f v)) (of_some (sym now.0 ∙ found)) (keeps v))

    by : (o : Option TransactionValue) → find_transaction book tid ≡ o → HasSaidMore (find_transaction (with_transaction tid f book) t) tx
    by None is = (tx, none_changed is ∙ found, still tx)
      where
        none_changed : find_transaction book tid ≡ None → find_transaction (with_transaction tid f book) t ≡ find_transaction book t
        none_changed e = subst (λ (o : Option TransactionValue). lookup (is_at (tid_cmp t)) (elim o [ None ↦ book.transactions | Some v ↦ set_value (is_at (tid_cmp tid)) book.transactions (f v) ]) ≡ find_transaction book t) (sym e) refl
    by (Some v) is = at v (changed_either (is_at (tid_cmp tid)) (is_at (tid_cmp t)) f book.transactions v is)

same : (tx now : TransactionValue) → now.asked ≡ tx.asked → now.refusals ≡ tx.refusals → SaysMore tx now
same tx now a r = record { asked = λ is. ap (λ (o : Option ℕ). is_some o) a ∙ is; refused = λ member reason is. ap (λ rs. list_any (is_refusal member reason) rs) r ∙ is }

if_said : (b : Bool) (old x y : BookValue) → SaidOn old x → SaidOn old y → SaidOn old (if b then x else y)
if_said true old x y p q = p
if_said false old x y p q = q

fold_said : {A : Type 0} (f : BookValue → A → BookValue) → ((book : BookValue) (x : A) → SaidOn book (f book x)) → (xs : List A) (book : BookValue) → SaidOn book (fold f book xs)
fold_said f each [] book = said_self book
fold_said f each (x ∷ xs) book = said_then book (f book x) (fold f (f book x) xs) (each book x) (fold_said f each xs (f book x))

-- ---- changes that are of one act

vote_said : (member : Member) (inc : ℕ) (ballot : Vote) (tx : TransactionValue) → SaysMore tx (voted member inc ballot tx)
vote_said member inc (votes.Abort reason) tx = record { asked = λ is. is; refused = λ m r is. list_any-append (is_refusal m r) tx.refusals (record { member = member; reason = reason } ∷ []) ∙ rw is refl }
vote_said member inc votes.ReadOnly tx = record { asked = λ is. is; refused = λ m r is. is }
vote_said member inc votes.Volatile tx = record { asked = λ is. is; refused = λ m r is. is }
vote_said member inc votes.Recoverable tx = record { asked = λ is. is; refused = λ m r is. is }

learn_said : (member : Member) (inc : ℕ) (outcome : Outcome) (tx : TransactionValue) → SaysMore tx (learnt member inc outcome tx)
learn_said member inc outcomes.Commit tx = record { asked = λ is. is; refused = λ m r is. is }
learn_said member inc outcomes.Abort tx = record { asked = λ is. is; refused = λ m r is. is }

plain_said : (tid : Tid) (f : TransactionValue → TransactionValue) → ((tx : TransactionValue) → (f tx).asked ≡ tx.asked) → ((tx : TransactionValue) → (f tx).refusals ≡ tx.refusals) → (book : BookValue) → SaidOn book (with_transaction tid f book)
plain_said tid f asked refusals book = transaction_said tid f (λ tx. same tx (f tx) (asked tx) (refusals tx)) book

waiting_said : (tid : Tid) (issuer member : Member) (book : BookValue) → SaidOn book (with_waiting tid issuer member book)
waiting_said tid issuer member book = if_said (is_client_no issuer.server.0) book _ _ (said_self book) (said_self book)

crossing_said : (b : Bool) (tid : Tid) (member : Member) (book : BookValue) → SaidOn book (with_crossing b tid member book)
crossing_said true tid member book = said_self book
crossing_said false tid member book = said_self book

by_issue : (here : ℕ) (tid : Tid) (issuer member : Member) (number : ℕ) (op : Op) (book : BookValue) → SaidOn book (issue here tid issuer member number op book)
by_issue here tid issuer member number op book =
    let at : RequestNo = record { link = link_to here member; number = number } in
    let request : Request = record { issuer = issuer; member = member; op = op; inc = inc_at book (record { 0 = here }); served = false } in
    let f : TransactionValue → TransactionValue = issued at request (inc_at book member.node) book.place in
    let one : BookValue = with_transaction tid f book in
    let two : BookValue = with_waiting tid issuer member one in
    said_then book two (with_crossing (crosses (find_transaction book tid) at member) tid member two) (said_then book one two (plain_said tid f (λ tx. refl) (λ tx. refl) book) (waiting_said tid issuer member one))
    (crossing_said (crosses (find_transaction book tid) at member) tid member two)

by_answer : (client : ClientNo) (line : ℕ) (book : BookValue) → SaidOn book (answer client line book)
by_answer client line book = fold_said hear (λ b ask. plain_said ask.tid _ (λ tx. refl) (λ tx. refl) b) (waiting_of (slice_get book.owners client.0)) (with_owner client.0 (λ owner. record owner { line = line; waiting = [] }) book)

lent_said : (inc : ℕ) (tid : Tid) (o : Option Member) (book : BookValue) → SaidOn book (loan_to inc tid o book)
lent_said inc tid None book = said_self book
lent_said inc tid (Some member) book = plain_said tid _ (λ tx. refl) (λ tx. refl) book

given_said : (inc : ℕ) (tid : Tid) (o : Option Member) (book : BookValue) → SaidOn book (give_back_from inc tid o book)
given_said inc tid None book = said_self book
given_said inc tid (Some member) book = plain_said tid _ (λ tx. refl) (λ tx. refl) book

decide_said : (tid : Tid) (outcome : Outcome) (cause : Option Cause) (book : BookValue) → SaidOn book (decide tid outcome cause book)
decide_said tid outcome cause book = plain_said tid (decided_at book.place outcome cause) (λ tx. refl) (λ tx. refl) book

-- a begin, where it is new
by_begin : (here : ℕ) (tid : Tid) (label : List ℕ) (client : ClientNo) (book : BookValue) → find_transaction book tid ≡ None → SaidOn book (begin here tid label client book)
by_begin here tid label client book none t tx found = by (is_at (tid_cmp t) tid) refl
  where
    clash : {X : Type 0} → Some tx ≡ None → X
    clash e = absurd (cc e)

    by : (b : Bool) → is_at (tid_cmp t) tid ≡ b → HasSaidMore (find_transaction (begin here tid label client book) t) tx
    by true same = clash (sym found ∙ (ap (find_transaction book) (at_exact t tid same) ∙ none))
    by false other = (tx, lookup_put_apart tid_cmp tid _ (tid_exact tid) (is_at (tid_cmp t)) other book.transactions ∙ found, still tx)

-- ---- a restart

learn_found_said : (here : ℕ) (tid : Tid) (server : ℕ) (book : BookValue) → SaidOn book (learn_found here tid server book)
learn_found_said here tid server book = if_said (is_some (record_at here book tid server)) book _ _ (plain_said tid (with_learnt (member_at here server)) (λ tx. refl) (λ tx. refl) book) (said_self book)

commit_found_said : (here : ℕ) (book : BookValue) (tid : Tid) → SaidOn book (commit_found here book tid)
commit_found_said here book tid =
    let zeroth : BookValue = learn_found here tid files_no book in
    let first : BookValue = learn_found here tid audit_no zeroth in
    let sixth : BookValue = learn_found here tid extra_no first in
    said_then book zeroth (commit_found here book tid) (learn_found_said here tid files_no book) (said_then zeroth first (commit_found here book tid) (learn_found_said here tid audit_no zeroth) (said_then first sixth (commit_found here book tid) (learn_found_said here tid extra_no first)
    (if_said (is_open_here here tid (find_transaction sixth tid)) sixth (decide tid outcomes.Commit None sixth) sixth (decide_said tid outcomes.Commit None sixth) (said_self sixth))))

vote_found_said : (here inc : ℕ) (done : List Tid) (book : BookValue) (found : Found) → SaidOn book (vote_found here inc done book found)
vote_found_said here inc done book found = if_said (is_among done found.tid) book book _ (said_self book) (plain_said found.tid (found_at (member_at here found.server.0) inc found.covers (count_of (record_at here book found.tid found.server.0))) (λ tx. refl) (λ tx. refl) book)

abort_said : (here inc : ℕ) (book : BookValue) (seq : ℕ) → SaidOn book (abort_begun here inc book seq)
abort_said here inc book seq = if_said (is_open_here here (begun_tid here inc seq) (find_transaction book (begun_tid here inc seq))) book (decide (begun_tid here inc seq) outcomes.Abort (Some (causes.Home inc)) book) book
    (decide_said (begun_tid here inc seq) outcomes.Abort (Some (causes.Home inc)) book) (said_self book)

by_restart : (here inc : ℕ) (pend : List Found) (done : List Tid) (book : BookValue) → SaidOn book (restart here inc pend done book)
by_restart here inc pend done book = found (put_new_votes here pend book)
  where
    found : (opened : BookValue) → SaidOn opened (restart_found here inc pend done opened)
    found opened =
        let one : BookValue = fold (commit_found here) opened done in
        let two : BookValue = fold (vote_found here inc done) one pend in
        said_then opened one (restart_found here inc pend done opened) (fold_said (commit_found here) (commit_found_said here) done opened)
        (said_then one two (restart_found here inc pend done opened) (fold_said (vote_found here inc done) (vote_found_said here inc done) pend one)
        (fold_said (abort_begun here (inc_at opened (record { 0 = here }))) (abort_said here (inc_at opened (record { 0 = here }))) (up_to (begun_at here opened)) two))

-- ---- each act

abbrev pub IsNew : BookValue → Act → Type 0
IsNew book (acts.Begin tid label client) = find_transaction book tid ≡ None
IsNew book act = ⊤

pub acted_said : (stamp here : ℕ) (act : Act) (book : BookValue) → IsNew book act → SaidOn book (effect_act stamp here act book)
acted_said stamp here (acts.Begin tid label client) book new = by_begin here tid label client book new
acted_said stamp here (acts.Issue tid issuer member number op) book new = by_issue here tid issuer member number op book
acted_said stamp here (acts.Serve tid member from number reply) book new =
    plain_said tid _ (λ tx. refl) (λ tx. refl) (with_node here (serve_node (find_transaction book tid) (record { link = record { from = from; to = member.node }; number = number }) tid member reply) book)
acted_said stamp here (acts.Vote tid member ballot covers) book new = transaction_said tid (voted member (inc_at book (record { 0 = here })) ballot) (vote_said member (inc_at book (record { 0 = here })) ballot) (vote_here here tid member ballot covers (find_transaction book tid) book)
acted_said stamp here (acts.Ask tid) book new = transaction_said tid _ (λ tx. record { asked = λ is. refl; refused = λ m r is. is }) book
acted_said stamp here (acts.Counted tid peer up_to) book new = plain_said tid _ (λ tx. refl) (λ tx. refl) book
acted_said stamp here (acts.Decide tid outcome cause) book new = decide_said tid outcome cause book
acted_said stamp here (acts.Ending tid member) book new = plain_said tid _ (λ tx. refl) (λ tx. refl) (with_node here (end_node tid) book)
acted_said stamp here (acts.Learn tid member outcome) book new =
    transaction_said tid (learnt member (inc_at book (record { 0 = here })) outcome) (learn_said member (inc_at book (record { 0 = here })) outcome)
    (with_node here (λ node. doubts_after tid member.server.0 (learn_node outcome tid member.server.0 node)) book)
acted_said stamp here (acts.Answer client line said) book new = by_answer client line book
acted_said stamp here (acts.Loan tid client) book new = lent_said _ tid (borrower_at client here) book
acted_said stamp here (acts.Yield tid client) book new = given_said _ tid (borrower_at client here) book
acted_said stamp here acts.Tick book new = said_self book
acted_said stamp here (acts.Crash cause) book new = said_self book
acted_said stamp here (acts.Restart inc pend done) book new = by_restart here inc pend done book
