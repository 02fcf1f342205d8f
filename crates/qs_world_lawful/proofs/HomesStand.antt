-- What a node enters decides no transaction that began at another node: so what the machine has committed, the other homes have.
use Rattle.qs_world_lawful.proofs.Words.{◌≡◌, ℕ, ◌==◌, Bool, true, false, List, [], ◌∷◌, fold, Option, Some, None, refl, sym, ap, ◌∙◌, is_at, option_map, is_some, slice_get, if◌then◌else◌, tid_cmp, tid_exact, ClientNo, Outcome, Tid, Act, Found, Alike, face, changed_apart, lookup_put_apart, next_is, begin_may, held, Cause, BookValue, begin, find_transaction, inc_at, with_transaction, broken_decide, may_decide, IsLawful, book_after, broken, broken_act, broken_at, broken_node, effect, effect_act}
use Rattle.qs_world_lawful.proofs.Words.{abort_begun, begun_at, begun_tid, commit_found, count_of, is_among, is_open_here, learn_found, member_at, put_new_votes, record_at, restart, up_to, vote_found, TransactionValue, found_at, is_commit, is_open, with_learnt, Work, entries_of, entry_of, book_at, entries_so_far, HoldsHomes}
use Rattle.qs_base.specs.declared.identifiers.Outcome.TheVariants as outcomes
use Rattle.qs_book_journal.specs.declared.entry.Act.TheVariants as acts
use Rattle.qs_book_laws.proofs.Acts as of
use Rattle.qs_book_laws.proofs.Faces.{Face, face_at, transaction_alike}
use Rattle.qs_ops.specs.Servers.{audit_no, extra_no, files_no}
use Rattle.qs_ops.specs.declared.answer.Cause.TheVariants as causes
use Rattle.qs_book_machine.specs.Book.{decide}
use Rattle.qs_book_machine.specs.Clauses.{broken_outcome}
use Rattle.qs_book_machine.specs.Lawful.{is_in_order}
use Rattle.qs_book_machine.specs.Nodes.{NodeValue}
use Rattle.qs_book_machine.specs.Restart.{restart_found}
use Rattle.qs_node_step.specs.State as state
use Rattle.qs_world_lawful.specs.Beside.{is_committed_at}
use Rattle.qs_world_lawful.proofs.Apart.{Apart, apart}
use Rattle.qs_world_lawful.proofs.Truths.{clash, left_true, of_some, same_self}

-- what the machine has of transactions that began elsewhere
abbrev pub Elsewhere : ℕ → BookValue → BookValue → Type 0
Elsewhere n old new = (tid : Tid) → (tid.home.0 == n) ≡ false → face_at new tid ≡ face_at old tid

alike : (n : ℕ) (old new : BookValue) → Alike old new → Elsewhere n old new
alike n old new a tid far = a.faces tid

all : {A : Type 0} (n : ℕ) (f : BookValue → A → BookValue) → ((book : BookValue) (x : A) → Elsewhere n book (f book x)) → (xs : List A) (book : BookValue) → Elsewhere n book (fold f book xs)
all n f each [] book tid far = refl
all n f each (x ∷ xs) book tid far = all n f each xs (f book x) tid far ∙ each book x tid far

-- two transactions of which one began here and the other did not
apart_by_home : (n : ℕ) (here tid : Tid) → (here.home.0 == n) ≡ true → (tid.home.0 == n) ≡ false → Apart here tid
apart_by_home n here tid at far = apart here tid (λ e. clash (sym far ∙ (ap (λ (t : Tid). t.home.0 == n) (sym e) ∙ at)))

-- ---- a decision, and a begin

decided : (n : ℕ) (tid : Tid) (outcome : Outcome) (cause : Option Cause) (book : BookValue) → (tid.home.0 == n) ≡ true → Elsewhere n book (decide tid outcome cause book)
decided n tid outcome cause book at t far = ap (option_map face) (changed_apart (is_at (tid_cmp tid)) (is_at (tid_cmp t)) (apart_by_home n tid t at far).keys _ book.transactions)

begins : (n : ℕ) (tid : Tid) (label : List ℕ) (client : ClientNo) (book : BookValue) → (tid.home.0 == n) ≡ true → Elsewhere n book (begin n tid label client book)
begins n tid label client book at t far = ap (option_map face) (lookup_put_apart tid_cmp tid _ (tid_exact tid) (is_at (tid_cmp t)) (apart_by_home n tid t at far).at book.transactions)

-- ---- a restart

if_else : (n : ℕ) (b : Bool) (old x y : BookValue) → (b ≡ true → Elsewhere n old x) → Elsewhere n old y → Elsewhere n old (if b then x else y)
if_else n true old x y p q = p refl
if_else n false old x y p q = q

at_home : (n : ℕ) (tid : Tid) (o : Option TransactionValue) → is_open_here n tid o ≡ true → (tid.home.0 == n) ≡ true
at_home n tid None is = absurd (cc is)
at_home n tid (Some tx) is = left_true (tid.home.0 == n) (is_open tx.cell) is

learnt : (n : ℕ) (tid : Tid) (server : ℕ) (book : BookValue) → Elsewhere n book (learn_found n tid server book)
learnt n tid server book = if_else n (is_some (record_at n book tid server)) book (with_transaction tid (with_learnt (member_at n server)) book) book
    (λ is. alike n book (with_transaction tid (with_learnt (member_at n server)) book) (transaction_alike tid (with_learnt (member_at n server)) (λ tx. refl) book)) (λ t far. refl)

closes : (n : ℕ) (tid : Tid) (outcome : Outcome) (cause : Option Cause) (book : BookValue) → Elsewhere n book (if is_open_here n tid (find_transaction book tid) then decide tid outcome cause book else book)
closes n tid outcome cause book = if_else n (is_open_here n tid (find_transaction book tid)) book (decide tid outcome cause book) book (λ is. decided n tid outcome cause book (at_home n tid (find_transaction book tid) is)) (λ t far. refl)

commits : (n : ℕ) (book : BookValue) (tid : Tid) → Elsewhere n book (commit_found n book tid)
commits n book tid t far =
    closes n tid outcomes.Commit None (learn_found n tid extra_no (learn_found n tid audit_no (learn_found n tid files_no book))) t far
    ∙ (learnt n tid extra_no (learn_found n tid audit_no (learn_found n tid files_no book)) t far ∙ (learnt n tid audit_no (learn_found n tid files_no book) t far ∙ learnt n tid files_no book t far))

votes_found : (n inc : ℕ) (done : List Tid) (book : BookValue) (found : Found) → Elsewhere n book (vote_found n inc done book found)
votes_found n inc done book found = if_else n (is_among done found.tid) book book
    (with_transaction found.tid (found_at (member_at n found.server.0) inc found.covers (count_of (record_at n book found.tid found.server.0))) book) (λ is t far. refl)
    (alike n book _ (transaction_alike found.tid (found_at (member_at n found.server.0) inc found.covers (count_of (record_at n book found.tid found.server.0))) (λ tx. refl) book))

aborts : (n inc : ℕ) (book : BookValue) (seq : ℕ) → Elsewhere n book (abort_begun n inc book seq)
aborts n inc book seq = closes n (begun_tid n inc seq) outcomes.Abort (Some (causes.Home inc)) book

restarts : (n inc : ℕ) (pend : List Found) (done : List Tid) (book : BookValue) → Elsewhere n book (restart n inc pend done book)
restarts n inc pend done book t far = again (put_new_votes n pend book) t far
  where
    again : (opened : BookValue) → Elsewhere n opened (restart_found n inc pend done opened)
    again opened t far = all n (abort_begun n (inc_at opened (record { 0 = n }))) (aborts n (inc_at opened (record { 0 = n }))) (up_to (begun_at n opened)) (fold (vote_found n inc done) (fold (commit_found n) opened done) pend) t far
        ∙ (all n (vote_found n inc done) (votes_found n inc done) pend (fold (commit_found n) opened done) t far ∙ all n (commit_found n) (commits n) done opened t far)

-- ---- each act, and a history of one node

acted : (book : BookValue) (stamp n : ℕ) (node : NodeValue) (act : Act) → broken_act book stamp n node act ≡ None → Elsewhere n book (effect_act stamp n act book)
acted book stamp n node (acts.Begin tid label client) h = begins n tid label client book (rw ((next_is n node tid (begin_may n node book.labels tid label h)).0) (same_self n))
acted book stamp n node (acts.Issue tid issuer member number op) h = alike n book _ (of.by_issue n tid issuer member number op book)
acted book stamp n node (acts.Serve tid member from number reply) h = alike n book _ (of.by_serve n tid member from number stamp reply book)
acted book stamp n node (acts.Vote tid member ballot covers) h = alike n book _ (of.by_vote n tid member ballot covers book)
acted book stamp n node (acts.Ask tid) h = alike n book _ (of.by_ask tid book)
acted book stamp n node (acts.Counted tid peer up_to) h = alike n book _ (of.by_count n tid peer up_to book)
acted book stamp n node (acts.Decide tid outcome cause) h = decided n tid outcome cause book (its (find_transaction book tid) h)
  where
    its : (o : Option TransactionValue) → broken_decide n node book.nodes tid o stamp outcome cause ≡ None → (tid.home.0 == n) ≡ true
    its None h = absurd (cc h)
    its (Some tx) h = left_true (tid.home.0 == n) (is_open tx.cell) (held (may_decide n tid tx) 70 (broken_outcome node book.nodes tid tx stamp outcome cause) h).0
acted book stamp n node (acts.Ending tid member) h = alike n book _ (of.by_end n tid member book)
acted book stamp n node (acts.Learn tid member outcome) h = alike n book _ (of.by_learn n tid member outcome book)
acted book stamp n node (acts.Answer client line said) h = alike n book _ (of.by_answer client line book)
acted book stamp n node (acts.Loan tid client) h = alike n book _ (of.by_loan n tid client book)
acted book stamp n node (acts.Yield tid client) h = alike n book _ (of.by_yield n tid client book)
acted book stamp n node acts.Tick h = alike n book _ (of.by_tick n stamp book)
acted book stamp n node (acts.Crash cause) h = alike n book _ (of.by_crash n book)
acted book stamp n node (acts.Restart inc pend done) h = restarts n inc pend done book

node_acted : (book : BookValue) (stamp n : ℕ) (node : NodeValue) (act : Act) → broken_node book stamp n node act ≡ None → Elsewhere n book (effect_act stamp n act book)
node_acted book stamp n node (acts.Restart inc pend done) h = restarts n inc pend done book
node_acted book stamp n node act h = acted book stamp n node act (held node.up 2 (broken_act book stamp n node act) h).1

entered : (book : BookValue) (n stamp : ℕ) (act : Act) → broken book (entry_of n stamp act) ≡ None → Elsewhere n book (effect book (entry_of n stamp act))
entered book n stamp act h t far = by (slice_get book.nodes n) (held (is_in_order book (entry_of n stamp act)) 1 (broken_at book stamp n (slice_get book.nodes n) act) h).1 t far
  where
    by : (o : Option NodeValue) → broken_at book stamp n o act ≡ None → Elsewhere n book (effect_act stamp n act book)
    by None h = absurd (cc h)
    by (Some node) h = node_acted book stamp n node act h

pub elsewhere_all : (n stamp : ℕ) (acts : List Act) (book : BookValue) → IsLawful book (entries_of n stamp acts) → Elsewhere n book (book_after book (entries_of n stamp acts))
elsewhere_all n stamp [] book h t far = refl
elsewhere_all n stamp (act ∷ acts) book h t far = elsewhere_all n stamp acts (effect book (entry_of n stamp act)) h.1 t far ∙ entered book n stamp act h.0 t far

-- ---- so what the other homes have committed stands at each stage of a step

pub homes_stand : (stamp : ℕ) (before : BookValue) (size : ℕ) (nodes : ℕ → state.NodeValue) (n : ℕ) (work : Work) → (state.here work).0 ≡ n → IsLawful before (entries_so_far stamp work) → HoldsHomes before size nodes n → HoldsHomes (book_at stamp before work) size nodes n
homes_stand stamp before size nodes n work at lawful h tid tx found committed in_run far = by (find_transaction before tid) refl same
  where
    far_here : (tid.home.0 == (state.here work).0) ≡ false
    far_here = ap (λ (i : ℕ). tid.home.0 == i) at ∙ far

    same : option_map face (find_transaction before tid) ≡ Some (face tx)
    same = sym (elsewhere_all (state.here work).0 stamp work.out.entries before lawful tid far_here) ∙ ap (option_map face) found

    by : (o : Option TransactionValue) → find_transaction before tid ≡ o → option_map face o ≡ Some (face tx) → is_committed_at (nodes tid.home.0) tid ≡ true
    by None was e = absurd (cc e)
    by (Some old) was e = h tid old was (ap (λ (f : Face). is_commit f.cell) (of_some e) ∙ committed) in_run far
