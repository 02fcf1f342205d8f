-- Each Commit that a restart finds is of a transaction whose cell is commit after it, or one that the log held as the run
-- began.
use Rattle.qs_book_laws.proofs.Words.{◌≡◌, ◌⊎◌, ℕ, [], ◌∷◌, ◌==◌, ◌&&◌, ◌||◌, Bool, true, false, List, Option, Some, None, fold, inl, inr, refl, sym, ap, subst, ◌∙◌, if◌then◌else◌, is_some, list_all, AllByRecursion, lookup, option_map, is_at, tid_cmp, Tid, TransactionValue, is_open, is_commit, is_unanimous, decided_at, with_learnt, Cell, BookValue, find_transaction, cell_of_transaction, with_transaction, decide, NodeValue, is_among, member_at, record_at, is_open_here, learn_found, decide_found}
use Rattle.qs_book_laws.proofs.Words.{commit_found, is_found_commit, IsCommitted}
use Rattle.qs_base.specs.declared.identifiers.Outcome.TheVariants as outcomes
use Rattle.qs_book_machine.specs.declared.transaction.Cell.TheVariants as cells
use Rattle.qs_book_machine.specs.Restart.{is_committed}
use Rattle.qs_book_laws.proofs.Faces.{Face, face, Alike, alike_self, alike_then, transaction_alike}
use Rattle.qs_book_laws.proofs.Histories.{stays}
use Rattle.qs_book_laws.proofs.Maps.{Either, lookup_changed, changed_either}
use Rattle.qs_book_laws.proofs.Outcomes.{Inv, Kept}
use Rattle.qs_book_laws.proofs.Restarts.{Settles, settles_all, commit_settles}

-- what was committed stays so
pub commit_stays : (old new : BookValue) (tid : Tid) → Kept old new → IsCommitted old tid → IsCommitted new tid
commit_stays old new tid kept is = (stays old new tid cells.Commit kept (record { decided = refl; cell_is = is })).cell_is

-- it is committed, or open at its home here
abbrev pub MayCommit : ℕ → Tid → Option TransactionValue → Type 0
MayCommit here tid o = (cell_of_transaction o ≡ Some cells.Commit) ⊎ (is_open_here here tid o ≡ true)

-- which goes by the face alone
faced_alike : (here : ℕ) (tid : Tid) (o p : Option TransactionValue) → option_map face o ≡ option_map face p → MayCommit here tid p → MayCommit here tid o
faced_alike here tid None None e h = h
faced_alike here tid None (Some q) e h = absurd (cc e)
faced_alike here tid (Some t) None e h = absurd (cc e)
faced_alike here tid (Some t) (Some q) e h = by h
  where
    unseen : Option Face → Cell
    unseen None = cells.Open
    unseen (Some f) = f.cell

    same : t.cell ≡ q.cell
    same = ap unseen e

    by : MayCommit here tid (Some q) → MayCommit here tid (Some t)
    by (inl is) = inl (ap Some same ∙ is)
    by (inr is) = inr (ap (λ (c : Cell). (tid.home.0 == here) && is_open c) same ∙ is)

learn_alike : (here : ℕ) (tid : Tid) (server : ℕ) (book : BookValue) → Alike book (learn_found here tid server book)
learn_alike here tid server book = by (is_some (record_at here book tid server))
  where
    by : (b : Bool) → Alike book (if b then with_transaction tid (with_learnt (member_at here server)) book else book)
    by true = transaction_alike tid (with_learnt (member_at here server)) (λ tx. refl) book
    by false = alike_self book

abbrev pub learnt_all : ℕ → Tid → BookValue → BookValue
learnt_all here tid book = learn_found here tid 6 (learn_found here tid 1 (learn_found here tid 0 book))

pub all_alike : (here : ℕ) (tid : Tid) (book : BookValue) → Alike book (learnt_all here tid book)
all_alike here tid book =
    let a : BookValue = learn_found here tid 0 book in
    let b : BookValue = learn_found here tid 1 a in
    alike_then book a (learn_found here tid 6 b) (learn_alike here tid 0 book) (alike_then a b (learn_found here tid 6 b) (learn_alike here tid 1 a) (learn_alike here tid 6 b))

-- a decision here, of whatever transaction
decide_fate : (here : ℕ) (x tid : Tid) (book : BookValue) → MayCommit here tid (find_transaction book tid) → MayCommit here tid (find_transaction (decide_found here x book) tid)
decide_fate here x tid book may = by (is_open_here here x (find_transaction book x))
  where
    at : (o : Option TransactionValue) → find_transaction book x ≡ o → MayCommit here tid (find_transaction (decide x outcomes.Commit None book) tid)
    at None is = subst (λ (o : Option TransactionValue). MayCommit here tid (lookup (is_at (tid_cmp tid)) (elim o [ None ↦ book.transactions | Some v ↦ Rattle.std.specs.Map.set_value (is_at (tid_cmp x)) book.transactions (decided_at book.place outcomes.Commit None v) ]))) (sym is) may
    at (Some tx) is = either (changed_either (is_at (tid_cmp x)) (is_at (tid_cmp tid)) (decided_at book.place outcomes.Commit None) book.transactions tx is)
      where
        either : Either (find_transaction book tid) (find_transaction (decide x outcomes.Commit None book) tid) tx (decided_at book.place outcomes.Commit None tx) → MayCommit here tid (find_transaction (decide x outcomes.Commit None book) tid)
        either (inl same) = subst (λ (o : Option TransactionValue). MayCommit here tid o) (sym same) may
        either (inr now) = inl (ap cell_of_transaction now.1)

    by : (b : Bool) → MayCommit here tid (find_transaction (if b then decide x outcomes.Commit None book else book) tid)
    by true = at (find_transaction book x) refl
    by false = may

commit_fate : (here : ℕ) (x tid : Tid) (book : BookValue) → MayCommit here tid (find_transaction book tid) → MayCommit here tid (find_transaction (commit_found here book x) tid)
commit_fate here x tid book may =
    decide_fate here x tid (learnt_all here x book) (faced_alike here tid (find_transaction (learnt_all here x book) tid) (find_transaction book tid) ((all_alike here x book).faces tid) may)

-- its own decision
decide_own : (here : ℕ) (tid : Tid) (book : BookValue) → MayCommit here tid (find_transaction book tid) → IsCommitted (decide_found here tid book) tid
decide_own here tid book may = by (is_open_here here tid (find_transaction book tid)) refl may
  where
    at : (o : Option TransactionValue) → find_transaction book tid ≡ o → is_open_here here tid o ≡ true → IsCommitted (decide tid outcomes.Commit None book) tid
    at None is h = absurd (cc h)
    at (Some tx) is h = ap cell_of_transaction (lookup_changed (is_at (tid_cmp tid)) (decided_at book.place outcomes.Commit None) book.transactions tx is)

    by : (b : Bool) → is_open_here here tid (find_transaction book tid) ≡ b → MayCommit here tid (find_transaction book tid) → IsCommitted (if b then decide tid outcomes.Commit None book else book) tid
    by true is m = at (find_transaction book tid) refl is
    by false is (inl m) = m
    by false is (inr m) = absurd (cc (is, m))

commit_own : (here : ℕ) (tid : Tid) (book : BookValue) → MayCommit here tid (find_transaction book tid) → IsCommitted (commit_found here book tid) tid
commit_own here tid book may =
    decide_own here tid (learnt_all here tid book) (faced_alike here tid (find_transaction (learnt_all here tid book) tid) (find_transaction book tid) ((all_alike here tid book).faces tid) may)

-- ---- all that were found

-- it may commit, or else so does P
abbrev pub AllMay : ℕ → (Tid → Type 0) → BookValue → List Tid → Type 0
AllMay here P book tids = AllByRecursion (λ tid. MayCommit here tid (find_transaction book tid) ⊎ P tid) tids

abbrev pub AllDid : (Tid → Type 0) → BookValue → List Tid → Type 0
AllDid P book tids = AllByRecursion (λ tid. IsCommitted book tid ⊎ P tid) tids

may_over : (here : ℕ) (P : Tid → Type 0) (x : Tid) (book : BookValue) (tids : List Tid) → AllMay here P book tids → AllMay here P (commit_found here book x) tids
may_over here P x book [] all = tt
may_over here P x book (tid ∷ tids) all = (by all.0, may_over here P x book tids all.1)
  where
    by : MayCommit here tid (find_transaction book tid) ⊎ P tid → MayCommit here tid (find_transaction (commit_found here book x) tid) ⊎ P tid
    by (inl may) = inl (commit_fate here x tid book may)
    by (inr p) = inr p

pub did_all : (here : ℕ) (P : Tid → Type 0) (tids : List Tid) (book : BookValue) → Inv book → AllMay here P book tids → AllDid P (fold (commit_found here) book tids) tids
did_all here P [] book i all = tt
did_all here P (tid ∷ tids) book i all =
    let one : Settles book (commit_found here book tid) = commit_settles here book tid i in
    let rest : Settles (commit_found here book tid) (fold (commit_found here) (commit_found here book tid) tids) = settles_all (commit_found here) (λ b x. commit_settles here b x) tids (commit_found here book tid) one.moves.inv in
    (by rest.moves.kept all.0, did_all here P tids (commit_found here book tid) one.moves.inv (may_over here P tid book tids all.1))
  where
    last : BookValue
    last = fold (commit_found here) (commit_found here book tid) tids

    by : Kept (commit_found here book tid) (fold (commit_found here) (commit_found here book tid) tids) → MayCommit here tid (find_transaction book tid) ⊎ P tid → IsCommitted (fold (commit_found here) (commit_found here book tid) tids) tid ⊎ P tid
    by kept (inl may) = inl (commit_stays (commit_found here book tid) (fold (commit_found here) (commit_found here book tid) tids) tid kept (commit_own here tid book may))
    by kept (inr p) = inr p

pub did_over : (P : Tid → Type 0) (old new : BookValue) (tids : List Tid) → Kept old new → AllDid P old tids → AllDid P new tids
did_over P old new [] kept all = tt
did_over P old new (tid ∷ tids) kept all = (by all.0, did_over P old new tids kept all.1)
  where
    by : IsCommitted old tid ⊎ P tid → IsCommitted new tid ⊎ P tid
    by (inl is) = inl (commit_stays old new tid kept is)
    by (inr p) = inr p

-- what the clause of found Commits says of each
found_may : (here : ℕ) (book : BookValue) (node : NodeValue) (tid : Tid) → is_found_commit here book node tid ≡ true
    → MayCommit here tid (find_transaction book tid) ⊎ (is_among node.committed tid ≡ true)
found_may here book node tid h = by (is_among node.committed tid) refl h
  where
    of : (a b c : Bool) (tx : TransactionValue) → is_commit tx.cell ≡ a → (tid.home.0 == here) ≡ b → is_open tx.cell ≡ c → (a || ((c && b) && is_unanimous tx)) ≡ true → MayCommit here tid (Some tx)
    of true b c tx p q r is = inl (ap Some (committed tx.cell p))
      where
        committed : (cell : Cell) → is_commit cell ≡ true → cell ≡ cells.Commit
        committed cells.Commit is = refl
        committed cells.Open is = absurd (cc is)
        committed cells.Abort is = absurd (cc is)
    of false true true tx p q r is = inr (rw (q, r) refl)
    of false true false tx p q r is = absurd (cc is)
    of false false true tx p q r is = absurd (cc is)
    of false false false tx p q r is = absurd (cc is)

    at : (o : Option TransactionValue) → is_committed here tid o ≡ true → MayCommit here tid o
    at None is = absurd (cc is)
    at (Some tx) is = of (is_commit tx.cell) (tid.home.0 == here) (is_open tx.cell) tx refl refl refl is

    by : (b : Bool) → is_among node.committed tid ≡ b → (b || is_committed here tid (find_transaction book tid)) ≡ true → MayCommit here tid (find_transaction book tid) ⊎ (is_among node.committed tid ≡ true)
    by true is _ = inr is
    by false is h = inl (at (find_transaction book tid) h)

pub all_may : (here : ℕ) (book : BookValue) (node : NodeValue) (tids : List Tid) → list_all (is_found_commit here book node) tids ≡ true
    → AllMay here (λ tid. is_among node.committed tid ≡ true) book tids
all_may here book node [] h = tt
all_may here book node (tid ∷ tids) h = by (is_found_commit here book node tid) refl h (λ more. all_may here book node tids more)
  where
    by : (b : Bool) → is_found_commit here book node tid ≡ b → (b && list_all (is_found_commit here book node) tids) ≡ true
        → (list_all (is_found_commit here book node) tids ≡ true → AllMay here (λ t. is_among node.committed t ≡ true) book tids) → AllMay here (λ t. is_among node.committed t ≡ true) book (tid ∷ tids)
    by true is more rest = (found_may here book node tid is, rest more)
    by false is more rest = absurd (cc more)
