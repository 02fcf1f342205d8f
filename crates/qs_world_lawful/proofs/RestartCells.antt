-- What a restart decides: what its log has committed is committed, and of what began in the incarnation that ended the rest is aborted.
use Rattle.qs_world_lawful.proofs.Words.{◌≡◌, ◌⊎◌, inl, inr, ℕ, ◌==◌, ◌&&◌, ◌≤◌, zero, suc, Bool, true, false, List, [], ◌∷◌, Option, Some, None, fold, refl, sym, ap, subst, ◌∙◌, arith, if◌then◌else◌, is_some, nat_tests, fold-append, lookup, set_value, slice_get, is_at, same_tid, tid_cmp, same_tid-true, Member, Outcome, Tid, changed_either, changed_none, lookup_changed, BookValue, cell_of_transaction, find_transaction, with_transaction, is_recoverable, abort_begun, begun_tid, commit_found}
use Rattle.qs_world_lawful.proofs.Words.{is_among, is_open_here, learn_found, member_at, record_at, up_to, TransactionValue, cell_of, decided_at, has_learnt, is_open, with_learnt, Cell, Cause, Every, eqb_turned, eqb-true, and_right}
use Rattle.qs_base.specs.declared.identifiers.Outcome.TheVariants as outcomes
use Rattle.qs_book_machine.specs.Book.{decide}
use Rattle.qs_book_machine.specs.Nodes as machine
use Rattle.qs_book_machine.specs.Transaction as transaction
use Rattle.qs_book_machine.specs.declared.transaction.Cell.TheVariants as cells
use Rattle.qs_ops.specs.Servers.{audit_no, extra_no, files_no}
use Rattle.qs_world_lawful.proofs.LearntOn.{has_learnt_now}
use Rattle.qs_world_lawful.proofs.RestartGoes.{Goes, Onward, on_self, on_then, on_fold, on_if, commit_on, abort_on, learn_on, decide_on}

-- ---- not open at its home

-- it is not open, where the home is here
abbrev pub Shut : ℕ → Tid → BookValue → Type 0
Shut here tid book = is_open_here here tid (find_transaction book tid) ≡ false

pub shut_on : (here : ℕ) (P : Member → ℕ → Type 0) (tid : Tid) (old new : BookValue) → Onward here P old new → Shut here tid old → Shut here tid new
shut_on here P tid old new on shut = by (find_transaction old tid) refl shut
  where
    by : (o : Option TransactionValue) → find_transaction old tid ≡ o → is_open_here here tid o ≡ false → Shut here tid new
    by None found is = rw (on.none tid found) refl
    by (Some tx) found is =
        let p = on.goes tid tx found in
        rw (p.1) (at p.0 p.2)
      where
        at : (later : TransactionValue) → Goes here P old.place tid tx later → ((tid.home.0 == here) && is_open later.cell) ≡ false
        at later g = home (tid.home.0 == here) refl is
          where
            home : (b : Bool) → (tid.home.0 == here) ≡ b → (b && is_open tx.cell) ≡ false → (b && is_open later.cell) ≡ false
            home false far s = refl
            home true near s = ap is_open (g.decided s) ∙ s

decided_shut : (outcome : Outcome) → is_open (cell_of outcome) ≡ false
decided_shut outcomes.Commit = refl
decided_shut outcomes.Abort = refl

-- once it is decided
shut_now : (here : ℕ) (tid : Tid) (outcome : Outcome) (cause : Option Cause) (book : BookValue) → Shut here tid (if is_open_here here tid (find_transaction book tid) then decide tid outcome cause book else book)
shut_now here tid outcome cause book = by (is_open_here here tid (find_transaction book tid)) refl (find_transaction book tid) refl
  where
    by : (b : Bool) → is_open_here here tid (find_transaction book tid) ≡ b → (o : Option TransactionValue) → find_transaction book tid ≡ o → Shut here tid (if b then decide tid outcome cause book else book)
    by false is o found = is
    by true is None found = absurd (none is)
      where
        none : is_open_here here tid (find_transaction book tid) ≡ true → ⊥
        none e = cc (sym (ap (is_open_here here tid) found) ∙ e)
    by true is (Some tx) found = ap (is_open_here here tid) (lookup_changed (is_at (tid_cmp tid)) (decided_at book.place outcome cause) book.transactions tx found) ∙ and_right (tid.home.0 == here) _ (decided_shut outcome)

commit_shut : (here : ℕ) (P : Member → ℕ → Type 0) (tid : Tid) (book : BookValue) → Shut here tid (commit_found here book tid)
commit_shut here P tid book = shut_now here tid outcomes.Commit None (learn_found here tid extra_no (learn_found here tid audit_no (learn_found here tid files_no book)))

abbrev any_tid : List Tid → Type 0
any_tid tids = Every (λ (tid : Tid). tid ≡ tid) tids

all_tids : (tids : List Tid) → any_tid tids
all_tids [] = tt
all_tids (t ∷ ts) = (refl, all_tids ts)

pub commits_on : (here : ℕ) (P : Member → ℕ → Type 0) (done : List Tid) (book : BookValue) → Onward here P book (fold (commit_found here) book done)
commits_on here P done book = on_fold here P (λ (tid : Tid). tid ≡ tid) (commit_found here) (λ b tid is. commit_on here P b tid) done (all_tids done) book

pub commits_shut : (here : ℕ) (P : Member → ℕ → Type 0) (tid : Tid) (done : List Tid) (book : BookValue) → is_among done tid ≡ true → Shut here tid (fold (commit_found here) book done)
commits_shut here P tid [] book is = absurd (cc is)
commits_shut here P tid (t ∷ done) book is = by (same_tid tid t) refl (commits_shut here P tid done (commit_found here book t))
  where
    by : (b : Bool) → same_tid tid t ≡ b → (is_among done tid ≡ true → Shut here tid (fold (commit_found here) (commit_found here book t) done)) → Shut here tid (fold (commit_found here) (commit_found here book t) done)
    by true same more = shut_on here P tid (commit_found here book t) (fold (commit_found here) (commit_found here book t) done) (commits_on here P done (commit_found here book t))
        (subst (λ (u : Tid). Shut here tid (commit_found here book u)) (same_tid-true tid t same) (commit_shut here P tid book))
    by false far more = more (rw far at is)

-- ---- what was begun in the incarnation that ended

any_no : (ns : List ℕ) → Every (λ (n : ℕ). n ≡ n) ns
any_no [] = tt
any_no (n ∷ ns) = (refl, any_no ns)

pub aborts_on : (here : ℕ) (P : Member → ℕ → Type 0) (old : ℕ) (seqs : List ℕ) (book : BookValue) → Onward here P book (fold (abort_begun here old) book seqs)
aborts_on here P old seqs book = on_fold here P (λ (n : ℕ). n ≡ n) (abort_begun here old) (λ b seq is. abort_on here P old b seq) seqs (any_no seqs) book

pub aborts_shut : (here : ℕ) (P : Member → ℕ → Type 0) (old : ℕ) (tid : Tid) (n : ℕ) (book : BookValue) → tid.home.0 ≡ here → tid.inc ≡ old → 1 ≤ tid.seq → tid.seq ≤ n → Shut here tid (fold (abort_begun here old) book (up_to n))
aborts_shut here P old tid zero book home is_old low high = absurd (none low high)
  where
    none : {k : ℕ} → 1 ≤ k → k ≤ 0 → ⊥
    none {k} a b = grind (arith, a, b)
aborts_shut here P old tid (suc n) book home is_old low high =
    subst (Shut here tid) (sym (fold-append (abort_begun here old) book (up_to n) (suc n ∷ []))) (by (tid.seq == suc n) refl (λ less. aborts_shut here P old tid n book home is_old low less))
  where
    mid : BookValue
    mid = fold (abort_begun here old) book (up_to n)

    is_less : (k m : ℕ) → k ≤ suc m → (k == suc m) ≡ false → k ≤ m
    is_less k m e f = grind (arith, nat_tests, e, f)

    own : (m : ℕ) → m ≡ tid.seq → begun_tid here old m ≡ tid
    own m same = rw (same, sym home, sym is_old) refl

    by : (b : Bool) → (tid.seq == suc n) ≡ b → (tid.seq ≤ n → Shut here tid mid) → Shut here tid (abort_begun here old mid (suc n))
    by true last more = subst (λ (t : Tid). Shut here t (abort_begun here old mid (suc n))) (own (suc n) (eqb_turned tid.seq (suc n) last)) (shut_now here (begun_tid here old (suc n)) outcomes.Abort _ mid)
    by false other more = shut_on here P tid mid (abort_begun here old mid (suc n)) (abort_on here P old mid (suc n)) (more (is_less tid.seq n high other))

-- ---- which outcome

-- each cell is as it was, or that one
abbrev pub CellsBy : Cell → BookValue → BookValue → Type 0
CellsBy c old new = (tid : Tid) → (cell_of_transaction (find_transaction new tid) ≡ cell_of_transaction (find_transaction old tid)) ⊎ (cell_of_transaction (find_transaction new tid) ≡ Some c)

pub cells_self : (c : Cell) (book : BookValue) → CellsBy c book book
cells_self c book tid = inl refl

pub cells_then : (c : Cell) (old mid new : BookValue) → CellsBy c old mid → CellsBy c mid new → CellsBy c old new
cells_then c old mid new a b tid = by (a tid) (b tid)
  where
    by : (cell_of_transaction (find_transaction mid tid) ≡ cell_of_transaction (find_transaction old tid)) ⊎ (cell_of_transaction (find_transaction mid tid) ≡ Some c)
        → (cell_of_transaction (find_transaction new tid) ≡ cell_of_transaction (find_transaction mid tid)) ⊎ (cell_of_transaction (find_transaction new tid) ≡ Some c)
        → (cell_of_transaction (find_transaction new tid) ≡ cell_of_transaction (find_transaction old tid)) ⊎ (cell_of_transaction (find_transaction new tid) ≡ Some c)
    by p (inr q) = inr q
    by (inl p) (inl q) = inl (q ∙ p)
    by (inr p) (inl q) = inr (q ∙ p)

pub cells_changed : (c : Cell) (t : Tid) (f : TransactionValue → TransactionValue) → ((tx : TransactionValue) → ((f tx).cell ≡ tx.cell) ⊎ ((f tx).cell ≡ c)) → (book new : BookValue) → new.transactions ≡ transaction.changed_value (is_at (tid_cmp t)) f book.transactions → CellsBy c book new
cells_changed c t f each book new txs tid = by (find_transaction book t) refl
  where
    there : find_transaction new tid ≡ lookup (is_at (tid_cmp tid)) (transaction.changed_value (is_at (tid_cmp t)) f book.transactions)
    there = ap (λ (es : List (Tid × TransactionValue)). lookup (is_at (tid_cmp tid)) es) txs

    by : (o : Option TransactionValue) → find_transaction book t ≡ o → (cell_of_transaction (find_transaction new tid) ≡ cell_of_transaction (find_transaction book tid)) ⊎ (cell_of_transaction (find_transaction new tid) ≡ Some c)
    by None none = inl (ap cell_of_transaction (there ∙ subst (λ (o : Option TransactionValue). lookup (is_at (tid_cmp tid)) (elim o [ None ↦ book.transactions | Some v ↦ set_value (is_at (tid_cmp t)) book.transactions (f v) ]) ≡ find_transaction book tid) (sym none) refl))
    by (Some v) found = at (changed_either (is_at (tid_cmp t)) (is_at (tid_cmp tid)) f book.transactions v found)
      where
        at : (lookup (is_at (tid_cmp tid)) (transaction.changed_value (is_at (tid_cmp t)) f book.transactions) ≡ find_transaction book tid)
            ⊎ ((find_transaction book tid ≡ Some v) × (lookup (is_at (tid_cmp tid)) (transaction.changed_value (is_at (tid_cmp t)) f book.transactions) ≡ Some (f v)))
            → (cell_of_transaction (find_transaction new tid) ≡ cell_of_transaction (find_transaction book tid)) ⊎ (cell_of_transaction (find_transaction new tid) ≡ Some c)
        at (inl same) = inl (ap cell_of_transaction (there ∙ same))
        at (inr both) = how (each v)
          where
            now : cell_of_transaction (find_transaction new tid) ≡ Some (f v).cell
            now = ap cell_of_transaction (there ∙ both.1)

            how : ((f v).cell ≡ v.cell) ⊎ ((f v).cell ≡ c) → (cell_of_transaction (find_transaction new tid) ≡ cell_of_transaction (find_transaction book tid)) ⊎ (cell_of_transaction (find_transaction new tid) ≡ Some c)
            how (inl same) = inl (now ∙ (ap Some same ∙ sym (ap cell_of_transaction both.0)))
            how (inr is) = inr (now ∙ ap Some is)

cells_if : (b : Bool) (c : Cell) (old x y : BookValue) → CellsBy c old x → CellsBy c old y → CellsBy c old (if b then x else y)
cells_if true c old x y p q = p
cells_if false c old x y p q = q

pub cells_fold : {A : Type 0} (c : Cell) (f : BookValue → A → BookValue) → ((book : BookValue) (x : A) → CellsBy c book (f book x)) → (xs : List A) (book : BookValue) → CellsBy c book (fold f book xs)
cells_fold c f each [] book = cells_self c book
cells_fold c f each (x ∷ xs) book = cells_then c book (f book x) (fold f (f book x) xs) (each book x) (cells_fold c f each xs (f book x))

learn_cells : (c : Cell) (here : ℕ) (tid : Tid) (server : ℕ) (book : BookValue) → CellsBy c book (learn_found here tid server book)
learn_cells c here tid server book = cells_if (is_some (record_at here book tid server)) c book (with_transaction tid (with_learnt (member_at here server)) book) book (cells_changed c tid (with_learnt (member_at here server)) (λ tx. inl refl) book (with_transaction tid (with_learnt (member_at here server)) book) refl) (cells_self c book)

decide_cells : (outcome : Outcome) (tid : Tid) (cause : Option Cause) (book : BookValue) → CellsBy (cell_of outcome) book (decide tid outcome cause book)
decide_cells outcome tid cause book = cells_changed (cell_of outcome) tid (decided_at book.place outcome cause) (λ tx. inr refl) book (decide tid outcome cause book) refl

pub commit_cells : (here : ℕ) (book : BookValue) (tid : Tid) → CellsBy cells.Commit book (commit_found here book tid)
commit_cells here book tid =
    let a = learn_found here tid files_no book in
    let b = learn_found here tid audit_no a in
    let c = learn_found here tid extra_no b in
    cells_then cells.Commit book a (commit_found here book tid) (learn_cells cells.Commit here tid files_no book)
    (cells_then cells.Commit a b (commit_found here book tid) (learn_cells cells.Commit here tid audit_no a)
    (cells_then cells.Commit b c (commit_found here book tid) (learn_cells cells.Commit here tid extra_no b)
    (cells_if (is_open_here here tid (find_transaction c tid)) cells.Commit c (decide tid outcomes.Commit None c) c (decide_cells outcomes.Commit tid None c) (cells_self cells.Commit c))))

pub abort_cells : (here old : ℕ) (book : BookValue) (seq : ℕ) → CellsBy cells.Abort book (abort_begun here old book seq)
abort_cells here old book seq = cells_if (is_open_here here (begun_tid here old seq) (find_transaction book (begun_tid here old seq))) cells.Abort book _ book (decide_cells outcomes.Abort (begun_tid here old seq) _ book) (cells_self cells.Abort book)

-- ---- who learnt

-- its member learnt commit
abbrev pub Learnt : Tid → Member → BookValue → Type 0
Learnt tid member book = (tx : TransactionValue) → find_transaction book tid ≡ Some tx → has_learnt tx member ≡ true

pub learnt_stays : (here : ℕ) (P : Member → ℕ → Type 0) (tid : Tid) (member : Member) (old new : BookValue) → Onward here P old new → Learnt tid member old → Learnt tid member new
learnt_stays here P tid member old new on has tx found = by (find_transaction old tid) refl
  where
    by : (o : Option TransactionValue) → find_transaction old tid ≡ o → has_learnt tx member ≡ true
    by None none = absurd (cc (sym (on.none tid none) ∙ found))
    by (Some was) there =
        let p = on.goes tid was there in
        subst (λ (x : TransactionValue). has_learnt x member ≡ true) (some_is p.0 (sym p.1 ∙ found)) (p.2.learnt member (has was there))
      where
        some_is : (x : TransactionValue) → Some x ≡ Some tx → x ≡ tx
        some_is x e = ap (λ (o : Option TransactionValue). elim o [ None ↦ tx | Some y ↦ y ]) e

learn_now : (here : ℕ) (tid : Tid) (server : ℕ) (book : BookValue) → is_some (record_at here book tid server) ≡ true → Learnt tid (member_at here server) (learn_found here tid server book)
learn_now here tid server book some tx found = by (find_transaction book tid) refl
  where
    now : find_transaction (with_transaction tid (with_learnt (member_at here server)) book) tid ≡ Some tx
    now = subst (λ (b : Bool). find_transaction (if b then with_transaction tid (with_learnt (member_at here server)) book else book) tid ≡ Some tx) some found

    by : (o : Option TransactionValue) → find_transaction book tid ≡ o → has_learnt tx (member_at here server) ≡ true
    by None none = absurd (cc (sym (changed_none (is_at (tid_cmp tid)) (with_learnt (member_at here server)) book.transactions none) ∙ now))
    by (Some was) there = subst (λ (x : TransactionValue). has_learnt x (member_at here server) ≡ true) (some_is (with_learnt (member_at here server) was) (sym (lookup_changed (is_at (tid_cmp tid)) (with_learnt (member_at here server)) book.transactions was there) ∙ now)) (has_learnt_now (member_at here server) 0 was)
      where
        some_is : (x : TransactionValue) → Some x ≡ Some tx → x ≡ tx
        some_is x e = ap (λ (o : Option TransactionValue). elim o [ None ↦ tx | Some y ↦ y ]) e

record_same : (here : ℕ) (tid : Tid) (server : ℕ) (old new : BookValue) → new.nodes ≡ old.nodes → record_at here new tid server ≡ record_at here old tid server
record_same here tid server old new same = ap (λ (nodes : List machine.NodeValue). elim (slice_get nodes here) [ None ↦ None | Some node ↦ machine.record_of node tid server ]) same

commit_learns : (here : ℕ) (P : Member → ℕ → Type 0) (tid : Tid) (server : ℕ) (book : BookValue) → is_recoverable server ≡ true → is_some (record_at here book tid server) ≡ true → Learnt tid (member_at here server) (commit_found here book tid)
commit_learns here P tid server book kept some = by (server == files_no) (server == audit_no) refl refl
  where
    a : BookValue
    a = learn_found here tid files_no book

    b : BookValue
    b = learn_found here tid audit_no a

    c : BookValue
    c = learn_found here tid extra_no b

    to_a : Onward here P book a
    to_a = learn_on here P tid files_no book

    to_b : Onward here P a b
    to_b = learn_on here P tid audit_no a

    to_c : Onward here P b c
    to_c = learn_on here P tid extra_no b

    last : Onward here P c (commit_found here book tid)
    last = on_if (is_open_here here tid (find_transaction c tid)) here P c (decide tid outcomes.Commit None c) c (decide_on here P tid outcomes.Commit None c) (on_self here P c)

    extra : (n : ℕ) → is_recoverable n ≡ true → (n == files_no) ≡ false → (n == audit_no) ≡ false → n ≡ extra_no
    extra n k e f = grind (arith, nat_tests, k, e, f)

    by : (p q : Bool) → (server == files_no) ≡ p → (server == audit_no) ≡ q → Learnt tid (member_at here server) (commit_found here book tid)
    by true q is _ = subst (λ (n : ℕ). Learnt tid (member_at here n) (commit_found here book tid)) (sym (eqb-true server files_no is))
        (learnt_stays here P tid (member_at here files_no) a (commit_found here book tid) (on_then here P a b (commit_found here book tid) to_b (on_then here P b c (commit_found here book tid) to_c last))
        (learn_now here tid files_no book (subst (λ (n : ℕ). is_some (record_at here book tid n) ≡ true) (eqb-true server files_no is) some)))
    by false true _ is = subst (λ (n : ℕ). Learnt tid (member_at here n) (commit_found here book tid)) (sym (eqb-true server audit_no is))
        (learnt_stays here P tid (member_at here audit_no) b (commit_found here book tid) (on_then here P b c (commit_found here book tid) to_c last)
        (learn_now here tid audit_no a (ap is_some (record_same here tid audit_no book a to_a.nodes) ∙ subst (λ (n : ℕ). is_some (record_at here book tid n) ≡ true) (eqb-true server audit_no is) some)))
    by false false not_files not_audit = subst (λ (n : ℕ). Learnt tid (member_at here n) (commit_found here book tid)) (sym (extra server kept not_files not_audit))
        (learnt_stays here P tid (member_at here extra_no) c (commit_found here book tid) last
        (learn_now here tid extra_no b (ap is_some (record_same here tid extra_no a b to_b.nodes ∙ record_same here tid extra_no book a to_a.nodes) ∙ subst (λ (n : ℕ). is_some (record_at here book tid n) ≡ true) (extra server kept not_files not_audit) some)))

pub commits_learn : (here : ℕ) (P : Member → ℕ → Type 0) (tid : Tid) (server : ℕ) (done : List Tid) (book : BookValue) → is_recoverable server ≡ true → is_among done tid ≡ true → is_some (record_at here book tid server) ≡ true → Learnt tid (member_at here server) (fold (commit_found here) book done)
commits_learn here P tid server [] book kept is some = absurd (cc is)
commits_learn here P tid server (t ∷ done) book kept is some = by (same_tid tid t) refl (λ rest. commits_learn here P tid server done (commit_found here book t) kept rest (ap is_some (record_same here tid server book (commit_found here book t) (commit_on here P book t).nodes) ∙ some))
  where
    by : (b : Bool) → same_tid tid t ≡ b → (is_among done tid ≡ true → Learnt tid (member_at here server) (fold (commit_found here) (commit_found here book t) done)) → Learnt tid (member_at here server) (fold (commit_found here) (commit_found here book t) done)
    by true same more = learnt_stays here P tid (member_at here server) (commit_found here book t) (fold (commit_found here) (commit_found here book t) done) (commits_on here P done (commit_found here book t))
        (subst (λ (u : Tid). Learnt tid (member_at here server) (commit_found here book u)) (same_tid-true tid t same) (commit_learns here P tid server book kept some))
    by false far more = more (rw far at is)
