-- A cell becomes commit only where the transaction is unanimous.
use Rattle.qs_book_laws.proofs.Words.{◌≡◌, ◌⊎◌, inl, inr, ℕ, Bool, true, false, List, [], ◌∷◌, ◌++◌, ◌==◌, ◌&&◌, ◌||◌, Option, Some, None, refl, sym, ap, subst, ◌∙◌, fold, if◌then◌else◌, slice_get, list_all, option_map, lookup, set_value, is_at, Equal, tid_cmp, same_tid, ClientNo, Tid, same_tid-true, same_tid-self, Cause, Act, Begin, Issue, Serve, Ask, Counted, Decide, Ending, Learn, Loan, Yield, Tick, Crash, Restart, Entry, Found, TransactionValue, is_open, is_commit, is_unanimous, decided_at}
use Rattle.qs_book_laws.proofs.Words.{found_at, begun, BookValue, find_transaction, cell_of_transaction, with_transaction, decide, begin, ticks_at, inc_at, broken_decide, may_decide, broken_outcome, is_in_order, broken_act, broken_node, broken_at, broken, effect_act, effect, IsLawful, book_after, NodeValue, opening, is_among, member_at, is_open_here, commit_found, vote_found, begun_tid, abort_begun, up_to, begun_at, put_new_votes, restart, is_found_commit, broken_restart, record_at}
use Rattle.qs_book_laws.proofs.Words.{count_of as pending_of, Opened, IsCommitted, IsCoherent}
use Rattle.qs_base.specs.declared.identifiers.Outcome.TheVariants as outcomes
use Rattle.qs_ops.specs.declared.answer.Cause.TheVariants as causes
use Rattle.qs_book_journal.specs.declared.entry.Act.TheVariants.{Answer}
use Rattle.qs_book_journal.specs.declared.entry.Act.TheVariants as acts
use Rattle.qs_book_machine.specs.declared.transaction.Cell.TheVariants as cells
use Rattle.qs_book_machine.specs.Restart.{is_committed}
use Rattle.qs_book_laws.proofs.Acts as alike
use Rattle.qs_book_laws.proofs.Alikes.{at_exact, tid_itself}
use Rattle.qs_book_laws.proofs.Committed.{ran_shut}
use Rattle.qs_book_laws.proofs.Faces.{Face, face, Alike, alike_self, alike_then, transaction_alike, either_alike}
use Rattle.qs_book_laws.proofs.Fates.{learnt_all, all_alike}
use Rattle.qs_book_laws.proofs.Holding.{clash, left_of, right_of, same_number}
use Rattle.qs_book_laws.proofs.Maps.{Either, changed_either, changed_apart, lookup_put, lookup_put_apart}
use Rattle.qs_book_laws.proofs.Openings.{opening_holds}
use Rattle.qs_book_laws.proofs.Reopens.{restart_commits}
use Rattle.qs_book_laws.proofs.Shut.{Shut, IsShut}
use Rattle.qs_book_laws.proofs.ShutOpenings.{opening_shut}
use Rattle.qs_book_laws.proofs.Steps.{held, unheld, lawful_front, lawful_rest}
use Rattle.qs_book_laws.proofs.Stills.{facet}

-- ---- cells

cell_by_face : (o p : Option TransactionValue) → option_map face o ≡ option_map face p → cell_of_transaction o ≡ cell_of_transaction p
cell_by_face None None e = refl
cell_by_face None (Some q) e = absurd (cc e)
cell_by_face (Some t) None e = absurd (cc e)
cell_by_face (Some t) (Some q) e = let same : face t ≡ face q = cc e in ap (λ (f : Face). Some f.cell) same

-- what is committed after a step that leaves what the laws see was so before
pub alike_back : (old new : BookValue) (tid : Tid) → Alike old new → IsCommitted new tid → IsCommitted old tid
alike_back old new tid a is = cell_by_face (find_transaction old tid) (find_transaction new tid) (sym (a.faces tid)) ∙ is

open_clash : (o : Option TransactionValue) → cell_of_transaction o ≡ Some cells.Open → cell_of_transaction o ≡ Some cells.Commit → ⊥
open_clash o p q = absurd (cc (sym p ∙ q))

-- ---- decisions

module _ (x tid : Tid) (cause : Option Cause) (book : BookValue) where
  apart : is_at (tid_cmp x) tid ≡ false → (k : Tid) → is_at (tid_cmp tid) k ≡ true → is_at (tid_cmp x) k ≡ false
  apart other k is = subst (λ (t : Tid). is_at (tid_cmp x) t ≡ false) (at_exact tid k is) other

  commit_back : IsCommitted (decide x outcomes.Commit cause book) tid → IsCommitted book tid ⊎ (x ≡ tid)
  commit_back is = by (is_at (tid_cmp x) tid) refl
    where
      by : (b : Bool) → is_at (tid_cmp x) tid ≡ b → IsCommitted book tid ⊎ (x ≡ tid)
      by true same = inr (at_exact x tid same)
      by false other = inl (ap cell_of_transaction (sym (changed_apart (is_at (tid_cmp x)) (is_at (tid_cmp tid)) (apart other) (decided_at book.place outcomes.Commit cause) book.transactions)) ∙ is)

  abort_back : IsCommitted (decide x outcomes.Abort cause book) tid → IsCommitted book tid
  abort_back is = by (find_transaction book x) refl
    where
      at : (tx : TransactionValue) → Either (find_transaction book tid) (find_transaction (decide x outcomes.Abort cause book) tid) tx (decided_at book.place outcomes.Abort cause tx) → IsCommitted book tid
      at tx (inl same) = ap cell_of_transaction (sym same) ∙ is
      at tx (inr now) = absurd (cc (sym (ap cell_of_transaction now.1) ∙ is))

      by : (o : Option TransactionValue) → find_transaction book x ≡ o → IsCommitted book tid
      by None none =
          subst (λ (o : Option TransactionValue). cell_of_transaction (lookup (is_at (tid_cmp tid)) (elim o [ None ↦ book.transactions | Some v ↦ set_value (is_at (tid_cmp x)) book.transactions (decided_at book.place outcomes.Abort cause v) ])) ≡ Some cells.Commit) none is
      by (Some tx) found = at tx (changed_either (is_at (tid_cmp x)) (is_at (tid_cmp tid)) (decided_at book.place outcomes.Abort cause) book.transactions tx found)

-- ---- a restart

-- it was committed, or its Commit is among these
abbrev pub Decides : BookValue → List Tid → Tid → Type 0
Decides book tids tid = IsCommitted book tid ⊎ (is_among tids tid ≡ true)

module _ (here : ℕ) (tid : Tid) where
  found_back : (book : BookValue) (x : Tid) → IsCommitted (commit_found here book x) tid → IsCommitted book tid ⊎ (x ≡ tid)
  found_back book x is = by (is_open_here here x (find_transaction learnt x)) is
    where
      learnt : BookValue
      learnt = learnt_all here x book

      before : IsCommitted learnt tid → IsCommitted book tid
      before was = alike_back book learnt tid (all_alike here x book) was

      at : IsCommitted learnt tid ⊎ (x ≡ tid) → IsCommitted book tid ⊎ (x ≡ tid)
      at (inl was) = inl (before was)
      at (inr same) = inr same

      by : (b : Bool) → IsCommitted (if b then decide x outcomes.Commit None learnt else learnt) tid → IsCommitted book tid ⊎ (x ≡ tid)
      by true now = at (commit_back x tid None learnt now)
      by false now = inl (before now)

  all_back : (tids : List Tid) (book : BookValue) → IsCommitted (fold (commit_found here) book tids) tid → Decides book tids tid
  all_back [] book is = inl is
  all_back (x ∷ tids) book is = by (all_back tids (commit_found here book x) is)
    where
      among : (b : Bool) → is_among tids tid ≡ true → (b || is_among tids tid) ≡ true
      among true h = refl
      among false h = h

      at : IsCommitted book tid ⊎ (x ≡ tid) → Decides book (x ∷ tids) tid
      at (inl was) = inl was
      at (inr same) = let self : same_tid tid x ≡ true = subst (λ (t : Tid). same_tid tid t ≡ true) (sym same) (same_tid-self tid) in inr (rw self refl)

      by : Decides (commit_found here book x) tids tid → Decides book (x ∷ tids) tid
      by (inl now) = at (found_back book x now)
      by (inr later) = inr (among (same_tid tid x) later)

  votes_alike : (inc : ℕ) (done : List Tid) (pend : List Found) (book : BookValue) → Alike book (fold (vote_found here inc done) book pend)
  votes_alike inc done [] book = alike_self book
  votes_alike inc done (found ∷ pend) book =
      alike_then book (vote_found here inc done book found) _
      (either_alike (is_among done found.tid) book book (with_transaction found.tid f book) (alike_self book) (transaction_alike found.tid f (λ tx. refl) book))
      (votes_alike inc done pend (vote_found here inc done book found))
    where
      f : TransactionValue → TransactionValue
      f = found_at (member_at here found.server.0) inc found.covers (pending_of (record_at here book found.tid found.server.0))

  aborts_back : (inc : ℕ) (seqs : List ℕ) (book : BookValue) → IsCommitted (fold (abort_begun here inc) book seqs) tid → IsCommitted book tid
  aborts_back inc [] book is = is
  aborts_back inc (seq ∷ seqs) book is = by (is_open_here here (begun_tid here inc seq) (find_transaction book (begun_tid here inc seq))) (aborts_back inc seqs (abort_begun here inc book seq) is)
    where
      by : (b : Bool) → IsCommitted (if b then decide (begun_tid here inc seq) outcomes.Abort (Some (causes.Home inc)) book else book) tid → IsCommitted book tid
      by true now = abort_back (begun_tid here inc seq) tid (Some (causes.Home inc)) book now
      by false now = now

  -- what is committed after a restart was so before it, or its Commit was found
  pub restart_back : (inc : ℕ) (pend : List Found) (done : List Tid) (book : BookValue) → IsCommitted (restart here inc pend done book) tid → Decides book done tid
  restart_back inc pend done book is =
      all_back done mid
      (alike_back (fold (commit_found here) mid done) voted tid (votes_alike inc done pend (fold (commit_found here) mid done))
      (aborts_back (inc_at mid (record { 0 = here })) (up_to (begun_at here mid)) voted is))
    where
      mid : BookValue
      mid = put_new_votes here pend book

      voted : BookValue
      voted = fold (vote_found here inc done) (fold (commit_found here) mid done) pend

-- ---- unanimity

-- the transaction is unanimous, and its home is a node of the run
pub record Commits (book : BookValue) (tid : Tid) : Type 0 where
  pub tx : TransactionValue
  pub found : find_transaction book tid ≡ Some tx
  pub unanimous : is_unanimous tx ≡ true
  pub home : NodeValue
  pub at_home : slice_get book.nodes tid.home.0 ≡ Some home

among_passes : (p : Tid → Bool) (tids : List Tid) (tid : Tid) → is_among tids tid ≡ true → list_all p tids ≡ true → p tid ≡ true
among_passes p [] tid h all = absurd (cc h)
among_passes p (x ∷ tids) tid h all = by (same_tid tid x) refl h (among_passes p tids tid)
  where
    by : (b : Bool) → same_tid tid x ≡ b → (b || is_among tids tid) ≡ true → (is_among tids tid ≡ true → list_all p tids ≡ true → p tid ≡ true) → p tid ≡ true
    by true same h more = subst (λ (t : Tid). p t ≡ true) (sym (same_tid-true tid x same)) (left_of (p x) (list_all p tids) all)
    by false other h more = more h (right_of (p x) (list_all p tids) all)

open_found : (o : Option TransactionValue) → cell_of_transaction o ≡ Some cells.Open → (tx : TransactionValue) × (o ≡ Some tx) × (tx.cell ≡ cells.Open)
open_found None h = absurd (cc h)
open_found (Some tx) h = (tx, refl, cc h)

module _ (book : BookValue) (tid : Tid) (opened : cell_of_transaction (find_transaction book tid) ≡ Some cells.Open) where
  -- the node of the act is its home
  here_is : (here : ℕ) (node : NodeValue) → slice_get book.nodes here ≡ Some node → (tid.home.0 == here) ≡ true → slice_get book.nodes tid.home.0 ≡ Some node
  here_is here node at same = ap (slice_get book.nodes) (same_number tid.home.0 here same) ∙ at

  decide_commits : (here : ℕ) (node : NodeValue) (stamp : ℕ) (cause : Option Cause) → slice_get book.nodes here ≡ Some node → broken_decide here node book.nodes tid (find_transaction book tid) stamp outcomes.Commit cause ≡ None → Commits book tid
  decide_commits here node stamp cause at h = of (find_transaction book tid) refl h
    where
      caused : (tx : TransactionValue) (c : Option Cause) → broken_outcome node book.nodes tid tx stamp outcomes.Commit c ≡ None → is_unanimous tx ≡ true
      caused tx None k = (held (is_unanimous tx) 71 None k).0
      caused tx (Some c) k = absurd (cc k)

      of : (o : Option TransactionValue) → find_transaction book tid ≡ o → broken_decide here node book.nodes tid o stamp outcomes.Commit cause ≡ None → Commits book tid
      of None is k = absurd (cc k)
      of (Some tx) is k =
          let may : (may_decide here tid tx ≡ true) × (broken_outcome node book.nodes tid tx stamp outcomes.Commit cause ≡ None) = held (may_decide here tid tx) 70 (broken_outcome node book.nodes tid tx stamp outcomes.Commit cause) k in
          record { tx = tx; found = is; unanimous = caused tx cause may.1; home = node; at_home = here_is here node at (left_of (tid.home.0 == here) (is_open tx.cell) may.0) }

  restart_commits_it : (here : ℕ) (node : NodeValue) (done : List Tid) → Shut book → slice_get book.nodes here ≡ Some node → list_all (is_found_commit here book node) done ≡ true → is_among done tid ≡ true → Commits book tid
  restart_commits_it here node done shut at all among =
      let o : (tx : TransactionValue) × (find_transaction book tid ≡ Some tx) × (tx.cell ≡ cells.Open) = open_found (find_transaction book tid) opened in
      of o.0 o.1 o.2 (is_among node.committed tid) refl (among_passes (is_found_commit here book node) done tid among all)
    where
      no_log : (tx : TransactionValue) → find_transaction book tid ≡ Some tx → tx.cell ≡ cells.Open → is_among node.committed tid ≡ true → ⊥
      no_log tx found is in_log =
          let s : IsShut book (facet node) tid = shut here (facet node) tid (ap (option_map facet) at) in_log in
          absurd (clash (s.committed (face tx) (ap (option_map face) found)) (ap is_commit is))

      committed : (tx : TransactionValue) → tx.cell ≡ cells.Open → is_committed here tid (Some tx) ≡ true → ((is_open tx.cell && (tid.home.0 == here)) && is_unanimous tx) ≡ true
      committed tx is h = by (is_commit tx.cell) (ap is_commit is) h
        where
          by : (b : Bool) → b ≡ false → (b || ((is_open tx.cell && (tid.home.0 == here)) && is_unanimous tx)) ≡ true → ((is_open tx.cell && (tid.home.0 == here)) && is_unanimous tx) ≡ true
          by true not_so k = absurd (cc not_so)
          by false is_not k = k

      of : (tx : TransactionValue) → find_transaction book tid ≡ Some tx → tx.cell ≡ cells.Open → (b : Bool) → is_among node.committed tid ≡ b → (is_among node.committed tid || is_committed here tid (find_transaction book tid)) ≡ true → Commits book tid
      of tx found is true in_log h = absurd (no_log tx found is in_log)
      of tx found is false apart_from h =
          let two : is_committed here tid (find_transaction book tid) ≡ true = subst (λ (b : Bool). (b || is_committed here tid (find_transaction book tid)) ≡ true) apart_from h in
          let all : ((is_open tx.cell && (tid.home.0 == here)) && is_unanimous tx) ≡ true = committed tx is (subst (λ (o : Option TransactionValue). is_committed here tid o ≡ true) found two) in
          record {
            tx = tx;
            found = found;
            unanimous = right_of (is_open tx.cell && (tid.home.0 == here)) (is_unanimous tx) all;
            home = node;
            at_home = here_is here node at (right_of (is_open tx.cell) (tid.home.0 == here) (left_of (is_open tx.cell && (tid.home.0 == here)) (is_unanimous tx) all));
          }

  begin_open : (here : ℕ) (t : Tid) (label : List ℕ) (client : ClientNo) → IsCommitted (begin here t label client book) tid → IsCommitted book tid
  begin_open here t label client now = by (is_at (tid_cmp tid) t) refl
    where
      tx : TransactionValue
      tx = begun label client (ticks_at (slice_get book.nodes here))

      exact : (x : Tid) → tid_cmp t x ≡ Equal → t ≡ x
      exact x same = at_exact t x (rw same refl)

      by : (b : Bool) → is_at (tid_cmp tid) t ≡ b → IsCommitted book tid
      by true same =
          let e : tid ≡ t = at_exact tid t same in
          let late : IsCommitted (begin here t label client book) t = subst (λ (x : Tid). IsCommitted (begin here t label client book) x) e now in
          absurd (cc (sym (ap cell_of_transaction (lookup_put tid_cmp t tx (tid_itself t) book.transactions)) ∙ late))
      by false other = ap cell_of_transaction (sym (lookup_put_apart tid_cmp t tx exact (is_at (tid_cmp tid)) other book.transactions)) ∙ now

  by_alike : (new : BookValue) → Alike book new → IsCommitted new tid → Commits book tid
  by_alike new a now = absurd (open_clash (find_transaction book tid) opened (alike_back book new tid a now))

  acted_commits : (stamp here : ℕ) (node : NodeValue) (act : Act) → slice_get book.nodes here ≡ Some node → broken_act book stamp here node act ≡ None → IsCommitted (effect_act stamp here act book) tid → Commits book tid
  acted_commits stamp here node (Begin t label client) at h now = absurd (open_clash (find_transaction book tid) opened (begin_open here t label client now))
  acted_commits stamp here node (Issue t issuer other n op) at h now = by_alike _ (alike.by_issue here t issuer other n op book) now
  acted_commits stamp here node (Serve t other from n reply) at h now = by_alike _ (alike.by_serve here t other from n stamp reply book) now
  acted_commits stamp here node (acts.Vote t other ballot covers) at h now = by_alike _ (alike.by_vote here t other ballot covers book) now
  acted_commits stamp here node (Ask t) at h now = by_alike _ (alike.by_ask t book) now
  acted_commits stamp here node (Counted t peer so_far) at h now = by_alike _ (alike.by_count here t peer so_far book) now
  acted_commits stamp here node (Decide t outcomes.Commit cause) at h now = by (commit_back t tid cause book now)
    where
      by : IsCommitted book tid ⊎ (t ≡ tid) → Commits book tid
      by (inl was) = absurd (open_clash (find_transaction book tid) opened was)
      by (inr same) = decide_commits here node stamp cause at (subst (λ (x : Tid). broken_decide here node book.nodes x (find_transaction book x) stamp outcomes.Commit cause ≡ None) same h)
  acted_commits stamp here node (Decide t outcomes.Abort cause) at h now = absurd (open_clash (find_transaction book tid) opened (abort_back t tid cause book now))
  acted_commits stamp here node (Ending t other) at h now = by_alike _ (alike.by_end here t other book) now
  acted_commits stamp here node (Learn t other outcome) at h now = by_alike _ (alike.by_learn here t other outcome book) now
  acted_commits stamp here node (Answer client line said) at h now = by_alike _ (alike.by_answer client line book) now
  acted_commits stamp here node (Loan t client) at h now = by_alike _ (alike.by_loan here t client book) now
  acted_commits stamp here node (Yield t client) at h now = by_alike _ (alike.by_yield here t client book) now
  acted_commits stamp here node Tick at h now = by_alike _ (alike.by_tick here stamp book) now
  acted_commits stamp here node (Crash cause) at h now = by_alike _ (alike.by_crash here book) now
  acted_commits stamp here node (Restart inc pend done) at h now = absurd (cc h)

  node_commits : (stamp here : ℕ) (node : NodeValue) (act : Act) → Shut book → slice_get book.nodes here ≡ Some node → broken_node book stamp here node act ≡ None → IsCommitted (effect_act stamp here act book) tid → Commits book tid
  node_commits stamp here node (Restart inc pend done) shut at h now = by (restart_back here tid inc pend done book now)
    where
      by : Decides book done tid → Commits book tid
      by (inl was) = absurd (open_clash (find_transaction book tid) opened was)
      by (inr found) = restart_commits_it here node done shut at (restart_commits here inc pend done book node (unheld node.up 2 (broken_restart here book node inc pend done) h)) found
  node_commits stamp here node act shut at h now = acted_commits stamp here node act at (held node.up 2 (broken_act book stamp here node act) h).1 now

  at_commits : (stamp here : ℕ) (o : Option NodeValue) (act : Act) → Shut book → slice_get book.nodes here ≡ o → broken_at book stamp here o act ≡ None → IsCommitted (effect_act stamp here act book) tid → Commits book tid
  at_commits stamp here None act shut at h now = absurd (cc h)
  at_commits stamp here (Some node) act shut at h now = node_commits stamp here node act shut at h now

pub step_commits : (book : BookValue) (entry : Entry) (tid : Tid) → Shut book → broken book entry ≡ None → cell_of_transaction (find_transaction book tid) ≡ Some cells.Open → IsCommitted (effect book entry) tid → Commits book tid
step_commits book entry tid shut h opened now =
    at_commits book tid opened entry.stamp entry.node.0 (slice_get book.nodes entry.node.0) entry.act shut refl (held (is_in_order book entry) 1 _ h).1 now

-- a transaction whose cell an entry makes commit is unanimous before it
pub unanimous_at_commit : (opened : List Opened) (before : List Entry) (entry : Entry) (tid : Tid) → IsCoherent opened → IsLawful (opening opened) (before ++ (entry ∷ []))
    → cell_of_transaction (find_transaction (book_after (opening opened) before) tid) ≡ Some cells.Open → IsCommitted (effect (book_after (opening opened) before) entry) tid
    → (tx : TransactionValue) × (find_transaction (book_after (opening opened) before) tid ≡ Some tx) × (is_unanimous tx ≡ true)
unanimous_at_commit opened before entry tid coherent lawful was now =
    let c : Commits (book_after (opening opened) before) tid =
    step_commits (book_after (opening opened) before) entry tid
    (ran_shut before (opening opened) (opening_holds opened coherent) (opening_shut opened coherent) (lawful_front before (entry ∷ []) (opening opened) lawful))
    (lawful_rest before (entry ∷ []) (opening opened) lawful).0 was now in
    (c.tx, c.found, c.unanimous)
