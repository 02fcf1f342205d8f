-- A transaction whose Commit the log of a node held as the run began: its cell is commit, commit is never asked for in the
-- run, and nothing of it is on record at that node.
use Rattle.qs_book_laws.proofs.Words.{◌≡◌, ◌⊎◌, ℕ, ◌==◌, ◌&&◌, Bool, true, false, List, Option, Some, None, inl, inr, refl, sym, ap, subst, ◌∙◌, arith, nat_tests, slice_get, lookup, remove_entry, option_map, insert_entry, is_at, Equal, tid_cmp, ClientNo, Tid, TransactionValue, is_open, is_commit, asked_at, begun, Cell, BookValue, find_transaction, with_transaction, begin, changed_at, ticks_at, NodeValue, voter, voter_cmp, is_among, OnRecord, Voter}
use Rattle.std.specs.Prelude.{is_none}
use Rattle.qs_book_machine.specs.declared.transaction.Cell.TheVariants as cells
use Rattle.qs_book_machine.specs.Clauses.{may_ask}
use Rattle.qs_book_laws.proofs.Alikes.{tid_itself, at_exact, voter_exact, voter_equal}
use Rattle.qs_book_laws.proofs.Faces.{Face, face, face_at}
use Rattle.qs_book_laws.proofs.Maps.{changed_apart, removed_none, lookup_put, lookup_put_apart, changed_at_either}
use Rattle.qs_book_laws.proofs.Outcomes.{Kept}
use Rattle.qs_book_laws.proofs.Stills.{Facet, facet, asked_of, facet_at, asks_at, Still}

pub record IsShut (book : BookValue) (at : Facet) (tid : Tid) : Type 0 where
  pub asks : asks_at book tid ≡ Some None
  pub committed : (seen : Face) → face_at book tid ≡ Some seen → is_commit seen.cell ≡ true
  pub records : (server : ℕ) → lookup (is_at (voter_cmp (voter tid server))) at.records ≡ None

abbrev pub Shut : BookValue → Type 0
Shut book = (n : ℕ) (at : Facet) (tid : Tid) → facet_at book n ≡ Some at → is_among at.committed tid ≡ true → IsShut book at tid

-- what a step does to a node leaves its Commits, and puts nothing of such a transaction on record
pub record Changes (book : BookValue) (was at : Facet) : Type 0 where
  pub committed : at.committed ≡ was.committed
  pub records : (tid : Tid) → IsShut book was tid → (server : ℕ) → lookup (is_at (voter_cmp (voter tid server))) at.records ≡ None

pub changes_none : (book : BookValue) (at : Facet) → Changes book at at
changes_none book at = record { committed = refl; records = λ tid shut server. shut.records server }

pub record Before (old : BookValue) (n : ℕ) (at : Facet) : Type 0 where
  pub was : Facet
  pub stood : facet_at old n ≡ Some was
  pub changes : Changes old was at

face_of : (o : Option TransactionValue) → option_map asked_of o ≡ Some None → (seen : Face) × (option_map face o ≡ Some seen)
face_of None h = absurd (cc h)
face_of (Some tx) h = (face tx, refl)

pub commit_closed : (cell : Cell) → is_commit cell ≡ true → is_open cell ≡ false
commit_closed cells.Commit h = refl
commit_closed cells.Open h = absurd (cc h)
commit_closed cells.Abort h = refl

pub shut_step : (old new : BookValue) → Shut old → Kept old new
    → ((tid : Tid) (at : Facet) → IsShut old at tid → asks_at new tid ≡ Some None)
    → ((n : ℕ) (at : Facet) → facet_at new n ≡ Some at → Before old n at) → Shut new
shut_step old new shut kept asks before n at tid is among =
    let b : Before old n at = before n at is in
    let s : IsShut old b.was tid = shut n b.was tid b.stood (ap (λ (tids : List Tid). is_among tids tid) (sym b.changes.committed) ∙ among) in
    record { asks = asks tid b.was s; committed = committed s; records = b.changes.records tid s }
  where
    committed : {was : Facet} → IsShut old was tid → (seen : Face) → face_at new tid ≡ Some seen → is_commit seen.cell ≡ true
    committed s seen found =
        let f : (f : Face) × (face_at old tid ≡ Some f) = face_of (find_transaction old tid) s.asks in
        let shut_cell : is_commit f.0.cell ≡ true = s.committed f.0 f.1 in
        let now : face_at new tid ≡ Some f.0 = kept tid f.0 f.1 (commit_closed f.0.cell shut_cell) in
        let same : seen ≡ f.0 = cc (now, found) in
        ap (λ (g : Face). is_commit g.cell) same ∙ shut_cell

pub by_still : (old new : BookValue) → Shut old → Kept old new → Still old new → Shut new
by_still old new shut kept still =
    shut_step old new shut kept (λ tid at s. still.asks tid ∙ s.asks)
    (λ n at is. record { was = at; stood = sym (still.facets n) ∙ is; changes = changes_none old at })

-- what a node was before it changed
pub node_before : (here : ℕ) (f : NodeValue → NodeValue) (book : BookValue) (node : NodeValue) → slice_get book.nodes here ≡ Some node → Changes book (facet node) (facet (f node))
    → (n : ℕ) (at : Facet) → option_map facet (slice_get (changed_at here f book.nodes) n) ≡ Some at → Before book n at
node_before here f book node at_here changes n at is = by (changed_at_either f book.nodes here n node at_here)
  where
    by : ((n ≡ here) × (slice_get book.nodes n ≡ Some node) × (slice_get (changed_at here f book.nodes) n ≡ Some (f node))) ⊎ (slice_get (changed_at here f book.nodes) n ≡ slice_get book.nodes n) → Before book n at
    by (inl h) =
        let e : Some (facet (f node)) ≡ Some at = ap (option_map facet) (sym h.2) ∙ is in
        let at_is : facet (f node) ≡ at = cc in
        record { was = facet node; stood = ap (option_map facet) h.1; changes = subst (λ (a : Facet). Changes book (facet node) a) at_is changes }
    by (inr h) = record { was = at; stood = ap (option_map facet) (sym h) ∙ is; changes = changes_none book at }

-- ---- begin

pub by_begin : (book : BookValue) (here : ℕ) (node : NodeValue) (tid : Tid) (label : List ℕ) (client : ClientNo) → slice_get book.nodes here ≡ Some node
    → Shut book → Kept book (begin here tid label client book) → Shut (begin here tid label client book)
by_begin book here node tid label client at_here shut kept =
    shut_step book (begin here tid label client book) shut kept (λ q at s. asks q s.asks (is_at (tid_cmp q) tid) refl)
    (node_before here (λ (v : NodeValue). record v { begun = tid.seq }) book node at_here (changes_none book (facet node)))
  where
    fresh : TransactionValue
    fresh = begun label client (ticks_at (slice_get book.nodes here))

    exact : (x : Tid) → tid_cmp tid x ≡ Equal → tid ≡ x
    exact x same = at_exact tid x (rw same refl)

    asks : (q : Tid) → asks_at book q ≡ Some None → (b : Bool) → is_at (tid_cmp q) tid ≡ b → asks_at (begin here tid label client book) q ≡ Some None
    asks q was true same =
        subst (λ (x : Tid). asks_at (begin here tid label client book) x ≡ Some None) (sym (at_exact q tid same)) (ap (option_map asked_of) (lookup_put tid_cmp tid fresh (tid_itself tid) book.transactions))
    asks q was false other = ap (option_map asked_of) (lookup_put_apart tid_cmp tid fresh exact (is_at (tid_cmp q)) other book.transactions) ∙ was

-- ---- ask

pub by_ask : (book : BookValue) (here : ℕ) (node : NodeValue) (tid : Tid) (tx : TransactionValue) → slice_get book.nodes here ≡ Some node → find_transaction book tid ≡ Some tx → may_ask here tid tx ≡ true
    → Shut book → Kept book (with_transaction tid (asked_at book.place) book) → Shut (with_transaction tid (asked_at book.place) book)
by_ask book here node tid tx at_here found may shut kept =
    shut_step book later shut kept (λ q at s. asks q at s (is_at (tid_cmp tid) q) refl)
    (λ n at is. record { was = at; stood = is; changes = changes_none book at })
  where
    later : BookValue
    later = with_transaction tid (asked_at book.place) book

    may_is : (tid.home.0 ≡ here) × (is_open tx.cell ≡ true)
    may_is = opened (tid.home.0 == here) (is_open tx.cell) (is_none tx.asked) refl may
      where
        opened : (a b c : Bool) → (tid.home.0 == here) ≡ a → (a && (b && c)) ≡ true → (tid.home.0 ≡ here) × (b ≡ true)
        opened true true c is h = (grind (arith, nat_tests, is), refl)
        opened true false c is h = absurd (cc h)
        opened false b c is h = absurd (cc h)

    apart : (q : Tid) → is_at (tid_cmp tid) q ≡ false → (k : Tid) → is_at (tid_cmp q) k ≡ true → is_at (tid_cmp tid) k ≡ false
    apart q other k is = subst (λ (x : Tid). is_at (tid_cmp tid) x ≡ false) (at_exact q k is) other

    asks : (q : Tid) (at : Facet) → IsShut book at q → (b : Bool) → is_at (tid_cmp tid) q ≡ b → asks_at later q ≡ Some None
    asks q at s true same =
        let q_is : tid ≡ q = at_exact tid q same in
        let seen : face_at book q ≡ Some (face tx) = ap (face_at book) (sym q_is) ∙ ap (option_map face) found in
        let shut_cell : is_open tx.cell ≡ false = commit_closed tx.cell (s.committed (face tx) seen) in
        absurd (cc (may_is.1, shut_cell))
    asks q at s false other = ap (option_map asked_of) (changed_apart (is_at (tid_cmp tid)) (is_at (tid_cmp q)) (apart q other) (asked_at book.place) book.transactions) ∙ s.asks

-- ---- what goes on record, and what does so no more

-- a vote of a transaction for which commit was asked
pub put_changes : (book : BookValue) (was at : Facet) (v : Voter) (rec : OnRecord) → Changes book was at → (asks_at book v.tid ≡ Some None → ⊥)
    → Changes book was (record at { records = insert_entry voter_cmp at.records v rec })
put_changes book was at v rec changes asked = record { committed = changes.committed; records = λ tid s server. none tid s server (is_at (voter_cmp (voter tid server)) v) refl }
  where
    exact : (x : Voter) → voter_cmp v x ≡ Equal → v ≡ x
    exact x same = voter_equal v x same

    none : (tid : Tid) → IsShut book was tid → (server : ℕ) (b : Bool) → is_at (voter_cmp (voter tid server)) v ≡ b
        → lookup (is_at (voter_cmp (voter tid server))) (insert_entry voter_cmp at.records v rec) ≡ None
    none tid s server true same =
        let v_is : voter tid server ≡ v = voter_exact (voter tid server) v same in
        absurd (asked (ap (λ (w : Voter). asks_at book w.tid) (sym v_is) ∙ s.asks))
    none tid s server false other = lookup_put_apart voter_cmp v rec exact (is_at (voter_cmp (voter tid server))) other at.records ∙ changes.records tid s server

pub remove_changes : (book : BookValue) (was at : Facet) (test : Voter → Bool) → Changes book was at → Changes book was (record at { records = remove_entry test at.records })
remove_changes book was at test changes = record {
  committed = changes.committed;
  records = λ tid s server. removed_none test (is_at (voter_cmp (voter tid server))) at.records (changes.records tid s server);
}
