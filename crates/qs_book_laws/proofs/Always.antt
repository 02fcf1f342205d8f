-- What holds of a transaction as it begins, or stands at the opening, and is left by every entry, holds always.
use Rattle.qs_book_laws.proofs.Words.{◌≡◌, ℕ, suc, Bool, true, false, List, [], ◌∷◌, Option, Some, None, refl, sym, ap, subst, ◌∙◌, fold, if◌then◌else◌, is_some, slice_get, length, nat_lt, list_any, insert_entry, is_at, tid_cmp, ClientNo, Member, Tid, tid_exact, Cause, Act, Entry, TransactionValue, begun, found_at, Cell, BookValue, find_transaction, with_transaction, begin, ticks_at, broken, effect_act, effect, NodeValue, opening, name_from, name_all, name_transaction, name_pending}
use Rattle.qs_book_laws.proofs.Words.{opened_transaction, member_at, Opened, Pending}
use Rattle.qs_ops.specs.declared.answer.Cause.TheVariants as causes
use Rattle.qs_book_journal.specs.declared.entry.Act.TheVariants as acts
use Rattle.qs_book_machine.specs.Transaction.{opened_as}
use Rattle.qs_book_machine.specs.declared.transaction.Cell.TheVariants as cells
use Rattle.qs_book_machine.specs.Opening.{has_commit}
use Rattle.qs_book_laws.proofs.Alikes.{tid_itself, at_exact}
use Rattle.qs_book_laws.proofs.Grows.{begins, alters_transaction, step_alters}
use Rattle.qs_book_laws.proofs.Maps.{lookup_put, lookup_put_apart}
use Rattle.qs_book_laws.proofs.Openings.{first_book}
use Rattle.qs_book_laws.proofs.Outcomes.{Inv}
use Rattle.qs_book_laws.proofs.Takes.{some_same}
use Rattle.qs_book_laws.proofs.Turns.{Stands, kept_by}

module _ (tid : Tid) (P : TransactionValue → Type 0) where
  -- where the transaction is known, it holds
  abbrev pub IsSo : BookValue → Type 0
  IsSo book = (tx : TransactionValue) → find_transaction book tid ≡ Some tx → P tx

  pub so_of : (book : BookValue) → Stands tid P book → IsSo book
  so_of book s tx found = subst P (some_same s.tx tx (sym s.found ∙ found)) s.holds

  so_none : (book : BookValue) → find_transaction book tid ≡ None → IsSo book
  so_none book none tx found = absurd (cc (none, found))

  -- ---- a transaction that is not known

  not_there : (o : Option TransactionValue) → is_some o ≡ false → o ≡ None
  not_there None h = refl
  not_there (Some tx) h = absurd (cc h)

  begun_there : (book : BookValue) (entry : Entry) (act : Act) → entry.act ≡ act → begins tid act ≡ true → ((label : List ℕ) (client : ClientNo) (ticks : ℕ) → P (begun label client ticks)) → IsSo (effect book entry)
  begun_there book entry (acts.Begin t label client) is same first = λ tx found.
      let e : tid ≡ t = at_exact tid t same in
      let new : TransactionValue = begun label client (ticks_at (slice_get book.nodes entry.node.0)) in
      let there : find_transaction (begin entry.node.0 t label client book) tid ≡ Some new =
      subst (λ (x : Tid). find_transaction (begin entry.node.0 x label client book) tid ≡ Some new) e (lookup_put tid_cmp tid new (tid_itself tid) book.transactions) in
      let last : find_transaction (effect book entry) tid ≡ Some new = ap (λ (a : Act). find_transaction (effect_act entry.stamp entry.node.0 a book) tid) is ∙ there in
      subst P (some_same new tx (sym last ∙ found)) (first label client (ticks_at (slice_get book.nodes entry.node.0)))
  begun_there book entry act is same first = absurd (cc same)

  pub unknown : (book : BookValue) (entry : Entry) → broken book entry ≡ None → ((label : List ℕ) (client : ClientNo) (ticks : ℕ) → P (begun label client ticks)) → find_transaction book tid ≡ None → IsSo (effect book entry)
  unknown book entry h first none = by (begins tid entry.act) refl
    where
      any : Member
      any = member_at 0 0

      by : (b : Bool) → begins tid entry.act ≡ b → IsSo (effect book entry)
      by true is = begun_there book entry entry.act refl is first
      by false is = so_none (effect book entry) (not_there (find_transaction (effect book entry) tid) ((step_alters tid any book entry is h).known ∙ ap (λ (o : Option TransactionValue). is_some o) none))

  -- ---- a step

  pub step_so : (book : BookValue) (entry : Entry) → Inv book → broken book entry ≡ None → ((label : List ℕ) (client : ClientNo) (ticks : ℕ) → P (begun label client ticks))
      → (Stands tid P book → Stands tid P (effect book entry)) → IsSo book → IsSo (effect book entry)
  step_so book entry i h first keeps so = by (find_transaction book tid) refl
    where
      by : (o : Option TransactionValue) → find_transaction book tid ≡ o → IsSo (effect book entry)
      by None none = unknown book entry h first none
      by (Some tx) found = so_of (effect book entry) (keeps (record { tx = tx; found = found; holds = so tx found }))

  -- ---- the opening

  module _ (first : (cell : Cell) (cause : Option Cause) → P (opened_as cell cause)) (left : (member : Member) (inc covers changes : ℕ) (tx : TransactionValue) → P tx → P (found_at member inc covers changes tx)) where
    opened_so : (nodes : List NodeValue) (t : Tid) → P (opened_transaction nodes t)
    opened_so nodes t = by (list_any (has_commit t) nodes) (nat_lt t.home.0 (length nodes))
      where
        by : (b c : Bool) → P (if b then opened_as cells.Commit None else if c then opened_as cells.Abort (Some (causes.Home t.inc)) else opened_as cells.Open None)
        by true c = first cells.Commit None
        by false true = first cells.Abort (Some (causes.Home t.inc))
        by false false = first cells.Open None

    name_so : (book : BookValue) (t : Tid) → IsSo book → IsSo (name_transaction book t)
    name_so book t so = by (find_transaction book t)
      where
        put : BookValue
        put = record book { transactions = insert_entry tid_cmp book.transactions t (opened_transaction book.nodes t) }

        at : (b : Bool) → is_at (tid_cmp tid) t ≡ b → IsSo put
        at true same tx found =
            let e : tid ≡ t = at_exact tid t same in
            let there : find_transaction put tid ≡ Some (opened_transaction book.nodes t) =
            subst (λ (x : Tid). find_transaction put x ≡ Some (opened_transaction book.nodes t)) (sym e) (lookup_put tid_cmp t (opened_transaction book.nodes t) (tid_itself t) book.transactions) in
            subst P (some_same (opened_transaction book.nodes t) tx (sym there ∙ found)) (opened_so book.nodes t)
        at false apart tx found =
            so tx (sym (lookup_put_apart tid_cmp t (opened_transaction book.nodes t) (λ x. tid_exact t x) (is_at (tid_cmp tid)) apart book.transactions) ∙ found)

        by : (o : Option TransactionValue) → IsSo (elim o [ Some tx ↦ book | None ↦ put ])
        by None = at (is_at (tid_cmp tid) t) refl
        by (Some tx) = so

    pending_so : (here inc : ℕ) (book : BookValue) (p : Pending) → IsSo book → IsSo (name_pending here inc book p)
    pending_so here inc book p so = by (find_transaction (name_transaction book p.tid) tid) refl
      where
        f : TransactionValue → TransactionValue
        f = found_at (member_at here p.server.0) inc p.covers (length p.changes)

        named : IsSo (name_transaction book p.tid)
        named = name_so book p.tid so

        same : find_transaction (name_transaction book p.tid) tid ≡ None → is_some (find_transaction (with_transaction p.tid f (name_transaction book p.tid)) tid) ≡ false
        same none = (alters_transaction tid (member_at here p.server.0) p.tid f (λ tx h. h) (name_transaction book p.tid)).known ∙ ap (λ (o : Option TransactionValue). is_some o) none

        by : (o : Option TransactionValue) → find_transaction (name_transaction book p.tid) tid ≡ o → IsSo (name_pending here inc book p)
        by None none = so_none (name_pending here inc book p) (not_there (find_transaction (name_pending here inc book p) tid) (same none))
        by (Some tx) found =
            so_of (name_pending here inc book p)
            (kept_by tid P (name_transaction book p.tid) p.tid f (left (member_at here p.server.0) inc p.covers (length p.changes)) (record { tx = tx; found = found; holds = named tx found }))

    all_so : {A : Type 0} (f : BookValue → A → BookValue) → ((book : BookValue) (x : A) → IsSo book → IsSo (f book x)) → (xs : List A) (book : BookValue) → IsSo book → IsSo (fold f book xs)
    all_so f each [] book so = so
    all_so f each (x ∷ xs) book so = all_so f each xs (f book x) (each book x so)

    logs_so : (here : ℕ) (logs : List Opened) (book : BookValue) → IsSo book → IsSo (name_from here logs book)
    logs_so here [] book so = so
    logs_so here (one ∷ more) book so =
        logs_so (suc here) more (name_all here one book)
        (all_so (name_pending here one.inc) (pending_so here one.inc) one.pending (fold name_transaction book one.committed) (all_so name_transaction name_so one.committed book so))

    pub opening_so : (opened : List Opened) → IsSo (opening opened)
    opening_so opened = logs_so 0 opened (first_book opened) (λ tx found. absurd (cc found))
