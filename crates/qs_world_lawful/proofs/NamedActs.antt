-- Transactions are numbered from 1, after each act of a node that runs.
use Rattle.qs_world_lawful.proofs.Words.{◌≡◌, ℕ, ◌+◌, Bool, true, false, List, Option, Some, None, refl, sym, ap, subst, ◌∙◌, arith, nat_tests, is_some, nat_lt, slice_get, option_map, is_at, Equal, tid_cmp, ClientNo, Tid, Act, TransactionValue, asked_at, decided_at, BookValue, find_transaction, with_transaction, begin, tick_node, crash_node, broken, effect, effect_act, at_exact, face, changed_alike, lookup_put_apart, next_is, begin_may, held, names_transaction, entry_of, IsNamed}
use Rattle.qs_book_journal.specs.declared.entry.Act.TheVariants as acts
use Rattle.qs_book_machine.specs.Book.{with_node, issue, serve, vote, count, end, learn, answer, loan, give_back}
use Rattle.qs_book_machine.specs.Nodes.{NodeValue}
use Rattle.qs_book_laws.proofs.Acts as of
use Rattle.qs_book_laws.proofs.Faces.{face_at}
use Rattle.qs_world_lawful.proofs.LogActs.{acting, is_begun}

some_of : {X Y : Type 0} (f : X → Y) (o : Option X) (p : Option X) → option_map f p ≡ option_map f o → is_some p ≡ is_some o
some_of f None None e = refl
some_of f None (Some y) e = absurd (cc e)
some_of f (Some x) None e = absurd (cc e)
some_of f (Some x) (Some y) e = refl

named_on : (old new : BookValue) → ((tid : Tid) → is_some (find_transaction new tid) ≡ is_some (find_transaction old tid)) → IsNamed old → IsNamed new
named_on old new same named tid is = named tid (sym (same tid) ∙ is)

by_faces : (old new : BookValue) → ((tid : Tid) → face_at new tid ≡ face_at old tid) → IsNamed old → IsNamed new
by_faces old new alike named = named_on old new (λ tid. some_of face (find_transaction old tid) (find_transaction new tid) (alike tid)) named

positive : (n m : ℕ) → n ≡ m + 1 → nat_lt 0 n ≡ true
positive n m e = grind (arith, nat_tests, e)

by_begin : (here : ℕ) (tid : Tid) (label : List ℕ) (client : ClientNo) (book : BookValue) → names_transaction tid ≡ true → IsNamed book → IsNamed (begin here tid label client book)
by_begin here tid label client book first named t is = by (is_at (tid_cmp t) tid) refl
  where
    is_equal : (x : Tid) → tid_cmp tid x ≡ Equal → is_at (tid_cmp tid) x ≡ true
    is_equal x same = rw same refl

    by : (b : Bool) → is_at (tid_cmp t) tid ≡ b → names_transaction t ≡ true
    by true same = subst (λ (x : Tid). names_transaction x ≡ true) (sym (at_exact t tid same)) first
    by false far = named t (ap is_some (sym (lookup_put_apart tid_cmp tid _ (λ x same. at_exact tid x (is_equal x same)) (is_at (tid_cmp t)) far book.transactions)) ∙ is)

pub named_after : (book : BookValue) (stamp here : ℕ) (state : NodeValue) → slice_get book.nodes here ≡ Some state → (act : Act) → is_begun act ≡ true → broken book (entry_of here stamp act) ≡ None → IsNamed book → IsNamed (effect book (entry_of here stamp act))
named_after book stamp here state there act goes lawful named = at act goes lawful
  where
    at : (act : Act) → is_begun act ≡ true → broken book (entry_of here stamp act) ≡ None → IsNamed (effect_act stamp here act book)
    at (acts.Begin tid label client) goes lawful =
        by_begin here tid label client book (positive tid.seq state.begun (next_is here state tid (begin_may here state book.labels tid label (held state.up 2 _ (acting book stamp here (acts.Begin tid label client) state there lawful)).1)).2) named
    at (acts.Issue tid issuer member number op) goes lawful = by_faces book (issue here tid issuer member number op book) (of.by_issue here tid issuer member number op book).faces named
    at (acts.Serve tid member from number reply) goes lawful = by_faces book (serve here tid member from number stamp reply book) (of.by_serve here tid member from number stamp reply book).faces named
    at (acts.Vote tid member ballot covers) goes lawful = by_faces book (vote here tid member ballot covers book) (of.by_vote here tid member ballot covers book).faces named
    at (acts.Ask tid) goes lawful = by_faces book (with_transaction tid (asked_at book.place) book) (of.by_ask tid book).faces named
    at (acts.Counted tid peer up_to) goes lawful = by_faces book (count here tid peer up_to book) (of.by_count here tid peer up_to book).faces named
    at (acts.Decide tid outcome cause) goes lawful =
        named_on book (effect_act stamp here (acts.Decide tid outcome cause) book) (λ t. some_of (λ (x : TransactionValue). true) (find_transaction book t) (find_transaction (effect_act stamp here (acts.Decide tid outcome cause) book) t)
        (changed_alike (is_at (tid_cmp tid)) (λ (x : TransactionValue). true) (decided_at book.place outcome cause) (λ x. refl) (is_at (tid_cmp t)) book.transactions)) named
    at (acts.Ending tid member) goes lawful = by_faces book (end here tid member book) (of.by_end here tid member book).faces named
    at (acts.Learn tid member outcome) goes lawful = by_faces book (learn here tid member outcome book) (of.by_learn here tid member outcome book).faces named
    at (acts.Answer client line said) goes lawful = by_faces book (answer client line book) (of.by_answer client line book).faces named
    at (acts.Loan tid client) goes lawful = by_faces book (loan here tid client book) (of.by_loan here tid client book).faces named
    at (acts.Yield tid client) goes lawful = by_faces book (give_back here tid client book) (of.by_yield here tid client book).faces named
    at acts.Tick goes lawful = by_faces book (with_node here (tick_node stamp) book) (of.by_tick here stamp book).faces named
    at (acts.Crash cause) goes lawful = by_faces book (with_node here (crash_node book.place) book) (of.by_crash here book).faces named
    at (acts.Restart inc pend done) goes lawful = absurd (cc goes)
