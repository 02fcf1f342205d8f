-- A transaction that stands in the book stays there, and one that is crossed at a member stays so.
use Rattle.qs_book_laws.proofs.Words.{◌≡◌, ℕ, Bool, true, false, List, [], ◌∷◌, Option, Some, None, inl, inr, refl, sym, ap, subst, ◌∙◌, fold, if◌then◌else◌, slice_get, is_some, option_map, lookup, set_value, insert_entry, is_at, tid_cmp, member_cmp, ClientNo, Member, Outcome, Tid, Cause, Op, tid_exact, Act, Begin, Issue, Serve, Ask, Counted, Decide, Ending, Learn, Loan, Yield, Tick, Crash, Restart, Entry, Found, TransactionValue, is_crossed, crossed_by, standing_request, issued, begun, asked_at}
use Rattle.qs_book_laws.proofs.Words.{counted, ended, learnt, lent, given_back, voted, served_in, decided_at, heard, with_learnt, found_at, Request, RequestNo, BookValue, find_transaction, crossed_in, with_node, with_owner, with_transaction, with_waiting, crosses, begin, issue, learn, hear, answer, waiting_of, inc_at, is_done, ticks_at, decide, loan_to, give_back_from, tick_node, crash_node, link_to, borrower_at, is_in_order, broken_act, broken_node, broken_at, broken, effect_act, effect}
use Rattle.qs_book_laws.proofs.Words.{NodeValue, restart, put_new_votes, up_to, begun_at, abort_begun, vote_found, commit_found, learn_found, decide_found, is_among, is_open_here, begun_tid, record_at, member_at, count_of as pending_of, Asking, Owner, crossed_at}
use Rattle.qs_base.specs.declared.identifiers.Outcome.TheVariants as outcomes
use Rattle.qs_ops.specs.declared.answer.Cause.TheVariants as causes
use Rattle.qs_book_journal.specs.declared.entry.Act.TheVariants.{Answer}
use Rattle.qs_book_journal.specs.declared.entry.Act.TheVariants as acts
use Rattle.qs_book_machine.specs.Transaction.{crossed_from}
use Rattle.qs_book_laws.proofs.Alikes.{at_exact}
use Rattle.qs_book_laws.proofs.Faces.{face}
use Rattle.qs_book_laws.proofs.Holding.{settled, crossing_transactions, waiting_transactions}
use Rattle.qs_book_laws.proofs.Maps.{Either, changed_either, lookup_put_apart, put_known}
use Rattle.qs_book_laws.proofs.Outcomes.{Inv, is_new}
use Rattle.qs_book_laws.proofs.Steps.{begin_may, held}

-- crossed at an earlier place, or from now on
from_stays : (member other : Member) (place : ℕ) (xs : List (Member × ℕ)) → is_some (lookup (is_at (member_cmp member)) xs) ≡ true → is_some (lookup (is_at (member_cmp member)) (crossed_from place other xs)) ≡ true
from_stays member other place xs h = by (lookup (is_at (member_cmp other)) xs) refl
  where
    by : (o : Option ℕ) → lookup (is_at (member_cmp other)) xs ≡ o → is_some (lookup (is_at (member_cmp member)) (elim o [ Some earlier ↦ xs | None ↦ insert_entry member_cmp xs other place ])) ≡ true
    by None found = put_known member_cmp other place (is_at (member_cmp member)) xs h
    by (Some earlier) found = h

by_stays : (member other : Member) (o : Option Request) (place : ℕ) (xs : List (Member × ℕ)) → is_some (lookup (is_at (member_cmp member)) xs) ≡ true → is_some (lookup (is_at (member_cmp member)) (crossed_by o place other xs)) ≡ true
by_stays member other None place xs h = h
by_stays member other (Some earlier) place xs h = from_stays member other place xs h

-- the transaction begins
abbrev pub begins : Tid → Act → Bool
begins tid (acts.Begin t label client) = is_at (tid_cmp tid) t
begins tid act = false

module _ (tid : Tid) (member : Member) where
  pub record Grows (old new : BookValue) : Type 0 where
    pub known : is_some (find_transaction old tid) ≡ true → is_some (find_transaction new tid) ≡ true
    pub crossed : crossed_at old tid member ≡ true → crossed_at new tid member ≡ true

  -- no transaction is new
  pub record Alters (old new : BookValue) : Type 0 where
    pub known : is_some (find_transaction new tid) ≡ is_some (find_transaction old tid)
    pub crossed : crossed_at old tid member ≡ true → crossed_at new tid member ≡ true

  pub grown : (old new : BookValue) → Alters old new → Grows old new
  grown old new a = record { known = λ h. a.known ∙ h; crossed = a.crossed }

  alters_self : (book : BookValue) → Alters book book
  alters_self book = record { known = refl; crossed = λ h. h }

  alters_then : (old mid new : BookValue) → Alters old mid → Alters mid new → Alters old new
  alters_then old mid new a b = record { known = b.known ∙ a.known; crossed = λ h. b.crossed (a.crossed h) }

  alters_if : (b : Bool) (old x y : BookValue) → Alters old x → Alters old y → Alters old (if b then x else y)
  alters_if true old x y p q = p
  alters_if false old x y p q = q

  pub alters_all : {A : Type 0} (f : BookValue → A → BookValue) → ((book : BookValue) (x : A) → Alters book (f book x)) → (xs : List A) (book : BookValue) → Alters book (fold f book xs)
  alters_all f each [] book = alters_self book
  alters_all f each (x ∷ xs) book = alters_then book (f book x) (fold f (f book x) xs) (each book x) (alters_all f each xs (f book x))

  -- the same transactions
  alters_same : (old new : BookValue) → new.transactions ≡ old.transactions → Alters old new
  alters_same old new same = record {
    known = ap (λ (ts : List (Tid × TransactionValue)). is_some (lookup (is_at (tid_cmp tid)) ts)) same;
    crossed = λ h. ap (λ (ts : List (Tid × TransactionValue)). crossed_in (lookup (is_at (tid_cmp tid)) ts) member) same ∙ h;
  }

  -- a change of a transaction that leaves what is crossed
  pub alters_transaction : (t : Tid) (f : TransactionValue → TransactionValue) → ((tx : TransactionValue) → is_crossed tx member ≡ true → is_crossed (f tx) member ≡ true) → (book : BookValue) → Alters book (with_transaction t f book)
  alters_transaction t f stays book = by (find_transaction book t) refl
    where
      by : (o : Option TransactionValue) → find_transaction book t ≡ o → Alters book (with_transaction t f book)
      by None is = alters_same book (with_transaction t f book) (same is)
        where
          same : find_transaction book t ≡ None → (with_transaction t f book).transactions ≡ book.transactions
          same none = subst (λ (o : Option TransactionValue). (elim o [ None ↦ book.transactions | Some u ↦ set_value (is_at (tid_cmp t)) book.transactions (f u) ]) ≡ book.transactions) (sym none) refl
      by (Some tx) is = at (changed_either (is_at (tid_cmp t)) (is_at (tid_cmp tid)) f book.transactions tx is)
        where
          at : Either (find_transaction book tid) (find_transaction (with_transaction t f book) tid) tx (f tx) → Alters book (with_transaction t f book)
          at (inl same) = record {
            known = ap (λ (o : Option TransactionValue). is_some o) same;
            crossed = λ h. ap (λ (o : Option TransactionValue). crossed_in o member) same ∙ h;
          }
          at (inr both) = record {
            known = ap (λ (o : Option TransactionValue). is_some o) both.1 ∙ sym (ap (λ (o : Option TransactionValue). is_some o) both.0);
            crossed = λ h. ap (λ (o : Option TransactionValue). crossed_in o member) both.1 ∙ stays tx (sym (ap (λ (o : Option TransactionValue). crossed_in o member) both.0) ∙ h);
          }

  pub alters_decide : (t : Tid) (outcome : Outcome) (cause : Option Cause) (book : BookValue) → Alters book (decide t outcome cause book)
  alters_decide t outcome cause book =
      let g : Alters book (with_transaction t (decided_at book.place outcome cause) book) = alters_transaction t (decided_at book.place outcome cause) (λ tx h. h) book in
      record { known = g.known; crossed = g.crossed }

  -- ---- acts

  module _ (book : BookValue) (here : ℕ) (t : Tid) (label : List ℕ) (client : ClientNo) where
    abbrev fresh : TransactionValue
    fresh = begun label client (ticks_at (slice_get book.nodes here))

    begin_alters : is_at (tid_cmp tid) t ≡ false → Alters book (begin here t label client book)
    begin_alters other =
        let same : find_transaction (begin here t label client book) tid ≡ find_transaction book tid = lookup_put_apart tid_cmp t fresh (λ x. tid_exact t x) (is_at (tid_cmp tid)) other book.transactions in
        record {
          known = ap (λ (o : Option TransactionValue). is_some o) same;
          crossed = λ crossed. ap (λ (o : Option TransactionValue). crossed_in o member) same ∙ crossed;
        }

    begin_grows : (node : NodeValue) → Inv book → slice_get book.nodes here ≡ Some node → broken_act book 0 here node (Begin t label client) ≡ None → Grows book (begin here t label client book)
    begin_grows node i at h = record {
      known = λ known. put_known tid_cmp t fresh (is_at (tid_cmp tid)) book.transactions known;
      crossed = λ crossed. by crossed (is_at (tid_cmp tid) t) refl;
    }
      where
        none : (o : Option TransactionValue) → find_transaction book t ≡ o → crossed_in o member ≡ true → ⊥
        none None is c = absurd (cc c)
        none (Some old) is c = is_new book here node t label client i at (begin_may here node book.labels t label h) (face old) (ap (λ (o : Option TransactionValue). option_map face o) is)

        by : crossed_at book tid member ≡ true → (b : Bool) → is_at (tid_cmp tid) t ≡ b → crossed_at (begin here t label client book) tid member ≡ true
        by crossed false other = (begin_alters other).crossed crossed
        by crossed true same = absurd (none (find_transaction book t) refl (subst (λ (x : Tid). crossed_at book x member ≡ true) (at_exact tid t same) crossed))

  alters_issue : (here : ℕ) (t : Tid) (issuer other : Member) (n_th : ℕ) (op : Op) (book : BookValue) → Alters book (issue here t issuer other n_th op book)
  alters_issue here t issuer other n_th op book =
      alters_then book one (issue here t issuer other n_th op book)
      (alters_transaction t (issued no request (inc_at book other.node) book.place) (λ tx h. by_stays member other (standing_request tx no other) book.place tx.crossed h) book)
      (alters_same one (issue here t issuer other n_th op book)
      (crossing_transactions (crosses (find_transaction book t) no other) t other (with_waiting t issuer other one) ∙ waiting_transactions t issuer other one))
    where
      no : RequestNo
      no = record { link = link_to here other; number = n_th }

      request : Request
      request = record { issuer = issuer; member = other; op = op; inc = inc_at book (record { 0 = here }); served = false }

      one : BookValue
      one = with_transaction t (issued no request (inc_at book other.node) book.place) book

  learnt_crossed : (other : Member) (inc : ℕ) (outcome : Outcome) (tx : TransactionValue) → (learnt other inc outcome tx).crossed ≡ tx.crossed
  learnt_crossed other inc outcomes.Commit tx = refl
  learnt_crossed other inc outcomes.Abort tx = refl

  alters_learn : (here : ℕ) (t : Tid) (other : Member) (outcome : Outcome) (book : BookValue) → Alters book (learn here t other outcome book)
  alters_learn here t other outcome book =
      let g : Alters book (with_transaction t (learnt other (inc_at book (record { 0 = here })) outcome) book) =
      alters_transaction t (learnt other (inc_at book (record { 0 = here })) outcome)
      (λ tx h. ap (λ (xs : List (Member × ℕ)). is_some (lookup (is_at (member_cmp member)) xs)) (learnt_crossed other (inc_at book (record { 0 = here })) outcome tx) ∙ h) book in
      record { known = g.known; crossed = g.crossed }

  alters_loan : (inc : ℕ) (t : Tid) (o : Option Member) (book : BookValue) → Alters book (loan_to inc t o book)
  alters_loan inc t None book = alters_self book
  alters_loan inc t (Some other) book = alters_transaction t (lent other inc) (λ tx h. h) book

  alters_yield : (inc : ℕ) (t : Tid) (o : Option Member) (book : BookValue) → Alters book (give_back_from inc t o book)
  alters_yield inc t None book = alters_self book
  alters_yield inc t (Some other) book = alters_transaction t (given_back other inc) (λ tx h. h) book

  alters_hear : (asks : List Asking) (book : BookValue) → Alters book (fold hear book asks)
  alters_hear asks book = alters_all hear (λ x ask. alters_transaction ask.tid (heard ask.node (inc_at x ask.node)) (λ tx h. h) x) asks book

  -- ---- a restart

  learn_alters : (here : ℕ) (t : Tid) (s : ℕ) (book : BookValue) → Alters book (learn_found here t s book)
  learn_alters here t s book =
      alters_if (is_some (record_at here book t s)) book (with_transaction t (with_learnt (member_at here s)) book) book
      (alters_transaction t (with_learnt (member_at here s)) (λ tx h. h) book) (alters_self book)

  commit_alters : (here : ℕ) (book : BookValue) (t : Tid) → Alters book (commit_found here book t)
  commit_alters here book t =
      let a : BookValue = learn_found here t 0 book in
      let b : BookValue = learn_found here t 1 a in
      let c : BookValue = learn_found here t 6 b in
      alters_then book a (decide_found here t c) (learn_alters here t 0 book)
      (alters_then a b (decide_found here t c) (learn_alters here t 1 a)
      (alters_then b c (decide_found here t c) (learn_alters here t 6 b)
      (alters_if (is_open_here here t (find_transaction c t)) c (decide t outcomes.Commit None c) c (alters_decide t outcomes.Commit None c) (alters_self c))))

  vote_alters : (here inc : ℕ) (done : List Tid) (book : BookValue) (f : Found) → Alters book (vote_found here inc done book f)
  vote_alters here inc done book f =
      alters_if (is_among done f.tid) book book (with_transaction f.tid (found_at (member_at here f.server.0) inc f.covers (pending_of (record_at here book f.tid f.server.0))) book) (alters_self book)
      (alters_transaction f.tid (found_at (member_at here f.server.0) inc f.covers (pending_of (record_at here book f.tid f.server.0))) (λ tx h. h) book)

  pub abort_alters : (here inc : ℕ) (book : BookValue) (seq : ℕ) → Alters book (abort_begun here inc book seq)
  abort_alters here inc book seq =
      alters_if (is_open_here here (begun_tid here inc seq) (find_transaction book (begun_tid here inc seq))) book (decide (begun_tid here inc seq) outcomes.Abort (Some (causes.Home inc)) book) book
      (alters_decide (begun_tid here inc seq) outcomes.Abort (Some (causes.Home inc)) book) (alters_self book)

  pub before_aborts : (here inc : ℕ) (pend : List Found) (done : List Tid) (book : BookValue) → Alters book (fold (vote_found here inc done) (fold (commit_found here) book done) pend)
  before_aborts here inc pend done book =
      alters_then book (fold (commit_found here) book done) (fold (vote_found here inc done) (fold (commit_found here) book done) pend)
      (alters_all (commit_found here) (commit_alters here) done book)
      (alters_all (vote_found here inc done) (vote_alters here inc done) pend (fold (commit_found here) book done))

  alters_settled : (here inc : ℕ) (pend : List Found) (done : List Tid) (book : BookValue) → Alters book (settled here inc pend done book)
  alters_settled here inc pend done book =
      alters_then book (fold (vote_found here inc done) (fold (commit_found here) book done) pend) (settled here inc pend done book)
      (before_aborts here inc pend done book)
      (alters_all (abort_begun here (inc_at book (record { 0 = here }))) (abort_alters here (inc_at book (record { 0 = here }))) (up_to (begun_at here book)) (fold (vote_found here inc done) (fold (commit_found here) book done) pend))

  pub restart_alters : (here inc : ℕ) (pend : List Found) (done : List Tid) (book : BookValue) → Alters book (restart here inc pend done book)
  restart_alters here inc pend done book =
      let g : Alters (put_new_votes here pend book) (settled here inc pend done (put_new_votes here pend book)) = alters_settled here inc pend done (put_new_votes here pend book) in
      record { known = g.known; crossed = g.crossed }

  -- ---- a step

  acted_alters : (book : BookValue) (stamp here : ℕ) (node : NodeValue) (act : Act) → begins tid act ≡ false → broken_act book stamp here node act ≡ None → Alters book (effect_act stamp here act book)
  acted_alters book stamp here node (Begin t label client) other h = begin_alters book here t label client other
  acted_alters book stamp here node (Issue t issuer to n_th op) other h = alters_issue here t issuer to n_th op book
  acted_alters book stamp here node (Serve t to from n_th reply) other h =
      let g : Alters book (with_transaction t (served_in (record { link = record { from = from; to = to.node }; number = n_th }) to (inc_at book (record { 0 = here })) stamp (is_done reply)) book) =
      alters_transaction t (served_in (record { link = record { from = from; to = to.node }; number = n_th }) to (inc_at book (record { 0 = here })) stamp (is_done reply)) (λ tx k. k) book in
      record { known = g.known; crossed = g.crossed }
  acted_alters book stamp here node (acts.Vote t to ballot covers) other h =
      let g : Alters book (with_transaction t (voted to (inc_at book (record { 0 = here })) ballot) book) = alters_transaction t (voted to (inc_at book (record { 0 = here })) ballot) (λ tx k. k) book in
      record { known = g.known; crossed = g.crossed }
  acted_alters book stamp here node (Ask t) other h = alters_transaction t (asked_at book.place) (λ tx k. k) book
  acted_alters book stamp here node (Counted t peer upto) other h =
      alters_transaction t (counted (record { from = record { 0 = here }; to = peer }) (inc_at book (record { 0 = here })) upto (inc_at book peer)) (λ tx k. k) book
  acted_alters book stamp here node (Decide t outcome cause) other h = alters_decide t outcome cause book
  acted_alters book stamp here node (Ending t to) other h =
      let g : Alters book (with_transaction t (ended to (inc_at book (record { 0 = here }))) book) = alters_transaction t (ended to (inc_at book (record { 0 = here }))) (λ tx k. k) book in
      record { known = g.known; crossed = g.crossed }
  acted_alters book stamp here node (Learn t to outcome) other h = alters_learn here t to outcome book
  acted_alters book stamp here node (Answer client line said) other h =
      let first : BookValue = with_owner client.0 (λ (owner : Owner). record owner { line = line; waiting = [] }) book in
      alters_then book first (answer client line book) (alters_same book first refl) (alters_hear (waiting_of (slice_get book.owners client.0)) first)
  acted_alters book stamp here node (Loan t client) other h = alters_loan (inc_at book (record { 0 = here })) t (borrower_at client here) book
  acted_alters book stamp here node (Yield t client) other h = alters_yield (inc_at book (record { 0 = here })) t (borrower_at client here) book
  acted_alters book stamp here node Tick other h = alters_same book (with_node here (tick_node stamp) book) refl
  acted_alters book stamp here node (Crash cause) other h = alters_same book (with_node here (crash_node book.place) book) refl
  acted_alters book stamp here node (Restart inc pend done) other h = absurd (cc h)

  node_alters : (book : BookValue) (stamp here : ℕ) (node : NodeValue) (act : Act) → begins tid act ≡ false → broken_node book stamp here node act ≡ None → Alters book (effect_act stamp here act book)
  node_alters book stamp here node (Restart inc pend done) other h = restart_alters here inc pend done book
  node_alters book stamp here node act other h = acted_alters book stamp here node act other (held node.up 2 (broken_act book stamp here node act) h).1

  node_grows : (book : BookValue) (stamp here : ℕ) (node : NodeValue) (act : Act) → Inv book → slice_get book.nodes here ≡ Some node → broken_node book stamp here node act ≡ None → Grows book (effect_act stamp here act book)
  node_grows book stamp here node (Begin t label client) i at h = begin_grows book here t label client node i at (held node.up 2 (broken_act book stamp here node (Begin t label client)) h).1
  node_grows book stamp here node act i at h = grown book (effect_act stamp here act book) (node_alters book stamp here node act refl h)

  at_alters : (book : BookValue) (stamp here : ℕ) (o : Option NodeValue) (act : Act) → begins tid act ≡ false → broken_at book stamp here o act ≡ None → Alters book (effect_act stamp here act book)
  at_alters book stamp here None act other h = absurd (cc h)
  at_alters book stamp here (Some node) act other h = node_alters book stamp here node act other h

  at_grows : (book : BookValue) (stamp here : ℕ) (o : Option NodeValue) (act : Act) → Inv book → slice_get book.nodes here ≡ o → broken_at book stamp here o act ≡ None → Grows book (effect_act stamp here act book)
  at_grows book stamp here None act i at h = absurd (cc h)
  at_grows book stamp here (Some node) act i at h = node_grows book stamp here node act i at h

  pub step_alters : (book : BookValue) (entry : Entry) → begins tid entry.act ≡ false → broken book entry ≡ None → Alters book (effect book entry)
  step_alters book entry other h =
      let a : Alters book (effect_act entry.stamp entry.node.0 entry.act book) = at_alters book entry.stamp entry.node.0 (slice_get book.nodes entry.node.0) entry.act other (held (is_in_order book entry) 1 _ h).1 in
      record { known = a.known; crossed = a.crossed }

  pub step_grows : (book : BookValue) (entry : Entry) → Inv book → broken book entry ≡ None → Grows book (effect book entry)
  step_grows book entry i h =
      let g : Grows book (effect_act entry.stamp entry.node.0 entry.act book) = at_grows book entry.stamp entry.node.0 (slice_get book.nodes entry.node.0) entry.act i refl (held (is_in_order book entry) 1 _ h).1 in
      record { known = g.known; crossed = g.crossed }
