-- What an entry does to one transaction: what holds of it turns, act by act, into what the act's own change gives.
use Rattle.qs_book_laws.proofs.Words.{◌≡◌, ℕ, Bool, true, false, List, [], ◌∷◌, Option, Some, None, refl, sym, ap, subst, ◌∙◌, fold, if◌then◌else◌, is_some, slice_get, option_map, lookup, is_at, tid_cmp, same_tid, ClientNo, Member, NodeNo, Outcome, Tid, same_tid-true, tid_exact, Cause, Op, Act, Begin, Issue, Serve, Ask, Counted, Decide, Ending, Learn, Loan, Yield, Tick, Crash, Restart, Entry, Found, TransactionValue, begun, issued, asked_at, counted, ended, learnt, lent, given_back, voted}
use Rattle.qs_book_laws.proofs.Words.{served_in, decided_at, heard, with_learnt, found_at, Request, RequestNo, BookValue, find_transaction, with_owner, with_transaction, with_waiting, crosses, begin, issue, hear, answer, waiting_of, inc_at, is_done, ticks_at, decide, loan_to, give_back_from, link_to, borrower_at, is_in_order, broken_act, broken_node, broken_at, broken, effect_act, effect, NodeValue, restart, put_new_votes, up_to, begun_at, abort_begun, vote_found, commit_found, learn_found}
use Rattle.qs_book_laws.proofs.Words.{is_among, is_open_here, begun_tid, record_at, member_at, count_of as pending_of, Owner}
use Rattle.qs_base.specs.declared.identifiers.Outcome.TheVariants as outcomes
use Rattle.qs_ops.specs.declared.answer.Cause.TheVariants as causes
use Rattle.qs_book_journal.specs.declared.entry.Act.TheVariants.{Answer}
use Rattle.qs_book_journal.specs.declared.entry.Act.TheVariants as acts
use Rattle.qs_book_laws.proofs.Alikes.{at_exact}
use Rattle.qs_book_laws.proofs.Faces.{face}
use Rattle.qs_book_laws.proofs.Holding.{crossing_transactions, waiting_transactions}
use Rattle.qs_book_laws.proofs.Maps.{lookup_changed, changed_apart, lookup_put_apart}
use Rattle.qs_book_laws.proofs.Outcomes.{Inv, is_new}
use Rattle.qs_book_laws.proofs.Ready.{apart_tid}
use Rattle.qs_book_laws.proofs.Steps.{begin_may, held}

-- the transaction is known, and that holds of it
pub record Stands (tid : Tid) (P : TransactionValue → Type 0) (book : BookValue) : Type 0 where
  pub tx : TransactionValue
  pub found : find_transaction book tid ≡ Some tx
  pub holds : P tx

abbrev pub Same : (TransactionValue → Type 0) → (TransactionValue → Type 0) → Type 0
Same P Q = (tx : TransactionValue) → P tx → Q tx

-- what a change of the transaction `t` makes of this one
pub record Gives (tid : Tid) (P Q : TransactionValue → Type 0) (book : BookValue) (t : Tid) (f : TransactionValue → TransactionValue) : Type 0 where
  pub own : same_tid t tid ≡ true → (tx : TransactionValue) → find_transaction book tid ≡ Some tx → P tx → Q (f tx)
  pub other : same_tid t tid ≡ false → Same P Q

-- and a change for a member, where there is one
abbrev pub GivesFor : Tid → (TransactionValue → Type 0) → (TransactionValue → Type 0) → BookValue → Tid → (Member → TransactionValue → TransactionValue) → Option Member → Type 0
GivesFor tid P Q book t f None = Same P Q
GivesFor tid P Q book t f (Some other) = Gives tid P Q book t (f other)

-- a restart of the node into the incarnation leaves it
pub record Survives (P : TransactionValue → Type 0) (here inc : ℕ) : Type 0 where
  pub learnt : (member : Member) (tx : TransactionValue) → P tx → P (with_learnt member tx)
  pub decided : (place : ℕ) (outcome : Outcome) (cause : Option Cause) (tx : TransactionValue) → P tx → P (decided_at place outcome cause tx)
  pub found : (server covers changes : ℕ) (tx : TransactionValue) → P tx → P (found_at (member_at here server) inc covers changes tx)

module _ (tid : Tid) where
  pub stands_as : (P : TransactionValue → Type 0) (old new : BookValue) → new.transactions ≡ old.transactions → Stands tid P old → Stands tid P new
  stands_as P old new same s = record {
    tx = s.tx;
    found = ap (λ (ts : List (Tid × TransactionValue)). lookup (is_at (tid_cmp tid)) ts) same ∙ s.found;
    holds = s.holds;
  }

  pub stands_by : (P Q : TransactionValue → Type 0) (book : BookValue) → Same P Q → Stands tid P book → Stands tid Q book
  stands_by P Q book same s = record { tx = s.tx; found = s.found; holds = same s.tx s.holds }

  pub turn : (P Q : TransactionValue → Type 0) (book : BookValue) (t : Tid) (f : TransactionValue → TransactionValue) → Gives tid P Q book t f → Stands tid P book → Stands tid Q (with_transaction t f book)
  turn P Q book t f g s = by (same_tid t tid) refl
    where
      by : (b : Bool) → same_tid t tid ≡ b → Stands tid Q (with_transaction t f book)
      by true same = record {
        tx = f s.tx;
        found = subst (λ (x : Tid). find_transaction (with_transaction x f book) tid ≡ Some (f s.tx)) (sym (same_tid-true t tid same)) (lookup_changed (is_at (tid_cmp tid)) f book.transactions s.tx s.found);
        holds = g.own same s.tx s.found s.holds;
      }
      by false apart = record {
        tx = s.tx;
        found = changed_apart (is_at (tid_cmp t)) (is_at (tid_cmp tid)) (apart_tid t tid apart) f book.transactions ∙ s.found;
        holds = g.other apart s.tx s.holds;
      }

  -- what each change of it leaves
  pub kept_by : (P : TransactionValue → Type 0) (book : BookValue) (t : Tid) (f : TransactionValue → TransactionValue) → ((tx : TransactionValue) → P tx → P (f tx)) → Stands tid P book → Stands tid P (with_transaction t f book)
  kept_by P book t f keeps s = turn P P book t f (record { own = λ same tx found p. keeps tx p; other = λ apart tx p. p }) s

  pub kept_all : {A : Type 0} (P : TransactionValue → Type 0) (f : BookValue → A → BookValue) → ((book : BookValue) (x : A) → Stands tid P book → Stands tid P (f book x)) → (xs : List A) (book : BookValue) → Stands tid P book → Stands tid P (fold f book xs)
  kept_all P f each [] book s = s
  kept_all P f each (x ∷ xs) book s = kept_all P f each xs (f book x) (each book x s)

  kept_if : (P : TransactionValue → Type 0) (b : Bool) (x y : BookValue) → Stands tid P x → Stands tid P y → Stands tid P (if b then x else y)
  kept_if P true x y p q = p
  kept_if P false x y p q = q

  -- ---- a restart

  module _ (P : TransactionValue → Type 0) (here inc : ℕ) (v : Survives P here inc) where
    kept_decide : (t : Tid) (outcome : Outcome) (cause : Option Cause) (book : BookValue) → Stands tid P book → Stands tid P (decide t outcome cause book)
    kept_decide t outcome cause book s =
        stands_as P (with_transaction t (decided_at book.place outcome cause) book) (decide t outcome cause book) refl
        (kept_by P book t (decided_at book.place outcome cause) (v.decided book.place outcome cause) s)

    kept_learn : (t : Tid) (server : ℕ) (book : BookValue) → Stands tid P book → Stands tid P (learn_found here t server book)
    kept_learn t server book s =
        kept_if P (is_some (record_at here book t server)) (with_transaction t (with_learnt (member_at here server)) book) book
        (kept_by P book t (with_learnt (member_at here server)) (v.learnt (member_at here server)) s) s

    pub kept_commit : (book : BookValue) (t : Tid) → Stands tid P book → Stands tid P (commit_found here book t)
    kept_commit book t s =
        kept_if P (is_open_here here t (find_transaction last t)) (decide t outcomes.Commit None last) last (kept_decide t outcomes.Commit None last at_last) at_last
      where
        last : BookValue
        last = learn_found here t 6 (learn_found here t 1 (learn_found here t 0 book))

        at_last : Stands tid P last
        at_last = kept_learn t 6 (learn_found here t 1 (learn_found here t 0 book)) (kept_learn t 1 (learn_found here t 0 book) (kept_learn t 0 book s))

    pub kept_vote : (done : List Tid) (book : BookValue) (found : Found) → Stands tid P book → Stands tid P (vote_found here inc done book found)
    kept_vote done book found s =
        kept_if P (is_among done found.tid) book (with_transaction found.tid f book) s (kept_by P book found.tid f (v.found found.server.0 found.covers (pending_of (record_at here book found.tid found.server.0))) s)
      where
        f : TransactionValue → TransactionValue
        f = found_at (member_at here found.server.0) inc found.covers (pending_of (record_at here book found.tid found.server.0))

    pub kept_abort : (old : ℕ) (book : BookValue) (seq : ℕ) → Stands tid P book → Stands tid P (abort_begun here old book seq)
    kept_abort old book seq s =
        kept_if P (is_open_here here (begun_tid here old seq) (find_transaction book (begun_tid here old seq))) (decide (begun_tid here old seq) outcomes.Abort (Some (causes.Home old)) book) book
        (kept_decide (begun_tid here old seq) outcomes.Abort (Some (causes.Home old)) book s) s

    pub kept_restart : (pend : List Found) (done : List Tid) (book : BookValue) → Stands tid P book → Stands tid P (restart here inc pend done book)
    kept_restart pend done book s =
        stands_as P settled (restart here inc pend done book) refl
        (kept_all P (abort_begun here old) (kept_abort old) (up_to (begun_at here mid)) (fold (vote_found here inc done) (fold (commit_found here) mid done) pend)
        (kept_all P (vote_found here inc done) (kept_vote done) pend (fold (commit_found here) mid done)
        (kept_all P (commit_found here) kept_commit done mid (stands_as P book mid refl s))))
      where
        mid : BookValue
        mid = put_new_votes here pend book

        old : ℕ
        old = inc_at mid (record { 0 = here })

        settled : BookValue
        settled = fold (abort_begun here old) (fold (vote_found here inc done) (fold (commit_found here) mid done) pend) (up_to (begun_at here mid))

  -- ---- the other acts

  module _ (P Q : TransactionValue → Type 0) where
    -- what each act has to give
    abbrev pub Obliged : BookValue → ℕ → ℕ → Act → Type 0
    Obliged book stamp here (Issue t issuer other n op) =
        Gives tid P Q book t
        (issued (record { link = link_to here other; number = n }) (record { issuer = issuer; member = other; op = op; inc = inc_at book (record { 0 = here }); served = false }) (inc_at book other.node) book.place)
    Obliged book stamp here (Serve t other from n reply) =
        Gives tid P Q book t (served_in (record { link = record { from = from; to = other.node }; number = n }) other (inc_at book (record { 0 = here })) stamp (is_done reply))
    Obliged book stamp here (acts.Vote t other ballot covers) = Gives tid P Q book t (voted other (inc_at book (record { 0 = here })) ballot)
    Obliged book stamp here (Ask t) = Gives tid P Q book t (asked_at book.place)
    Obliged book stamp here (Counted t peer so_far) = Gives tid P Q book t (counted (record { from = record { 0 = here }; to = peer }) (inc_at book (record { 0 = here })) so_far (inc_at book peer))
    Obliged book stamp here (Decide t outcome cause) = Gives tid P Q book t (decided_at book.place outcome cause)
    Obliged book stamp here (Ending t other) = Gives tid P Q book t (ended other (inc_at book (record { 0 = here })))
    Obliged book stamp here (Learn t other outcome) = Gives tid P Q book t (learnt other (inc_at book (record { 0 = here })) outcome)
    Obliged book stamp here (Answer client line said) = ((node : NodeNo) (inc : ℕ) (tx : TransactionValue) → P tx → P (heard node inc tx)) × Same P Q
    Obliged book stamp here (Loan t client) = GivesFor tid P Q book t (λ other. lent other (inc_at book (record { 0 = here }))) (borrower_at client here)
    Obliged book stamp here (Yield t client) = GivesFor tid P Q book t (λ other. given_back other (inc_at book (record { 0 = here }))) (borrower_at client here)
    Obliged book stamp here (Restart inc pend done) = Survives P here inc × Same P Q
    Obliged book stamp here act = Same P Q

    turn_begin : (book : BookValue) (here : ℕ) (node : NodeValue) (t : Tid) (label : List ℕ) (client : ClientNo) → Inv book → slice_get book.nodes here ≡ Some node → broken_act book 0 here node (Begin t label client) ≡ None
        → Same P Q → Stands tid P book → Stands tid Q (begin here t label client book)
    turn_begin book here node t label client i at h same s = by (is_at (tid_cmp tid) t) refl
      where
        by : (b : Bool) → is_at (tid_cmp tid) t ≡ b → Stands tid Q (begin here t label client book)
        by true is =
            let there : find_transaction book t ≡ Some s.tx = ap (find_transaction book) (sym (at_exact tid t is)) ∙ s.found in
            absurd (is_new book here node t label client i at (begin_may here node book.labels t label h) (face s.tx) (ap (λ (o : Option TransactionValue). option_map face o) there))
        by false apart = record {
          tx = s.tx;
          found = lookup_put_apart tid_cmp t (begun label client (ticks_at (slice_get book.nodes here))) (λ x. tid_exact t x) (is_at (tid_cmp tid)) apart book.transactions ∙ s.found;
          holds = same s.tx s.holds;
        }

    turn_issue : (here : ℕ) (t : Tid) (issuer other : Member) (n : ℕ) (op : Op) (book : BookValue) (stamp : ℕ) → Obliged book stamp here (Issue t issuer other n op) → Stands tid P book → Stands tid Q (issue here t issuer other n op book)
    turn_issue here t issuer other n op book stamp g s =
        stands_as Q one (issue here t issuer other n op book)
        (crossing_transactions (crosses (find_transaction book t) no other) t other (with_waiting t issuer other one) ∙ waiting_transactions t issuer other one)
        (turn P Q book t (issued no request (inc_at book other.node) book.place) g s)
      where
        no : RequestNo
        no = record { link = link_to here other; number = n }

        request : Request
        request = record { issuer = issuer; member = other; op = op; inc = inc_at book (record { 0 = here }); served = false }

        one : BookValue
        one = with_transaction t (issued no request (inc_at book other.node) book.place) book

    turn_loan : (inc : ℕ) (t : Tid) (o : Option Member) (book : BookValue) → GivesFor tid P Q book t (λ other. lent other inc) o → Stands tid P book → Stands tid Q (loan_to inc t o book)
    turn_loan inc t None book same s = stands_by P Q book same s
    turn_loan inc t (Some other) book g s = turn P Q book t (lent other inc) g s

    turn_yield : (inc : ℕ) (t : Tid) (o : Option Member) (book : BookValue) → GivesFor tid P Q book t (λ other. given_back other inc) o → Stands tid P book → Stands tid Q (give_back_from inc t o book)
    turn_yield inc t None book same s = stands_by P Q book same s
    turn_yield inc t (Some other) book g s = turn P Q book t (given_back other inc) g s

    turn_act : (book : BookValue) (stamp here : ℕ) (node : NodeValue) (act : Act) → Inv book → slice_get book.nodes here ≡ Some node → broken_act book stamp here node act ≡ None
        → Obliged book stamp here act → Stands tid P book → Stands tid Q (effect_act stamp here act book)
    turn_act book stamp here node (Begin t label client) i at h g s = turn_begin book here node t label client i at h g s
    turn_act book stamp here node (Issue t issuer other n op) i at h g s = turn_issue here t issuer other n op book stamp g s
    turn_act book stamp here node (Serve t other from n reply) i at h g s =
        let f : TransactionValue → TransactionValue = served_in (record { link = record { from = from; to = other.node }; number = n }) other (inc_at book (record { 0 = here })) stamp (is_done reply) in
        stands_as Q (with_transaction t f book) (effect_act stamp here (Serve t other from n reply) book) refl (turn P Q book t f g s)
    turn_act book stamp here node (acts.Vote t other ballot covers) i at h g s =
        let f : TransactionValue → TransactionValue = voted other (inc_at book (record { 0 = here })) ballot in
        stands_as Q (with_transaction t f book) (effect_act stamp here (acts.Vote t other ballot covers) book) refl (turn P Q book t f g s)
    turn_act book stamp here node (Ask t) i at h g s = turn P Q book t (asked_at book.place) g s
    turn_act book stamp here node (Counted t peer so_far) i at h g s =
        turn P Q book t (counted (record { from = record { 0 = here }; to = peer }) (inc_at book (record { 0 = here })) so_far (inc_at book peer)) g s
    turn_act book stamp here node (Decide t outcome cause) i at h g s =
        stands_as Q (with_transaction t (decided_at book.place outcome cause) book) (decide t outcome cause book) refl (turn P Q book t (decided_at book.place outcome cause) g s)
    turn_act book stamp here node (Ending t other) i at h g s =
        let f : TransactionValue → TransactionValue = ended other (inc_at book (record { 0 = here })) in
        stands_as Q (with_transaction t f book) (effect_act stamp here (Ending t other) book) refl (turn P Q book t f g s)
    turn_act book stamp here node (Learn t other outcome) i at h g s =
        let f : TransactionValue → TransactionValue = learnt other (inc_at book (record { 0 = here })) outcome in
        stands_as Q (with_transaction t f book) (effect_act stamp here (Learn t other outcome) book) refl (turn P Q book t f g s)
    turn_act book stamp here node (Answer client line said) i at h g s =
        let first : BookValue = with_owner client.0 (λ (owner : Owner). record owner { line = line; waiting = [] }) book in
        stands_by P Q (answer client line book) g.1
        (kept_all P hear (λ b ask. kept_by P b ask.tid (heard ask.node (inc_at b ask.node)) (g.0 ask.node (inc_at b ask.node))) (waiting_of (slice_get book.owners client.0)) first (stands_as P book first refl s))
    turn_act book stamp here node (Loan t client) i at h g s = turn_loan (inc_at book (record { 0 = here })) t (borrower_at client here) book g s
    turn_act book stamp here node (Yield t client) i at h g s = turn_yield (inc_at book (record { 0 = here })) t (borrower_at client here) book g s
    turn_act book stamp here node Tick i at h g s = stands_as Q book (effect_act stamp here Tick book) refl (stands_by P Q book g s)
    turn_act book stamp here node (Crash cause) i at h g s = stands_as Q book (effect_act stamp here (Crash cause) book) refl (stands_by P Q book g s)
    turn_act book stamp here node (Restart inc pend done) i at h g s = absurd (cc h)

    turn_node : (book : BookValue) (stamp here : ℕ) (node : NodeValue) (act : Act) → Inv book → slice_get book.nodes here ≡ Some node → broken_node book stamp here node act ≡ None
        → Obliged book stamp here act → Stands tid P book → Stands tid Q (effect_act stamp here act book)
    turn_node book stamp here node (Restart inc pend done) i at h g s = stands_by P Q (restart here inc pend done book) g.1 (kept_restart P here inc g.0 pend done book s)
    turn_node book stamp here node act i at h g s = turn_act book stamp here node act i at (held node.up 2 (broken_act book stamp here node act) h).1 g s

    turn_at : (book : BookValue) (stamp here : ℕ) (o : Option NodeValue) (act : Act) → Inv book → slice_get book.nodes here ≡ o → broken_at book stamp here o act ≡ None
        → Obliged book stamp here act → Stands tid P book → Stands tid Q (effect_act stamp here act book)
    turn_at book stamp here None act i at h g s = absurd (cc h)
    turn_at book stamp here (Some node) act i at h g s = turn_node book stamp here node act i at h g s

    pub step_turns : (book : BookValue) (entry : Entry) → Inv book → broken book entry ≡ None → Obliged book entry.stamp entry.node.0 entry.act → Stands tid P book → Stands tid Q (effect book entry)
    step_turns book entry i h g s =
        stands_as Q (effect_act entry.stamp entry.node.0 entry.act book) (effect book entry) refl
        (turn_at book entry.stamp entry.node.0 (slice_get book.nodes entry.node.0) entry.act i refl (held (is_in_order book entry) 1 _ h).1 g s)
