-- A transaction of which every request was served, and that isn't crossed at a member, stays so once it is committed.
use Rattle.qs_book_laws.proofs.Words.{◌≡◌, ℕ, Bool, true, false, not, List, [], ◌∷◌, ◌==◌, ◌&&◌, Option, Some, None, refl, sym, ap, subst, ◌∙◌, fold, nat_lt, if◌then◌else◌, slice_get, length, unwrap_or, is_some, list_all, find, option_map, lookup, is_at, Equal, tid_cmp, same_tid, member_cmp, same_member, ClientNo, Member, NodeNo, Outcome, Tid, same_tid-true, Cause, Op, Reply, Vote, class_of, is_two_phase, Act, Begin, Issue, Serve, Ask, Counted, Decide, Ending, Learn, Loan, Yield, Tick, Crash}
use Rattle.qs_book_laws.proofs.Words.{Restart, Entry, Found, TransactionValue, is_commit, is_crossed, is_empty, is_unanimous, all_served, is_standing, standing_request, request_cmp, part_of, learnt, with_learnt, found_at, decided_at, issued, served_in, begun, agrees, Part, Request, RequestNo, BookValue, find_transaction, crossed_in, cell_of_transaction, with_transaction, with_waiting, crosses, decide, begin, ticks_at, issue, serve, hear, waiting_of, loan_to, give_back_from, inc_at, is_done}
use Rattle.qs_book_laws.proofs.Words.{with_owner, link_to, borrower_at, broken_issue, is_numbered, broken_issuer, broken_serve, broken_vote, is_vote_due, is_in_order, broken_act, broken_node, broken_at, broken, effect_act, effect, NodeValue, is_among, member_at, record_at, is_open_here, learn_found, decide_found, commit_found, vote_found, begun_tid, abort_begun, up_to, begun_at, put_new_votes, restart, count_of as pending_of, Owner, IsCommitted, crossed_at}
use Rattle.qs_base.specs.declared.identifiers.Outcome.TheVariants as outcomes
use Rattle.qs_ops.specs.declared.answer.Cause.TheVariants as causes
use Rattle.qs_book_journal.specs.declared.entry.Act.TheVariants.{Answer}
use Rattle.qs_book_journal.specs.declared.entry.Act.TheVariants as acts
use Rattle.qs_book_machine.specs.Transaction.{is_served}
use Rattle.qs_book_machine.specs.declared.transaction.Cell.TheVariants as cells
use Rattle.qs_book_machine.specs.Clauses.{broken_request, request_here}
use Rattle.qs_book_laws.proofs.Acts as alike
use Rattle.qs_book_laws.proofs.Alikes.{at_exact}
use Rattle.qs_book_laws.proofs.Faces.{face}
use Rattle.qs_book_laws.proofs.Found.{entry_passes}
use Rattle.qs_book_laws.proofs.Holding.{clash, left_of, right_of, crossing_transactions, waiting_transactions}
use Rattle.qs_book_laws.proofs.Maps.{changed_alike, changed_apart, lookup_put_apart}
use Rattle.qs_book_laws.proofs.Outcomes.{Inv, is_new}
use Rattle.qs_book_laws.proofs.Shares.{at_other, same_tid_swapped}
use Rattle.qs_book_laws.proofs.Steps.{begin_may, held, passed}
use Rattle.qs_book_laws.proofs.Takes.{some_same}
use Rattle.qs_book_laws.proofs.Unanimous.{alike_back}

-- ---- requests and crossings

-- what of a transaction says whether requests stand, and where it is crossed
record Seal : Type 0 where
  pub requests : List (RequestNo × List Request)
  pub crossed : List (Member × ℕ)

abbrev seal : TransactionValue → Seal
seal tx = record { requests = tx.requests; crossed = tx.crossed }

abbrev seal_at : BookValue → Tid → Option Seal
seal_at book tid = option_map seal (find_transaction book tid)

abbrev Seals : BookValue → BookValue → Type 0
Seals old new = (tid : Tid) → seal_at new tid ≡ seal_at old tid

seals_then : (old mid new : BookValue) → Seals old mid → Seals mid new → Seals old new
seals_then old mid new a b tid = b tid ∙ a tid

transaction_seals : (t : Tid) (f : TransactionValue → TransactionValue) → ((tx : TransactionValue) → seal (f tx) ≡ seal tx) → (book : BookValue) → Seals book (with_transaction t f book)
transaction_seals t f keeps book tid = changed_alike (is_at (tid_cmp t)) seal f keeps (is_at (tid_cmp tid)) book.transactions

either_seals : (b : Bool) (old x y : BookValue) → Seals old x → Seals old y → Seals old (if b then x else y)
either_seals true old x y p q = p
either_seals false old x y p q = q

seals_all : {A : Type 0} (f : BookValue → A → BookValue) → ((book : BookValue) (x : A) → Seals book (f book x)) → (xs : List A) (book : BookValue) → Seals book (fold f book xs)
seals_all f each [] book = λ tid. refl
seals_all f each (x ∷ xs) book = seals_then book (f book x) (fold f (f book x) xs) (each book x) (seals_all f each xs (f book x))

decide_seals : (t : Tid) (outcome : Outcome) (cause : Option Cause) (book : BookValue) → Seals book (decide t outcome cause book)
decide_seals t outcome cause book tid = transaction_seals t (decided_at book.place outcome cause) (λ tx. refl) book tid

learn_found_seals : (here : ℕ) (t : Tid) (server : ℕ) (book : BookValue) → Seals book (learn_found here t server book)
learn_found_seals here t server book =
    either_seals (is_some (record_at here book t server)) book (with_transaction t (with_learnt (member_at here server)) book) book
    (transaction_seals t (with_learnt (member_at here server)) (λ tx. refl) book) (λ tid. refl)

commit_found_seals : (here : ℕ) (book : BookValue) (t : Tid) → Seals book (commit_found here book t)
commit_found_seals here book t =
    seals_then book a (decide_found here t c) (learn_found_seals here t 0 book)
    (seals_then a b (decide_found here t c) (learn_found_seals here t 1 a)
    (seals_then b c (decide_found here t c) (learn_found_seals here t 6 b)
    (either_seals (is_open_here here t (find_transaction c t)) c (decide t outcomes.Commit None c) c (decide_seals t outcomes.Commit None c) (λ tid. refl))))
  where
    a : BookValue
    a = learn_found here t 0 book

    b : BookValue
    b = learn_found here t 1 a

    c : BookValue
    c = learn_found here t 6 b

vote_found_seals : (here inc : ℕ) (done : List Tid) (book : BookValue) (found : Found) → Seals book (vote_found here inc done book found)
vote_found_seals here inc done book found =
    either_seals (is_among done found.tid) book book (with_transaction found.tid f book) (λ tid. refl) (transaction_seals found.tid f (λ tx. refl) book)
  where
    f : TransactionValue → TransactionValue
    f = found_at (member_at here found.server.0) inc found.covers (pending_of (record_at here book found.tid found.server.0))

abort_begun_seals : (here inc : ℕ) (book : BookValue) (seq : ℕ) → Seals book (abort_begun here inc book seq)
abort_begun_seals here inc book seq =
    either_seals (is_open_here here (begun_tid here inc seq) (find_transaction book (begun_tid here inc seq))) book (decide (begun_tid here inc seq) outcomes.Abort (Some (causes.Home inc)) book) book
    (decide_seals (begun_tid here inc seq) outcomes.Abort (Some (causes.Home inc)) book) (λ tid. refl)

restart_seals : (here inc : ℕ) (pend : List Found) (done : List Tid) (book : BookValue) → Seals book (restart here inc pend done book)
restart_seals here inc pend done book =
    seals_then mid one last (seals_all (commit_found here) (commit_found_seals here) done mid)
    (seals_then one two last (seals_all (vote_found here inc done) (vote_found_seals here inc done) pend one)
    (seals_all (abort_begun here (inc_at mid (record { 0 = here }))) (abort_begun_seals here (inc_at mid (record { 0 = here }))) (up_to (begun_at here mid)) two))
  where
    mid : BookValue
    mid = put_new_votes here pend book

    one : BookValue
    one = fold (commit_found here) mid done

    two : BookValue
    two = fold (vote_found here inc done) one pend

    last : BookValue
    last = restart here inc pend done book

learnt_seal : (member : Member) (inc : ℕ) (outcome : Outcome) (tx : TransactionValue) → seal (learnt member inc outcome tx) ≡ seal tx
learnt_seal member inc outcomes.Commit tx = refl
learnt_seal member inc outcomes.Abort tx = refl

loan_seals : (inc : ℕ) (t : Tid) (o : Option Member) (book : BookValue) → Seals book (loan_to inc t o book)
loan_seals inc t None book = λ tid. refl
loan_seals inc t (Some client) book = transaction_seals t _ (λ tx. refl) book

yield_seals : (inc : ℕ) (t : Tid) (o : Option Member) (book : BookValue) → Seals book (give_back_from inc t o book)
yield_seals inc t None book = λ tid. refl
yield_seals inc t (Some client) book = transaction_seals t _ (λ tx. refl) book

-- ---- ready

pub record Ready (book : BookValue) (tid : Tid) (member : Member) : Type 0 where
  pub tx : TransactionValue
  pub found : find_transaction book tid ≡ Some tx
  pub served : all_served tx ≡ true
  pub plain : is_crossed tx member ≡ false

-- a unanimous transaction is crossed nowhere
pub unanimous_plain : (tx : TransactionValue) (member : Member) → is_unanimous tx ≡ true → is_crossed tx member ≡ false
unanimous_plain tx member h =
    none tx.crossed (right_of (is_empty tx.refusals) (is_empty tx.crossed)
    (right_of (list_all agrees tx.parts) (is_empty tx.refusals && is_empty tx.crossed) (right_of (is_some tx.asked && all_served tx) _ h)))
  where
    none : (crossed : List (Member × ℕ)) → is_empty crossed ≡ true → is_some (lookup (is_at (member_cmp member)) crossed) ≡ false
    none [] e = refl
    none (x ∷ crossed) e = absurd (cc e)

-- and ready
pub unanimous_ready : (book : BookValue) (tid : Tid) (member : Member) (tx : TransactionValue) → find_transaction book tid ≡ Some tx → is_unanimous tx ≡ true → Ready book tid member
unanimous_ready book tid member tx found h = record {
  tx = tx;
  found = found;
  served = right_of (is_some tx.asked) (all_served tx) (left_of (is_some tx.asked && all_served tx) (list_all agrees tx.parts && (is_empty tx.refusals && is_empty tx.crossed)) h);
  plain = unanimous_plain tx member h;
}

pub ready_plain : (book : BookValue) (tid : Tid) (member : Member) → Ready book tid member → crossed_at book tid member ≡ false
ready_plain book tid member r = ap (λ (o : Option TransactionValue). crossed_in o member) r.found ∙ r.plain

ready_over : (old new : BookValue) (tid : Tid) (member : Member) → seal_at new tid ≡ seal_at old tid → Ready old tid member → Ready new tid member
ready_over old new tid member same r = of (find_transaction new tid) refl (same ∙ ap (option_map seal) r.found)
  where
    of : (o : Option TransactionValue) → find_transaction new tid ≡ o → option_map seal o ≡ Some (seal r.tx) → Ready new tid member
    of None is e = absurd (cc e)
    of (Some tx) is e =
        let s : seal tx ≡ seal r.tx = some_same (seal tx) (seal r.tx) e in
        record {
          tx = tx;
          found = is;
          served = ap (λ (x : Seal). list_all (λ (entry : RequestNo × List Request). list_all is_served entry.1) x.requests) s ∙ r.served;
          plain = ap (λ (x : Seal). is_some (lookup (is_at (member_cmp member)) x.crossed)) s ∙ r.plain;
        }

-- ---- what doesn't come

none_standing : (member : Member) (requests : List Request) → list_all is_served requests ≡ true → find (is_standing member) requests ≡ None
none_standing member [] h = refl
none_standing member (request ∷ requests) h =
    by (request.served) (same_member request.member member) refl refl (left_of request.served (list_all is_served requests) h)
    (none_standing member requests (right_of request.served (list_all is_served requests) h))
  where
    by : (b c : Bool) → request.served ≡ b → same_member request.member member ≡ c → b ≡ true → find (is_standing member) requests ≡ None → find (is_standing member) (request ∷ requests) ≡ None
    by false c is at served more = absurd (cc served)
    by true true is at served more = rw (at, is) more
    by true false is at served more = rw at more

pub served_standing : (tx : TransactionValue) (at : RequestNo) (member : Member) → all_served tx ≡ true → standing_request tx at member ≡ None
served_standing tx at member h = by (lookup (is_at (request_cmp at)) tx.requests) refl
  where
    each : RequestNo × List Request → Bool
    each entry = list_all is_served entry.1

    by : (o : Option (List Request)) → lookup (is_at (request_cmp at)) tx.requests ≡ o → find (is_standing member) (unwrap_or (lookup (is_at (request_cmp at)) tx.requests) []) ≡ None
    by None is = rw is refl
    by (Some requests) is =
        let passes : (k : RequestNo) × (is_at (request_cmp at) k ≡ true) × (each (k, requests) ≡ true) = entry_passes (is_at (request_cmp at)) each tx.requests requests is h in
        rw is (none_standing member requests passes.2)

-- nothing is served any more for it
pub no_serve : (book : BookValue) (here : ℕ) (node : NodeValue) (tid : Tid) (member other : Member) (from n : ℕ) (reply : Reply) → Ready book tid member → broken_serve here node book.transactions tid (find_transaction book tid) other from n reply ≡ None → ⊥
no_serve book here node tid member other from n reply r h = of (request_here here r.tx other from n) (none (other.node.0 == here)) (subst (λ (o : Option TransactionValue). broken_serve here node book.transactions tid o other from n reply ≡ None) r.found h)
  where
    at : RequestNo
    at = record { link = link_to from other; number = n }

    none : (b : Bool) → (if b then standing_request r.tx at other else None) ≡ None
    none true = served_standing r.tx at other r.served
    none false = refl

    of : (o : Option Request) → o ≡ None → broken_request here node book.transactions tid r.tx other o reply ≡ None → ⊥
    of None is k = absurd (cc k)
    of (Some request) is k = absurd (cc is)

commit_is : (o : Option TransactionValue) (tx : TransactionValue) → cell_of_transaction o ≡ Some cells.Commit → o ≡ Some tx → is_commit tx.cell ≡ true
commit_is o tx is e = let c : Some tx.cell ≡ Some cells.Commit = ap cell_of_transaction (sym e) ∙ is in ap is_commit (some_same tx.cell cells.Commit c)

-- nothing is issued for a committed transaction
no_issue : (here : ℕ) (node : NodeValue) (nodes : ℕ) (tid : Tid) (o : Option TransactionValue) (issuer other : Member) (n : ℕ) (op : Op) → cell_of_transaction o ≡ Some cells.Commit → broken_issue here node nodes tid o issuer other n op ≡ None → ⊥
no_issue here node nodes tid None issuer other n op is h = absurd (cc h)
no_issue here node nodes tid (Some tx) issuer other n op is h =
    let one : is_numbered here node nodes tx other n op ≡ true = (held (is_numbered here node nodes tx other n op) 20 (broken_issuer here node tid tx issuer op) h).0 in
    let two : not (is_commit tx.cell) ≡ true = left_of (not (is_commit tx.cell)) _ one in
    absurd (clash two (ap not (commit_is (Some tx) tx is refl)))

-- and no vote is made
pub no_vote : (here : ℕ) (node : NodeValue) (tid : Tid) (o : Option TransactionValue) (other : Member) (ballot : Vote) (covers : ℕ) → cell_of_transaction o ≡ Some cells.Commit → broken_vote here node tid o other ballot covers ≡ None → ⊥
no_vote here node tid None other ballot covers is h = absurd (cc h)
no_vote here node tid (Some tx) other ballot covers is h =
    let part : Part = part_of tx other node.inc in
    let due : is_vote_due here tx other part ≡ true = passed (is_vote_due here tx other part) 40 _ h in
    let two : (is_some tx.asked && not (is_commit tx.cell)) ≡ true = left_of (is_some tx.asked && not (is_commit tx.cell)) (nat_lt part.voted part.served) (right_of (is_two_phase (class_of other.server.0) && (other.node.0 == here)) _ due) in
    absurd (clash (right_of (is_some tx.asked) (not (is_commit tx.cell)) two) (ap not (commit_is (Some tx) tx is refl)))

-- ---- a step

-- another transaction than one that is changed
pub apart_tid : (t tid : Tid) → same_tid t tid ≡ false → (k : Tid) → is_at (tid_cmp tid) k ≡ true → is_at (tid_cmp t) k ≡ false
apart_tid t tid other k is = subst (λ (x : Tid). is_at (tid_cmp t) x ≡ false) (at_exact tid k is) (at_other t tid (same_tid_swapped t tid other))

other_seal : (t tid : Tid) (f : TransactionValue → TransactionValue) (book : BookValue) → same_tid t tid ≡ false → seal_at (with_transaction t f book) tid ≡ seal_at book tid
other_seal t tid f book other = ap (option_map seal) (changed_apart (is_at (tid_cmp t)) (is_at (tid_cmp tid)) (apart_tid t tid other) f book.transactions)

module _ (tid : Tid) (member : Member) where
  begin_seal : (book : BookValue) (here : ℕ) (node : NodeValue) (t : Tid) (label : List ℕ) (client : ClientNo) → Inv book → Ready book tid member → slice_get book.nodes here ≡ Some node → broken_act book 0 here node (Begin t label client) ≡ None
      → seal_at (begin here t label client book) tid ≡ seal_at book tid
  begin_seal book here node t label client i r at h = by (is_at (tid_cmp tid) t) refl
    where
      tx : TransactionValue
      tx = begun label client (ticks_at (slice_get book.nodes here))

      exact : (x : Tid) → tid_cmp t x ≡ Equal → t ≡ x
      exact x same = at_exact t x (rw same refl)

      by : (b : Bool) → is_at (tid_cmp tid) t ≡ b → seal_at (begin here t label client book) tid ≡ seal_at book tid
      by true same =
          let there : find_transaction book t ≡ Some r.tx = ap (find_transaction book) (sym (at_exact tid t same)) ∙ r.found in
          absurd (is_new book here node t label client i at (begin_may here node book.labels t label h) (face r.tx) (ap (option_map face) there))
      by false other = ap (option_map seal) (lookup_put_apart tid_cmp t tx exact (is_at (tid_cmp tid)) other book.transactions)

  issue_seal : (book : BookValue) (here : ℕ) (node : NodeValue) (t : Tid) (issuer other : Member) (n : ℕ) (op : Op) → broken_issue here node (length book.nodes) t (find_transaction book t) issuer other n op ≡ None
      → IsCommitted book tid → seal_at (issue here t issuer other n op book) tid ≡ seal_at book tid
  issue_seal book here node t issuer other n op h is = by (same_tid t tid) refl
    where
      f : TransactionValue → TransactionValue
      f = issued (record { link = link_to here other; number = n }) (record { issuer = issuer; member = other; op = op; inc = inc_at book (record { 0 = here }); served = false }) (inc_at book other.node) book.place

      one : BookValue
      one = with_transaction t f book

      transactions : (issue here t issuer other n op book).transactions ≡ one.transactions
      transactions =
          crossing_transactions (crosses (find_transaction book t) (record { link = link_to here other; number = n }) other) t other (with_waiting t issuer other one)
          ∙ waiting_transactions t issuer other one

      by : (b : Bool) → same_tid t tid ≡ b → seal_at (issue here t issuer other n op book) tid ≡ seal_at book tid
      by true same =
          let e : t ≡ tid = same_tid-true t tid same in
          absurd (no_issue here node (length book.nodes) t (find_transaction book t) issuer other n op (ap (λ (x : Tid). cell_of_transaction (find_transaction book x)) e ∙ is) h)
      by false apart = ap (λ (ts : List (Tid × TransactionValue)). option_map seal (lookup (is_at (tid_cmp tid)) ts)) transactions ∙ other_seal t tid f book apart

  serve_seal : (book : BookValue) (here : ℕ) (node : NodeValue) (t : Tid) (other : Member) (from : NodeNo) (n stamp : ℕ) (reply : Reply) → Ready book tid member
      → broken_serve here node book.transactions t (find_transaction book t) other from.0 n reply ≡ None → seal_at (serve here t other from n stamp reply book) tid ≡ seal_at book tid
  serve_seal book here node t other from n stamp reply r h = by (same_tid t tid) refl
    where
      f : TransactionValue → TransactionValue
      f = served_in (record { link = record { from = from; to = other.node }; number = n }) other (inc_at book (record { 0 = here })) stamp (is_done reply)

      by : (b : Bool) → same_tid t tid ≡ b → seal_at (serve here t other from n stamp reply book) tid ≡ seal_at book tid
      by true same =
          let e : t ≡ tid = same_tid-true t tid same in
          absurd (no_serve book here node tid member other from.0 n reply r (subst (λ (x : Tid). broken_serve here node book.transactions x (find_transaction book x) other from.0 n reply ≡ None) e h))
      by false apart = other_seal t tid f book apart

  acted_seal : (book : BookValue) (stamp here : ℕ) (node : NodeValue) (act : Act) → Inv book → Ready book tid member → slice_get book.nodes here ≡ Some node → broken_act book stamp here node act ≡ None
      → IsCommitted (effect_act stamp here act book) tid → seal_at (effect_act stamp here act book) tid ≡ seal_at book tid
  acted_seal book stamp here node (Begin t label client) i r at h is = begin_seal book here node t label client i r at h
  acted_seal book stamp here node (Issue t issuer other n op) i r at h is =
      issue_seal book here node t issuer other n op h (alike_back book (issue here t issuer other n op book) tid (alike.by_issue here t issuer other n op book) is)
  acted_seal book stamp here node (Serve t other from n reply) i r at h is = serve_seal book here node t other from n stamp reply r h
  acted_seal book stamp here node (acts.Vote t other ballot covers) i r at h is = transaction_seals t _ (λ tx. refl) book tid
  acted_seal book stamp here node (Ask t) i r at h is = transaction_seals t _ (λ tx. refl) book tid
  acted_seal book stamp here node (Counted t peer so_far) i r at h is = transaction_seals t _ (λ tx. refl) book tid
  acted_seal book stamp here node (Decide t outcome cause) i r at h is = decide_seals t outcome cause book tid
  acted_seal book stamp here node (Ending t other) i r at h is = transaction_seals t _ (λ tx. refl) book tid
  acted_seal book stamp here node (Learn t other outcome) i r at h is = transaction_seals t (learnt other (inc_at book (record { 0 = here })) outcome) (learnt_seal other (inc_at book (record { 0 = here })) outcome) book tid
  acted_seal book stamp here node (Answer client line said) i r at h is =
      seals_all hear (λ b asking. transaction_seals asking.tid _ (λ tx. refl) b) (waiting_of (slice_get book.owners client.0)) (with_owner client.0 (λ (owner : Owner). record owner { line = line; waiting = [] }) book) tid
  acted_seal book stamp here node (Loan t client) i r at h is = loan_seals (inc_at book (record { 0 = here })) t (borrower_at client here) book tid
  acted_seal book stamp here node (Yield t client) i r at h is = yield_seals (inc_at book (record { 0 = here })) t (borrower_at client here) book tid
  acted_seal book stamp here node Tick i r at h is = refl
  acted_seal book stamp here node (Crash cause) i r at h is = refl
  acted_seal book stamp here node (Restart inc pend done) i r at h is = absurd (cc h)

  node_seal : (book : BookValue) (stamp here : ℕ) (node : NodeValue) (act : Act) → Inv book → Ready book tid member → slice_get book.nodes here ≡ Some node → broken_node book stamp here node act ≡ None
      → IsCommitted (effect_act stamp here act book) tid → seal_at (effect_act stamp here act book) tid ≡ seal_at book tid
  node_seal book stamp here node (Restart inc pend done) i r at h is = restart_seals here inc pend done book tid
  node_seal book stamp here node act i r at h is = acted_seal book stamp here node act i r at (held node.up 2 (broken_act book stamp here node act) h).1 is

  at_seal : (book : BookValue) (stamp here : ℕ) (o : Option NodeValue) (act : Act) → Inv book → Ready book tid member → slice_get book.nodes here ≡ o → broken_at book stamp here o act ≡ None
      → IsCommitted (effect_act stamp here act book) tid → seal_at (effect_act stamp here act book) tid ≡ seal_at book tid
  at_seal book stamp here None act i r at h is = absurd (cc h)
  at_seal book stamp here (Some node) act i r at h is = node_seal book stamp here node act i r at h is

  -- a step after which it is committed leaves it ready
  pub step_ready : (book : BookValue) (entry : Entry) → Inv book → Ready book tid member → broken book entry ≡ None → IsCommitted (effect book entry) tid → Ready (effect book entry) tid member
  step_ready book entry i r h is =
      ready_over book (effect book entry) tid member
      (at_seal book entry.stamp entry.node.0 (slice_get book.nodes entry.node.0) entry.act i r refl (held (is_in_order book entry) 1 _ h).1 is) r
