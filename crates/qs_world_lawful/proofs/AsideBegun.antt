-- An entry that neither begins nor restarts leaves when each transaction began.
use Rattle.qs_world_lawful.proofs.Words.{◌≡◌, ℕ, false, List, [], ◌∷◌, fold, Option, Some, None, refl, ap, ◌∙◌, slice_get, ⊤, option_map, lookup, is_at, tid_cmp, Member, Outcome, Tid, Act, changed_alike, BookValue, crosses, find_transaction, give_back_from, hear, inc_at, loan_to, waiting_of, with_owner, with_transaction, with_waiting, borrower_at, link_to, effect_act, TransactionValue, heard, issued, learnt, Asking, Owner, RequestNo}
use Rattle.qs_base.specs.declared.identifiers.Outcome.TheVariants as outcomes
use Rattle.qs_book_journal.specs.declared.entry.Act.TheVariants as acts
use Rattle.qs_world_lawful.proofs.Crossing.{crossing_txs, waiting_txs}

abbrev pub begun_of : TransactionValue → ℕ
begun_of tx = tx.begun_at

abbrev pub KeepsBegun : BookValue → BookValue → Type 0
KeepsBegun book new = (t : Tid) → option_map begun_of (find_transaction new t) ≡ option_map begun_of (find_transaction book t)

begun_heard : (asks : List Asking) (book : BookValue) → KeepsBegun book (fold hear book asks)
begun_heard [] book t = refl
begun_heard (ask ∷ asks) book t = begun_heard asks (hear book ask) t ∙ changed_alike (is_at (tid_cmp ask.tid)) begun_of (heard ask.node (inc_at book ask.node)) (λ tx. refl) (is_at (tid_cmp t)) book.transactions

-- neither begins nor restarts
abbrev pub IsGoing : Act → Type 0
IsGoing (acts.Begin tid label client) = ⊥
IsGoing (acts.Restart inc pend done) = ⊥
IsGoing act = ⊤

pub begun_same : (stamp here : ℕ) (act : Act) → IsGoing act → (book : BookValue) → KeepsBegun book (effect_act stamp here act book)
begun_same stamp here (acts.Restart inc pend done) going book = absurd going
begun_same stamp here (acts.Begin tid label client) going book = absurd going
begun_same stamp here (acts.Issue tid issuer member number op) going book = λ t.
    ap (λ (es : List (Tid × TransactionValue)). option_map begun_of (lookup (is_at (tid_cmp t)) es)) (crossing_txs (crosses (find_transaction book tid) key member) tid member (with_waiting tid issuer member one) ∙ waiting_txs tid issuer member one)
    ∙ changed_alike (is_at (tid_cmp tid)) begun_of (issued key (record { issuer = issuer; member = member; op = op; inc = inc_at book (record { 0 = here }); served = false }) (inc_at book member.node) book.place) (λ tx. refl) (is_at (tid_cmp t)) book.transactions
  where
    key : RequestNo
    key = record { link = link_to here member; number = number }

    one : BookValue
    one = with_transaction tid (issued key (record { issuer = issuer; member = member; op = op; inc = inc_at book (record { 0 = here }); served = false }) (inc_at book member.node) book.place) book
begun_same stamp here (acts.Serve tid member from number reply) going book = λ t. changed_alike (is_at (tid_cmp tid)) begun_of _ (λ tx. refl) (is_at (tid_cmp t)) book.transactions
begun_same stamp here (acts.Vote tid member ballot covers) going book = λ t. changed_alike (is_at (tid_cmp tid)) begun_of _ (λ tx. refl) (is_at (tid_cmp t)) book.transactions
begun_same stamp here (acts.Ask tid) going book = λ t. changed_alike (is_at (tid_cmp tid)) begun_of _ (λ tx. refl) (is_at (tid_cmp t)) book.transactions
begun_same stamp here (acts.Counted tid peer up_to) going book = λ t. changed_alike (is_at (tid_cmp tid)) begun_of _ (λ tx. refl) (is_at (tid_cmp t)) book.transactions
begun_same stamp here (acts.Decide tid outcome cause) going book = λ t. changed_alike (is_at (tid_cmp tid)) begun_of _ (λ tx. refl) (is_at (tid_cmp t)) book.transactions
begun_same stamp here (acts.Ending tid member) going book = λ t. changed_alike (is_at (tid_cmp tid)) begun_of _ (λ tx. refl) (is_at (tid_cmp t)) book.transactions
begun_same stamp here (acts.Learn tid member outcome) going book = λ t. changed_alike (is_at (tid_cmp tid)) begun_of (learnt member (inc_at book (record { 0 = here })) outcome) (of outcome) (is_at (tid_cmp t)) book.transactions
  where
    of : (outcome : Outcome) (tx : TransactionValue) → begun_of (learnt member (inc_at book (record { 0 = here })) outcome tx) ≡ begun_of tx
    of outcomes.Commit tx = refl
    of outcomes.Abort tx = refl
begun_same stamp here (acts.Answer client line said) going book = λ t. begun_heard (waiting_of (slice_get book.owners client.0)) (with_owner client.0 (λ (owner : Owner). record owner { line = line; waiting = [] }) book) t
begun_same stamp here (acts.Loan tid client) going book = by (borrower_at client here)
  where
    by : (o : Option Member) → KeepsBegun book (loan_to (inc_at book (record { 0 = here })) tid o book)
    by None t = refl
    by (Some member) t = changed_alike (is_at (tid_cmp tid)) begun_of _ (λ tx. refl) (is_at (tid_cmp t)) book.transactions
begun_same stamp here (acts.Yield tid client) going book = by (borrower_at client here)
  where
    by : (o : Option Member) → KeepsBegun book (give_back_from (inc_at book (record { 0 = here })) tid o book)
    by None t = refl
    by (Some member) t = changed_alike (is_at (tid_cmp tid)) begun_of _ (λ tx. refl) (is_at (tid_cmp t)) book.transactions
begun_same stamp here acts.Tick going book = λ t. refl
begun_same stamp here (acts.Crash cause) going book = λ t. refl
