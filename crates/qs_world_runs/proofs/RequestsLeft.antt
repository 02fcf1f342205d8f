-- All entries of a step but begins, issues and serves leave the requests of each transaction.
use Rattle.qs_world_runs.proofs.Words.{◌≡◌, ℕ, List, [], fold, Option, Some, None, refl, sym, ◌∙◌, ⊤, slice_get, ClientNo, Member, Tid, Act, BookValue, find_transaction, inc_at, with_transaction, borrower_at, TransactionValue, decided_at, given_back, Owner, turned_by}
use Rattle.qs_base.specs.declared.identifiers.Outcome.{Outcome}
use Rattle.qs_base.specs.declared.identifiers.Outcome.TheVariants as outcomes
use Rattle.qs_book_journal.specs.declared.entry.Act.TheVariants as acts
use Rattle.qs_book_machine.specs.Book.{give_back_from, hear, loan_to, waiting_of, with_owner}
use Rattle.qs_book_machine.specs.Lawful.{effect_act}
use Rattle.qs_book_machine.specs.Transaction.{asked_at, counted, ended, heard, learnt, lent, voted}
use Rattle.qs_book_machine.specs.declared.state.Asking.{Asking}
use Rattle.qs_world_lawful.proofs.Turning.{Turned, turned_fold, turned_same}

abbrev pub LeavesRequests : Act → Type 0
LeavesRequests (acts.Begin tid label client) = ⊥
LeavesRequests (acts.Issue tid issuer member number op) = ⊥
LeavesRequests (acts.Serve tid member from number reply) = ⊥
LeavesRequests (acts.Restart inc pend done) = ⊥
LeavesRequests act = ⊤

-- ---- of each transaction the same requests

abbrev pub SameRequests : Tid → TransactionValue → TransactionValue → Type 0
SameRequests tid tx later = later.requests ≡ tx.requests

same_self : (tid : Tid) (tx : TransactionValue) → SameRequests tid tx tx
same_self tid tx = refl

same_then : (tid : Tid) (tx mid later : TransactionValue) → SameRequests tid tx mid → SameRequests tid mid later → SameRequests tid tx later
same_then tid tx mid later a b = b ∙ a

module _ (stamp here : ℕ) (book : BookValue) where
  abbrev now : ℕ
  now = inc_at book (record { 0 = here })

  abbrev Same : Act → Type 0
  Same act = Turned SameRequests book (effect_act stamp here act book)

  by_change : (act : Act) (tid : Tid) (f : TransactionValue → TransactionValue) → (effect_act stamp here act book).transactions ≡ (with_transaction tid f book).transactions → ((tx : TransactionValue) → (f tx).requests ≡ tx.requests) → Same act
  by_change act tid f is same = turned_by SameRequests same_self tid f book (effect_act stamp here act book) is (λ tx found. same tx)

  loan_same : (tid : Tid) (o : Option Member) → Turned SameRequests book (loan_to now tid o book)
  loan_same tid None = turned_same SameRequests same_self book book refl
  loan_same tid (Some member) = turned_by SameRequests same_self tid (lent member now) book (loan_to now tid (Some member) book) refl (λ tx found. refl)

  back_same : (tid : Tid) (o : Option Member) → Turned SameRequests book (give_back_from now tid o book)
  back_same tid None = turned_same SameRequests same_self book book refl
  back_same tid (Some member) = turned_by SameRequests same_self tid (given_back member now) book (give_back_from now tid (Some member) book) refl (λ tx found. refl)

  answer_same : (client : ClientNo) (line : ℕ) (asks : List Asking) → Turned SameRequests book (fold hear (with_owner client.0 (λ (owner : Owner). record owner { line = line; waiting = [] }) book) asks)
  answer_same client line asks = let t = turned_fold SameRequests same_self same_then hear each asks first in record { none = t.none; goes = t.goes }
    where
      first : BookValue
      first = with_owner client.0 (λ (owner : Owner). record owner { line = line; waiting = [] }) book

      each : (b : BookValue) (ask : Asking) → Turned SameRequests b (hear b ask)
      each b ask = turned_by SameRequests same_self ask.tid (heard ask.node (inc_at b ask.node)) b (hear b ask) refl (λ tx found. refl)

  learnt_same : (member : Member) (outcome : Outcome) (tx : TransactionValue) → (learnt member now outcome tx).requests ≡ tx.requests
  learnt_same member outcomes.Commit tx = refl
  learnt_same member outcomes.Abort tx = refl

  pub requests_left : (act : Act) → LeavesRequests act → Same act
  requests_left (acts.Begin tid label client) is = absurd is
  requests_left (acts.Issue tid issuer member number op) is = absurd is
  requests_left (acts.Serve tid member from number reply) is = absurd is
  requests_left (acts.Restart inc pend done) is = absurd is
  requests_left (acts.Vote tid member ballot covers) is = by_change (acts.Vote tid member ballot covers) tid (voted member now ballot) refl (λ tx. refl)
  requests_left (acts.Ask tid) is = by_change (acts.Ask tid) tid (asked_at book.place) refl (λ tx. refl)
  requests_left (acts.Counted tid peer up_to) is = by_change (acts.Counted tid peer up_to) tid (counted (record { from = record { 0 = here }; to = peer }) now up_to (inc_at book peer)) refl (λ tx. refl)
  requests_left (acts.Decide tid outcome cause) is = by_change (acts.Decide tid outcome cause) tid (decided_at book.place outcome cause) refl (λ tx. refl)
  requests_left (acts.Ending tid member) is = by_change (acts.Ending tid member) tid (ended member now) refl (λ tx. refl)
  requests_left (acts.Learn tid member outcome) is = by_change (acts.Learn tid member outcome) tid (learnt member now outcome) refl (learnt_same member outcome)
  requests_left (acts.Answer client line said) is = let t = answer_same client line (waiting_of (slice_get book.owners client.0)) in record { none = t.none; goes = t.goes }
  requests_left (acts.Loan tid client) is = let t = loan_same tid (borrower_at client here) in record { none = t.none; goes = t.goes }
  requests_left (acts.Yield tid client) is = let t = back_same tid (borrower_at client here) in record { none = t.none; goes = t.goes }
  requests_left acts.Tick is = turned_same SameRequests same_self book (effect_act stamp here acts.Tick book) refl
  requests_left (acts.Crash cause) is = turned_same SameRequests same_self book (effect_act stamp here (acts.Crash cause) book) refl

-- where each is changed as R says
pub gone : (R : Tid → TransactionValue → TransactionValue → Type 0) (old new : BookValue) → Turned R old new → (tid : Tid) → find_transaction new tid ≡ None → find_transaction old tid ≡ None
gone R old new t tid none = by (find_transaction old tid) refl
  where
    by : (o : Option TransactionValue) → find_transaction old tid ≡ o → o ≡ None
    by None is = refl
    by (Some tx) is = absurd (cc (sym none ∙ (t.goes tid tx is).1))
