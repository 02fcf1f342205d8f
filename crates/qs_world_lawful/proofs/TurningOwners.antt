-- A loan, its return, and an answer to a client, which hears of what waits for it, turn each transaction.
use Rattle.qs_world_lawful.proofs.Words.{inl, ℕ, Bool, true, false, List, [], Some, None, refl, nat_lt, if◌then◌else◌, fold, slice_get, ClientNo, Member, Tid, BookValue, give_back_from, hear, inc_at, loan_to, waiting_of, with_owner, with_transaction, borrower_at, TransactionValue, heard, lent, made_part, yielded_part, Asking, Owner}
use Rattle.qs_book_machine.specs.Book.{answer}
use Rattle.qs_book_machine.specs.Nodes as machine
use Rattle.qs_book_machine.specs.Transaction.{borrower, given_back}
use Rattle.qs_world_lawful.proofs.RestartGoes.{Goes, IsElsewhere, goes_self, goes_then}
use Rattle.qs_world_lawful.proofs.Turning.{Plain, Turned, Turns, turned_as, turned_by, turned_fold, turned_same, turns_plain, turns_quiet, turns_self}
use Rattle.qs_world_lawful.proofs.TurningParts.{part_changed}

module _ (book : BookValue) (stamp here : ℕ) (state : machine.NodeValue) where
  abbrev now : ℕ
  now = inc_at book (record { 0 = here })

  abbrev R : Tid → TransactionValue → TransactionValue → Type 0
  R = Turns here now book.place

  own : (tid : Tid) (tx : TransactionValue) → R tid tx tx
  own tid tx = turns_self here now book.place tid tx

  by_plain : (tid : Tid) (tx later : TransactionValue) → Plain here now tx later → R tid tx later
  by_plain tid tx later p = turns_plain here now book.place tid tx later p

  pub loan_turns : (tid : Tid) (client : ClientNo) → Turned R book (loan_to now tid (borrower_at client here) book)
  loan_turns tid client = by (nat_lt client.0 224)
    where
      m : Member
      m = borrower client (record { 0 = here })

      by : (b : Bool) → Turned R book (loan_to now tid (if b then Some m else None) book)
      by false = turned_same R own book book refl
      by true = turned_by R own tid (lent m now) book (with_transaction tid (lent m now) book) refl (λ tx found. by_plain tid tx (lent m now tx) (record {
        requests = refl;
        crossed = refl;
        sent = λ link i. refl;
        noted = refl;
        asked = refl;
        owner = refl;
        cell = refl;
        decided = refl;
        parts = λ other i far. part_changed here now m refl made_part tx other i far;
        starts = λ other i served covers far. refl;
        learnt = λ other is. is;
      }))

  pub yield_turns : (tid : Tid) (client : ClientNo) → Turned R book (give_back_from now tid (borrower_at client here) book)
  yield_turns tid client = by (nat_lt client.0 224)
    where
      m : Member
      m = borrower client (record { 0 = here })

      by : (b : Bool) → Turned R book (give_back_from now tid (if b then Some m else None) book)
      by false = turned_same R own book book refl
      by true = turned_by R own tid (given_back m now) book (with_transaction tid (given_back m now) book) refl (λ tx found. by_plain tid tx (given_back m now tx) (record {
        requests = refl;
        crossed = refl;
        sent = λ link i. refl;
        noted = refl;
        asked = refl;
        owner = refl;
        cell = refl;
        decided = refl;
        parts = λ other i far. part_changed here now m refl yielded_part tx other i far;
        starts = λ other i served covers far. refl;
        learnt = λ other is. is;
      }))

  -- requests of a client are answered
  hear_turns : (asks : List Asking) (b : BookValue) → Turned R b (fold hear b asks)
  hear_turns asks b = turned_as G R (λ tid tx later g. turns_quiet here now book.place tid tx later g) b (fold hear b asks) (turned_fold G (goes_self here (IsElsewhere here now) book.place) (goes_then here (IsElsewhere here now) book.place) hear each asks b)
    where
      G : Tid → TransactionValue → TransactionValue → Type 0
      G tid tx later = Goes here (IsElsewhere here now) book.place tid tx later

      each : (b : BookValue) (ask : Asking) → Turned G b (hear b ask)
      each b ask = turned_by G (goes_self here (IsElsewhere here now) book.place) ask.tid (heard ask.node (inc_at b ask.node)) b (hear b ask) refl (λ tx found. record {
        requests = refl;
        sent = refl;
        noted = refl;
        crossed = refl;
        asked = refl;
        owner = refl;
        starts = refl;
        refusals = refl;
        agree = λ all. all;
        when = inl (refl, refl);
        parts = λ member i far. refl;
        decided = λ shut. refl;
        away = λ far. refl;
        learnt = λ member is. is;
      })

  pub answer_turns : (client : ClientNo) (line : ℕ) → Turned R book (answer client line book)
  answer_turns client line = record { none = t.none; goes = t.goes }
    where
      first : BookValue
      first = with_owner client.0 (λ (owner : Owner). record owner { line = line; waiting = [] }) book

      t : Turned R first (fold hear first (waiting_of (slice_get book.owners client.0)))
      t = hear_turns (waiting_of (slice_get book.owners client.0)) first
