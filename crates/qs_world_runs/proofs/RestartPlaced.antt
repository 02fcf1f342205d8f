-- What a restart of a node makes of a transaction that is undecided after it: the lives of votes that were found are new, and all else is left.
use Rattle.qs_world_runs.proofs.Words.{◌≡◌, inl, ℕ, ◌<◌, nat_lt, Bool, true, false, List, [], ◌∷◌, Option, Some, None, refl, ◌∙◌, arith, is_some, fold, map, if◌then◌else◌, nat_tests, filter, Tid, Found, life_equal, life_itself, IsRising, put_rises, BookValue, find_transaction, inc_at, with_transaction, is_recoverable, is_among, put_new_votes, record_at, TransactionValue, decided_at, life, life_cmp, Life, Part, extra_no, Cause, Prepared, names_transaction, Every, turned_by, Field}
use Rattle.qs_base.specs.declared.identifiers.Outcome.{Outcome}
use Rattle.qs_base.specs.declared.identifiers.Outcome.TheVariants as outcomes
use Rattle.qs_book_machine.specs.Book.{decide}
use Rattle.qs_book_machine.specs.Restart.{abort_begun, begun_at, begun_tid, commit_found, count_of, is_open_here, learn_found, member_at, restart, up_to, vote_found}
use Rattle.qs_book_machine.specs.Transaction.{found_at, found_part, is_open, with_learnt}
use Rattle.qs_ops.specs.Servers.{audit_no, files_no}
use Rattle.qs_ops.specs.declared.answer.Cause.TheVariants as causes
use Rattle.qs_restart.specs.Recovery.{open_vote}
use Rattle.qs_world.specs.Moves as moves
use Rattle.qs_world_lawful.proofs.Turning.{Turned, turned_same, turned_then}
use Rattle.qs_world_runs.proofs.Entries.{each_put}
use Rattle.qs_world_runs.proofs.PlacedTx.{EachBare, IsBare, life_total}

-- the transaction goes on, with lives of the field
pub record KeepsTx (field : Field) (tx later : TransactionValue) : Type 0 where
  pub requests : later.requests ≡ tx.requests
  pub sent : later.sent ≡ tx.sent
  pub refusals : later.refusals ≡ tx.refusals
  pub crossed : later.crossed ≡ tx.crossed
  pub undecided : is_open later.cell ≡ true → is_open tx.cell ≡ true
  pub parts : IsRising life_cmp tx.parts → EachBare field tx.parts → IsRising life_cmp later.parts × EachBare field later.parts

module _ (field : Field) where
  abbrev pub Keeps : Tid → TransactionValue → TransactionValue → Type 0
  Keeps tid tx later = KeepsTx field tx later

  keeps_self : (tid : Tid) (tx : TransactionValue) → Keeps tid tx tx
  keeps_self tid tx = record { requests = refl; sent = refl; refusals = refl; crossed = refl; undecided = λ is. is; parts = λ rising each. (rising, each) }

  keeps_then : (tid : Tid) (tx mid later : TransactionValue) → Keeps tid tx mid → Keeps tid mid later → Keeps tid tx later
  keeps_then tid tx mid later a b = record {
    requests = b.requests ∙ a.requests;
    sent = b.sent ∙ a.sent;
    refusals = b.refusals ∙ a.refusals;
    crossed = b.crossed ∙ a.crossed;
    undecided = λ is. a.undecided (b.undecided is);
    parts = λ rising each. let p = a.parts rising each in b.parts p.0 p.1;
  }

  abbrev pub Goes : BookValue → BookValue → Type 0
  Goes old new = Turned Keeps old new

  goes_self : (book : BookValue) → Goes book book
  goes_self book = turned_same Keeps keeps_self book book refl

  goes_then : (old mid new : BookValue) → Goes old mid → Goes mid new → Goes old new
  goes_then old mid new a b = turned_then Keeps keeps_then old mid new a b

  goes_if : (b : Bool) (book x y : BookValue) → Goes book x → Goes book y → Goes book (if b then x else y)
  goes_if true book x y p q = p
  goes_if false book x y p q = q

  goes_fold : {A : Type 0} (Q : A → Type 0) (f : BookValue → A → BookValue) → ((book : BookValue) (x : A) → Q x → Goes book (f book x)) → (xs : List A) → Every Q xs → (book : BookValue) → Goes book (fold f book xs)
  goes_fold Q f each [] all book = goes_self book
  goes_fold Q f each (x ∷ xs) all book = goes_then book (f book x) (fold f (f book x) xs) (each book x all.0) (goes_fold Q f each xs all.1 (f book x))

  every : {A : Type 0} (xs : List A) → Every (λ (x : A). true ≡ true) xs
  every [] = tt
  every (x ∷ xs) = (refl, every xs)

  -- ---- each thing that a restart does

  learns : (here : ℕ) (tid : Tid) (server : ℕ) (book : BookValue) → Goes book (learn_found here tid server book)
  learns here tid server book = goes_if (is_some (record_at here book tid server)) book (with_transaction tid (with_learnt (member_at here server)) book) book
      (turned_by Keeps keeps_self tid (with_learnt (member_at here server)) book _ refl (λ tx found. record { requests = refl; sent = refl; refusals = refl; crossed = refl; undecided = λ is. is; parts = λ rising each. (rising, each) })) (goes_self book)

  decides : (tid : Tid) (outcome : Outcome) (cause : Option Cause) (book : BookValue) → Goes book (decide tid outcome cause book)
  decides tid outcome cause book = turned_by Keeps keeps_self tid (decided_at book.place outcome cause) book (decide tid outcome cause book) refl (λ tx found. record { requests = refl; sent = refl; refusals = refl; crossed = refl; undecided = shut outcome; parts = λ rising each. (rising, each) })
    where
      shut : {X : Type 0} (o : Outcome) → is_open (Rattle.qs_book_machine.specs.Transaction.cell_of o) ≡ true → X
      shut outcomes.Commit is = absurd (cc is)
      shut outcomes.Abort is = absurd (cc is)

  commits : (here : ℕ) (book : BookValue) (tid : Tid) → Goes book (commit_found here book tid)
  commits here book tid =
      let a = learn_found here tid files_no book in
      let b = learn_found here tid audit_no a in
      let c = learn_found here tid extra_no b in
      goes_then book a (commit_found here book tid) (learns here tid files_no book)
      (goes_then a b (commit_found here book tid) (learns here tid audit_no a)
      (goes_then b c (commit_found here book tid) (learns here tid extra_no b)
      (goes_if (is_open_here here tid (find_transaction c tid)) c (decide tid outcomes.Commit None c) c (decides tid outcomes.Commit None c) (goes_self c))))

  aborts : (here inc : ℕ) (book : BookValue) (seq : ℕ) → Goes book (abort_begun here inc book seq)
  aborts here inc book seq = goes_if (is_open_here here (begun_tid here inc seq) (find_transaction book (begun_tid here inc seq))) book _ book (decides (begun_tid here inc seq) outcomes.Abort (Some (causes.Home inc)) book) (goes_self book)

  module _ (here inc : ℕ) (in_run : here < field.size) (up : field.up here ≡ true) (now : inc ≡ field.inc here) where
    low : (server : ℕ) → is_recoverable server ≡ true → nat_lt server 7 ≡ true
    low server is = grind (arith, nat_tests, is)

    found : (tid : Tid) (server covers changes : ℕ) → is_recoverable server ≡ true → (tx : TransactionValue) → Keeps tid tx (found_at (member_at here server) inc covers changes tx)
    found tid server covers changes kept tx = record {
      requests = refl;
      sent = refl;
      refusals = refl;
      crossed = refl;
      undecided = λ is. is;
      parts = λ rising each. (put_rises life_cmp life_total l part tx.parts rising, each_put life_cmp life_total life_equal life_itself (IsBare field) (IsBare field) l part (λ k u apart b. b) new tx.parts rising each);
    }
      where
        l : Life
        l = life (member_at here server) inc

        part : Part
        part = found_part covers changes

        new : IsBare field l part
        new = record { member = inl (low server kept); cast = λ two. refl; made = λ is. refl; lives = inl (record { in_run = in_run; up = up; now = now }) }

    votes : (done : List Tid) (book : BookValue) (f : Found) → is_recoverable f.server.0 ≡ true → Goes book (vote_found here inc done book f)
    votes done book f kept = goes_if (is_among done f.tid) book book (with_transaction f.tid (found_at (member_at here f.server.0) inc f.covers (count_of (record_at here book f.tid f.server.0))) book) (goes_self book)
        (turned_by Keeps keeps_self f.tid _ book _ refl (λ tx is. found f.tid f.server.0 f.covers (count_of (record_at here book f.tid f.server.0)) kept tx))

    pub restart_keeps : (pend : List Found) (done : List Tid) → Every (λ (f : Found). is_recoverable f.server.0 ≡ true) pend → (book : BookValue) → Goes book (restart here inc pend done book)
    restart_keeps pend done kinds book =
        goes_then book read (restart here inc pend done book) (turned_same Keeps keeps_self book read refl)
        (goes_then read committed (restart here inc pend done book) (goes_fold (λ (t : Tid). true ≡ true) (commit_found here) (λ b t q. commits here b t) done (every done) read)
        (goes_then committed voted (restart here inc pend done book) (goes_fold (λ (f : Found). is_recoverable f.server.0 ≡ true) (vote_found here inc done) (votes done) pend kinds committed)
        (goes_then voted settled (restart here inc pend done book) (goes_fold (λ (k : ℕ). true ≡ true) (abort_begun here (inc_at read (record { 0 = here }))) (λ b k q. aborts here (inc_at read (record { 0 = here })) b k) seqs (every seqs) voted)
        (turned_same Keeps keeps_self settled (restart here inc pend done book) refl))))
      where
        read : BookValue
        read = put_new_votes here pend book

        committed : BookValue
        committed = fold (commit_found here) read done

        voted : BookValue
        voted = fold (vote_found here inc done) committed pend

        seqs : List ℕ
        seqs = up_to (begun_at here read)

        settled : BookValue
        settled = fold (abort_begun here (inc_at read (record { 0 = here }))) voted seqs

-- the votes that a log has are of servers that vote recoverable
pub votes_kinds : (ps : List Prepared) → Every (λ (vote : Prepared). is_recoverable vote.server.0 ≡ true) ps
    → Every (λ (f : Found). is_recoverable f.server.0 ≡ true) (map moves.found_of (map open_vote (filter (λ vote. names_transaction vote.tid) ps)))
votes_kinds [] all = tt
votes_kinds (p ∷ ps) all = by (names_transaction p.tid) refl (votes_kinds ps all.1)
  where
    by : (b : Bool) → names_transaction p.tid ≡ b → Every (λ (f : Found). is_recoverable f.server.0 ≡ true) (map moves.found_of (map open_vote (filter (λ vote. names_transaction vote.tid) ps)))
        → Every (λ (f : Found). is_recoverable f.server.0 ≡ true) (map moves.found_of (map open_vote (filter (λ vote. names_transaction vote.tid) (p ∷ ps))))
    by true is more = rw is (all.0, more)
    by false is more = rw is more
