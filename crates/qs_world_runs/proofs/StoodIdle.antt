-- Of a transaction that stood as the run opened nothing is ever issued, and commit is not asked for: it has no owner, and one with its home in the
-- run is decided.
use Rattle.qs_world_runs.proofs.Words.{◌≡◌, ℕ, ◌<◌, ◌==◌, ◌&&◌, ◌||◌, Bool, true, false, List, [], ◌∷◌, Option, Some, None, refl, sym, ap, subst, ◌∙◌, arith, nat_lt, length, if◌then◌else◌, nat_tests, slice_get_within, is_at, lookup, set_value, option_map, is_none, is_some, unwrap_or, slice_get, same_tid-true, same_tid, ClientNo, Member, Tid, Act, Entry, ran_run, Inv, held, Gives, GivesFor, step_turns, Obliged, BookValue, find_transaction, inc_at, borrower_at, broken_issue, broken_issuer}
use Rattle.qs_world_runs.proofs.Words.{book_after, broken, effect, opening, TransactionValue, cell_of, changed_value, decided_at, ended_part, given_back, learnt_part, life, life_cmp, no_part, voted_part, yielded_part, Opened, Life, Part, Op, Reply, Vote, opened_from, opens_soundly, none_below_zero}
use Rattle.std.proofs.lemmas.Map.Views.{All-values-insert_entry, All-values-set_value, IfSome-lookup_from_All}
use Rattle.std.specs.List.{All}
use Rattle.std.specs.Map.{values_of}
use Rattle.std.specs.Prelude.{IfSome}
use Rattle.qs_base.specs.declared.identifiers.Outcome.{Outcome}
use Rattle.qs_base.specs.declared.identifiers.Outcome.TheVariants as outcomes
use Rattle.qs_book_journal.specs.declared.entry.Act.TheVariants as acts
use Rattle.qs_book_laws.specs.Laws.{IsCoherent}
use Rattle.qs_book_laws.proofs.Always.{IsSo, opening_so, step_so}
use Rattle.qs_book_laws.proofs.Ends.{lawful_node}
use Rattle.qs_book_laws.proofs.Faces.{face}
use Rattle.qs_book_laws.proofs.Openings.{opening_holds}
use Rattle.qs_book_laws.proofs.ShutOpenings.{opening_opens}
use Rattle.qs_book_laws.proofs.Steps.{stepped}
use Rattle.qs_book_machine.specs.Clauses.{broken_ask, broken_loan, broken_serve, is_client_here, is_files_here, is_note_due, is_numbered, may_ask, may_issue, may_issue_as_borrower, may_issue_as_owner, may_lend}
use Rattle.qs_book_machine.specs.Lawful.{IsLawful}
use Rattle.qs_book_machine.specs.Nodes.{NodeValue}
use Rattle.qs_book_machine.specs.Transaction.{asked_at, counted, ended, has_loan, is_loan_due, is_open, learnt, lent, part_of, voted}
use Rattle.qs_ops.specs.declared.vote.Vote.TheVariants as votes
use Rattle.qs_world_refine.proofs.SoundParts.{and_both}
use Rattle.qs_world_runs.specs.Labels.{RequestsOwned}

-- no loan was made, and none is due
abbrev HasNoLoan : Part → Type 0
HasNoLoan part = (part.made ≡ 0) × (part.unmade ≡ 0)

-- with its home in the run it is decided; commit was not asked for, and nothing was issued or lent
pub record IsIdle (in_run : Bool) (tx : TransactionValue) : Type 0 where
  pub closed : in_run ≡ true → is_open tx.cell ≡ false
  pub unasked : tx.asked ≡ None
  pub requests : tx.requests ≡ []
  pub loans : All HasNoLoan (values_of tx.parts)

-- where it has no owner
abbrev pub IsOwnedOrIdle : Bool → TransactionValue → Type 0
IsOwnedOrIdle in_run tx = tx.owner ≡ None → IsIdle in_run tx

clash : {b : Bool} → b ≡ true → b ≡ false → ⊥
clash p q = let both : true ≡ false = sym p ∙ q in cc (both)

-- ---- its members

abbrev Parts : Type 0
Parts = List (Life × Part)

changed_loans : (test : Life → Bool) (f : Part → Part) → ((part : Part) → HasNoLoan part → HasNoLoan (f part)) → (parts : Parts) → All HasNoLoan (values_of parts) → All HasNoLoan (values_of (changed_value test f parts))
changed_loans test f each parts all = by (lookup test parts) (IfSome-lookup_from_All HasNoLoan test parts all)
  where
    by : (o : Option Part) → IfSome o HasNoLoan → All HasNoLoan (values_of (elim o [ None ↦ parts | Some v ↦ set_value test parts (f v) ]))
    by None so = all
    by (Some v) so = All-values-set_value test HasNoLoan parts (f v) all (each v so)

part_loans : (tx : TransactionValue) (member : Member) (inc : ℕ) → All HasNoLoan (values_of tx.parts) → HasNoLoan (part_of tx member inc)
part_loans tx member inc all = by (lookup (is_at (life_cmp (life member inc))) tx.parts) (IfSome-lookup_from_All HasNoLoan (is_at (life_cmp (life member inc))) tx.parts all)
  where
    by : (o : Option Part) → IfSome o HasNoLoan → HasNoLoan (unwrap_or o no_part)
    by None so = (refl, refl)
    by (Some v) so = so

voted_loans : (ballot : Vote) (part : Part) → HasNoLoan part → HasNoLoan (voted_part ballot part)
voted_loans (votes.Abort reason) part so = so
voted_loans votes.ReadOnly part so = so
voted_loans votes.Volatile part so = so
voted_loans votes.Recoverable part so = so

learnt_loans : (outcome : Outcome) (part : Part) → HasNoLoan part → HasNoLoan (learnt_part outcome part)
learnt_loans outcomes.Commit part so = so
learnt_loans outcomes.Abort part so = so

decided_closed : (outcome : Outcome) → is_open (cell_of outcome) ≡ false
decided_closed outcomes.Commit = refl
decided_closed outcomes.Abort = refl

-- ---- what is not lawful of it

module _ (in_run : Bool) (tx : TransactionValue) (none : tx.owner ≡ None) (idle : IsIdle in_run tx) where
  no_loan : (member : Member) (inc : ℕ) → has_loan tx member inc ≡ false
  no_loan member inc = rw (part_loans tx member inc idle.loans).0 (never (part_of tx member inc).yielded)
    where
      never : (k : ℕ) → nat_lt k 0 ≡ false
      never k = grind (arith, nat_tests)

  not_due : (member : Member) (inc stamp : ℕ) → is_loan_due tx member inc stamp ≡ true → ⊥
  not_due member inc stamp is = clash (and_both ((part_of tx member inc).step == stamp) (nat_lt 0 (part_of tx member inc).unmade) is).1 (rw (part_loans tx member inc idle.loans).1 never)
    where
      never : nat_lt 0 0 ≡ false
      never = grind (arith, nat_tests)

  not_issued : (here : ℕ) (node : NodeValue) (nodes : ℕ) (tid : Tid) (issuer member : Member) (number : ℕ) (op : Op) → broken_issue here node nodes tid (Some tx) issuer member number op ≡ None → ⊥
  not_issued here node nodes tid issuer member number op h = by (is_files_here here issuer) (held (is_numbered here node nodes tx member number op) 20 (broken_issuer here node tid tx issuer op) h).1
    where
      note : is_note_due here node tid tx op ≡ true → ⊥
      note is = clash (and_both (is_some tx.asked) _ (and_both (is_some tx.asked && _) _ is).0).0 (ap (λ (o : Option ℕ). is_some o) idle.unasked)

      client : may_issue here node tid tx issuer ≡ true → ⊥
      client is = either (may_issue_as_owner here tid tx issuer) (may_issue_as_borrower node tx issuer) (and_both (is_client_here here issuer) _ is).1
          (λ own. owner tx.owner none (and_both _ (tid.home.0 == here) (and_both _ (is_open tx.cell && is_none tx.asked) own).0).0)
          (λ lent. clash (and_both (has_loan tx issuer node.inc) _ lent).0 (no_loan issuer node.inc))
        where
          either : (a b : Bool) → (a || b) ≡ true → (a ≡ true → ⊥) → (b ≡ true → ⊥) → ⊥
          either true b e p q = p refl
          either false b e p q = q e

          owner : (o : Option ClientNo) → o ≡ None → Rattle.qs_book_machine.specs.Clauses.is_owner_of issuer.server.0 o ≡ true → ⊥
          owner None is e = absurd (cc e)
          owner (Some c) is e = absurd (cc is)

      by : (b : Bool) → ◌≡◌ {A = Option ℕ} (if b then (if is_note_due here node tid tx op then None else Some 22) else if may_issue here node tid tx issuer then None else Some 21) None → ⊥
      by true e = note (held (is_note_due here node tid tx op) 22 None e).0
      by false e = client (held (may_issue here node tid tx issuer) 21 None e).0

  not_served : (here : ℕ) (node : NodeValue) (transactions : List (Tid × TransactionValue)) (tid : Tid) (member : Member) (from number : ℕ) (reply : Reply) → broken_serve here node transactions tid (Some tx) member from number reply ≡ None → ⊥
  not_served here node transactions tid member from number reply h = by (member.node.0 == here) (rw idle.requests at h)
    where
      by : (b : Bool) → Rattle.qs_book_machine.specs.Clauses.broken_request here node transactions tid tx member (if b then None else None) reply ≡ None → ⊥
      by true e = cc e
      by false e = cc e

  not_asked : (here : ℕ) (tid : Tid) → ((tid.home.0 == here) ≡ true → in_run ≡ true) → broken_ask here tid (Some tx) ≡ None → ⊥
  not_asked here tid at_home h =
      let may = and_both (tid.home.0 == here) _ (held (may_ask here tid tx) 50 None h).0 in
      clash (and_both (is_open tx.cell) _ may.1).0 (idle.closed (at_home may.0))

-- ---- an entry

module _ (tid : Tid) (size : ℕ) (book : BookValue) (sized : length book.nodes ≡ size) (entry : Entry) (h : broken book entry ≡ None) where
  abbrev here : ℕ
  here = entry.node.0

  abbrev in_run : Bool
  in_run = nat_lt tid.home.0 size

  abbrev So : TransactionValue → Type 0
  So = IsOwnedOrIdle in_run

  gives : (t : Tid) (f : TransactionValue → TransactionValue) → ((tx : TransactionValue) → find_transaction book t ≡ Some tx → (f tx).owner ≡ tx.owner) → ((tx : TransactionValue) → same_tid t tid ≡ true → find_transaction book t ≡ Some tx → tx.owner ≡ None → IsIdle in_run tx → IsIdle in_run (f tx)) → Gives tid So So book t f
  gives t f same each = record {
    own = λ near tx found p none.
        let at : find_transaction book t ≡ Some tx = ap (find_transaction book) (same_tid-true t tid near) ∙ found in
        let first : tx.owner ≡ None = sym (same tx at) ∙ none in
        each tx near at first (p first);
    other = λ far tx p. p;
  }

  -- a change of its members
  parts_change : (t : Tid) (f : TransactionValue → TransactionValue) → ((tx : TransactionValue) → ((f tx).owner ≡ tx.owner) × (((f tx).cell ≡ tx.cell) × (((f tx).asked ≡ tx.asked) × ((f tx).requests ≡ tx.requests)))) → ((tx : TransactionValue) → All HasNoLoan (values_of tx.parts) → All HasNoLoan (values_of (f tx).parts))
      → Gives tid So So book t f
  parts_change t f same loans = gives t f (λ tx found. (same tx).0) (λ tx near found none idle. record {
    closed = λ home. ap is_open (same tx).1.0 ∙ idle.closed home;
    unasked = (same tx).1.1.0 ∙ idle.unasked;
    requests = (same tx).1.1.1 ∙ idle.requests;
    loans = loans tx idle.loans;
  })

  learnt_gives : (t : Tid) (member : Member) (inc : ℕ) (outcome : Outcome) → Gives tid So So book t (learnt member inc outcome)
  learnt_gives t member inc outcomes.Commit = parts_change t (learnt member inc outcomes.Commit) (λ tx. (refl, (refl, (refl, refl)))) (λ tx all. changed_loans (is_at (life_cmp (life member inc))) (learnt_part outcomes.Commit) (learnt_loans outcomes.Commit) tx.parts all)
  learnt_gives t member inc outcomes.Abort = parts_change t (learnt member inc outcomes.Abort) (λ tx. (refl, (refl, (refl, refl)))) (λ tx all. changed_loans (is_at (life_cmp (life member inc))) (learnt_part outcomes.Abort) (learnt_loans outcomes.Abort) tx.parts all)

  lends : (t : Tid) (client : ClientNo) → entry.act ≡ acts.Loan t client → (o : Option Member) → borrower_at client here ≡ o → GivesFor tid So So book t (λ other. lent other (inc_at book (record { 0 = here }))) o
  lends t client is None at = λ tx p. p
  lends t client is (Some other) at = gives t (lent other (inc_at book (record { 0 = here }))) (λ tx found. refl) (λ tx near found none idle. absurd (off tx found none idle))
    where
      off : (tx : TransactionValue) → find_transaction book t ≡ Some tx → tx.owner ≡ None → IsIdle in_run tx → ⊥
      off tx found none idle =
          let l = lawful_node book entry (acts.Loan t client) is (λ node. refl) h in
          let due : broken_loan here l.0 (Some tx) client entry.stamp ≡ None = subst (λ (x : Option TransactionValue). broken_loan here l.0 x client entry.stamp ≡ None) found l.2 in
          not_due in_run tx none idle other l.0.inc entry.stamp (subst (λ (x : Option Member). may_lend l.0 tx x entry.stamp ≡ true) at (held (may_lend l.0 tx (borrower_at client here) entry.stamp) 85 None due).0)

  yields : (t : Tid) (o : Option Member) → GivesFor tid So So book t (λ other. given_back other (inc_at book (record { 0 = here }))) o
  yields t None = λ tx p. p
  yields t (Some other) = parts_change t (given_back other (inc_at book (record { 0 = here }))) (λ tx. (refl, (refl, (refl, refl)))) (λ tx all. changed_loans (is_at (life_cmp (life other (inc_at book (record { 0 = here }))))) yielded_part (λ part so. so) tx.parts all)

  -- the node of the entry is in the run
  home_in : (t : Tid) → same_tid t tid ≡ true → (node : NodeValue) → slice_get book.nodes here ≡ Some node → (t.home.0 == here) ≡ true → in_run ≡ true
  home_in t near node there at = low tid.home.0 here (length book.nodes) size (ap (λ (x : Tid). x.home.0 == here) (sym (same_tid-true t tid near)) ∙ at) (slice_get_within book.nodes here node there) sized
    where
      low : (a b c d : ℕ) → (a == b) ≡ true → b < c → c ≡ d → nat_lt a d ≡ true
      low a b c d same less is = grind (arith, nat_tests, same, less, is)

  obliged : (act : Act) → entry.act ≡ act → Obliged tid So So book entry.stamp here act
  obliged (acts.Begin t label client) is = λ tx p. p
  obliged (acts.Issue t issuer member number op) is = gives t _ (λ tx found. refl) (λ tx near found none idle.
      absurd (let l = lawful_node book entry (acts.Issue t issuer member number op) is (λ node. refl) h in
      not_issued in_run tx none idle here l.0 (length book.nodes) t issuer member number op (subst (λ (x : Option TransactionValue). broken_issue here l.0 (length book.nodes) t x issuer member number op ≡ None) found l.2)))
  obliged (acts.Serve t member from number reply) is = gives t _ (λ tx found. refl) (λ tx near found none idle.
      absurd (let l = lawful_node book entry (acts.Serve t member from number reply) is (λ node. refl) h in
      not_served in_run tx none idle here l.0 book.transactions t member from.0 number reply (subst (λ (x : Option TransactionValue). broken_serve here l.0 book.transactions t x member from.0 number reply ≡ None) found l.2)))
  obliged (acts.Vote t member ballot covers) is = parts_change t (voted member (inc_at book (record { 0 = here })) ballot) (λ tx. (refl, (refl, (refl, refl))))
      (λ tx all. changed_loans (is_at (life_cmp (life member (inc_at book (record { 0 = here }))))) (voted_part ballot) (voted_loans ballot) tx.parts all)
  obliged (acts.Ask t) is = gives t (asked_at book.place) (λ tx found. refl) (λ tx near found none idle.
      absurd (let l = lawful_node book entry (acts.Ask t) is (λ node. refl) h in not_asked in_run tx none idle here t (λ at. home_in t near l.0 l.1 at) (subst (λ (x : Option TransactionValue). broken_ask here t x ≡ None) found l.2)))
  obliged (acts.Counted t peer up_to) is = parts_change t (counted (record { from = record { 0 = here }; to = peer }) (inc_at book (record { 0 = here })) up_to (inc_at book peer)) (λ tx. (refl, (refl, (refl, refl)))) (λ tx all. all)
  obliged (acts.Decide t outcome cause) is = gives t (decided_at book.place outcome cause) (λ tx found. refl) (λ tx near found none idle. record { closed = λ home. decided_closed outcome; unasked = idle.unasked; requests = idle.requests; loans = idle.loans })
  obliged (acts.Ending t member) is = parts_change t (ended member (inc_at book (record { 0 = here }))) (λ tx. (refl, (refl, (refl, refl)))) (λ tx all. changed_loans (is_at (life_cmp (life member (inc_at book (record { 0 = here }))))) ended_part (λ part so. so) tx.parts all)
  obliged (acts.Learn t member outcome) is = learnt_gives t member (inc_at book (record { 0 = here })) outcome
  obliged (acts.Answer client line said) is = (λ node inc tx p none. let idle = p none in record { closed = idle.closed; unasked = idle.unasked; requests = idle.requests; loans = idle.loans }, λ tx p. p)
  obliged (acts.Loan t client) is = lends t client is (borrower_at client here) refl
  obliged (acts.Yield t client) is = yields t (borrower_at client here)
  obliged (acts.Restart inc pend done) is = (
    record {
      learnt = λ member tx p none. let idle = p none in record { closed = idle.closed; unasked = idle.unasked; requests = idle.requests; loans = idle.loans };
      decided = λ place outcome cause tx p none. let idle = p none in record { closed = λ home. decided_closed outcome; unasked = idle.unasked; requests = idle.requests; loans = idle.loans };
      found = λ server covers changes tx p none. let idle = p none in record { closed = idle.closed; unasked = idle.unasked; requests = idle.requests; loans = All-values-insert_entry life_cmp _ _ HasNoLoan tx.parts idle.loans (refl, refl) };
    },
    λ tx p. p,
  )
  obliged acts.Tick is = λ tx p. p
  obliged (acts.Crash cause) is = λ tx p. p

-- ---- a history

module _ (tid : Tid) (size : ℕ) where
  abbrev Idle : TransactionValue → Type 0
  Idle = IsOwnedOrIdle (nat_lt tid.home.0 size)

  ran_idle : (entries : List Entry) (book : BookValue) → length book.nodes ≡ size → Inv book → IsLawful book entries → IsSo tid Idle book → IsSo tid Idle (book_after book entries)
  ran_idle [] book sized i lawful so = so
  ran_idle (entry ∷ entries) book sized i lawful so = ran_idle entries (effect book entry) (ran_run (entry ∷ []) book ∙ sized) (stepped book entry i lawful.0).inv lawful.1
      (step_so tid Idle book entry i lawful.0 (λ label client ticks none. absurd (cc none)) (step_turns tid Idle Idle book entry i lawful.0 (obliged tid size book sized entry lawful.0 entry.act refl)) so)

no_parts : All HasNoLoan []
no_parts k d low = absurd (none_below_zero k low)

record IsYet (tx : TransactionValue) : Type 0 where
  unasked : tx.asked ≡ None
  requests : tx.requests ≡ []
  loans : All HasNoLoan (values_of tx.parts)

module _ (opened : List Opened) (coherent : IsCoherent opened) (tid : Tid) where
  abbrev size : ℕ
  size = length (opening opened).nodes

  first_idle : IsSo tid (IsOwnedOrIdle (nat_lt tid.home.0 size)) (opening opened)
  first_idle tx found none = record { closed = λ in_run. (opening_opens opened).fresh.closed tid (face tx) (ap (option_map face) found) in_run; unasked = (yet tx found).unasked; requests = (yet tx found).requests; loans = (yet tx found).loans }
    where
      yet : (tx : TransactionValue) → find_transaction (opening opened) tid ≡ Some tx → IsYet tx
      yet = opening_so tid IsYet (λ cell cause. record { unasked = refl; requests = refl; loans = no_parts }) (λ member inc covers changes tx e. record { unasked = e.unasked; requests = e.requests; loans = All-values-insert_entry life_cmp _ _ HasNoLoan tx.parts e.loans (refl, refl) }) opened

  pub stood_idle : (history : List Entry) → IsLawful (opening opened) history → IsSo tid (IsOwnedOrIdle (nat_lt tid.home.0 size)) (book_after (opening opened) history)
  stood_idle history lawful = ran_idle tid size history (opening opened) refl (opening_holds opened coherent) lawful first_idle

pub requests_owned : RequestsOwned
requests_owned o opens history lawful tid tx found none = let idle = stood_idle (opened_from o 0 o.size) (opens_soundly o opens) tid history lawful tx found none in (idle.unasked, idle.requests)
