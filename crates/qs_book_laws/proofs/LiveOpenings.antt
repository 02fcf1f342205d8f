-- As a run begins, nothing is pending or on record of a transaction that may still be committed, where its home is in the run.
use Rattle.qs_book_laws.proofs.Words.{◌≡◌, ℕ, ◌≤◌, zero, suc, Bool, true, false, List, [], ◌∷◌, ◌++◌, Option, Some, None, refl, sym, ap, subst, ◌∙◌, fold, map, length, arith, if◌then◌else◌, ◌==◌, le_refl, nat_tests, slice_get-map, is_some, slice_get, nat_lt, unwrap_or, flat_map, AllByRecursion, lookup, option_map, is_at, same_tid, Member, Tid, same_tid-true, TableValue, share_of, kept, applied, no_table, Share, TransactionValue, found_at, BookValue, find_transaction, NodeValue, pending_at}
use Rattle.qs_book_laws.proofs.Words.{record_of, voter, voter_cmp, opened_node, name_transaction, name_pending, name_all, name_from, put_record, put_of, note_of, keep_pending, opening, member_at, Opened, Pending, OnRecord, Voter, held_at, keeps_contents}
use Rattle.qs_book_laws.proofs.Alikes.{voter_equal}
use Rattle.qs_book_laws.proofs.Counts.{Count, count_of, count_in, no_count}
use Rattle.qs_book_laws.proofs.Covers.{mark_in, voter_apart}
use Rattle.qs_book_laws.proofs.Ends.{held_there}
use Rattle.qs_book_laws.proofs.Faces.{face}
use Rattle.qs_book_laws.proofs.Holding.{clash, which}
use Rattle.qs_book_laws.proofs.Keeping.{is_live, not_live}
use Rattle.qs_book_laws.proofs.Living.{Living}
use Rattle.qs_book_laws.proofs.Maps.{lookup_put_apart}
use Rattle.qs_book_laws.proofs.Openings.{first_book}
use Rattle.qs_book_laws.proofs.Shares.{number, share_put_other}
use Rattle.qs_book_laws.proofs.ShutOpenings.{Fresh, Opens, opens_all, name_opens, named, pending_opens, log_opens, logs_open, first_fresh, of_logs, opening_opens}
use Rattle.qs_book_laws.proofs.Stills.{asks_at, asked_of, transaction_still}

-- ---- each vote that a log holds is of a transaction that the book knows

abbrev AllKnown : BookValue → List Pending → Type 0
AllKnown book pending = AllByRecursion (λ (p : Pending). asks_at book p.tid ≡ Some None) pending

known_over : (old new : BookValue) (pending : List Pending) → Opens old new → AllKnown old pending → AllKnown new pending
known_over old new [] o all = tt
known_over old new (p ∷ pending) o all = (o.found p.tid all.0, known_over old new pending o all.1)

pending_known : (here inc : ℕ) (book : BookValue) (p : Pending) → Fresh book → asks_at (name_pending here inc book p) p.tid ≡ Some None
pending_known here inc book p fresh =
    (transaction_still p.tid (found_at (member_at here p.server.0) inc p.covers (length p.changes)) (λ tx. refl) (name_transaction book p.tid)).asks p.tid
    ∙ named book p.tid fresh

all_pending : (here inc : ℕ) (pending : List Pending) (book : BookValue) → Fresh book → AllKnown (fold (name_pending here inc) book pending) pending
all_pending here inc [] book fresh = tt
all_pending here inc (p ∷ pending) book fresh =
    let one : Opens book (name_pending here inc book p) = pending_opens here inc book p fresh in
    let rest : Opens (name_pending here inc book p) (fold (name_pending here inc) (name_pending here inc book p) pending) =
    opens_all (name_pending here inc) (λ b q f. pending_opens here inc b q f) pending (name_pending here inc book p) one.fresh in
    (rest.found p.tid (pending_known here inc book p fresh), all_pending here inc pending (name_pending here inc book p) one.fresh)

log_known : (here : ℕ) (one : Opened) (book : BookValue) → Fresh book → AllKnown (name_all here one book) one.pending
log_known here one book fresh =
    let first : Opens book (fold name_transaction book one.committed) = opens_all name_transaction (λ b t f. name_opens b t f) one.committed book fresh in
    all_pending here one.inc one.pending (fold name_transaction book one.committed) first.fresh

logs_known : (here : ℕ) (logs : List Opened) (book : BookValue) → Fresh book → AllByRecursion (λ (one : Opened). AllKnown (name_from here logs book) one.pending) logs
logs_known here [] book fresh = tt
logs_known here (one ∷ more) book fresh =
    let first : Opens book (name_all here one book) = log_opens here one book fresh in (
      known_over (name_all here one book) (name_from (suc here) more (name_all here one book)) one.pending (logs_open (suc here) more (name_all here one book) first.fresh) (log_known here one book fresh),
      logs_known (suc here) more (name_all here one book) first.fresh,
    )

-- ---- so nothing is pending of any other

module _ (tid : Tid) where
  abbrev AllApart : List Pending → Type 0
  AllApart pending = AllByRecursion (λ (p : Pending). same_tid p.tid tid ≡ false) pending

  all_apart : (book : BookValue) → find_transaction book tid ≡ None → (pending : List Pending) → AllKnown book pending → AllApart pending
  all_apart book none [] all = tt
  all_apart book none (p ∷ pending) all = (by (same_tid p.tid tid) refl, all_apart book none pending all.1)
    where
      by : (b : Bool) → same_tid p.tid tid ≡ b → b ≡ false
      by false is = refl
      by true is =
          let e : asks_at book tid ≡ Some None = subst (λ (t : Tid). asks_at book t ≡ Some None) (same_tid-true p.tid tid is) all.0 in
          let no : asks_at book tid ≡ None = ap (λ (o : Option TransactionValue). option_map asked_of o) none in
          absurd (cc (e, no))

  no_record : (s : ℕ) (pending : List Pending) → AllApart pending → (es : List (Voter × OnRecord)) → lookup (is_at (voter_cmp (voter tid s))) es ≡ None → lookup (is_at (voter_cmp (voter tid s))) (fold put_record es pending) ≡ None
  no_record s [] all es none = none
  no_record s (p ∷ pending) all es none =
      no_record s pending all.1 (put_record es p)
      (lookup_put_apart voter_cmp (voter p.tid p.server.0) (record { changes = p.changes; covers = p.covers; pending = length p.changes }) (λ x. voter_equal (voter p.tid p.server.0) x) (is_at (voter_cmp (voter tid s))) (voter_apart tid p.tid s p.server.0 (λ same. all.0)) es ∙ none)

  no_share : (s : ℕ) (pending : List Pending) → AllApart pending → (t : TableValue) → (share_of t tid).changes ≡ [] → (share_of (fold kept t (flat_map (keep_pending s) pending)) tid).changes ≡ []
  no_share s [] all t none = none
  no_share s (p ∷ pending) all t none = by (p.server.0 == s) (no_share s pending all.1)
    where
      put : (share_of (kept t (record { tid = p.tid; changes = p.changes })) tid).changes ≡ []
      put = ap (λ (x : Share). x.changes) (share_put_other t p.tid tid _ all.0) ∙ none

      by : (b : Bool) → ((u : TableValue) → (share_of u tid).changes ≡ [] → (share_of (fold kept u (flat_map (keep_pending s) pending)) tid).changes ≡ [])
          → (share_of (fold kept t ((if b then record { tid = p.tid; changes = p.changes } ∷ [] else []) ++ flat_map (keep_pending s) pending)) tid).changes ≡ []
      by true more = more (kept t (record { tid = p.tid; changes = p.changes })) put
      by false more = more t none

  nothing_pending : (b : Bool) (s : ℕ) → s ≡ number b → (one : Opened) → AllApart one.pending → pending_at (opened_node one) tid s ≡ []
  nothing_pending true s e one all =
      subst (λ (n : ℕ). pending_at (opened_node one) tid n ≡ []) (sym e)
      (no_share 0 one.pending all (record (applied no_table (map put_of one.files)) { shares = [] }) refl)
  nothing_pending false s e one all =
      subst (λ (n : ℕ). pending_at (opened_node one) tid n ≡ []) (sym e)
      (no_share 1 one.pending all (record (applied no_table (map note_of one.audit)) { shares = [] }) refl)

-- ---- the whole

pub log_at : (opened : List Opened) (n : ℕ) → nat_lt n (length opened) ≡ true → (one : Opened) × (slice_get opened n ≡ Some one)
log_at [] n h = absurd (none n h)
  where
    none : (m : ℕ) → nat_lt m 0 ≡ true → ⊥
    none m k = grind (arith, nat_tests)
log_at (one ∷ opened) zero h = (one, refl)
log_at (one ∷ opened) (suc n) h = log_at opened n (below (length opened) h)
  where
    below : (m : ℕ) → nat_lt (suc n) (suc m) ≡ true → nat_lt n m ≡ true
    below m k = grind (arith, nat_tests)

module _ (opened : List Opened) (tid : Tid) (member : Member) (keeps : keeps_contents member.server.0 ≡ true)
    (at_node : nat_lt member.node.0 (length opened) ≡ true) (at_home : nat_lt tid.home.0 (length opened) ≡ true) (live : is_live (find_transaction (opening opened) tid) member ≡ true) where
  abbrev book : BookValue
  book = opening opened

  opens : Opens (first_book opened) (opening opened)
  opens = opening_opens opened

  same_length : (xs : List Opened) → length (map opened_node xs) ≡ length xs
  same_length [] = refl
  same_length (x ∷ xs) = ap suc (same_length xs)

  home_there : nat_lt tid.home.0 (length (opening opened).nodes) ≡ true
  home_there = ap (λ (nodes : List NodeValue). nat_lt tid.home.0 (length nodes)) opens.nodes ∙ (ap (nat_lt tid.home.0) (same_length opened) ∙ at_home)

  -- what a log names is decided
  unknown : find_transaction (opening opened) tid ≡ None
  unknown = by (find_transaction (opening opened) tid) refl
    where
      by : (o : Option TransactionValue) → find_transaction (opening opened) tid ≡ o → o ≡ None
      by None is = refl
      by (Some tx) is =
          let seen = ap (λ (o : Option TransactionValue). option_map face o) is in
          absurd (not_live (find_transaction (opening opened) tid) member (face tx) seen (opens.fresh.closed tid (face tx) seen home_there) live)

  one : (one : Opened) × (slice_get opened member.node.0 ≡ Some one)
  one = log_at opened member.node.0 at_node

  node_there : slice_get (opening opened).nodes member.node.0 ≡ Some (opened_node one.0)
  node_there =
      ap (λ (nodes : List NodeValue). slice_get nodes member.node.0) opens.nodes
      ∙ (slice_get-map opened_node opened member.node.0 ∙ ap (λ (o : Option Opened). option_map opened_node o) one.1)

  apart : AllApart tid one.0.pending
  apart =
      all_apart tid (opening opened) unknown one.0.pending
      (of_logs (λ (x : Opened). AllKnown (opening opened) x.pending) opened member.node.0 one.0 (logs_known 0 opened (first_book opened) (first_fresh opened)) one.1)

  nothing_held : held_at (opening opened) tid member ≡ []
  nothing_held =
      let side : (b : Bool) × (member.server.0 ≡ number b) = which member.server.0 keeps in
      held_there (opening opened) tid member (opened_node one.0) node_there ∙ nothing_pending tid side.0 member.server.0 side.1 one.0 apart

  nothing_recorded : record_of (opened_node one.0) tid member.server.0 ≡ None
  nothing_recorded = no_record tid member.server.0 one.0.pending apart [] refl

  nothing_counted : (i : ℕ) → count_of (opening opened) tid member i ≡ no_count
  nothing_counted i = ap (λ (o : Option TransactionValue). unwrap_or (option_map (count_in member i) o) no_count) unknown

  never_known : is_some (find_transaction (opening opened) tid) ≡ true → ⊥
  never_known h = clash h (ap (λ (o : Option TransactionValue). is_some o) unknown)

  pub opening_lives : Living tid member (opening opened) []
  opening_lives = record {
    native = λ inc is known. absurd (never_known known);
    keeping = record {
      mark = record { inc = (opened_node one.0).inc; rec = None };
      at = ap (λ (o : Option NodeValue). option_map (mark_in tid member.server.0) o) node_there ∙ ap (λ (o : Option OnRecord). Some (record { inc = (opened_node one.0).inc; rec = o })) nothing_recorded;
      pending = λ even. nothing_held;
      on_record = λ even. sym nothing_held;
      above = λ i above. nothing_counted i;
      most = λ i. subst (λ (c : Count). c.covered ≤ c.served) (sym (nothing_counted i)) (le_refl 0);
      empty = λ none. refl;
      unknown = λ none. refl;
    };
  }
