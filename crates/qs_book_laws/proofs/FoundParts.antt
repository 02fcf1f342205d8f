-- A vote that a restart finds, and has pending again, is its member's part in the new incarnation; and so is one that an old log holds as a run begins.
use Rattle.qs_book_laws.proofs.Words.{◌≡◌, ◌==◌, ◌&&◌, ◌||◌, ◌+◌, ℕ, Bool, true, false, List, [], ◌∷◌, Option, Some, None, refl, sym, ap, subst, ◌∙◌, fold, length, zero, suc, arith, if◌then◌else◌, ⊤, slice_get, insert_entry, is_at, list_any, same_member, same_tid, tid_cmp, Member, Tid, same_member-self, same_tid-true, tid_exact, Found, BookValue, find_transaction, abort_begun, begun_at, commit_found, count_of, is_among, is_kept_at, member_at, put_new_votes, record_at, restart, up_to, vote_found}
use Rattle.qs_book_laws.proofs.Words.{inc_at, with_transaction, TransactionValue, found_at, found_part, part_of, name_all, name_from, name_pending, name_transaction, opened_transaction, opening, Opened, Pending, Part, eqb-self, zero_plus}
use Rattle.qs_book_laws.proofs.Alikes.{at_exact, tid_itself}
use Rattle.qs_book_laws.proofs.Holding.{left_of, right_of, same_number}
use Rattle.qs_book_laws.proofs.Lives.{left_survives}
use Rattle.qs_book_laws.proofs.Maps.{lookup_changed, lookup_put, lookup_put_apart}
use Rattle.qs_book_laws.proofs.Openings.{first_book}
use Rattle.qs_book_laws.proofs.Parts.{put_part}
use Rattle.qs_book_laws.proofs.Recovers.{kept_apart}
use Rattle.qs_book_laws.proofs.Takes.{some_same}
use Rattle.qs_book_laws.proofs.Turns.{Stands, Survives, kept_all, kept_abort, kept_by, kept_commit, kept_vote, stands_as}

-- so a restart found it, or the log of an opening had it
abbrev pub IsFoundPart : Part → Type 0
IsFoundPart part = (covers : ℕ) × (changes : ℕ) × (part ≡ found_part covers changes)

-- one that is pending again
abbrev pub is_pending_again : BookValue → Tid → Member → List Tid → Found → Bool
is_pending_again mid tid member done found = is_kept_at member.node.0 mid member.server.0 done found && same_tid found.tid tid

module _ (tid : Tid) (member : Member) (inc : ℕ) where
  abbrev pub OfFound : TransactionValue → Type 0
  OfFound tx = IsFoundPart (part_of tx member inc)

  abbrev Any : TransactionValue → Type 0
  Any tx = ⊤

  lasting : Survives OfFound member.node.0 inc
  lasting = left_survives tid member inc IsFoundPart (λ covers changes. (covers, changes, refl)) member.node.0 inc

  any : Survives Any member.node.0 inc
  any = record { learnt = λ m tx p. tt; decided = λ place outcome cause tx p. tt; found = λ server covers changes tx p. tt }

  -- the one that is found
  made : (mid : BookValue) (done : List Tid) (book : BookValue) (found : Found) → is_pending_again mid tid member done found ≡ true → Stands tid Any book → Stands tid OfFound (vote_found member.node.0 inc done book found)
  made mid done book found is s = subst (λ (b : Bool). Stands tid OfFound (if b then book else with_transaction found.tid f book)) (sym clear) own
    where
      changes : ℕ
      changes = count_of (record_at member.node.0 book found.tid found.server.0)

      f : TransactionValue → TransactionValue
      f = found_at (member_at member.node.0 found.server.0) inc found.covers changes

      kept : is_kept_at member.node.0 mid member.server.0 done found ≡ true
      kept = left_of _ (same_tid found.tid tid) is

      clear : is_among done found.tid ≡ false
      clear = kept_apart member.node.0 mid member.server.0 done found kept

      server : found.server.0 ≡ member.server.0
      server = same_number found.server.0 member.server.0 (left_of (found.server.0 == member.server.0) _ kept)

      here : (same_member (member_at member.node.0 found.server.0) member && (inc == inc)) ≡ true
      here = subst (λ (k : ℕ). (same_member (member_at member.node.0 k) member && (inc == inc)) ≡ true) (sym server) (rw (same_member-self member, eqb-self inc) refl)

      part_is : (tx : TransactionValue) → OfFound (f tx)
      part_is tx = (found.covers, changes, put_part member inc tx (member_at member.node.0 found.server.0) inc (found_part found.covers changes) ∙ ap (λ (b : Bool). if b then found_part found.covers changes else part_of tx member inc) here)

      same : found.tid ≡ tid
      same = same_tid-true found.tid tid (right_of _ (same_tid found.tid tid) is)

      own : Stands tid OfFound (with_transaction found.tid f book)
      own = subst (λ (t : Tid). Stands tid OfFound (with_transaction t f book)) (sym same) (record { tx = f s.tx; found = lookup_changed (is_at (tid_cmp tid)) f book.transactions s.tx s.found; holds = part_is s.tx })

  present : (mid : BookValue) (done : List Tid) (pend : List Found) (book : BookValue) → list_any (is_pending_again mid tid member done) pend ≡ true → Stands tid Any book → Stands tid OfFound (fold (vote_found member.node.0 inc done) book pend)
  present mid done [] book is s = absurd (cc is)
  present mid done (found ∷ pend) book is s = by (is_pending_again mid tid member done found) refl is (λ rest. present mid done pend (vote_found member.node.0 inc done book found) rest (kept_vote tid Any member.node.0 inc any done book found s))
    where
      by : (b : Bool) → is_pending_again mid tid member done found ≡ b → (b || list_any (is_pending_again mid tid member done) pend) ≡ true
          → (list_any (is_pending_again mid tid member done) pend ≡ true → Stands tid OfFound (fold (vote_found member.node.0 inc done) (vote_found member.node.0 inc done book found) pend))
          → Stands tid OfFound (fold (vote_found member.node.0 inc done) (vote_found member.node.0 inc done book found) pend)
      by true its any_is more = kept_all tid OfFound (vote_found member.node.0 inc done) (kept_vote tid OfFound member.node.0 inc lasting done) pend (vote_found member.node.0 inc done book found) (made mid done book found its s)
      by false other rest more = more rest

  -- a restart
  pub found_again : (pend : List Found) (done : List Tid) (book : BookValue) → list_any (is_pending_again (put_new_votes member.node.0 pend book) tid member done) pend ≡ true → (tx : TransactionValue) → find_transaction book tid ≡ Some tx
      → Stands tid OfFound (restart member.node.0 inc pend done book)
  found_again pend done book is tx found =
      stands_as tid OfFound settled (restart member.node.0 inc pend done book) refl
      (kept_all tid OfFound (abort_begun member.node.0 old) (kept_abort tid OfFound member.node.0 inc lasting old) (up_to (begun_at member.node.0 mid)) (fold (vote_found member.node.0 inc done) (fold (commit_found member.node.0) mid done) pend)
      (present mid done pend (fold (commit_found member.node.0) mid done) is
      (kept_all tid Any (commit_found member.node.0) (kept_commit tid Any member.node.0 inc any) done mid (stands_as tid Any book mid refl (record { tx = tx; found = found; holds = tt })))))
    where
      mid : BookValue
      mid = put_new_votes member.node.0 pend book

      old : ℕ
      old = inc_at mid (record { 0 = member.node.0 })

      settled : BookValue
      settled = fold (abort_begun member.node.0 old) (fold (vote_found member.node.0 inc done) (fold (commit_found member.node.0) mid done) pend) (up_to (begun_at member.node.0 mid))

-- ---- as a run begins

abbrev pub is_opened_with : Tid → Member → Pending → Bool
is_opened_with tid member p = same_tid p.tid tid && (p.server.0 == member.server.0)

module _ (tid : Tid) (P : TransactionValue → Type 0) (left : (member : Member) (inc covers changes : ℕ) (tx : TransactionValue) → P tx → P (found_at member inc covers changes tx)) where
  named_on : (book : BookValue) (t : Tid) → Stands tid P book → Stands tid P (name_transaction book t)
  named_on book t s = by (find_transaction book t) refl
    where
      clash : {A : Type 0} (o : Option A) (x : A) → o ≡ Some x → o ≡ None → ⊥
      clash o x a b = cc (sym a ∙ b)

      put : Tid → BookValue
      put u = record book { transactions = insert_entry tid_cmp book.transactions u (opened_transaction book.nodes u) }

      at : find_transaction book t ≡ None → (b : Bool) → is_at (tid_cmp tid) t ≡ b → Stands tid P (put t)
      at none true same = absurd (clash (find_transaction book tid) s.tx s.found (ap (find_transaction book) (at_exact tid t same) ∙ none))
      at none false far = record { tx = s.tx; found = lookup_put_apart tid_cmp t (opened_transaction book.nodes t) (λ x. tid_exact t x) (is_at (tid_cmp tid)) far book.transactions ∙ s.found; holds = s.holds }

      by : (o : Option TransactionValue) → find_transaction book t ≡ o → Stands tid P (elim o [ Some tx ↦ book | None ↦ put t ])
      by (Some tx) is = s
      by None none = at none (is_at (tid_cmp tid) t) refl

  pending_on : (here inc : ℕ) (book : BookValue) (p : Pending) → Stands tid P book → Stands tid P (name_pending here inc book p)
  pending_on here inc book p s = kept_by tid P (name_transaction book p.tid) p.tid (found_at (member_at here p.server.0) inc p.covers (length p.changes)) (left (member_at here p.server.0) inc p.covers (length p.changes)) (named_on book p.tid s)

  logs_on : (here : ℕ) (logs : List Opened) (book : BookValue) → Stands tid P book → Stands tid P (name_from here logs book)
  logs_on here [] book s = s
  logs_on here (one ∷ more) book s = logs_on (suc here) more (name_all here one book) (kept_all tid P (name_pending here one.inc) (pending_on here one.inc) one.pending (fold name_transaction book one.committed) (kept_all tid P name_transaction named_on one.committed book s))

module _ (tid : Tid) (member : Member) (inc : ℕ) where
  holds_on : (m : Member) (k covers changes : ℕ) (tx : TransactionValue) → OfFound tid member inc tx → OfFound tid member inc (found_at m k covers changes tx)
  holds_on m k covers changes tx p = (left_survives tid member inc IsFoundPart (λ covers changes. (covers, changes, refl)) m.node.0 k).found m.server.0 covers changes tx p

  named_there : (book : BookValue) (t : Tid) → (tx : TransactionValue) × (find_transaction (name_transaction book t) t ≡ Some tx)
  named_there book t = by (find_transaction book t) refl
    where
      by : (o : Option TransactionValue) → find_transaction book t ≡ o → (tx : TransactionValue) × (find_transaction (elim o [ Some tx ↦ book | None ↦ record book { transactions = insert_entry tid_cmp book.transactions t (opened_transaction book.nodes t) } ]) t ≡ Some tx)
      by (Some tx) is = (tx, is)
      by None none = (opened_transaction book.nodes t, lookup_put tid_cmp t (opened_transaction book.nodes t) (tid_itself t) book.transactions)

  put_there : (book : BookValue) (p : Pending) → is_opened_with tid member p ≡ true → Stands tid (OfFound tid member inc) (name_pending member.node.0 inc book p)
  put_there book p is = subst (λ (t : Tid). Stands t (OfFound tid member inc) (name_pending member.node.0 inc book p)) same (record { tx = f there.0; found = lookup_changed (is_at (tid_cmp p.tid)) f (name_transaction book p.tid).transactions there.0 there.1; holds = part_is there.0 })
    where
      f : TransactionValue → TransactionValue
      f = found_at (member_at member.node.0 p.server.0) inc p.covers (length p.changes)

      there : (tx : TransactionValue) × (find_transaction (name_transaction book p.tid) p.tid ≡ Some tx)
      there = named_there book p.tid

      same : p.tid ≡ tid
      same = same_tid-true p.tid tid (left_of (same_tid p.tid tid) _ is)

      server : p.server.0 ≡ member.server.0
      server = same_number p.server.0 member.server.0 (right_of (same_tid p.tid tid) _ is)

      here : (same_member (member_at member.node.0 p.server.0) member && (inc == inc)) ≡ true
      here = subst (λ (k : ℕ). (same_member (member_at member.node.0 k) member && (inc == inc)) ≡ true) (sym server) (rw (same_member-self member, eqb-self inc) refl)

      part_is : (tx : TransactionValue) → OfFound tid member inc (f tx)
      part_is tx = (p.covers, length p.changes, put_part member inc tx (member_at member.node.0 p.server.0) inc (found_part p.covers (length p.changes)) ∙ ap (λ (b : Bool). if b then found_part p.covers (length p.changes) else part_of tx member inc) here)

  all_there : (pending : List Pending) (book : BookValue) → list_any (is_opened_with tid member) pending ≡ true → Stands tid (OfFound tid member inc) (fold (name_pending member.node.0 inc) book pending)
  all_there [] book is = absurd (cc is)
  all_there (p ∷ pending) book is = by (is_opened_with tid member p) refl is (λ rest. all_there pending (name_pending member.node.0 inc book p) rest)
    where
      by : (b : Bool) → is_opened_with tid member p ≡ b → (b || list_any (is_opened_with tid member) pending) ≡ true
          → (list_any (is_opened_with tid member) pending ≡ true → Stands tid (OfFound tid member inc) (fold (name_pending member.node.0 inc) (name_pending member.node.0 inc book p) pending))
          → Stands tid (OfFound tid member inc) (fold (name_pending member.node.0 inc) (name_pending member.node.0 inc book p) pending)
      by true its any_is more = kept_all tid (OfFound tid member inc) (name_pending member.node.0 inc) (pending_on tid (OfFound tid member inc) holds_on member.node.0 inc) pending (name_pending member.node.0 inc book p) (put_there book p its)
      by false other rest more = more rest

  from_there : (logs : List Opened) (n here : ℕ) (book : BookValue) (one : Opened) → here + n ≡ member.node.0 → slice_get logs n ≡ Some one → one.inc ≡ inc → list_any (is_opened_with tid member) one.pending ≡ true
      → Stands tid (OfFound tid member inc) (name_from here logs book)
  from_there [] n here book one at found its is = absurd (none n found)
    where
      none : (k : ℕ) → slice_get [] k ≡ Some one → ⊥
      none k e = cc e
  from_there (first ∷ logs) zero here book one at found its is = logs_on tid (OfFound tid member inc) holds_on (suc here) logs (name_all here first book) (own (some_same first one found))
    where
      node : here ≡ member.node.0
      node = omega arith

      own : first ≡ one → Stands tid (OfFound tid member inc) (name_all here first book)
      own e = subst (λ (x : Opened). Stands tid (OfFound tid member inc) (name_all here x book)) (sym e)
          (subst (λ (k : ℕ). Stands tid (OfFound tid member inc) (fold (name_pending k one.inc) (fold name_transaction book one.committed) one.pending)) (sym node)
          (subst (λ (i : ℕ). Stands tid (OfFound tid member inc) (fold (name_pending member.node.0 i) (fold name_transaction book one.committed) one.pending)) (sym its) (all_there one.pending (fold name_transaction book one.committed) is)))
  from_there (first ∷ logs) (suc n) here book one at found its is = from_there logs n (suc here) (name_all here first book) one (next here n at) found its is
    where
      next : (a b : ℕ) → a + suc b ≡ member.node.0 → suc a + b ≡ member.node.0
      next a b e = omega arith

  pub found_first : (opened : List Opened) (one : Opened) → slice_get opened member.node.0 ≡ Some one → one.inc ≡ inc → list_any (is_opened_with tid member) one.pending ≡ true → Stands tid (OfFound tid member inc) (opening opened)
  found_first opened one found its is = from_there opened member.node.0 0 (first_book opened) one (zero_plus member.node.0) found its is
