-- The invariant of outcomes, and that steps which leave what the laws see, a begin and a decision keep it.
use Rattle.qs_book_laws.proofs.Words.{◌≡◌, ◌⊎◌, ℕ, ◌+◌, ◌<◌, ◌≤◌, Bool, true, false, List, Option, Some, None, inl, inr, refl, sym, ap, subst, ◌∙◌, arith, le_refl, nat_tests, slice_get, slice_set, list_any, option_map, is_at, Equal, tid_cmp, ClientNo, Outcome, Tid, same_cause, Cause, TransactionValue, is_open, begun, decided_at, cell_of, Cell, BookValue, find_transaction, decide, begin, changed_at, owner_of, ticks_at, NodeValue, Owner}
use Rattle.qs_base.specs.declared.identifiers.Outcome.TheVariants as outcomes
use Rattle.qs_book_machine.specs.declared.transaction.Cell.TheVariants as cells
use Rattle.qs_book_machine.specs.Book.{told, told_owner}
use Rattle.qs_book_machine.specs.Clauses.{is_next_tid}
use Rattle.qs_book_laws.proofs.Alikes.{same_cause-true, at_exact}
use Rattle.qs_book_machine.proofs.CauseOrder.{among_more}
use Rattle.qs_book_laws.proofs.Faces.{Face, face, Age, age, Told, told_of, face_at, age_at, told_at, Alike}
use Rattle.qs_book_laws.proofs.Maps.{Either, lookup_changed, changed_either, lookup_put_apart, changed_at_either, changed_at_here}

-- a transaction of the client was committed
pub record HasCommit (book : BookValue) (client : ℕ) : Type 0 where
  pub tid : Tid
  pub seen : Face
  pub found : face_at book tid ≡ Some seen
  pub owned : seen.owner ≡ Some (record { 0 = client })
  pub committed : seen.cell ≡ cells.Commit

-- a transaction of the client was aborted for that cause
pub record HasAbort (book : BookValue) (client : ℕ) (cause : Cause) : Type 0 where
  pub tid : Tid
  pub seen : Face
  pub found : face_at book tid ≡ Some seen
  pub owned : seen.owner ≡ Some (record { 0 = client })
  pub aborted : seen.cell ≡ cells.Abort
  pub why : seen.cause ≡ Some cause

-- the transaction began in an earlier incarnation of its home, or is one of those that were begun in this one
abbrev pub IsBegun : Tid → Age → Type 0
IsBegun tid at = (tid.inc < at.inc) ⊎ ((tid.inc ≡ at.inc) × (tid.seq ≤ at.begun))

pub record Inv (book : BookValue) : Type 0 where
  pub begun : (tid : Tid) (seen : Face) (at : Age) → face_at book tid ≡ Some seen → age_at book tid.home.0 ≡ Some at → IsBegun tid at
  pub commits : (client : ℕ) (told : Told) → told_at book client ≡ Some told → told.committed ≡ true → HasCommit book client
  pub aborts : (client : ℕ) (told : Told) (cause : Cause) → told_at book client ≡ Some told → list_any (same_cause cause) told.causes ≡ true → HasAbort book client cause

-- what was decided stays so
abbrev pub Kept : BookValue → BookValue → Type 0
Kept old new = (tid : Tid) (seen : Face) → face_at old tid ≡ Some seen → is_open seen.cell ≡ false → face_at new tid ≡ Some seen

pub record Moves (old new : BookValue) : Type 0 where
  pub inv : Inv new
  pub kept : Kept old new

pub moves_then : (old mid new : BookValue) → Moves old mid → Moves mid new → Moves old new
moves_then old mid new a b = record { inv = b.inv; kept = λ tid seen found closed. b.kept tid seen (a.kept tid seen found closed) closed }

closed_commit : (c : Cell) → c ≡ cells.Commit → is_open c ≡ false
closed_commit c is = rw is refl

closed_abort : (c : Cell) → c ≡ cells.Abort → is_open c ≡ false
closed_abort c is = rw is refl

pub commit_kept : (old new : BookValue) (client : ℕ) → Kept old new → HasCommit old client → HasCommit new client
commit_kept old new client kept h = record {
  tid = h.tid;
  seen = h.seen;
  found = kept h.tid h.seen h.found (closed_commit h.seen.cell h.committed);
  owned = h.owned;
  committed = h.committed;
}

pub abort_kept : (old new : BookValue) (client : ℕ) (cause : Cause) → Kept old new → HasAbort old client cause → HasAbort new client cause
abort_kept old new client cause kept h = record {
  tid = h.tid;
  seen = h.seen;
  found = kept h.tid h.seen h.found (closed_abort h.seen.cell h.aborted);
  owned = h.owned;
  aborted = h.aborted;
  why = h.why;
}

-- where clients may be told what they could be told before
pub untold : (old new : BookValue) → Inv old → Kept old new → ((client : ℕ) → told_at new client ≡ told_at old client)
    → ((tid : Tid) (seen : Face) (at : Age) → face_at new tid ≡ Some seen → age_at new tid.home.0 ≡ Some at → IsBegun tid at) → Moves old new
untold old new i kept same begun = record {
  inv = record {
    begun = begun;
    commits = λ client told is so. commit_kept old new client kept (i.commits client told (sym (same client) ∙ is) so);
    aborts = λ client told cause is among. abort_kept old new client cause kept (i.aborts client told cause (sym (same client) ∙ is) among);
  };
  kept = kept;
}

pub by_alike : (old new : BookValue) → Inv old → Alike old new → Moves old new
by_alike old new i a = untold old new i (λ tid seen found closed. a.faces tid ∙ found) a.tolds
    (λ tid seen at found is. i.begun tid seen at (sym (a.faces tid) ∙ found) (sym (a.ages tid.home.0) ∙ is))

-- ---- decide

-- the client is the owner, and may be told that outcome now
abbrev IsTold : Option ClientNo → Outcome → Option Cause → List Owner → ℕ → Told → Type 0
IsTold o outcome cause owners client t =
    (v : Owner) × (o ≡ Some (record { 0 = client })) × (slice_get owners client ≡ Some v) × (told_of (told outcome cause v) ≡ t)

abbrev numbered : ℕ → Option ClientNo
numbered n = Some (record { 0 = n })

told_after : (o : Option ClientNo) (outcome : Outcome) (cause : Option Cause) (owners : List Owner) (client : ℕ) (t : Told)
    → option_map told_of (slice_get (told_owner o outcome cause owners) client) ≡ Some t
    → (option_map told_of (slice_get owners client) ≡ Some t) ⊎ IsTold o outcome cause owners client t
told_after None outcome cause owners client t h = inl h
told_after (Some c) outcome cause owners client t h = by (slice_get owners c.0) refl
  where
    f : Owner → Owner
    f = told outcome cause

    at : (v : Owner) → ((client ≡ c.0) × (slice_get owners client ≡ Some v) × (slice_get (changed_at c.0 f owners) client ≡ Some (f v))) ⊎ (slice_get (changed_at c.0 f owners) client ≡ slice_get owners client)
        → (option_map told_of (slice_get owners client) ≡ Some t) ⊎ IsTold (Some c) outcome cause owners client t
    at v (inl is) = inr (v, ap numbered (sym is.0), is.1, cc (rw is.2 at h))
    at v (inr is) = inl (rw is at h)

    by : (p : Option Owner) → slice_get owners c.0 ≡ p → (option_map told_of (slice_get owners client) ≡ Some t) ⊎ IsTold (Some c) outcome cause owners client t
    by None is = inl (subst (λ (p : Option Owner). option_map told_of (slice_get (elim p [ None ↦ owners | Some x ↦ slice_set owners c.0 (f x) ]) client) ≡ Some t) is h)
    by (Some v) is = at v (changed_at_either f owners c.0 client v is)

module _ (book : BookValue) (tid : Tid) (tx : TransactionValue) (outcome : Outcome) (cause : Option Cause)
    (i : Inv book) (found : find_transaction book tid ≡ Some tx) (opened : is_open tx.cell ≡ true) where
  abbrev later : BookValue
  later = decide tid outcome cause book

  abbrev decided_tx : TransactionValue
  decided_tx = decided_at book.place outcome cause tx

  decided_here : face_at later tid ≡ Some (face decided_tx)
  decided_here = ap (option_map face) (lookup_changed (is_at (tid_cmp tid)) (decided_at book.place outcome cause) book.transactions tx found)

  either_face : (q : Tid) → Either (find_transaction book q) (find_transaction later q) tx decided_tx
  either_face q = changed_either (is_at (tid_cmp tid)) (is_at (tid_cmp q)) (decided_at book.place outcome cause) book.transactions tx found

  closed_stays : (q : Tid) (seen : Face) → face_at book q ≡ Some seen → is_open seen.cell ≡ false → Either (find_transaction book q) (find_transaction later q) tx decided_tx → face_at later q ≡ Some seen
  closed_stays q seen is closed (inl same) = ap (option_map face) same ∙ is
  closed_stays q seen is closed (inr at) =
      let is_tx : Some (face tx) ≡ Some seen = ap (option_map face) (sym at.0) ∙ is in
      let cell_is : seen.cell ≡ tx.cell = cc in
      absurd (cc (ap is_open cell_is, opened, closed))

  decide_keeps : Kept book later
  decide_keeps q seen is closed = closed_stays q seen is closed (either_face q)

  was_there : (q : Tid) (seen : Face) → face_at later q ≡ Some seen → Either (find_transaction book q) (find_transaction later q) tx decided_tx → (old : Face) × (face_at book q ≡ Some old)
  was_there q seen is (inl same) = (seen, ap (option_map face) (sym same) ∙ is)
  was_there q seen is (inr at) = (face tx, ap (option_map face) at.0)

  decide_begun : (q : Tid) (seen : Face) (at : Age) → face_at later q ≡ Some seen → age_at later q.home.0 ≡ Some at → IsBegun q at
  decide_begun q seen at is aged = let old = was_there q seen is (either_face q) in i.begun q old.0 at old.1 aged

  owner_is : owner_of (find_transaction book tid) ≡ tx.owner
  owner_is = ap owner_of found

  told_by : (client : ℕ) (t : Told) → told_at later client ≡ Some t → (told_at book client ≡ Some t) ⊎ IsTold tx.owner outcome cause book.owners client t
  told_by client t is =
      told_after tx.owner outcome cause book.owners client t
      (subst (λ (o : Option ClientNo). option_map told_of (slice_get (told_owner o outcome cause book.owners) client) ≡ Some t) owner_is is)

told_commit : (outcome : Outcome) (cause : Option Cause) (v : Owner) (t : Told) → told_of (told outcome cause v) ≡ t → t.committed ≡ true → (outcome ≡ outcomes.Commit) ⊎ (v.committed ≡ true)
told_commit outcomes.Commit cause v t is so = inl refl
told_commit outcomes.Abort None v t is so = inr (ap (λ (u : Told). u.committed) is ∙ so)
told_commit outcomes.Abort (Some c) v t is so = inr (ap (λ (u : Told). u.committed) is ∙ so)

-- it was among the causes, or is the one that is told now
told_abort : (outcome : Outcome) (cause : Option Cause) (v : Owner) (t : Told) (c : Cause) → told_of (told outcome cause v) ≡ t → list_any (same_cause c) t.causes ≡ true
    → (list_any (same_cause c) v.causes ≡ true) ⊎ ((outcome ≡ outcomes.Abort) × (cause ≡ Some c))
told_abort outcomes.Commit cause v t c is among = inl (ap (λ (u : Told). list_any (same_cause c) u.causes) is ∙ among)
told_abort outcomes.Abort None v t c is among = inl (ap (λ (u : Told). list_any (same_cause c) u.causes) is ∙ among)
told_abort outcomes.Abort (Some d) v t c is among =
    by (among_more c d v.causes (ap (λ (u : Told). list_any (same_cause c) u.causes) is ∙ among))
  where
    by : (list_any (same_cause c) v.causes ≡ true) ⊎ (same_cause c d ≡ true)
        → (list_any (same_cause c) v.causes ≡ true) ⊎ ((outcomes.Abort ≡ outcomes.Abort) × (Some d ≡ Some c))
    by (inl was) = inl was
    by (inr q) = inr (refl, ap Some (sym (same_cause-true c d q)))

module _ (book : BookValue) (tid : Tid) (tx : TransactionValue) (outcome : Outcome) (cause : Option Cause)
    (i : Inv book) (found : find_transaction book tid ≡ Some tx) (opened : is_open tx.cell ≡ true) where
  abbrev after : BookValue
  after = decide tid outcome cause book

  kept_over : Kept book after
  kept_over = decide_keeps book tid tx outcome cause i found opened

  stands : face_at after tid ≡ Some (face (decided_at book.place outcome cause tx))
  stands = decided_here book tid tx outcome cause i found opened

  commits_at : (client : ℕ) (t : Told) → t.committed ≡ true → (told_at book client ≡ Some t) ⊎ IsTold tx.owner outcome cause book.owners client t → HasCommit after client
  commits_at client t so (inl is) = commit_kept book after client kept_over (i.commits client t is so)
  commits_at client t so (inr at) = by (told_commit outcome cause at.0 t at.3 so)
    where
      by : (outcome ≡ outcomes.Commit) ⊎ (at.0.committed ≡ true) → HasCommit after client
      by (inl is) = record {
        tid = tid;
        seen = face (decided_at book.place outcome cause tx);
        found = stands;
        owned = at.1;
        committed = ap cell_of is;
      }
      by (inr was) = commit_kept book after client kept_over (i.commits client (told_of at.0) (ap (option_map told_of) at.2) was)

  aborts_at : (client : ℕ) (t : Told) (c : Cause) → list_any (same_cause c) t.causes ≡ true → (told_at book client ≡ Some t) ⊎ IsTold tx.owner outcome cause book.owners client t → HasAbort after client c
  aborts_at client t c among (inl is) = abort_kept book after client c kept_over (i.aborts client t c is among)
  aborts_at client t c among (inr at) = by (told_abort outcome cause at.0 t c at.3 among)
    where
      by : (list_any (same_cause c) at.0.causes ≡ true) ⊎ ((outcome ≡ outcomes.Abort) × (cause ≡ Some c)) → HasAbort after client c
      by (inl was) = abort_kept book after client c kept_over (i.aborts client (told_of at.0) c (ap (option_map told_of) at.2) was)
      by (inr is) = record {
        tid = tid;
        seen = face (decided_at book.place outcome cause tx);
        found = stands;
        owned = at.1;
        aborted = ap cell_of is.0;
        why = is.1;
      }

  -- an open cell is decided
  pub by_decide : Moves book after
  by_decide = record {
    inv = record {
      begun = decide_begun book tid tx outcome cause i found opened;
      commits = λ client t is so. commits_at client t so (told_by book tid tx outcome cause i found opened client t is);
      aborts = λ client t c is among. aborts_at client t c among (told_by book tid tx outcome cause i found opened client t is);
    };
    kept = kept_over;
  }

-- ---- begin

pub next_is : (here : ℕ) (node : NodeValue) (tid : Tid) → is_next_tid here node tid ≡ true → (tid.home.0 ≡ here) × (tid.inc ≡ node.inc) × (tid.seq ≡ node.begun + 1)
next_is here node tid h = grind (arith, nat_tests)

not_begun : (inc begun : ℕ) (tid : Tid) → tid.inc ≡ inc → tid.seq ≡ begun + 1 → IsBegun tid (record { inc = inc; begun = begun }) → ⊥
not_begun inc begun tid a b c = grind arith

begun_later : (inc begun seq : ℕ) (q : Tid) → seq ≡ begun + 1 → IsBegun q (record { inc = inc; begun = begun }) → IsBegun q (record { inc = inc; begun = seq })
begun_later inc begun seq q a b = grind arith

module _ (book : BookValue) (here : ℕ) (node : NodeValue) (tid : Tid) (label : List ℕ) (client : ClientNo)
    (i : Inv book) (at_here : slice_get book.nodes here ≡ Some node) (next : is_next_tid here node tid ≡ true) where
  abbrev started : BookValue
  started = begin here tid label client book

  abbrev fresh_tx : TransactionValue
  fresh_tx = begun label client (ticks_at (slice_get book.nodes here))

  aged_here : age_at book tid.home.0 ≡ Some (age node)
  aged_here = ap (age_at book) (next_is here node tid next).0 ∙ ap (option_map age) at_here

  pub is_new : (seen : Face) → face_at book tid ≡ Some seen → ⊥
  is_new seen is =
      let n = next_is here node tid next in
      not_begun node.inc node.begun tid n.1 n.2 (i.begun tid seen (age node) is aged_here)

  other_found : (q : Tid) → is_at (tid_cmp q) tid ≡ false → face_at started q ≡ face_at book q
  other_found q other = ap (option_map face) (lookup_put_apart tid_cmp tid fresh_tx (λ x same. at_exact tid x (is_equal x same)) (is_at (tid_cmp q)) other book.transactions)
    where
      is_equal : (x : Tid) → tid_cmp tid x ≡ Equal → is_at (tid_cmp tid) x ≡ true
      is_equal x same = rw same refl

  begin_keeps : Kept book started
  begin_keeps q seen is closed = by (is_at (tid_cmp q) tid) refl
    where
      by : (b : Bool) → is_at (tid_cmp q) tid ≡ b → face_at started q ≡ Some seen
      by true same = absurd (is_new seen (ap (face_at book) (sym (at_exact q tid same)) ∙ is))
      by false other = other_found q other ∙ is

  abbrev grown : NodeValue → NodeValue
  grown v = record v { begun = tid.seq }

  aged : (q : Tid) (at : Age) → age_at started q.home.0 ≡ Some at
      → ((q.home.0 ≡ here) × (slice_get book.nodes q.home.0 ≡ Some node) × (slice_get (changed_at here grown book.nodes) q.home.0 ≡ Some (grown node))) ⊎ (slice_get (changed_at here grown book.nodes) q.home.0 ≡ slice_get book.nodes q.home.0)
      → ((q.home.0 ≡ here) × (at ≡ record { inc = node.inc; begun = tid.seq })) ⊎ (age_at book q.home.0 ≡ Some at)
  aged q at is (inl h) = let e : Some (age (grown node)) ≡ Some at = ap (option_map age) (sym h.2) ∙ is in inl (h.0, cc)
  aged q at is (inr h) = inr (ap (option_map age) (sym h) ∙ is)

  begin_begun : (q : Tid) (seen : Face) (at : Age) → face_at started q ≡ Some seen → age_at started q.home.0 ≡ Some at → IsBegun q at
  begin_begun q seen at is is_aged = by (is_at (tid_cmp q) tid) refl (aged q at is_aged (changed_at_either grown book.nodes here q.home.0 node at_here))
    where
      n : (tid.home.0 ≡ here) × (tid.inc ≡ node.inc) × (tid.seq ≡ node.begun + 1)
      n = next_is here node tid next

      here_now : age_at started here ≡ Some (age (grown node))
      here_now = ap (option_map age) (changed_at_here grown book.nodes here node at_here)

      of_new : q ≡ tid → IsBegun q at
      of_new same =
          let at_home : age_at started here ≡ Some at = sym (ap (age_at started) (ap (λ (t : Tid). t.home.0) same ∙ n.0)) ∙ is_aged in
          let at_is : at ≡ age (grown node) = cc (at_home, here_now) in
          rw (same, at_is) (inr (n.1, le_refl tid.seq))

      by : (b : Bool) → is_at (tid_cmp q) tid ≡ b → ((q.home.0 ≡ here) × (at ≡ record { inc = node.inc; begun = tid.seq })) ⊎ (age_at book q.home.0 ≡ Some at) → IsBegun q at
      by true same h = of_new (at_exact q tid same)
      by false other (inl h) =
          let was : IsBegun q (age node) = i.begun q seen (age node) (sym (other_found q other) ∙ is) (ap (age_at book) h.0 ∙ ap (option_map age) at_here) in
          rw h.1 (begun_later node.inc node.begun tid.seq q n.2 was)
      by false other (inr h) = i.begun q seen at (sym (other_found q other) ∙ is) h

  -- a transaction with the next identifier of its home begins
  pub by_begin : Moves book started
  by_begin = untold book started i begin_keeps (λ c. refl) begin_begun
