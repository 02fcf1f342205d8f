-- A restart of a member's node keeps what its log holds of a transaction that may still be committed, or takes up what was
-- pending as the node stopped.
use Rattle.qs_book_laws.proofs.Words.{◌≡◌, ◌⊎◌, ℕ, ◌<◌, ◌≤◌, ◌==◌, Bool, true, false, ◌&&◌, ◌||◌, List, [], ◌∷◌, ◌++◌, Option, Some, None, inl, inr, refl, sym, ap, subst, ◌∙◌, fold, arith, if◌then◌else◌, nat_tests, is_some, slice_get, flat_map, nat_lt, nat_le, unwrap_or, list_any, option_map, is_at, tid_cmp, same_member, Member, Tid, same_tid-self, same_member-true, Op, Found, TableValue, share_of, applied, kept, Share, TransactionValue, is_open, is_abort, found_at, Cell, BookValue}
use Rattle.qs_book_laws.proofs.Words.{find_transaction, crossed_in, with_transaction, inc_at, cell_of_transaction, NodeValue, pending_at, record_of, changes_of, voter, voter_cmp, restart, reopened, restarted_node, put_new_votes, new_votes, new_votes_at, new_vote, is_new_vote, with_votes, changes_at, keep_found, is_found_as, broken_restart, is_among, member_at, without_records, vote_found, commit_found, abort_begun, up_to, begun_at, record_at, count_of as pending_of, vote_as_stopped, OnRecord}
use Rattle.qs_book_laws.proofs.Words.{Voter, held_at, or_right, ltb-true, lt_lt}
use Rattle.qs_book_machine.specs.declared.transaction.Cell.TheVariants as cells
use Rattle.qs_book_machine.specs.Restart.{with_vote, may_be_lost, found_only}
use Rattle.qs_book_laws.proofs.Again.{kept_rule, votes_new, reopened_there}
use Rattle.qs_book_laws.proofs.Alikes.{all_among, at_exact, voter_exact, voter_equal}
use Rattle.qs_book_laws.proofs.Ballots.{IsEven}
use Rattle.qs_book_laws.proofs.Begun.{IsNative, IsClosed, home_closes}
use Rattle.qs_book_laws.proofs.Counts.{Count, count_of, count_in, no_count, Counted, counted_all, commit_counted, abort_counted, put_apart, found_count, found_later}
use Rattle.qs_book_laws.proofs.Covers.{Mark, mark_in}
use Rattle.qs_book_laws.proofs.Ends.{held_there}
use Rattle.qs_book_laws.proofs.Faces.{face, face_at}
use Rattle.qs_book_laws.proofs.FoundOnly.{found_stays, found_with, none_stays_none}
use Rattle.qs_book_laws.proofs.Found.{found_in, forgot_others, pending_again}
use Rattle.qs_book_laws.proofs.Grows.{Alters}
use Rattle.qs_book_laws.proofs.Holding.{clash, settled, same_number}
use Rattle.qs_book_laws.proofs.Keeping.{is_live, live_plain, live_open, not_live, Keeping}
use Rattle.qs_book_laws.proofs.Maps.{changed_at_here, changed_none, changed_apart, lookup_changed, lookup_put_apart}
use Rattle.qs_book_laws.proofs.Outcomes.{Inv}
use Rattle.qs_book_laws.proofs.Reopens.{did, restart_commits}
use Rattle.qs_book_laws.proofs.Serves.{inc_marked}
use Rattle.qs_book_laws.proofs.Shares.{number}
use Rattle.qs_book_laws.proofs.Shut.{Shut, commit_closed}
use Rattle.qs_book_laws.proofs.Steps.{passed}
use Rattle.qs_book_laws.proofs.Stills.{facet}
use Rattle.qs_book_laws.proofs.Takes.{some_same}
use Rattle.qs_book_laws.proofs.Votes.{IsHeld, votes_held}

-- ---- counts

module _ (tid : Tid) (member : Member) (here inc : ℕ) (done : List Tid) where
  -- a vote that is found puts a part where there was none
  found_same : (t : Tid) (other : Member) (covers changes : ℕ) (book : BookValue) → count_of book tid member inc ≡ no_count → Counted tid member book (with_transaction t (found_at other inc covers changes) book)
  found_same t other covers changes book none k = by (is_at (tid_cmp t) tid) refl
    where
      f : TransactionValue → TransactionValue
      f = found_at other inc covers changes

      count : Option TransactionValue → Count
      count o = unwrap_or (option_map (count_in member k) o) no_count

      swapped : is_at (tid_cmp t) tid ≡ false → (q : Tid) → is_at (tid_cmp tid) q ≡ true → is_at (tid_cmp t) q ≡ false
      swapped apart q is = subst (λ (x : Tid). is_at (tid_cmp t) x ≡ false) (at_exact tid q is) apart

      itself : (tx : TransactionValue) → find_transaction book tid ≡ Some tx → (b : Bool) → (k == inc) ≡ b → count_in member k (found_at member inc covers changes tx) ≡ count_in member k tx
      itself tx is true same =
          let e : k ≡ inc = same_number k inc same in
          subst (λ (n : ℕ). count_in member n (found_at member inc covers changes tx) ≡ count_in member n tx) (sym e)
          (found_count member inc covers changes tx ∙ (sym none ∙ ap (λ (o : Option TransactionValue). unwrap_or (option_map (count_in member inc) o) no_count) is))
      itself tx is false far = found_later member k inc covers changes tx far

      each : (tx : TransactionValue) → find_transaction book tid ≡ Some tx → (b : Bool) → same_member other member ≡ b → count_in member k (f tx) ≡ count_in member k tx
      each tx is false apart = put_apart member other k inc _ tx apart
      each tx is true same =
          subst (λ (m : Member). count_in member k (found_at m inc covers changes tx) ≡ count_in member k tx) (sym (same_member-true other member same)) (itself tx is (k == inc) refl)

      mine : (o : Option TransactionValue) → find_transaction book tid ≡ o → count_of (with_transaction tid f book) tid member k ≡ count_of book tid member k
      mine None is = ap count (changed_none (is_at (tid_cmp tid)) f book.transactions is) ∙ sym (ap count is)
      mine (Some tx) is = ap count (lookup_changed (is_at (tid_cmp tid)) f book.transactions tx is) ∙ (each tx is (same_member other member) refl ∙ sym (ap count is))

      by : (b : Bool) → is_at (tid_cmp t) tid ≡ b → count_of (with_transaction t f book) tid member k ≡ count_of book tid member k
      by false apart = ap count (changed_apart (is_at (tid_cmp t)) (is_at (tid_cmp tid)) (swapped apart) f book.transactions)
      by true same = subst (λ (x : Tid). count_of (with_transaction x f book) tid member k ≡ count_of book tid member k) (sym (at_exact t tid same)) (mine (find_transaction book tid) refl)

  vote_same : (book : BookValue) (f : Found) → count_of book tid member inc ≡ no_count → Counted tid member book (vote_found here inc done book f)
  vote_same book f none = by (is_among done f.tid)
    where
      by : (b : Bool) → Counted tid member book (if b then book else with_transaction f.tid (found_at (member_at here f.server.0) inc f.covers (pending_of (record_at here book f.tid f.server.0))) book)
      by true = λ k. refl
      by false = found_same f.tid (member_at here f.server.0) f.covers (pending_of (record_at here book f.tid f.server.0)) book none

  votes_same : (pend : List Found) (book : BookValue) → count_of book tid member inc ≡ no_count → Counted tid member book (fold (vote_found here inc done) book pend)
  votes_same [] book none k = refl
  votes_same (f ∷ pend) book none k =
      let one : Counted tid member book (vote_found here inc done book f) = vote_same book f none in
      votes_same pend (vote_found here inc done book f) (one inc ∙ none) k ∙ one k

  settled_same : (pend : List Found) (book : BookValue) → count_of book tid member inc ≡ no_count → Counted tid member book (settled here inc pend done book)
  settled_same pend book none k =
      let commits : Counted tid member book (fold (commit_found here) book done) = counted_all tid member (commit_found here) (commit_counted tid member here) done book in
      counted_all tid member (abort_begun here (inc_at book (record { 0 = here }))) (abort_counted tid member here (inc_at book (record { 0 = here }))) (up_to (begun_at here book)) (fold (vote_found here inc done) (fold (commit_found here) book done) pend) k
      ∙ (votes_same pend (fold (commit_found here) book done) (commits inc ∙ none) k ∙ commits k)

-- ---- what was found

-- what is on record with the new votes was so, or is one of them
module _ (here : ℕ) (book : BookValue) (node : NodeValue) (tid : Tid) (s : ℕ) where
  abbrev IsFound : List Found → Type 0
  IsFound pend = (list_any (is_found_as (voter tid s) 0) pend ≡ true) × (is_some (find_transaction book tid) ≡ true)

  known_new : (f : Found) → is_new_vote here node (find_transaction book f.tid) f ≡ true → is_some (find_transaction book f.tid) ≡ true
  known_new f = by (find_transaction book f.tid)
    where
      by : (o : Option TransactionValue) → is_new_vote here node o f ≡ true → is_some o ≡ true
      by None h = absurd (cc h)
      by (Some tx) h = refl

  found_new : (f : Found) (pend : List Found) → voter tid s ≡ voter f.tid f.server.0 → is_new_vote here node (find_transaction book f.tid) f ≡ true → IsFound (f ∷ pend)
  found_new f pend e is =
      let t : tid ≡ f.tid = ap (λ (w : Voter). w.tid) e in
      let k : s ≡ f.server.0 = ap (λ (w : Voter). w.server.0) e in
      let as_found : is_found_as (voter tid s) 0 f ≡ true = subst (λ (x : Tid). is_found_as (voter x s) 0 f ≡ true) (sym t) (subst (λ (n : ℕ). is_found_as (voter f.tid n) 0 f ≡ true) (sym k) (rw (same_tid-self f.tid) (server f.server.0 f.covers))) in
      (rw as_found refl, subst (λ (x : Tid). is_some (find_transaction book x) ≡ true) (sym t) (known_new f is))
    where
      server : (m n : ℕ) → ((m == m) && nat_le 0 n) ≡ true
      server m n = grind (arith, nat_tests)

  votes_found : (pend : List Found) (v : NodeValue) → is_some (record_of (with_votes (flat_map (new_vote here book node) pend) v) tid s) ≡ true → (is_some (record_of v tid s) ≡ true) ⊎ IsFound pend
  votes_found [] v h = inl h
  votes_found (f ∷ pend) v h = by (is_new_vote here node (find_transaction book f.tid) f) refl h (votes_found pend v) (votes_found pend (with_vote v vote))
    where
      vote : Voter × OnRecord
      vote = (voter f.tid f.server.0, vote_as_stopped here book node f)

      later : IsFound pend → IsFound (f ∷ pend)
      later (among, known) = (or_right (is_found_as (voter tid s) 0 f) (list_any (is_found_as (voter tid s) 0) pend) among, known)

      put : (b : Bool) → is_at (voter_cmp (voter tid s)) vote.0 ≡ b → is_new_vote here node (find_transaction book f.tid) f ≡ true → is_some (record_of (with_vote v vote) tid s) ≡ true → (is_some (record_of v tid s) ≡ true) ⊎ IsFound (f ∷ pend)
      put true same is k = inr (found_new f pend (voter_exact (voter tid s) vote.0 same) is)
      put false other is k = inl (ap (λ (o : Option OnRecord). is_some o) (sym (lookup_put_apart voter_cmp vote.0 vote.1 (λ x. voter_equal vote.0 x) (is_at (voter_cmp (voter tid s))) other v.records)) ∙ k)

      one : is_new_vote here node (find_transaction book f.tid) f ≡ true → (is_some (record_of (with_vote v vote) tid s) ≡ true) ⊎ IsFound pend → (is_some (record_of v tid s) ≡ true) ⊎ IsFound (f ∷ pend)
      one is (inl k) = put (is_at (voter_cmp (voter tid s)) vote.0) refl is k
      one is (inr found) = inr (later found)

      none : (is_some (record_of v tid s) ≡ true) ⊎ IsFound pend → (is_some (record_of v tid s) ≡ true) ⊎ IsFound (f ∷ pend)
      none (inl k) = inl k
      none (inr found) = inr (later found)

      by : (b : Bool) → is_new_vote here node (find_transaction book f.tid) f ≡ b → is_some (record_of (with_votes ((if b then vote ∷ [] else []) ++ flat_map (new_vote here book node) pend) v) tid s) ≡ true
          → (is_some (record_of (with_votes (flat_map (new_vote here book node) pend) v) tid s) ≡ true → (is_some (record_of v tid s) ≡ true) ⊎ IsFound pend)
          → (is_some (record_of (with_votes (flat_map (new_vote here book node) pend) (with_vote v vote)) tid s) ≡ true → (is_some (record_of (with_vote v vote) tid s) ≡ true) ⊎ IsFound pend)
          → (is_some (record_of v tid s) ≡ true) ⊎ IsFound (f ∷ pend)
      by true is k plain more = one is (more k)
      by false is k plain more = none (plain k)

-- ---- the restart

committed_not_live : (o : Option TransactionValue) (member : Member) → cell_of_transaction o ≡ Some cells.Commit → is_live o member ≡ true → ⊥
committed_not_live None member is live = absurd (cc is)
committed_not_live (Some tx) member is live = clash (live_open (Some tx) member tx live refl) (ap is_open (some_same tx.cell cells.Commit is))

not_lost_here : (here : ℕ) (tid : Tid) (o : Option TransactionValue) (member : Member) → is_live o member ≡ true → (is_some o ≡ true → (tid.home.0 == here) ≡ false) → may_be_lost here tid o ≡ false
not_lost_here here tid None member live away = refl
not_lost_here here tid (Some tx) member live away = by tx.cell (live_open (Some tx) member tx live refl)
  where
    far : (tid.home.0 == here) ≡ false
    far = away refl

    by : (cell : Cell) → is_open cell ≡ true → (is_abort cell || (is_open cell && (tid.home.0 == here))) ≡ false
    by cells.Open o = far
    by cells.Commit o = absurd (cc o)
    by cells.Abort o = absurd (cc o)

module _ (tid : Tid) (member : Member) (b : Bool) (is : member.server.0 ≡ number b) (inc : ℕ) (pend : List Found) (done : List Tid) (book : BookValue) (node : NodeValue) (changes : List Op)
    (i : Inv book) (shut : Shut book) (at : slice_get book.nodes member.node.0 ≡ Some node) (lawful : broken_restart member.node.0 book node inc pend done ≡ None)
    (alters : Alters tid member book (restart member.node.0 inc pend done book))
    (was_live : is_live (find_transaction book tid) member ≡ true) (live : is_live (find_transaction (restart member.node.0 inc pend done book) tid) member ≡ true)
    (native : IsNative tid book) (k : Keeping tid member book changes) where
  abbrev here : ℕ
  here = member.node.0

  abbrev last : BookValue
  last = restart member.node.0 inc pend done book

  abbrev mid : BookValue
  mid = put_new_votes member.node.0 pend book

  abbrev v : NodeValue
  v = with_votes (new_votes member.node.0 book pend) node

  abbrev after : NodeValue
  after = restarted_node (reopened member.node.0 inc pend done mid) pend done v

  abbrev recorded : Option OnRecord
  recorded = record_of v tid member.server.0

  rising : node.inc < inc
  rising = ltb-true node.inc inc (passed (nat_lt node.inc inc) 110 _ lawful)

  mark_is : k.mark ≡ mark_in tid member.server.0 node
  mark_is = inc_marked tid member book node k.mark at k.at

  inc_is : k.mark.inc ≡ node.inc
  inc_is = ap (λ (m : Mark). m.inc) mark_is

  rec_is : k.mark.rec ≡ record_of node tid member.server.0
  rec_is = ap (λ (m : Mark). m.rec) mark_is

  below_new : k.mark.inc < inc
  below_new = subst (λ (n : ℕ). n < inc) (sym inc_is) rising

  -- its Commit is not found: else it would be committed now
  apart : is_among done tid ≡ false
  apart = by (is_among done tid) refl
    where
      wrong : (cell_of_transaction (find_transaction last tid) ≡ Some cells.Commit) ⊎ (is_among node.committed tid ≡ true) → ⊥
      wrong (inl committed) = committed_not_live (find_transaction last tid) member committed live
      wrong (inr in_log) = decided (find_transaction book tid) (shut member.node.0 (facet node) tid (ap (λ (o : Option NodeValue). option_map facet o) at) in_log).asks refl
        where
          decided : (o : Option TransactionValue) → option_map (λ (tx : TransactionValue). tx.asked) o ≡ Some None → find_transaction book tid ≡ o → ⊥
          decided None asks found = absurd (cc asks)
          decided (Some tx) asks found =
              let seen : face_at book tid ≡ Some (face tx) = ap (λ (o : Option TransactionValue). option_map face o) found in
              not_live (find_transaction book tid) member (face tx) seen
              (commit_closed tx.cell ((shut member.node.0 (facet node) tid (ap (λ (o : Option NodeValue). option_map facet o) at) in_log).committed (face tx) seen)) was_live

      by : (c : Bool) → is_among done tid ≡ c → c ≡ false
      by false none = refl
      by true among =
          absurd (wrong (all_among (λ (t : Tid). (cell_of_transaction (find_transaction last t) ≡ Some cells.Commit) ⊎ (is_among node.committed t ≡ true)) done tid
          (did member.node.0 inc pend done book node i shut at (restart_commits member.node.0 inc pend done book node lawful)) among))

  -- it is not its home that restarts: else it would be decided now
  away : is_some (find_transaction book tid) ≡ true → (tid.home.0 == member.node.0) ≡ false
  away known = by (tid.home.0 == member.node.0) refl
    where
      by : (c : Bool) → (tid.home.0 == member.node.0) ≡ c → c ≡ false
      by false far = refl
      by true same =
          let c : IsClosed last tid = home_closes tid member member.node.0 inc pend done book node i at (same_number tid.home.0 member.node.0 same) native known in
          absurd (not_live (find_transaction last tid) member c.seen c.found c.closed live)

  -- ---- what is on record then, and pending

  new_votes_are : new_votes member.node.0 book pend ≡ flat_map (new_vote member.node.0 book node) pend
  new_votes_are = ap (λ (o : Option NodeValue). new_votes_at member.node.0 book o pend) at

  was_or_found : is_some recorded ≡ true → (is_some (record_of node tid member.server.0) ≡ true) ⊎ IsFound member.node.0 book node tid member.server.0 pend
  was_or_found h =
      votes_found member.node.0 book node tid member.server.0 pend node
      (subst (λ (votes : List (Voter × OnRecord)). is_some (record_of (with_votes votes node) tid member.server.0) ≡ true) new_votes_are h)

  -- the vote is found again
  found_again : is_some recorded ≡ true → (covers : ℕ) × (list_any (is_found_as (voter tid member.server.0) covers) pend ≡ true)
  found_again h = by (was_or_found h)
    where
      known : (rec : OnRecord) → record_of node tid member.server.0 ≡ Some rec → (c : Bool) → is_some (find_transaction book tid) ≡ c → c ≡ true
      known rec found true is = refl
      known rec found false none = absurd (cc (sym (rec_is ∙ found) ∙ k.unknown none))

      old : (o : Option OnRecord) → record_of node tid member.server.0 ≡ o → is_some o ≡ true → (covers : ℕ) × (list_any (is_found_as (voter tid member.server.0) covers) pend ≡ true)
      old None found h = absurd (cc h)
      old (Some rec) found h =
          (rec.covers, found_in member.node.0 book node pend done tid member.server.0 rec (not_lost_here member.node.0 tid (find_transaction book tid) member was_live away) found apart (kept_rule member.node.0 inc pend done book node lawful))

      by : (is_some (record_of node tid member.server.0) ≡ true) ⊎ IsFound member.node.0 book node tid member.server.0 pend → (covers : ℕ) × (list_any (is_found_as (voter tid member.server.0) covers) pend ≡ true)
      by (inl was) = old (record_of node tid member.server.0) refl was
      by (inr found) = (0, found.0)

  logged_is : changes_at member.node.0 mid member.server.0 tid ≡ changes_of recorded
  logged_is = ap (λ (o : Option NodeValue). changes_of (elim o [ None ↦ None | Some w ↦ record_of w tid member.server.0 ])) (changed_at_here (with_votes (new_votes member.node.0 book pend)) book.nodes member.node.0 node at)

  plain : crossed_in (find_transaction mid tid) member ≡ false
  plain = live_plain (find_transaction book tid) member was_live

  again : (t : TableValue) → t.shares ≡ [] → (o : Option OnRecord) → recorded ≡ o
      → (share_of (fold kept t (flat_map (keep_found member.node.0 mid member.server.0 done) pend)) tid).changes ≡ changes_at member.node.0 mid member.server.0 tid
  again t empty None none =
      pending_again member.node.0 mid member.server.0 done tid 0 apart plain pend t
      (inr (ap (λ (shares : List (Tid × Share)). (share_of (record t { shares = shares }) tid).changes) empty ∙ sym (logged_is ∙ ap changes_of none)))
  again t empty (Some rec) found =
      let f : (covers : ℕ) × (list_any (is_found_as (voter tid member.server.0) covers) pend ≡ true) = found_again (ap (λ (o : Option OnRecord). is_some o) found) in
      pending_again member.node.0 mid member.server.0 done tid f.0 apart plain pend t (inl f.1)

  pending_after : (c : Bool) → member.server.0 ≡ number c → pending_at after tid member.server.0 ≡ changes_at member.node.0 mid member.server.0 tid
  pending_after true e =
      subst (λ (n : ℕ). pending_at after tid n ≡ changes_at member.node.0 mid n tid) (sym e)
      (subst (λ (n : ℕ). (share_of (fold kept (record (applied (fold without v done).files (reopened member.node.0 inc pend done mid).files) { shares = [] }) (flat_map (keep_found member.node.0 mid n done) pend)) tid).changes ≡ changes_at member.node.0 mid n tid) e
      (again (record (applied (fold without v done).files (reopened member.node.0 inc pend done mid).files) { shares = [] }) refl recorded refl))
    where
      without : NodeValue → Tid → NodeValue
      without w t = without_records w t
  pending_after false e =
      subst (λ (n : ℕ). pending_at after tid n ≡ changes_at member.node.0 mid n tid) (sym e)
      (subst (λ (n : ℕ). (share_of (fold kept (record (applied (fold without v done).audit (reopened member.node.0 inc pend done mid).audit) { shares = [] }) (flat_map (keep_found member.node.0 mid n done) pend)) tid).changes ≡ changes_at member.node.0 mid n tid) e
      (again (record (applied (fold without v done).audit (reopened member.node.0 inc pend done mid).audit) { shares = [] }) refl recorded refl))
    where
      without : NodeValue → Tid → NodeValue
      without w t = without_records w t

  after_there : slice_get last.nodes member.node.0 ≡ Some after
  after_there = reopened_there member.node.0 inc pend done book node at

  held_after : held_at last tid member ≡ changes_of recorded
  held_after = held_there last tid member after after_there ∙ (pending_after b is ∙ logged_is)

  count_same : (n : ℕ) → count_of last tid member n ≡ count_of book tid member n
  count_same n = settled_same tid member member.node.0 inc done pend mid (k.above inc below_new) n

  -- what is on record is what was served, where its votes covered that
  logged_all : ((n : ℕ) → n < inc → IsEven (count_of last tid member n)) → changes_of recorded ≡ changes
  logged_all even =
      by (votes_held book node (new_votes member.node.0 book pend) (votes_new book member.node.0 node pend at) node tid member.server.0 (inr refl))
    where
      held_all : held_at book tid member ≡ changes
      held_all = k.pending (λ n below. subst IsEven (count_same n) (even n (lt_lt n k.mark.inc inc below below_new)))

      rec_all : changes_of k.mark.rec ≡ held_at book tid member
      rec_all = k.on_record (subst IsEven (count_same k.mark.inc) (even k.mark.inc below_new))

      by : IsHeld node v tid member.server.0 → changes_of recorded ≡ changes
      by (inl pending) = pending ∙ (sym (held_there book tid member node at) ∙ held_all)
      by (inr same) = same ∙ (ap changes_of (sym rec_is) ∙ (rec_all ∙ held_all))

  unknown_after : is_some (find_transaction last tid) ≡ false → recorded ≡ None
  unknown_after none = by recorded refl
    where
      before : is_some (find_transaction book tid) ≡ false
      before = sym alters.known ∙ none

      no_record : is_some (record_of node tid member.server.0) ≡ false
      no_record = ap (λ (o : Option OnRecord). is_some o) (sym rec_is ∙ k.unknown before)

      wrong : (is_some (record_of node tid member.server.0) ≡ true) ⊎ IsFound member.node.0 book node tid member.server.0 pend → ⊥
      wrong (inl was) = clash was no_record
      wrong (inr found) = clash found.1 before

      by : (o : Option OnRecord) → recorded ≡ o → o ≡ None
      by None found = refl
      by (Some rec) found = absurd (wrong (was_or_found (ap (λ (o : Option OnRecord). is_some o) found)))

  -- the restart leaves it on record
  still_recorded : record_of (found_only pend (fold without_records v done)) tid member.server.0 ≡ recorded
  still_recorded = by recorded refl
    where
      forgot : record_of (fold without_records v done) tid member.server.0 ≡ recorded
      forgot = forgot_others done tid member.server.0 v apart

      by : (o : Option OnRecord) → recorded ≡ o → record_of (found_only pend (fold without_records v done)) tid member.server.0 ≡ recorded
      by None none = none_stays_none pend (fold without_records v done) tid member.server.0 (forgot ∙ none) ∙ sym none
      by (Some rec) was =
          let f : (covers : ℕ) × (list_any (is_found_as (voter tid member.server.0) covers) pend ≡ true) = found_again (ap (λ (o : Option OnRecord). is_some o) was) in
          found_stays pend (fold without_records v done) tid member.server.0 (found_with pend (voter tid member.server.0) f.0 f.1) ∙ forgot

  pub resumes : Keeping tid member last changes
  resumes = record {
    mark = record { inc = inc; rec = recorded };
    at =
        ap (λ (o : Option NodeValue). option_map (mark_in tid member.server.0) o) after_there
        ∙ ap (λ (o : Option OnRecord). Some (made o)) still_recorded;
    pending = λ even. held_after ∙ logged_all even;
    on_record = λ even. sym held_after;
    above = λ n above. count_same n ∙ k.above n (lt_lt k.mark.inc inc n below_new above);
    most = λ n. subst (λ (c : Count). c.covered ≤ c.served) (sym (count_same n)) (k.most n);
    empty = λ none. sym held_after ∙ none;
    unknown = unknown_after;
  }
    where
      made : Option OnRecord → Mark
      made o = record { inc = inc; rec = o }
