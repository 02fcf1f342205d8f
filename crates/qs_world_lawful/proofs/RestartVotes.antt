-- A vote that a restart finds in doubt is its member's part in the new incarnation; of every other member nothing stands in it.
use Rattle.qs_world_lawful.proofs.Words.{◌≡◌, ◌⊎◌, inl, inr, ℕ, ◌==◌, ◌&&◌, not, Bool, true, false, List, [], ◌∷◌, map, Option, Some, None, fold, refl, sym, ap, subst, ◌∙◌, if◌then◌else◌, unwrap_or, filter, slice_get, is_at, same_tid, tid_cmp, same_tid-self, Tid, changed_apart, changed_none, lookup_changed, lookup_put, BookValue, find_transaction, with_transaction, count_of, is_among, member_at, record_at, vote_found, TransactionValue, found_at, found_part, life, no_part, Life, Part, Prepared}
use Rattle.qs_world_lawful.proofs.Words.{names_transaction, open_vote, last_doubt, Every, found_of, eqb-true, eqb-false, same_Some}
use Rattle.qs_book_machine.specs.Nodes as machine
use Rattle.qs_book_machine.specs.Transaction.{part_of}
use Rattle.qs_book_machine.specs.Transaction as transaction
use Rattle.qs_world.specs.Moves as moves
use Rattle.qs_world_lawful.proofs.Apart.{Apart, same_or_apart}
use Rattle.qs_world_lawful.proofs.Keys.{same_key_or, life_exact, life_itself}
use Rattle.qs_world_lawful.proofs.Parts.{LivesApart, put_part_apart}

-- the votes that a restart finds, vote by vote of the log
abbrev pub find_vote : ℕ → ℕ → List Tid → BookValue → Prepared → BookValue
find_vote here inc done book vote = if names_transaction vote.tid then vote_found here inc done book (found_of vote) else book

-- what a found vote makes of its member
abbrev pub part_as : Option Part → Option Prepared → ℕ → Part
part_as first None count = unwrap_or first no_part
part_as first (Some vote) count = found_part vote.covers count

-- a Commit of it is found exactly where its Prepare is marked
abbrev pub IsSorted : List Tid → Prepared → Type 0
IsSorted done vote = names_transaction vote.tid ≡ true → is_among done vote.tid ≡ vote.committed

module _ (here inc : ℕ) (done : List Tid) (tid : Tid) (s count : ℕ) where
  -- what the member has, after these votes
  abbrev pub HasPart : Option Prepared → BookValue → Type 0
  HasPart vote book = (tx : TransactionValue) → find_transaction book tid ≡ Some tx → part_of tx (member_at here s) inc ≡ part_as None vote count

  own_life : (covers changes : ℕ) (tx : TransactionValue) → part_of (found_at (member_at here s) inc covers changes tx) (member_at here s) inc ≡ found_part covers changes
  own_life covers changes tx = ap (λ (o : Option Part). unwrap_or o no_part) (lookup_put transaction.life_cmp (life (member_at here s) inc) (found_part covers changes) (life_itself (life (member_at here s) inc)) tx.parts)

  one : (book : BookValue) (v : Prepared) (before : Option Prepared) → count_of (record_at here book tid s) ≡ count → IsSorted done v → HasPart before book → HasPart (last_doubt tid s before v) (find_vote here inc done book v)
  one book v before count_is sorted h = by (names_transaction v.tid) refl
    where
      put : Part
      put = found_part v.covers count

      by : (b : Bool) → names_transaction v.tid ≡ b → HasPart (if (b && not v.committed) && (same_tid v.tid tid && (v.server.0 == s)) then Some v else before) (if b then vote_found here inc done book (found_of v) else book)
      by false named = h
      by true named = marked v.committed refl
        where
          marked : (c : Bool) → v.committed ≡ c → HasPart (if not c && (same_tid v.tid tid && (v.server.0 == s)) then Some v else before) (if is_among done v.tid then book else with_transaction v.tid (found_at (member_at here v.server.0) inc v.covers (count_of (record_at here book v.tid v.server.0))) book)
          marked true is = rw (sorted named ∙ is) h
          marked false is = rw (sorted named ∙ is) (at (same_or_apart v.tid tid))
            where
              at : (v.tid ≡ tid) ⊎ Apart v.tid tid → HasPart (if same_tid v.tid tid && (v.server.0 == s) then Some v else before) (with_transaction v.tid (found_at (member_at here v.server.0) inc v.covers (count_of (record_at here book v.tid v.server.0))) book)
              at (inr far) = rw far.by (λ tx found. h tx (sym (changed_apart (is_at (tid_cmp v.tid)) (is_at (tid_cmp tid)) far.keys (found_at (member_at here v.server.0) inc v.covers (count_of (record_at here book v.tid v.server.0))) book.transactions) ∙ found))
              at (inl same) = subst (λ (u : Tid). HasPart (if same_tid u tid && (v.server.0 == s) then Some v else before) (with_transaction u (found_at (member_at here v.server.0) inc v.covers (count_of (record_at here book u v.server.0))) book)) (sym same) (rw (same_tid-self tid) (server (v.server.0 == s) refl))
                where
                  was : (f : TransactionValue → TransactionValue) (tx : TransactionValue) → find_transaction (with_transaction tid f book) tid ≡ Some tx → (old : TransactionValue) × (find_transaction book tid ≡ Some old) × (f old ≡ tx)
                  was f tx found = of (find_transaction book tid) refl
                    where
                      of : (o : Option TransactionValue) → find_transaction book tid ≡ o → (old : TransactionValue) × (find_transaction book tid ≡ Some old) × (f old ≡ tx)
                      of None none = absurd (cc (sym (changed_none (is_at (tid_cmp tid)) f book.transactions none) ∙ found))
                      of (Some old) there = (old, there, same_Some (f old) tx (sym (lookup_changed (is_at (tid_cmp tid)) f book.transactions old there) ∙ found))

                  server : (b : Bool) → (v.server.0 == s) ≡ b → HasPart (if b then Some v else before) (with_transaction tid (found_at (member_at here v.server.0) inc v.covers (count_of (record_at here book tid v.server.0))) book)
                  server true is tx found =
                      let old = was (found_at (member_at here v.server.0) inc v.covers (count_of (record_at here book tid v.server.0))) tx found in
                      subst (λ (x : TransactionValue). part_of x (member_at here s) inc ≡ put) old.2
                      (subst (λ (n : ℕ). part_of (found_at (member_at here n) inc v.covers (count_of (record_at here book tid n)) old.0) (member_at here s) inc ≡ put) (sym (eqb-true v.server.0 s is))
                      (own_life v.covers (count_of (record_at here book tid s)) old.0 ∙ ap (found_part v.covers) count_is))
                  server false far tx found =
                      let old = was (found_at (member_at here v.server.0) inc v.covers (count_of (record_at here book tid v.server.0))) tx found in
                      subst (λ (x : TransactionValue). part_of x (member_at here s) inc ≡ part_as None before count) old.2
                      (left old.0 ∙ h old.0 old.1)
                    where
                      left : (old : TransactionValue) → part_of (found_at (member_at here v.server.0) inc v.covers (count_of (record_at here book tid v.server.0)) old) (member_at here s) inc ≡ part_of old (member_at here s) inc
                      left old = apart (same_key_or transaction.life_cmp life_exact life_itself (life (member_at here v.server.0) inc) (life (member_at here s) inc))
                        where
                          apart : (life (member_at here v.server.0) inc ≡ life (member_at here s) inc) ⊎ LivesApart (life (member_at here v.server.0) inc) (life (member_at here s) inc) → part_of (found_at (member_at here v.server.0) inc v.covers (count_of (record_at here book tid v.server.0)) old) (member_at here s) inc ≡ part_of old (member_at here s) inc
                          apart (inl same) = absurd (eqb-false v.server.0 s far (ap (λ (l : Life). l.member.server.0) same))
                          apart (inr is) = put_part_apart (life (member_at here v.server.0) inc) (found_part v.covers (count_of (record_at here book tid v.server.0))) old.parts (member_at here s) inc is

  nodes_same : (book : BookValue) (v : Prepared) → (find_vote here inc done book v).nodes ≡ book.nodes
  nodes_same book v = by (names_transaction v.tid) (is_among done v.tid)
    where
      by : (b c : Bool) → (if b then (if c then book else with_transaction v.tid (found_at (member_at here v.server.0) inc v.covers (count_of (record_at here book v.tid v.server.0))) book) else book).nodes ≡ book.nodes
      by false c = refl
      by true true = refl
      by true false = refl

  pub votes_found : (votes : List Prepared) (book : BookValue) (before : Option Prepared) → count_of (record_at here book tid s) ≡ count → Every (IsSorted done) votes → HasPart before book → HasPart (fold (last_doubt tid s) before votes) (fold (find_vote here inc done) book votes)
  votes_found [] book before count_is sorted h = h
  votes_found (v ∷ votes) book before count_is sorted h = votes_found votes (find_vote here inc done book v) (last_doubt tid s before v) (ap (λ nodes. count_of (elim (slice_get nodes here) [ None ↦ None | Some node ↦ machine.record_of node tid s ])) (nodes_same book v) ∙ count_is) sorted.1 (one book v before count_is sorted.0 h)

-- the votes that a restart finds are those of the log that name a transaction
pub found_each : (here inc : ℕ) (done : List Tid) (votes : List Prepared) (book : BookValue)
    → fold (vote_found here inc done) book (map moves.found_of (map open_vote (filter (λ (vote : Prepared). names_transaction vote.tid) votes))) ≡ fold (find_vote here inc done) book votes
found_each here inc done [] book = refl
found_each here inc done (v ∷ votes) book = by (names_transaction v.tid) (λ b. found_each here inc done votes b)
  where
    by : (b : Bool) → ((book : BookValue) → fold (vote_found here inc done) book (map moves.found_of (map open_vote (filter (λ (vote : Prepared). names_transaction vote.tid) votes))) ≡ fold (find_vote here inc done) book votes)
        → fold (vote_found here inc done) book (map moves.found_of (map open_vote (if b then v ∷ filter (λ (vote : Prepared). names_transaction vote.tid) votes else filter (λ (vote : Prepared). names_transaction vote.tid) votes)))
        ≡ fold (find_vote here inc done) (if b then vote_found here inc done book (found_of v) else book) votes
    by true more = more (vote_found here inc done book (found_of v))
    by false more = more book
