-- What the log says with one more record: a transaction that is ended, which is aborted or whose Commit the log has, and a Commit.
use Rattle.qs_world_lawful.proofs.Words.{◌≡◌, ◌⊎◌, inl, inr, ℕ, ◌==◌, Bool, true, false, List, [], ◌∷◌, ◌++◌, refl, sym, ap, subst, ◌∙◌, map, not, ◌&&◌, ◌||◌, if◌then◌else◌, filter, list_any, same_tid, NodeNo, Tid, same_tid-true, same_tid-self, BookValue, is_among, is_found_as, Voter, Prepared, Recovery, names_transaction, open_vote, mark_committed, found_commit, found_of, found_votes, Every, IsVoteLogged, HasAborted, HasCommitted, IsRecordSafe, IsCommitMade, IsMarked, StandsIn, HoldsLogged}
use Rattle.qs_world_lawful.proofs.Words.{and_first, and_last}
use Rattle.qs_book_machine.specs.Nodes as machine
use Rattle.qs_restart.specs.Recovery.{is_of, ended, changes_at, files_no, audit_no, extra_no}
use Rattle.qs_world.specs.Moves as moves
use Rattle.qs_world_lawful.proofs.LogFrames.{every_on}

-- ---- all of a list

pub every_filter : {A : Type 0} (P : A → Type 0) (p : A → Bool) (xs : List A) → Every P xs → Every P (filter p xs)
every_filter P p [] h = tt
every_filter P p (x ∷ xs) h = by (p x) refl (every_filter P p xs h.1)
  where
    by : (b : Bool) → p x ≡ b → Every P (filter p xs) → Every P (filter p (x ∷ xs))
    by true is more = rw is (h.0, more)
    by false is more = rw is more

pub every_append : {A : Type 0} (P : A → Type 0) (xs ys : List A) → Every P xs → Every P ys → Every P (xs ++ ys)
every_append P [] ys h k = k
every_append P (x ∷ xs) ys h k = (h.0, every_append P xs ys h.1 k)

pub every_map : {A B : Type 0} (P : A → Type 0) (Q : B → Type 0) (f : A → B) → ((x : A) → P x → Q (f x)) → (xs : List A) → Every P xs → Every Q (map f xs)
every_map P Q f gives [] h = tt
every_map P Q f gives (x ∷ xs) h = (gives x h.0, every_map P Q f gives xs h.1)

-- ---- a vote is found

abbrev pub is_found : Voter → ℕ → Prepared → Bool
is_found at covers vote = names_transaction vote.tid && is_found_as at covers (found_of vote)

abbrev pub is_found_in : Voter → ℕ → List Prepared → Bool
is_found_in at covers votes = list_any (is_found at covers) votes

found_are : (at : Voter) (covers : ℕ) (votes : List Prepared) → list_any (is_found_as at covers) (map moves.found_of (map open_vote (filter (λ vote. names_transaction vote.tid) votes))) ≡ is_found_in at covers votes
found_are at covers [] = refl
found_are at covers (vote ∷ votes) = by (names_transaction vote.tid) refl (found_are at covers votes)
  where
    by : (b : Bool) → names_transaction vote.tid ≡ b → list_any (is_found_as at covers) (map moves.found_of (map open_vote (filter (λ vote. names_transaction vote.tid) votes))) ≡ is_found_in at covers votes
        → list_any (is_found_as at covers) (map moves.found_of (map open_vote (filter (λ vote. names_transaction vote.tid) (vote ∷ votes)))) ≡ is_found_in at covers (vote ∷ votes)
    by true is more = rw is (ap (λ (b : Bool). is_found_as at covers (found_of vote) || b) more)
    by false is more = rw is more

pub to_votes : (at : Voter) (covers : ℕ) (log : Recovery) → list_any (is_found_as at covers) (found_votes log) ≡ true → is_found_in at covers log.prepared ≡ true
to_votes at covers log is = sym (found_are at covers log.prepared) ∙ is

pub of_votes : (at : Voter) (covers : ℕ) (log : Recovery) → is_found_in at covers log.prepared ≡ true → list_any (is_found_as at covers) (found_votes log) ≡ true
of_votes at covers log is = found_are at covers log.prepared ∙ is

-- what is found is of that voter
pub found_is : (at : Voter) (covers : ℕ) (vote : Prepared) → is_found at covers vote ≡ true → (vote.tid ≡ at.tid) × ((vote.server.0 == at.server.0) ≡ true)
found_is at covers vote is =
    let f : is_found_as at covers (found_of vote) ≡ true = and_last (names_transaction vote.tid) _ is in
    (same_tid-true vote.tid at.tid (and_first (same_tid vote.tid at.tid) _ f), and_first (vote.server.0 == at.server.0) _ (and_last (same_tid vote.tid at.tid) _ f))

pub any_filter : (test p : Prepared → Bool) → ((vote : Prepared) → test vote ≡ true → p vote ≡ true) → (votes : List Prepared) → list_any test votes ≡ true → list_any test (filter p votes) ≡ true
any_filter test p passes [] h = h
any_filter test p passes (vote ∷ votes) h = by (test vote) (p vote) refl refl (any_filter test p passes votes)
  where
    by : (a b : Bool) → test vote ≡ a → p vote ≡ b → (list_any test votes ≡ true → list_any test (filter p votes) ≡ true) → list_any test (filter p (vote ∷ votes)) ≡ true
    by true true is at more = rw (at, is) refl
    by true false is at more = absurd (cc (sym at ∙ passes vote is))
    by false true is at more = rw (at, is) (more (rw is at h))
    by false false is at more = rw at (more (rw is at h))

pub any_append : (test : Prepared → Bool) (votes more : List Prepared) → (list_any test votes ≡ true) ⊎ (list_any test more ≡ true) → list_any test (votes ++ more) ≡ true
any_append test [] more (inl h) = absurd (cc h)
any_append test [] more (inr h) = h
any_append test (vote ∷ votes) more h = by (test vote) refl h (any_append test votes more)
  where
    by : (a : Bool) → test vote ≡ a → (list_any test (vote ∷ votes) ≡ true) ⊎ (list_any test more ≡ true) → ((list_any test votes ≡ true) ⊎ (list_any test more ≡ true) → list_any test (votes ++ more) ≡ true) → list_any test ((vote ∷ votes) ++ more) ≡ true
    by true is k on = rw is refl
    by false is (inl k) on = rw is (on (inl (rw is at k)))
    by false is (inr k) on = rw is (on (inr k))

-- ---- it is ended

not_of : (tid : Tid) (at : Voter) (covers : ℕ) → same_tid at.tid tid ≡ false → (vote : Prepared) → is_found at covers vote ≡ true → not (is_of tid vote) ≡ true
not_of tid at covers far vote is = ap not (ap (λ (t : Tid). same_tid t tid) (found_is at covers vote is).0 ∙ far)

-- the same, where the same is committed and what is left of its votes stands as before
module _ (here : ℕ) (book : BookValue) (state : machine.NodeValue) (log : Recovery) (h : HoldsLogged here book state log) (tid : Tid) where
  abbrev others : Prepared → Bool
  others vote = not (is_of tid vote)

  pub safe_ended : (HasAborted book tid ⊎ (is_among log.committed tid ≡ true)) → (at : Voter) (covers : ℕ) → IsRecordSafe book log at covers → IsRecordSafe book (ended tid log) at covers
  safe_ended over at covers (inl is) = inl is
  safe_ended over at covers (inr (inl is)) = inr (inl is)
  safe_ended over at covers (inr (inr is)) = by (same_tid at.tid tid) refl over
    where
      by : (b : Bool) → same_tid at.tid tid ≡ b → HasAborted book tid ⊎ (is_among log.committed tid ≡ true) → IsRecordSafe book (ended tid log) at covers
      by true same (inl aborted) = inl (subst (λ (t : Tid). HasAborted book t) (sym (same_tid-true at.tid tid same)) aborted)
      by true same (inr done) = inr (inl (subst (λ (t : Tid). is_among log.committed t ≡ true) (sym (same_tid-true at.tid tid same)) done))
      by false far _ = inr (inr (of_votes at covers (ended tid log) (any_filter (is_found at covers) others (not_of tid at covers far) log.prepared (to_votes at covers log is))))

  pub by_ended : (HasAborted book tid ⊎ (is_among log.committed tid ≡ true)) → HoldsLogged here book state (ended tid log)
  by_ended over = record {
    kinds = every_filter _ others log.prepared h.kinds;
    stands = every_filter (StandsIn book) others log.prepared h.stands;
    votes = every_filter (IsVoteLogged here book state (ended tid log)) others log.prepared (every_on (IsVoteLogged here book state log) (IsVoteLogged here book state (ended tid log)) same_log log.prepared h.votes);
    marked = every_filter (IsMarked log) others log.prepared h.marked;
    kept = λ t s rec is. safe_ended over (machine.voter t s) rec.covers (h.kept t s rec is);
    commits = h.commits;
  }
    where
      same_log : (vote : Prepared) → IsVoteLogged here book state log vote → IsVoteLogged here book state (ended tid log) vote
      same_log vote (inl is) = inl is
      same_log vote (inr is) = inr (record { tx = is.tx; found = is.found; has_commit = is.has_commit; learnt = is.learnt })

-- ---- a Commit

pub among_more : (tids more : List Tid) (tid : Tid) → is_among tids tid ≡ true → is_among (tids ++ more) tid ≡ true
among_more [] more tid h = absurd (cc h)
among_more (t ∷ tids) more tid h = by (same_tid tid t) refl (among_more tids more tid)
  where
    by : (b : Bool) → same_tid tid t ≡ b → (is_among tids tid ≡ true → is_among (tids ++ more) tid ≡ true) → is_among ((t ∷ tids) ++ more) tid ≡ true
    by true is on = rw is refl
    by false is on = rw is (on (rw is at h))

pub among_last : (tids : List Tid) (tid : Tid) → is_among (tids ++ tid ∷ []) tid ≡ true
among_last [] tid = ap (λ (b : Bool). b || false) (same_tid-self tid)
among_last (t ∷ tids) tid = by (same_tid tid t) (among_last tids tid)
  where
    by : (b : Bool) → is_among (tids ++ tid ∷ []) tid ≡ true → (b || is_among (tids ++ tid ∷ []) tid) ≡ true
    by true on = refl
    by false on = on

module _ (here : ℕ) (book : BookValue) (state : machine.NodeValue) (log : Recovery) (h : HoldsLogged here book state log) (tid : Tid) (named : names_transaction tid ≡ true) (done : HasCommitted book tid) where
  -- the log with its changes and the transaction committed
  abbrev mid : Recovery
  mid = record log {
    files = log.files ++ changes_at files_no tid log;
    audit = log.audit ++ changes_at audit_no tid log;
    extra = log.extra ++ changes_at extra_no tid log;
    committed = log.committed ++ (if names_transaction tid then tid ∷ [] else []);
  }

  committed_are : log.committed ++ (if names_transaction tid then tid ∷ [] else []) ≡ log.committed ++ tid ∷ []
  committed_are = ap (λ (b : Bool). log.committed ++ (if b then tid ∷ [] else [])) named

  pub among_now : is_among mid.committed tid ≡ true
  among_now = ap (λ (ts : List Tid). is_among ts tid) committed_are ∙ among_last log.committed tid

  pub among_on : (t : Tid) → is_among log.committed t ≡ true → is_among mid.committed t ≡ true
  among_on t is = among_more log.committed _ t is

  more_votes : (vote : Prepared) → IsVoteLogged here book state log vote → IsVoteLogged here book state mid vote
  more_votes vote (inl is) = inl is
  more_votes vote (inr is) = inr (record { tx = is.tx; found = is.found; has_commit = among_on vote.tid is.has_commit; learnt = is.learnt })

  more_safe : (at : Voter) (covers : ℕ) → IsRecordSafe book log at covers → IsRecordSafe book mid at covers
  more_safe at covers (inl is) = inl is
  more_safe at covers (inr (inl is)) = inr (inl (among_on at.tid is))
  more_safe at covers (inr (inr is)) = inr (inr is)

  mid_logged : HoldsLogged here book state mid
  mid_logged = record {
    kinds = h.kinds;
    stands = h.stands;
    votes = every_on (IsVoteLogged here book state log) (IsVoteLogged here book state mid) more_votes log.prepared h.votes;
    marked = every_on (IsMarked log) (IsMarked mid) (λ vote is marked. among_on vote.tid (is marked)) log.prepared h.marked;
    kept = λ t s rec is. more_safe (machine.voter t s) rec.covers (h.kept t s rec is);
    commits = subst (λ (ts : List Tid). Every (IsCommitMade book state) ts) (sym committed_are) (every_append (IsCommitMade book state) log.committed (tid ∷ []) h.commits (inr done, tt));
  }

  abbrev mark : Prepared → Prepared
  mark = mark_committed tid

  marked_votes : (at : Voter) (covers : ℕ) (votes : List Prepared) → is_found_in at covers (map mark votes) ≡ is_found_in at covers votes
  marked_votes at covers [] = refl
  marked_votes at covers (vote ∷ votes) = by (is_of tid vote) refl (marked_votes at covers votes)
    where
      by : (b : Bool) → is_of tid vote ≡ b → is_found_in at covers (map mark votes) ≡ is_found_in at covers votes → is_found_in at covers (map mark (vote ∷ votes)) ≡ is_found_in at covers (vote ∷ votes)
      by true is more = rw is (ap (λ (b : Bool). is_found at covers vote || b) more)
      by false is more = rw is (ap (λ (b : Bool). is_found at covers vote || b) more)

  module _ (told : List NodeNo) where
    abbrev listed : Recovery
    listed = record mid { prepared = map mark log.prepared; untold = log.untold ++ record { tid = tid; told = told } ∷ [] }

    one_mark : (P : Prepared → Type 0) → ((vote : Prepared) → P vote → P (record vote { committed = true })) → (vote : Prepared) → P vote → P (mark vote)
    one_mark P gives vote is = by (is_of tid vote)
      where
        by : (b : Bool) → P (if b then record vote { committed = true } else vote)
        by true = gives vote is
        by false = is

    mark_is : (vote : Prepared) → IsMarked mid vote → IsMarked listed (mark vote)
    mark_is vote is = by (is_of tid vote) refl
      where
        by : (b : Bool) → is_of tid vote ≡ b → IsMarked listed (if b then record vote { committed = true } else vote)
        by true same = λ _. subst (λ (t : Tid). is_among mid.committed t ≡ true) (sym (same_tid-true vote.tid tid same)) among_now
        by false far = is

    listed_safe : (at : Voter) (covers : ℕ) → IsRecordSafe book mid at covers → IsRecordSafe book listed at covers
    listed_safe at covers (inl is) = inl is
    listed_safe at covers (inr (inl is)) = inr (inl is)
    listed_safe at covers (inr (inr is)) = inr (inr (of_votes at covers listed (marked_votes at covers log.prepared ∙ to_votes at covers mid is)))

    listed_vote : (vote : Prepared) → IsVoteLogged here book state mid vote → IsVoteLogged here book state listed (record vote { committed = true })
    listed_vote vote (inl is) = inl is
    listed_vote vote (inr is) = inr (record { tx = is.tx; found = is.found; has_commit = is.has_commit; learnt = is.learnt })

    same_vote : (vote : Prepared) → IsVoteLogged here book state mid vote → IsVoteLogged here book state listed (mark vote)
    same_vote vote is = by (is_of tid vote)
      where
        plain : (vote : Prepared) → IsVoteLogged here book state mid vote → IsVoteLogged here book state listed vote
        plain vote (inl is) = inl is
        plain vote (inr is) = inr (record { tx = is.tx; found = is.found; has_commit = is.has_commit; learnt = is.learnt })

        by : (b : Bool) → IsVoteLogged here book state listed (if b then record vote { committed = true } else vote)
        by true = listed_vote vote is
        by false = plain vote is

    listed_logged : HoldsLogged here book state listed
    listed_logged = record {
      kinds = every_map _ _ mark (one_mark (λ (vote : Prepared). machine.is_recoverable vote.server.0 ≡ true) (λ vote is. is)) log.prepared h.kinds;
      stands = every_map (StandsIn book) (StandsIn book) mark (one_mark (StandsIn book) (λ vote is. is)) log.prepared h.stands;
      votes = every_map (IsVoteLogged here book state mid) (IsVoteLogged here book state listed) mark same_vote log.prepared mid_logged.votes;
      marked = every_map (IsMarked mid) (IsMarked listed) mark mark_is log.prepared mid_logged.marked;
      kept = λ t s rec is. listed_safe (machine.voter t s) rec.covers (mid_logged.kept t s rec is);
      commits = mid_logged.commits;
    }

  -- a Commit of a committed transaction
  pub by_commit : (told : List NodeNo) → HoldsLogged here book state (found_commit tid told log)
  by_commit [] = by_ended here book state mid mid_logged tid (inr among_now)
  by_commit (node ∷ told) = listed_logged (node ∷ told)
