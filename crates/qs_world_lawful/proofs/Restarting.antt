-- Clauses 110 to 113: what a restart finds in the log of a node that stopped.
use Rattle.qs_world_lawful.proofs.Words.{◌≡◌, ◌⊎◌, inl, inr, ℕ, Bool, true, false, List, [], ◌∷◌, Option, Some, None, refl, ap, ◌∙◌, map, nat_lt, not, ◌||◌, if◌then◌else◌, list_all, filter, Tid, Record, TransactionValue, has_learnt, BookValue, find_transaction, broken_restart, is_on_record, is_new_vote, is_among, member_at, OnRecord, Voter, Prepared, Recovery, recovery, names_transaction, open_vote, found_of, found_votes, Every, IsCutVote, IsVoteLogged, IsRecordKept, IsCommitLogged, HoldsStopped}
use Rattle.qs_world_lawful.proofs.Words.{and_from, or_left, or_right}
use Rattle.qs_book_machine.specs.Nodes as machine
use Rattle.qs_book_machine.specs.Restart.{is_found_vote, was_applied, is_kept, is_found_commit}
use Rattle.qs_world.specs.Moves as moves
use Rattle.qs_world_lawful.specs.Logs.{HoldsLog}
use Rattle.qs_world_lawful.proofs.FoundOnce.{found_once}

every_true : {A : Type 0} (P : A → Type 0) (test : A → Bool) → ((x : A) → P x → test x ≡ true) → (xs : List A) → Every P xs → list_all test xs ≡ true
every_true P test gives [] h = refl
every_true P test gives (x ∷ xs) h = and_from (test x) (list_all test xs) (gives x h.0) (every_true P test gives xs h.1)

every_weaker : {A : Type 0} (P Q : A → Type 0) → ((x : A) → P x → Q x) → (xs : List A) → Every P xs → Every Q xs
every_weaker P Q gives [] h = tt
every_weaker P Q gives (x ∷ xs) h = (gives x h.0, every_weaker P Q gives xs h.1)

-- a crash between steps, and one within a step whose batch is lost, leave what held
pub stops : (here : ℕ) (book : BookValue) (state : machine.NodeValue) (log : Recovery) → HoldsLog here book state log → HoldsStopped here book state log
stops here book state log h = record {
  kinds = h.kinds;
  votes = every_weaker (IsVoteLogged here book state log) _ (λ vote v. inl v) log.prepared h.votes;
  kept = h.kept;
  commits = h.commits;
}

module _ (here : ℕ) (book : BookValue) (state : machine.NodeValue) (log : Recovery) (h : HoldsStopped here book state log) where
  -- ---- 111

  any_found : (vote : Prepared) → IsVoteLogged here book state log vote ⊎ IsCutVote here book state vote
      → (is_on_record state (found_of vote) || (is_new_vote here state (find_transaction book vote.tid) (found_of vote) || was_applied here state log.committed (find_transaction book vote.tid) (found_of vote))) ≡ true
  any_found vote (inl (inl on)) = or_left _ _ on
  any_found vote (inl (inr applied)) = or_right _ _ (or_right _ _ (ap (λ (o : Option TransactionValue). was_applied here state log.committed o (found_of vote)) applied.found ∙ (and_from _ _ applied.has_commit (learnt applied.learnt))))
    where
      learnt : (has_learnt applied.tx (member_at here vote.server.0) ≡ true) ⊎ (is_among state.committed vote.tid ≡ true) → (has_learnt applied.tx (member_at here vote.server.0) || is_among state.committed vote.tid) ≡ true
      learnt (inl is) = or_left _ _ is
      learnt (inr is) = or_right _ _ is
  any_found vote (inr cut) = by (is_on_record state (found_of vote)) refl
    where
      by : (b : Bool) → is_on_record state (found_of vote) ≡ b
          → (is_on_record state (found_of vote) || (is_new_vote here state (find_transaction book vote.tid) (found_of vote) || was_applied here state log.committed (find_transaction book vote.tid) (found_of vote))) ≡ true
      by true is = or_left _ _ is
      by false is = or_right _ _ (or_left _ _ (ap (λ (o : Option TransactionValue). is_new_vote here state o (found_of vote)) cut.found ∙ (and_from _ _ (ap not is) cut.could)))

  -- those that name a transaction
  open_found : (votes : List Prepared) → Every (λ (vote : Prepared). machine.is_recoverable vote.server.0 ≡ true) votes
      → Every (λ (vote : Prepared). IsVoteLogged here book state log vote ⊎ IsCutVote here book state vote) votes
      → list_all (is_found_vote here book state log.committed) (map moves.found_of (map open_vote (filter (λ vote. names_transaction vote.tid) votes))) ≡ true
  open_found [] k v = refl
  open_found (vote ∷ votes) k v = by (names_transaction vote.tid) refl (open_found votes k.1 v.1)
    where
      by : (b : Bool) → names_transaction vote.tid ≡ b → list_all (is_found_vote here book state log.committed) (map moves.found_of (map open_vote (filter (λ vote. names_transaction vote.tid) votes))) ≡ true
          → list_all (is_found_vote here book state log.committed) (map moves.found_of (map open_vote (filter (λ vote. names_transaction vote.tid) (vote ∷ votes)))) ≡ true
      by true is more = rw is (and_from _ _ (and_from _ _ k.0 (any_found vote v.0)) more)
      by false is more = rw is more

  -- ---- 112

  kept_is : (entry : Voter × OnRecord) → IsRecordKept here book log entry → is_kept here book (found_votes log) log.committed entry ≡ true
  kept_is entry (inl lost) = or_left _ _ lost
  kept_is entry (inr (inl done)) = or_right _ _ (or_left _ _ done)
  kept_is entry (inr (inr found)) = or_right _ _ (or_right _ _ found)

  -- ---- 113

  commit_is : (tid : Tid) → IsCommitLogged here book state tid → is_found_commit here book state tid ≡ true
  commit_is tid (inl opened) = or_left _ _ opened
  commit_is tid (inr now) = or_right _ _ now

-- a restart into a later incarnation that finds what the log says is lawful
pub may_restart : (here : ℕ) (book : BookValue) (state : machine.NodeValue) (records : List Record) (inc : ℕ) → nat_lt state.inc inc ≡ true
    → HoldsStopped here book state (recovery records) → broken_restart here book state inc (found_votes (recovery records)) (recovery records).committed ≡ None
may_restart here book state records inc later h =
    allowed _ _ _ _ later
    (and_from _ _ (open_found here book state (recovery records) h (recovery records).prepared h.kinds h.votes) (found_once records))
    (every_true (IsRecordKept here book (recovery records)) _ (kept_is here book state (recovery records) h) state.records h.kept)
    (every_true (IsCommitLogged here book state) _ (commit_is here book state (recovery records) h) (recovery records).committed h.commits)
  where
    clause : ℕ → Option ℕ
    clause n = Some n

    allowed : (a b c d : Bool) → a ≡ true → b ≡ true → c ≡ true → d ≡ true
        → (if not a then clause 110 else if not b then clause 111 else if not c then clause 112 else if not d then clause 113 else None) ≡ None
    allowed a b c d p q r s = rw (p, q, r, s) refl
