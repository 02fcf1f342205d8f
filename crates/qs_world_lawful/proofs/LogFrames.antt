-- What the log says of the machine stands while the machine goes on: decided cells stay, what was learnt stays learnt, and what is
-- on record is so, or was applied.
use Rattle.qs_world_lawful.proofs.Words.{◌≡◌, ◌⊎◌, inl, inr, ℕ, Bool, true, false, List, [], ◌∷◌, Option, Some, None, refl, sym, ap, ◌∙◌, ◌==◌, is_some, lookup, is_at, Tid, Found, TransactionValue, has_learnt, BookValue, find_transaction, is_among, is_on_record, member_at, OnRecord, Voter, Prepared, Recovery, found_of, Every, IsApplied, IsVoteLogged, LearntOn, Later, IsRecordSafe, IsCommitMade, StandsIn, HoldsLogged}
use Rattle.qs_book_machine.specs.Nodes as machine
use Rattle.qs_book_machine.specs.declared.transaction.Cell.TheVariants as cells
use Rattle.qs_book_laws.proofs.Histories.{stays}
use Rattle.qs_book_laws.proofs.Outcomes.{Kept}
use Rattle.qs_world_lawful.specs.Logged.{HasLearntMore}

pub every_on : {A : Type 0} (P Q : A → Type 0) → ((x : A) → P x → Q x) → (xs : List A) → Every P xs → Every Q xs
every_on P Q gives [] h = tt
every_on P Q gives (x ∷ xs) h = (gives x h.0, every_on P Q gives xs h.1)

pub later : (old new : BookValue) → Kept old new → LearntOn old new → Later old new
later old new kept learnt = record {
  aborted = λ tid is. (stays old new tid cells.Abort kept (record { decided = refl; cell_is = is })).cell_is;
  committed = λ tid is. (stays old new tid cells.Commit kept (record { decided = refl; cell_is = is })).cell_is;
  learnt = learnt;
}

-- ---- what is on record

abbrev in_records : List (Voter × OnRecord) → Found → Bool
in_records records found = elim (lookup (is_at (machine.voter_cmp (machine.voter found.tid found.server.0))) records) [
  | None ↦ false
  | Some rec ↦ rec.covers == found.covers
]

pub same_records : (state new : machine.NodeValue) → new.records ≡ state.records → (found : Found) → is_on_record state found ≡ true → is_on_record new found ≡ true
same_records state new same found is = ap (λ (rs : List (Voter × OnRecord)). in_records rs found) same ∙ is

-- ---- each part

pub stands_on : (old new : BookValue) → LearntOn old new → (vote : Prepared) → StandsIn old vote → StandsIn new vote
stands_on old new learnt vote is = by (find_transaction old vote.tid) refl is
  where
    by : (o : Option TransactionValue) → find_transaction old vote.tid ≡ o → is_some o ≡ true → StandsIn new vote
    by None found h = absurd (cc h)
    by (Some tx) found h = ap is_some (learnt vote.tid tx found).1

pub applied_on : (here : ℕ) (old new : BookValue) (state next : machine.NodeValue) (log : Recovery) → LearntOn old new → next.committed ≡ state.committed → (vote : Prepared) → IsApplied here old state log vote → IsApplied here new next log vote
applied_on here old new state next log learnt same vote h =
    let more : HasLearntMore (find_transaction new vote.tid) h.tx = learnt vote.tid h.tx h.found in
    record { tx = more.0; found = more.1; has_commit = h.has_commit; learnt = by more h.learnt }
  where
    by : (more : HasLearntMore (find_transaction new vote.tid) h.tx) → (has_learnt h.tx (member_at here vote.server.0) ≡ true) ⊎ (is_among state.committed vote.tid ≡ true) → (has_learnt more.0 (member_at here vote.server.0) ≡ true) ⊎ (is_among next.committed vote.tid ≡ true)
    by more (inl is) = inl (more.2 (member_at here vote.server.0) is)
    by more (inr is) = inr (ap (λ (tids : List Tid). is_among tids vote.tid) same ∙ is)

pub safe_on : (old new : BookValue) → Later old new → (log : Recovery) (at : Voter) (covers : ℕ) → IsRecordSafe old log at covers → IsRecordSafe new log at covers
safe_on old new on log at covers (inl is) = inl (on.aborted at.tid is)
safe_on old new on log at covers (inr is) = inr is

pub made_on : (old new : BookValue) (state next : machine.NodeValue) → Later old new → next.committed ≡ state.committed → (tid : Tid) → IsCommitMade old state tid → IsCommitMade new next tid
made_on old new state next on same tid (inl is) = inl (ap (λ (tids : List Tid). is_among tids tid) same ∙ is)
made_on old new state next on same tid (inr is) = inr (on.committed tid is)

-- ---- all of it

module _ (here : ℕ) (old new : BookValue) (state next : machine.NodeValue) (log : Recovery) (on : Later old new) (same : next.committed ≡ state.committed) where
  -- what was on record is so, or applied; and what is on record now is safe
  pub logged_by : ((vote : Prepared) → is_on_record state (found_of vote) ≡ true → IsVoteLogged here new next log vote)
      → ((tid : Tid) (server : ℕ) (rec : OnRecord) → machine.record_of next tid server ≡ Some rec → IsRecordSafe old log (machine.voter tid server) rec.covers)
      → HoldsLogged here old state log → HoldsLogged here new next log
  logged_by votes records h = record {
    kinds = h.kinds;
    stands = every_on (StandsIn old) (StandsIn new) (stands_on old new on.learnt) log.prepared h.stands;
    votes = every_on (IsVoteLogged here old state log) (IsVoteLogged here new next log) vote_on log.prepared h.votes;
    marked = h.marked;
    kept = λ tid server rec is. safe_on old new on log (machine.voter tid server) rec.covers (records tid server rec is);
    commits = every_on (IsCommitMade old state) (IsCommitMade new next) (made_on old new state next on same) log.committed h.commits;
  }
    where
      vote_on : (vote : Prepared) → IsVoteLogged here old state log vote → IsVoteLogged here new next log vote
      vote_on vote (inl is) = votes vote is
      vote_on vote (inr is) = inr (applied_on here old new state next log on.learnt same vote is)

  -- the same is on record
  pub logged_on : next.records ≡ state.records → HoldsLogged here old state log → HoldsLogged here new next log
  logged_on records h = logged_by (λ vote is. inl (same_records state next records (found_of vote) is))
      (λ tid server rec is. h.kept tid server rec (ap (λ (rs : List (Voter × OnRecord)). lookup (is_at (machine.voter_cmp (machine.voter tid server))) rs) (sym records) ∙ is)) h
