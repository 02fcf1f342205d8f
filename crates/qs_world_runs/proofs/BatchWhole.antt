-- Where each record of a batch fits what the machine had before its step, its log goes on record by record to what it says with the batch.
use Rattle.qs_world_runs.proofs.Words.{◌≡◌, inl, inr, ℕ, ◌==◌, ◌&&◌, ◌++◌, true, false, List, [], ◌∷◌, Option, Some, None, fold, refl, sym, ap, subst, ◌∙◌, is_some, fold-append, is_at, list_all, lookup, slice_get, member_cmp, Member, ServerNo, Tid, BookValue, cell_of_transaction, crossed_in, find_transaction, pending_at, record_of, voter, voter_cmp, is_among, is_committed, may_be_lost, TransactionValue, agrees, all_served, is_crossed, is_empty, is_unanimous, Cell, Record, Prepared, Recovery}
use Rattle.qs_world_runs.proofs.Words.{found_record, names_transaction, nothing_said, recovery, Lasts, HasCommitted, HoldsLogged, IsRecordSafe, StandsIn, Every, IsCommitLogged, IsVoteLogged, HoldsSaid, IsAsRecorded, every_among, every_two, to_votes, FitCut, KeptVotes, some_same}
use Rattle.qs_book_machine.specs.Nodes as machine
use Rattle.qs_book_machine.specs.Restart.{member_at}
use Rattle.qs_book_machine.specs.declared.transaction.Cell.TheVariants as cells
use Rattle.qs_restart.specs.Recovery as logs
use Rattle.qs_world_lawful.proofs.FoundMembers.{and_both}
use Rattle.qs_world_lawful.proofs.FoundOnce.{votes_once_in}
use Rattle.qs_world_runs.proofs.BatchGoes.{Goes, IsKeptIn, IsSettled, KeepsAll, OldVote, goes_whole}
use Rattle.qs_world_runs.proofs.BatchSays.{says_record}
use Rattle.qs_world_runs.proofs.CommitsApplied.{nothing_applied}

module _ (n : ℕ) (book : BookValue) (state : machine.NodeValue) (there : slice_get book.nodes n ≡ Some state) (lasts : Lasts book)
    (base records : List Record) (logged : HoldsLogged n book state (recovery base)) (said : HoldsSaid n book state (recovery base)) (fit : FitCut n book state (recovery base).committed [] records)
    (settled_votes : KeptVotes n book (recovery (base ++ records))) (settled_commits : Every (IsCommitLogged n book state) (recovery (base ++ records)).committed) where
  abbrev first : Recovery
  first = recovery base

  abbrev log : Recovery
  log = recovery (base ++ records)

  whole : log ≡ fold found_record first records
  whole = fold-append found_record nothing_said base records

  -- ---- what is committed is neither aborted nor crossed

  none_crossed : (tx : TransactionValue) (member : Member) → is_empty tx.crossed ≡ true → is_crossed tx member ≡ false
  none_crossed tx member = by tx.crossed
    where
      by : (xs : List (Member × ℕ)) → is_empty xs ≡ true → is_some (lookup (is_at (member_cmp member)) xs) ≡ false
      by [] e = refl
      by (x ∷ xs) e = absurd (cc e)

  record IsOver (tid : Tid) (tx : TransactionValue) : Type 0 where
    uncrossed : is_empty tx.crossed ≡ true
    stands : tx.cell ≡ cells.Abort → ⊥

  over : (tid : Tid) (tx : TransactionValue) → find_transaction book tid ≡ Some tx → is_committed n tid (Some tx) ≡ true → IsOver tid tx
  over tid tx found is = by tx.cell refl is
    where
      by : (c : Cell) → tx.cell ≡ c → is_committed n tid (Some tx) ≡ true → IsOver tid tx
      by cells.Commit e i = record { uncrossed = (lasts.waits tid tx found).whole (rw e refl); stands = λ aborted. cc (e, aborted) }
      by cells.Abort e i = absurd (cc (rw e at i))
      by cells.Open e i = record { uncrossed = uncrossed (and_both (tid.home.0 == n) (is_unanimous tx) (rw e at i)).1; stands = λ aborted. cc (e, aborted) }
        where
          uncrossed : is_unanimous tx ≡ true → is_empty tx.crossed ≡ true
          uncrossed u = (and_both (is_empty tx.refusals) (is_empty tx.crossed) (and_both (list_all agrees tx.parts) (is_empty tx.refusals && is_empty tx.crossed) (and_both (is_some tx.asked && all_served tx) (list_all agrees tx.parts && (is_empty tx.refusals && is_empty tx.crossed)) u).1).1).1

  pub settled : (tid : Tid) → is_among log.committed tid ≡ true → IsSettled n book state there first tid
  settled tid among = of (find_transaction book tid) refl (by (every_among (IsCommitLogged n book state) log.committed tid settled_commits among))
    where
      committed : HasCommitted book tid → is_committed n tid (find_transaction book tid) ≡ true
      committed done = made (find_transaction book tid) done
        where
          made : (o : Option TransactionValue) → cell_of_transaction o ≡ Some cells.Commit → is_committed n tid o ≡ true
          made None e = absurd (cc e)
          made (Some tx) e = let c : tx.cell ≡ cells.Commit = some_same e in rw c refl

      by : IsCommitLogged n book state tid → is_committed n tid (find_transaction book tid) ≡ true
      by (inl opening) = committed ((lasts.nodes (record { 0 = n }) state there).committed tid opening)
      by (inr is) = is

      of : (o : Option TransactionValue) → find_transaction book tid ≡ o → is_committed n tid (find_transaction book tid) ≡ true → IsSettled n book state there first tid
      of None none is = absurd (cc (sym (ap (is_committed n tid) none) ∙ is))
      of (Some tx) found is = let v : IsOver tid tx = over tid tx found (sym (ap (is_committed n tid) found) ∙ is) in record {
        clean = λ server. ap (λ (o : Option TransactionValue). crossed_in o (member_at n server)) found ∙ none_crossed tx (member_at n server) v.uncrossed;
        stands = λ aborted. v.stands (some_same (sym (ap cell_of_transaction found) ∙ aborted));
      }

  -- ---- the batch goes on from the log

  pub goes : Goes n book state there first log
  goes = subst (λ (r : Recovery). Goes n book state there first r) (sym whole) (goes_whole n book state there first says records old kept (nothing_applied n book state there first said) fit (λ tid among. settled tid (subst (λ (r : Recovery). is_among r.committed tid ≡ true) (sym whole) among)))
    where
      says : (server : ServerNo) (tid : Tid) → is_among first.committed tid ≡ false → IsSettled n book state there first tid → logs.changes_at server tid first ≡ machine.changes_of (record_of state tid server.0)
      says server tid fresh s = says_record n book state first (votes_once_in base) logged said tid fresh s.clean s.stands server

      old : Every (OldVote n book state there first) first.prepared
      old = every_two (λ (v : Prepared). StandsIn book v × IsVoteLogged n book state first v) (λ (v : Prepared). IsAsRecorded n book state v) (OldVote n book state there first) (λ v a b. record { stands = a.0; logged = a.1; recorded = b }) first.prepared
          (every_two (StandsIn book) (IsVoteLogged n book state first) (λ (v : Prepared). StandsIn book v × IsVoteLogged n book state first v) (λ v a b. (a, b)) first.prepared logged.stands logged.votes) said.recorded

      kept : KeepsAll n book state there first first
      kept tid server rec is = by (logged.kept tid server rec is)
        where
          by : IsRecordSafe book first (voter tid server) rec.covers → IsKeptIn n book state there first first tid server rec.covers
          by (inl aborted) = inl (lost (find_transaction book tid) aborted)
            where
              lost : (o : Option TransactionValue) → cell_of_transaction o ≡ Some cells.Abort → may_be_lost n tid o ≡ true
              lost None e = absurd (cc e)
              lost (Some tx) e = let c : tx.cell ≡ cells.Abort = some_same e in rw c refl
          by (inr (inl among)) = inr (inl among)
          by (inr (inr found)) = inr (inr (to_votes (voter tid server) rec.covers first found))
