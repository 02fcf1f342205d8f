-- What a log says goes on record by record of a batch: each vote was on record or applied, or is the batch's own; what is on record stays found, or is over; and what is committed is what a restart would commit.
use Rattle.qs_world_runs.proofs.Words.{◌≡◌, ◌⊎◌, inl, inr, ℕ, ◌==◌, ◌&&◌, ◌||◌, ◌++◌, not, Bool, true, false, List, [], ◌∷◌, map, Some, fold, refl, sym, ap, subst, ◌∙◌, if◌then◌else◌, is_some, nat_lt, list_any-append, fold-append, filter, list_any, slice_get, same_tid, same_tid-self, same_tid-true, NodeNo, ServerNo, Tid, BookValue, crossed_in, find_transaction, record_of, voter, is_among, may_be_lost, OnRecord, Voter, Op, Record, Prepared, Recovery, found_record, mark_committed}
use Rattle.qs_world_runs.proofs.Words.{names_transaction, HasAborted, StandsIn, Every, IsVoteLogged, IsAsRecorded, every_on, every_append, every_filter, every_map, is_found_in, FitCut, is_record_of, eqb-true, apart_turned}
use Rattle.qs_book_machine.specs.Nodes as machine
use Rattle.qs_book_machine.specs.Restart.{member_at}
use Rattle.qs_record.specs.declared.record.Record.TheVariants as made
use Rattle.qs_restart.specs.Recovery as logs
use Rattle.qs_restart.specs.Recovery.{is_of, is_vote_of}
use Rattle.qs_world_lawful.proofs.LogRecords.{among_last, among_more, any_append, any_filter, found_is, is_found}
use Rattle.qs_world_runs.specs.CutBatches.{FitsCut, IsOwnCommit, IsOwnVote}
use Rattle.qs_world_runs.proofs.BatchContents.{Applies, SaysRecord, all_among_left, all_changes_left, commit_applies, ended_applies}
use Rattle.qs_world_runs.proofs.BatchFound.{found_named, is_aborted_or, less_than, lost_is, marked_found}
use Rattle.qs_world_runs.proofs.BatchVotes.{among_all}

module _ (here : ℕ) (book : BookValue) (state : machine.NodeValue) (there : slice_get book.nodes here ≡ Some state) (first : Recovery) where
  -- a vote that stood in the log
  pub record OldVote (vote : Prepared) : Type 0 where
    pub stands : StandsIn book vote
    pub logged : IsVoteLogged here book state first vote
    pub recorded : IsAsRecorded here book state vote

  -- one of the batch's own
  pub record NewVote (vote : Prepared) : Type 0 where
    pub doubt : vote.committed ≡ false
    pub own : IsOwnVote here book state vote.tid vote.server vote.covers vote.changes

  abbrev pub IsEither : Prepared → Type 0
  IsEither vote = OldVote vote ⊎ NewVote vote

  abbrev pub IsKeptIn : Recovery → Tid → ℕ → ℕ → Type 0
  IsKeptIn said tid server covers = (may_be_lost here tid (find_transaction book tid) ≡ true) ⊎ ((is_among said.committed tid ≡ true) ⊎ (is_found_in (voter tid server) covers said.prepared ≡ true))

  abbrev pub KeepsAll : Recovery → Type 0
  KeepsAll said = (tid : Tid) (server : ℕ) (rec : OnRecord) → record_of state tid server ≡ Some rec → IsKeptIn said tid server rec.covers

  pub record Goes (said : Recovery) : Type 0 where
    pub votes : Every IsEither said.prepared
    pub kept : KeepsAll said
    pub applies : Applies here book state there said

  -- not aborted, and nowhere at this node crossed
  pub record IsSettled (tid : Tid) : Type 0 where
    pub clean : (server : ℕ) → crossed_in (find_transaction book tid) (member_at here server) ≡ false
    pub stands : HasAborted book tid → ⊥

  aborted_lost : (tid : Tid) → HasAborted book tid → may_be_lost here tid (find_transaction book tid) ≡ true
  aborted_lost tid has = lost_is here tid (find_transaction book tid) has

  aborted_or : (tid : Tid) → HasAborted book tid ⊎ (HasAborted book tid → ⊥)
  aborted_or tid = is_aborted_or (find_transaction book tid)

  -- ---- behind other records of the batch

  abbrev IsBehind : List Record → Prepared → Type 0
  IsBehind before vote = OldVote vote ⊎ (NewVote vote × (list_any (is_record_of vote.tid) before ≡ true))

  record GoesBehind (before : List Record) (said : Recovery) : Type 0 where
    is : said ≡ fold found_record first before
    votes : Every (IsBehind before) said.prepared
    kept : KeepsAll said
    applies : Applies here book state there said

  later : (before : List Record) (rec : Record) (vote : Prepared) → IsBehind before vote → IsBehind (before ++ rec ∷ []) vote
  later before rec vote (inl old) = inl old
  later before rec vote (inr new) = inr (new.0, list_any-append (is_record_of vote.tid) before (rec ∷ []) ∙ rw (new.1) refl)

  module _ (says : (server : ServerNo) (tid : Tid) → is_among first.committed tid ≡ false → IsSettled tid → logs.changes_at server tid first ≡ machine.changes_of (record_of state tid server.0)) (before : List Record) (said : Recovery) (goes : GoesBehind before said) where
    next_is : (rec : Record) → found_record said rec ≡ fold found_record first (before ++ rec ∷ [])
    next_is rec = ap (λ (r : Recovery). found_record r rec) goes.is ∙ sym (fold-append found_record first before (rec ∷ []))

    votes_on : (rec : Record) → Every (IsBehind (before ++ rec ∷ [])) said.prepared
    votes_on rec = every_on (IsBehind before) (IsBehind (before ++ rec ∷ [])) (later before rec) said.prepared goes.votes

    -- a Prepare
    module _ (tid : Tid) (server : ServerNo) (covers : ℕ) (changes : List Op) (own : IsOwnVote here book state tid server covers changes) where
      abbrev rec : Record
      rec = made.Prepare tid server covers changes

      abbrev vote : Prepared
      vote = record { tid = tid; server = server; covers = covers; changes = changes; committed = false }

      abbrev others : Prepared → Bool
      others other = not (is_vote_of tid server other)

      kept_then : KeepsAll (found_record said rec)
      kept_then t s r is = by (goes.kept t s r is)
        where
          at : Voter
          at = voter t s

          here_found : (HasAborted book t → ⊥) → (found : is_found_in at r.covers said.prepared ≡ true) → (a b : Bool) → same_tid tid t ≡ a → (server.0 == s) ≡ b → is_found_in at r.covers (filter others said.prepared ++ vote ∷ []) ≡ true
          here_found stands found true true near same = any_append (is_found at r.covers) (filter others said.prepared) (vote ∷ []) (inr (ap (λ (b : Bool). b || false) found_own))
            where
              one : tid ≡ t
              one = same_tid-true tid t near

              beyond : nat_lt r.covers covers ≡ true
              beyond = own.of.beyond.more (subst (λ (x : Tid). HasAborted book x → ⊥) (sym one) stands) r (ap (λ (x : Tid). record_of state x server.0) one ∙ (ap (λ (k : ℕ). record_of state t k) (eqb-true server.0 s same) ∙ is))

              found_own : is_found at r.covers vote ≡ true
              found_own = rw (ap names_transaction one ∙ found_named at r.covers said.prepared found, near, same) (less_than r.covers covers beyond)
          here_found stands found true false near far = any_append (is_found at r.covers) (filter others said.prepared) (vote ∷ []) (inl (any_filter (is_found at r.covers) others (λ v i. passes v (found_is at r.covers v i).1) said.prepared found))
            where
              and_off : (a b : Bool) → b ≡ false → not (a && b) ≡ true
              and_off true b e = ap not e
              and_off false b e = refl

              passes : (v : Prepared) → (v.server.0 == s) ≡ true → others v ≡ true
              passes v i = and_off (same_tid v.tid tid) (v.server.0 == server.0) (ap (λ (k : ℕ). k == server.0) (eqb-true v.server.0 s i) ∙ apart_turned server.0 s far)
          here_found stands found false b far _ = any_append (is_found at r.covers) (filter others said.prepared) (vote ∷ []) (inl (any_filter (is_found at r.covers) others (λ v i. passes v (found_is at r.covers v i).0) said.prepared found))
            where
              apart : (b : Bool) → same_tid t tid ≡ b → same_tid t tid ≡ false
              apart false e = e
              apart true e = absurd (let one : t ≡ tid = same_tid-true t tid e in let near : same_tid tid t ≡ true = subst (λ (x : Tid). same_tid x t ≡ true) one (same_tid-self t) in cc (near, far))

              passes : (v : Prepared) → v.tid ≡ t → others v ≡ true
              passes v i = ap (λ (x : Tid). not (same_tid x tid && (v.server.0 == server.0))) i ∙ ap (λ (b : Bool). not (b && (v.server.0 == server.0))) (apart (same_tid t tid) refl)

          by : IsKeptIn said t s r.covers → IsKeptIn (found_record said rec) t s r.covers
          by (inl lost) = inl lost
          by (inr (inl among)) = inr (inl among)
          by (inr (inr found)) = of (aborted_or t)
            where
              of : HasAborted book t ⊎ (HasAborted book t → ⊥) → IsKeptIn (found_record said rec) t s r.covers
              of (inl aborted) = inl (aborted_lost t aborted)
              of (inr stands) = inr (inr (here_found stands found (same_tid tid t) (server.0 == s) refl refl))

      prepare_goes : GoesBehind (before ++ rec ∷ []) (found_record said rec)
      prepare_goes = record {
        is = next_is rec;
        votes = every_append (IsBehind (before ++ rec ∷ [])) (filter others said.prepared) (vote ∷ []) (every_filter (IsBehind (before ++ rec ∷ [])) others said.prepared (votes_on rec))
            (inr (record { doubt = refl; own = own }, list_any-append (is_record_of tid) before (rec ∷ []) ∙ last (list_any (is_record_of tid) before)), tt);
        kept = kept_then;
        applies = record { files = goes.applies.files; audit = goes.applies.audit };
      }
        where
          last : (b : Bool) → (b || (same_tid tid tid || false)) ≡ true
          last true = refl
          last false = rw (same_tid-self tid) refl

    -- what is found stands
    found_stands : (at : Voter) (covers : ℕ) (votes : List Prepared) → Every (IsBehind before) votes → is_found_in at covers votes ≡ true → is_some (find_transaction book at.tid) ≡ true
    found_stands at covers [] all found = absurd (cc found)
    found_stands at covers (vote ∷ votes) all found = by (is_found at covers vote) refl found (found_stands at covers votes all.1)
      where
        of : IsBehind before vote → StandsIn book vote
        of (inl old) = old.stands
        of (inr new) = ap is_some new.0.own.due.found

        by : (b : Bool) → is_found at covers vote ≡ b → (b || is_found_in at covers votes) ≡ true → (is_found_in at covers votes ≡ true → is_some (find_transaction book at.tid) ≡ true) → is_some (find_transaction book at.tid) ≡ true
        by true e i more = subst (λ (t : Tid). is_some (find_transaction book t) ≡ true) (found_is at covers vote e).0 (of all.0)
        by false e i more = more i

    -- it is lost, if it stands, or among these
    abbrev IsLostOr : Tid → List Tid → Type 0
    IsLostOr tid done = (is_some (find_transaction book tid) ≡ true → may_be_lost here tid (find_transaction book tid) ≡ true) ⊎ (is_among done tid ≡ true)

    -- what is kept as a transaction's records are ended, which is over
    ended_kept : (tid : Tid) (done : List Tid) → ((t : Tid) → is_among said.committed t ≡ true → is_among done t ≡ true) → IsLostOr tid done
        → (t : Tid) (s covers : ℕ) → IsKeptIn said t s covers → (may_be_lost here t (find_transaction book t) ≡ true) ⊎ ((is_among done t ≡ true) ⊎ (is_found_in (voter t s) covers (filter (λ vote. not (is_of tid vote)) said.prepared) ≡ true))
    ended_kept tid done more over t s covers (inl lost) = inl lost
    ended_kept tid done more over t s covers (inr (inl among)) = inr (inl (more t among))
    ended_kept tid done more over t s covers (inr (inr found)) = by (same_tid t tid) refl over
      where
        by : (b : Bool) → same_tid t tid ≡ b → IsLostOr tid done
            → (may_be_lost here t (find_transaction book t) ≡ true) ⊎ ((is_among done t ≡ true) ⊎ (is_found_in (voter t s) covers (filter (λ vote. not (is_of tid vote)) said.prepared) ≡ true))
        by true same (inl lost) = inl (subst (λ (x : Tid). is_some (find_transaction book x) ≡ true → may_be_lost here x (find_transaction book x) ≡ true) (sym (same_tid-true t tid same)) lost (found_stands (voter t s) covers said.prepared goes.votes found))
        by true same (inr among) = inr (inl (subst (λ (x : Tid). is_among done x ≡ true) (sym (same_tid-true t tid same)) among))
        by false far _ = inr (inr (any_filter (is_found (voter t s) covers) (λ vote. not (is_of tid vote)) (λ vote i. ap not (ap (λ (x : Tid). same_tid x tid) (found_is (voter t s) covers vote i).0 ∙ far)) said.prepared found))

    ended_goes : (tid : Tid) (rec : Record) → found_record said rec ≡ logs.ended tid said → IsLostOr tid said.committed → GoesBehind (before ++ rec ∷ []) (found_record said rec)
    ended_goes tid rec e over = record {
      is = next_is rec;
      votes = subst (λ (r : Recovery). Every (IsBehind (before ++ rec ∷ [])) r.prepared) (sym e) (every_filter (IsBehind (before ++ rec ∷ [])) (λ vote. not (is_of tid vote)) said.prepared (votes_on rec));
      kept = subst KeepsAll (sym e) (λ t s r is. ended_kept tid said.committed (λ x i. i) over t s r.covers (goes.kept t s r is));
      applies = subst (Applies here book state there) (sym e) (ended_applies here book state there said tid goes.applies);
    }

    -- a Commit
    module _ (tid : Tid) (own : IsOwnCommit first.committed before tid) (settled : IsSettled tid) where
      abbrev done : List Tid
      done = said.committed ++ (if names_transaction tid then tid ∷ [] else [])

      changes_are : (server : ServerNo) → logs.changes_at server tid said ≡ machine.changes_of (record_of state tid server.0)
      changes_are server = ap (logs.changes_at server tid) goes.is ∙ (all_changes_left tid server before first own.first ∙ says server tid own.fresh settled)

      record_said : SaysRecord here book state there said tid
      record_said = record {
        files = changes_are logs.files_no;
        audit = changes_are logs.audit_no;
        named = own.named;
        fresh = ap (λ (r : Recovery). is_among r.committed tid) goes.is ∙ (all_among_left tid before first own.first ∙ own.fresh);
      }

      done_now : is_among done tid ≡ true
      done_now = ap (λ (b : Bool). is_among (said.committed ++ (if b then tid ∷ [] else [])) tid) own.named ∙ among_last said.committed tid

      done_more : (t : Tid) → is_among said.committed t ≡ true → is_among done t ≡ true
      done_more t is = among_more said.committed _ t is

      marks : (rec : Record) (vote : Prepared) → IsBehind before vote → IsBehind (before ++ rec ∷ []) (mark_committed tid vote)
      marks rec vote behind = by (is_of tid vote) refl behind
        where
          by : (b : Bool) → is_of tid vote ≡ b → IsBehind before vote → IsBehind (before ++ rec ∷ []) (if b then record vote { committed = true } else vote)
          by false far k = later before rec vote k
          by true near (inl old) = inl (record { stands = old.stands; logged = logged old.logged; recorded = λ clear. absurd (cc clear) })
            where
              logged : IsVoteLogged here book state first vote → IsVoteLogged here book state first (record vote { committed = true })
              logged (inl on) = inl on
              logged (inr applied) = inr (record { tx = applied.tx; found = applied.found; has_commit = applied.has_commit; learnt = applied.learnt })
          by true near (inr new) = absurd (let none : list_any (is_record_of vote.tid) before ≡ false = subst (λ (x : Tid). list_any (is_record_of x) before ≡ false) (sym (same_tid-true vote.tid tid near)) own.first in let some : list_any (is_record_of vote.tid) before ≡ true = new.1 in cc (none, some))

      commit_goes : (told : List NodeNo) → GoesBehind (before ++ made.Commit tid told ∷ []) (found_record said (made.Commit tid told))
      commit_goes [] = record {
        is = next_is (made.Commit tid []);
        votes = every_filter (IsBehind (before ++ made.Commit tid [] ∷ [])) (λ vote. not (is_of tid vote)) said.prepared (votes_on (made.Commit tid []));
        kept = λ t s r is. ended_kept tid done done_more (inr done_now) t s r.covers (goes.kept t s r is);
        applies = commit_applies here book state there said tid record_said goes.applies [];
      }
      commit_goes (node ∷ told) = record {
        is = next_is (made.Commit tid (node ∷ told));
        votes = every_map (IsBehind before) (IsBehind (before ++ made.Commit tid (node ∷ told) ∷ [])) (mark_committed tid) (marks (made.Commit tid (node ∷ told))) said.prepared goes.votes;
        kept = λ t s r is. marked_kept t s r.covers (goes.kept t s r is);
        applies = commit_applies here book state there said tid record_said goes.applies (node ∷ told);
      }
        where
          marked_kept : (t : Tid) (s covers : ℕ) → IsKeptIn said t s covers → (may_be_lost here t (find_transaction book t) ≡ true) ⊎ ((is_among done t ≡ true) ⊎ (is_found_in (voter t s) covers (map (mark_committed tid) said.prepared) ≡ true))
          marked_kept t s covers (inl lost) = inl lost
          marked_kept t s covers (inr (inl among)) = inr (inl (done_more t among))
          marked_kept t s covers (inr (inr found)) = inr (inr (marked_found (voter t s) covers tid said.prepared ∙ found))

    among_said : (tid : Tid) → is_among first.committed tid ≡ true → is_among said.committed tid ≡ true
    among_said tid is = subst (λ (r : Recovery). is_among r.committed tid ≡ true) (sym goes.is) (among_all tid before first is)

    one_goes : (rec : Record) → FitsCut here book state first.committed before rec → ((tid : Tid) (told : List NodeNo) → rec ≡ made.Commit tid told → IsSettled tid) → GoesBehind (before ++ rec ∷ []) (found_record said rec)
    one_goes (made.Prepare tid server covers changes) own settled = prepare_goes tid server covers changes own
    one_goes (made.Commit tid told) own settled = commit_goes tid own (settled tid told refl) told
    one_goes (made.Aborted tid) lost settled = ended_goes tid (made.Aborted tid) refl (inl lost)
    one_goes (made.End tid) done settled = ended_goes tid (made.End tid) refl (inr (among_said tid done))

  -- ---- the whole batch; each of its Commits is among the last Commits

  commit_among : (tid : Tid) (told : List NodeNo) (said : Recovery) → names_transaction tid ≡ true → is_among (found_record said (made.Commit tid told)).committed tid ≡ true
  commit_among tid [] said named = ap (λ (b : Bool). is_among (said.committed ++ (if b then tid ∷ [] else [])) tid) named ∙ among_last said.committed tid
  commit_among tid (node ∷ told) said named = ap (λ (b : Bool). is_among (said.committed ++ (if b then tid ∷ [] else [])) tid) named ∙ among_last said.committed tid

  module _ (says : (server : ServerNo) (tid : Tid) → is_among first.committed tid ≡ false → IsSettled tid → logs.changes_at server tid first ≡ machine.changes_of (record_of state tid server.0)) where
    batch_goes : (records before : List Record) (said : Recovery) → GoesBehind before said → FitCut here book state first.committed before records → ((tid : Tid) → is_among (fold found_record said records).committed tid ≡ true → IsSettled tid) → Goes (fold found_record said records)
    batch_goes [] before said goes fit settled = record { votes = every_on (IsBehind before) IsEither ends said.prepared goes.votes; kept = goes.kept; applies = goes.applies }
      where
        ends : (vote : Prepared) → IsBehind before vote → IsEither vote
        ends vote (inl old) = inl old
        ends vote (inr new) = inr new.0
    batch_goes (rec ∷ records) before said goes fit settled = batch_goes records (before ++ rec ∷ []) (found_record said rec) (one_goes says before said goes rec fit.0 (λ tid told is. settled tid (ends tid told is fit.0))) fit.1 settled
      where
        ends : (tid : Tid) (told : List NodeNo) → rec ≡ made.Commit tid told → FitsCut here book state first.committed before rec → is_among (fold found_record (found_record said rec) records).committed tid ≡ true
        ends tid told is own = among_all tid records (found_record said rec) (subst (λ (r : Record). is_among (found_record said r).committed tid ≡ true) (sym is) (commit_among tid told said (named (subst (FitsCut here book state first.committed before) is own))))
          where
            named : IsOwnCommit first.committed before tid → names_transaction tid ≡ true
            named c = c.named

    pub goes_whole : (records : List Record) → Every OldVote first.prepared → KeepsAll first → Applies here book state there first → FitCut here book state first.committed [] records
        → ((tid : Tid) → is_among (fold found_record first records).committed tid ≡ true → IsSettled tid) → Goes (fold found_record first records)
    goes_whole records old kept applies fit settled = batch_goes records [] first (record { is = refl; votes = every_on OldVote (IsBehind []) (λ vote o. inl o) first.prepared old; kept = kept; applies = applies }) fit settled
