-- A log whose records fit says what a node can take up, and what names transactions that may be known.
use Rattle.qs_world_refine.proofs.Words.{◌≡◌, ◌&&◌, ◌||◌, not, Bool, true, false, List, [], ◌∷◌, ◌++◌, map, fold, refl, arith, if◌then◌else◌, list_all, list_any, filter, nat_tests, same_tid, NodeNo, Tid, same_node, is_recoverable, Record, Prepared, Untold, Recovery, nothing_said, recovery, found_record, names_transaction, is_untold_of, is_vote_of, ended, mark_committed, with_list, prepare_of, commit_of, in_doubt, untold, is_list_at, may_vote, is_list_of, may_take_up, is_steady_record, or_right}
use Rattle.qs_record.specs.declared.record.Record.TheVariants as records
use Rattle.qs_restart.specs.Recovery as restart
use Rattle.qs_restart.specs.Recovery.{is_of}
use Rattle.qs_world_refine.proofs.Entries.{all_mapped}
use Rattle.qs_world_refine.proofs.SoundBegin.{all_implied, all_last}
use Rattle.qs_world_refine.proofs.SoundLogs.{all_filtered}
use Rattle.qs_world_refine.proofs.SoundParts.{and_both, both_and}

pub all_joined : {X : Type 0} (p : X → Bool) (xs ys : List X) → list_all p xs ≡ true → list_all p ys ≡ true → list_all p (xs ++ ys) ≡ true
all_joined p [] ys first second = second
all_joined p (x ∷ xs) ys first second = let both : (p x ≡ true) × (list_all p xs ≡ true) = and_both (p x) (list_all p xs) first in both_and (p x) (list_all p (xs ++ ys)) both.0 (all_joined p xs ys both.1 second)

pub all_parted : {X : Type 0} (p : X → Bool) (xs ys : List X) → list_all p (xs ++ ys) ≡ true → (list_all p xs ≡ true) × (list_all p ys ≡ true)
all_parted p [] ys all = (refl, all)
all_parted p (x ∷ xs) ys all =
    let both : (p x ≡ true) × (list_all p (xs ++ ys) ≡ true) = and_both (p x) (list_all p (xs ++ ys)) all in
    let rest : (list_all p xs ≡ true) × (list_all p ys ≡ true) = all_parted p xs ys both.1 in (both_and (p x) (list_all p xs) both.0 rest.0, rest.1)

module _ (past : Tid → Bool) (me : NodeNo) where
  -- what names a transaction names one that may be known
  abbrev pub may_name : Tid → Bool
  may_name tid = not (names_transaction tid) || past tid

  abbrev pub is_fit_vote : Prepared → Bool
  is_fit_vote vote = may_name vote.tid && is_recoverable vote.server.0

  abbrev pub is_fit_commit : Untold → Bool
  is_fit_commit commit = may_name commit.tid && same_node commit.tid.home me

  abbrev pub is_logged_in : List Tid → Untold → Bool
  is_logged_in committed commit = not (names_transaction commit.tid) || list_any (same_tid commit.tid) committed

  pub record IsSaidTidy (said : Recovery) : Type 0 where
    pub votes : list_all is_fit_vote said.prepared ≡ true
    pub commits : list_all is_fit_commit said.untold ≡ true
    pub committed : list_all past said.committed ≡ true
    pub logged : list_all (is_logged_in said.committed) said.untold ≡ true  -- a Commit that waits for its End is one of the log's

  ended_tidy : (tid : Tid) (said : Recovery) → IsSaidTidy said → IsSaidTidy (ended tid said)
  ended_tidy tid said is = record {
    votes = all_filtered is_fit_vote (λ vote. not (is_of tid vote)) said.prepared is.votes;
    commits = all_filtered is_fit_commit (λ commit. not (is_untold_of tid commit)) said.untold is.commits;
    committed = is.committed;
    logged = all_filtered (is_logged_in said.committed) (λ commit. not (is_untold_of tid commit)) said.untold is.logged;
  }

  marked_fits : (tid : Tid) (vote : Prepared) → is_fit_vote vote ≡ true → is_fit_vote (mark_committed tid vote) ≡ true
  marked_fits tid vote is = by (is_of tid vote)
    where
      by : (b : Bool) → is_fit_vote (if b then record vote { committed = true } else vote) ≡ true
      by true = is
      by false = is

  list_tidy : (tid : Tid) (told : List NodeNo) (said : Recovery) → may_name tid ≡ true → is_list_at me tid told ≡ true → (not (names_transaction tid) || list_any (same_tid tid) said.committed) ≡ true → IsSaidTidy said → IsSaidTidy (with_list tid told said)
  list_tidy tid [] said names its logged is = ended_tidy tid said is
  list_tidy tid (first ∷ others) said names its logged is = record {
    votes = all_mapped is_fit_vote (mark_committed tid) (marked_fits tid) said.prepared is.votes;
    commits = all_last is_fit_commit said.untold (record { tid = tid; told = first ∷ others }) is.commits (both_and (may_name tid) (same_node tid.home me) names its);
    committed = is.committed;
    logged = all_last (is_logged_in said.committed) said.untold (record { tid = tid; told = first ∷ others }) is.logged logged;
  }

  named_past : (tid : Tid) → may_name tid ≡ true → list_all past (if names_transaction tid then tid ∷ [] else []) ≡ true
  named_past tid names = by (names_transaction tid) names
    where
      by : (b : Bool) → (not b || past tid) ≡ true → list_all past (if b then tid ∷ [] else []) ≡ true
      by true is = both_and (past tid) true is refl
      by false is = refl

  any_more : (t : Tid) (xs ys : List Tid) → list_any (same_tid t) xs ≡ true → list_any (same_tid t) (xs ++ ys) ≡ true
  any_more t [] ys is = absurd (cc (is))
  any_more t (x ∷ xs) ys is = by (same_tid t x) (any_more t xs ys) is
    where
      by : (b : Bool) → (list_any (same_tid t) xs ≡ true → list_any (same_tid t) (xs ++ ys) ≡ true) → (b || list_any (same_tid t) xs) ≡ true → (b || list_any (same_tid t) (xs ++ ys)) ≡ true
      by true more is = refl
      by false more is = more is

  logged_more : (commit : Untold) (xs ys : List Tid) → is_logged_in xs commit ≡ true → is_logged_in (xs ++ ys) commit ≡ true
  logged_more commit xs ys is = by (names_transaction commit.tid) is
    where
      by : (b : Bool) → (not b || list_any (same_tid commit.tid) xs) ≡ true → (not b || list_any (same_tid commit.tid) (xs ++ ys)) ≡ true
      by true is = any_more commit.tid xs ys is
      by false is = refl

  -- a Commit names its transaction
  named_logged : (tid : Tid) (xs : List Tid) → (not (names_transaction tid) || list_any (same_tid tid) (xs ++ (if names_transaction tid then tid ∷ [] else []))) ≡ true
  named_logged tid xs = by (names_transaction tid)
    where
      last : (ys : List Tid) → list_any (same_tid tid) (ys ++ tid ∷ []) ≡ true
      last [] = itself (same_tid tid tid) (grind (arith, nat_tests))
        where
          itself : (b : Bool) → b ≡ true → (b || false) ≡ true
          itself b is = rw is refl
      last (y ∷ ys) = or_right (same_tid tid y) (list_any (same_tid tid) (ys ++ tid ∷ [])) (last ys)

      by : (b : Bool) → (not b || list_any (same_tid tid) (xs ++ (if b then tid ∷ [] else []))) ≡ true
      by true = last xs
      by false = refl

  pub record_tidy : (rec : Record) (said : Recovery) → is_steady_record past me rec ≡ true → IsSaidTidy said → IsSaidTidy (found_record said rec)
  record_tidy (records.Prepare tid server covers changes) said its is = record {
    votes = all_last is_fit_vote (filter (λ other. not (is_vote_of tid server other)) said.prepared) (record { tid = tid; server = server; covers = covers; changes = changes; committed = false })
        (all_filtered is_fit_vote (λ other. not (is_vote_of tid server other)) said.prepared is.votes) its;
    commits = is.commits;
    committed = is.committed;
    logged = is.logged;
  }
  record_tidy (records.Commit tid told) said its is =
      let both : (may_name tid ≡ true) × (is_list_at me tid told ≡ true) = and_both (may_name tid) (is_list_at me tid told) its in
      list_tidy tid told _ both.0 both.1 (named_logged tid said.committed) (record {
        votes = is.votes;
        commits = is.commits;
        committed = all_joined past said.committed _ is.committed (named_past tid both.0);
        logged = all_implied (is_logged_in said.committed) (is_logged_in (said.committed ++ (if names_transaction tid then tid ∷ [] else []))) (λ commit. logged_more commit said.committed (if names_transaction tid then tid ∷ [] else [])) said.untold is.logged;
      })
  record_tidy (records.Aborted tid) said its is = ended_tidy tid said is
  record_tidy (records.End tid) said its is = ended_tidy tid said is

  fold_tidy : (log : List Record) (said : Recovery) → list_all (is_steady_record past me) log ≡ true → IsSaidTidy said → IsSaidTidy (fold found_record said log)
  fold_tidy [] said all is = is
  fold_tidy (rec ∷ log) said all is =
      let both : (is_steady_record past me rec ≡ true) × (list_all (is_steady_record past me) log ≡ true) = and_both (is_steady_record past me rec) (list_all (is_steady_record past me) log) all in
      fold_tidy log (found_record said rec) both.1 (record_tidy rec said both.0 is)

  pub log_tidy : (log : List Record) → list_all (is_steady_record past me) log ≡ true → IsSaidTidy (recovery log)
  log_tidy log all = fold_tidy log nothing_said all (record { votes = refl; commits = refl; committed = refl; logged = refl })

  -- what a node can take up
  pub takes_up : (said : Recovery) → IsSaidTidy said → may_take_up me said ≡ true
  takes_up said is = both_and (list_all may_vote said.prepared) (list_all (is_list_of me) said.untold)
      (all_implied is_fit_vote may_vote (λ vote its. (and_both (may_name vote.tid) (is_recoverable vote.server.0) its).1) said.prepared is.votes)
      (all_implied is_fit_commit (is_list_of me) (λ commit its. (and_both (may_name commit.tid) (same_node commit.tid.home me) its).1) said.untold is.commits)

  -- and what it takes up
  abbrev pub is_taken_record : Record → Bool
  is_taken_record (records.Prepare tid server covers changes) = past tid
  is_taken_record (records.Commit tid told) = past tid && same_node tid.home me
  is_taken_record rec = true

  named : (tid : Tid) → may_name tid ≡ true → names_transaction tid ≡ true → past tid ≡ true
  named tid its names = by (names_transaction tid) names its
    where
      by : (b : Bool) → b ≡ true → (not b || past tid) ≡ true → past tid ≡ true
      by true is its = its
      by false is its = absurd (cc (is))

  doubts : (votes : List Prepared) → list_all is_fit_vote votes ≡ true → list_all is_taken_record (map prepare_of (filter restart.is_in_doubt votes)) ≡ true
  doubts [] all = refl
  doubts (v ∷ votes) all = by (restart.is_in_doubt v) refl (doubts votes both.1)
    where
      both : (is_fit_vote v ≡ true) × (list_all is_fit_vote votes ≡ true)
      both = and_both (is_fit_vote v) (list_all is_fit_vote votes) all

      by : (b : Bool) → restart.is_in_doubt v ≡ b → list_all is_taken_record (map prepare_of (filter restart.is_in_doubt votes)) ≡ true → list_all is_taken_record (map prepare_of (filter restart.is_in_doubt (v ∷ votes))) ≡ true
      by true is more = rw is (both_and (past v.tid) _ (named v.tid (and_both (may_name v.tid) (is_recoverable v.server.0) both.0).0 (and_both (names_transaction v.tid) (not v.committed) is).0) more)
      by false is more = rw is more

  lists : (commits : List Untold) → list_all is_fit_commit commits ≡ true → list_all is_taken_record (map commit_of (filter (λ (commit : Untold). names_transaction commit.tid) commits)) ≡ true
  lists [] all = refl
  lists (c ∷ commits) all = by (names_transaction c.tid) refl (lists commits both.1)
    where
      both : (is_fit_commit c ≡ true) × (list_all is_fit_commit commits ≡ true)
      both = and_both (is_fit_commit c) (list_all is_fit_commit commits) all

      at : (may_name c.tid ≡ true) × (same_node c.tid.home me ≡ true)
      at = and_both (may_name c.tid) (same_node c.tid.home me) both.0

      by : (b : Bool) → names_transaction c.tid ≡ b → list_all is_taken_record (map commit_of (filter (λ (commit : Untold). names_transaction commit.tid) commits)) ≡ true
          → list_all is_taken_record (map commit_of (filter (λ (commit : Untold). names_transaction commit.tid) (c ∷ commits))) ≡ true
      by true is more = rw is (both_and (past c.tid && same_node c.tid.home me) _ (both_and (past c.tid) _ (named c.tid at.0 is) at.1) more)
      by false is more = rw is more

  pub taken_records : (said : Recovery) → IsSaidTidy said → list_all is_taken_record (in_doubt said ++ untold said) ≡ true
  taken_records said is = all_joined is_taken_record (in_doubt said) (untold said) (doubts said.prepared is.votes) (lists said.untold is.commits)
