-- A log without records of a transaction says nothing of it, and a node that opens over it does not know it.
use Rattle.qs_world_refine.proofs.Words.{◌≡◌, ℕ, ◌==◌, ◌&&◌, ◌||◌, not, Bool, true, false, List, [], ◌∷◌, ◌++◌, length, map, fold, None, refl, ◌∙◌, arith, if◌then◌else◌, Global, list_all, list_any, filter, nat_tests, same_tid, Tid, Record, Prepared, Untold, Recovery, recovery, found_record, nothing_said, names_transaction, is_vote_of, is_untold_of, prepare_of, commit_of, in_doubt, untold, voted_before, committed_before, Manager, Setting, take_up, recovered_as, recovered_of, opened_manager}
use Rattle.qs_world_refine.proofs.Words.{new_manager, server_no, is_in_doubt, SaysNothing, is_of_other, or_first, and_parts, not-true}
use Rattle.qs_record.specs.declared.record.Record.TheVariants as records
use Rattle.qs_restart.specs.Recovery as restart
use Rattle.qs_tm.specs.Manager as tm
use Rattle.qs_world_refine.proofs.Alike.{SameFound, found_itself, found_on}
use Rattle.qs_world_refine.proofs.Frames.{part_apart}
use Rattle.qs_world_refine.proofs.LogFrames.{Apart, record_tid, record_apart}
use Rattle.qs_world_refine.proofs.Others.{put_apart, meet_apart}

module _ (tid : Tid) where
  other_apart : (rec : Record) → is_of_other tid rec ≡ true → Apart tid (record_tid rec)
  other_apart (records.Prepare u s covers changes) is = not-true (same_tid tid u) is
  other_apart (records.Commit u told) is = not-true (same_tid tid u) is
  other_apart (records.Aborted u) is = not-true (same_tid tid u) is
  other_apart (records.End u) is = not-true (same_tid tid u) is

  pub says_on : (log : List Record) (r : Recovery) → list_all (is_of_other tid) log ≡ true → SameFound tid r (fold found_record r log)
  says_on [] r all = found_itself tid r
  says_on (rec ∷ log) r all = let is : (is_of_other tid rec ≡ true) × (list_all (is_of_other tid) log ≡ true) = and_parts (is_of_other tid rec) (list_all (is_of_other tid) log) all in
      found_on tid r (found_record r rec) (fold found_record (found_record r rec) log) (record_apart tid rec r (other_apart rec is.0)) (says_on log (found_record r rec) is.1)

  pub says_nothing : (log : List Record) → list_all (is_of_other tid) log ≡ true → SaysNothing tid (recovery log)
  says_nothing log all = let same : SameFound tid nothing_said (recovery log) = says_on log nothing_said all in
      record { prepared = λ s. same.prepared s; committed = same.committed; untold = same.unended }

  -- ---- what is taken up

  votes_other : (votes : List Prepared) → ((s : ℕ) → list_any (λ (vote : Prepared). is_vote_of tid (server_no s) vote && not vote.committed) votes ≡ false)
      → list_all (is_of_other tid) (map prepare_of (filter restart.is_in_doubt votes)) ≡ true
  votes_other [] none = refl
  votes_other (v ∷ votes) none = by (restart.is_in_doubt v) refl (votes_other votes (λ s. later s (is_vote_of tid (server_no s) v && not v.committed) (none s)))
    where
      later : (s : ℕ) (b : Bool) → (b || list_any (λ (vote : Prepared). is_vote_of tid (server_no s) vote && not vote.committed) votes) ≡ false → list_any (λ (vote : Prepared). is_vote_of tid (server_no s) vote && not vote.committed) votes ≡ false
      later s true is = absurd (cc (is))
      later s false is = is

      of_other : restart.is_in_doubt v ≡ true → not (same_tid tid v.tid) ≡ true
      of_other stands = let unlike : (is_vote_of tid (server_no v.server.0) v && not v.committed) ≡ false = or_first (is_vote_of tid (server_no v.server.0) v && not v.committed) _ (none v.server.0) in
          grind (arith, nat_tests, stands, unlike)

      by : (b : Bool) → restart.is_in_doubt v ≡ b → list_all (is_of_other tid) (map prepare_of (filter restart.is_in_doubt votes)) ≡ true
          → list_all (is_of_other tid) (map prepare_of (if b then v ∷ filter restart.is_in_doubt votes else filter restart.is_in_doubt votes)) ≡ true
      by true stands more = rw (of_other stands) more
      by false shut more = more

  commits_other : (commits : List Untold) → list_any (is_untold_of tid) commits ≡ false → list_all (is_of_other tid) (map commit_of (filter (λ (commit : Untold). names_transaction commit.tid) commits)) ≡ true
  commits_other [] none = refl
  commits_other (c ∷ commits) none = by (names_transaction c.tid) (is_untold_of tid c) refl none (commits_other commits)
    where
      turned : is_untold_of tid c ≡ false → not (same_tid tid c.tid) ≡ true
      turned is = grind (arith, nat_tests, is)

      by : (b d : Bool) → is_untold_of tid c ≡ d → (d || list_any (is_untold_of tid) commits) ≡ false
          → (list_any (is_untold_of tid) commits ≡ false → list_all (is_of_other tid) (map commit_of (filter (λ (commit : Untold). names_transaction commit.tid) commits)) ≡ true)
          → list_all (is_of_other tid) (map commit_of (if b then c ∷ filter (λ (commit : Untold). names_transaction commit.tid) commits else filter (λ (commit : Untold). names_transaction commit.tid) commits)) ≡ true
      by b true is none more = absurd (cc (none))
      by true false is none more = rw (turned is) (more none)
      by false false is none more = more none

  all_both : (xs ys : List Record) → list_all (is_of_other tid) xs ≡ true → list_all (is_of_other tid) ys ≡ true → list_all (is_of_other tid) (xs ++ ys) ≡ true
  all_both [] ys all more = more
  all_both (x ∷ xs) ys all more = let is : (is_of_other tid x ≡ true) × (list_all (is_of_other tid) xs ≡ true) = and_parts (is_of_other tid x) (list_all (is_of_other tid) xs) all in
      rw is.0 (all_both xs ys is.1 more)

  pub taken_apart : (rec : Record) (manager : Manager) → is_of_other tid rec ≡ true → tm.part_of tid (take_up manager rec) ≡ tm.part_of tid manager
  taken_apart (records.Prepare u s covers changes) manager is =
      part_apart tid u (voted_before (tm.is_home u manager) s covers) (tm.meet u manager) (not-true (same_tid tid u) is) ∙ meet_apart tid u manager (not-true (same_tid tid u) is)
  taken_apart (records.Commit u told) manager is = by (length told == 0)
    where
      by : (b : Bool) → tm.part_of tid (if b then manager else tm.put_part u (committed_before (tm.is_home u manager) told) manager) ≡ tm.part_of tid manager
      by true = refl
      by false = put_apart tid u (committed_before (tm.is_home u manager) told) manager (not-true (same_tid tid u) is)
  taken_apart (records.Aborted u) manager is = refl
  taken_apart (records.End u) manager is = refl

  all_apart : (recs : List Record) (manager : Manager) → list_all (is_of_other tid) recs ≡ true → tm.part_of tid (fold take_up manager recs) ≡ tm.part_of tid manager
  all_apart [] manager all = refl
  all_apart (rec ∷ recs) manager all = let is : (is_of_other tid rec ≡ true) × (list_all (is_of_other tid) recs ≡ true) = and_parts (is_of_other tid rec) (list_all (is_of_other tid) recs) all in
      all_apart recs (take_up manager rec) is.1 ∙ taken_apart rec manager is.0

  pub unknown_log : (alloc : Global) (setting : Setting) (said : Recovery) → ((s : ℕ) → is_in_doubt tid s said ≡ false) → list_any (is_untold_of tid) said.untold ≡ false → tm.part_of tid (opened_manager alloc setting (recovered_as said)) ≡ None
  unknown_log alloc setting said none told = all_apart (in_doubt said ++ untold said) (new_manager alloc setting)
      (all_both (in_doubt said) (untold said) (votes_other said.prepared none) (commits_other said.untold told))

  pub unknown_there : (alloc : Global) (setting : Setting) (log : List Record) → SaysNothing tid (recovery log) → tm.part_of tid (opened_manager alloc setting (recovered_of log)) ≡ None
  unknown_there alloc setting log says = unknown_log alloc setting (recovery log) says.prepared says.untold
