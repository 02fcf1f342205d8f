-- Whether logs are coherent is up to the logs and incarnations of the nodes of the run alone.
use Rattle.std.proofs.Common.{◌≡◌, ◌∙◌, ap, refl, subst, sym, ℕ, ◌==◌, ◌<◌, Bool, true, false, List, [], ◌∷◌, arith, nat_lt}
use Rattle.std.specs.Prelude.{◌||◌, not}
use Rattle.std.specs.Global.{Global}
use Rattle.std.specs.List.{list_all, list_any}
use Rattle.std.proofs.lemmas.Bool.Decides.{nat_tests}
use Rattle.qs_base.specs.declared.identifiers.Tid.{Tid}
use Rattle.qs_record.specs.declared.record.Record.{Record}
use Rattle.qs_record.specs.declared.record.Record.TheVariants as records
use Rattle.qs_restart.specs.Recovery.{Prepared, recovery}
use Rattle.qs_world.proofs.Below.{each_is}
use Rattle.qs_world.specs.Openings.{are_unended, each_below, is_commit_of, is_committed_at_home, is_earlier, is_open_vote, is_record, is_whole_log, names_it}
use Rattle.qs_world.specs.World.{Opening}
use Rattle.qs_world_opening.proofs.Tests.{each_so}
use Rattle.qs_world_opening.specs.Coherent.{AreCoherentLogs, over_logs}

-- a test that is asked of nodes of the run alone
guarded : (k size : ℕ) (f g : Bool) → (k < size → g ≡ f) → (not (nat_lt k size) || g) ≡ (not (nat_lt k size) || f)
guarded k size f g same = by (nat_lt k size) refl
  where
    low : nat_lt k size ≡ true → k < size
    low is = grind (arith, nat_tests, is)

    by : (b : Bool) → nat_lt k size ≡ b → (not b || g) ≡ (not b || f)
    by true is = same (low is)
    by false is = refl

all_same : {X : Type 0} (test other : X → Bool) → ((x : X) → other x ≡ test x) → (xs : List X) → list_all other xs ≡ list_all test xs
all_same test other same [] = refl
all_same test other same (x ∷ xs) = rw (same x, all_same test other same xs) refl

module _ (alloc : Global) (size : ℕ) (incs others : ℕ → ℕ) (logs more : ℕ → List Record) (same_incs : (n : ℕ) → n < size → others n ≡ incs n) (same_logs : (n : ℕ) → n < size → more n ≡ logs n) where
  abbrev before : Opening
  before = over_logs alloc size incs logs

  abbrev after : Opening
  after = over_logs alloc size others more

  earlier : (tid : Tid) → is_earlier after tid ≡ is_earlier before tid
  earlier tid = guarded tid.home.0 size (nat_lt tid.inc (incs tid.home.0)) (nat_lt tid.inc (others tid.home.0)) (λ low. ap (nat_lt tid.inc) (same_incs tid.home.0 low))

  committed : (tid : Tid) → is_committed_at_home after tid ≡ is_committed_at_home before tid
  committed tid = guarded tid.home.0 size (list_any (is_commit_of tid) (logs tid.home.0)) (list_any (is_commit_of tid) (more tid.home.0)) (λ low. ap (list_any (is_commit_of tid)) (same_logs tid.home.0 low))

  record_same : (n : ℕ) (r : Record) → is_record after n r ≡ is_record before n r
  record_same n (records.Prepare tid server covers changes) = rw (earlier tid) refl
  record_same n (records.Commit tid told) = rw (earlier tid, committed tid) refl
  record_same n (records.Aborted tid) = earlier tid
  record_same n (records.End tid) = earlier tid

  abbrev told_in : Tid → ℕ → List Record → Bool
  told_in tid n log = not (list_any (is_commit_of tid) log) || list_any (names_it tid n) (recovery log).untold

  vote_same : (n : ℕ) (vote : Prepared) → is_open_vote after n vote ≡ is_open_vote before n vote
  vote_same n vote = ap (λ (b : Bool). (vote.tid.home.0 == n) || b)
      (guarded vote.tid.home.0 size (told_in vote.tid n (logs vote.tid.home.0)) (told_in vote.tid n (more vote.tid.home.0)) (λ low. ap (told_in vote.tid n) (same_logs vote.tid.home.0 low)))

  -- a test of each log
  each_log : (test other : ℕ → List Record → Bool) → ((n : ℕ) (log : List Record) → other n log ≡ test n log) → each_below size (λ n. test n (logs n)) ≡ true → each_below size (λ n. other n (more n)) ≡ true
  each_log test other same all = each_so size (λ n. other n (more n)) (λ n low. subst (λ (log : List Record). other n log ≡ true) (sym (same_logs n low)) (same n (logs n) ∙ each_is size (λ k. test k (logs k)) all n low))

  pub coherent_below : AreCoherentLogs alloc size incs logs → AreCoherentLogs alloc size others more
  coherent_below is = record {
    logs = each_log (λ n log. list_all (is_record before n) log) (λ n log. list_all (is_record after n) log) (λ n log. all_same (is_record before n) (is_record after n) (record_same n) log) is.logs;
    votes = each_log (λ n log. list_all (is_open_vote before n) (recovery log).prepared) (λ n log. list_all (is_open_vote after n) (recovery log).prepared)
        (λ n log. all_same (is_open_vote before n) (is_open_vote after n) (vote_same n) (recovery log).prepared) is.votes;
    unended = each_log (λ n log. are_unended (recovery log)) (λ n log. are_unended (recovery log)) (λ n log. refl) is.unended;
    whole = each_log (λ n log. is_whole_log (recovery log)) (λ n log. is_whole_log (recovery log)) (λ n log. refl) is.whole;
  }
