-- A commit that a node takes up from its log is one of those that the log names.
use Rattle.qs_world_refine.proofs.Words.{◌≡◌, ◌⊎◌, inl, inr, ◌==◌, ◌&&◌, ◌||◌, not, Bool, true, false, List, [], ◌∷◌, ◌++◌, fold, map, length, Option, Some, None, is_some, refl, sym, ap, subst, ◌∙◌, arith, if◌then◌else◌, Global, list_all, filter, NodeNo, ServerNo, Tid, Record, Recovery, Prepared, Untold, commit_of, in_doubt, names_transaction, prepare_of, untold, new_manager, opened_manager, recovered_as, take_up, Setting, committed_before, voted_before, new_participant, Manager, Participant}
use Rattle.qs_base.specs.declared.identifiers.Outcome.TheVariants as outcomes
use Rattle.qs_record.specs.declared.record.Record.TheVariants as records
use Rattle.qs_restart.specs.Recovery as restart
use Rattle.qs_tm.specs.Manager as tm
use Rattle.qs_world_refine.proofs.PartsAfter.{IsSame, IsChanged, IsPut, changed_seen, put_seen}
use Rattle.qs_world_refine.proofs.SaidTidy.{all_joined}
use Rattle.qs_world_refine.proofs.SoundParts.{and_both, both_and}

module _ (logged : Tid → Bool) where
  -- a commit that is known is one of the log's
  abbrev pub AreLogged : Manager → Type 0
  AreLogged m = (t : Tid) (part : Participant) → tm.part_of t m ≡ Some part → part.outcome ≡ Some outcomes.Commit → logged t ≡ true

  abbrev pub is_logged_commit : Untold → Bool
  is_logged_commit commit = not (names_transaction commit.tid) || logged commit.tid

  abbrev is_logged_record : Record → Bool
  is_logged_record (records.Commit tid told) = logged tid
  is_logged_record rec = true

  voted_outcome : (h : Bool) (server : ServerNo) (covers : Rattle.std.proofs.Common.ℕ) (part : Participant) → (voted_before h server covers part).outcome ≡ Some outcomes.Commit → part.outcome ≡ Some outcomes.Commit
  voted_outcome true server covers part is = absurd (cc (is))
  voted_outcome false server covers part is = is

  vote_logged : (tid : Tid) (server : ServerNo) (covers : Rattle.std.proofs.Common.ℕ) (m : Manager) → AreLogged m → AreLogged (tm.take_up_vote tid server covers m)
  vote_logged tid server covers m is = by (tm.part_of tid m) refl
    where
      voted : Participant → Participant
      voted = voted_before (tm.is_home tid m) server covers

      put : Manager
      put = tm.put_part tid (new_participant (tm.is_home tid m)) m

      over : (n : Manager) → AreLogged n → AreLogged (tm.with_part tid voted n)
      over n its t part now decided = one (changed_seen t tid voted n part now)
        where
          one : (IsSame t tid n (tm.with_part tid voted n) part ⊎ IsChanged t tid voted n part) → logged t ≡ true
          one (inl same) = its t part same.was decided
          one (inr changed) = subst (λ (u : Tid). logged u ≡ true) (sym changed.same) (its tid changed.before changed.was (voted_outcome (tm.is_home tid m) server covers changed.before (ap (λ (p : Participant). p.outcome) (sym changed.now) ∙ decided)))

      put_logged : AreLogged put
      put_logged t part now decided = one (put_seen t tid (new_participant (tm.is_home tid m)) m part now)
        where
          one : (IsSame t tid m put part ⊎ IsPut t tid (new_participant (tm.is_home tid m)) part) → logged t ≡ true
          one (inl same) = is t part same.was decided
          one (inr here) = absurd (let none : part.outcome ≡ None = ap (λ (p : Participant). p.outcome) here.now in cc (none, decided))

      by : (o : Option Participant) → tm.part_of tid m ≡ o → AreLogged (tm.with_part tid voted (if is_some o then m else put))
      by (Some part) known = over m is
      by None none = over put put_logged

  commit_logged : (tid : Tid) (told : List NodeNo) (m : Manager) → logged tid ≡ true → AreLogged m → AreLogged (tm.take_up_commit tid told m)
  commit_logged tid told m its is = by (length told == 0)
    where
      part_now : Participant
      part_now = committed_before (tm.is_home tid m) told

      put_logged : AreLogged (tm.put_part tid part_now m)
      put_logged t part now decided = one (put_seen t tid part_now m part now)
        where
          one : (IsSame t tid m (tm.put_part tid part_now m) part ⊎ IsPut t tid part_now part) → logged t ≡ true
          one (inl same) = is t part same.was decided
          one (inr here) = subst (λ (u : Tid). logged u ≡ true) (sym here.same) its

      by : (b : Bool) → AreLogged (if b then m else tm.put_part tid part_now m)
      by true = is
      by false = put_logged

  taken : (recs : List Record) (m : Manager) → list_all is_logged_record recs ≡ true → AreLogged m → AreLogged (fold take_up m recs)
  taken [] m all is = is
  taken (rec ∷ recs) m all is =
      let both : (is_logged_record rec ≡ true) × (list_all is_logged_record recs ≡ true) = and_both (is_logged_record rec) _ all in taken recs (take_up m rec) both.1 (one rec both.0)
    where
      one : (rec : Record) → is_logged_record rec ≡ true → AreLogged (take_up m rec)
      one (records.Prepare tid server covers changes) its = vote_logged tid server covers m is
      one (records.Commit tid told) its = commit_logged tid told m its is
      one (records.Aborted tid) its = is
      one (records.End tid) its = is

  doubts : (votes : List Prepared) → list_all is_logged_record (map prepare_of (filter restart.is_in_doubt votes)) ≡ true
  doubts [] = refl
  doubts (v ∷ votes) = by (restart.is_in_doubt v) (doubts votes)
    where
      by : (b : Bool) → list_all is_logged_record (map prepare_of (filter restart.is_in_doubt votes)) ≡ true → list_all is_logged_record (map prepare_of (if b then v ∷ filter restart.is_in_doubt votes else filter restart.is_in_doubt votes)) ≡ true
      by true more = more
      by false more = more

  lists : (commits : List Untold) → list_all is_logged_commit commits ≡ true → list_all is_logged_record (map commit_of (filter (λ (commit : Untold). names_transaction commit.tid) commits)) ≡ true
  lists [] all = refl
  lists (c ∷ commits) all = by (names_transaction c.tid) both.0 (lists commits both.1)
    where
      both : (is_logged_commit c ≡ true) × (list_all is_logged_commit commits ≡ true)
      both = and_both (is_logged_commit c) (list_all is_logged_commit commits) all

      by : (b : Bool) → (not b || logged c.tid) ≡ true → list_all is_logged_record (map commit_of (filter (λ (commit : Untold). names_transaction commit.tid) commits)) ≡ true
          → list_all is_logged_record (map commit_of (if b then c ∷ filter (λ (commit : Untold). names_transaction commit.tid) commits else filter (λ (commit : Untold). names_transaction commit.tid) commits)) ≡ true
      by true its more = both_and (logged c.tid) _ its more
      by false its more = more

  pub opened_logged : (alloc : Global) (setting : Setting) (said : Recovery) → list_all is_logged_commit said.untold ≡ true → AreLogged (opened_manager alloc setting (recovered_as said))
  opened_logged alloc setting said all = taken (in_doubt said ++ untold said) (new_manager alloc setting) (all_joined is_logged_record (in_doubt said) (untold said) (doubts said.prepared) (lists said.untold all)) (λ t part now decided. absurd (cc (now)))
