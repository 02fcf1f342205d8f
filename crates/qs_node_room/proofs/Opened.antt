-- What a node that opens knows of each transaction of its log.
use Rattle.std.proofs.Common.{◌≡◌, ◌==◌, Bool, true, false, not, List, [], ◌∷◌, ◌++◌, length, map, Option, Some, None, refl, sym, ap, subst, ◌∙◌, fold, if◌then◌else◌}
use Rattle.std.specs.Prelude.{◌&&◌, ◌||◌, ⊤}
use Rattle.std.specs.List.{filter, list_all, list_any}
use Rattle.std.specs.Map.{lookup}
use Rattle.std.specs.BTreeMap.{is_at}
use Rattle.qs_base.specs.Order.{tid_cmp, same_tid}
use Rattle.qs_base.specs.declared.identifiers.Outcome.TheVariants as outcomes
use Rattle.qs_base.specs.declared.identifiers.Tid.{Tid}
use Rattle.qs_base.proofs.Same.{same_tid-true}
use Rattle.qs_base.proofs.TidOrder.{same_tid-cmp}
use Rattle.qs_record.specs.declared.record.Record.{Record}
use Rattle.qs_restart.specs.Recovery.{Prepared, Untold, is_of, is_untold_of, prepare_of, commit_of}
use Rattle.qs_node_step.specs.Opening.{take_up}
use Rattle.qs_tm.specs.Manager as tm
use Rattle.qs_tm.specs.Outcomes as outcome_rules
use Rattle.qs_tm.specs.Participant.{new_participant}
use Rattle.qs_tm.specs.declared.manager.Manager.{Manager}
use Rattle.qs_tm.specs.declared.participant.Participant.{Participant}
use Rattle.qs_book_laws.proofs.Rising.{IsRising}
use Rattle.qs_book_laws.proofs.Maps.{lookup_changed}
use Rattle.qs_node_room.proofs.Agreeing.{put_own, put_other, changed_other, changed_rises, put_rising}

pub record IsListed (part : Participant) : Type 0 where
  pub unended : part.log.unended ≡ true
  pub listed : part.log.listed ≡ true
  pub prepared : part.log.prepared ≡ false
  pub outcome : part.outcome ≡ Some outcomes.Commit

pub record IsPrep (part : Participant) : Type 0 where
  pub unended : part.log.unended ≡ true
  pub listed : part.log.listed ≡ false
  pub involved : part.involved ≡ true

-- by whether a Commit of it is still to be told, and whether a vote of it is in doubt
abbrev pub Shape : Bool → Bool → Option Participant → Type 0
Shape true d o = (part : Participant) × (o ≡ Some part) × IsListed part
Shape false true o = (part : Participant) × (o ≡ Some part) × IsPrep part
Shape false false o = o ≡ None

pub other_at : (s t : Tid) → same_tid s t ≡ false → is_at (tid_cmp s) t ≡ false
other_at s t h = sym (same_tid-cmp s t) ∙ h

-- ---- votes in doubt

abbrev Votes : (Tid → Bool) → Manager → Type 0
Votes b m = IsRising tid_cmp m.known × ((t : Tid) → Shape false (b t) (tm.part_of t m))

or_false : (b : Bool) → (b || false) ≡ b
or_false true = refl
or_false false = refl

or_true : (b : Bool) → (b || true) ≡ true
or_true true = refl
or_true false = refl

vote_taken : (vote : Prepared) (b : Tid → Bool) (m : Manager) → Votes b m → Votes (λ t. b t || is_of t vote) (take_up m (prepare_of vote))
vote_taken vote b m v = by (tm.part_of vote.tid m) refl (b vote.tid) refl (v.1 vote.tid)
  where
    home : Bool
    home = tm.is_home vote.tid m

    f : Bool → Participant → Participant
    f h = outcome_rules.voted_before h vote.server vote.covers

    spread : (n : Manager) (part : Participant) → IsRising tid_cmp n.known → tm.part_of vote.tid n ≡ Some part → IsPrep part
        → ((t : Tid) → is_at (tid_cmp vote.tid) t ≡ false → tm.part_of t n ≡ tm.part_of t m) → Votes (λ t. b t || is_of t vote) n
    spread n part rising known prep others = (rising, λ t. each t (same_tid vote.tid t) refl)
      where
        each : (t : Tid) (same : Bool) → same_tid vote.tid t ≡ same → Shape false (b t || same_tid vote.tid t) (tm.part_of t n)
        each t true is = rw (is, or_true (b t)) (part, ap (λ (x : Tid). tm.part_of x n) (sym (same_tid-true vote.tid t is)) ∙ known, prep)
        each t false is = rw (is, or_false (b t)) (subst (λ (o : Option Participant). Shape false (b t) o) (sym (others t (other_at vote.tid t is))) (v.1 t))

    met : (o : Option Participant) → tm.part_of vote.tid m ≡ o → Manager
    met None none = tm.put_part vote.tid (new_participant home) m
    met (Some part) known = m

    by : (o : Option Participant) → tm.part_of vote.tid m ≡ o → (c : Bool) → b vote.tid ≡ c → Shape false (b vote.tid) (tm.part_of vote.tid m) → Votes (λ t. b t || is_of t vote) (take_up m (prepare_of vote))
    by None none c has shape =
        let first : Manager = tm.put_part vote.tid (new_participant home) m in
        let found : tm.part_of vote.tid first ≡ Some (new_participant home) = put_own vote.tid (new_participant home) m.known in
        let is : take_up m (prepare_of vote) ≡ tm.with_part vote.tid (f home) first = ap (λ (o : Option Participant). tm.with_part vote.tid (f home) (if Rattle.std.specs.Prelude.is_some o then m else first)) none in
        subst (λ (n : Manager). Votes (λ t. b t || is_of t vote) n) (sym is)
        (spread (tm.with_part vote.tid (f home) first) (f home (new_participant home)) (changed_rises (is_at (tid_cmp vote.tid)) (f home) first.known (put_rising vote.tid (new_participant home) m.known v.0))
        (lookup_changed (is_at (tid_cmp vote.tid)) (f home) first.known (new_participant home) found) (record { unended = refl; listed = refl; involved = refl })
        (λ t other. changed_other vote.tid t (f home) first.known other ∙ put_other vote.tid t (new_participant home) m.known other))
    by (Some part) known true has shape =
        let s : Shape false true (tm.part_of vote.tid m) = subst (λ (c : Bool). Shape false c (tm.part_of vote.tid m)) has shape in
        let is : take_up m (prepare_of vote) ≡ tm.with_part vote.tid (f home) m = ap (λ (o : Option Participant). tm.with_part vote.tid (f home) (if Rattle.std.specs.Prelude.is_some o then m else tm.put_part vote.tid (new_participant home) m)) known in
        subst (λ (n : Manager). Votes (λ t. b t || is_of t vote) n) (sym is)
        (spread (tm.with_part vote.tid (f home) m) (f home s.0) (changed_rises (is_at (tid_cmp vote.tid)) (f home) m.known v.0)
        (lookup_changed (is_at (tid_cmp vote.tid)) (f home) m.known s.0 s.1) (record { unended = refl; listed = s.2.listed; involved = refl })
        (λ t other. changed_other vote.tid t (f home) m.known other))
    by (Some part) known false has shape = absurd (let none : tm.part_of vote.tid m ≡ None = subst (λ (c : Bool). Shape false c (tm.part_of vote.tid m)) has shape in cc (sym none ∙ known))

or_assoc : (a b c : Bool) → ((a || b) || c) ≡ (a || (b || c))
or_assoc true b c = refl
or_assoc false b c = refl

votes_taken : (votes : List Prepared) (b : Tid → Bool) (m : Manager) → Votes b m → Votes (λ t. b t || list_any (is_of t) votes) (fold take_up m (map prepare_of votes))
votes_taken [] b m v = (v.0, λ t. rw (or_false (b t)) (v.1 t))
votes_taken (vote ∷ votes) b m v = let more = votes_taken votes (λ t. b t || is_of t vote) (take_up m (prepare_of vote)) (vote_taken vote b m v) in
    (more.0, λ t. subst (λ (c : Bool). Shape false c (tm.part_of t (fold take_up (take_up m (prepare_of vote)) (map prepare_of votes)))) (or_assoc (b t) (is_of t vote) (list_any (is_of t) votes)) (more.1 t))

-- ---- Commits that are still to be told

abbrev Commits : (Tid → Bool) → (Tid → Bool) → Manager → Type 0
Commits a b m = IsRising tid_cmp m.known × ((t : Tid) → Shape (a t) (b t) (tm.part_of t m))

abbrev pub has_list : Untold → Bool
has_list commit = not (length commit.told == 0)

commit_taken : (commit : Untold) (a b : Tid → Bool) (m : Manager) → has_list commit ≡ true → Commits a b m → Commits (λ t. a t || is_untold_of t commit) b (take_up m (commit_of commit))
commit_taken commit a b m lists v = by (length commit.told == 0) refl
  where
    part : Participant
    part = outcome_rules.committed_before (tm.is_home commit.tid m) commit.told

    put : Manager
    put = tm.put_part commit.tid part m

    each : (t : Tid) (same : Bool) → same_tid commit.tid t ≡ same → Shape (a t || same_tid commit.tid t) (b t) (tm.part_of t put)
    each t true is = rw (is, or_true (a t)) (part, ap (λ (x : Tid). tm.part_of x put) (sym (same_tid-true commit.tid t is)) ∙ put_own commit.tid part m.known, record { unended = refl; listed = refl; prepared = refl; outcome = refl })
    each t false is = rw (is, or_false (a t)) (subst (λ (o : Option Participant). Shape (a t) (b t) o) (sym (put_other commit.tid t part m.known (other_at commit.tid t is))) (v.1 t))

    by : (c : Bool) → (length commit.told == 0) ≡ c → Commits (λ t. a t || is_untold_of t commit) b (if c then m else put)
    by true is = absurd (cc (sym (ap not is) ∙ lists))
    by false is = (put_rising commit.tid part m.known v.0, λ t. each t (same_tid commit.tid t) refl)

both_of : (a b : Bool) → (a && b) ≡ true → (a ≡ true) × (b ≡ true)
both_of true b is = (refl, is)
both_of false b is = absurd (cc is)

commits_taken : (commits : List Untold) (a b : Tid → Bool) (m : Manager) → list_all has_list commits ≡ true → Commits a b m → Commits (λ t. a t || list_any (is_untold_of t) commits) b (fold take_up m (map commit_of commits))
commits_taken [] a b m lists v = (v.0, λ t. rw (or_false (a t)) (v.1 t))
commits_taken (commit ∷ commits) a b m lists v =
    let l = both_of (has_list commit) (list_all has_list commits) lists in
    let more = commits_taken commits (λ t. a t || is_untold_of t commit) b (take_up m (commit_of commit)) l.1 (commit_taken commit a b m l.0 v) in
    (more.0, λ t. subst (λ (c : Bool). Shape c (b t) (tm.part_of t (fold take_up (take_up m (commit_of commit)) (map commit_of commits)))) (or_assoc (a t) (is_untold_of t commit) (list_any (is_untold_of t) commits)) (more.1 t))

fold_both : {A B : Type 0} (f : B → A → B) (b : B) (xs ys : List A) → fold f b (xs ++ ys) ≡ fold f (fold f b xs) ys
fold_both f b [] ys = refl
fold_both f b (x ∷ xs) ys = fold_both f (f b x) xs ys

-- all of it, from a manager that knows nothing
pub all_taken : (votes : List Prepared) (commits : List Untold) (m : Manager) → m.known ≡ [] → list_all has_list commits ≡ true
    → Commits (λ t. list_any (is_untold_of t) commits) (λ t. list_any (is_of t) votes) (fold take_up m (map prepare_of votes ++ map commit_of commits))
all_taken votes commits m none lists =
    let first : Votes (λ t. false) m = (subst (λ (k : List (Tid × Participant)). IsRising tid_cmp k) (sym none) tt, λ t. ap (λ (k : List (Tid × Participant)). lookup (is_at (tid_cmp t)) k) none) in
    let voted = votes_taken votes (λ t. false) m first in
    subst (λ (n : Manager). Commits (λ t. list_any (is_untold_of t) commits) (λ t. list_any (is_of t) votes) n) (sym (fold_both take_up m (map prepare_of votes) (map commit_of commits)))
    (commits_taken commits (λ t. false) (λ t. list_any (is_of t) votes) (fold take_up m (map prepare_of votes)) lists voted)

take_same : (rec : Record) (m : Manager) → ((take_up m rec).keep ≡ m.keep) × ((take_up m rec).extra ≡ m.extra)
take_same (Rattle.qs_record.specs.declared.record.Record.TheVariants.Prepare tid server covers changes) m = by (tm.knows tid m)
  where
    by : (b : Bool) → ((if b then m else tm.put_part tid (new_participant (tm.is_home tid m)) m).keep ≡ m.keep) × ((if b then m else tm.put_part tid (new_participant (tm.is_home tid m)) m).extra ≡ m.extra)
    by true = (refl, refl)
    by false = (refl, refl)
take_same (Rattle.qs_record.specs.declared.record.Record.TheVariants.Commit tid told) m = by (length told == 0)
  where
    by : (b : Bool) → ((if b then m else tm.put_part tid (outcome_rules.committed_before (tm.is_home tid m) told) m).keep ≡ m.keep) × ((if b then m else tm.put_part tid (outcome_rules.committed_before (tm.is_home tid m) told) m).extra ≡ m.extra)
    by true = (refl, refl)
    by false = (refl, refl)
take_same (Rattle.qs_record.specs.declared.record.Record.TheVariants.Aborted tid) m = (refl, refl)
take_same (Rattle.qs_record.specs.declared.record.Record.TheVariants.End tid) m = (refl, refl)

pub taken_same : (recs : List Record) (m : Manager) → ((fold take_up m recs).keep ≡ m.keep) × ((fold take_up m recs).extra ≡ m.extra)
taken_same [] m = (refl, refl)
taken_same (rec ∷ recs) m = let one = take_same rec m in let more = taken_same recs (take_up m rec) in (more.0 ∙ one.0, more.1 ∙ one.1)
