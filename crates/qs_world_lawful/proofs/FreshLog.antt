-- A node whose incarnation begins knows its log: what stands in doubt in it is known as prepared, and what is to be told as committed.
use Rattle.qs_world_lawful.proofs.Words.{◌≡◌, inl, inr, ℕ, ◌<◌, ◌==◌, ◌++◌, Bool, true, false, List, [], ◌∷◌, length, Option, Some, None, fold, refl, sym, ap, subst, ◌∙◌, arith, if◌then◌else◌, is_some, nat_tests, Global, list_all, tid_cmp, same_tid-self, NodeNo, Tid, same_node, tid_total, IsRising, put_rises, BookValue, Record, Prepared, Recovery, in_doubt, is_in_doubt, untold, new_manager, take_up, Setting, no_member, committed_before, voted_before, member_of, new_participant, Manager, MemberPart}
use Rattle.qs_world_lawful.proofs.Words.{Participant, doubt_at, last_doubt, member_as, part_or_new, HasAborted, IsKnown, IsPrepared, KeepsRecords, KnowsLog, Every, IsApart, eqb-true, eqb-self}
use Rattle.qs_base.specs.declared.identifiers.Outcome.TheVariants as outcomes
use Rattle.qs_node_kept.specs.declared.kept.Kept.{Kept}
use Rattle.qs_book_machine.specs.Nodes as machine
use Rattle.qs_record.specs.declared.record.Record.TheVariants as records
use Rattle.qs_node_step.specs.State.{NodeValue}
use Rattle.qs_tm.specs.Manager as tm
use Rattle.qs_world_lawful.specs.Doubtful.{is_doubt_at}
use Rattle.qs_world_lawful.proofs.FoundMembers.{and_both, every_two}
use Rattle.qs_world_lawful.proofs.FreshFace.{Fresh, IsDoubt, IsOldLoan, known_as, node}
use Rattle.qs_world_lawful.proofs.LogFrames.{every_on}
use Rattle.qs_world_lawful.proofs.Marks.{changed_rises}
use Rattle.qs_world_lawful.proofs.Reopened as reopened
use Rattle.qs_world_lawful.proofs.Reopened.{IsReopened}
use Rattle.qs_world_lawful.proofs.RestartVotes.{IsSorted}
use Rattle.qs_world_lawful.proofs.TakenUp.{all_alike, outcome_before}

-- ---- the manager

pub record SameNumbers (old new : Manager) : Type 0 where
  pub node : new.node ≡ old.node
  pub inc : new.inc ≡ old.inc
  pub begun : new.begun ≡ old.begun

one_taken : (m : Manager) (rec : Record) → SameNumbers m (take_up m rec)
one_taken m (records.Prepare tid server covers changes) = by (tm.knows tid m)
  where
    by : (b : Bool) → SameNumbers m (tm.with_part tid (voted_before (tm.is_home tid m) server covers) (if b then m else tm.put_part tid (new_participant (tm.is_home tid m)) m))
    by true = record { node = refl; inc = refl; begun = refl }
    by false = record { node = refl; inc = refl; begun = refl }
one_taken m (records.Commit tid told) = by (length told == 0)
  where
    by : (b : Bool) → SameNumbers m (if b then m else tm.put_part tid (committed_before (tm.is_home tid m) told) m)
    by true = record { node = refl; inc = refl; begun = refl }
    by false = record { node = refl; inc = refl; begun = refl }
one_taken m (records.Aborted tid) = record { node = refl; inc = refl; begun = refl }
one_taken m (records.End tid) = record { node = refl; inc = refl; begun = refl }

pub all_taken : (recs : List Record) (m : Manager) → SameNumbers m (fold take_up m recs)
all_taken [] m = record { node = refl; inc = refl; begun = refl }
all_taken (rec ∷ recs) m =
    let a = one_taken m rec in
    let b = all_taken recs (take_up m rec) in
    record { node = b.node ∙ a.node; inc = b.inc ∙ a.inc; begun = b.begun ∙ a.begun }

one_rises : (m : Manager) (rec : Record) → IsRising tid_cmp m.known → IsRising tid_cmp (take_up m rec).known
one_rises m (records.Prepare tid server covers changes) rising = changed_rises tid (voted_before (tm.is_home tid m) server covers) (tm.meet tid m) (by (tm.knows tid m))
  where
    by : (b : Bool) → IsRising tid_cmp (if b then m else tm.put_part tid (new_participant (tm.is_home tid m)) m).known
    by true = rising
    by false = put_rises tid_cmp tid_total tid (new_participant (tm.is_home tid m)) m.known rising
one_rises m (records.Commit tid told) rising = by (length told == 0)
  where
    by : (b : Bool) → IsRising tid_cmp (if b then m else tm.put_part tid (committed_before (tm.is_home tid m) told) m).known
    by true = rising
    by false = put_rises tid_cmp tid_total tid (committed_before (tm.is_home tid m) told) m.known rising
one_rises m (records.Aborted tid) rising = rising
one_rises m (records.End tid) rising = rising

pub all_rise : (recs : List Record) (m : Manager) → IsRising tid_cmp m.known → IsRising tid_cmp (fold take_up m recs).known
all_rise [] m rising = rising
all_rise (rec ∷ recs) m rising = all_rise recs (take_up m rec) (one_rises m rec rising)

-- ---- each vote in doubt is found at its place

some_stays : (tid : Tid) (s : ℕ) (votes : List Prepared) (v : Prepared) → is_some (fold (last_doubt tid s) (Some v) votes) ≡ true
some_stays tid s [] v = refl
some_stays tid s (x ∷ votes) v = by (is_doubt_at tid s x) (λ y. some_stays tid s votes y)
  where
    by : (b : Bool) → ((y : Prepared) → is_some (fold (last_doubt tid s) (Some y) votes) ≡ true) → is_some (fold (last_doubt tid s) (if b then Some x else Some v) votes) ≡ true
    by true more = more x
    by false more = more v

pub doubts_found : (votes : List Prepared) (o : Tid → ℕ → Option Prepared) → Every (λ (v : Prepared). is_in_doubt v ≡ true → is_some (fold (last_doubt v.tid v.server.0) (o v.tid v.server.0) votes) ≡ true) votes
doubts_found [] o = tt
doubts_found (x ∷ votes) o = ((λ doubt. own doubt), doubts_found votes (λ tid s. last_doubt tid s (o tid s) x))
  where
    own : is_in_doubt x ≡ true → is_some (fold (last_doubt x.tid x.server.0) (last_doubt x.tid x.server.0 (o x.tid x.server.0) x) votes) ≡ true
    own doubt = subst (λ (b : Bool). is_some (fold (last_doubt x.tid x.server.0) (if b then Some x else o x.tid x.server.0) votes) ≡ true) (sym here) (some_stays x.tid x.server.0 votes x)
      where
        here : is_doubt_at x.tid x.server.0 x ≡ true
        here = rw (doubt, same_tid-self x.tid) (eqb-self x.server.0)

-- ---- what it knows of its log

every_of_true : (votes : List Prepared) → list_all (λ (v : Prepared). machine.is_recoverable v.server.0) votes ≡ true → Every (λ (v : Prepared). machine.is_recoverable v.server.0 ≡ true) votes
every_of_true [] all = tt
every_of_true (v ∷ votes) all = ((and_both (machine.is_recoverable v.server.0) _ all).0, every_of_true votes (and_both (machine.is_recoverable v.server.0) _ all).1)

module _ (alloc : Global) (setting : Setting) (saved : Kept) (now : BookValue) (log : Recovery) (r : Fresh now setting.node setting.inc log) (loans : Every (IsOldLoan now setting.inc) saved.loans) where
  abbrev begins : NodeValue
  begins = node alloc setting saved now log r loans

  abbrev known : Tid → Option Participant
  known tid = tm.part_of tid begins.manager

  k : (tid : Tid) → IsReopened (same_node tid.home setting.node) log.committed tid (IsDoubt now setting.node log tid) (λ s. doubt_at log.prepared tid s) (known tid)
  k tid = known_as alloc setting saved now log r loans tid

  votes_known : Every (IsKnown begins.manager) log.prepared
  votes_known = every_two (λ (v : Prepared). (machine.is_recoverable v.server.0 ≡ true) × IsApart log v) (λ (v : Prepared). is_in_doubt v ≡ true → is_some (doubt_at log.prepared v.tid v.server.0) ≡ true) (IsKnown begins.manager) one log.prepared
      (every_two (λ (v : Prepared). machine.is_recoverable v.server.0 ≡ true) (IsApart log) (λ (v : Prepared). (machine.is_recoverable v.server.0 ≡ true) × IsApart log v) (λ v a b. (a, b)) log.prepared (every_of_true log.prepared r.kinds) (every_on (IsSorted log.committed) (IsApart log) (λ v is names clear. is names ∙ clear) log.prepared r.sorted)) (doubts_found log.prepared (λ tid s. None))
    where
      one : (v : Prepared) → (machine.is_recoverable v.server.0 ≡ true) × IsApart log v → (is_in_doubt v ≡ true → is_some (doubt_at log.prepared v.tid v.server.0) ≡ true) → IsKnown begins.manager v
      one v both found names clear = by (known v.tid) refl
        where
          doubt : is_in_doubt v ≡ true
          doubt = rw (names, clear) refl

          low : (n : ℕ) → machine.is_recoverable n ≡ true → n < 7
          low n e = grind (arith, nat_tests, e)

          fresh_some : (o : Option Prepared) → is_some o ≡ true → (member_as o).fresh ≡ true
          fresh_some None e = absurd (cc e)
          fresh_some (Some x) e = refl

          unknown : known v.tid ≡ None → member_of (part_or_new (known v.tid)) v.server ≡ no_member
          unknown none = ap (λ (o : Option Participant). member_of (part_or_new o) v.server) none ∙ all_alike 7 v.server.0 no_member

          by : (o : Option Participant) → known v.tid ≡ o → IsPrepared o
          by None none = absurd (cc (fresh_some (doubt_at log.prepared v.tid v.server.0) (found doubt), ap (λ (m : MemberPart). m.fresh) (sym ((k v.tid).members v.server.0 (low v.server.0 both.0)) ∙ unknown none)))
          by (Some part) is = of ((k v.tid).marks part is)
            where
              of : reopened.IsMarkedAs (same_node v.tid.home setting.node) log.committed v.tid (IsDoubt now setting.node log v.tid) part → part.log.prepared ≡ true
              of (inl vote) = vote.prepared
              of (inr commit) = absurd (cc (sym (both.1 names clear) ∙ commit.among))

  parts_kept : (tid : Tid) (part : Participant) → known tid ≡ Some part → KeepsRecords now log tid part
  parts_kept tid part is = by ((k tid).marks part is)
    where
      home_is : (a b : NodeNo) → same_node a b ≡ true → a ≡ b
      home_is a b e = ap (λ (x : ℕ). record { 0 = x }) (eqb-true a.0 b.0 e)

      by : reopened.IsMarkedAs (same_node tid.home setting.node) log.committed tid (IsDoubt now setting.node log tid) part → KeepsRecords now log tid part
      by (inl vote) = record {
        involved = λ p. vote.involved;
        undone = λ p commit. undone (same_node tid.home setting.node) (sym vote.outcome ∙ commit);
        aborted = λ p abort. aborted (same_node tid.home setting.node) refl (sym vote.outcome ∙ abort);
        listed = λ e. absurd (cc (sym vote.unlisted ∙ e));
        committed = λ e. absurd (cc (sym vote.unlisted ∙ e));
        has_commit = λ e. absurd (cc (sym vote.unlisted ∙ e));
      }
        where
          undone : (b : Bool) → outcome_before b ≡ Some outcomes.Commit → ⊥
          undone true e = cc e
          undone false e = cc e

          aborted : (b : Bool) → same_node tid.home setting.node ≡ b → outcome_before b ≡ Some outcomes.Abort → HasAborted now tid
          aborted true e _ = vote.so.away (home_is tid.home setting.node e)
          aborted false e none = absurd (cc none)
      by (inr commit) = record {
        involved = λ p. absurd (cc (sym commit.unprepared ∙ p));
        undone = λ p. absurd (cc (sym commit.unprepared ∙ p));
        aborted = λ p. absurd (cc (sym commit.unprepared ∙ p));
        listed = λ e. commit.outcome;
        committed = λ e. r.committed tid commit.among;
        has_commit = λ e. commit.among;
      }

  pub knows : KnowsLog now begins.manager log
  knows = record { rising = all_rise (in_doubt log ++ untold log) (new_manager alloc setting) tt; votes = votes_known; parts = parts_kept }
