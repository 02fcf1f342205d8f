-- As an incarnation begins, nothing waits at its node, nothing of it is lent there, and its home has decided what it finds in its log.
use Rattle.qs_world_runs.proofs.Words.{◌≡◌, ◌⊎◌, inl, inr, ℕ, ◌==◌, ◌&&◌, not, arith, Bool, true, false, List, [], ◌∷◌, ◌++◌, length, fold, Option, Some, None, refl, sym, ap, subst, ◌∙◌, if◌then◌else◌, Global, list_all, list_any, is_some, tid_total, same_tid, tid_cmp, NodeNo, ServerNo, Tid, same_node, is_standing_loan, Lent, IsRising, put_rises, Record, Recovered, new_manager, take_up, Setting, committed_before, voted_before, new_participant, Manager, Participant, same_or_apart, each_changed}
use Rattle.qs_world_runs.proofs.Words.{put_there, clash, of_some, AreTallied, NoneBesides, tally_of, and_parts}
use Rattle.qs_node_kept.specs.declared.kept.Kept.{Kept}
use Rattle.qs_record.specs.declared.record.Record.TheVariants as records
use Rattle.qs_node_step.specs.Opening.{opened_node}
use Rattle.qs_tm.specs.Manager as tm
use Rattle.qs_world_refine.specs.Sound.{is_loan_before}
use Rattle.qs_world_lawful.proofs.Apart.{Apart}
use Rattle.qs_world_lawful.proofs.Faces.{put_apart}
use Rattle.qs_world_lawful.proofs.FreshLog.{all_taken}
use Rattle.qs_world_lawful.proofs.Marks.{changed_rises}
use Rattle.std.proofs.lemmas.Bool.{or_from}
use Rattle.qs_base_lemmas.proofs.Tests.{ltb_apart}

-- ---- what is taken up from the log

record IsFound (me : NodeNo) (tid : Tid) (part : Participant) : Type 0 where
  homed : part.engage.home ≡ same_node tid.home me
  decided : part.engage.home ≡ true → part.outcome ≡ None → ⊥
  unasked : part.asked ≡ false

record AreFound (me : NodeNo) (m : Manager) : Type 0 where
  at : m.node ≡ me
  rising : IsRising tid_cmp m.known
  each : (tid : Tid) (part : Participant) → tm.part_of tid m ≡ Some part → IsFound me tid part

-- it is of its home, and not asked
record IsPlaced (me : NodeNo) (tid : Tid) (part : Participant) : Type 0 where
  homed : part.engage.home ≡ same_node tid.home me
  unasked : part.asked ≡ false

module _ (me : NodeNo) (tid : Tid) (m : Manager) (h : AreFound me m) where
  home_is : tm.is_home tid m ≡ same_node tid.home me
  home_is = ap (same_node tid.home) h.at

  record IsMet (n : Manager) : Type 0 where
    at : n.node ≡ me
    rising : IsRising tid_cmp n.known
    others : (t : Tid) (p : Participant) → Apart tid t → tm.part_of t n ≡ Some p → IsFound me t p
    its : (p : Participant) → tm.part_of tid n ≡ Some p → IsPlaced me tid p

  met : IsMet (tm.meet tid m)
  met = by (tm.part_of tid m) refl
    where
      by : (o : Option Participant) → tm.part_of tid m ≡ o → IsMet (if is_some o then m else tm.put_part tid (new_participant (tm.is_home tid m)) m)
      by (Some part) known = record { at = h.at; rising = h.rising; others = λ t p far is. h.each t p is; its = λ p is. record { homed = (h.each tid p is).homed; unasked = (h.each tid p is).unasked } }
      by None unknown = record {
        at = h.at;
        rising = put_rises tid_cmp tid_total tid (new_participant (tm.is_home tid m)) m.known h.rising;
        others = λ t p far is. h.each t p (sym (put_apart tid t (new_participant (tm.is_home tid m)) m far) ∙ is);
        its = λ p is. subst (IsPlaced me tid) (of_some (sym (put_there tid (new_participant (tm.is_home tid m)) m) ∙ is)) (record { homed = home_is; unasked = refl });
      }

  vote_found : (server : ServerNo) (covers : ℕ) → AreFound me (tm.take_up_vote tid server covers m)
  vote_found server covers = record {
    at = met.at;
    rising = changed_rises tid (voted_before (tm.is_home tid m) server covers) (tm.meet tid m) met.rising;
    each = each_changed tid (voted_before (tm.is_home tid m) server covers) (tm.meet tid m) (IsFound me) met.others (λ p known. record {
      homed = (met.its p known).homed;
      decided = λ home unknown. decided p (tm.is_home tid m) (sym home_is) ((met.its p known).homed) home unknown;
      unasked = (met.its p known).unasked;
    });
  }
    where
      decided : (p : Participant) (b : Bool) → same_node tid.home me ≡ b → p.engage.home ≡ same_node tid.home me → p.engage.home ≡ true → (voted_before b server covers p).outcome ≡ None → ⊥
      decided p true is homed home unknown = cc unknown
      decided p false is homed home unknown = clash (sym is ∙ (sym homed ∙ home))

  commit_found : (told : List NodeNo) → AreFound me (tm.take_up_commit tid told m)
  commit_found told = by (length told == 0)
    where
      part : Participant
      part = committed_before (tm.is_home tid m) told

      its : IsFound me tid part
      its = record { homed = home_is; decided = λ home unknown. cc unknown; unasked = refl }

      put : (t : Tid) (p : Participant) → tm.part_of t (tm.put_part tid part m) ≡ Some p → (tid ≡ t) ⊎ Apart tid t → IsFound me t p
      put t p known (inl e) = subst (λ (x : Tid). IsFound me x p) e (subst (IsFound me tid) (of_some (sym (put_there tid part m) ∙ subst (λ (x : Tid). tm.part_of x (tm.put_part tid part m) ≡ Some p) (sym e) known)) its)
      put t p known (inr far) = h.each t p (sym (put_apart tid t part m far) ∙ known)

      by : (b : Bool) → AreFound me (if b then m else tm.put_part tid part m)
      by true = h
      by false = record { at = h.at; rising = put_rises tid_cmp tid_total tid part m.known h.rising; each = λ t p known. put t p known (same_or_apart tid t) }

all_found : (me : NodeNo) (rs : List Record) (m : Manager) → AreFound me m → AreFound me (fold take_up m rs)
all_found me [] m h = h
all_found me (records.Prepare tid server covers changes ∷ rs) m h = all_found me rs (tm.take_up_vote tid server covers m) (vote_found me tid m h server covers)
all_found me (records.Commit tid told ∷ rs) m h = all_found me rs (tm.take_up_commit tid told m) (commit_found me tid m h told)
all_found me (records.Aborted tid ∷ rs) m h = all_found me rs m h
all_found me (records.End tid ∷ rs) m h = all_found me rs m h

-- ---- loans of earlier incarnations stand no more

old_loans : (inc : ℕ) (tid : Tid) (loans : List Lent) → list_all (is_loan_before inc) loans ≡ true → list_any (is_standing_loan tid inc) loans ≡ false
old_loans inc tid [] before = refl
old_loans inc tid (loan ∷ loans) before = or_from (is_standing_loan tid inc loan) (list_any (is_standing_loan tid inc) loans) (passed (same_tid tid loan.tid) (not loan.yielded) (loan.inc == inc) (ltb_apart loan.inc inc parts.0)) (old_loans inc tid loans parts.1)
  where
    parts : (is_loan_before inc loan ≡ true) × (list_all (is_loan_before inc) loans ≡ true)
    parts = and_parts (is_loan_before inc loan) (list_all (is_loan_before inc) loans) before

    passed : (a b c : Bool) → c ≡ false → (a && (b && c)) ≡ false
    passed true true c e = e
    passed true false c e = refl
    passed false b c e = refl

-- ---- the node of an incarnation

pub opened_tallied : (alloc : Global) (setting : Setting) (found : Recovered) (kept : Kept) → list_all (is_loan_before setting.inc) kept.loans ≡ true → AreTallied NoneBesides (tally_of (opened_node alloc setting found kept))
opened_tallied alloc setting found kept before = record {
  in_inc = (all_taken (found.in_doubt ++ found.untold) (new_manager alloc setting)).inc;
  rising = taken.rising;
  each = λ tid. inr (record { waits = λ s. refl; lent = old_loans setting.inc tid kept.loans before; none = refl });
  runs = λ tid part known home runs. absurd ((taken.each tid part known).decided home runs);
  asked = λ tid part known is. absurd (clash (sym (taken.each tid part known).unasked ∙ is));
  given = λ tid. omega arith;
  besides = λ tid w. absurd w;
}
  where
    taken : AreFound setting.node (fold take_up (new_manager alloc setting) (found.in_doubt ++ found.untold))
    taken = all_found setting.node (found.in_doubt ++ found.untold) (new_manager alloc setting) (record { at = refl; rising = tt; each = λ tid part known. absurd (cc known) })
