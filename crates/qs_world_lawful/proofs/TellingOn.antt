-- A Told comes to the home: who took a commit in is noted, and all of it is forgotten once each did; those that an abort names are told.
use Rattle.qs_world_lawful.proofs.Words.{◌≡◌, ℕ, Bool, true, false, List, [], ◌∷◌, Option, Some, None, refl, cond, if◌then◌else◌, list_any, lookup, set_value, is_at, Ordering, tid_cmp, NodeNo, Outcome, Tid, listed, same_node, IsBelow, IsRising, BookValue, log, Work, here, with_manager, end_told, is_other_node, keep_abort_told, take_names, take_told, told_at_home, told_came, told_known, told_unknown, Participant, HoldsWork, IsAborted}
use Rattle.qs_base.specs.declared.identifiers.Outcome.TheVariants as outcomes
use Rattle.qs_packet.specs.declared.message.Message.TheVariants as messages
use Rattle.qs_record.specs.declared.record.Record.TheVariants as records
use Rattle.qs_tm.specs.Manager as tm
use Rattle.qs_tm.specs.Outcomes as outcome_rules
use Rattle.qs_world_lawful.proofs.Asking.{by_send_each}
use Rattle.qs_world_lawful.proofs.Bare.{by_bare, by_log}
use Rattle.qs_world_lawful.proofs.Faces.{part_changed}
use Rattle.qs_world_lawful.proofs.Forgetting.{by_forget}
use Rattle.qs_world_lawful.proofs.ServingNext.{found_of}
use Rattle.qs_world_lawful.proofs.Tellings.{by_keep_told}

-- a value that is changed leaves the keys
module _ {K V : Type 0} (cmp : K → K → Ordering) (p : K → Bool) where
  set_below : (k : K) (v : V) (es : List (K × V)) → IsBelow cmp k es → IsBelow cmp k (set_value p es v)
  set_below k v [] below = below
  set_below k v (e ∷ es) below = by (p e.0) (set_below k v es below.1)
    where
      by : (b : Bool) → IsBelow cmp k (set_value p es v) → IsBelow cmp k (cond b ((e.0, v) ∷ es) (e ∷ set_value p es v))
      by true more = (below.0, below.1)
      by false more = (below.0, more)

  set_rises : (v : V) (es : List (K × V)) → IsRising cmp es → IsRising cmp (set_value p es v)
  set_rises v [] rising = rising
  set_rises v (e ∷ es) rising = by (p e.0) (set_rises v es rising.1)
    where
      by : (b : Bool) → IsRising cmp (set_value p es v) → IsRising cmp (cond b ((e.0, v) ∷ es) (e ∷ set_value p es v))
      by true more = (rising.0, rising.1)
      by false more = (set_below e.0 v es rising.0, more)

  pub changed_rises : (f : V → V) (es : List (K × V)) → IsRising cmp es → IsRising cmp (tm.changed_value p f es)
  changed_rises f es rising = by (lookup p es)
    where
      by : (o : Option V) → IsRising cmp (elim o [ None ↦ es | Some v ↦ set_value p es (f v) ])
      by None = rising
      by (Some v) = set_rises (f v) es rising

module _ (stamp : ℕ) (before : BookValue) (tid : Tid) (peer : NodeNo) (further : List NodeNo) where
  named : (work : Work) → HoldsWork stamp before work → HoldsWork stamp before (take_names tid further work)
  named work h = by_send_each stamp before (with_manager (tm.take_names tid further) work) (listed (tm.new_names tid further work.node.manager)) (messages.Tell tid outcomes.Abort)
      (by_bare stamp before work tid (outcome_rules.take_names tid.home further) (λ p. refl) h)

  module _ (work : Work) (h : HoldsWork stamp before work) where
    -- the commit was taken in by that node; nothing is known of it once all did
    taken : (part : Participant) → tm.part_of tid work.node.manager ≡ Some part → part.outcome ≡ Some outcomes.Commit → IsRising tid_cmp work.node.manager.known → HoldsWork stamp before (take_told peer tid work)
    taken part known committed rising = by (tm.all_acknowledged tid peer work.node.manager)
      where
        h_noted : HoldsWork stamp before (with_manager (tm.acknowledged tid peer) work)
        h_noted = by_bare stamp before work tid (outcome_rules.acknowledged peer) (λ p. refl) h

        h_logged : HoldsWork stamp before (log (records.End tid) (with_manager (tm.acknowledged tid peer) work))
        h_logged = by_log stamp before (with_manager (tm.acknowledged tid peer) work) (records.End tid) h_noted

        known_then : tm.part_of tid (log (records.End tid) (with_manager (tm.acknowledged tid peer) work)).node.manager ≡ Some (outcome_rules.logged (records.End tid) (outcome_rules.acknowledged peer part))
        known_then = part_changed tid (outcome_rules.logged (records.End tid)) (tm.acknowledged tid peer work.node.manager) (outcome_rules.acknowledged peer part) (part_changed tid (outcome_rules.acknowledged peer) work.node.manager part known)

        by : (b : Bool) → HoldsWork stamp before (end_told b tid (with_manager (tm.acknowledged tid peer) work))
        by false = h_noted
        by true =
            let tx = found_of stamp before (log (records.End tid) (with_manager (tm.acknowledged tid peer) work)) h_logged tid (outcome_rules.logged (records.End tid) (outcome_rules.acknowledged peer part)) known_then in
            by_forget stamp before (log (records.End tid) (with_manager (tm.acknowledged tid peer) work)) h_logged tid (outcome_rules.logged (records.End tid) (outcome_rules.acknowledged peer part)) known_then committed
            (changed_rises tid_cmp (is_at (tid_cmp tid)) (outcome_rules.logged (records.End tid)) (tm.acknowledged tid peer work.node.manager).known (changed_rises tid_cmp (is_at (tid_cmp tid)) (outcome_rules.acknowledged peer) work.node.manager.known rising))
            tx.0 tx.1

    pub by_told_came : (tm.part_of tid work.node.manager ≡ None → list_any (is_other_node tid) further ≡ true → IsAborted stamp before work tid) → IsRising tid_cmp work.node.manager.known → HoldsWork stamp before (told_came peer tid further work)
    by_told_came aborted rising = at_home (same_node tid.home (here work))
      where
        unknown : tm.part_of tid work.node.manager ≡ None → (b : Bool) → list_any (is_other_node tid) further ≡ b → HoldsWork stamp before (if b then take_names tid further (keep_abort_told tid peer work) else work)
        unknown none true names = named (keep_abort_told tid peer work) (by_keep_told stamp before work h tid peer (λ is. aborted is names))
        unknown none false names = h

        known : (part : Participant) → tm.part_of tid work.node.manager ≡ Some part → (o : Option Outcome) → part.outcome ≡ o → HoldsWork stamp before (told_known peer tid further o work)
        known part is None so = h
        known part is (Some outcomes.Commit) so = taken part is so rising
        known part is (Some outcomes.Abort) so = named work h

        by : (o : Option Participant) → tm.part_of tid work.node.manager ≡ o → HoldsWork stamp before (elim o [ None ↦ told_unknown peer tid further work | Some part ↦ told_known peer tid further part.outcome work ])
        by None is = unknown is (list_any (is_other_node tid) further) refl
        by (Some part) is = known part is part.outcome refl

        at_home : (b : Bool) → HoldsWork stamp before (if b then told_at_home peer tid further work else work)
        at_home true = by (tm.part_of tid work.node.manager) refl
        at_home false = h
