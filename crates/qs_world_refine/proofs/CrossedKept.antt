-- What a client owns is decided or runs here, what is committed is kept so, and what began here is known or committed: so it stays through each change.
use Rattle.qs_world_refine.proofs.Words.{◌≡◌, inl, inr, ℕ, ◌≤◌, ◌||◌, not, Bool, true, false, List, [], ◌∷◌, ◌++◌, Option, Some, None, is_some, refl, sym, ap, subst, ◌∙◌, arith, if◌then◌else◌, nat_tests, ◌⊎◌, find, list_all, list_any, same_tid, Tid, same_node, is_outcome_of, Decided, Cause, kept_outcome, was_committed, is_kept_commit, NodeValue, Manager, Participant, began_here, is_owned, is_owned_label, is_settled, IsCrossed, is_run, or_left, or_right, or_cases}
use Rattle.qs_base.specs.declared.identifiers.Outcome.{Outcome}
use Rattle.qs_base.specs.declared.identifiers.Outcome.TheVariants as outcomes
use Rattle.qs_node_kept.specs.declared.kept.KeptLabel.{KeptLabel}
use Rattle.qs_tm.specs.Manager as tm
use Rattle.qs_world_refine.specs.Tidy.{KeepsEarlier}
use Rattle.qs_world_refine.proofs.SoundBegin.{all_implied}

-- the labels stay owned where each transaction of one stays decided, or runs still
pub owned_on : (old new : NodeValue) → ((t : Tid) → is_owned old t ≡ true → is_owned new t ≡ true) → (labels : List KeptLabel) → list_all (is_owned_label old) labels ≡ true → list_all (is_owned_label new) labels ≡ true
owned_on old new more labels all = all_implied (is_owned_label old) (is_owned_label new) each labels all
  where
    by : (a : Bool) (o : Option Tid) → (not a || elim o [ None ↦ true | Some tid ↦ is_owned old tid ]) ≡ true → (not a || elim o [ None ↦ true | Some tid ↦ is_owned new tid ]) ≡ true
    by true None is = refl
    by true (Some tid) is = more tid is
    by false o is = refl

    each : (begun : KeptLabel) → is_owned_label old begun ≡ true → is_owned_label new begun ≡ true
    each begun is = by (is_some begun.owner) begun.tid is

-- ---- what is kept of transactions is changed alone

-- how a change of the manager goes with the rest of the node
pub record Crosses (node : NodeValue) (m : Manager) : Type 0 where
  pub begun : m.begun ≡ node.manager.begun
  pub runs : (t : Tid) → tm.told_of t false is_run node.manager ≡ true → tm.told_of t false is_run m ≡ true
  pub knows : (t : Tid) → began_here node t ≡ true → tm.knows t node.manager ≡ true → (tm.knows t m || was_committed t node) ≡ true
  pub commits : (t : Tid) (part : Participant) → tm.part_of t m ≡ Some part → began_here node t ≡ true → part.outcome ≡ Some outcomes.Commit → was_committed t node ≡ true
  pub fresh : (t : Tid) (part : Participant) → tm.part_of t m ≡ Some part → part.outcome ≡ None → kept_outcome t node ≡ None
  pub earlier : KeepsEarlier (record node { manager = m })

pub crossed_manager : (node : NodeValue) (m : Manager) → Crosses node m → IsCrossed node → IsCrossed (record node { manager = m })
crossed_manager node m change is = record {
  owned = owned_on node (record node { manager = m }) runs node.kept.now.labels is.owned;
  commits = change.commits;
  fresh = change.fresh;
  pasts = λ t here names low. past t here (is.pasts t here names (subst (λ (n : ℕ). t.seq ≤ n) change.begun low));
  earlier = change.earlier;
}
  where
    runs : (t : Tid) → is_owned node t ≡ true → is_owned (record node { manager = m }) t ≡ true
    runs t owned = by (is_some (kept_outcome t node)) owned
      where
        by : (b : Bool) → (b || tm.told_of t false is_run node.manager) ≡ true → (b || tm.told_of t false is_run m) ≡ true
        by true owned = refl
        by false owned = change.runs t owned

    past : (t : Tid) → began_here node t ≡ true → (tm.knows t node.manager || was_committed t node) ≡ true → (tm.knows t m || was_committed t node) ≡ true
    past t here was = by (or_cases (tm.knows t node.manager) (was_committed t node) was)
      where
        by : ((tm.knows t node.manager ≡ true) ⊎ (was_committed t node ≡ true)) → (tm.knows t m || was_committed t node) ≡ true
        by (inl knows) = change.knows t here knows
        by (inr committed) = or_right (tm.knows t m) (was_committed t node) committed

-- ---- an outcome is kept too

find_last : (t : Tid) (ds : List Decided) (d : Decided) (o : Option Decided) → find (is_outcome_of t) ds ≡ o → find (is_outcome_of t) (ds ++ d ∷ []) ≡ elim o [ None ↦ (if is_outcome_of t d then Some d else None) | Some x ↦ Some x ]
find_last t [] d None is = refl
find_last t [] d (Some x) is = absurd (cc (is))
find_last t (e ∷ ds) d o is = by (is_outcome_of t e) refl (find_last t ds d o)
  where
    by : (b : Bool) → is_outcome_of t e ≡ b → (find (is_outcome_of t) ds ≡ o → find (is_outcome_of t) (ds ++ d ∷ []) ≡ elim o [ None ↦ (if is_outcome_of t d then Some d else None) | Some x ↦ Some x ])
        → find (is_outcome_of t) ((e ∷ ds) ++ d ∷ []) ≡ elim o [ None ↦ (if is_outcome_of t d then Some d else None) | Some x ↦ Some x ]
    by true it more = let value : Some e ≡ o = rw it at is in rw it (subst (λ (x : Option Decided). Some e ≡ elim x [ None ↦ (if is_outcome_of t d then Some d else None) | Some y ↦ Some y ]) value refl)
    by false it more = rw it (more (rw it at is))

-- a node that keeps one outcome more, of that transaction
module _ (node : NodeValue) (tid : Tid) (outcome : Outcome) (cause : Option Cause) where
  abbrev decided : Decided
  decided = record { tid = tid; outcome = outcome; cause = cause }

  abbrev with_outcome : Manager → NodeValue
  with_outcome m = record node { manager = m; kept = record node.kept { now = record node.kept.now { outcomes = node.kept.now.outcomes ++ decided ∷ [] } } }

  kept_still : (m : Manager) (t : Tid) (x : Decided) → kept_outcome t node ≡ Some x → kept_outcome t (with_outcome m) ≡ Some x
  kept_still m t x is = find_last t node.kept.now.outcomes decided (Some x) is

  kept_apart : (m : Manager) (t : Tid) → same_tid t tid ≡ false → kept_outcome t node ≡ None → kept_outcome t (with_outcome m) ≡ None
  kept_apart m t apart is = find_last t node.kept.now.outcomes decided None is ∙ (rw apart refl)

  kept_now : (m : Manager) → kept_outcome tid node ≡ None → kept_outcome tid (with_outcome m) ≡ Some decided
  kept_now m is = find_last tid node.kept.now.outcomes decided None is ∙ itself
    where
      itself : (if same_tid tid tid then Some decided else None) ≡ Some decided
      itself = let same : same_tid tid tid ≡ true = grind (arith, nat_tests) in rw same refl

  committed_still : (m : Manager) (t : Tid) → was_committed t node ≡ true → was_committed t (with_outcome m) ≡ true
  committed_still m t is = by (kept_outcome t node) refl is
    where
      by : (o : Option Decided) → kept_outcome t node ≡ o → (is_kept_commit o || list_any (same_tid t) node.committed) ≡ true → was_committed t (with_outcome m) ≡ true
      by None none is = or_right (is_kept_commit (kept_outcome t (with_outcome m))) (list_any (same_tid t) node.committed) is
      by (Some x) kept is = subst (λ (o : Option Decided). (is_kept_commit o || list_any (same_tid t) node.committed) ≡ true) (sym (kept_still m t x kept)) is

  some_kept : (m : Manager) (t : Tid) → is_some (kept_outcome t node) ≡ true → is_some (kept_outcome t (with_outcome m)) ≡ true
  some_kept m t is = by (kept_outcome t node) refl is
    where
      by : (o : Option Decided) → kept_outcome t node ≡ o → is_some o ≡ true → is_some (kept_outcome t (with_outcome m)) ≡ true
      by None none is = absurd (cc (is))
      by (Some x) kept is = ap (λ (o : Option Decided). is_some o) (kept_still m t x kept)

  -- it is kept, whatever was kept before
  kept_it : (m : Manager) → is_some (kept_outcome tid (with_outcome m)) ≡ true
  kept_it m = by (kept_outcome tid node) refl
    where
      by : (o : Option Decided) → kept_outcome tid node ≡ o → is_some (kept_outcome tid (with_outcome m)) ≡ true
      by None none = ap (λ (o : Option Decided). is_some o) (kept_now m none)
      by (Some x) kept = ap (λ (o : Option Decided). is_some o) (kept_still m tid x kept)

  -- how the change of the manager goes with it
  pub record Decides (m : Manager) : Type 0 where
    pub begun : m.begun ≡ node.manager.begun
    pub runs : (t : Tid) → same_tid t tid ≡ false → tm.told_of t false is_run node.manager ≡ true → tm.told_of t false is_run m ≡ true
    pub knows : (t : Tid) → tm.knows t node.manager ≡ true → tm.knows t m ≡ true
    pub others : (t : Tid) (part : Participant) → same_tid t tid ≡ false → tm.part_of t m ≡ Some part → tm.part_of t node.manager ≡ Some part
    pub its : (part : Participant) → tm.part_of tid m ≡ Some part → part.outcome ≡ Some outcome
    pub new : outcome ≡ outcomes.Commit → kept_outcome tid node ≡ None
    pub here : outcome ≡ outcomes.Commit → same_node tid.home node.setting.node ≡ true → began_here node tid ≡ false → ⊥

  pub crossed_decided : (m : Manager) → Decides m → IsCrossed node → IsCrossed (with_outcome m)
  crossed_decided m change is = record {
    owned = owned_on node (with_outcome m) owns node.kept.now.labels is.owned;
    commits = λ t part known here its. commit t part known here its (same_tid t tid) refl;
    fresh = λ t part known open_now. free t part known open_now (same_tid t tid) refl;
    pasts = λ t here names low. past t (or_cases (tm.knows t node.manager) (was_committed t node) (is.pasts t here names (subst (λ (n : ℕ). t.seq ≤ n) change.begun low)));
    earlier = λ t part known home later. early t part known home later (same_tid t tid) refl;
  }
    where
      settled : (o : Outcome) (b : Bool) → (o ≡ outcomes.Commit → ⊥) → is_settled (Some o) b ≡ true
      settled outcomes.Commit b never = absurd (never refl)
      settled outcomes.Abort b never = refl

      early : (t : Tid) (part : Participant) → tm.part_of t m ≡ Some part → same_node t.home node.setting.node ≡ true → began_here node t ≡ false → (b : Bool) → same_tid t tid ≡ b → is_settled part.outcome (list_any (same_tid t) node.committed) ≡ true
      early t part known home later true same =
          let it : t ≡ tid = Rattle.qs_world_refine.proofs.SoundKnown.same_is t tid same in
          subst (λ (o : Option Outcome). is_settled o (list_any (same_tid t) node.committed) ≡ true) (sym (change.its part (subst (λ (u : Tid). tm.part_of u m ≡ Some part) it known)))
          (settled outcome (list_any (same_tid t) node.committed) (λ so. change.here so (subst (λ (u : Tid). same_node u.home node.setting.node ≡ true) it home) (subst (λ (u : Tid). began_here node u ≡ false) it later)))
      early t part known home later false apart = is.earlier t part (change.others t part apart known) home later

      owns : (t : Tid) → is_owned node t ≡ true → is_owned (with_outcome m) t ≡ true
      owns t owned = by (or_cases (is_some (kept_outcome t node)) (tm.told_of t false is_run node.manager) owned) (same_tid t tid) refl
        where
          by : ((is_some (kept_outcome t node) ≡ true) ⊎ (tm.told_of t false is_run node.manager ≡ true)) → (b : Bool) → same_tid t tid ≡ b → is_owned (with_outcome m) t ≡ true
          by (inl kept) b same = or_left (is_some (kept_outcome t (with_outcome m))) (tm.told_of t false is_run m) (some_kept m t kept)
          by (inr runs) true same = or_left (is_some (kept_outcome t (with_outcome m))) (tm.told_of t false is_run m)
              (subst (λ (u : Tid). is_some (kept_outcome u (with_outcome m)) ≡ true) (sym (Rattle.qs_world_refine.proofs.SoundKnown.same_is t tid same)) (kept_it m))
          by (inr runs) false apart = or_right (is_some (kept_outcome t (with_outcome m))) (tm.told_of t false is_run m) (change.runs t apart runs)

      decided_commit : outcome ≡ outcomes.Commit → was_committed tid (with_outcome m) ≡ true
      decided_commit so = or_left (is_kept_commit (kept_outcome tid (with_outcome m))) (list_any (same_tid tid) node.committed)
          (ap (λ (o : Option Decided). is_kept_commit o) (kept_now m (change.new so)) ∙ subst (λ (o : Outcome). elim o [ outcomes.Commit ↦ true | outcomes.Abort ↦ false ] ≡ true) (sym so) refl)

      commit : (t : Tid) (part : Participant) → tm.part_of t m ≡ Some part → began_here node t ≡ true → part.outcome ≡ Some outcomes.Commit → (b : Bool) → same_tid t tid ≡ b → was_committed t (with_outcome m) ≡ true
      commit t part known here its true same =
          let it : t ≡ tid = Rattle.qs_world_refine.proofs.SoundKnown.same_is t tid same in
          let at : part.outcome ≡ Some outcome = change.its part (subst (λ (u : Tid). tm.part_of u m ≡ Some part) it known) in
          let value : Some outcome ≡ Some outcomes.Commit = sym at ∙ its in
          subst (λ (u : Tid). was_committed u (with_outcome m) ≡ true) (sym it) (decided_commit (cc (value)))
      commit t part known here its false apart = committed_still m t (is.commits t part (change.others t part apart known) here its)

      free : (t : Tid) (part : Participant) → tm.part_of t m ≡ Some part → part.outcome ≡ None → (b : Bool) → same_tid t tid ≡ b → kept_outcome t (with_outcome m) ≡ None
      free t part known open_now true same = absurd (
          let at : part.outcome ≡ Some outcome = change.its part (subst (λ (u : Tid). tm.part_of u m ≡ Some part) (Rattle.qs_world_refine.proofs.SoundKnown.same_is t tid same) known) in cc (at, open_now))
      free t part known open_now false apart = kept_apart m t apart (is.fresh t part (change.others t part apart known) open_now)

      past : (t : Tid) → ((tm.knows t node.manager ≡ true) ⊎ (was_committed t node ≡ true)) → (tm.knows t m || was_committed t (with_outcome m)) ≡ true
      past t (inl knows) = or_left (tm.knows t m) (was_committed t (with_outcome m)) (change.knows t knows)
      past t (inr committed) = or_right (tm.knows t m) (was_committed t (with_outcome m)) (committed_still m t committed)
