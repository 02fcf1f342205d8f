-- How a change of what a node keeps of transactions goes with what clients own, what is committed, and what began here.
use Rattle.qs_world_refine.proofs.Words.{◌≡◌, inl, inr, ◌&&◌, ◌||◌, Bool, true, false, Option, Some, None, is_some, is_none, refl, sym, ap, subst, ◌∙◌, ◌⊎◌, is_at, list_any, same_tid, tid_cmp, Tid, same_node, kept_outcome, was_committed, NodeValue, is_undecided, Manager, Participant, began_here, where_so, same_flag, is_settled, IsCrossed, is_run, or_left, or_right}
use Rattle.qs_base.specs.declared.identifiers.Outcome.{Outcome}
use Rattle.qs_base.specs.declared.identifiers.Outcome.TheVariants as outcomes
use Rattle.qs_tm.specs.Manager as tm
use Rattle.qs_world_refine.proofs.CrossedKept.{Crosses}
use Rattle.qs_world_refine.proofs.Frames.{part_apart}
use Rattle.qs_world_refine.proofs.Others.{put_apart, forget_apart}
use Rattle.qs_world_refine.proofs.PartsAfter.{IsSame, IsChanged, IsPut, changed_seen, put_seen, forgot_seen, told_is, as_told, is_known, as_known, changed_known, put_known}
use Rattle.qs_world_refine.proofs.SoundKnown.{same_is}
use Rattle.qs_world_refine.proofs.SoundParts.{and_both}

-- ---- how a node's change of what it keeps of transactions goes with the rest

-- home and outcome of it stay
pub crosses_part : (node : NodeValue) (tid : Tid) (f : Participant → Participant) → ((part : Participant) → ((f part).engage.home ≡ part.engage.home) × ((f part).outcome ≡ part.outcome)) → IsCrossed node → Crosses node (tm.with_part tid f node.manager)
crosses_part node tid f same is = record {
  begun = refl;
  runs = λ t runs. run t (told_is is_run t node.manager runs);
  knows = λ t here knows. let part : (part : Participant) × (tm.part_of t node.manager ≡ Some part) = is_known t node.manager knows in or_left (tm.knows t (tm.with_part tid f node.manager)) (was_committed t node) (changed_known t tid f node.manager part.0 part.1);
  commits = λ t part now here its. commit t part here its (changed_seen t tid f node.manager part now);
  fresh = λ t part now open_now. free t part open_now (changed_seen t tid f node.manager part now);
  earlier = λ t part now home later. early t part home later (changed_seen t tid f node.manager part now);
}
  where
    new : Manager
    new = tm.with_part tid f node.manager

    early : (t : Tid) (part : Participant) → same_node t.home node.setting.node ≡ true → began_here node t ≡ false → (IsSame t tid node.manager new part ⊎ IsChanged t tid f node.manager part) → is_settled part.outcome (list_any (same_tid t) node.committed) ≡ true
    early t part home later (inl same) = is.earlier t part same.was home later
    early t part home later (inr changed) = subst (λ (o : Option Outcome). is_settled o (list_any (same_tid t) node.committed) ≡ true) (sym (ap (λ (p : Participant). p.outcome) changed.now ∙ (same changed.before).1))
        (is.earlier t changed.before (subst (λ (u : Tid). tm.part_of u node.manager ≡ Some changed.before) (sym changed.same) changed.was) home later)

    running : (home : Bool) (g : Bool) (o u : Option Outcome) → g ≡ home → u ≡ o → (home && is_none o) ≡ true → (g && is_none u) ≡ true
    running home g o u h e is = rw (h, e) is

    run : (t : Tid) → ((part : Participant) × ((tm.part_of t node.manager ≡ Some part) × (is_run part ≡ true))) → tm.told_of t false is_run new ≡ true
    run t part = by (same_tid t tid) refl
      where
        by : (b : Bool) → same_tid t tid ≡ b → tm.told_of t false is_run new ≡ true
        by true is =
            let it : t ≡ tid = same_is t tid is in
            let was : tm.part_of tid node.manager ≡ Some part.0 = subst (λ (u : Tid). tm.part_of u node.manager ≡ Some part.0) it part.1.0 in
            subst (λ (u : Tid). tm.told_of u false is_run new ≡ true) (sym it)
            (as_told is_run tid new (f part.0) (Rattle.qs_world_refine.proofs.Maps.lookup_changed (is_at (tid_cmp tid)) f node.manager.known part.0 was)
            (running part.0.engage.home (f part.0).engage.home part.0.outcome (f part.0).outcome (same part.0).0 (same part.0).1 part.1.1))
        by false apart = as_told is_run t new part.0 (part_apart t tid f node.manager apart ∙ part.1.0) part.1.1

    commit : (t : Tid) (part : Participant) → began_here node t ≡ true → part.outcome ≡ Some outcomes.Commit → (IsSame t tid node.manager new part ⊎ IsChanged t tid f node.manager part) → was_committed t node ≡ true
    commit t part here its (inl same) = is.commits t part same.was here its
    commit t part here its (inr changed) = is.commits t changed.before (subst (λ (u : Tid). tm.part_of u node.manager ≡ Some changed.before) (sym changed.same) changed.was) here
        (sym (same changed.before).1 ∙ (ap (λ (p : Participant). p.outcome) (sym changed.now) ∙ its))

    free : (t : Tid) (part : Participant) → part.outcome ≡ None → (IsSame t tid node.manager new part ⊎ IsChanged t tid f node.manager part) → kept_outcome t node ≡ None
    free t part open_now (inl same) = is.fresh t part same.was open_now
    free t part open_now (inr changed) = is.fresh t changed.before (subst (λ (u : Tid). tm.part_of u node.manager ≡ Some changed.before) (sym changed.same) changed.was)
        (sym (same changed.before).1 ∙ (ap (λ (p : Participant). p.outcome) (sym changed.now) ∙ open_now))

-- of a transaction of another home the outcome may change
pub crosses_away : (node : NodeValue) (tid : Tid) (f : Participant → Participant) → same_node tid.home node.setting.node ≡ false → ((part : Participant) → tm.part_of tid node.manager ≡ Some part → part.engage.home ≡ false)
    → ((part : Participant) → is_some (f part).outcome ≡ true) → IsCrossed node → Crosses node (tm.with_part tid f node.manager)
crosses_away node tid f away off decides is = record {
  begun = refl;
  runs = λ t runs. run t (told_is is_run t node.manager runs) (same_tid t tid) refl;
  knows = λ t here knows. let part : (part : Participant) × (tm.part_of t node.manager ≡ Some part) = is_known t node.manager knows in or_left (tm.knows t (tm.with_part tid f node.manager)) (was_committed t node) (changed_known t tid f node.manager part.0 part.1);
  commits = λ t part now here its. commit t part here its (changed_seen t tid f node.manager part now);
  fresh = λ t part now open_now. free t part open_now (changed_seen t tid f node.manager part now);
  earlier = λ t part now home later. early t part home later (changed_seen t tid f node.manager part now);
}
  where
    new : Manager
    new = tm.with_part tid f node.manager

    early : (t : Tid) (part : Participant) → same_node t.home node.setting.node ≡ true → began_here node t ≡ false → (IsSame t tid node.manager new part ⊎ IsChanged t tid f node.manager part) → is_settled part.outcome (list_any (same_tid t) node.committed) ≡ true
    early t part home later (inl same) = is.earlier t part same.was home later
    early t part home later (inr changed) = absurd (let at : same_node tid.home node.setting.node ≡ true = subst (λ (u : Tid). same_node u.home node.setting.node ≡ true) changed.same home in cc (at, away))

    run : (t : Tid) → ((part : Participant) × ((tm.part_of t node.manager ≡ Some part) × (is_run part ≡ true))) → (b : Bool) → same_tid t tid ≡ b → tm.told_of t false is_run new ≡ true
    run t part true is = absurd (
        let home : part.0.engage.home ≡ false = off part.0 (subst (λ (u : Tid). tm.part_of u node.manager ≡ Some part.0) (same_is t tid is) part.1.0) in
        let on : part.0.engage.home ≡ true = (and_both part.0.engage.home (is_undecided part.0) part.1.1).0 in cc (home, on))
    run t part false apart = as_told is_run t new part.0 (part_apart t tid f node.manager apart ∙ part.1.0) part.1.1

    commit : (t : Tid) (part : Participant) → began_here node t ≡ true → part.outcome ≡ Some outcomes.Commit → (IsSame t tid node.manager new part ⊎ IsChanged t tid f node.manager part) → was_committed t node ≡ true
    commit t part here its (inl same) = is.commits t part same.was here its
    commit t part here its (inr changed) = absurd (
        let homed : same_node t.home node.setting.node ≡ true = (and_both (same_node t.home node.setting.node) _ here).0 in
        let at : same_node tid.home node.setting.node ≡ true = subst (λ (u : Tid). same_node u.home node.setting.node ≡ true) changed.same homed in cc (at, away))

    free : (t : Tid) (part : Participant) → part.outcome ≡ None → (IsSame t tid node.manager new part ⊎ IsChanged t tid f node.manager part) → kept_outcome t node ≡ None
    free t part open_now (inl same) = is.fresh t part same.was open_now
    free t part open_now (inr changed) = absurd (
        let some : is_some part.outcome ≡ true = ap (λ (p : Participant). is_some p.outcome) changed.now ∙ decides changed.before in
        let none : is_some part.outcome ≡ false = ap (λ (o : Option Outcome). is_some o) open_now in cc (some, none))

-- one becomes known that is not committed
pub crosses_put : (node : NodeValue) (tid : Tid) (new : Participant) → tm.part_of tid node.manager ≡ None → (new.outcome ≡ Some outcomes.Commit → was_committed tid node ≡ true) → (new.outcome ≡ None → kept_outcome tid node ≡ None)
    → (same_node tid.home node.setting.node ≡ true → is_settled new.outcome (list_any (same_tid tid) node.committed) ≡ true) → IsCrossed node → Crosses node (tm.put_part tid new node.manager)
crosses_put node tid new none commits fresh settled is = record {
  begun = refl;
  runs = λ t runs. run t (told_is is_run t node.manager runs) (same_tid t tid) refl;
  knows = λ t here knows. let part : (part : Participant) × (tm.part_of t node.manager ≡ Some part) = is_known t node.manager knows in or_left (tm.knows t (tm.put_part tid new node.manager)) (was_committed t node) (put_known t tid new node.manager part.0 part.1);
  commits = λ t part now here its. commit t part here its (put_seen t tid new node.manager part now);
  fresh = λ t part now open_now. free t part open_now (put_seen t tid new node.manager part now);
  earlier = λ t part now home later. early t part home later (put_seen t tid new node.manager part now);
}
  where
    after : Manager
    after = tm.put_part tid new node.manager

    early : (t : Tid) (part : Participant) → same_node t.home node.setting.node ≡ true → began_here node t ≡ false → (IsSame t tid node.manager after part ⊎ IsPut t tid new part) → is_settled part.outcome (list_any (same_tid t) node.committed) ≡ true
    early t part home later (inl same) = is.earlier t part same.was home later
    early t part home later (inr put) = subst (λ (u : Tid). is_settled part.outcome (list_any (same_tid u) node.committed) ≡ true) (sym put.same)
        (subst (λ (p : Participant). is_settled p.outcome (list_any (same_tid tid) node.committed) ≡ true) (sym put.now) (settled (subst (λ (u : Tid). same_node u.home node.setting.node ≡ true) put.same home)))

    run : (t : Tid) → ((part : Participant) × ((tm.part_of t node.manager ≡ Some part) × (is_run part ≡ true))) → (b : Bool) → same_tid t tid ≡ b → tm.told_of t false is_run after ≡ true
    run t part true is = absurd (let was : tm.part_of tid node.manager ≡ Some part.0 = subst (λ (u : Tid). tm.part_of u node.manager ≡ Some part.0) (same_is t tid is) part.1.0 in cc (was, none))
    run t part false apart = as_told is_run t after part.0 (put_apart t tid new node.manager apart ∙ part.1.0) part.1.1

    commit : (t : Tid) (part : Participant) → began_here node t ≡ true → part.outcome ≡ Some outcomes.Commit → (IsSame t tid node.manager after part ⊎ IsPut t tid new part) → was_committed t node ≡ true
    commit t part here its (inl same) = is.commits t part same.was here its
    commit t part here its (inr put) = subst (λ (u : Tid). was_committed u node ≡ true) (sym put.same) (commits (ap (λ (p : Participant). p.outcome) (sym put.now) ∙ its))

    free : (t : Tid) (part : Participant) → part.outcome ≡ None → (IsSame t tid node.manager after part ⊎ IsPut t tid new part) → kept_outcome t node ≡ None
    free t part open_now (inl same) = is.fresh t part same.was open_now
    free t part open_now (inr put) = subst (λ (u : Tid). kept_outcome u node ≡ None) (sym put.same) (fresh (ap (λ (p : Participant). p.outcome) (sym put.now) ∙ open_now))

-- one is forgotten that does not run here, and that began elsewhere or is committed
pub crosses_forgot : (node : NodeValue) (tid : Tid) → Rattle.qs_world_refine.specs.Sound.in_order node.manager.known ≡ true → tm.told_of tid false is_run node.manager ≡ false → (began_here node tid ≡ true → was_committed tid node ≡ true)
    → IsCrossed node → Crosses node (tm.forget tid node.manager)
crosses_forgot node tid ordered idle past is = record {
  begun = refl;
  runs = λ t runs. run t runs (same_tid t tid) refl;
  knows = λ t here knows. know t here (is_known t node.manager knows) (same_tid t tid) refl;
  commits = λ t part now here its. is.commits t part (forgot_seen t tid node.manager part ordered now).was here its;
  fresh = λ t part now open_now. is.fresh t part (forgot_seen t tid node.manager part ordered now).was open_now;
  earlier = λ t part now home later. is.earlier t part (forgot_seen t tid node.manager part ordered now).was home later;
}
  where
    after : Manager
    after = tm.forget tid node.manager

    run : (t : Tid) → tm.told_of t false is_run node.manager ≡ true → (b : Bool) → same_tid t tid ≡ b → tm.told_of t false is_run after ≡ true
    run t runs true is = absurd (let on : tm.told_of tid false is_run node.manager ≡ true = subst (λ (u : Tid). tm.told_of u false is_run node.manager ≡ true) (same_is t tid is) runs in cc (on, idle))
    run t runs false apart = let part : (part : Participant) × ((tm.part_of t node.manager ≡ Some part) × (is_run part ≡ true)) = told_is is_run t node.manager runs in as_told is_run t after part.0 (forget_apart t tid node.manager apart ∙ part.1.0) part.1.1

    know : (t : Tid) → began_here node t ≡ true → ((part : Participant) × (tm.part_of t node.manager ≡ Some part)) → (b : Bool) → same_tid t tid ≡ b → (tm.knows t after || was_committed t node) ≡ true
    know t here part true is = or_right (tm.knows t after) (was_committed t node) (subst (λ (u : Tid). was_committed u node ≡ true) (sym (same_is t tid is)) (past (subst (λ (u : Tid). began_here node u ≡ true) (same_is t tid is) here)))
    know t here part false apart = or_left (tm.knows t after) (was_committed t node) (as_known t after part.0 (forget_apart t tid node.manager apart ∙ part.1))
