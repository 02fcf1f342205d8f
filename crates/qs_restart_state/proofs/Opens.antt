-- Which transactions are not ended in a log, by what recovery keeps of it; and so in the state.
use Rattle.std.proofs.Common.{◌≡◌, ◌∙◌, Bool, true, false, List, [], ◌∷◌, ◌++◌, refl, sym, ap, subst, fold}
use Rattle.std.specs.Prelude.{not, ◌&&◌, ◌||◌, ◌==◌}
use Rattle.std.specs.List.{filter, list_any, list_all}
use Rattle.std.proofs.lemmas.List.Folds.{list_any-append}
use Rattle.std.proofs.lemmas.Bool.{or_from}
use Rattle.qs_base.specs.Order.{same_tid}
use Rattle.qs_base.specs.declared.identifiers.Tid.{Tid}
use Rattle.qs_base.proofs.Same.{same_tid-true}
use Rattle.qs_base.proofs.TidOrder.{or-false, or-true}
use Rattle.qs_base_lemmas.proofs.Tests.{and_first, and_last, implied, or_assoc}
use Rattle.qs_record.specs.declared.record.Record.{Record}
use Rattle.qs_record.specs.declared.record.Record.TheVariants as records
use Rattle.qs_restart.specs.Recovery.{Prepared, Untold, Recovery, is_of, is_vote_of, is_untold_of, mark_committed, nothing_said, found_record, recovery}
use Rattle.qs_restart_state.specs.Open.{EachOpenIsKept, EachStateOpensSame, after, is_kept}
use Rattle.qs_restart_state.specs.States.{is_undecided, state}
use Rattle.qs_restart_state.specs.Taken.{is_waiting}
use Rattle.qs_restart_state.proofs.Lists.{any_filtered, any_mapped, none_left}
use Rattle.qs_restart_state.proofs.Saying.{state_says}
use Rattle.qs_restart_state.proofs.Takable.{may_take}

-- ---- record by record

-- of a vote's transaction
of_other : (tid other : Tid) → same_tid other tid ≡ false → (v : Prepared) → same_tid v.tid other ≡ true → same_tid v.tid tid ≡ false
of_other tid other far v near = ap (λ (x : Tid). same_tid x tid) (same_tid-true v.tid other near) ∙ far

told_other : (tid other : Tid) → same_tid other tid ≡ false → (c : Untold) → same_tid c.tid other ≡ true → same_tid c.tid tid ≡ false
told_other tid other far c near = ap (λ (x : Tid). same_tid x tid) (same_tid-true c.tid other near) ∙ far

ended_kept : (tid other : Tid) (said : Recovery) → (list_any (is_of tid) (filter (λ v. not (is_of other v)) said.prepared) || list_any (is_untold_of tid) (filter (λ c. not (is_untold_of other c)) said.untold)) ≡ (not (same_tid other tid) && is_kept tid said)
ended_kept tid other said = by (same_tid other tid) refl
  where
    by : (b : Bool) → same_tid other tid ≡ b
        → (list_any (is_of tid) (filter (λ v. not (is_of other v)) said.prepared) || list_any (is_untold_of tid) (filter (λ c. not (is_untold_of other c)) said.untold)) ≡ (not b && is_kept tid said)
    by true near = subst (λ (t : Tid). (list_any (is_of t) (filter (λ v. not (is_of other v)) said.prepared) || list_any (is_untold_of t) (filter (λ c. not (is_untold_of other c)) said.untold)) ≡ false) (same_tid-true other tid near)
        (or_from (list_any (is_of other) (filter (λ v. not (is_of other v)) said.prepared)) _ (none_left (is_of other) said.prepared) (none_left (is_untold_of other) said.untold))
    by false far = ap (λ (b : Bool). b || list_any (is_untold_of tid) (filter (λ c. not (is_untold_of other c)) said.untold)) (any_filtered (is_of tid) (is_of other) said.prepared (of_other tid other far))
        ∙ ap (λ (b : Bool). list_any (is_of tid) said.prepared || b) (any_filtered (is_untold_of tid) (is_untold_of other) said.untold (told_other tid other far))

one : (tid : Tid) (said : Recovery) (rec : Record) → after tid (is_kept tid said) rec ≡ is_kept tid (found_record said rec)
one tid said (records.Prepare other server covers changes) = by (same_tid other tid) refl
  where
    v : Prepared
    v = record { tid = other; server = server; covers = covers; changes = changes; committed = false }

    left : List Prepared
    left = filter (λ w. not (is_vote_of other server w)) said.prepared

    by : (b : Bool) → same_tid other tid ≡ b → (b || is_kept tid said) ≡ (list_any (is_of tid) (filter (λ w. not (is_vote_of other server w)) said.prepared ++ record { tid = other; server = server; covers = covers; changes = changes; committed = false } ∷ []) || list_any (is_untold_of tid) said.untold)
    by true near = sym (ap (λ (b : Bool). b || list_any (is_untold_of tid) said.untold) (list_any-append (is_of tid) (filter (λ w. not (is_vote_of other server w)) said.prepared) _ ∙ ap (λ (b : Bool). list_any (is_of tid) (filter (λ w. not (is_vote_of other server w)) said.prepared) || (b || false)) near ∙ or-true (list_any (is_of tid) (filter (λ w. not (is_vote_of other server w)) said.prepared))))
    by false far = sym (ap (λ (b : Bool). b || list_any (is_untold_of tid) said.untold) (list_any-append (is_of tid) (filter (λ w. not (is_vote_of other server w)) said.prepared) _
        ∙ ap (λ (b : Bool). list_any (is_of tid) (filter (λ w. not (is_vote_of other server w)) said.prepared) || (b || false)) far ∙ or-false (list_any (is_of tid) (filter (λ w. not (is_vote_of other server w)) said.prepared))
        ∙ any_filtered (is_of tid) (is_vote_of other server) said.prepared (λ w is. of_other tid other far w (and_first (same_tid w.tid other) (w.server.0 == server.0) is))))
one tid said (records.Commit other []) = sym (ended_kept tid other said)
one tid said (records.Commit other (node ∷ nodes)) =
    by (same_tid other tid) refl ∙ sym (ap (λ (b : Bool). b || list_any (is_untold_of tid) (said.untold ++ record { tid = other; told = node ∷ nodes } ∷ [])) (any_mapped (is_of tid) (mark_committed other) said.prepared keeps))
  where
    keeps : (w : Prepared) → is_of tid (mark_committed other w) ≡ is_of tid w
    keeps w = cases (is_of other w) refl
      where
        cases : (b : Bool) → is_of other w ≡ b → is_of tid (mark_committed other w) ≡ is_of tid w
        cases true is = rw is refl
        cases false is = rw is refl

    assoc : (a b : Bool) → (a || (b || true)) ≡ true
    assoc a b = ap (λ (x : Bool). a || x) (or-true b) ∙ or-true a

    by : (b : Bool) → same_tid other tid ≡ b → (b || is_kept tid said) ≡ (list_any (is_of tid) said.prepared || list_any (is_untold_of tid) (said.untold ++ record { tid = other; told = node ∷ nodes } ∷ []))
    by true near = sym (ap (λ (b : Bool). list_any (is_of tid) said.prepared || b) (list_any-append (is_untold_of tid) said.untold _ ∙ ap (λ (b : Bool). list_any (is_untold_of tid) said.untold || (b || false)) near) ∙ assoc (list_any (is_of tid) said.prepared) (list_any (is_untold_of tid) said.untold))
    by false far = sym (ap (λ (b : Bool). list_any (is_of tid) said.prepared || b) (list_any-append (is_untold_of tid) said.untold _ ∙ ap (λ (b : Bool). list_any (is_untold_of tid) said.untold || (b || false)) far ∙ or-false (list_any (is_untold_of tid) said.untold)))
one tid said (records.Aborted other) = sym (ended_kept tid other said)
one tid said (records.End other) = sym (ended_kept tid other said)

all_of : (tid : Tid) (said : Recovery) (log : List Record) → fold (after tid) (is_kept tid said) log ≡ is_kept tid (fold found_record said log)
all_of tid said [] = refl
all_of tid said (rec ∷ log) = ap (λ (b : Bool). fold (after tid) b log) (one tid said rec) ∙ all_of tid (found_record said rec) log

pub open_is_kept : EachOpenIsKept
open_is_kept tid log = all_of tid nothing_said log

-- ---- the state

undecided_kept : (tid : Tid) (commits : List Untold) (votes : List Prepared) → list_all (is_waiting commits) votes ≡ true
    → (list_any (is_of tid) (filter is_undecided votes) || list_any (is_untold_of tid) commits) ≡ (list_any (is_of tid) votes || list_any (is_untold_of tid) commits)
undecided_kept tid commits [] h = refl
undecided_kept tid commits (v ∷ votes) h = by v.committed refl (is_of tid v) refl (and_first (is_waiting commits v) _ h) (undecided_kept tid commits votes (and_last (is_waiting commits v) _ h))
  where
    skip : v.committed ≡ true → filter is_undecided (v ∷ votes) ≡ filter is_undecided votes
    skip is = rw is refl

    take : v.committed ≡ false → filter is_undecided (v ∷ votes) ≡ v ∷ filter is_undecided votes
    take is = rw is refl

    by : (c : Bool) → v.committed ≡ c → (o : Bool) → is_of tid v ≡ o → is_waiting commits v ≡ true
        → (list_any (is_of tid) (filter is_undecided votes) || list_any (is_untold_of tid) commits) ≡ (list_any (is_of tid) votes || list_any (is_untold_of tid) commits)
        → (list_any (is_of tid) (filter is_undecided (v ∷ votes)) || list_any (is_untold_of tid) commits) ≡ (list_any (is_of tid) (v ∷ votes) || list_any (is_untold_of tid) commits)
    by true so true near w more =
        let told : list_any (is_untold_of tid) commits ≡ true = ap (λ (t : Tid). list_any (is_untold_of t) commits) (sym (same_tid-true v.tid tid near)) ∙ implied v.committed _ so w in
        ap (λ (b : Bool). list_any (is_of tid) (filter is_undecided (v ∷ votes)) || b) told ∙ or-true (list_any (is_of tid) (filter is_undecided (v ∷ votes)))
        ∙ sym (ap (λ (b : Bool). list_any (is_of tid) (v ∷ votes) || b) told ∙ or-true (list_any (is_of tid) (v ∷ votes)))
    by true so false far w more =
        ap (λ (l : List Prepared). list_any (is_of tid) l || list_any (is_untold_of tid) commits) (skip so) ∙ more
        ∙ sym (ap (λ (b : Bool). (b || list_any (is_of tid) votes) || list_any (is_untold_of tid) commits) far)
    by false so o at w more =
        ap (λ (l : List Prepared). list_any (is_of tid) l || list_any (is_untold_of tid) commits) (take so)
        ∙ or_assoc (is_of tid v) (list_any (is_of tid) (filter is_undecided votes)) (list_any (is_untold_of tid) commits)
        ∙ ap (λ (b : Bool). is_of tid v || b) more
        ∙ sym (or_assoc (is_of tid v) (list_any (is_of tid) votes) (list_any (is_untold_of tid) commits))

pub opens_same : EachStateOpensSame
opens_same tid node files audit extra log are =
    let may = may_take log are in
    open_is_kept tid (state node files audit extra (recovery log))
    ∙ ap (is_kept tid) (state_says node files audit extra (recovery log) may)
    ∙ undecided_kept tid (recovery log).untold (recovery log).prepared may.waiting
    ∙ sym (open_is_kept tid log)
