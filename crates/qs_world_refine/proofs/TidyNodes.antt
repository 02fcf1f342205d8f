-- A node stays tidy through each change of what it keeps of transactions.
use Rattle.qs_world_refine.proofs.Words.{◌≡◌, inl, inr, ℕ, ◌&&◌, Bool, true, false, [], ◌∷◌, ◌++◌, Option, Some, None, is_some, is_none, refl, sym, ap, subst, ◌∙◌, arith, if◌then◌else◌, nat_tests, ◌⊎◌, list_all, list_any, same_tid, NodeNo, Tid, same_node, is_outcome_of, Decided, Cause, kept_outcome, was_committed, NodeValue, aborted_participant, is_undecided, new_participant, Manager, Participant, began_here, where_so, same_flag, Stage, IsTidyNode, is_settled, is_tidy_part, is_tidy_superior}
use Rattle.qs_world_refine.proofs.Words.{is_tidy_outcome, is_run, is_homed, or_left, none_is}
use Rattle.qs_base.specs.declared.identifiers.Outcome.{Outcome}
use Rattle.qs_base.specs.declared.identifiers.Outcome.TheVariants as outcomes
use Rattle.qs_engage.specs.Engage as engage
use Rattle.qs_tm.specs.Manager as tm
use Rattle.qs_tm.specs.Outcomes as outcome_rules
use Rattle.qs_tm.specs.Participant as participant
use Rattle.qs_world_refine.proofs.CrossedKept.{Crosses, crossed_manager, Decides, crossed_decided}
use Rattle.qs_world_refine.proofs.Entries.{all_of_tid, none_found}
use Rattle.qs_world_refine.proofs.Forgetting.{order_changed}
use Rattle.qs_world_refine.proofs.Frames.{part_apart}
use Rattle.qs_world_refine.proofs.PartsAfter.{IsSame, IsChanged, changed_seen, told_is, as_told, is_known, changed_known}
use Rattle.qs_world_refine.proofs.SoundBegin.{all_put, order_put, all_last}
use Rattle.qs_world_refine.proofs.SoundEnds.{all_removed, order_removed}
use Rattle.qs_world_refine.proofs.SoundParts.{and_both, both_and, all_found}
use Rattle.qs_world_refine.proofs.CrossesMade.{crosses_part, crosses_away, crosses_put, crosses_forgot}

-- what counts of it, told over plain values
abbrev entry_test : Stage → Tid → Bool → Bool → Option NodeNo → Bool
entry_test c tid home asked superior = (c.past tid && same_flag home (same_node tid.home c.setting.node)) && (where_so asked (c.begun tid) && is_tidy_superior c tid superior)

entry_alike : (c : Stage) (tid : Tid) (h g : Bool) (a b : Bool) (s r : Option NodeNo) → g ≡ h → b ≡ a → r ≡ s → entry_test c tid h a s ≡ true → entry_test c tid g b r ≡ true
entry_alike c tid h g a b s r home asked superior is = rw (home, asked, superior) is

-- what of a change counts
pub record SamePart (old new : Participant) : Type 0 where
  pub home : new.engage.home ≡ old.engage.home
  pub superior : new.engage.superior ≡ old.engage.superior
  pub asked : new.asked ≡ old.asked
  pub outcome : new.outcome ≡ old.outcome

-- ---- a node

module _ (c : Stage) (node : NodeValue) (is : IsTidyNode c node) where
  -- what it keeps of one transaction
  pub part_read : (tid : Tid) (part : Participant) → tm.part_of tid node.manager ≡ Some part → is_tidy_part c (tid, part) ≡ true
  part_read tid part known = all_found tid (is_tidy_part c) node.manager.known part known is.known

  pub home_read : (tid : Tid) (part : Participant) → tm.part_of tid node.manager ≡ Some part → part.engage.home ≡ same_node tid.home c.setting.node
  home_read tid part known = flag part.engage.home (same_node tid.home c.setting.node) (and_both (c.past tid) _ (and_both (c.past tid && same_flag part.engage.home (same_node tid.home c.setting.node)) _ (part_read tid part known)).0).1
    where
      flag : (a b : Bool) → same_flag a b ≡ true → a ≡ b
      flag true true is = refl
      flag true false is = absurd (cc (is))
      flag false true is = absurd (cc (is))
      flag false false is = refl

  pub here_read : (tid : Tid) (b : Bool) → same_node tid.home c.setting.node ≡ b → same_node tid.home node.setting.node ≡ b
  here_read tid b same = ap (λ (s : Rattle.qs_node_step.specs.declared.setting.Setting.Setting). same_node tid.home s.node) is.setting ∙ same

  abbrev with_manager : Manager → NodeValue
  with_manager m = record node { manager = m }

  -- the manager is changed, and stays the manager of this node
  manager_tidy : (m : Manager) → m.node ≡ node.manager.node → m.inc ≡ node.manager.inc → Rattle.qs_world_refine.specs.Sound.in_order m.known ≡ true → list_all (is_tidy_part c) m.known ≡ true → Crosses node m → IsTidyNode c (with_manager m)
  manager_tidy m same inc ordered known crosses = record {
    setting = is.setting;
    own = same ∙ is.own;
    inc = inc ∙ is.inc;
    count = crosses.begun ∙ is.count;
    ordered = ordered;
    known = known;
    apart = is.apart;
    waiting = is.waiting;
    labels = is.labels;
    loans = is.loans;
    outcomes = is.outcomes;
    commands = is.commands;
    kinds = is.kinds;
    committed = is.committed;
    crossed = crossed_manager node m crosses is.crossed;
  }

  abbrev of_part : Tid → (Participant → Participant) → NodeValue
  of_part tid f = with_manager (tm.with_part tid f node.manager)

  known_changed : (tid : Tid) (f : Participant → Participant) → ((part : Participant) → is_tidy_part c (tid, part) ≡ true → is_tidy_part c (tid, f part) ≡ true) → list_all (is_tidy_part c) (tm.with_part tid f node.manager).known ≡ true
  known_changed tid f more = all_of_tid tid (is_tidy_part c) f more node.manager.known is.known

  pub part_tidy : (tid : Tid) (f : Participant → Participant) → ((part : Participant) → SamePart part (f part)) → IsTidyNode c (of_part tid f)
  part_tidy tid f same = manager_tidy (tm.with_part tid f node.manager) refl refl (order_changed tid f node.manager is.ordered)
      (known_changed tid f (λ part its. entry_alike c tid part.engage.home (f part).engage.home part.asked (f part).asked part.engage.superior (f part).engage.superior (same part).home (same part).asked (same part).superior its))
      (crosses_part node tid f (λ part. ((same part).home, (same part).outcome)) is.crossed)

  pub ask_tidy : (tid : Tid) → c.begun tid ≡ true → IsTidyNode c (of_part tid participant.ask)
  ask_tidy tid begun = manager_tidy (tm.with_part tid participant.ask node.manager) refl refl (order_changed tid participant.ask node.manager is.ordered)
      (known_changed tid participant.ask (λ part its.
      let both : ((c.past tid && same_flag part.engage.home (same_node tid.home c.setting.node)) ≡ true) × ((where_so part.asked (c.begun tid) && is_tidy_superior c tid part.engage.superior) ≡ true) = and_both _ _ its in
      both_and (c.past tid && same_flag part.engage.home (same_node tid.home c.setting.node)) _ both.0 (both_and (c.begun tid) _ begun (and_both (where_so part.asked (c.begun tid)) _ both.1).1)))
      (crosses_part node tid participant.ask (λ part. (refl, refl)) is.crossed)

  pub request_tidy : (tid : Tid) (peer : NodeNo) (number : ℕ) → c.begun tid ≡ true → c.met peer ≡ true → IsTidyNode c (of_part tid (participant.requested peer number))
  request_tidy tid peer number begun met = manager_tidy (tm.with_part tid (participant.requested peer number) node.manager) refl refl (order_changed tid (participant.requested peer number) node.manager is.ordered)
      (known_changed tid (participant.requested peer number) (λ part its. entry part part.engage.home part.engage.superior refl refl its))
      (crosses_part node tid (participant.requested peer number) (λ part. (home (engage.with_last peer number part.engage) part.engage.home part.engage.superior, refl)) is.crossed)
    where
      sent : Rattle.qs_engage.specs.declared.engage.Engage.Engage → Rattle.qs_engage.specs.declared.engage.Engage.Engage
      sent e = engage.with_last peer number e

      home : (e : Rattle.qs_engage.specs.declared.engage.Engage.Engage) (h : Bool) (o : Option NodeNo)
          → (if h then e else elim o [ None ↦ record e { superior = Some peer; last_superior = Some peer } | Some superior ↦ e ]).home ≡ e.home
      home e true o = refl
      home e false None = refl
      home e false (Some superior) = refl

      entry : (part : Participant) (h : Bool) (o : Option NodeNo) → part.engage.home ≡ h → part.engage.superior ≡ o → is_tidy_part c (tid, part) ≡ true
          → is_tidy_part c (tid, record part { engage = if h then sent part.engage else elim o [ None ↦ record (sent part.engage) { superior = Some peer; last_superior = Some peer } | Some superior ↦ sent part.engage ] }) ≡ true
      entry part true o at is its = its
      entry part false None at none its =
          let both : ((c.past tid && same_flag part.engage.home (same_node tid.home c.setting.node)) ≡ true) × ((where_so part.asked (c.begun tid) && is_tidy_superior c tid part.engage.superior) ≡ true) = and_both _ _ its in
          both_and (c.past tid && same_flag part.engage.home (same_node tid.home c.setting.node)) _ both.0 (both_and (where_so part.asked (c.begun tid)) _ (and_both (where_so part.asked (c.begun tid)) _ both.1).0 (both_and (c.begun tid) (c.met peer) begun met))
      entry part false (Some superior) at is its = its

  pub release_tidy : (tid : Tid) → IsTidyNode c (of_part tid participant.released)
  release_tidy tid = manager_tidy (tm.with_part tid participant.released node.manager) refl refl (order_changed tid participant.released node.manager is.ordered)
      (known_changed tid participant.released (λ part its.
      let both : ((c.past tid && same_flag part.engage.home (same_node tid.home c.setting.node)) ≡ true) × ((where_so part.asked (c.begun tid) && is_tidy_superior c tid part.engage.superior) ≡ true) = and_both _ _ its in
      both_and (c.past tid && same_flag part.engage.home (same_node tid.home c.setting.node)) _ both.0 (both_and (where_so part.asked (c.begun tid)) true (and_both (where_so part.asked (c.begun tid)) _ both.1).0 refl)))
      (crosses_part node tid participant.released (λ part. (refl, refl)) is.crossed)

  pub learn_tidy : (tid : Tid) (outcome : Outcome) → same_node tid.home c.setting.node ≡ false → IsTidyNode c (of_part tid (outcome_rules.took_outcome outcome))
  learn_tidy tid outcome away = manager_tidy (tm.with_part tid (outcome_rules.took_outcome outcome) node.manager) refl refl (order_changed tid (outcome_rules.took_outcome outcome) node.manager is.ordered)
      (known_changed tid (outcome_rules.took_outcome outcome) (λ part its. its))
      (crosses_away node tid (outcome_rules.took_outcome outcome) (here_read tid false away) (λ part known. home_read tid part known ∙ away) (λ part. refl) is.crossed)

  -- of another home no outcome is kept
  none_kept : (tid : Tid) → same_node tid.home c.setting.node ≡ false → kept_outcome tid node ≡ None
  none_kept tid away = none_found (is_outcome_of tid) (is_tidy_outcome c) off node.kept.now.outcomes is.outcomes
    where
      off : (d : Decided) → is_tidy_outcome c d ≡ true → is_outcome_of tid d ≡ false
      off d its = let homed : same_node d.tid.home c.setting.node ≡ true = (and_both (c.past d.tid) _ its).1 in grind (arith, nat_tests, homed, away)

  -- one becomes known
  abbrev put : Tid → Participant → NodeValue
  put tid part = with_manager (tm.put_part tid part node.manager)

  put_tidy : (tid : Tid) (part : Participant) → tm.part_of tid node.manager ≡ None → is_tidy_part c (tid, part) ≡ true → (part.outcome ≡ Some outcomes.Commit → was_committed tid node ≡ true) → (part.outcome ≡ None → kept_outcome tid node ≡ None)
      → (same_node tid.home node.setting.node ≡ true → is_settled part.outcome (list_any (same_tid tid) node.committed) ≡ true) → IsTidyNode c (put tid part)
  put_tidy tid part none its commits fresh settled = manager_tidy (tm.put_part tid part node.manager) refl refl (order_put tid part node.manager.known is.ordered) (all_put tid part (is_tidy_part c) node.manager.known its is.known) (crosses_put node tid part none commits fresh settled is.crossed)

  new_part : (tid : Tid) → c.past tid ≡ true → is_tidy_part c (tid, new_participant (tm.is_home tid node.manager)) ≡ true
  new_part tid past = both_and (c.past tid && same_flag (same_node tid.home node.manager.node) (same_node tid.home c.setting.node)) true
      (both_and (c.past tid) _ past (subst (λ (n : NodeNo). same_flag (same_node tid.home n) (same_node tid.home c.setting.node) ≡ true) (sym is.own) (itself (same_node tid.home c.setting.node)))) refl
    where
      itself : (b : Bool) → same_flag b b ≡ true
      itself true = refl
      itself false = refl

  pub meet_tidy : (tid : Tid) → c.past tid ≡ true → same_node tid.home c.setting.node ≡ false → IsTidyNode c (with_manager (tm.meet tid node.manager))
  meet_tidy tid past away = by (tm.part_of tid node.manager) refl
    where
      by : (o : Option Participant) → tm.part_of tid node.manager ≡ o → IsTidyNode c (with_manager (if is_some o then node.manager else tm.put_part tid (new_participant (tm.is_home tid node.manager)) node.manager))
      by (Some part) known = is
      by None none = put_tidy tid (new_participant (tm.is_home tid node.manager)) none (new_part tid past) (λ its. absurd (cc (its))) (λ its. none_kept tid away) (λ home. absurd (let off : same_node tid.home node.setting.node ≡ false = here_read tid false away in cc (home, off)))

  pub keep_abort_tidy : (tid : Tid) → c.past tid ≡ true → tm.part_of tid node.manager ≡ None → IsTidyNode c (with_manager (tm.keep_abort tid node.manager))
  keep_abort_tidy tid past none = by (tm.part_of tid node.manager) none
    where
      by : (o : Option Participant) → o ≡ None → IsTidyNode c (with_manager (if is_some o then node.manager else tm.put_part tid (aborted_participant (tm.is_home tid node.manager)) node.manager))
      by (Some part) known = is
      by None so = put_tidy tid (aborted_participant (tm.is_home tid node.manager)) none (new_part tid past) (λ its. absurd (cc (its))) (λ its. absurd (cc (its))) (λ home. refl)

  pub forget_tidy : (tid : Tid) (part : Participant) → tm.part_of tid node.manager ≡ Some part → (same_node tid.home c.setting.node ≡ false) ⊎ (part.outcome ≡ Some outcomes.Commit) → IsTidyNode c (with_manager (tm.forget tid node.manager))
  forget_tidy tid part known may = manager_tidy (tm.forget tid node.manager) refl refl (order_removed tid node.manager.known is.ordered) (all_removed tid (is_tidy_part c) node.manager.known is.known)
      (crosses_forgot node tid is.ordered (ap (λ (o : Option Participant). elim o [ None ↦ false | Some p ↦ is_run p ]) known ∙ idle may) (past may) is.crossed)
    where
      off : (h : Bool) (o : Option Outcome) → h ≡ false → (h && is_none o) ≡ false
      off h o is = rw is refl

      done : (h : Bool) (o : Option Outcome) → o ≡ Some outcomes.Commit → (h && is_none o) ≡ false
      done true o is = rw is refl
      done false o is = refl

      idle : ((same_node tid.home c.setting.node ≡ false) ⊎ (part.outcome ≡ Some outcomes.Commit)) → is_run part ≡ false
      idle (inl away) = off part.engage.home part.outcome (home_read tid part known ∙ away)
      idle (inr committed) = done part.engage.home part.outcome committed

      past : ((same_node tid.home c.setting.node ≡ false) ⊎ (part.outcome ≡ Some outcomes.Commit)) → began_here node tid ≡ true → was_committed tid node ≡ true
      past (inl away) here = absurd (let homed : same_node tid.home node.setting.node ≡ true = (and_both (same_node tid.home node.setting.node) _ here).0 in let off : same_node tid.home node.setting.node ≡ false = here_read tid false away in cc (homed, off))
      past (inr committed) here = is.crossed.commits tid part known here committed

  pub tick_tidy : IsTidyNode c (with_manager (tm.tick node.manager))
  tick_tidy = manager_tidy (tm.tick node.manager) refl refl is.ordered is.known
      (record { begun = refl; runs = λ t runs. runs; knows = λ t here knows. or_left (tm.knows t node.manager) (was_committed t node) knows; commits = is.crossed.commits; fresh = is.crossed.fresh; earlier = is.crossed.earlier })

  -- the home decides, and keeps the outcome
  abbrev decided : Tid → Outcome → Option Cause → NodeValue
  decided tid outcome cause = record node { manager = tm.decide tid outcome node.manager; kept = record node.kept { now = record node.kept.now { outcomes = node.kept.now.outcomes ++ record { tid = tid; outcome = outcome; cause = cause } ∷ [] } } }

  pub decide_tidy : (tid : Tid) (outcome : Outcome) (cause : Option Cause) → is_homed c.past c.setting.node tid ≡ true → (outcome ≡ outcomes.Commit → tm.told_of tid false is_undecided node.manager ≡ true) → IsTidyNode c (decided tid outcome cause)
  decide_tidy tid outcome cause homed open_now = record {
    setting = is.setting;
    own = is.own;
    inc = is.inc;
    count = is.count;
    ordered = order_changed tid (outcome_rules.decided outcome) node.manager is.ordered;
    known = known_changed tid (outcome_rules.decided outcome) (λ part its. its);
    apart = is.apart;
    waiting = is.waiting;
    labels = is.labels;
    loans = is.loans;
    outcomes = all_last (is_tidy_outcome c) node.kept.now.outcomes (record { tid = tid; outcome = outcome; cause = cause }) is.outcomes homed;
    commands = is.commands;
    kinds = is.kinds;
    committed = is.committed;
    crossed = crossed_decided node tid outcome cause (tm.decide tid outcome node.manager) change is.crossed;
  }
    where
      after : Manager
      after = tm.decide tid outcome node.manager

      other : (t : Tid) (part : Participant) → (IsSame t tid node.manager after part ⊎ IsChanged t tid (outcome_rules.decided outcome) node.manager part) → same_tid t tid ≡ false → tm.part_of t node.manager ≡ Some part
      other t part (inl same) apart = same.was
      other t part (inr changed) apart = absurd (let it : same_tid t tid ≡ true = subst (λ (u : Tid). same_tid u tid ≡ true) (sym changed.same) (grind (arith, nat_tests)) in cc (it, apart))

      its_own : (part : Participant) → (IsSame tid tid node.manager after part ⊎ IsChanged tid tid (outcome_rules.decided outcome) node.manager part) → part.outcome ≡ Some outcome
      its_own part (inl same) = absurd (let it : same_tid tid tid ≡ true = grind (arith, nat_tests) in let off : same_tid tid tid ≡ false = same.apart in cc (it, off))
      its_own part (inr changed) = ap (λ (p : Participant). p.outcome) changed.now

      never : (b : Bool) → is_settled None b ≡ true → ⊥
      never b so = cc (so)

      change : Decides node tid outcome cause after
      change = record {
        begun = refl;
        runs = λ t apart runs. let part : (part : Participant) × ((tm.part_of t node.manager ≡ Some part) × (is_run part ≡ true)) = told_is is_run t node.manager runs in as_told is_run t after part.0 (part_apart t tid (outcome_rules.decided outcome) node.manager apart ∙ part.1.0) part.1.1;
        knows = λ t knows. let part : (part : Participant) × (tm.part_of t node.manager ≡ Some part) = is_known t node.manager knows in changed_known t tid (outcome_rules.decided outcome) node.manager part.0 part.1;
        others = λ t part apart now. other t part (changed_seen t tid (outcome_rules.decided outcome) node.manager part now) apart;
        its = λ part now. its_own part (changed_seen tid tid (outcome_rules.decided outcome) node.manager part now);
        new = λ so. let part : (part : Participant) × ((tm.part_of tid node.manager ≡ Some part) × (is_undecided part ≡ true)) = told_is is_undecided tid node.manager (open_now so) in is.crossed.fresh tid part.0 part.1.0 (none_is part.0.outcome part.1.1);
        here = λ so home later. let part : (part : Participant) × ((tm.part_of tid node.manager ≡ Some part) × (is_undecided part ≡ true)) = told_is is_undecided tid node.manager (open_now so) in
            never (list_any (same_tid tid) node.committed) (subst (λ (o : Option Outcome). is_settled o (list_any (same_tid tid) node.committed) ≡ true) (none_is part.0.outcome part.1.1) (is.crossed.earlier tid part.0 part.1.0 home later));
      }
