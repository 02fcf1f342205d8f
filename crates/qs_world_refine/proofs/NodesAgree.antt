-- Nodes agree, and their logs stand together, as the agreement machine that shows each transaction does.
use Rattle.qs_world_refine.proofs.Words.{◌≡◌, ℕ, ◌<◌, nat_lt, Bool, true, false, None, Some, refl, sym, ap, subst, ◌∙◌, arith, list_any, nat_tests, same_tid, Tid, recovery, names_transaction, is_untold_of, Participant, Open, Committed, Aborted, may_be_known, ShowsAll, names_node, node_no, outcome_of, part_at, place, IsShown, IsShownWorld, list_of, stage_of, implied, eqb-self}
use Rattle.qs_base.specs.declared.identifiers.Outcome.TheVariants as outcomes
use Rattle.qs_tm.specs.Manager as tm
use Rattle.qs_world.specs.World.{World}
use Rattle.qs_world_agree.specs.World as machine
use Rattle.qs_world_refine.specs.Begun.{has_begun}
use Rattle.qs_world_refine.specs.WorldLaws.{Knows, LearnersStand, NodesAgree, LogsStand}
use Rattle.qs_world_refine.proofs.Doubts.{some_of}
use Rattle.qs_world_refine.proofs.Facts.{invariant}
use Rattle.qs_world_refine.proofs.Reading.{part_known}
use Rattle.qs_world_refine.proofs.SoundParts.{and_both}
use Rattle.qs_world_refine.proofs.SteadyGives.{past_of, unbegun_unknown}

-- what may be known of a home of the run has begun
pub begun_of : (tid : Tid) (world : World) → tid.home.0 < world.size → may_be_known world tid ≡ true → has_begun world tid ≡ true
begun_of tid world home_in is = implied (nat_lt tid.home.0 world.size) (has_begun world tid) (grind (arith, nat_tests, home_in)) (and_both (names_transaction tid) _ is).1

-- ---- a node that knows an outcome

module _ (tid : Tid) (world : World) (is : IsShownWorld world) (home_in : tid.home.0 < world.size) where
  known_shown : (n : ℕ) → n < world.size → (part : Participant) → tm.part_of tid (world.hosts n).node.manager ≡ Some part → IsShown tid world
  known_shown n n_in part known = is.shown tid (begun_of tid world home_in (past_of (stage_of world n) (world.hosts n).node (is.steady.nodes n n_in).tidy tid part known))

  -- abort, as its place does
  abort_shown : (w : machine.World) → ShowsAll tid world w → (n : ℕ) → Knows tid world n outcomes.Abort → w.cell ≡ Aborted
  abort_shown w all n knows = all.seen.lawful.agreed.knows_abort (place n (world.channels.inc n))
      ((all.seen.shown.faces n knows.in_run knows.runs).outcome ∙ (ap (λ (p : Participant). outcome_of p) (part_known tid (world.hosts n).node knows.part knows.known) ∙ seen knows.part knows.decided))
    where
      seen : (part : Participant) → part.outcome ≡ Some outcomes.Abort → outcome_of part ≡ Aborted
      seen part decided = rw decided refl

pub nodes_agree : NodesAgree
nodes_agree tid world n m is home_in commit abort =
    let shown = known_shown tid world is home_in n commit.in_run commit.part commit.known in
    let committed : shown.machine.cell ≡ Committed = shown.shows.outcome.learnt n commit.part commit.in_run commit.runs commit.known commit.decided in
    let aborted : shown.machine.cell ≡ Aborted = abort_shown tid world is home_in shown.machine shown.shows m abort in
    never committed aborted
  where
    never : {o : machine.Outcome} → o ≡ Committed → o ≡ Aborted → ⊥
    never x y = cc (x, y)

-- ---- logs

pub logs_stand : LogsStand
logs_stand tid world n is numbered home_in n_in other committed doubt = by (may_be_known world tid) refl
  where
    told_by : IsShown tid world → (list_any (is_untold_of tid) (recovery (world.hosts tid.home.0).log).untold ≡ true) × (names_node (list_of tid (recovery (world.hosts tid.home.0).log)) (node_no n) ≡ true)
    told_by shown =
        let w = shown.machine in
        let logs = shown.shows.seen.shown.logs in
        let logged : w.commit_logged ≡ true = (logs tid.home.0 home_in).committed refl ∙ committed in
        let cell : w.cell ≡ Committed = (invariant w shown.shows.seen.lawful).outcomes.logged logged in
        let vote = some_of tid (recovery (world.hosts n).log).prepared doubt in
        let home_node : w.node w.home ≡ tid.home.0 = ap w.node shown.shows.seen.shown.stage.home ∙ shown.shows.seen.shown.stage.nodes tid.home.0 tid.inc home_in in
        let told = (shown.shows.seen.lawful.answered cell).in_log n vote.0 (λ same. other (same ∙ home_node)) ((logs n n_in).prepared vote.0 ∙ vote.1) in
        (sym ((logs tid.home.0 home_in).unended refl) ∙ told.1, sym ((logs tid.home.0 home_in).named refl told.1 n) ∙ told.0)

    by : (b : Bool) → may_be_known world tid ≡ b → (list_any (is_untold_of tid) (recovery (world.hosts tid.home.0).log).untold ≡ true) × (names_node (list_of tid (recovery (world.hosts tid.home.0).log)) (node_no n) ≡ true)
    by true past = told_by (is.shown tid (begun_of tid world home_in past))
    by false off = absurd (let none : list_any (same_tid tid) (recovery (world.hosts tid.home.0).log).committed ≡ false = (unbegun_unknown tid world tid.home.0 is.steady home_in numbered off).committed in cc (none, committed))

pub learners_stand : LearnersStand
learners_stand tid world n is home_in other committed learns =
    let shown = known_shown tid world is home_in n learns.in_run learns.part learns.known in
    let w = shown.machine in
    let sees = shown.shows.seen.shown in
    let logs = (sees.logs tid.home.0 home_in) in
    let logged : w.commit_logged ≡ true = logs.committed refl ∙ committed in
    let cell : w.cell ≡ Committed = (invariant w shown.shows.seen.lawful).outcomes.logged logged in
    let at = sees.stage.nodes n (world.channels.inc n) learns.in_run in
    let home_node : w.node w.home ≡ tid.home.0 = ap w.node sees.stage.home ∙ sees.stage.nodes tid.home.0 tid.inc home_in in
    let face = sees.faces n learns.in_run learns.runs in
    let open_now : outcome_of (part_at (world.hosts n).node tid) ≡ Open = ap (λ (p : Participant). outcome_of p) (part_known tid (world.hosts n).node learns.part learns.known) ∙ undecided learns.part learns.undecided in
    let told = (shown.shows.seen.lawful.answered cell).in_doubt (place n (world.channels.inc n)) (λ same. other (sym at ∙ (same ∙ home_node)))
    (sees.stage.up n (world.channels.inc n) learns.in_run ∙ rw (learns.runs) (eqb-self (world.channels.inc n)))
    ((face.running open_now).involved ∙ (ap (λ (p : Participant). p.involved) (part_known tid (world.hosts n).node learns.part learns.known) ∙ learns.involved))
    (face.outcome ∙ open_now) in
    (sym (logs.unended refl) ∙ told.1, sym (logs.named refl told.1 n) ∙ subst (λ (k : ℕ). w.commit_list k ≡ true) at told.0)
  where
    undecided : (part : Participant) → part.outcome ≡ None → outcome_of part ≡ Open
    undecided part none = rw none refl
