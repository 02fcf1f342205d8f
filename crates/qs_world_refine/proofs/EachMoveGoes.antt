-- The law of each move, and of a message about a transaction that is shown.
use Rattle.qs_world_refine.proofs.Words.{◌≡◌, ◌≢◌, ◌⊎◌, inl, inr, ℕ, ◌<◌, ◌≤◌, ◌==◌, ◌&&◌, ◌||◌, not, nat_lt, nat_le, Bool, true, false, [], Option, Some, None, refl, sym, ap, subst, ◌∙◌, arith, if◌then◌else◌, list_any, list_all, find, eqb-true, not-true, nat_tests, same_tid, Tid, same_node, Nodes, is_crash, Recovery, recovery, is_untold_of, nothing_said, Participant, is_outcome_of, was_committed, is_kept_commit, recovered_of, new_manager, NodeValue, Cut, Stop, Rise, event_of, step_with, cut_with}
use Rattle.qs_world_refine.proofs.Words.{stopped, reopened, risen, risen_host, is_in_order, is_later, may_step, known_of, Open, Committed, Aborted, ShowsAll, AllGoes, KeepsDecided, MessagesFit, node_no, met_at, WorldGoes, place, scene_of, may_vote, is_list_of, has_doubt, IsSteady, HasBegun, not_never}
use Rattle.qs_engage.specs.Nodes.{has_node}
use Rattle.qs_tm.specs.Manager as tm
use Rattle.qs_node_step.specs.declared.event.Event.{Event}
use Rattle.qs_world.specs.Moves.{Step, Meet, met, has_begun}
use Rattle.qs_world.specs.World.{World}
use Rattle.qs_world_agree.specs.World as machine
use Rattle.qs_world_refine.specs.EachMove.{EachMoveGoes, ShownFits}
use Rattle.qs_world_refine.proofs.ClosedKept.{closed_commit}
use Rattle.qs_world_refine.proofs.EachFits.{own_fits}
use Rattle.qs_world_refine.proofs.EachHears.{first}
use Rattle.qs_world_refine.proofs.EachMay.{is_next, is_fit}
use Rattle.qs_world_refine.proofs.EachMoves.{step_goes_on, cut_goes_on}
use Rattle.qs_world_refine.proofs.Facts.{invariant}
use Rattle.qs_world_refine.proofs.LaterWorlds.{commit_stays}
use Rattle.qs_world_refine.proofs.MoveGoes.{in_run, later_in, StepMay, step_may, rises, meets, meets_next}
use Rattle.qs_world_refine.proofs.RisenFaces.{lists_from}
use Rattle.qs_world_refine.proofs.SoundParts.{and_both}
use Rattle.qs_world_refine.proofs.StepAll.{StaysAt, TellsAt, kept_same, goes_all, goes_all_next, stays_stopped, node_stopped}
use Rattle.qs_world_refine.proofs.StepMoves.{stops}
use Rattle.qs_world_refine.proofs.TakenOf.{IsTakenOf, taken_of, list_home}
use Rattle.qs_world_refine.proofs.TakingUp.{Known, log_taken}
use Rattle.qs_world_refine.proofs.TurnRecords.{nobody}

module _ (t : Tid) (world : World) (w : machine.World) (steady : IsSteady world) (fits : MessagesFit world) (home_in : t.home.0 < world.size) (began : HasBegun world t) (all : ShowsAll t world w) where
  -- ---- a restart

  module _ (n stamp inc : ℕ) (n_in : n < world.size) (off : world.channels.up n ≡ false) (later : world.channels.inc n < inc) where
    abbrev node : NodeValue
    node = (world.hosts n).node

    abbrev said : Recovery
    said = recovery (world.hosts n).log

    abbrev after : World
    after = risen world n stamp inc (recovered_of (world.hosts n).log)

    goes : WorldGoes t after w
    goes = rises t world w steady.seated home_in all.seen n stamp inc n_in off later (steady.takes_up n n_in) (steady.kept n inc n_in off later)

    tests : (list_all may_vote said.prepared ≡ true) × (list_all (is_list_of node.setting.node) said.untold ≡ true)
    tests = and_both (list_all may_vote said.prepared) (list_all (is_list_of node.setting.node) said.untold) (steady.takes_up n n_in)

    home_is : same_node t.home node.setting.node ≡ (t.home.0 == n)
    home_is = rw (steady.seated.node n n_in) refl

    known_then : Known t (t.home.0 == n) (list_any (is_untold_of t) said.untold) (has_doubt t said) (reopened inc (recovered_of (world.hosts n).log) node).manager
    known_then = log_taken t (t.home.0 == n) all.seen.shown.stage.numbered said (new_manager node.manager.alloc (record node.setting { inc = inc })) tests.0 (lists_from t (world.hosts n).log nothing_said refl) home_is refl

    taken : (part : Participant) → tm.part_of t (reopened inc (recovered_of (world.hosts n).log) node).manager ≡ Some part → IsTakenOf t said part
    taken part known = taken_of t (t.home.0 == n) said (reopened inc (recovered_of (world.hosts n).log) node).manager (list_any (is_untold_of t) said.untold) (has_doubt t said) refl known_then part known

    -- a Commit in the home's log was decided
    logged_cell : list_any (is_untold_of t) said.untold ≡ true → w.cell ≡ Committed
    logged_cell some = (invariant w all.seen.lawful).outcomes.logged ((invariant w all.seen.lawful).outcomes.stands ((all.seen.shown.logs n n_in).unended (sym at_n) ∙ some))
      where
        at_n : t.home.0 ≡ n
        at_n = eqb-true t.home.0 n (list_home t n node.setting.node home_is said.untold tests.1 some)

    host_at : (k : ℕ) (b : Bool) → (k == n) ≡ b → (after.hosts k).node.manager ≡ (if b then (reopened inc (recovered_of (world.hosts n).log) node).manager else (world.hosts k).node.manager)
    host_at k b is = picked (k == n) b is
      where
        picked : (c d : Bool) → c ≡ d → (if c then risen_host stamp inc (recovered_of (world.hosts n).log) (world.hosts n) else world.hosts k).node.manager ≡ (if d then (reopened inc (recovered_of (world.hosts n).log) node).manager else (world.hosts k).node.manager)
        picked true true so = refl
        picked false false so = refl
        picked true false so = absurd (cc (so))
        picked false true so = absurd (cc (so))

    -- what the home's node keeps as committed then was saved so, or is in its log
    node_at : (b : Bool) → (t.home.0 == n) ≡ b → (after.hosts t.home.0).node ≡ (if b then reopened inc (recovered_of (world.hosts n).log) node else (world.hosts t.home.0).node)
    node_at b is = picked (t.home.0 == n) b is
      where
        picked : (c d : Bool) → c ≡ d → (if c then risen_host stamp inc (recovered_of (world.hosts n).log) (world.hosts n) else world.hosts t.home.0).node ≡ (if d then reopened inc (recovered_of (world.hosts n).log) node else (world.hosts t.home.0).node)
        picked true true so = refl
        picked false false so = refl
        picked true false so = absurd (cc (so))
        picked false true so = absurd (cc (so))

    rise_kept : (b : Bool) → (t.home.0 == n) ≡ b → KeepsDecided t after goes.next
    rise_kept false apart = kept_same t world after w goes.next all goes.leads (node_at false apart)
    rise_kept true same = record {
      now = λ is. commit_stays w goes.next all.seen.lawful goes.leads (found (subst (λ (k : NodeValue). was_committed t k ≡ true) (node_at true same) is));
      saved = λ is. commit_stays w goes.next all.seen.lawful goes.leads (of_kept (subst (λ (k : NodeValue). is_kept_commit (find (is_outcome_of t) k.kept.saved.outcomes) ≡ true) (node_at true same) is));
    }
      where
        at_n : t.home.0 ≡ n
        at_n = eqb-true t.home.0 n same

        new : NodeValue
        new = reopened inc (recovered_of (world.hosts n).log) node

        in_log : list_any (same_tid t) said.committed ≡ true → w.cell ≡ Committed
        in_log is = (invariant w all.seen.lawful).outcomes.logged ((all.seen.shown.logs n n_in).committed (sym at_n) ∙ is)

        of_kept : is_kept_commit (find (is_outcome_of t) new.kept.now.outcomes) ≡ true → w.cell ≡ Committed
        of_kept is = by (closed_commit t node.setting.node said.committed node.kept.saved.labels node.kept.saved.outcomes is)
          where
            by : (is_kept_commit (find (is_outcome_of t) node.kept.saved.outcomes) ≡ true) ⊎ (list_any (same_tid t) said.committed ≡ true) → w.cell ≡ Committed
            by (inl old) = all.kept.saved (subst (λ (k : ℕ). is_kept_commit (find (is_outcome_of t) (world.hosts k).node.kept.saved.outcomes) ≡ true) (sym at_n) old)
            by (inr logged) = in_log logged

        found : was_committed t new ≡ true → w.cell ≡ Committed
        found = which (is_kept_commit (find (is_outcome_of t) new.kept.now.outcomes)) (list_any (same_tid t) said.committed) of_kept in_log
          where
            which : (a b : Bool) → (a ≡ true → w.cell ≡ Committed) → (b ≡ true → w.cell ≡ Committed) → (a || b) ≡ true → w.cell ≡ Committed
            which true b one two is = one refl
            which false b one two is = two is

    rise_goes_on : AllGoes t after w
    rise_goes_on = goes_all t world w home_in all after refl goes (rise_kept (t.home.0 == n) refl) (λ k k_in up. at k (k == n) refl up)
      where
        at : (k : ℕ) (b : Bool) → (k == n) ≡ b → (if b then true else world.channels.up k) ≡ true → StaysAt world after k ⊎ TellsAt t after k goes.next
        at k false apart up = inl (record { manager = host_at k false apart; up = up; inc = picked (k == n) apart })
          where
            picked : (c : Bool) → c ≡ false → (if c then inc else world.channels.inc k) ≡ world.channels.inc k
            picked c is = rw is refl
        at k true same up = inr (record {
          learnt = λ part known decided. commit_stays w goes.next all.seen.lawful goes.leads (logged_cell ((taken part (ap (tm.part_of t) (sym (host_at k true same)) ∙ known)).committed decided));
          acknowledged = λ home part known m has. absurd (nobody m (subst (λ (s : Nodes). has_node s (node_no m) ≡ true) (taken part (ap (tm.part_of t) (sym (host_at k true same)) ∙ known)).nobody has));
        })

  -- ---- a first meeting

  module _ (n stamp m first_inc : ℕ) (n_in : n < world.size) (on : world.channels.up n ≡ true) (m_in : m < world.size) (other : m ≢ n) (unknown : world.channels.peer n m ≡ 0) (some : 1 ≤ first_inc) (begun_then : first_inc ≤ world.channels.inc m) where
    met_goes : WorldGoes t (met world n stamp m first_inc) w
    met_goes = meets t world w steady.seated home_in all.seen n stamp m first_inc n_in on m_in other unknown some begun_then

    met_kept : KeepsDecided t (met world n stamp m first_inc) met_goes.next
    met_kept = kept_same t world (met world n stamp m first_inc) w met_goes.next all met_goes.leads (same_node_at t.home.0 (t.home.0 == n) refl)
      where
        same_node_at : (k : ℕ) (b : Bool) → (k == n) ≡ b → (if b then record (world.hosts n) { stamp = stamp } else world.hosts k).node ≡ (world.hosts k).node
        same_node_at k true is = ap (λ (j : ℕ). (world.hosts j).node) (sym (eqb-true k n is))
        same_node_at k false is = refl

    met_stays : (k : ℕ) → k < world.size → (met world n stamp m first_inc).channels.up k ≡ true → StaysAt world (met world n stamp m first_inc) k ⊎ TellsAt t (met world n stamp m first_inc) k met_goes.next
    met_stays k k_in up = inl (record { manager = picked k (k == n) refl; up = up; inc = refl })
      where
        picked : (k : ℕ) (b : Bool) → (k == n) ≡ b → (if b then record (world.hosts n) { stamp = stamp } else world.hosts k).node.manager ≡ (world.hosts k).node.manager
        picked k true is = ap (λ (j : ℕ). (world.hosts j).node.manager) (sym (eqb-true k n is))
        picked k false is = refl

    pub meet_goes_on : AllGoes t (met world n stamp m first_inc) w
    meet_goes_on = goes_all t world w home_in all (met world n stamp m first_inc) refl met_goes met_kept met_stays

    pub meet_next_is : meet_goes_on.next ≡ met_at w (place n (world.channels.inc n)) (place m first_inc)
    unfolding meet_goes_on met_goes
    meet_next_is = goes_all_next t world w home_in all (met world n stamp m first_inc) refl met_goes met_kept met_stays ∙ meets_next t world w steady.seated home_in all.seen n stamp m first_inc n_in on m_in other unknown some begun_then

-- ---- each move

pub each_move_goes : EachMoveGoes
each_move_goes t world (Step n stamp free source) w may steady fits home_in began all = by (event_of world n stamp source) refl
  where
    its : StepMay world n source
    its = step_may world n stamp source may

    by : (o : Option Event) → event_of world n stamp source ≡ o → AllGoes t (step_with world n stamp free source o) w
    by None is = record { next = w; leads = record { events = []; run = refl }; shown = all }
    by (Some event) is = step_goes_on t world w steady fits home_in began all n stamp free source event its.low its.runs its.serves is
each_move_goes t world (Cut n stamp free source is_kept cause) w may steady fits home_in began all = by (event_of world n stamp source) refl
  where
    its : StepMay world n source
    its = step_may world n stamp source (and_both (may_step world n stamp source) (is_crash cause) may).0

    by : (o : Option Event) → event_of world n stamp source ≡ o → AllGoes t (cut_with world n stamp free is_kept cause o) w
    by None is = record { next = w; leads = record { events = []; run = refl }; shown = all }
    by (Some event) is = cut_goes_on t world w steady fits home_in began all n stamp free source event its.low its.runs its.serves is is_kept cause
each_move_goes t world (Stop n stamp cause) w may steady fits home_in began all =
    let runs = and_both (world.channels.up n) _ may in
    let goes = stops t world w steady.seated home_in all.seen n stamp cause (world.hosts n).log [] (in_run world n stamp (and_both (is_in_order world n stamp) _ runs.1).0) runs.0 refl tt in
    goes_all t world w home_in all (stopped world n stamp cause (world.hosts n).log) refl goes
    (kept_same t world (stopped world n stamp cause (world.hosts n).log) w goes.next all goes.leads (node_stopped world n stamp cause (world.hosts n).log t.home.0))
    (λ k k_in up. inl (stays_stopped world n stamp cause (world.hosts n).log k up))
each_move_goes t world (Rise n stamp inc) w may steady fits home_in began all = rise_goes_on t world w steady fits home_in began all n stamp inc (in_run world n stamp order.0) (not-true (world.channels.up n) both.0) (grind (arith, nat_tests, order.1))
  where
    both : (not (world.channels.up n) ≡ true) × ((is_in_order world n stamp && nat_lt (world.channels.inc n) inc) ≡ true)
    both = and_both (not (world.channels.up n)) (is_in_order world n stamp && nat_lt (world.channels.inc n) inc) may

    order : (is_in_order world n stamp ≡ true) × (nat_lt (world.channels.inc n) inc ≡ true)
    order = and_both (is_in_order world n stamp) (nat_lt (world.channels.inc n) inc) both.1
each_move_goes t world (Meet n stamp m first_inc) w may steady fits home_in began all = meet_goes_on t world w steady fits home_in began all n stamp m first_inc (later_in world n stamp order.0) runs.0 (grind (arith, nat_tests, others.1))
    (λ is. not_never (m == n) others.0 (grind (arith, nat_tests, is))) (eqb-true (known_of world n m) 0 known.0) (grind (arith, nat_tests, begun_then.0)) (grind (arith, nat_tests, (and_both (nat_le first_inc (world.channels.inc m)) _ begun_then.1).0))
  where
    runs : (world.channels.up n ≡ true) × ((is_later world n stamp && ((not (m == n) && nat_lt m world.size) && ((known_of world n m == 0) && (nat_lt 0 first_inc && has_begun world stamp m first_inc)))) ≡ true)
    runs = and_both (world.channels.up n) _ may

    order : (is_later world n stamp ≡ true) × (((not (m == n) && nat_lt m world.size) && ((known_of world n m == 0) && (nat_lt 0 first_inc && has_begun world stamp m first_inc))) ≡ true)
    order = and_both (is_later world n stamp) _ runs.1

    rest : ((not (m == n) && nat_lt m world.size) ≡ true) × (((known_of world n m == 0) && (nat_lt 0 first_inc && has_begun world stamp m first_inc)) ≡ true)
    rest = and_both (not (m == n) && nat_lt m world.size) _ order.1

    others : (not (m == n) ≡ true) × (nat_lt m world.size ≡ true)
    others = and_both (not (m == n)) (nat_lt m world.size) rest.0

    known : ((known_of world n m == 0) ≡ true) × ((nat_lt 0 first_inc && has_begun world stamp m first_inc) ≡ true)
    known = and_both (known_of world n m == 0) _ rest.1

    begun_then : (nat_lt 0 first_inc ≡ true) × (has_begun world stamp m first_inc ≡ true)
    begun_then = and_both (nat_lt 0 first_inc) (has_begun world stamp m first_inc) known.1

-- ---- a message of a transaction that is shown

pub shown_fits : ShownFits
shown_fits t world w n m free parcel steady home_in began all n_in on found about =
    let stood = first t world w steady home_in all n free n_in on in
    own_fits t world w steady home_in began all n free n_in on stood.next stood.leads (scene_of world) refl refl stood.stands m (world.channels.peer n m) (Rattle.qs_world_refine.specs.TakenLaws.rest_behind world n m parcel)
    parcel.message (is_next world n m parcel steady found) (is_fit world n m parcel steady found) about
