-- So it is after a restart and a first meeting, and so after each move.
use Rattle.qs_world_refine.proofs.Words.{◌≡◌, inl, inr, ℕ, ◌+◌, ◌≤◌, ◌<◌, ◌==◌, ◌&&◌, not, Bool, true, false, List, ◌++◌, Option, Some, None, is_some, refl, sym, subst, arith, nat_lt, nat_le, nat_tests, ◌⊎◌, list_all, Tid, same_node, Kept, Lent, recovery, recovered_of, NodeValue, Move, Cut, Stop, Rise, event_of, step_with, cut_with, risen_host, reopened, risen, is_later, is_in_order, may_step, may_move, moved, Host, Parcel, known_of, inc_in, count_in, may_be_known, node_no, IsSeated, AreSoundOver}
use Rattle.qs_world_refine.proofs.Words.{MayMoveOver, where_so, stage_with, stage_of, IsSteadyHost, IsSteadyWorld, GivesAt, MachineMoves, is_steady_record, is_steady_parcel, are_two, Stage, IsStage, is_tidy_label, is_tidy_loan, is_tidy_outcome, eqb-self, eqb-true, not-true}
use Rattle.qs_node_kept.specs.declared.kept.KeptLabel.{KeptLabel}
use Rattle.qs_node_step.specs.declared.event.Event.{Event}
use Rattle.qs_world.specs.Moves.{Step, Meet, stamp_limit, has_begun as has_risen}
use Rattle.qs_world.specs.World.{World}
use Rattle.qs_world_refine.specs.Begun.{has_begun}
use Rattle.qs_world_refine.specs.SoundMoves.{MayMove}
use Rattle.qs_world_refine.specs.Steadies.{MoveSteady}
use Rattle.qs_world_refine.proofs.MoveGoes.{later_in, StepMay, step_may}
use Rattle.qs_world_refine.proofs.SaidMoves.{move_said}
use Rattle.qs_world_refine.proofs.SaidTidy.{IsSaidTidy, log_tidy, all_parted}
use Rattle.qs_world_refine.proofs.Seating.{move_seated}
use Rattle.qs_world_refine.proofs.SoundBegin.{all_implied}
use Rattle.qs_world_refine.proofs.SoundParts.{and_both, both_and}
use Rattle.qs_world_refine.proofs.SoundViews.{seen}
use Rattle.qs_world_refine.proofs.SteadyGrows.{Grows, parcels_on, record_on, hosts_after, may_be_on, has_begun_on, stage_stands}
use Rattle.qs_world_refine.proofs.SteadyMays.{steady_may}
use Rattle.qs_world_refine.proofs.SteadyMoves.{step_steady, stop_steady, cut_steady, log_kept}
use Rattle.qs_world_refine.proofs.TidyOpened.{opened_tidy, opened_first}
use Rattle.qs_world_refine.proofs.TidyTaken.{opened_taken}
use Rattle.qs_world_refine.proofs.SteadyMeets.{meet_steady}

both_so : (a b x y : Bool) → (a ≡ true → x ≡ true) → (b ≡ true → y ≡ true) → (a && b) ≡ true → (x && y) ≡ true
both_so a b x y first second is = let both : (a ≡ true) × (b ≡ true) = and_both a b is in both_and x y (first both.0) (second both.1)

-- ---- a restart

module _ (world : World) (steady : IsSteadyWorld world) (n stamp inc : ℕ) (low : n < world.size) (down : world.channels.up n ≡ false) (later : world.channels.inc n < inc) where
  abbrev node : NodeValue
  node = reopened inc (recovered_of (world.hosts n).log) (world.hosts n).node

  abbrev host : Host
  host = risen_host stamp inc (recovered_of (world.hosts n).log) (world.hosts n)

  abbrev up : World
  up = risen world n stamp inc (recovered_of (world.hosts n).log)

  rises : (count : ℕ) → count ≡ 0 → (inc_in world n < inc_in up n) ⊎ ((inc_in world n ≡ inc_in up n) × (count ≤ count_in up n))
  rises count none = by (nat_lt (world.channels.inc n + 1) inc) refl
    where
      before : inc_in world n ≡ world.channels.inc n + 1
      before = rw down refl

      after : inc_in up n ≡ inc
      after = rw (eqb-self n) refl

      by : (b : Bool) → nat_lt (world.channels.inc n + 1) inc ≡ b → (inc_in world n < inc_in up n) ⊎ ((inc_in world n ≡ inc_in up n) × (count ≤ count_in up n))
      by true less = inl (grind (arith, nat_tests, before, after, less))
      by false off = inr (grind (arith, nat_tests, before, after, off, later), grind (arith, none))

  pub grows : Grows world up
  grows = record { size = refl; rises = λ k. by k (k == n) refl }
    where
      none : count_in world n ≡ 0
      none = rw down refl

      by : (k : ℕ) (b : Bool) → (k == n) ≡ b → (inc_in world k < inc_in up k) ⊎ ((inc_in world k ≡ inc_in up k) × (count_in world k ≤ count_in up k))
      by k true same = subst (λ (j : ℕ). (inc_in world j < inc_in up j) ⊎ ((inc_in world j ≡ inc_in up j) × (count_in world j ≤ count_in up j))) (sym (eqb-true k n same)) (rises (count_in world n) none)
      by k false apart = inr (rw apart refl, let same : count_in up k ≡ count_in world k = rw apart refl in grind (arith, same))

  module _ (seated : IsSeated up) (sound : AreSoundOver up) where
    abbrev e : Stage
    e = stage_with up n node

    here : up.hosts n ≡ host
    here = rw (eqb-self n) refl

    place : (world.hosts n).node.setting.node ≡ node_no n
    place = steady.seated.node n low

    past_on : (tid : Tid) → may_be_known world tid ≡ true → may_be_known up tid ≡ true
    past_on = may_be_on world up grows

    begun_on : (tid : Tid) → has_begun world tid ≡ true → has_begun up tid ≡ true
    begun_on = has_begun_on world up grows

    records : list_all (is_steady_record (may_be_known up) (world.hosts n).node.setting.node) ((world.hosts n).log ++ (world.hosts n).waiting) ≡ true
    records = all_implied (is_steady_record (may_be_known world) (world.hosts n).node.setting.node) (is_steady_record (may_be_known up) (world.hosts n).node.setting.node)
        (record_on (may_be_known world) (may_be_known up) past_on (world.hosts n).node.setting.node) ((world.hosts n).log ++ (world.hosts n).waiting) (steady.nodes n low).records

    said : IsSaidTidy (may_be_known up) (world.hosts n).node.setting.node (recovery (world.hosts n).log)
    said = log_tidy (may_be_known up) (world.hosts n).node.setting.node (world.hosts n).log (all_parted _ (world.hosts n).log (world.hosts n).waiting records).0

    none : e.count ≡ 0
    none = (opened_taken e (world.hosts n).node.manager.alloc (recovery (world.hosts n).log) said).none

    stage : IsStage e
    stage = stage_stands up n node low place (steady.seated.nodes n low) (sym (rw (eqb-self n) refl)) (sym count)
      where
        count : count_in up n ≡ node.manager.begun
        count = rw (eqb-self n) refl

    saved : (world.hosts n).node.kept.saved ≡ (world.hosts n).node.kept.now
    saved = (steady.nodes n low).saved

    labels : list_all (is_tidy_label e) (world.hosts n).node.kept.saved.labels ≡ true
    labels = subst (λ (k : Kept). list_all (is_tidy_label e) k.labels ≡ true) (sym saved)
        (all_implied (is_tidy_label (stage_of world n)) (is_tidy_label e) one (world.hosts n).node.kept.now.labels (steady.nodes n low).tidy.labels)
      where
        one : (begun : KeptLabel) → is_tidy_label (stage_of world n) begun ≡ true → is_tidy_label e begun ≡ true
        one begun is = by begun.tid is
          where
            by : (o : Option Tid) → elim o [ None ↦ true | Some tid ↦ has_begun world tid && where_so (is_some begun.owner) (same_node tid.home (world.hosts n).node.setting.node) ] ≡ true
                → elim o [ None ↦ true | Some tid ↦ has_begun up tid && where_so (is_some begun.owner) (same_node tid.home (world.hosts n).node.setting.node) ] ≡ true
            by None is = refl
            by (Some tid) is = both_so (has_begun world tid) _ (has_begun up tid) _ (begun_on tid) (λ its. its) is

    loans : list_all (is_tidy_loan e) (world.hosts n).node.kept.saved.loans ≡ true
    loans = subst (λ (k : Kept). list_all (is_tidy_loan e) k.loans ≡ true) (sym saved)
        (all_implied (is_tidy_loan (stage_of world n)) (is_tidy_loan e) one (world.hosts n).node.kept.now.loans (steady.nodes n low).tidy.loans)
      where
        now : (world.hosts n).node.setting.inc ≡ world.channels.inc n
        now = steady.seated.inc n low

        one : (loan : Lent) → is_tidy_loan (stage_of world n) loan ≡ true → is_tidy_loan e loan ≡ true
        one loan is = both_so (has_begun world loan.tid) (nat_le loan.inc (world.hosts n).node.setting.inc) (has_begun up loan.tid) (nat_le loan.inc inc) (begun_on loan.tid) (λ its. grind (arith, nat_tests, its, now, later)) is

    outcomes : list_all (is_tidy_outcome e) (world.hosts n).node.kept.saved.outcomes ≡ true
    outcomes = subst (λ (k : Kept). list_all (is_tidy_outcome e) k.outcomes ≡ true) (sym saved)
        (all_implied (is_tidy_outcome (stage_of world n)) (is_tidy_outcome e) (λ decided is. both_so (may_be_known world decided.tid) _ (may_be_known up decided.tid) _ (past_on decided.tid) (λ its. its) is) (world.hosts n).node.kept.now.outcomes (steady.nodes n low).tidy.outcomes)

    sound_node : Rattle.qs_world_refine.specs.Sound.is_sound node ≡ true
    sound_node = subst (λ (h : Host). Rattle.qs_world_refine.specs.Sound.is_sound h.node ≡ true) here (sound n low).node

    host_now : IsSteadyHost e host
    host_now = record {
      tidy = opened_tidy e stage none (world.hosts n).node.manager.alloc (recovery (world.hosts n).log) said (world.hosts n).node.kept.saved labels loans outcomes (seen node sound_node).ordered;
      saved = refl;
      first = λ is. opened_first e stage none (world.hosts n).node.manager.alloc (recovery (world.hosts n).log) said (world.hosts n).node.kept.saved labels loans outcomes;
      records = records;
      waiting = rw (steady.seated.stopped n low down) refl;
      unended = (steady.nodes n low).unended;
    }

    pub rise_steady : IsSteadyWorld up
    rise_steady = record {
      seated = seated;
      sound = sound;
      nodes = hosts_after world up n host grows (λ k. refl) (λ k m off knows. there k m off knows) (λ in_run. host_now) steady.nodes;
      peers = λ p q knows. peer p q (p == n) refl knows;
      nobody = steady.nobody;
      posted = λ p q i j. parcels_on world up grows p q (world.channels.posted p q i j) (steady.posted p q i j);
      waits = λ p q. waiting p q (p == n) refl;
      scripts = steady.scripts;
    }
      where
        there : (k m : ℕ) → (k == n) ≡ false → 1 ≤ world.channels.peer k m → 1 ≤ up.channels.peer k m
        there k m off knows = rw off knows

        peer : (p q : ℕ) (b : Bool) → (p == n) ≡ b → 1 ≤ up.channels.peer p q → are_two world.size p q ≡ true
        peer p q true same knows = absurd (let zero_now : up.channels.peer p q ≡ 0 = rw same refl in grind (arith, knows, zero_now))
        peer p q false off knows = steady.peers p q (let same : up.channels.peer p q ≡ world.channels.peer p q = rw off refl in grind (arith, same, knows))

        waiting : (p q : ℕ) (b : Bool) → (p == n) ≡ b → list_all (is_steady_parcel up p q) (up.channels.waits p q) ≡ true
        waiting p q true same = rw same refl
        waiting p q false off = let same : up.channels.waits p q ≡ world.channels.waits p q = rw off refl in
            subst (λ (l : List Parcel). list_all (is_steady_parcel up p q) l ≡ true) (sym same) (parcels_on world up grows p q (world.channels.waits p q) (steady.waits p q))

-- ---- each move

in_order_low : (world : World) (n stamp : ℕ) → is_in_order world n stamp ≡ true → n < world.size
in_order_low world n stamp is = let it : nat_lt n world.size ≡ true = (and_both (nat_lt n world.size) _ (and_both (nat_lt n world.size && nat_lt stamp stamp_limit) _ is).0).0 in grind (arith, nat_tests, it)

pub move_steady : MoveSteady
move_steady world move may gives steady = by move may gives seated sound
  where
    mays : MayMove world move × MayMoveOver world move
    mays = steady_may world move may gives steady

    seated : IsSeated (moved move world)
    seated = move_seated world move may mays.0 mays.1 steady.sound steady.seated

    sound : AreSoundOver (moved move world)
    sound = move_said world move may mays.0 mays.1 steady.sound

    by : (move : Move) → may_move world move ≡ true → MachineMoves world move → IsSeated (moved move world) → AreSoundOver (moved move world) → IsSteadyWorld (moved move world)
    by (Step n stamp free source) may gives seated sound = at (event_of world n stamp source) refl gives seated sound
      where
        its : StepMay world n source
        its = step_may world n stamp source may

        at : (o : Option Event) → event_of world n stamp source ≡ o → GivesAt world n free o → IsSeated (step_with world n stamp free source o) → AreSoundOver (step_with world n stamp free source o) → IsSteadyWorld (step_with world n stamp free source o)
        at None is gives seated sound = steady
        at (Some event) is gives seated sound = step_steady world steady n stamp free source event is its.low its.runs gives seated sound
    by (Cut n stamp free source is_kept cause) may gives seated sound = at (event_of world n stamp source) refl gives seated sound
      where
        its : StepMay world n source
        its = step_may world n stamp source (and_both (may_step world n stamp source) (Rattle.qs_book_machine.specs.Clauses.is_crash cause) may).0

        at : (o : Option Event) → event_of world n stamp source ≡ o → GivesAt world n free o → IsSeated (cut_with world n stamp free is_kept cause o) → AreSoundOver (cut_with world n stamp free is_kept cause o) → IsSteadyWorld (cut_with world n stamp free is_kept cause o)
        at None is gives seated sound = steady
        at (Some event) is gives seated sound = cut_steady world steady n stamp free source event cause is its.low its.runs gives is_kept seated sound
    by (Stop n stamp cause) may gives seated sound =
        let runs : (world.channels.up n ≡ true) × ((is_in_order world n stamp && Rattle.qs_book_machine.specs.Clauses.is_crash cause) ≡ true) = and_both (world.channels.up n) _ may in
        let low : n < world.size = in_order_low world n stamp (and_both (is_in_order world n stamp) _ runs.1).0 in
        stop_steady world steady n stamp cause (world.hosts n).log low runs.0 (log_kept world steady n stamp cause (world.hosts n).log low runs.0) (steady.nodes n low).unended seated sound
    by (Rise n stamp inc) may gives seated sound =
        let rest : (not (world.channels.up n) ≡ true) × ((is_in_order world n stamp && nat_lt (world.channels.inc n) inc) ≡ true) = and_both (not (world.channels.up n)) _ may in
        let parts : (is_in_order world n stamp ≡ true) × (nat_lt (world.channels.inc n) inc ≡ true) = and_both (is_in_order world n stamp) _ rest.1 in
        rise_steady world steady n stamp inc (in_order_low world n stamp parts.0) (not-true (world.channels.up n) rest.0) (grind (arith, nat_tests, parts.1)) seated sound
    by (Meet n stamp m inc) may gives seated sound =
        let runs : (world.channels.up n ≡ true) × ((is_later world n stamp && ((not (m == n) && nat_lt m world.size) && ((known_of world n m == 0) && (nat_lt 0 inc && has_risen world stamp m inc)))) ≡ true) = and_both (world.channels.up n) _ may in
        let parts : (is_later world n stamp ≡ true) × (((not (m == n) && nat_lt m world.size) && ((known_of world n m == 0) && (nat_lt 0 inc && has_risen world stamp m inc))) ≡ true) = and_both (is_later world n stamp) _ runs.1 in
        let pair : ((not (m == n) && nat_lt m world.size) ≡ true) × (((known_of world n m == 0) && (nat_lt 0 inc && has_risen world stamp m inc)) ≡ true) = and_both (not (m == n) && nat_lt m world.size) _ parts.1 in
        let other : (not (m == n) ≡ true) × (nat_lt m world.size ≡ true) = and_both (not (m == n)) _ pair.0 in
        let some : nat_lt 0 inc ≡ true = (and_both (nat_lt 0 inc) _ (and_both (known_of world n m == 0) _ pair.1).1).0 in
        meet_steady world steady n stamp m inc (later_in world n stamp parts.0) other.0 other.1 some seated sound
