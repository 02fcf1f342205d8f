-- A whole step of a node: what shows a transaction goes on to show it as the step's messages are put and its records stand or wait.
use Rattle.qs_world_refine.proofs.Words.{◌≡◌, ℕ, ◌<◌, ◌==◌, ◌&&◌, ◌||◌, not, Bool, true, false, List, [], ◌∷◌, ◌++◌, length, Option, Some, None, refl, sym, ap, subst, ◌∙◌, arith, if◌then◌else◌, unwrap_or, list_any, eqb-true, nat_tests, same_tid, NodeNo, Tid, same_node, is_no_node, Nodes, Record, Participant, NodeValue, work_on, Open, Committed, Aborted, Leads, ShowsAll, is_loose_of, is_forced_of, are_in_turn, node_no, MayClose, AllClose, face, face_at, outcome_seen, outcome_of, unknown}
use Rattle.qs_world_refine.proofs.Words.{unknown_at_home, place, scene_of, sight, same_flag, where_so, IsSteady, and_false, or_last}
use Rattle.qs_base.specs.declared.identifiers.Outcome.{Outcome}
use Rattle.qs_base.specs.declared.identifiers.Outcome.TheVariants as outcomes
use Rattle.qs_engage.specs.Nodes.{has_node}
use Rattle.qs_record.specs.declared.record.Record.TheVariants as records
use Rattle.qs_tm.specs.Manager as tm
use Rattle.qs_world.specs.World.{World}
use Rattle.qs_world_agree.specs.World as machine
use Rattle.qs_world_refine.proofs.EachCame.{case_of}
use Rattle.qs_world_refine.proofs.EachReady.{face_shown}
use Rattle.qs_world_refine.proofs.LaterWorlds.{commit_stays, acks_on, is_committed_cell}
use Rattle.qs_world_refine.proofs.NodeSets.{none_listed}
use Rattle.qs_world_refine.proofs.Reading.{part_known}
use Rattle.qs_world_refine.proofs.SoundHolds.{known_sound}
use Rattle.qs_world_refine.proofs.SoundParts.{and_both}
use Rattle.qs_world_refine.proofs.TurnOn.{became, fate_found, fate_at, Turned, is_aborted_of, is_end_of, same_outcome, same_acks}

-- ---- as the step begins the records that wait stand in turn

module _ (t : Tid) (world : World) (w : machine.World) (steady : IsSteady world) (home_in : t.home.0 < world.size) (all : ShowsAll t world w) (n free : ℕ) (n_in : n < world.size) (on : world.channels.up n ≡ true) where
  abbrev node : NodeValue
  node = (world.hosts n).node

  abbrev q : ℕ
  q = place n (world.channels.inc n)

  -- what the machine knows there, the node keeps
  outcome_kept : (part : Participant) → tm.part_of t node.manager ≡ Some part → w.outcome q ≡ outcome_seen part.outcome (part.engage.home || part.involved)
  outcome_kept part known = (face_shown t world w steady home_in all n n_in on).outcome ∙ ap (λ (p : Participant). outcome_of p) (part_known t node part known)

  outcome_none : tm.part_of t node.manager ≡ None → w.outcome q ≡ outcome_of (unknown node t)
  outcome_none none = (face_shown t world w steady home_in all n n_in on).outcome ∙ ap (λ (o : Option Participant). outcome_of (unwrap_or o (unknown node t))) none

  never_aborted : (a b : Bool) → outcome_of (if a then record (Rattle.qs_tm.specs.Participant.new_participant true) { outcome = if b then Some outcomes.Commit else None } else Rattle.qs_tm.specs.Participant.new_participant false) ≡ Aborted → ⊥
  never_aborted true true is = absurd (cc (is))
  never_aborted true false is = absurd (cc (is))
  never_aborted false b is = absurd (cc (is))

  -- where abort is known the node keeps it
  aborted_kept : w.outcome q ≡ Aborted → (acks : Nodes) × (fate_at t node ≡ became (Some outcomes.Abort) acks)
  aborted_kept aborted = by (tm.part_of t node.manager) refl
    where
      abort_seen : (o : Option Outcome) (b : Bool) → outcome_seen o b ≡ Aborted → o ≡ Some outcomes.Abort
      abort_seen None b is = absurd (cc (is))
      abort_seen (Some outcomes.Commit) true is = absurd (cc (is))
      abort_seen (Some outcomes.Commit) false is = absurd (cc (is))
      abort_seen (Some outcomes.Abort) b is = refl

      by : (o : Option Participant) → tm.part_of t node.manager ≡ o → (acks : Nodes) × (fate_at t node ≡ became (Some outcomes.Abort) acks)
      by None none = absurd (never_aborted (same_node t.home node.setting.node) (Rattle.qs_world_refine.specs.NodeFaces.is_past_commit node t) (sym (outcome_none none) ∙ aborted))
      by (Some part) known = (part.acknowledged, ap fate_found known ∙ ap (λ (o : Option Outcome). became o part.acknowledged) (abort_seen part.outcome (part.engage.home || part.involved) (sym (outcome_kept part known) ∙ aborted)))

  -- where commit is known it is not undecided
  decided_kept : w.outcome q ≡ Committed → (acks : Nodes) → fate_at t node ≡ became None acks → ⊥
  decided_kept committed acks open_now = by (tm.part_of t node.manager) refl
    where
      by : (o : Option Participant) → tm.part_of t node.manager ≡ o → ⊥
      by None none = let both : None ≡ became None acks = sym (ap fate_found none) ∙ open_now in cc (both)
      by (Some part) known = let undecided : part.outcome ≡ None = same_outcome part.outcome None part.acknowledged acks (sym (ap fate_found known) ∙ open_now) in
          let both : Committed ≡ Open = sym committed ∙ (outcome_kept part known ∙ ap (λ (o : Option Outcome). outcome_seen o (part.engage.home || part.involved)) undecided) in cc (both)

  abbrev Close : List Record → Type 0
  Close rs = AllClose t n q w rs

  some_aborted : (rs : List Record) → Close rs → list_any (is_aborted_of t) rs ≡ true → w.outcome q ≡ Aborted
  some_aborted [] close has = absurd (cc (has))
  some_aborted (r ∷ rs) close has = by (is_aborted_of t r) refl has (some_aborted rs close.1)
    where
      its : (r : Record) → MayClose t n q w r → is_aborted_of t r ≡ true → w.outcome q ≡ Aborted
      its (records.Prepare u server covers changes) may is = absurd (cc (is))
      its (records.Commit u told) may is = absurd (cc (is))
      its (records.Aborted u) may is = may is
      its (records.End u) may is = absurd (cc (is))

      by : (b : Bool) → is_aborted_of t r ≡ b → (b || list_any (is_aborted_of t) rs) ≡ true → (list_any (is_aborted_of t) rs ≡ true → w.outcome q ≡ Aborted) → w.outcome q ≡ Aborted
      by true is so more = its r close.0 is
      by false is so more = more so

  some_end : (rs : List Record) → Close rs → list_any (is_end_of t) rs ≡ true → (n ≡ t.home.0) × (w.outcome q ≡ Committed)
  some_end [] close has = absurd (cc (has))
  some_end (r ∷ rs) close has = by (is_end_of t r) refl has (some_end rs close.1)
    where
      its : (r : Record) → MayClose t n q w r → is_end_of t r ≡ true → (n ≡ t.home.0) × (w.outcome q ≡ Committed)
      its (records.Prepare u server covers changes) may is = absurd (cc (is))
      its (records.Commit u told) may is = absurd (cc (is))
      its (records.Aborted u) may is = absurd (cc (is))
      its (records.End u) may is = let all = may is in (all.0, all.1.0)

      by : (b : Bool) → is_end_of t r ≡ b → (b || list_any (is_end_of t) rs) ≡ true → (list_any (is_end_of t) rs ≡ true → (n ≡ t.home.0) × (w.outcome q ≡ Committed)) → (n ≡ t.home.0) × (w.outcome q ≡ Committed)
      by true is so more = its r close.0 is
      by false is so more = more so

  -- none of those that wait had to be forced
  none_forced : (rs : List Record) → Close rs → list_any (is_forced_of t) rs ≡ false
  none_forced [] close = refl
  none_forced (r ∷ rs) close = neither (one r close.0) (none_forced rs close.1)
    where
      neither : {a b : Bool} → a ≡ false → b ≡ false → (a || b) ≡ false
      neither x y = rw (x, y) refl

      one : (r : Record) → MayClose t n q w r → is_forced_of t r ≡ false
      one (records.Prepare u server covers changes) may = rw may refl
      one (records.Commit u told) may = rw may refl
      one (records.Aborted u) may = and_false (same_tid t u)
      one (records.End u) may = and_false (same_tid t u)

  turn_waits : (rs : List Record) → list_any (is_forced_of t) rs ≡ false → are_in_turn t rs ≡ true
  turn_waits [] none = refl
  turn_waits (r ∷ rs) none = both (free_of (is_loose_of t r) (list_any (is_forced_of t) rs) (or_last (is_forced_of t r) _ none)) (turn_waits rs (or_last (is_forced_of t r) _ none))
    where
      free_of : (a b : Bool) → b ≡ false → (not a || not b) ≡ true
      free_of true b is = rw is refl
      free_of false b is = refl

      both : {a b : Bool} → a ≡ true → b ≡ true → (a && b) ≡ true
      both x y = rw (x, y) refl

  -- so where the machine goes on to f, and whatever the step may end
  pub turned_first : (ending : Bool) (f : machine.World) (last : Rattle.qs_world_refine.specs.Sights.Sight) → last.size ≡ world.size → last.inc ≡ world.channels.inc → Leads w f → Rattle.qs_world_refine.specs.Sights.ShowsStage t last f → Turned (case_of t world n ending f) (work_on node free)
  turned_first ending f last sized same leads stage = record {
    aborted = λ has. aborted_kept (some_aborted (world.hosts n).waiting close (sym (plain (is_aborted_of t)) ∙ has));
    ended = λ has. let its = some_end (world.hosts n).waiting close (sym (plain (is_end_of t)) ∙ has) in (at_home its.0, decided_kept its.1);
    ends = λ has. absurd (cc (has));
    turn = ap (are_in_turn t) (Rattle.qs_world_refine.proofs.Sending.append_nil (world.hosts n).waiting) ∙ turn_waits (world.hosts n).waiting (none_forced (world.hosts n).waiting close);
    learnt = λ away acks its. is_committed_cell f (commit_stays w f all.seen.lawful leads (committed_cell acks its));
    acked = λ o acks its m has. acked_part acks (by_part o acks its) m has;
  }
    where
      close : Close (world.hosts n).waiting
      close = all.seen.closes n n_in on

      plain : (p : Record → Bool) → list_any p ((world.hosts n).waiting ++ []) ≡ list_any p (world.hosts n).waiting
      plain p = ap (list_any p) (Rattle.qs_world_refine.proofs.Sending.append_nil (world.hosts n).waiting)

      by_part : (o : Option Outcome) (acks : Nodes) → fate_at t node ≡ became o acks → (part : Participant) × ((tm.part_of t node.manager ≡ Some part) × (part.acknowledged ≡ acks))
      by_part o acks its = by (tm.part_of t node.manager) refl
        where
          by : (found : Option Participant) → tm.part_of t node.manager ≡ found → (part : Participant) × ((tm.part_of t node.manager ≡ Some part) × (part.acknowledged ≡ acks))
          by None none = absurd (let both : None ≡ became o acks = sym (ap fate_found none) ∙ its in cc (both))
          by (Some part) known = (part, (known, same_acks part.outcome o part.acknowledged acks (sym (ap fate_found known) ∙ its)))

      -- at the home's node the machine has it too; elsewhere nobody acknowledges
      acked_part : (acks : Nodes) → (part : Participant) × ((tm.part_of t node.manager ≡ Some part) × (part.acknowledged ≡ acks)) → (m : ℕ) → has_node acks (node_no m) ≡ true → f.acknowledged m ≡ true
      acked_part acks found m has = by found.0.engage.home refl
        where
          sound_part : Rattle.qs_world_refine.proofs.SoundViews.PartSound node t found.0
          sound_part = known_sound t node found.0 found.1.0 (steady.sound n n_in).node

          has_it : has_node found.0.acknowledged (node_no m) ≡ true
          has_it = ap (λ (s : Nodes). has_node s (node_no m)) found.1.1 ∙ has

          by : (b : Bool) → found.0.engage.home ≡ b → f.acknowledged m ≡ true
          by true home = acks_on t (sight t (scene_of world)) last w f home_in (subst (λ (k : ℕ). t.home.0 < k) (sym sized) home_in) (ap (λ (g : ℕ → ℕ). g t.home.0) same) all.seen.shown.stage stage leads m
              (subst (λ (k : ℕ). world.channels.up k ≡ true → tm.part_of t (world.hosts k).node.manager ≡ Some found.0 → w.acknowledged m ≡ true) at_n (λ up known. ack up known m has_it) on found.1.0)
            where
              at_n : t.home.0 ≡ n
              at_n = eqb-true t.home.0 n (sym (ap (λ (k : NodeNo). same_node t.home k) (steady.seated.node n n_in)) ∙ flag found.0.engage.home (same_node t.home node.setting.node) home sound_part.homed)
                where
                  flag : (a b : Bool) → a ≡ true → same_flag a b ≡ true → b ≡ true
                  flag true b is so = so
                  flag false b is so = absurd (cc (is))

              ack : world.channels.up t.home.0 ≡ true → tm.part_of t (world.hosts t.home.0).node.manager ≡ Some found.0 → (k : ℕ) → has_node found.0.acknowledged (node_no k) ≡ true → w.acknowledged k ≡ true
              ack up known = all.outcome.acknowledged found.0 up known
          by false away = absurd (let none : has_node found.0.acknowledged (node_no m) ≡ false = none_listed found.0.acknowledged m whole (second (nobody_there home_off)) in cc (none, has_it))
            where
              home_off : not found.0.engage.home ≡ true
              home_off = rw away refl

              nobody_there : not found.0.engage.home ≡ true → (is_no_node found.0.tell && is_no_node found.0.acknowledged) ≡ true
              nobody_there off = so (not found.0.engage.home) (is_no_node found.0.tell && is_no_node found.0.acknowledged) off sound_part.silent
                where
                  so : (a b : Bool) → a ≡ true → where_so a b ≡ true → b ≡ true
                  so true b _ holds = holds
                  so false b off holds = absurd (cc (off))

              second : (is_no_node found.0.tell && is_no_node found.0.acknowledged) ≡ true → is_no_node found.0.acknowledged ≡ true
              second is = (and_both (is_no_node found.0.tell) (is_no_node found.0.acknowledged) is).1

              whole : length found.0.acknowledged.has ≡ 16
              whole = eqb-true (length found.0.acknowledged.has) 16 (and_both (length found.0.tell.has == 16) (length found.0.acknowledged.has == 16) (and_both (length found.0.told.has == 16) _ (and_both ((length found.0.engage.peers == 16) && (length found.0.members == 7)) _ sound_part.whole).1).1).1

      at_home : n ≡ t.home.0 → same_node t.home node.setting.node ≡ true
      at_home is = ap (λ (k : NodeNo). same_node t.home k) (steady.seated.node n n_in) ∙ grind (arith, nat_tests, is)

      committed_cell : (acks : Nodes) → fate_at t node ≡ became (Some outcomes.Commit) acks → w.cell ≡ Committed
      committed_cell acks its = by (tm.part_of t node.manager) refl
        where
          by : (o : Option Participant) → tm.part_of t node.manager ≡ o → w.cell ≡ Committed
          by None none = absurd (let both : None ≡ became (Some outcomes.Commit) acks = sym (ap fate_found none) ∙ its in cc (both))
          by (Some part) known = all.outcome.learnt n part n_in on known (same_outcome part.outcome (Some outcomes.Commit) part.acknowledged acks (sym (ap fate_found known) ∙ its))
