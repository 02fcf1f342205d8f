-- A Told comes, and what stood of its transaction stands.
use Rattle.qs_world_refine.proofs.Words.{◌≡◌, ℕ, ◌==◌, Bool, true, false, List, Option, Some, None, is_some, refl, sym, subst, ap, ◌∙◌, arith, if◌then◌else◌, is_at, list_any, nat_tests, tid_cmp, NodeNo, Tid, same_node, listed, Message, aborted_participant, Participant, log, Work, part_of, with_manager, message_came, end_told, is_other_node, keep_abort_told, take_names, told_at_home, told_known, told_unknown, ShowsTold, node_no, Scene, handed, same_flag, StaysSound, FitsMessage, may_doubt, Stands}
use Rattle.qs_world_refine.proofs.Words.{GoesOn, IsNext, Goes, TakesTold, ne_eqb}
use Rattle.qs_base.specs.declared.identifiers.Outcome.{Outcome}
use Rattle.qs_base.specs.declared.identifiers.Outcome.TheVariants as outcomes
use Rattle.qs_packet.specs.declared.message.Message.TheVariants as messages
use Rattle.qs_record.specs.declared.record.Record.TheVariants as records
use Rattle.qs_tm.specs.Manager as tm
use Rattle.qs_tm.specs.Outcomes as outcome_rules
use Rattle.qs_world_agree.specs.World.{World}
use Rattle.qs_world_refine.specs.DecisionLaws.{GoesTold, GoesEnding}
use Rattle.qs_world_refine.specs.ToldWhole.{ToldStands, ToldAwayStands}
use Rattle.qs_world_refine.proofs.DecidedStands.{KeepsOutcome, KeepOutcomes, outcome_on, outcome_sends}
use Rattle.qs_world_refine.proofs.During.{Leaves}
use Rattle.qs_world_refine.proofs.Forgetting.{forgotten, order_changed}
use Rattle.qs_world_refine.proofs.KindsKept.{KeepsKinds}
use Rattle.qs_world_refine.proofs.Maps.{lookup_changed, lookup_put}
use Rattle.qs_world_refine.proofs.MessageKinds.{message_kinds}
use Rattle.qs_world_refine.proofs.MessageStands.{fits_sound}
use Rattle.qs_world_refine.proofs.MetWork.{tid_itself}
use Rattle.qs_world_refine.proofs.OthersCame.{told_leaves}
use Rattle.qs_world_refine.proofs.OutcomeAfter.{decided_after, stands_after}
use Rattle.qs_world_refine.proofs.SettleRules.{Answers, beside, beside_apart, IsClear}
use Rattle.qs_world_refine.proofs.SettleStands.{manager_fits, whole_known}
use Rattle.qs_world_refine.proofs.SoundHolds.{known_sound}
use Rattle.qs_world_refine.proofs.SoundViews.{seen}
use Rattle.qs_world_refine.proofs.ToldAbort.{told_abort}
use Rattle.qs_world_refine.proofs.ToldAgain.{told_elsewhere, told_nobody, told_running}
use Rattle.qs_world_refine.proofs.ToldCame.{told_commit, told_last}
use Rattle.qs_world_refine.proofs.ToldUnknown.{told_unknown_goes}
use Rattle.std.proofs.lemmas.Option.{none-some}

-- ---- it changes nothing

module _ (t : Tid) (scene : Scene) (n m i : ℕ) (further : List NodeNo) (rest : List Message) (work : Work) (w : World) (next : IsNext scene n m i (messages.Told t further) rest) (fits : FitsMessage (node_no m) (messages.Told t further) work) (is : Stands t scene n work w) where
  left : Leaves (beside t) work (message_came (node_no m) (messages.Told t further) work)
  left = told_leaves (beside t) t (beside_apart t) (node_no m) further work

  kinds : KeepsKinds work (message_came (node_no m) (messages.Told t further) work)
  kinds = message_kinds (node_no m) (messages.Told t further) work

  sound : StaysSound work (message_came (node_no m) (messages.Told t further) work)
  sound = fits_sound t scene n m i (messages.Told t further) rest work w next is fits

  same_stands : message_came (node_no m) (messages.Told t further) work ≡ work → Goes t (handed scene m i n rest) n (message_came (node_no m) (messages.Told t further) work) w
      → GoesOn t (handed scene m i n rest) n (message_came (node_no m) (messages.Told t further) work) w
  same_stands same goes = stands_after t scene n m i rest work (message_came (node_no m) (messages.Told t further) work) w is goes left sound kinds
      (subst (λ (k : Work). IsClear t scene n k) (sym same) is.clear) (subst (λ (k : Work). Answers t scene n k) (sym same) is.superior)

pub told_away_stands : ToldAwayStands
told_away_stands t scene n m i further rest work w next fits elsewhere is =
    same_stands t scene n m i further rest work w next fits is
    (ap (λ (b : Bool). if b then told_at_home (node_no m) t further work else work) (ap (λ (k : NodeNo). same_node t.home k) is.at.node ∙ ne_eqb t.home.0 n elsewhere))
    (told_elsewhere t scene n m i further rest work w is.shown is.at next elsewhere)

-- ---- at the home's node

-- it knows the commit: what stands stands, with what the machine has of acknowledgements then
pub record Taking (t : Tid) (scene : Scene) (m i : ℕ) (further : List NodeNo) (rest : List Message) (work : Work) (w : World) : Type 0 where
  pub on : GoesOn t (handed scene m i t.home.0 rest) t.home.0 (message_came (node_no m) (messages.Told t further) work) w
  pub told : tm.all_acknowledged t (node_no m) work.node.manager ≡ false → ShowsTold t (message_came (node_no m) (messages.Told t further) work) on.next
  pub ended : tm.all_acknowledged t (node_no m) work.node.manager ≡ true → (k : ℕ) → on.next.commit_list k ≡ true → on.next.acknowledged k ≡ true

module _ (t : Tid) (scene : Scene) (m i : ℕ) (further : List NodeNo) (rest : List Message) (work : Work) (w : World) (next : IsNext scene t.home.0 m i (messages.Told t further) rest) (fits : FitsMessage (node_no m) (messages.Told t further) work)
    (takes : TakesTold t scene m further work w) (is : Stands t scene t.home.0 work w) where
  here : (t.home.0 == t.home.0) ≡ true
  here = grind (arith, nat_tests)

  home_here : same_node t.home work.node.setting.node ≡ true
  home_here = ap (λ (k : NodeNo). same_node t.home k) is.at.node ∙ here

  abbrev new : Work
  new = message_came (node_no m) (messages.Told t further) work

  comes_is : (o : Option Participant) → part_of t work ≡ o → message_came (node_no m) (messages.Told t further) work ≡ (elim o [ None ↦ told_unknown (node_no m) t further work | Some part ↦ told_known (node_no m) t further part.outcome work ])
  comes_is o at = ap (λ (b : Bool). if b then told_at_home (node_no m) t further work else work) home_here
      ∙ ap (λ (o : Option Participant). elim o [ None ↦ told_unknown (node_no m) t further work | Some part ↦ told_known (node_no m) t further part.outcome work ]) at

  its_left : Leaves (beside t) work (message_came (node_no m) (messages.Told t further) work)
  its_left = left t scene t.home.0 m i further rest work w next fits is

  its_kinds : KeepsKinds work (message_came (node_no m) (messages.Told t further) work)
  its_kinds = kinds t scene t.home.0 m i further rest work w next fits is

  its_sound : StaysSound work (message_came (node_no m) (messages.Told t further) work)
  its_sound = sound t scene t.home.0 m i further rest work w next fits is

  -- ---- it is known

  module _ (part : Participant) (known : part_of t work ≡ Some part) where
    known_is : (o : Option Outcome) → part.outcome ≡ o → message_came (node_no m) (messages.Told t further) work ≡ told_known (node_no m) t further o work
    known_is o at = comes_is (Some part) known ∙ ap (λ (o : Option Outcome). told_known (node_no m) t further o work) at

    home : part.engage.home ≡ true
    home = on part.engage.home (same_node t.home work.node.setting.node) home_here (known_sound t work.node part known is.sound).homed
      where
        on : (a b : Bool) → b ≡ true → same_flag a b ≡ true → a ≡ true
        on true b so same = refl
        on false true so same = absurd (cc same)
        on false false so same = absurd (cc so)

    keeps : (o : Outcome) → part.outcome ≡ Some o → KeepOutcomes t work (message_came (node_no m) (messages.Told t further) work) → Goes t (handed scene m i t.home.0 rest) t.home.0 (message_came (node_no m) (messages.Told t further) work) w
        → GoesOn t (handed scene m i t.home.0 rest) t.home.0 (message_came (node_no m) (messages.Told t further) work) w
    keeps o decided keep goes = decided_after t scene t.home.0 m i rest work (message_came (node_no m) (messages.Told t further) work) w is goes its_left its_sound its_kinds
        now.next now.known (ap is_some (now.outcome ∙ decided)) (λ k has. is.superior part k known (now.superior (node_no k) has))
      where
        now : KeepsOutcome t (message_came (node_no m) (messages.Told t further) work) part
        now = keep part known

    -- with abort
    names : part.outcome ≡ Some outcomes.Abort → GoesOn t (handed scene m i t.home.0 rest) t.home.0 (message_came (node_no m) (messages.Told t further) work) w
    names aborted = keeps outcomes.Abort aborted (subst (λ (k : Work). KeepOutcomes t work k) (sym (known_is (Some outcomes.Abort) aborted)) named)
        (told_abort t scene m i further rest work part w is.shown is.at next (whole_known t scene t.home.0 work w is part known) aborted)
      where
        took : KeepOutcomes t work (with_manager (tm.take_names t further) work)
        took p at = record { next = outcome_rules.take_names t.home further p; known = lookup_changed (is_at (tid_cmp t)) (outcome_rules.take_names t.home further) work.node.manager.known p at; outcome = refl; superior = λ k has. has }

        named : KeepOutcomes t work (take_names t further work)
        named = outcome_on t work (with_manager (tm.take_names t further) work) (take_names t further work) took
            (outcome_sends t (listed (tm.new_names t further work.node.manager)) (messages.Tell t outcomes.Abort) (with_manager (tm.take_names t further) work))

    -- with commit
    module _ (committed : part.outcome ≡ Some outcomes.Commit) where
      took : Work
      took = with_manager (tm.acknowledged t (node_no m)) work

      ends_is : (b : Bool) → tm.all_acknowledged t (node_no m) work.node.manager ≡ b → message_came (node_no m) (messages.Told t further) work ≡ end_told b t (with_manager (tm.acknowledged t (node_no m)) work)
      ends_is b at = known_is (Some outcomes.Commit) committed ∙ ap (λ (b : Bool). end_told b t (with_manager (tm.acknowledged t (node_no m)) work)) at

      told_goes : tm.all_acknowledged t (node_no m) work.node.manager ≡ false → GoesTold t (handed scene m i t.home.0 rest) t.home.0 (message_came (node_no m) (messages.Told t further) work) w
      told_goes open_still = told_commit t scene m i further rest work part w is.lawful is.shown is.at next (record { knows = whole_known t scene t.home.0 work w is part known; home = home; committed = committed }) (takes.acknowledged part known committed) open_still

      ending_goes : tm.all_acknowledged t (node_no m) work.node.manager ≡ true → GoesEnding t (handed scene m i t.home.0 rest) t.home.0 (message_came (node_no m) (messages.Told t further) work) w
      ending_goes all = told_last t scene m i further rest work part w is.lawful is.shown is.at next (record { knows = whole_known t scene t.home.0 work w is part known; home = home; committed = committed }) (takes.acknowledged part known committed)
          (seen work.node is.sound).ordered all (takes.listed part known committed all) (takes.past part known committed all)

      waits : tm.all_acknowledged t (node_no m) work.node.manager ≡ false → GoesOn t (handed scene m i t.home.0 rest) t.home.0 (message_came (node_no m) (messages.Told t further) work) w
      waits open_still = keeps outcomes.Commit committed (subst (λ (k : Work). KeepOutcomes t work k) (sym (ends_is false open_still)) acknowledges) (record { next = (told_goes open_still).next; leads = (told_goes open_still).leads; shown = (told_goes open_still).shown })
        where
          acknowledges : KeepOutcomes t work (with_manager (tm.acknowledged t (node_no m)) work)
          acknowledges p at = record { next = outcome_rules.acknowledged (node_no m) p; known = lookup_changed (is_at (tid_cmp t)) (outcome_rules.acknowledged (node_no m)) work.node.manager.known p at; outcome = refl; superior = λ k has. has }

      ends : tm.all_acknowledged t (node_no m) work.node.manager ≡ true → GoesOn t (handed scene m i t.home.0 rest) t.home.0 (message_came (node_no m) (messages.Told t further) work) w
      ends all = stands_after t scene t.home.0 m i rest work (message_came (node_no m) (messages.Told t further) work) w is (record { next = (ending_goes all).next; leads = (ending_goes all).leads; shown = (ending_goes all).shown }) its_left its_sound its_kinds clears answers
        where
          none : part_of t (message_came (node_no m) (messages.Told t further) work) ≡ None
          none = ap (λ (k : Work). part_of t k) (ends_is true all)
              ∙ forgotten t (log (records.End t) (with_manager (tm.acknowledged t (node_no m)) work)).node.manager (order_changed t (outcome_rules.logged (records.End t)) (tm.acknowledged t (node_no m) work.node.manager) (order_changed t (outcome_rules.acknowledged (node_no m)) work.node.manager (seen work.node is.sound).ordered))

          clears : IsClear t scene t.home.0 (message_came (node_no m) (messages.Told t further) work)
          clears so s = absurd (cc (sym here ∙ (sym (ap (may_doubt (t.home.0 == t.home.0)) none) ∙ so)))

          answers : Answers t scene t.home.0 (message_came (node_no m) (messages.Told t further) work)
          answers p k its has = absurd (none-some p (sym none ∙ its))

      told : GoesOn t (handed scene m i t.home.0 rest) t.home.0 (message_came (node_no m) (messages.Told t further) work) w
      told = by (tm.all_acknowledged t (node_no m) work.node.manager) refl
        where
          by : (b : Bool) → tm.all_acknowledged t (node_no m) work.node.manager ≡ b → GoesOn t (handed scene m i t.home.0 rest) t.home.0 (message_came (node_no m) (messages.Told t further) work) w
          by true all = ends all
          by false open_still = waits open_still

      -- and the machine has taken what the home's node has of acknowledgements, or all
      pub taking : Taking t scene m i further rest work w
      unfolding waits ends keeps stands_after decided_after
      taking = by (tm.all_acknowledged t (node_no m) work.node.manager) refl
        where
          by : (b : Bool) → tm.all_acknowledged t (node_no m) work.node.manager ≡ b → Taking t scene m i further rest work w
          by true all = record { on = ends all; told = λ still. absurd (cc (still, all)); ended = λ _. (ending_goes all).all_told }
          by false open_still = record { on = waits open_still; told = λ _. (told_goes open_still).told; ended = λ all. absurd (cc (all, open_still)) }

    known_stands : (o : Option Outcome) → part.outcome ≡ o → GoesOn t (handed scene m i t.home.0 rest) t.home.0 (message_came (node_no m) (messages.Told t further) work) w
    known_stands None undecided = same_stands t scene t.home.0 m i further rest work w next fits is (known_is None undecided) (told_running t scene m i further rest work part w is.shown is.at next known undecided)
    known_stands (Some outcomes.Commit) committed = told committed
    known_stands (Some outcomes.Abort) aborted = names aborted

  -- ---- it is not known

  module _ (none : part_of t work ≡ None) where
    unknown_is : (b : Bool) → list_any (is_other_node t) further ≡ b → message_came (node_no m) (messages.Told t further) work ≡ (if b then take_names t further (keep_abort_told t (node_no m) work) else work)
    unknown_is b at = comes_is None none ∙ ap (λ (b : Bool). if b then take_names t further (keep_abort_told t (node_no m) work) else work) at

    others : list_any (is_other_node t) further ≡ true → GoesOn t (handed scene m i t.home.0 rest) t.home.0 (message_came (node_no m) (messages.Told t further) work) w
    others some = decided_after t scene t.home.0 m i rest work (message_came (node_no m) (messages.Told t further) work) w is
        (told_unknown_goes t scene m i further rest work w is.lawful is.shown is.at next (manager_fits t scene t.home.0 work w is) none some (takes.earlier none some)) its_left its_sound its_kinds
        now.next (ap (λ (k : Work). part_of t k) (unknown_is true some) ∙ now.known) (ap is_some now.outcome) (λ k has. absurd (none-some (node_no k) (now.superior (node_no k) has)))
      where
        kept : tm.part_of t (tm.keep_abort t work.node.manager) ≡ Some (aborted_participant (tm.is_home t work.node.manager))
        kept = ap (λ (b : Bool). tm.part_of t (if b then work.node.manager else tm.put_part t (aborted_participant (tm.is_home t work.node.manager)) work.node.manager)) (ap is_some none)
            ∙ lookup_put tid_cmp t (aborted_participant (tm.is_home t work.node.manager)) (tid_itself t) work.node.manager.known

        before : part_of t (keep_abort_told t (node_no m) work) ≡ Some (outcome_rules.add_tell (node_no m) (aborted_participant (tm.is_home t work.node.manager)))
        before = lookup_changed (is_at (tid_cmp t)) (outcome_rules.add_tell (node_no m)) (tm.keep_abort t work.node.manager).known (aborted_participant (tm.is_home t work.node.manager)) kept

        now : KeepsOutcome t (take_names t further (keep_abort_told t (node_no m) work)) (outcome_rules.take_names t.home further (outcome_rules.add_tell (node_no m) (aborted_participant (tm.is_home t work.node.manager))))
        now = outcome_sends t (listed (tm.new_names t further (keep_abort_told t (node_no m) work).node.manager)) (messages.Tell t outcomes.Abort) (with_manager (tm.take_names t further) (keep_abort_told t (node_no m) work))
            (outcome_rules.take_names t.home further (outcome_rules.add_tell (node_no m) (aborted_participant (tm.is_home t work.node.manager))))
            (lookup_changed (is_at (tid_cmp t)) (outcome_rules.take_names t.home further) (keep_abort_told t (node_no m) work).node.manager.known (outcome_rules.add_tell (node_no m) (aborted_participant (tm.is_home t work.node.manager))) before)

    unknown_stands : (b : Bool) → list_any (is_other_node t) further ≡ b → GoesOn t (handed scene m i t.home.0 rest) t.home.0 (message_came (node_no m) (messages.Told t further) work) w
    unknown_stands true some = others some
    unknown_stands false nobody = same_stands t scene t.home.0 m i further rest work w next fits is (unknown_is false nobody) (told_nobody t scene m i further rest work w is.shown is.at next none nobody)

pub told_stands : ToldStands
told_stands t scene m i further rest work w next fits takes is = by (part_of t work) refl
  where
    by : (o : Option Participant) → part_of t work ≡ o → GoesOn t (handed scene m i t.home.0 rest) t.home.0 (message_came (node_no m) (messages.Told t further) work) w
    by None none = unknown_stands t scene m i further rest work w next fits takes is none (list_any (is_other_node t) further) refl
    by (Some part) known = known_stands t scene m i further rest work w next fits takes is part known part.outcome refl
