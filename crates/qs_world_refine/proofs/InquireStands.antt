-- An Inquire comes to the home's node, and what stood of its transaction stands.
use Rattle.qs_world_refine.proofs.Words.{◌≡◌, ◌≢◌, ℕ, ◌==◌, ◌&&◌, not, Bool, true, false, List, Option, Some, None, is_some, refl, sym, subst, ap, ◌∙◌, arith, if◌then◌else◌, is_at, nat_tests, tid_cmp, NodeNo, Tid, same_node, Message, aborted_participant, Participant, was_committed, answer_unknown, answer_known, send, NodeValue, Work, part_of, with_manager, message_came, keep_abort_told, node_no, began_here, KeepsPast, Scene, handed, same_flag, where_so, StaysSound, Stands, GoesOn, IsNext, Goes}
use Rattle.qs_world_refine.proofs.Words.{eq-eqb, and_from}
use Rattle.qs_base.specs.declared.identifiers.Outcome.{Outcome}
use Rattle.qs_base.specs.declared.identifiers.Outcome.TheVariants as outcomes
use Rattle.qs_packet.specs.declared.message.Message.TheVariants as messages
use Rattle.qs_tm.specs.Manager as tm
use Rattle.qs_tm.specs.Outcomes as outcome_rules
use Rattle.qs_tm.specs.Participant as participant
use Rattle.qs_world_agree.specs.World.{World}
use Rattle.qs_world_refine.specs.OutcomeWhole.{InquireStands}
use Rattle.qs_world_refine.proofs.DecidedStands.{KeepsOutcome, KeepOutcomes, outcome_on, outcome_sent}
use Rattle.qs_world_refine.proofs.During.{Leaves}
use Rattle.qs_world_refine.proofs.InquiryCame.{running, commit, past, abort}
use Rattle.qs_world_refine.proofs.InquiryUnknown.{unknown}
use Rattle.qs_world_refine.proofs.KindsKept.{KeepsKinds}
use Rattle.qs_world_refine.proofs.Maps.{lookup_changed, lookup_put}
use Rattle.qs_world_refine.proofs.MessageKinds.{message_kinds}
use Rattle.qs_world_refine.proofs.MessageStands.{fits_sound}
use Rattle.qs_world_refine.proofs.MetWork.{tid_itself}
use Rattle.qs_world_refine.proofs.OthersCame.{inquiry_leaves}
use Rattle.qs_world_refine.proofs.OutcomeAfter.{stands_after, decided_after, unknown_after, send_records}
use Rattle.qs_world_refine.proofs.PassCarried.{Carried}
use Rattle.qs_world_refine.proofs.SendGoes.{send_node}
use Rattle.qs_world_refine.proofs.SettleRules.{beside, beside_apart, clear_carried, answers_carried}
use Rattle.qs_world_refine.proofs.SettleStands.{is_at_home, whole_known, manager_fits}
use Rattle.qs_world_refine.proofs.SoundHolds.{known_sound}

module _ (t : Tid) (scene : Scene) (m i : ℕ) (rest : List Message) (work : Work) (w : World) (next : IsNext scene t.home.0 m i (messages.Inquire t) rest) (is : Stands t scene t.home.0 work w) where
  here : (t.home.0 == t.home.0) ≡ true
  here = grind (arith, nat_tests)

  comes_is : (o : Option Participant) → part_of t work ≡ o → message_came (node_no m) (messages.Inquire t) work ≡ (elim o [ None ↦ answer_unknown (node_no m) t work | Some part ↦ answer_known (node_no m) t part.outcome work ])
  comes_is o at = ap (λ (b : Bool). if b then elim (part_of t work) [ None ↦ answer_unknown (node_no m) t work | Some part ↦ answer_known (node_no m) t part.outcome work ] else work) (ap (λ (k : NodeNo). same_node t.home k) is.at.node ∙ here)
      ∙ ap (λ (o : Option Participant). elim o [ None ↦ answer_unknown (node_no m) t work | Some part ↦ answer_known (node_no m) t part.outcome work ]) at

  left : Leaves (beside t) work (message_came (node_no m) (messages.Inquire t) work)
  left = inquiry_leaves (beside t) t (beside_apart t) (node_no m) work

  kinds : KeepsKinds work (message_came (node_no m) (messages.Inquire t) work)
  kinds = message_kinds (node_no m) (messages.Inquire t) work

  sound : StaysSound work (message_came (node_no m) (messages.Inquire t) work)
  sound = fits_sound t scene t.home.0 m i (messages.Inquire t) rest work w next is tt

  -- ---- it is known

  module _ (part : Participant) (known : part_of t work ≡ Some part) where
    known_is : (o : Option Outcome) → part.outcome ≡ o → message_came (node_no m) (messages.Inquire t) work ≡ answer_known (node_no m) t o work
    known_is o at = comes_is (Some part) known ∙ ap (λ (o : Option Outcome). answer_known (node_no m) t o work) at

    runs : part.outcome ≡ None → GoesOn t (handed scene m i t.home.0 rest) t.home.0 (message_came (node_no m) (messages.Inquire t) work) w
    runs undecided = stands_after t scene t.home.0 m i rest work (message_came (node_no m) (messages.Inquire t) work) w is
        (running t scene m i rest work part w is.shown (is_at_home t scene work w is part known undecided) next) left sound kinds
        (clear_carried t scene t.home.0 work (message_came (node_no m) (messages.Inquire t) work) w is part known undecided carried) (answers_carried t scene t.home.0 work (message_came (node_no m) (messages.Inquire t) work) w is part known undecided carried)
      where
        carried : Carried t work (message_came (node_no m) (messages.Inquire t) work) part
        carried = subst (λ (k : Work). Carried t work k part) (sym (known_is None undecided)) (record {
          next = participant.add_told (node_no m) part;
          known = lookup_changed (is_at (tid_cmp t)) (participant.add_told (node_no m)) work.node.manager.known part known;
          outcome = refl;
          superior = λ k has. has;
          unprepared = λ off. (off, refl);
        })

    home : part.engage.home ≡ true
    home = on part.engage.home (same_node t.home work.node.setting.node) (ap (λ (k : NodeNo). same_node t.home k) is.at.node ∙ here) (known_sound t work.node part known is.sound).homed
      where
        on : (a b : Bool) → b ≡ true → same_flag a b ≡ true → a ≡ true
        on true b so same = refl
        on false true so same = absurd (cc same)
        on false false so same = absurd (cc so)

    decides : (o : Outcome) → part.outcome ≡ Some o → KeepOutcomes t work (answer_known (node_no m) t (Some o) work) → Goes t (handed scene m i t.home.0 rest) t.home.0 (message_came (node_no m) (messages.Inquire t) work) w
        → GoesOn t (handed scene m i t.home.0 rest) t.home.0 (message_came (node_no m) (messages.Inquire t) work) w
    decides o decided keeps goes = decided_after t scene t.home.0 m i rest work (message_came (node_no m) (messages.Inquire t) work) w is goes left sound kinds now.next now.known (ap is_some (now.outcome ∙ decided)) (λ k has. is.superior part k known (now.superior (node_no k) has))
      where
        now : KeepsOutcome t (message_came (node_no m) (messages.Inquire t) work) part
        now = subst (λ (k : Work). KeepOutcomes t work k) (sym (known_is (Some o) decided)) keeps part known

    aborts : KeepOutcomes t work (answer_known (node_no m) t (Some outcomes.Abort) work)
    aborts = outcome_on t work (with_manager (tm.add_tell t (node_no m)) work) (answer_known (node_no m) t (Some outcomes.Abort) work) told (outcome_sent t (node_no m) (messages.Tell t outcomes.Abort) (with_manager (tm.add_tell t (node_no m)) work))
      where
        told : KeepOutcomes t work (with_manager (tm.add_tell t (node_no m)) work)
        told p at = record { next = outcome_rules.add_tell (node_no m) p; known = lookup_changed (is_at (tid_cmp t)) (outcome_rules.add_tell (node_no m)) work.node.manager.known p at; outcome = refl; superior = λ k has. has }

    answered : GoesOn t (handed scene m i t.home.0 rest) t.home.0 (message_came (node_no m) (messages.Inquire t) work) w
    answered = by part.outcome refl
      where
        by : (o : Option Outcome) → part.outcome ≡ o → GoesOn t (handed scene m i t.home.0 rest) t.home.0 (message_came (node_no m) (messages.Inquire t) work) w
        by None undecided = runs undecided
        by (Some outcomes.Commit) decided = decides outcomes.Commit decided (outcome_sent t (node_no m) (messages.Tell t outcomes.Commit) work)
            (commit t scene m i rest work part w is.shown is.at next (record { knows = whole_known t scene t.home.0 work w is part known; home = home; committed = decided }))
        by (Some outcomes.Abort) decided = decides outcomes.Abort decided aborts (abort t scene m i rest work part w is.shown is.at next (whole_known t scene t.home.0 work w is part known) home decided)

  -- ---- it is not known

  module _ (none : part_of t work ≡ None) (keeps : KeepsPast t work) where
    unknown_is : (b : Bool) → was_committed t work.node ≡ b → message_came (node_no m) (messages.Inquire t) work ≡ (if b then send (node_no m) (messages.Tell t outcomes.Commit) work else send (node_no m) (messages.Tell t outcomes.Abort) (keep_abort_told t (node_no m) work))
    unknown_is b at = comes_is None none ∙ ap (λ (b : Bool). if b then send (node_no m) (messages.Tell t outcomes.Commit) work else send (node_no m) (messages.Tell t outcomes.Abort) (keep_abort_told t (node_no m) work)) at

    committed : was_committed t work.node ≡ true → GoesOn t (handed scene m i t.home.0 rest) t.home.0 (message_came (node_no m) (messages.Inquire t) work) w
    committed was = unknown_after t scene t.home.0 m i rest work (message_came (node_no m) (messages.Inquire t) work) w is
        (past t scene m i rest work w is.shown is.at next none was (keeps.kept none was)) left sound kinds none
        (ap (λ (k : Work). part_of t k) (unknown_is true was) ∙ (ap (λ (k : NodeValue). tm.part_of t k.manager) (send_node (node_no m) (messages.Tell t outcomes.Commit) work) ∙ none))
        (ap (λ (k : Work). k.out.records) (unknown_is true was) ∙ send_records (node_no m) (messages.Tell t outcomes.Commit) work)

    -- it began earlier
    earlier : was_committed t work.node ≡ false → t.inc ≢ scene.inc t.home.0
    earlier never same = off (began_here work.node t) (tm.knows t work.node.manager) (was_committed t work.node) began (ap is_some none) never keeps.began
      where
        began : began_here work.node t ≡ true
        began = and_from (same_node t.home work.node.setting.node) (t.inc == work.node.setting.inc) (ap (λ (k : NodeNo). same_node t.home k) is.at.node ∙ here) (rw is.at.inc (eq-eqb t.inc (scene.inc t.home.0) same))

        off : (a b c : Bool) → a ≡ true → b ≡ false → c ≡ false → where_so (a && not b) c ≡ true → ⊥
        off a b c so then_so last holds = cc (rw (so, then_so, last) at holds)

    aborted : was_committed t work.node ≡ false → GoesOn t (handed scene m i t.home.0 rest) t.home.0 (message_came (node_no m) (messages.Inquire t) work) w
    aborted never = decided_after t scene t.home.0 m i rest work (message_came (node_no m) (messages.Inquire t) work) w is
        (unknown t scene m i rest work w is.shown is.at next (manager_fits t scene t.home.0 work w is) none never (earlier never)) left sound kinds
        (outcome_rules.add_tell (node_no m) (aborted_participant (tm.is_home t work.node.manager)))
        (ap (λ (k : Work). part_of t k) (unknown_is false never) ∙ (ap (λ (k : NodeValue). tm.part_of t k.manager) (send_node (node_no m) (messages.Tell t outcomes.Abort) (keep_abort_told t (node_no m) work))
        ∙ lookup_changed (is_at (tid_cmp t)) (outcome_rules.add_tell (node_no m)) (tm.keep_abort t work.node.manager).known (aborted_participant (tm.is_home t work.node.manager)) kept))
        refl (λ k has. absurd (cc has))
      where
        kept : tm.part_of t (tm.keep_abort t work.node.manager) ≡ Some (aborted_participant (tm.is_home t work.node.manager))
        kept = ap (λ (b : Bool). tm.part_of t (if b then work.node.manager else tm.put_part t (aborted_participant (tm.is_home t work.node.manager)) work.node.manager)) (ap is_some none)
            ∙ lookup_put tid_cmp t (aborted_participant (tm.is_home t work.node.manager)) (tid_itself t) work.node.manager.known

    forgotten : GoesOn t (handed scene m i t.home.0 rest) t.home.0 (message_came (node_no m) (messages.Inquire t) work) w
    forgotten = by (was_committed t work.node) refl
      where
        by : (b : Bool) → was_committed t work.node ≡ b → GoesOn t (handed scene m i t.home.0 rest) t.home.0 (message_came (node_no m) (messages.Inquire t) work) w
        by true was = committed was
        by false never = aborted never

pub inquire_stands : InquireStands
inquire_stands t scene m i rest work w next keeps is = by (part_of t work) refl
  where
    by : (o : Option Participant) → part_of t work ≡ o → GoesOn t (handed scene m i t.home.0 rest) t.home.0 (message_came (node_no m) (messages.Inquire t) work) w
    by None none = forgotten t scene m i rest work w next is none keeps
    by (Some part) known = answered t scene m i rest work w next is part known
