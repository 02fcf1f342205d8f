-- A Tell comes to another node than the home, and what stood of its transaction stands.
use Rattle.qs_world_refine.proofs.Words.{◌≡◌, ℕ, ◌≤◌, ◌==◌, ◌&&◌, ◌||◌, not, Bool, true, false, List, Option, Some, None, is_some, refl, sym, subst, ap, ◌∙◌, if◌then◌else◌, is_none, is_at, tid_cmp, NodeNo, Tid, same_node, is_no_node, Message, is_abort, aborted_participant, is_undecided, Participant, send, log_if, tid_of, give_notices, NodeValue, Work, part_of, with_manager, message_came, end_record, record_learnt, learn, learn_unknown, take_outcome, names_at, node_no, AgreesWith, Scene, handed}
use Rattle.qs_world_refine.proofs.Words.{same_flag, where_so, StaysSound, Stands, GoesOn, IsNext, Goes, ne_eqb}
use Rattle.qs_base.specs.declared.identifiers.Outcome.{Outcome}
use Rattle.qs_base.specs.declared.identifiers.Outcome.TheVariants as outcomes
use Rattle.qs_packet.specs.declared.message.Message.TheVariants as messages
use Rattle.qs_tm.specs.Manager as tm
use Rattle.qs_tm.specs.Outcomes as outcome_rules
use Rattle.qs_world_agree.specs.World.{World}
use Rattle.qs_world_refine.specs.OutcomeWhole.{TellStands}
use Rattle.qs_world_refine.proofs.DecidedStands.{KeepsOutcome, KeepOutcomes, outcome_itself, outcome_on, outcome_sent, outcome_notices, outcome_logged}
use Rattle.qs_world_refine.proofs.During.{Leaves}
use Rattle.qs_world_refine.proofs.KindsKept.{KeepsKinds}
use Rattle.qs_world_refine.proofs.LearnAbort.{tell_abort, tell_abort_unknown}
use Rattle.qs_world_refine.proofs.Maps.{lookup_changed, lookup_put}
use Rattle.qs_world_refine.proofs.MessageKinds.{message_kinds}
use Rattle.qs_world_refine.proofs.MessageStands.{fits_sound}
use Rattle.qs_world_refine.proofs.OthersCame.{tell_leaves}
use Rattle.qs_world_refine.proofs.RuleGoes.{tell_commit}
use Rattle.qs_world_refine.proofs.SendGoes.{send_node}
use Rattle.qs_world_refine.proofs.MetWork.{tid_itself}
use Rattle.qs_world_refine.proofs.SettleRules.{beside, beside_apart}
use Rattle.qs_world_refine.proofs.SettleStands.{whole_known, no_doubt, manager_fits}
use Rattle.qs_world_refine.proofs.SoundHolds.{known_sound}
use Rattle.qs_world_refine.proofs.SoundParts.{and_both}
use Rattle.qs_world_refine.proofs.TellAbortCame.{tell_again}
use Rattle.qs_world_refine.proofs.ToldAgain.{tell_commit_unknown, tell_commit_again}
use Rattle.qs_world_refine.proofs.OutcomeAfter.{decided_after, unknown_after, send_records}

module _ (t : Tid) (scene : Scene) (n m i : ℕ) (outcome : Outcome) (rest : List Message) (work : Work) (w : World) (next : IsNext scene n m i (messages.Tell t outcome) rest) (from_home : m ≡ t.home.0) (is : Stands t scene n work w) where
  away : (t.home.0 == n) ≡ false
  away = ne_eqb t.home.0 n (λ same. next.from.other (from_home ∙ same))

  comes_is : message_came (node_no m) (messages.Tell t outcome) work ≡ send (node_no m) (messages.Told t (names_at t outcome work)) (take_outcome t outcome work)
  comes_is = ap (λ (b : Bool). if b then work else send (node_no m) (messages.Told t (names_at t outcome work)) (take_outcome t outcome work)) (ap (λ (k : NodeNo). same_node t.home k) is.at.node ∙ away)

  module _ (sound : StaysSound work (message_came (node_no m) (messages.Tell t outcome) work)) where
    left : Leaves (beside t) work (message_came (node_no m) (messages.Tell t outcome) work)
    left = tell_leaves (beside t) t (beside_apart t) (node_no m) outcome work

    kinds : KeepsKinds work (message_came (node_no m) (messages.Tell t outcome) work)
    kinds = message_kinds (node_no m) (messages.Tell t outcome) work

    decided : (part : Participant) → part_of t (message_came (node_no m) (messages.Tell t outcome) work) ≡ Some part → is_some part.outcome ≡ true → ((k : ℕ) → part.engage.superior ≡ Some (node_no k) → 1 ≤ scene.knows n k)
        → Goes t (handed scene m i n rest) n (message_came (node_no m) (messages.Tell t outcome) work) w → GoesOn t (handed scene m i n rest) n (message_came (node_no m) (messages.Tell t outcome) work) w
    decided part known is_decided answers goes = decided_after t scene n m i rest work (message_came (node_no m) (messages.Tell t outcome) work) w is goes left sound kinds part known is_decided answers

    -- ---- it is not known

    module _ (none : part_of t work ≡ None) where
      taken_is : take_outcome t outcome work ≡ learn_unknown t outcome work
      taken_is = ap (λ (o : Option Participant). elim o [ None ↦ learn_unknown t outcome work | Some part ↦ if is_undecided part then learn t outcome part work else work ]) none

      unknown : (o : Outcome) → outcome ≡ o → GoesOn t (handed scene m i n rest) n (message_came (node_no m) (messages.Tell t outcome) work) w
      unknown outcomes.Commit same = unknown_after t scene n m i rest work (message_came (node_no m) (messages.Tell t outcome) work) w is
          (subst (λ (o : Outcome). IsNext scene n m i (messages.Tell t o) rest → Goes t (handed scene m i n rest) n (message_came (node_no m) (messages.Tell t o) work) w) (sym same)
          (λ next. tell_commit_unknown t scene n m i rest work w is.shown (record { at = is.at; next = next; from_home = from_home }) none) next)
          left sound kinds none (ap (λ (k : Work). part_of t k) now_is ∙ (ap (λ (k : NodeValue). tm.part_of t k.manager) (send_node (node_no m) (messages.Told t (names_at t outcome work)) work) ∙ none))
          (ap (λ (k : Work). k.out.records) now_is ∙ send_records (node_no m) (messages.Told t (names_at t outcome work)) work)
        where
          now_is : message_came (node_no m) (messages.Tell t outcome) work ≡ send (node_no m) (messages.Told t (names_at t outcome work)) work
          now_is = comes_is ∙ ap (λ (k : Work). send (node_no m) (messages.Told t (names_at t outcome work)) k) (taken_is ∙ ap (λ (o : Outcome). learn_unknown t o work) same)
      unknown outcomes.Abort same = decided (aborted_participant (tm.is_home t work.node.manager)) (ap (λ (k : Work). part_of t k) now_is ∙ (ap (λ (k : NodeValue). tm.part_of t k.manager) (send_node (node_no m) (messages.Told t (names_at t outcome work)) (with_manager (tm.keep_abort t) work)) ∙ kept))
          refl (λ k has. absurd (cc has))
          (subst (λ (o : Outcome). IsNext scene n m i (messages.Tell t o) rest → Goes t (handed scene m i n rest) n (message_came (node_no m) (messages.Tell t o) work) w) (sym same)
          (λ next. tell_abort_unknown t scene n m i rest work w is.lawful is.shown (record { at = is.at; next = next; from_home = from_home }) (manager_fits t scene n work w is) none) next)
        where
          now_is : message_came (node_no m) (messages.Tell t outcome) work ≡ send (node_no m) (messages.Told t (names_at t outcome work)) (with_manager (tm.keep_abort t) work)
          now_is = comes_is ∙ ap (λ (k : Work). send (node_no m) (messages.Told t (names_at t outcome work)) k) (taken_is ∙ ap (λ (o : Outcome). learn_unknown t o work) same)

          kept : part_of t (with_manager (tm.keep_abort t) work) ≡ Some (aborted_participant (tm.is_home t work.node.manager))
          kept = ap (λ (b : Bool). tm.part_of t (if b then work.node.manager else tm.put_part t (aborted_participant (tm.is_home t work.node.manager)) work.node.manager)) (ap is_some none)
              ∙ lookup_put tid_cmp t (aborted_participant (tm.is_home t work.node.manager)) (tid_itself t) work.node.manager.known

    -- ---- it is known

    module _ (part : Participant) (known : part_of t work ≡ Some part) where
      -- and not decided
      learns : part.outcome ≡ None → Goes t (handed scene m i n rest) n (message_came (node_no m) (messages.Tell t outcome) work) w → GoesOn t (handed scene m i n rest) n (message_came (node_no m) (messages.Tell t outcome) work) w
      learns undecided goes = decided now.next now.known (ap is_some now.outcome) (λ k has. is.superior part k known (now.superior (node_no k) has)) goes
        where
          taken : Work
          taken = with_manager (tm.took_outcome t outcome) work

          now_is : message_came (node_no m) (messages.Tell t outcome) work ≡ send (node_no m) (messages.Told t (names_at t outcome work)) (log_if (record_learnt t outcome part) (give_notices t outcome (with_manager (tm.took_outcome t outcome) work)))
          now_is = comes_is ∙ (ap (λ (o : Option Participant). send (node_no m) (messages.Told t (names_at t outcome work)) (elim o [ None ↦ learn_unknown t outcome work | Some part ↦ if is_undecided part then learn t outcome part work else work ])) known
              ∙ ap (λ (o : Option Outcome). send (node_no m) (messages.Told t (names_at t outcome work)) (if is_none o then learn t outcome part work else work)) undecided)

          logs : (b : Bool) → KeepOutcomes t (give_notices t outcome (with_manager (tm.took_outcome t outcome) work)) (log_if (if b then Some (end_record t outcome) else None) (give_notices t outcome (with_manager (tm.took_outcome t outcome) work)))
          logs true = by outcome refl
            where
              by : (o : Outcome) → outcome ≡ o → KeepOutcomes t (give_notices t outcome (with_manager (tm.took_outcome t outcome) work)) (log_if (Some (end_record t outcome)) (give_notices t outcome (with_manager (tm.took_outcome t outcome) work)))
              by outcomes.Commit same = outcome_logged t (end_record t outcome) (give_notices t outcome (with_manager (tm.took_outcome t outcome) work)) (ap (λ (o : Outcome). tid_of (end_record t o)) same)
              by outcomes.Abort same = outcome_logged t (end_record t outcome) (give_notices t outcome (with_manager (tm.took_outcome t outcome) work)) (ap (λ (o : Outcome). tid_of (end_record t o)) same)
          logs false = outcome_itself t (give_notices t outcome (with_manager (tm.took_outcome t outcome) work))

          keeps : KeepOutcomes t (with_manager (tm.took_outcome t outcome) work) (message_came (node_no m) (messages.Tell t outcome) work)
          keeps = subst (λ (k : Work). KeepOutcomes t (with_manager (tm.took_outcome t outcome) work) k) (sym now_is)
              (outcome_on t (with_manager (tm.took_outcome t outcome) work) (give_notices t outcome (with_manager (tm.took_outcome t outcome) work)) _ (outcome_notices t outcome (with_manager (tm.took_outcome t outcome) work))
              (outcome_on t (give_notices t outcome (with_manager (tm.took_outcome t outcome) work)) (log_if (record_learnt t outcome part) (give_notices t outcome (with_manager (tm.took_outcome t outcome) work))) _ (logs part.log.prepared)
              (outcome_sent t (node_no m) (messages.Told t (names_at t outcome work)) (log_if (record_learnt t outcome part) (give_notices t outcome (with_manager (tm.took_outcome t outcome) work))))))

          now : KeepsOutcome t (message_came (node_no m) (messages.Tell t outcome) work) (outcome_rules.took_outcome outcome part)
          now = keeps (outcome_rules.took_outcome outcome part) (lookup_changed (is_at (tid_cmp t)) (outcome_rules.took_outcome outcome) work.node.manager.known part known)

      -- or decided
      repeats : (o : Outcome) → part.outcome ≡ Some o → Goes t (handed scene m i n rest) n (message_came (node_no m) (messages.Tell t outcome) work) w → GoesOn t (handed scene m i n rest) n (message_came (node_no m) (messages.Tell t outcome) work) w
      repeats o is_decided goes = decided now.next now.known (ap is_some (now.outcome ∙ is_decided)) (λ k has. is.superior part k known (now.superior (node_no k) has)) goes
        where
          now_is : message_came (node_no m) (messages.Tell t outcome) work ≡ send (node_no m) (messages.Told t (names_at t outcome work)) work
          now_is = comes_is ∙ (ap (λ (o : Option Participant). send (node_no m) (messages.Told t (names_at t outcome work)) (elim o [ None ↦ learn_unknown t outcome work | Some part ↦ if is_undecided part then learn t outcome part work else work ])) known
              ∙ ap (λ (o : Option Outcome). send (node_no m) (messages.Told t (names_at t outcome work)) (if is_none o then learn t outcome part work else work)) is_decided)

          now : KeepsOutcome t (message_came (node_no m) (messages.Tell t outcome) work) part
          now = subst (λ (k : Work). KeepOutcomes t work k) (sym now_is) (outcome_sent t (node_no m) (messages.Told t (names_at t outcome work)) work) part known

      home_off : part.engage.home ≡ false
      home_off = off part.engage.home (same_node t.home work.node.setting.node) (ap (λ (k : NodeNo). same_node t.home k) is.at.node ∙ away) (known_sound t work.node part known is.sound).homed
        where
          off : (a b : Bool) → b ≡ false → same_flag a b ≡ true → a ≡ false
          off true b so same = absurd (cc (so, same))
          off false b so same = refl

      silent : is_no_node part.tell ≡ true
      silent = by part.engage.home home_off (is_no_node part.tell) _ (known_sound t work.node part known is.sound).silent
        where
          by : (h : Bool) → h ≡ false → (a b : Bool) → where_so (not h) (a && b) ≡ true → a ≡ true
          by true so a b told = absurd (cc so)
          by false so true b told = refl
          by false so false b told = absurd (cc told)

      involves : part.log.prepared ≡ true → part.involved ≡ true
      involves prepared = by part.log.prepared prepared part.involved
          (and_both (where_so part.log.prepared part.involved) _ (and_both (where_so (part.log.prepared || part.log.listed) part.log.unended) _ (known_sound t work.node part known is.sound).logged).1).0
        where
          by : (p : Bool) → p ≡ true → (b : Bool) → where_so p b ≡ true → b ≡ true
          by true so b its = its
          by false so b its = absurd (cc so)

      undecided_goes : (o : Outcome) → outcome ≡ o → part.outcome ≡ None → Goes t (handed scene m i n rest) n (message_came (node_no m) (messages.Tell t outcome) work) w
      undecided_goes outcomes.Commit same undecided = subst (λ (o : Outcome). IsNext scene n m i (messages.Tell t o) rest → Goes t (handed scene m i n rest) n (message_came (node_no m) (messages.Tell t o) work) w) (sym same)
          (λ next. tell_commit t scene n m i rest work part w is.lawful is.shown is.at next from_home (whole_known t scene n work w is part known) undecided home_off involves (λ none s. no_doubt t scene n work w is part known undecided none s)) next
      undecided_goes outcomes.Abort same undecided = subst (λ (o : Outcome). IsNext scene n m i (messages.Tell t o) rest → Goes t (handed scene m i n rest) n (message_came (node_no m) (messages.Tell t o) work) w) (sym same)
          (λ next. tell_abort t scene n m i rest work part w is.lawful is.shown (record { at = is.at; next = next; from_home = from_home }) (whole_known t scene n work w is part known) undecided silent) next

      decided_goes : (o : Outcome) → outcome ≡ o → part.outcome ≡ Some o → Goes t (handed scene m i n rest) n (message_came (node_no m) (messages.Tell t outcome) work) w
      decided_goes outcomes.Commit same decides = subst (λ (o : Outcome). IsNext scene n m i (messages.Tell t o) rest → Goes t (handed scene m i n rest) n (message_came (node_no m) (messages.Tell t o) work) w) (sym same)
          (λ next. tell_commit_again t scene n m i rest work part w is.lawful is.shown (record { at = is.at; next = next; from_home = from_home }) (whole_known t scene n work w is part known) home_off decides) next
      decided_goes outcomes.Abort same decides = subst (λ (o : Outcome). IsNext scene n m i (messages.Tell t o) rest → Goes t (handed scene m i n rest) n (message_came (node_no m) (messages.Tell t o) work) w) (sym same)
          (λ next. tell_again t scene n m i rest work part w is.lawful is.shown (record { at = is.at; next = next; from_home = from_home }) (whole_known t scene n work w is part known) decides) next

    told : AgreesWith t outcome work → GoesOn t (handed scene m i n rest) n (message_came (node_no m) (messages.Tell t outcome) work) w
    told agrees = by (part_of t work) refl
      where
        picked : (part : Participant) → part_of t work ≡ Some part → (o : Option Outcome) → part.outcome ≡ o → GoesOn t (handed scene m i n rest) n (message_came (node_no m) (messages.Tell t outcome) work) w
        picked part known None undecided = learns part known undecided (undecided_goes part known outcome refl undecided)
        picked part known (Some o) decides = repeats part known o decides (decided_goes part known o (sym (agrees part o known decides)) decides)

        by : (o : Option Participant) → part_of t work ≡ o → GoesOn t (handed scene m i n rest) n (message_came (node_no m) (messages.Tell t outcome) work) w
        by None none = unknown none outcome refl
        by (Some part) known = picked part known part.outcome refl

pub tell_stands : TellStands
tell_stands t scene n m i outcome rest work w next from_home fits agrees is = told t scene n m i outcome rest work w next from_home is (fits_sound t scene n m i (messages.Tell t outcome) rest work w next is fits) agrees
