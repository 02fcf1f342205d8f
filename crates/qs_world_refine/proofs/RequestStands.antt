-- A request comes, and what stood of its transaction stands.
use Rattle.qs_world_refine.proofs.Words.{◌≡◌, ◌≢◌, ◌⊎◌, inl, inr, ℕ, ◌≤◌, ◌==◌, ◌&&◌, ◌||◌, not, Bool, true, false, List, ◌++◌, Option, Some, None, is_some, refl, sym, subst, ap, ◌∙◌, arith, if◌then◌else◌, is_none, unwrap_or, is_at, filter, list_any, eqb-true, or_parts, nat_tests, tid_cmp, same_tid, Member, NodeNo, ServerNo, Tid, same_node, is_for, Op, Message, Record, recovery, is_abort, new_participant, is_undecided, Participant, is_forced, label_at, put_label, learn_label, request_came, Work}
use Rattle.qs_world_refine.proofs.Words.{here, part_of, with_manager, was_committed, node_no, face_at, part_at, unknown, began_here, is_past_commit, Scene, handed, is_in_doubt, same_flag, where_so, StaysSound, FitsMessage, may_doubt, Stands, GoesOn, IsNext, IsWhole, Goes, same_Some, never_both}
use Rattle.qs_base.specs.declared.identifiers.Outcome.{Outcome}
use Rattle.qs_base.specs.declared.identifiers.Outcome.TheVariants as outcomes
use Rattle.qs_packet.specs.declared.message.Message.TheVariants as messages
use Rattle.qs_tm.specs.Manager as tm
use Rattle.qs_tm.specs.Participant as participant
use Rattle.qs_node_step.specs.Serving.{met}
use Rattle.qs_world_agree.specs.World.{World}
use Rattle.qs_world_refine.specs.RequestWhole.{RequestStands}
use Rattle.qs_world_refine.proofs.During.{Leaves}
use Rattle.qs_world_refine.proofs.KindsKept.{KeepsKinds}
use Rattle.qs_world_refine.proofs.Maps.{lookup_changed, lookup_put}
use Rattle.qs_world_refine.proofs.MessageKinds.{message_kinds}
use Rattle.qs_world_refine.proofs.MessageStands.{fits_sound}
use Rattle.qs_world_refine.proofs.MetWork.{tid_itself}
use Rattle.qs_world_refine.proofs.OthersCame.{request_leaves}
use Rattle.qs_world_refine.proofs.OutcomeAfter.{stands_after, unknown_after}
use Rattle.qs_world_refine.proofs.PassCarried.{Carried}
use Rattle.qs_world_refine.proofs.Reading.{part_known}
use Rattle.qs_world_refine.proofs.RequestUnknown.{request_unknown}
use Rattle.qs_world_refine.proofs.RuleGoes.{request, request_home}
use Rattle.qs_world_refine.proofs.SettleRules.{beside, beside_apart, IsClear, Answers}
use Rattle.qs_world_refine.proofs.SettleStands.{is_at_home, whole_known, manager_fits, home_free}
use Rattle.qs_world_refine.proofs.SoundHolds.{known_sound}
use Rattle.qs_world_refine.proofs.RequestKept.{asked_records, learnt_part, rest_carries, request_left, answers_then}

module _ (t : Tid) (scene : Scene) (n m i number : ℕ) (label : List ℕ) (member : Member) (issuer : ServerNo) (op : Op) (rest : List Message) (work : Work) (w : World) (next : IsNext scene n m i (messages.Request t label member number issuer op) rest)
    (its : is_for member.server op ≡ true) (fits : FitsMessage (node_no m) (messages.Request t label member number issuer op) work) (is : Stands t scene n work w) where
  left : Leaves (beside t) work (request_came (node_no m) t label member number op work)
  left = request_leaves (beside t) t (beside_apart t) (node_no m) label member number op work

  kinds : KeepsKinds work (request_came (node_no m) t label member number op work)
  kinds = message_kinds (node_no m) (messages.Request t label member number issuer op) work

  sound : StaysSound work (request_came (node_no m) t label member number op work)
  sound = fits_sound t scene n m i (messages.Request t label member number issuer op) rest work w next is fits

  -- one that is known, or is met
  known_after : (part : Participant) → part_of t (met t (learn_label label t work)) ≡ Some part → (is_some part.outcome ≡ false → part.log.prepared ≡ false → may_doubt (t.home.0 == n) (part_of t work) ≡ false)
      → ((k : ℕ) → part.engage.superior ≡ Some (node_no k) → 1 ≤ scene.knows n k)
      → Goes t (handed scene m i n rest) n (request_came (node_no m) t label member number op work) w → GoesOn t (handed scene m i n rest) n (request_came (node_no m) t label member number op work) w
  known_after part known clear answers goes = stands_after t scene n m i rest work (request_came (node_no m) t label member number op work) w is goes left sound kinds clears answered
    where
      after : Carried t (with_manager (tm.requested t (node_no m) number) (met t (learn_label label t work))) (request_came (node_no m) t label member number op work) (participant.requested (node_no m) number part)
      after = rest_carries t m number label member op work (participant.requested (node_no m) number part) (lookup_changed (is_at (tid_cmp t)) (participant.requested (node_no m) number) (met t (learn_label label t work)).node.manager.known part known)

      clears : IsClear t scene n (request_came (node_no m) t label member number op work)
      clears none s = ap (λ (rs : List Record). is_in_doubt t s (if n == n then recovery (scene.log n ++ filter is_forced rs) else recovery (scene.log n))) (bare.1 ∙ asked_records t m number label member op work)
          ∙ is.clear (clear (sym (ap is_some after.outcome) ∙ both.0) bare.0) s
        where
          both : (is_some after.next.outcome ≡ false) × (after.next.log.prepared ≡ false)
          both = or_parts (is_some after.next.outcome) after.next.log.prepared (sym (ap (may_doubt (t.home.0 == n)) after.known) ∙ none)

          bare : (part.log.prepared ≡ false) × ((request_came (node_no m) t label member number op work).out.records ≡ (with_manager (tm.requested t (node_no m) number) (met t (learn_label label t work))).out.records)
          bare = after.unprepared both.1

      answered : Answers t scene n (request_came (node_no m) t label member number op work)
      answered p k at has = whom (answers_then t m number label member op work part k (after.superior (node_no k) (ap (λ (q : Participant). q.engage.superior) (same_Some after.next p (sym after.known ∙ at)) ∙ has)))
        where
          whom : (part.engage.superior ≡ Some (node_no k)) ⊎ (k ≡ m) → 1 ≤ scene.knows n k
          whom (inl before) = answers k before
          whom (inr same) = subst (λ (j : ℕ). 1 ≤ scene.knows n j) (sym same) (subst (λ (j : ℕ). 1 ≤ j) (sym next.from.knows) next.from.some)

  learnt_is : part_of t (learn_label label t work) ≡ part_of t work
  learnt_is = learnt_part t m number label member op work

  learnt_here : same_node t.home (here (learn_label label t work)) ≡ same_node t.home (here work)
  learnt_here = by (is_none (label_at label work.node))
    where
      by : (a : Bool) → same_node t.home (here (if a then put_label (record { label = label; tid = Some t; owner = None }) work else work)) ≡ same_node t.home (here work)
      by true = refl
      by false = refl

  at_home : same_node t.home (here work) ≡ (t.home.0 == n)
  at_home = ap (λ (k : NodeNo). same_node t.home k) is.at.node

  -- one that is known stays so
  met_known : (part : Participant) → part_of t work ≡ Some part → part_of t (met t (learn_label label t work)) ≡ Some part
  met_known part known = by (same_node t.home (here (learn_label label t work)))
    where
      before : part_of t (learn_label label t work) ≡ Some part
      before = learnt_is ∙ known

      by : (b : Bool) → part_of t (if b then learn_label label t work else with_manager (tm.meet t) (learn_label label t work)) ≡ Some part
      by true = before
      by false = ap (λ (b : Bool). tm.part_of t (if b then (learn_label label t work).node.manager else tm.put_part t (new_participant (tm.is_home t (learn_label label t work).node.manager)) (learn_label label t work).node.manager)) (ap is_some before) ∙ before

  known_stands : (part : Participant) → part_of t work ≡ Some part → Goes t (handed scene m i n rest) n (request_came (node_no m) t label member number op work) w → GoesOn t (handed scene m i n rest) n (request_came (node_no m) t label member number op work) w
  known_stands part known goes = known_after part (met_known part known) (λ undecided bare. rw (known, undecided) bare) (λ k has. is.superior part k known has) goes

  -- ---- at another node than the home

  module _ (away : (t.home.0 == n) ≡ false) where
    other : t.home.0 ≢ n
    other same = never_both (t.home.0 == n) (grind (arith, nat_tests, same)) away

    unknown_is : part_of t work ≡ None → part_at work.node t ≡ new_participant false
    unknown_is none = ap (λ (o : Option Participant). unwrap_or o (unknown work.node t)) none
        ∙ ap (λ (b : Bool). if b then record (new_participant true) { outcome = if is_past_commit work.node t then Some outcomes.Commit else None } else new_participant false) (at_home ∙ away)

    comes_to : IsWhole (part_at work.node t) → (part_at work.node t).engage.home ≡ false → ((part_at work.node t).outcome ≡ None) ⊎ ((part_at work.node t).outcome ≡ Some outcomes.Abort) → Goes t (handed scene m i n rest) n (request_came (node_no m) t label member number op work) w
    comes_to whole off open_now = request t scene n m i number label member issuer op rest work w is.lawful is.shown is.at next (manager_fits t scene n work w is) other is.home_in its whole off open_now

    meets : part_of t work ≡ None → part_of t (met t (learn_label label t work)) ≡ Some (new_participant (tm.is_home t (learn_label label t work).node.manager))
    meets none = ap (λ (b : Bool). part_of t (if b then learn_label label t work else with_manager (tm.meet t) (learn_label label t work))) (learnt_here ∙ (at_home ∙ away))
        ∙ (ap (λ (b : Bool). tm.part_of t (if b then (learn_label label t work).node.manager else tm.put_part t (new_participant (tm.is_home t (learn_label label t work).node.manager)) (learn_label label t work).node.manager)) (ap is_some (learnt_is ∙ none))
        ∙ lookup_put tid_cmp t (new_participant (tm.is_home t (learn_label label t work).node.manager)) (tid_itself t) (learn_label label t work).node.manager.known)

    elsewhere_stands : GoesOn t (handed scene m i n rest) n (request_came (node_no m) t label member number op work) w
    elsewhere_stands = by (part_of t work) refl fits.1
      where
        told : (part : Participant) (o : Option Outcome) → part.outcome ≡ o → (is_none o || is_abort o) ≡ true → (part.outcome ≡ None) ⊎ (part.outcome ≡ Some outcomes.Abort)
        told part None at so = inl at
        told part (Some outcomes.Abort) at so = inr at
        told part (Some outcomes.Commit) at so = absurd (cc so)

        off_home : (part : Participant) → part_of t work ≡ Some part → part.engage.home ≡ false
        off_home part known = off part.engage.home (same_node t.home work.node.setting.node) (at_home ∙ away) (known_sound t work.node part known is.sound).homed
          where
            off : (a b : Bool) → b ≡ false → same_flag a b ≡ true → a ≡ false
            off true b so same = absurd (cc (so, same))
            off false b so same = refl

        by : (o : Option Participant) → part_of t work ≡ o → ◌≡◌ {A = Bool} (elim o [ None ↦ true | Some part ↦ is_undecided part || is_abort part.outcome ]) true → GoesOn t (handed scene m i n rest) n (request_came (node_no m) t label member number op work) w
        by None none may = known_after (new_participant (tm.is_home t (learn_label label t work).node.manager)) (meets none) (λ _ _. ap (may_doubt (t.home.0 == n)) none ∙ away) (λ k has. absurd (cc has))
            (comes_to (subst IsWhole (sym (unknown_is none)) (record { peers = refl; members = refl; told = refl; tell = refl; acknowledged = refl })) (ap (λ (p : Participant). p.engage.home) (unknown_is none)) (inl (ap (λ (p : Participant). p.outcome) (unknown_is none))))
        by (Some part) known may = known_stands part known
            (comes_to (subst IsWhole (sym (part_known t work.node part known)) (whole_known t scene n work w is part known).whole) (ap (λ (p : Participant). p.engage.home) (part_known t work.node part known) ∙ off_home part known)
            (subst (λ (p : Participant). (p.outcome ≡ None) ⊎ (p.outcome ≡ Some outcomes.Abort)) (sym (part_known t work.node part known)) (told part part.outcome refl may)))

-- ---- at the home

module _ (t : Tid) (scene : Scene) (m i number : ℕ) (label : List ℕ) (member : Member) (issuer : ServerNo) (op : Op) (rest : List Message) (work : Work) (w : World) (next : IsNext scene t.home.0 m i (messages.Request t label member number issuer op) rest)
    (its : is_for member.server op ≡ true) (fits : FitsMessage (node_no m) (messages.Request t label member number issuer op) work) (is : Stands t scene t.home.0 work w) where
  here_is : (t.home.0 == t.home.0) ≡ true
  here_is = grind (arith, nat_tests)

  home_stands : GoesOn t (handed scene m i t.home.0 rest) t.home.0 (request_came (node_no m) t label member number op work) w
  home_stands = by (part_of t work) refl
    where
      at_here : same_node t.home work.node.setting.node ≡ true
      at_here = ap (λ (k : NodeNo). same_node t.home k) is.at.node ∙ here_is

      on : (a b : Bool) → b ≡ true → same_flag a b ≡ true → a ≡ true
      on true b so same = refl
      on false true so same = absurd (cc same)
      on false false so same = absurd (cc so)

      free : (part : Participant) → part_of t work ≡ Some part → (o : Option NodeNo) → part.engage.superior ≡ o → part.engage.superior ≡ None
      free part known None at = at
      free part known (Some superior) at = absurd (home_free t work.node part superior.0 is.sound known at_here at)

      -- it is forgotten
      ended : part_of t work ≡ None → (face_at work.node t).on ≡ false
      ended none = by_past (began_here work.node t) refl
        where
          part_is : part_at work.node t ≡ record (new_participant true) { outcome = if is_past_commit work.node t then Some outcomes.Commit else None }
          part_is = ap (λ (o : Option Participant). unwrap_or o (unknown work.node t)) none
              ∙ ap (λ (b : Bool). if b then record (new_participant true) { outcome = if is_past_commit work.node t then Some outcomes.Commit else None } else new_participant false) at_here

          by_past : (b : Bool) → began_here work.node t ≡ b → (if began_here work.node t then not (is_some (part_at work.node t).outcome) else is_some (part_at work.node t).engage.superior) ≡ false
          by_past true began = picked (began_here work.node t) began (ap (λ (p : Participant). not (is_some p.outcome)) part_is ∙ ap (λ (b : Bool). not (is_some (if b then Some outcomes.Commit else None))) past)
            where
              picked : (b : Bool) → b ≡ true → not (is_some (part_at work.node t).outcome) ≡ false → (if b then not (is_some (part_at work.node t).outcome) else is_some (part_at work.node t).engage.superior) ≡ false
              picked b so off = rw so off

              past : is_past_commit work.node t ≡ true
              past = kept (began_here work.node t) (tm.knows t work.node.manager) (was_committed t work.node) (list_any (same_tid t) work.node.committed) began (ap is_some none) fits.0
                where
                  kept : (a b c d : Bool) → a ≡ true → b ≡ false → where_so (a && not b) c ≡ true → (if a then c else d) ≡ true
                  kept a b c d so then_so holds = rw so (rw (so, then_so) at holds)
          by_past false began = picked (began_here work.node t) began (ap (λ (p : Participant). is_some p.engage.superior) part_is)
            where
              picked : (b : Bool) → b ≡ false → is_some (part_at work.node t).engage.superior ≡ false → (if b then not (is_some (part_at work.node t).outcome) else is_some (part_at work.node t).engage.superior) ≡ false
              picked b so off = rw so off

      by : (o : Option Participant) → part_of t work ≡ o → GoesOn t (handed scene m i t.home.0 rest) t.home.0 (request_came (node_no m) t label member number op work) w
      by (Some part) known = known_stands t scene t.home.0 m i number label member issuer op rest work w next its fits is part known
          (request_home t scene t.home.0 m i number label member issuer op rest work part w is.lawful is.shown is.at next (whole_known t scene t.home.0 work w is part known)
          (on part.engage.home (same_node t.home work.node.setting.node) at_here (known_sound t work.node part known is.sound).homed) (free part known part.engage.superior refl) refl its
          (λ undecided. (is_at_home t scene work w is part known undecided).first))
      by None none = unknown_after t scene t.home.0 m i rest work (request_came (node_no m) t label member number op work) w is
          (request_unknown t scene m i number label member issuer op rest work w is.lawful is.shown is.at next none (ended none))
          (left t scene t.home.0 m i number label member issuer op rest work w next its fits is) (sound t scene t.home.0 m i number label member issuer op rest work w next its fits is) (kinds t scene t.home.0 m i number label member issuer op rest work w next its fits is)
          none (still.0) (still.1)
        where
          still : (part_of t (request_came (node_no m) t label member number op work) ≡ None) × ((request_came (node_no m) t label member number op work).out.records ≡ work.out.records)
          still = request_left t m number label member op work none at_here

-- ---- wherever it comes

pub request_stands : RequestStands
request_stands t scene n m i number label member issuer op rest work w next its fits is = by (t.home.0 == n) refl
  where
    at : (k : ℕ) → t.home.0 ≡ k → IsNext scene k m i (messages.Request t label member number issuer op) rest → Stands t scene k work w → GoesOn t (handed scene m i k rest) k (request_came (node_no m) t label member number op work) w
    at k same = subst (λ (j : ℕ). IsNext scene j m i (messages.Request t label member number issuer op) rest → Stands t scene j work w → GoesOn t (handed scene m i j rest) j (request_came (node_no m) t label member number op work) w) same
        (λ next is. home_stands t scene m i number label member issuer op rest work w next its fits is)

    by : (b : Bool) → (t.home.0 == n) ≡ b → GoesOn t (handed scene m i n rest) n (request_came (node_no m) t label member number op work) w
    by true here = at n (eqb-true t.home.0 n here) next is
    by false away = elsewhere_stands t scene n m i number label member issuer op rest work w next its fits is away
