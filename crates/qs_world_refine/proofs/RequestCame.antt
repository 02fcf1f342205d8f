-- A request comes to another node than the home: whatever that keeps of the transaction, it is one event of the machine.
use Rattle.qs_world_refine.proofs.Words.{◌≡◌, ◌≢◌, ◌⊎◌, inl, inr, ℕ, ◌<◌, ◌==◌, ◌&&◌, Bool, true, false, List, Option, Some, None, unwrap_or, refl, sym, subst, ap, ◌∙◌, arith, if◌then◌else◌, eqb-true, nat_tests, Member, NodeNo, ServerNo, Tid, engaged, same_node, Engaged, is_for, Delivery, Op, Message, is_abort, new_participant, Participant, request_came, learn_label, engage, cover_from, take_in, is_dropped, Setting, Work, here, part_of, with_manager, IsLawful, node_no, part_at, began_here}
use Rattle.qs_world_refine.proofs.Words.{unknown_at_home, place, Scene, sight_during, ShowsWork, handed, IsAt, IsWhole, IsNext, Goes}
use Rattle.qs_base.specs.declared.identifiers.Outcome.{Outcome}
use Rattle.qs_base.specs.declared.identifiers.Outcome.TheVariants as outcomes
use Rattle.qs_engage.specs.Engage.{answers_to}
use Rattle.qs_engage.specs.declared.engage.Engaged.TheVariants as engagements
use Rattle.qs_packet.specs.declared.message.Message.TheVariants as messages
use Rattle.qs_tm.specs.Manager as tm
use Rattle.qs_world_agree.specs.World.{World}
use Rattle.qs_world_refine.proofs.Keeping.{keeps_shown}
use Rattle.qs_world_refine.proofs.Known.{told_is}
use Rattle.qs_world_refine.proofs.MetWork.{met_work, met_is, known_met, met_keeps, label_same}
use Rattle.qs_world_refine.proofs.Reading.{part_known}
use Rattle.qs_world_refine.proofs.RequestCases as cases
use Rattle.qs_world_refine.proofs.Requested.{superior_kept, with_number}
use Rattle.qs_world_refine.proofs.Taking.{home_apart}

module _ (tid : Tid) (scene : Scene) (n m i number : ℕ) (label : List ℕ) (member : Member) (issuer : ServerNo) (op : Op) (rest : List Message) (work : Work) (w : World)
    (at : IsAt scene n work) (next : IsNext scene n m i (messages.Request tid label member number issuer op) rest) (manager_is : work.node.manager.node ≡ work.node.setting.node)
    (elsewhere : tid.home.0 ≢ n) (home_in : tid.home.0 < scene.size) (its : is_for member.server op ≡ true)
    (whole : IsWhole (part_at work.node tid)) (away : (part_at work.node tid).engage.home ≡ false) (lawful : IsLawful w) (shown : ShowsWork tid scene n work w) where
  abbrev part : Participant
  part = part_at work.node tid

  not_home : same_node tid.home (here work) ≡ false
  not_home = rw at.node (grind (arith, nat_tests, elsewhere))

  abbrev now : Work
  now = met_work tid work label not_home manager_is

  setting_now : now.node.setting ≡ work.node.setting
  setting_now = (label_same tid work label not_home manager_is).node.around.setting

  at_now : IsAt scene n now
  at_now = record { in_run = at.in_run; up = at.up; node = ap (λ (s : Setting). s.node) setting_now ∙ at.node; nodes = ap (λ (s : Setting). s.nodes) setting_now ∙ at.nodes; inc = ap (λ (s : Setting). s.inc) setting_now ∙ at.inc }

  shown_now : ShowsWork tid scene n now w
  shown_now = keeps_shown tid scene n work now w (met_keeps tid work label not_home manager_is) shown

  known_now : part_of tid now ≡ Some part
  known_now = known_met tid work label not_home manager_is

  not_here : began_here now.node tid ≡ false
  not_here = ap (λ (b : Bool). b && (tid.inc == now.node.setting.inc)) (ap (λ (s : Setting). same_node tid.home s.node) setting_now ∙ not_home)

  not_home_place : place n (scene.inc n) ≢ w.home
  not_home_place = λ e. home_apart tid (sight_during tid scene n work) w n shown (record { in_run = at.in_run; up = at.up }) elsewhere home_in (ap w.node e)

  abbrev delivery : Delivery
  delivery = record { tid = tid; from = node_no m; number = number; op = op; stale = false }

  abbrev counted : Work
  counted = with_manager (tm.requested tid (node_no m) number) now

  -- what the rule comes to, by whom the node answers to and by whether it drops the request
  abbrev outcome_of : Bool → Engaged → Work
  outcome_of dropped answers = take_in dropped member delivery (cover_from answers tid (node_no m) number counted)

  answers_is : tm.engaged_at tid (node_no m) now.node.manager ≡ answers_to (node_no m) part.engage.superior
  answers_is = told_is tid engagements.Elsewhere (λ part. engaged (node_no m) part.engage) now.node.manager part known_now ∙ ap (λ (b : Bool). if b then engagements.Elsewhere else answers_to (node_no m) part.engage.superior) away

  dropped_is : is_dropped (same_node tid.home (here work)) (part_of tid work) ≡ is_abort part.outcome
  dropped_is = ap (λ (b : Bool). is_dropped b (part_of tid work)) not_home ∙ by (part_of tid work) refl
    where
      by : (o : Option Participant) → part_of tid work ≡ o → is_dropped false o ≡ is_abort (part_at work.node tid).outcome
      by None none = ap (λ (o : Option Outcome). is_abort o) (sym unknown)
        where
          unknown : (part_at work.node tid).outcome ≡ None
          unknown = none_kept (part_of tid work) none (same_node tid.home work.node.setting.node) not_home
            where
              none_kept : (o : Option Participant) → o ≡ None → (h : Bool) → h ≡ false → (unwrap_or o (if h then unknown_at_home work.node tid else new_participant false)).outcome ≡ None
              none_kept o is h off = rw (is, off) refl
      by (Some p) known = ap (λ (p : Participant). is_abort p.outcome) (sym (part_known tid work.node p known))

  rule_is : request_came (node_no m) tid label member number op work ≡ outcome_of (is_abort part.outcome) (answers_to (node_no m) part.engage.superior)
  rule_is =
      ap (λ (b : Bool). take_in b member delivery (engage tid (node_no m) number (learn_label label tid work))) dropped_is
      ∙ (ap (λ (k : Work). take_in (is_abort part.outcome) member delivery (cover_from (tm.engaged_at tid (node_no m) k.node.manager) tid (node_no m) number (with_manager (tm.requested tid (node_no m) number) k))) (met_is tid work label not_home manager_is)
      ∙ ap (λ (e : Engaged). outcome_of (is_abort part.outcome) e) answers_is)

  open_goes : part.outcome ≡ None → Goes tid (handed scene m i n rest) n (outcome_of false (answers_to (node_no m) part.engage.superior)) w
  open_goes undecided = by part.engage.superior refl
    where
      with_superior : (b : Bool) (superior : NodeNo) → same_node superior (node_no m) ≡ b → part.engage.superior ≡ Some superior → Goes tid (handed scene m i n rest) n (outcome_of false (if b then engagements.Superior else engagements.Elsewhere)) w
      with_superior true superior same has = cases.join_goes tid scene n m i number label member issuer op rest now part w at_now next known_now whole lawful shown_now its undecided superior away has (eqb-true superior.0 m same) not_here not_home_place
      with_superior false superior other has = cases.cover_goes tid scene n m i number label member issuer op rest now part w at_now next known_now whole lawful shown_now its undecided
          (superior_kept (node_no m) superior (with_number m number part.engage) away has)
          (rw (not_here, has) refl) (inr (not_here, rw has (λ e. grind (arith, nat_tests, other, e))))

      by : (o : Option NodeNo) → part.engage.superior ≡ o → Goes tid (handed scene m i n rest) n (outcome_of false (answers_to (node_no m) o)) w
      by None free = cases.engage_goes tid scene n m i number label member issuer op rest now part w at_now next known_now whole lawful shown_now its undecided away free not_here elsewhere home_in
      by (Some superior) has = with_superior (same_node superior (node_no m)) superior refl has

  aborted_goes : part.outcome ≡ Some outcomes.Abort → Goes tid (handed scene m i n rest) n (outcome_of true (answers_to (node_no m) part.engage.superior)) w
  aborted_goes aborted = by part.engage.superior refl
    where
      with_superior : (b : Bool) (superior : NodeNo) → same_node superior (node_no m) ≡ b → part.engage.superior ≡ Some superior → Goes tid (handed scene m i n rest) n (outcome_of true (if b then engagements.Superior else engagements.Elsewhere)) w
      with_superior true superior same has = cases.drop_join_goes tid scene n m i number label member issuer op rest now part w at_now next known_now whole lawful shown_now aborted superior away has (eqb-true superior.0 m same) not_here not_home_place
      with_superior false superior other has = cases.drop_cover_goes tid scene n m i number label member issuer op rest now part w at_now next known_now whole lawful shown_now aborted superior away has (λ e. grind (arith, nat_tests, other, e)) not_here

      by : (o : Option NodeNo) → part.engage.superior ≡ o → Goes tid (handed scene m i n rest) n (outcome_of true (answers_to (node_no m) o)) w
      by None free = cases.drop_engage_goes tid scene n m i number label member issuer op rest now part w at_now next known_now whole lawful shown_now aborted away free not_here elsewhere home_in
      by (Some superior) has = with_superior (same_node superior (node_no m)) superior refl has

  pub request_goes : (part.outcome ≡ None) ⊎ (part.outcome ≡ Some outcomes.Abort) → Goes tid (handed scene m i n rest) n (request_came (node_no m) tid label member number op work) w
  request_goes (inl undecided) = subst (λ (k : Work). Goes tid (handed scene m i n rest) n k w) (sym (rule_is ∙ ap (λ (o : Option Outcome). outcome_of (is_abort o) (answers_to (node_no m) part.engage.superior)) undecided)) (open_goes undecided)
  request_goes (inr aborted) = subst (λ (k : Work). Goes tid (handed scene m i n rest) n k w) (sym (rule_is ∙ ap (λ (o : Option Outcome). outcome_of (is_abort o) (answers_to (node_no m) part.engage.superior)) aborted)) (aborted_goes aborted)
