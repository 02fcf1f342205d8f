-- A request comes to the home: it is covered at once, and dropped where the transaction is decided.
use Rattle.qs_world_refine.proofs.Words.{◌≡◌, inl, ℕ, ◌==◌, ◌&&◌, not, Bool, true, false, List, Option, Some, None, refl, sym, subst, ap, ◌∙◌, arith, if◌then◌else◌, is_some, nat_tests, Member, ServerNo, Tid, engaged, same_node, Engaged, is_for, Delivery, Op, Message, Participant, request_came, learn_label, engage, cover_from, take_in, is_dropped, Setting, Work, here, part_of, with_manager, IsLawful, node_no, began_here, place, Scene, ShowsWork, handed, IsAt, IsNext, Goes, eq-eqb}
use Rattle.qs_base.specs.declared.identifiers.Outcome.{Outcome}
use Rattle.qs_engage.specs.Engage.{answers_to}
use Rattle.qs_engage.specs.declared.engage.Engaged.TheVariants as engagements
use Rattle.qs_packet.specs.declared.message.Message.TheVariants as messages
use Rattle.qs_tm.specs.Manager as tm
use Rattle.qs_node_step.specs.Serving.{met}
use Rattle.qs_world_agree.specs.World.{World}
use Rattle.qs_world_refine.specs.Steps.{Knows}
use Rattle.qs_world_refine.proofs.During.{Leaves, leaves_shown}
use Rattle.qs_world_refine.proofs.Known.{told_is}
use Rattle.qs_world_refine.proofs.RequestCases as cases
use Rattle.qs_world_refine.proofs.Requested.{label_leaves, superior_home, with_number}

module _ (tid : Tid) (scene : Scene) (n m i number : ℕ) (label : List ℕ) (member : Member) (issuer : ServerNo) (op : Op) (rest : List Message) (work : Work) (part : Participant) (w : World)
    (at : IsAt scene n work) (next : IsNext scene n m i (messages.Request tid label member number issuer op) rest) (knows : Knows tid work part) (home : part.engage.home ≡ true) (free : part.engage.superior ≡ None)
    (here_is : tid.home.0 ≡ n) (its : is_for member.server op ≡ true) (first : part.outcome ≡ None → tid.inc ≡ scene.inc n) (lawful : IsLawful w) (shown : ShowsWork tid scene n work w) where
  abbrev now : Work
  now = learn_label label tid work

  label_same : Leaves tid work now
  label_same = label_leaves tid tid label work

  setting_now : now.node.setting ≡ work.node.setting
  setting_now = label_same.node.around.setting

  at_now : IsAt scene n now
  at_now = record { in_run = at.in_run; up = at.up; node = ap (λ (s : Setting). s.node) setting_now ∙ at.node; nodes = ap (λ (s : Setting). s.nodes) setting_now ∙ at.nodes; inc = ap (λ (s : Setting). s.inc) setting_now ∙ at.inc }

  shown_now : ShowsWork tid scene n now w
  shown_now = leaves_shown tid scene n work now w label_same shown

  known_now : part_of tid now ≡ Some part
  known_now = label_same.node.part ∙ knows.known

  at_home : same_node tid.home (here work) ≡ true
  at_home = rw at.node (grind (arith, nat_tests, here_is))

  at_home_now : same_node tid.home (here now) ≡ true
  at_home_now = ap (λ (s : Setting). same_node tid.home s.node) setting_now ∙ at_home

  -- the transaction began here, or its home is a later incarnation that knows how it ended
  began_is : began_here now.node tid ≡ (tid.inc == scene.inc n)
  began_is = ap (λ (b : Bool). b && (tid.inc == now.node.setting.inc)) at_home_now ∙ ap (λ (k : ℕ). tid.inc == k) at_now.inc

  abbrev delivery : Delivery
  delivery = record { tid = tid; from = node_no m; number = number; op = op; stale = false }

  abbrev counted : Work
  counted = with_manager (tm.requested tid (node_no m) number) now

  abbrev outcome_of : Bool → Engaged → Work
  outcome_of dropped answers = take_in dropped member delivery (cover_from answers tid (node_no m) number counted)

  met_is : met tid now ≡ now
  met_is = ap (λ (b : Bool). if b then now else with_manager (tm.meet tid) now) at_home_now

  answers_is : tm.engaged_at tid (node_no m) now.node.manager ≡ engagements.Elsewhere
  answers_is = told_is tid engagements.Elsewhere (λ part. engaged (node_no m) part.engage) now.node.manager part known_now ∙ ap (λ (b : Bool). if b then engagements.Elsewhere else answers_to (node_no m) part.engage.superior) home

  dropped_is : is_dropped (same_node tid.home (here work)) (part_of tid work) ≡ is_some part.outcome
  dropped_is = ap (λ (b : Bool). is_dropped b (part_of tid work)) at_home ∙ ap (λ (o : Option Participant). is_dropped true o) knows.known

  rule_is : request_came (node_no m) tid label member number op work ≡ outcome_of (is_some part.outcome) engagements.Elsewhere
  rule_is =
      ap (λ (b : Bool). take_in b member delivery (engage tid (node_no m) number now)) dropped_is
      ∙ (ap (λ (k : Work). take_in (is_some part.outcome) member delivery (cover_from (tm.engaged_at tid (node_no m) k.node.manager) tid (node_no m) number (with_manager (tm.requested tid (node_no m) number) k))) met_is
      ∙ ap (λ (e : Engaged). outcome_of (is_some part.outcome) e) answers_is)

  open_goes : part.outcome ≡ None → Goes tid (handed scene m i n rest) n (outcome_of false engagements.Elsewhere) w
  open_goes undecided = cases.cover_goes tid scene n m i number label member issuer op rest now part w at_now next known_now knows.whole lawful shown_now its undecided
      (superior_home (node_no m) (with_number m number part.engage) home)
      (rw (began, undecided) refl)
      (inl (began, home_place))
    where
      began : began_here now.node tid ≡ true
      began = began_is ∙ eq-eqb (tid.inc) (scene.inc n) (first undecided)

      home_place : place n (scene.inc n) ≡ w.home
      home_place = ap (λ (k : ℕ). place k (scene.inc n)) (sym here_is) ∙ (ap (λ (k : ℕ). place tid.home.0 k) (sym (first undecided)) ∙ sym shown.stage.home)

  decided_goes : (outcome : Outcome) → part.outcome ≡ Some outcome → Goes tid (handed scene m i n rest) n (outcome_of true engagements.Elsewhere) w
  decided_goes outcome decided = cases.drop_home_goes tid scene n m i number label member issuer op rest now part w at_now next known_now knows.whole lawful shown_now
      (superior_home (node_no m) (with_number m number part.engage) home) here_is (off (began_here now.node tid))
    where
      off : (b : Bool) → (if b then not (is_some part.outcome) else is_some part.engage.superior) ≡ false
      off true = rw decided refl
      off false = rw free refl

  pub request_home_goes : Goes tid (handed scene m i n rest) n (request_came (node_no m) tid label member number op work) w
  request_home_goes = by part.outcome refl
    where
      by : (o : Option Outcome) → part.outcome ≡ o → Goes tid (handed scene m i n rest) n (request_came (node_no m) tid label member number op work) w
      by None undecided = subst (λ (k : Work). Goes tid (handed scene m i n rest) n k w) (sym (rule_is ∙ ap (λ (o : Option Outcome). outcome_of (is_some o) engagements.Elsewhere) undecided)) (open_goes undecided)
      by (Some outcome) decided = subst (λ (k : Work). Goes tid (handed scene m i n rest) n k w) (sym (rule_is ∙ ap (λ (o : Option Outcome). outcome_of (is_some o) engagements.Elsewhere) decided)) (decided_goes outcome decided)
