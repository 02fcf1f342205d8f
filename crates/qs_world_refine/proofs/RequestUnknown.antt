-- A request comes to the home's node, which knows nothing of the transaction any more: Drop_cover, and Covered goes back.
use Rattle.qs_world_refine.proofs.Words.{◌≡◌, ℕ, ◌==◌, Bool, true, false, Option, Some, None, refl, sym, subst, ap, ◌∙◌, arith, if◌then◌else◌, is_at, nat_tests, tid_cmp, same_node, engaged, Engaged, Delivery, Participant, is_other, send, learn_label, engage, cover_from, take_in, is_dropped, Setting, Work, here, part_of, with_manager, message_came, Face, node_no, all_said, face_at, SightGoes, sight_returned, sight_during, ShowsWork, handed, Sight, IsAt, Goes}
use Rattle.qs_engage.specs.declared.engage.Engaged.TheVariants as engagements
use Rattle.qs_packet.specs.declared.message.Message.TheVariants as messages
use Rattle.qs_tm.specs.Manager as tm
use Rattle.qs_tm.specs.Participant as participant
use Rattle.qs_node_step.specs.Serving.{met}
use Rattle.qs_world_refine.specs.RuleLaws.{RequestUnknownGoes}
use Rattle.qs_world_refine.proofs.Alike.{SameFace, same_itself, found_itself}
use Rattle.qs_world_refine.proofs.During.{Leaves, leaves_shown, face_here, runs, meets}
use Rattle.qs_world_refine.proofs.Handing.{head_said}
use Rattle.qs_world_refine.proofs.Maps.{changed_none}
use Rattle.qs_world_refine.proofs.Posting.{send_is}
use Rattle.qs_world_refine.proofs.Reading.{face_for}
use Rattle.qs_world_refine.proofs.Refusing as refusing
use Rattle.qs_world_refine.proofs.Requested.{label_leaves}
use Rattle.qs_world_refine.proofs.Returning.{returned_shown}
use Rattle.qs_world_refine.proofs.Same.{tid_same}

pub request_unknown : RequestUnknownGoes
request_unknown tid scene m i number label member issuer op rest work w lawful shown at next none off = subst (λ (k : Work). Goes tid (handed scene m i tid.home.0 rest) tid.home.0 k w) (sym rule_is)
    (record {
      next = turn.next;
      leads = turn.leads;
      shown = subst (λ (k : Work). ShowsWork tid (handed scene m i tid.home.0 rest) tid.home.0 k turn.next) (sym (send_is (node_no m) (messages.Covered tid number) counted goes_out))
          (returned_shown tid scene tid.home.0 m number (messages.Covered tid number) rest now counted turn.next (record { sends = λ q. refl; logs = λ log. found_itself tid _ }) next.from.other not_zero (rw (tid_same tid) refl) i next.from.knows
          (x.face tid.home.0) turn.shown (rw (face_here tid scene tid.home.0 now) face_counted));
    })
  where
    now : Work
    now = learn_label label tid work

    label_same : Leaves tid work now
    label_same = label_leaves tid tid label work

    setting_now : now.node.setting ≡ work.node.setting
    setting_now = label_same.node.around.setting

    at_now : IsAt scene tid.home.0 now
    at_now = record { in_run = at.in_run; up = at.up; node = ap (λ (s : Setting). s.node) setting_now ∙ at.node; nodes = ap (λ (s : Setting). s.nodes) setting_now ∙ at.nodes; inc = ap (λ (s : Setting). s.inc) setting_now ∙ at.inc }

    shown_now : ShowsWork tid scene tid.home.0 now w
    shown_now = leaves_shown tid scene tid.home.0 work now w label_same shown

    x : Sight
    x = sight_during tid scene tid.home.0 now

    none_now : tm.part_of tid now.node.manager ≡ None
    none_now = label_same.node.part ∙ none

    at_home : same_node tid.home (here work) ≡ true
    at_home = rw at.node (grind (arith, nat_tests))

    at_home_now : same_node tid.home (here now) ≡ true
    at_home_now = ap (λ (s : Setting). same_node tid.home s.node) setting_now ∙ at_home

    off_now : (x.face tid.home.0).on ≡ false
    off_now = ap (λ (f : Face). f.on) (face_here tid scene tid.home.0 now) ∙ ((face_for tid work.node now.node label_same.node).on ∙ off)

    turn : SightGoes tid (sight_returned x tid.home.0 m i number (record (x.face tid.home.0) { last = (x.face tid.home.0).last }) (all_said tid rest)) w
    turn = refusing.drop_home tid x w tid.home.0 m i number member.server.0 (all_said tid rest) (x.face tid.home.0).last lawful shown_now (runs tid scene tid.home.0 now at_now) (meets tid scene tid.home.0 m i now next.from)
        (head_said tid scene tid.home.0 m i (messages.Request tid label member number issuer op) rest now.out.messages next ∙ rw (tid_same tid) refl) refl off_now

    counted : Work
    counted = with_manager (tm.requested tid (node_no m) number) now

    face_counted : SameFace (face_at now.node tid) (face_at counted.node tid)
    face_counted = rw (changed_none (is_at (tid_cmp tid)) (participant.requested (node_no m) number) now.node.manager.known none_now) (same_itself (face_at now.node tid))

    goes_out : is_other counted.node.setting (node_no m) ≡ true
    goes_out = rw (at_now.node, at_now.nodes) (grind (arith, nat_tests, next.from.other, next.from.in_run))

    not_zero : (scene.knows tid.home.0 m == 0) ≡ false
    not_zero = positive (scene.knows tid.home.0 m) next.from.knows
      where
        positive : (k : ℕ) → k ≡ i → (k == 0) ≡ false
        positive k is = grind (arith, nat_tests, is, next.from.some)

    delivery : Delivery
    delivery = record { tid = tid; from = node_no m; number = number; op = op; stale = false }

    answers_is : tm.engaged_at tid (node_no m) now.node.manager ≡ engagements.Elsewhere
    answers_is = ap (λ (o : Option Participant). elim o [ None ↦ engagements.Elsewhere | Some part ↦ engaged (node_no m) part.engage ]) none_now

    met_is : met tid now ≡ now
    met_is = ap (λ (b : Bool). if b then now else with_manager (tm.meet tid) now) at_home_now

    dropped_is : is_dropped (same_node tid.home (here work)) (part_of tid work) ≡ true
    dropped_is = ap (λ (b : Bool). is_dropped b (part_of tid work)) at_home ∙ ap (λ (o : Option Participant). is_dropped true o) none

    rule_is : message_came (node_no m) (messages.Request tid label member number issuer op) work ≡ send (node_no m) (messages.Covered tid number) counted
    rule_is =
        ap (λ (b : Bool). take_in b member delivery (engage tid (node_no m) number now)) dropped_is
        ∙ (ap (λ (k : Work). cover_from (tm.engaged_at tid (node_no m) k.node.manager) tid (node_no m) number (with_manager (tm.requested tid (node_no m) number) k)) met_is
        ∙ ap (λ (e : Engaged). cover_from e tid (node_no m) number counted) answers_is)
