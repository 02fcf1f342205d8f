-- What a request that comes makes of what is kept of its transaction.
use Rattle.qs_world_refine.proofs.Words.{◌≡◌, ◌⊎◌, inl, inr, ℕ, Bool, true, false, List, Option, Some, None, refl, sym, ap, ◌∙◌, if◌then◌else◌, is_none, is_at, lookup, tid_cmp, Member, NodeNo, Tid, with_last, same_node, Engaged, is_for, Delivery, Op, new_participant, is_undecided, Participant, label_at, put_label, learn_label, cover_from, is_dropped, take_in, request_came, NodeValue, Work, here, part_of, with_manager, with_queues, node_no, same_Some}
use Rattle.qs_engage.specs.declared.engage.Engaged.TheVariants as engagements
use Rattle.qs_ipc.specs.Ipc as ipc
use Rattle.qs_packet.specs.declared.message.Message.TheVariants as messages
use Rattle.qs_tm.specs.Manager as tm
use Rattle.qs_tm.specs.Participant as participant
use Rattle.qs_node_step.specs.Serving.{met}
use Rattle.qs_world_refine.proofs.Maps.{changed_none}
use Rattle.qs_world_refine.proofs.OutcomeAfter.{send_records}
use Rattle.qs_world_refine.proofs.SendGoes.{send_node}
use Rattle.qs_world_refine.proofs.PassCarried.{Carries, carries_itself, carries_on, carries_send}

module _ (t : Tid) (m number : ℕ) (label : List ℕ) (member : Member) (op : Op) (work : Work) where
  abbrev peer : NodeNo
  peer = node_no m

  abbrev learnt : Work
  learnt = learn_label label t work

  abbrev asked : Work
  asked = with_manager (tm.requested t (node_no m) number) (met t (learn_label label t work))

  abbrev came : Work
  came = request_came (node_no m) t label member number op work

  -- nothing is logged
  pub asked_records : asked.out.records ≡ work.out.records
  asked_records = by (is_none (label_at label work.node)) (same_node t.home (here (learn_label label t work)))
    where
      labels : (a : Bool) → (if a then put_label (record { label = label; tid = Some t; owner = None }) work else work).out.records ≡ work.out.records
      labels true = refl
      labels false = refl

      meets : (b : Bool) (some : Work) → (if b then some else with_manager (tm.meet t) some).out.records ≡ some.out.records
      meets true some = refl
      meets false some = refl

      by : (a b : Bool) → asked.out.records ≡ work.out.records
      by a b = meets (same_node t.home (here (learn_label label t work))) (learn_label label t work) ∙ labels (is_none (label_at label work.node))

  pub learnt_part : part_of t (learn_label label t work) ≡ part_of t work
  learnt_part = by (is_none (label_at label work.node))
    where
      by : (a : Bool) → part_of t (if a then put_label (record { label = label; tid = Some t; owner = None }) work else work) ≡ part_of t work
      by true = refl
      by false = refl

  pub rest_carries : Carries t asked (request_came (node_no m) t label member number op work)
  rest_carries = carries_on t asked covered (request_came (node_no m) t label member number op work) (covers (tm.engaged_at t (node_no m) (met t (learn_label label t work)).node.manager) asked) (takes (is_dropped (same_node t.home (here work)) (part_of t work)) covered)
    where
      covered : Work
      covered = cover_from (tm.engaged_at t (node_no m) (met t (learn_label label t work)).node.manager) t (node_no m) number (with_manager (tm.requested t (node_no m) number) (met t (learn_label label t work)))

      covers : (e : Engaged) (some : Work) → Carries t some (cover_from e t (node_no m) number some)
      covers engagements.Superior some = carries_itself t some
      covers engagements.Elsewhere some = carries_send t (node_no m) (messages.Covered t number) some

      takes : (a : Bool) (some : Work) → Carries t some (take_in a member (record { tid = t; from = node_no m; number = number; op = op; stale = false }) some)
      takes true some = carries_itself t some
      takes false some = put (is_for member.server op)
        where
          put : (b : Bool) → Carries t some (if b then with_queues (ipc.enqueue member.server (record { tid = t; from = node_no m; number = number; op = op; stale = false })) some else some)
          put true part known = record { next = part; known = known; outcome = refl; superior = λ k has. has; unprepared = λ off. (off, refl) }
          put false part known = carries_itself t some part known

  -- where the home's node does not know it, it is dropped, and nothing is kept
  pub request_left : part_of t work ≡ None → same_node t.home (here work) ≡ true → (part_of t (request_came (node_no m) t label member number op work) ≡ None) × ((request_came (node_no m) t label member number op work).out.records ≡ work.out.records)
  request_left none home = (
    ap (λ (k : Work). part_of t k) came_is ∙ (part_covered (tm.engaged_at t (node_no m) (met t (learn_label label t work)).node.manager) ∙ part_asked),
    ap (λ (k : Work). k.out.records) came_is ∙ (records_covered (tm.engaged_at t (node_no m) (met t (learn_label label t work)).node.manager) ∙ asked_records),
  )
    where
      d : Delivery
      d = record { tid = t; from = node_no m; number = number; op = op; stale = false }

      came_is : request_came (node_no m) t label member number op work ≡ cover_from (tm.engaged_at t (node_no m) (met t (learn_label label t work)).node.manager) t (node_no m) number (with_manager (tm.requested t (node_no m) number) (met t (learn_label label t work)))
      came_is = ap (λ (b : Bool). take_in b member (record { tid = t; from = node_no m; number = number; op = op; stale = false }) (cover_from (tm.engaged_at t (node_no m) (met t (learn_label label t work)).node.manager) t (node_no m) number (with_manager (tm.requested t (node_no m) number) (met t (learn_label label t work)))))
          (ap (λ (o : Option Participant). is_dropped (same_node t.home (here work)) o) none ∙ home)

      part_covered : (e : Engaged) → part_of t (cover_from e t (node_no m) number (with_manager (tm.requested t (node_no m) number) (met t (learn_label label t work)))) ≡ part_of t (with_manager (tm.requested t (node_no m) number) (met t (learn_label label t work)))
      part_covered engagements.Superior = refl
      part_covered engagements.Elsewhere = ap (λ (k : NodeValue). tm.part_of t k.manager) (send_node (node_no m) (messages.Covered t number) (with_manager (tm.requested t (node_no m) number) (met t (learn_label label t work))))

      records_covered : (e : Engaged) → (cover_from e t (node_no m) number (with_manager (tm.requested t (node_no m) number) (met t (learn_label label t work)))).out.records ≡ (with_manager (tm.requested t (node_no m) number) (met t (learn_label label t work))).out.records
      records_covered engagements.Superior = refl
      records_covered engagements.Elsewhere = send_records (node_no m) (messages.Covered t number) (with_manager (tm.requested t (node_no m) number) (met t (learn_label label t work)))

      here_learnt : same_node t.home (here (learn_label label t work)) ≡ true
      here_learnt = by (is_none (label_at label work.node))
        where
          by : (a : Bool) → same_node t.home (here (if a then put_label (record { label = label; tid = Some t; owner = None }) work else work)) ≡ true
          by true = home
          by false = home

      part_asked : part_of t (with_manager (tm.requested t (node_no m) number) (met t (learn_label label t work))) ≡ None
      part_asked = ap (λ (b : Bool). part_of t (with_manager (tm.requested t (node_no m) number) (if b then learn_label label t work else with_manager (tm.meet t) (learn_label label t work)))) here_learnt
          ∙ (ap (λ (known : List (Tid × Participant)). lookup (is_at (tid_cmp t)) known) (changed_none (is_at (tid_cmp t)) (participant.requested (node_no m) number) (learn_label label t work).node.manager.known (learnt_part ∙ none)) ∙ (learnt_part ∙ none))

  -- whom it answers to then
  pub answers_then : (part : Participant) (k : ℕ) → (participant.requested (node_no m) number part).engage.superior ≡ Some (node_no k) → (part.engage.superior ≡ Some (node_no k)) ⊎ (k ≡ m)
  answers_then part k has = by part.engage.home part.engage.superior refl has
    where
      by : (h : Bool) (o : Option NodeNo) → part.engage.superior ≡ o
          → (if h then with_last (node_no m) number part.engage else elim o [ None ↦ record (with_last (node_no m) number part.engage) { superior = Some (node_no m); last_superior = Some (node_no m) } | Some superior ↦ with_last (node_no m) number part.engage ]).superior ≡ Some (node_no k)
          → (part.engage.superior ≡ Some (node_no k)) ⊎ (k ≡ m)
      by true o at has = inl has
      by false None at has = inr (sym (number_of m k has))
        where
          number_of : (a b : ℕ) → Some (node_no a) ≡ Some (node_no b) → a ≡ b
          number_of a b e = ap (λ (x : NodeNo). x.0) (same_Some (node_no a) (node_no b) e)
      by false (Some superior) at has = inl has
