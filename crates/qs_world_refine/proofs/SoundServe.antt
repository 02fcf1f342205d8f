-- A node stays sound where it serves what waits.
use Rattle.qs_world_refine.proofs.Words.{◌≡◌, ◌==◌, ◌&&◌, ◌||◌, not, Bool, true, false, List, [], ◌∷◌, Option, Some, None, unwrap_or, refl, sym, ap, subst, ◌∙◌, arith, fold, if◌then◌else◌, list_any, lookup, is_at, nat_tests, tid_cmp, same_tid, ClientNo, Member, ServerNo, Tid, same_node, IpcValue, server_cmp, waits_in, QueueValue, no_queue, first_of, Delivery, after_serving, Reply, is_client, is_told_class, class_here, is_abort, member_of, with_member, is_undecided, Participant, last_number}
use Rattle.qs_world_refine.proofs.Words.{member_here, reply_came, reply_here, enter_serve, lent_to, make_loan, give_reply, serve, serve_or_drop, serve_next, is_lent, NodeValue, Work, here, part_of, with_manager, with_queues, change_server, is_sound, is_sound_part, may_be_served, where_so, StaysSound, or_left, or_right}
use Rattle.qs_ipc.specs.Ipc as ipc
use Rattle.qs_ipc.specs.Queue.{first, is_of}
use Rattle.qs_packet.specs.declared.message.Message.TheVariants as messages
use Rattle.qs_tm.specs.Manager as tm
use Rattle.qs_tm.specs.Participant as participant
use Rattle.qs_node_step.specs.Serving.{may_serve}
use Rattle.qs_world_refine.specs.SoundLaws.{ServeAllSound}
use Rattle.qs_world_refine.proofs.Maps.{lookup_changed}
use Rattle.qs_world_refine.proofs.SoundParts.{all_found, part_sound}
use Rattle.qs_world_refine.proofs.SoundRules.{send_node, reply_came_sound}
use Rattle.qs_world_refine.proofs.SoundLoans.{lent_sound}
use Rattle.qs_world_refine.proofs.SoundMembers.{after_serve, served_sound}
use Rattle.qs_world_refine.proofs.SoundQueued.{next_sound}
use Rattle.qs_world_refine.proofs.SoundViews.{PartSound, is_apart, seen, part_seen, part_as}

-- ---- of what waits or is lent the node is at the home, decided, or engaged

any_found : (here : ServerNo → Bool) (p : ServerNo × QueueValue → Bool) (q : QueueValue) → ((k : ServerNo) → p (k, q) ≡ true) → (es : IpcValue) → lookup here es ≡ Some q → list_any p es ≡ true
any_found here p q its [] found = absurd (cc (found))
any_found here p q its (e ∷ es) found = by (here e.0) refl (any_found here p q its es)
  where
    by : (b : Bool) → here e.0 ≡ b → (lookup here es ≡ Some q → list_any p es ≡ true) → (p e || list_any p es) ≡ true
    by true is more =
        let value : Some e.1 ≡ Some q = rw is at found in
        or_left (p e) (list_any p es) (subst (λ (x : QueueValue). p (e.0, x) ≡ true) (sym (cc (value))) (its e.0))
    by false is more = or_right (p e) (list_any p es) (more (rw is at found))

next_waits : (server : ServerNo) (delivery : Delivery) (queues : IpcValue) → ipc.next server queues ≡ Some delivery → ipc.waits delivery.tid queues ≡ true
next_waits server delivery queues next = by (lookup (is_at (server_cmp server)) queues) refl next
  where
    waits_first : (q : QueueValue) (ds : List Delivery) → first_of ds ≡ Some delivery → list_any (is_of delivery.tid) ds ≡ true
    waits_first q [] is = absurd (cc (is))
    waits_first q (d ∷ ds) is =
        let same : d ≡ delivery = cc (is) in
        subst (λ (x : Delivery). (same_tid delivery.tid x.tid || list_any (is_of delivery.tid) ds) ≡ true) (sym same)
        (or_left (same_tid delivery.tid delivery.tid) (list_any (is_of delivery.tid) ds) (grind (arith, nat_tests)))

    by : (o : Option QueueValue) → lookup (is_at (server_cmp server)) queues ≡ o → first (unwrap_or o no_queue) ≡ Some delivery → ipc.waits delivery.tid queues ≡ true
    by None found is = absurd (cc (is))
    by (Some q) found is = any_found (is_at (server_cmp server)) (waits_in delivery.tid) q (λ k. waits_first q q.waiting is) queues found

pub waiting_busy : (node : NodeValue) (tid : Tid) (part : Participant) → ipc.waits tid node.queues ≡ true → PartSound node tid part → is_apart part ≡ false
waiting_busy node tid part waits s = by (is_apart part) (ipc.waits tid node.queues) waits _ s.idle
  where
    by : (c w : Bool) → w ≡ true → (r : Bool) → where_so c (not w && r) ≡ true → c ≡ false
    by true true is r so = absurd (cc (so))
    by true false is r so = absurd (cc (is))
    by false w is r so = refl

pub lent_busy : (node : NodeValue) (tid : Tid) (part : Participant) → is_lent tid node ≡ true → PartSound node tid part → is_apart part ≡ false
lent_busy node tid part lent s = by (is_apart part) (not (ipc.waits tid node.queues)) (is_lent tid node) lent _ s.idle
  where
    by : (c a w : Bool) → w ≡ true → (r : Bool) → where_so c (a && (not w && r)) ≡ true → c ≡ false
    by true true true is r so = absurd (cc (so))
    by true false true is r so = absurd (cc (so))
    by true a false is r so = absurd (cc (is))
    by false a w is r so = refl

-- ---- one request is served

module _ (server : ServerNo) (delivery : Delivery) (reply : Reply) (work : Work) (part : Participant) (known : part_of delivery.tid work ≡ Some part) (busy : is_apart part ≡ false) (served : may_serve delivery.tid work ≡ true) where
  abbrev entered : Work
  entered = enter_serve server delivery reply work

  entered_node : (P : NodeValue → Type 0) → ((servers : Rattle.qs_node_servers.specs.Servers.ServersValue) → P (record (with_manager (tm.served delivery.tid server) work).node { servers = servers })) → P entered.node
  entered_node P each = by (is_client server)
    where
      by : (b : Bool) → P (with_manager (tm.served delivery.tid server) (if b then work else change_server server (λ value. after_serving value delivery.tid delivery.op reply) work)).node
      by true = each work.node.servers
      by false = each (change_server server (λ value. after_serving value delivery.tid delivery.op reply) work).node.servers

  entered_sound : is_sound work.node ≡ true → is_sound entered.node ≡ true
  entered_sound sound = entered_node (λ (n : NodeValue). is_sound n ≡ true) (λ servers. counted)
    where
      outcome_same : (participant.served server part).outcome ≡ part.outcome
      outcome_same = by ((member_of part server).served == last_number)
        where
          by : (b : Bool) → (if b then part else record (with_member server (after_serve server part) part) { involved = part.involved || is_told_class (class_here server) }).outcome ≡ part.outcome
          by true = refl
          by false = refl

      counted : is_sound (with_manager (tm.served delivery.tid server) work).node ≡ true
      counted = part_sound delivery.tid (participant.served server) work.node part known outcome_same
          (part_as work.node delivery.tid (participant.served server part) (served_sound work.node delivery.tid part server busy
          (part_seen work.node delivery.tid part (all_found delivery.tid (is_sound_part work.node) work.node.manager.known part known (seen work.node sound).parts)))) sound

  entered_known : part_of delivery.tid entered ≡ Some (participant.served server part)
  entered_known = entered_node (λ (n : NodeValue). tm.part_of delivery.tid n.manager ≡ Some (participant.served server part))
      (λ servers. lookup_changed (is_at (tid_cmp delivery.tid)) (participant.served server) work.node.manager.known part known)

  still_busy : is_apart (participant.served server part) ≡ false
  still_busy = by ((member_of part server).served == last_number)
    where
      by : (b : Bool) → is_apart (if b then part else record (with_member server (after_serve server part) part) { involved = part.involved || is_told_class (class_here server) }) ≡ false
      by true = busy
      by false = busy

  undecided : is_undecided (participant.served server part) ≡ true
  undecided = by ((member_of part server).served == last_number) (ap (λ (o : Option Participant). elim o [ None ↦ false | Some p ↦ is_undecided p ]) (sym known) ∙ served)
    where
      by : (b : Bool) → is_undecided part ≡ true → is_undecided (if b then part else record (with_member server (after_serve server part) part) { involved = part.involved || is_told_class (class_here server) }) ≡ true
      by true is = is
      by false is = is

  entered_served : may_be_served entered.node delivery.tid ≡ true
  entered_served = ap (λ (o : Option Participant). elim o [ None ↦ false | Some p ↦ is_undecided p || is_abort p.outcome ]) entered_known
      ∙ or_left (is_undecided (participant.served server part)) (is_abort (participant.served server part).outcome) undecided

  lent : (o : Option ClientNo) → is_sound work.node ≡ true → is_sound (make_loan delivery.tid o entered).node ≡ true
  lent None sound = entered_sound sound
  lent (Some client) sound = lent_sound (record { tid = delivery.tid; client = client; inc = entered.node.setting.inc; taken = false; yielded = false }) entered.node
      (participant.served server part) entered_known still_busy entered_served (entered_sound sound)

  replied : (member : Member) (w : Work) → is_sound w.node ≡ true → is_sound (give_reply member delivery reply w).node ≡ true
  replied member w sound = by (same_node delivery.from (here w)) delivery.stale
    where
      by : (a b : Bool) → is_sound (if a then reply_came delivery.tid member delivery.number reply w else if b then w else Rattle.qs_node_step.specs.Bringing.send delivery.from (messages.Answered delivery.tid member delivery.number reply) w).node ≡ true
      by true b = reply_came_sound delivery.tid member delivery.number reply w sound
      by false true = sound
      by false false = rw (send_node delivery.from (messages.Answered delivery.tid member delivery.number reply) w) sound

  pub serve_sound : is_sound work.node ≡ true → is_sound (serve server delivery reply work).node ≡ true
  serve_sound sound = replied (member_here work server) (make_loan delivery.tid (lent_to delivery.op) entered) (lent (lent_to delivery.op) sound)

-- ---- what waits first leaves its queue, and is served

served_or_dropped : (server : ServerNo) (delivery : Delivery) (work : Work) → ((part : Participant) → part_of delivery.tid work ≡ Some part → is_apart part ≡ false)
    → is_sound work.node ≡ true → is_sound (serve_or_drop server delivery work).node ≡ true
served_or_dropped server delivery work busy sound = by (part_of delivery.tid work) refl (may_serve delivery.tid work) refl sound
  where
    reply_by : (part : Participant) → part_of delivery.tid work ≡ Some part → may_serve delivery.tid work ≡ true → (o : Option Reply) → StaysSound work (elim o [ None ↦ work | Some reply ↦ serve server delivery reply work ])
    reply_by part known may None sound = sound
    reply_by part known may (Some reply) sound = serve_sound server delivery reply work part known (busy part known) may sound

    by : (o : Option Participant) → part_of delivery.tid work ≡ o → (b : Bool) → may_serve delivery.tid work ≡ b
        → StaysSound work (if b then elim (reply_here server delivery.tid delivery.op work.node) [ None ↦ work | Some reply ↦ serve server delivery reply work ] else work)
    by o at false may so = so
    by None none true may so =
        let off : may_serve delivery.tid work ≡ false = ap (λ (o : Option Participant). elim o [ None ↦ false | Some p ↦ is_undecided p ]) none in
        absurd (cc (may, off))
    by (Some part) known true may so = reply_by part known may (reply_here server delivery.tid delivery.op work.node) so

pub serve_next_sound : (work : Work) (server : ServerNo) → is_sound work.node ≡ true → is_sound (serve_next work server).node ≡ true
serve_next_sound work server sound = by (ipc.next server work.node.queues) refl sound
  where
    by : (o : Option Delivery) → ipc.next server work.node.queues ≡ o → StaysSound work (elim o [ None ↦ work | Some delivery ↦ serve_or_drop server delivery (with_queues (ipc.after_next server) work) ])
    by None none so = so
    by (Some delivery) next so = served_or_dropped server delivery (with_queues (ipc.after_next server) work)
        (λ part known. waiting_busy work.node delivery.tid part (next_waits server delivery work.node.queues next)
        (part_seen work.node delivery.tid part (all_found delivery.tid (is_sound_part work.node) work.node.manager.known part known (seen work.node sound).parts)))
        (next_sound server work.node sound)

pub serve_all_sound : ServeAllSound
serve_all_sound work = each (ipc.turns work.node.queues) work
  where
    each : (servers : List ServerNo) (w : Work) → is_sound w.node ≡ true → is_sound (fold serve_next w servers).node ≡ true
    each [] w sound = sound
    each (server ∷ servers) w sound = each servers (serve_next w server) (serve_next_sound w server sound)
