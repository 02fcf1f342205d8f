-- All that waits is served, and what stood of a transaction stands.
use Rattle.qs_world_refine.proofs.Words.{◌≡◌, ◌⊎◌, inl, inr, ℕ, ◌<◌, ◌≤◌, ◌==◌, ◌&&◌, ◌||◌, not, nat_lt, Bool, true, false, List, [], ◌∷◌, drop, Option, Some, None, is_some, fold, refl, sym, subst, ap, ◌∙◌, arith, if◌then◌else◌, is_none, eqb-true, nat_tests, same_tid, ServerNo, Tid, IpcValue, queue_at, server_cmp, is_for, Delivery, class_of, Reply, server_at, is_client, is_abort, member_of, is_undecided, Participant, reply_here, serve_or_drop, serve_next, Work, part_of, with_queues, Face, face}
use Rattle.qs_world_refine.proofs.Words.{CanCount, Scene, sight_during, Sight, ShowsSight, is_sound_delivery, may_be_served, Stands, GoesOn, Goes, serve, place}
use Rattle.qs_base.specs.declared.identifiers.Class.TheVariants as classes
use Rattle.qs_base.specs.declared.identifiers.Outcome.{Outcome}
use Rattle.qs_base.specs.declared.identifiers.Outcome.TheVariants as outcomes
use Rattle.qs_ipc.specs.Ipc as ipc
use Rattle.qs_node_step.specs.Serving.{may_serve}
use Rattle.qs_world_agree.specs.World.{World}
use Rattle.qs_world_refine.specs.NodeFaces.{waiting_at}
use Rattle.qs_world_refine.specs.ServeWhole.{ServeAllGoes}
use Rattle.qs_world_refine.proofs.OwnReplies.{OfServer, OfClient, own_replies}
use Rattle.qs_world_refine.proofs.ServeFrames.{next_leaves, next_kinds}
use Rattle.qs_world_refine.proofs.SettleStands.{stands_itself, goes_further, whole_known}
use Rattle.qs_world_refine.proofs.SoundKnown.{same_is}
use Rattle.qs_world_refine.proofs.SoundParts.{and_both}
use Rattle.qs_world_refine.proofs.SoundServe.{serve_next_sound}
use Rattle.qs_world_refine.proofs.SoundViews.{seen}
use Rattle.qs_ops.specs.Server.{reply_of}
use Rattle.qs_ops.specs.declared.reply.Reply.TheVariants as replies
use Rattle.qs_tm.specs.Participant as participant
use Rattle.qs_world_refine.specs.Steps.{Knows}
use Rattle.qs_world_refine.proofs.Alike.{SameFace, same_itself, found_itself, sight_alike}
use Rattle.qs_world_refine.proofs.DecidedStands.{KeepOutcomes, decided_stands}
use Rattle.qs_world_refine.proofs.During.{Leaves, local_shown, face_here}
use Rattle.qs_world_refine.proofs.Keeping.{nothing_goes}
use Rattle.qs_world_refine.proofs.PassCarried.{Carried}
use Rattle.qs_world_refine.proofs.Reading.{part_known}
use Rattle.qs_world_refine.proofs.Refaced.{refaced}
use Rattle.qs_world_refine.proofs.ServeCounts.{KeepsCounts, served_outcome, served_superior, served_prepared, serve_counts}
use Rattle.qs_world_refine.proofs.ServeGoes.{serve_law, lend_law}
use Rattle.qs_world_refine.proofs.SettleRules.{beside, beside_apart, stands_on, clear_carried, answers_carried}
use Rattle.qs_world_refine.proofs.SoundHolds.{known_sound}
use Rattle.qs_world_refine.proofs.SoundMembers.{vote_covers}
use Rattle.qs_world_refine.proofs.ServeFirst.{delivery_sound, with_waits, aborted_waits, other_served}
use Rattle.qs_world_refine.proofs.ServeRoom.{IsSized, next_counts, turn_is, unfull, waits_here}

-- ---- its own

module _ (scene : Scene) (n : ℕ) (server : ServerNo) (d : Delivery) (work : Work) (w : World) (is : Stands d.tid scene n work w) (next : ipc.next server work.node.queues ≡ Some d) where
  abbrev left : Work
  left = with_queues (ipc.after_next server) work

  its : (is_for server d.op ≡ true) × (may_be_served work.node d.tid ≡ true)
  its =
      let sound : is_sound_delivery work.node server d ≡ true = delivery_sound work.node server d work.node.queues next (seen work.node is.sound).queues in
      let both : (is_for server d.op ≡ true) × ((may_be_served work.node d.tid && nat_lt d.from.0 work.node.setting.nodes) ≡ true) = and_both (is_for server d.op) (may_be_served work.node d.tid && nat_lt d.from.0 work.node.setting.nodes) sound in
      (both.0, (and_both (may_be_served work.node d.tid) (nat_lt d.from.0 work.node.setting.nodes) both.1).0)

  next_left : Leaves (beside d.tid) work (serve_next work server)
  next_left = subst (λ (k : Work). Leaves (beside d.tid) work k) (sym (turn_is server d work next)) (next_leaves (beside d.tid) server d (beside_apart d.tid) work next)

  -- ---- it is dropped where abort is known

  module _ (part : Participant) (known : part_of d.tid work ≡ Some part) (aborted : part.outcome ≡ Some outcomes.Abort) where
    abbrev x : Sight
    x = sight_during d.tid scene n work

    abbrev fewer : Face
    fewer = with_waits (x.face n) (λ r. waiting_at left.node d.tid r)

    dropped_is : serve_next work server ≡ left
    dropped_is = turn_is server d work next ∙ ap (λ (b : Bool). if b then elim (reply_here server d.tid d.op left.node) [ None ↦ left | Some reply ↦ serve server d reply left ] else left) off
      where
        off : may_serve d.tid left ≡ false
        off = ap (λ (o : Option Participant). elim o [ None ↦ false | Some p ↦ is_undecided p ]) known ∙ ap is_none aborted

    face_before : x.face n ≡ face work.node d.tid part
    face_before = face_here d.tid scene n work ∙ ap (λ (p : Participant). face work.node d.tid p) (part_known d.tid work.node part known)

    here_as : ShowsSight d.tid x w → ShowsSight d.tid (record x { face = λ k. if k == n then x.face n else x.face k; said = x.said; found = x.found }) w
    here_as shown = sight_alike d.tid x (record x { face = λ k. if k == n then x.face n else x.face k; said = x.said; found = x.found }) w
        (record { size = refl; inc = refl; up = refl; knows = refl; face = λ k. by k (k == n) refl; said = λ _ _ _ _. refl; unmet = λ _ _. refl; found = λ k. found_itself d.tid (x.found k) }) shown
      where
        by : (k : ℕ) (b : Bool) → (k == n) ≡ b → SameFace (x.face k) (if b then x.face n else x.face k)
        by k true same = subst (λ (m : ℕ). SameFace (x.face k) (x.face m)) (eqb-true k n same) (same_itself (x.face k))
        by k false same = same_itself (x.face k)

    dropped_goes : Goes d.tid scene n (serve_next work server) w
    dropped_goes = subst (λ (k : Work). Goes d.tid scene n k w) (sym dropped_is) (nothing_goes d.tid scene n left w
        (local_shown d.tid scene n work left w (record { sends = λ q. refl; logs = λ log. found_itself d.tid _ }) fewer
        (refaced d.tid x w n (x.face n) fewer x.said x.found (aborted_waits (x.face n) (λ r. waiting_at left.node d.tid r) (place n (x.inc n)) w (ap (λ (f : Face). f.outcome) face_before ∙ rw aborted refl)) (here_as is.shown))
        (rw (face_before, part_known d.tid left.node part known) same)))
      where
        same : SameFace (with_waits (face work.node d.tid part) (λ r. waiting_at left.node d.tid r)) (face left.node d.tid part)
        same = record { is_home = refl; on = refl; superior = refl; last = λ m. refl; sent = λ m. refl; covered = λ m. refl; waits = λ s. refl; uncast = λ s. refl; loans = refl; asked = refl; blocked = refl; involved = refl; told = λ m. refl; outcome = refl; tell = λ m. refl }

    keeps : KeepOutcomes d.tid work (serve_next work server)
    keeps = subst (λ (k : Work). KeepOutcomes d.tid work k) (sym dropped_is) (λ p its_part. record { next = p; known = its_part; outcome = refl; superior = λ m has. has })

    pub dropped : GoesOn d.tid scene n (serve_next work server) w
    dropped = decided_stands d.tid scene n work (serve_next work server) w is part known outcomes.Abort aborted keeps dropped_goes next_left (serve_next_sound work server) (next_kinds work server)

  -- ---- it is served

  module _ (part : Participant) (known : part_of d.tid work ≡ Some part) (undecided : part.outcome ≡ None) (can : CanCount d.tid work) where
    knows : Knows d.tid work part
    knows = whole_known d.tid scene n work w is part known

    open_now : may_serve d.tid left ≡ true
    open_now = ap (λ (o : Option Participant). elim o [ None ↦ false | Some p ↦ is_undecided p ]) known ∙ ap is_none undecided

    module _ (reply : Reply) (replies : reply_here server d.tid d.op work.node ≡ Some reply) where
      served_is : serve_next work server ≡ serve server d reply left
      served_is = turn_is server d work next
          ∙ (ap (λ (b : Bool). if b then elim (reply_here server d.tid d.op left.node) [ None ↦ left | Some reply ↦ serve server d reply left ] else left) open_now
          ∙ ap (λ (o : Option Reply). elim o [ None ↦ left | Some reply ↦ serve server d reply left ]) replies)

      counts : KeepsCounts d.tid left (serve server d reply left) (participant.served server part)
      counts = serve_counts server d reply left part known

      carried : Carried d.tid work (serve_next work server) part
      carried = subst (λ (k : Work). Carried d.tid work k part) (sym served_is) (record {
        next = counts.next;
        known = counts.known;
        outcome = counts.outcome ∙ served_outcome server part;
        superior = λ m has. sym (counts.superior ∙ served_superior server part) ∙ has;
        unprepared = λ off. (sym (counts.prepared ∙ served_prepared server part) ∙ off, counts.records);
      })

      served_on : Goes d.tid scene n (serve_next work server) w → GoesOn d.tid scene n (serve_next work server) w
      served_on goes = stands_on d.tid scene n work (serve_next work server) w is goes next_left (serve_next_sound work server) (next_kinds work server)
          (clear_carried d.tid scene n work (serve_next work server) w is part known undecided carried) (answers_carried d.tid scene n work (serve_next work server) w is part known undecided carried)

      -- a server of the node replies, or a client takes a loan
      by_server : OfServer server.0 d.tid d.op → Goes d.tid scene n (serve_next work server) w
      by_server own = serve_law d.tid scene n server.0 d (drop 1 (queue_at work.node.queues server).waiting) reply work part w is.shown is.at knows (waits_here server d work next, refl, replies, undecided) own.below
          (unfull server d work next can part known own.below) (vote_covers work.node d.tid part (known_sound d.tid work.node part known is.sound) server) own.no_loan

      by_client : OfClient server.0 d.op → Goes d.tid scene n (serve_next work server) w
      by_client own = lend_law d.tid scene n server.0 d (drop 1 (queue_at work.node.queues server).waiting) reply own.client work part w is.shown is.at knows (waits_here server d work next, refl, replies, undecided) (omega (arith, own.above)) (activity server.0 own.above) own.lends
        where
          activity : (s : ℕ) → 32 ≤ s → class_of s ≡ classes.Activity
          activity s above = grind (arith, nat_tests, above)

    -- it has a reply
    replied : OfServer server.0 d.tid d.op ⊎ OfClient server.0 d.op → (o : Option Reply) → reply_here server d.tid d.op work.node ≡ o → GoesOn d.tid scene n (serve_next work server) w
    replied (inl own) (Some reply) replies = served_on reply replies (by_server reply replies own)
    replied (inr own) (Some reply) replies = served_on reply replies (by_client reply replies own)
    replied (inl own) None none = absurd (never none)
      where
        never : reply_here server d.tid d.op work.node ≡ None → ⊥
        never none = off (is_for server d.op) (is_client server) its.0 (below server.0 own.below) (own.replies (server_at work.node.servers server) (is.kinds server.0 own.below)) none
          where
            below : (s : ℕ) → s < 7 → nat_lt 31 s ≡ false
            below s under = grind (arith, nat_tests, under)

            off : (a b : Bool) → a ≡ true → b ≡ false → is_some (reply_of (server_at work.node.servers server) d.tid d.op) ≡ true
                → (if not a then None else if b then Some replies.Done else reply_of (server_at work.node.servers server) d.tid d.op) ≡ None → ⊥
            off a b is so some none = empty (reply_of (server_at work.node.servers server) d.tid d.op) some (rw (is, so) at none)
              where
                empty : (o : Option Reply) → is_some o ≡ true → o ≡ None → ⊥
                empty None is none = cc is
                empty (Some reply) is none = cc none
    replied (inr own) None none = absurd (never none)
      where
        never : reply_here server d.tid d.op work.node ≡ None → ⊥
        never none = off (is_for server d.op) (is_client server) its.0 (above server.0 own.above) none
          where
            above : (s : ℕ) → 32 ≤ s → nat_lt 31 s ≡ true
            above s over = grind (arith, nat_tests, over)

            off : (a b : Bool) → a ≡ true → b ≡ true → (if not a then None else if b then Some replies.Done else reply_of (server_at work.node.servers server) d.tid d.op) ≡ None → ⊥
            off a b is so none = empty (rw (is, so) at none)
              where
                empty : Some replies.Done ≡ None → ⊥
                empty e = cc e

    pub served : GoesOn d.tid scene n (serve_next work server) w
    served = replied (own_replies server.0 d.tid d.op its.0) (reply_here server d.tid d.op work.node) refl

  -- whatever is known of it
  pub own_served : CanCount d.tid work → GoesOn d.tid scene n (serve_next work server) w
  own_served can = by (part_of d.tid work) refl its.1
    where
      decided : (part : Participant) → part_of d.tid work ≡ Some part → (o : Option Outcome) → part.outcome ≡ o → (is_none o || is_abort o) ≡ true → GoesOn d.tid scene n (serve_next work server) w
      decided part known None undecided may = served part known undecided can
      decided part known (Some outcomes.Abort) aborted may = dropped part known aborted
      decided part known (Some outcomes.Commit) committed may = absurd (cc may)

      by : (o : Option Participant) → part_of d.tid work ≡ o → ◌≡◌ {A = Bool} (elim o [ None ↦ false | Some p ↦ is_undecided p || is_abort p.outcome ]) true → GoesOn d.tid scene n (serve_next work server) w
      by None none may = absurd (cc may)
      by (Some part) known may = decided part known part.outcome refl may

-- ---- one after the other

module _ (t : Tid) (scene : Scene) (n : ℕ) where
  next_stands : (server : ServerNo) (work : Work) (w : World) → CanCount t work → Stands t scene n work w → GoesOn t scene n (serve_next work server) w × CanCount t (serve_next work server)
  next_stands server work w can is = by (ipc.next server work.node.queues) refl
    where
      sized : (k : Tid) → Stands k scene n work w → IsSized k work
      sized k stands part known = (whole_known k scene n work w stands part known).whole.members

      picked : (d : Delivery) → ipc.next server work.node.queues ≡ Some d → (b : Bool) → same_tid t d.tid ≡ b → GoesOn t scene n (serve_next work server) w × CanCount t (serve_next work server)
      picked d next true same = subst (λ (k : Tid). Stands k scene n work w → CanCount k work → GoesOn k scene n (serve_next work server) w × CanCount k (serve_next work server)) (sym (same_is t d.tid same)) (λ own can. (own_served scene n server d work w own next can, next_counts d.tid work server (sized d.tid own) can)) is can
      picked d next false apart = (record { next = w; leads = record { events = []; run = refl }; stands = other_served t scene n server d work w is next apart }, next_counts t work server (sized t is) can)

      by : (o : Option Delivery) → ipc.next server work.node.queues ≡ o → GoesOn t scene n (serve_next work server) w × CanCount t (serve_next work server)
      by None none = subst (λ (k : Work). GoesOn t scene n k w × CanCount t k) (sym (ap (λ (o : Option Delivery). elim o [ None ↦ work | Some d ↦ serve_or_drop server d (with_queues (ipc.after_next server) work) ]) none)) (stands_itself t scene n work w is, can)
      by (Some d) next = picked d next (same_tid t d.tid) refl

  all_served : (servers : List ServerNo) (work : Work) (w : World) → CanCount t work → Stands t scene n work w → GoesOn t scene n (fold serve_next work servers) w
  all_served [] work w can is = stands_itself t scene n work w is
  all_served (server ∷ servers) work w can is =
      let first = next_stands server work w can is in
      goes_further t scene n (fold serve_next work (server ∷ servers)) w first.0.next first.0.leads (all_served servers (serve_next work server) first.0.next first.1 first.0.stands)

pub serve_all_goes : ServeAllGoes
serve_all_goes t scene n work w can is = all_served t scene n (ipc.turns work.node.queues) work w can is
