-- What waits first at a server is an operation of its own, and is served or its transaction is doomed, at each turn of those that wait.
use Rattle.qs_world_runs.proofs.Words.{◌≡◌, ◌⊎◌, inl, inr, ℕ, ◌<◌, ◌≤◌, ◌&&◌, ◌||◌, nat_lt, not, Bool, true, false, List, [], ◌∷◌, Option, Some, None, is_some, fold, refl, sym, ap, subst, ◌∙◌, arith, if◌then◌else◌, is_none, nat_tests, same_tid, ServerNo, Tid, Delivery, reply_of, Reply, is_client, server_at, reply_here, serve_next, serve_or_drop, Work, with_queues, is_undecided, Participant, Leads, IsDoomed, leads_on, doom_stays, Scene, same_is, seen, AtEach, ServesWell}
use Rattle.qs_base.specs.declared.identifiers.Outcome.{Outcome}
use Rattle.qs_base.specs.declared.identifiers.Outcome.TheVariants as outcomes
use Rattle.qs_ipc.specs.Ipc as ipc
use Rattle.qs_ipc.specs.Queue.{is_for}
use Rattle.qs_ops.specs.declared.reply.Reply.TheVariants as replies
use Rattle.qs_node_step.specs.Serving.{may_serve}
use Rattle.qs_node_step.specs.State.{part_of}
use Rattle.qs_tm.specs.Outcomes.{is_abort}
use Rattle.qs_world_agree.specs.World as machine
use Rattle.qs_world_refine.specs.ServeWhole.{CanCount}
use Rattle.qs_world_refine.specs.Sound.{is_sound_delivery, may_be_served}
use Rattle.qs_world_refine.specs.Stands.{GoesOn, Stands}
use Rattle.qs_world_refine.proofs.OwnReplies.{OfClient, OfServer, own_replies}
use Rattle.qs_world_refine.proofs.ServeFirst.{delivery_sound, other_served}
use Rattle.qs_world_refine.proofs.ServeRoom.{IsSized, next_counts}
use Rattle.qs_world_refine.proofs.ServeStands.{own_served}
use Rattle.qs_world_refine.proofs.SettleStands.{stands_itself, whole_known}
use Rattle.qs_world_refine.proofs.SoundParts.{and_both}
use Rattle.qs_world_runs.proofs.DropDooms.{known_dooms}

-- ---- its own

module _ (scene : Scene) (n : ℕ) (server : ServerNo) (d : Delivery) (work : Work) (v : machine.World) (is : Stands d.tid scene n work v) (next : ipc.next server work.node.queues ≡ Some d) where
  abbrev left : Work
  left = with_queues (ipc.after_next server) work

  sound : is_sound_delivery work.node server d ≡ true
  sound = delivery_sound work.node server d work.node.queues next (seen work.node is.sound).queues

  rest : (may_be_served work.node d.tid && nat_lt d.from.0 work.node.setting.nodes) ≡ true
  rest = (and_both (is_for server d.op) (may_be_served work.node d.tid && nat_lt d.from.0 work.node.setting.nodes) sound).1

  fits : is_for server d.op ≡ true
  fits = (and_both (is_for server d.op) (may_be_served work.node d.tid && nat_lt d.from.0 work.node.setting.nodes) sound).0

  may : may_be_served work.node d.tid ≡ true
  may = (and_both (may_be_served work.node d.tid) (nat_lt d.from.0 work.node.setting.nodes) rest).0

  serves : IsDoomed v ⊎ (may_serve d.tid left ≡ true)
  serves = by (part_of d.tid work) refl may
    where
      decided : (part : Participant) → part_of d.tid work ≡ Some part → (o : Option Outcome) → part.outcome ≡ o → (is_none o || is_abort o) ≡ true → IsDoomed v ⊎ (may_serve d.tid left ≡ true)
      decided part known None undecided so = inr (ap (λ (x : Option Participant). elim x [ None ↦ false | Some p ↦ is_undecided p ]) known ∙ ap is_none undecided)
      decided part known (Some outcomes.Abort) aborted so = inl (known_dooms d.tid scene n work v is part known aborted)
      decided part known (Some outcomes.Commit) committed so = absurd (cc so)

      by : (o : Option Participant) → part_of d.tid work ≡ o → ◌≡◌ {A = Bool} (elim o [ None ↦ false | Some p ↦ is_undecided p || is_abort p.outcome ]) true → IsDoomed v ⊎ (may_serve d.tid left ≡ true)
      by None none so = absurd (cc so)
      by (Some part) known so = decided part known part.outcome refl so

  replied : reply_here server d.tid d.op left.node ≡ None → ⊥
  replied none = by (own_replies server.0 d.tid d.op fits)
    where
      empty : (o : Option Reply) → is_some o ≡ true → o ≡ None → ⊥
      empty None so is_none_here = cc so
      empty (Some reply) so is_none_here = cc is_none_here

      of_server : (a b : Bool) → a ≡ true → b ≡ false → is_some (reply_of (server_at work.node.servers server) d.tid d.op) ≡ true
          → (if not a then None else if b then Some replies.Done else reply_of (server_at work.node.servers server) d.tid d.op) ≡ None → ⊥
      of_server a b p q some is_none_here = empty (reply_of (server_at work.node.servers server) d.tid d.op) some (rw (p, q) at is_none_here)

      of_client : (a b : Bool) → a ≡ true → b ≡ true → (if not a then None else if b then Some replies.Done else reply_of (server_at work.node.servers server) d.tid d.op) ≡ None → ⊥
      of_client a b p q is_none_here = empty (Some replies.Done) refl (rw (p, q) at is_none_here)

      below : (s : ℕ) → s < 7 → nat_lt 31 s ≡ false
      below s under = grind (arith, nat_tests, under)

      above : (s : ℕ) → 32 ≤ s → nat_lt 31 s ≡ true
      above s over = grind (arith, nat_tests, over)

      by : OfServer server.0 d.tid d.op ⊎ OfClient server.0 d.op → ⊥
      by (inl own) = of_server (is_for server d.op) (is_client server) fits (below server.0 own.below) (own.replies (server_at work.node.servers server) (is.kinds server.0 own.below)) none
      by (inr own) = of_client (is_for server d.op) (is_client server) fits (above server.0 own.above) none

  pub own_finds : (is_for server d.op ≡ true) × ((IsDoomed v ⊎ (may_serve d.tid left ≡ true)) × (reply_here server d.tid d.op left.node ≡ None → ⊥))
  own_finds = (fits, (serves, replied))

-- ---- what dooms it then dooms it later

module _ (t : Tid) (D E : Type 0) (f : D → E) where
  serve_later : (work : Work) (server : ServerNo) → ServesWell D t work server → ServesWell E t work server
  serve_later work server well = record { fits = well.fits; serves = λ d next own. either (well.serves d next own); replies = λ d next own none. f (well.replies d next own none) }
    where
      either : {A : Type 0} → D ⊎ A → E ⊎ A
      either (inl x) = inl (f x)
      either (inr a) = inr a

  pub serves_later : (servers : List ServerNo) (work : Work) → AtEach (ServesWell D t) serve_next work servers → AtEach (ServesWell E t) serve_next work servers
  serves_later [] work all = tt
  serves_later (server ∷ servers) work all = (serve_later work server all.0, serves_later servers (serve_next work server) all.1)

-- ---- one after the other

module _ (t : Tid) (scene : Scene) (n : ℕ) where
  pub serves_well : (work : Work) (server : ServerNo) (v : machine.World) → Stands t scene n work v → ServesWell (IsDoomed v) t work server
  serves_well work server v is = record {
    fits = λ d next own. (own_finds scene n server d work v (of d own) next).0;
    serves = λ d next own. (own_finds scene n server d work v (of d own) next).1.0;
    replies = λ d next own none. absurd ((own_finds scene n server d work v (of d own) next).1.1 none);
  }
    where
      of : (d : Delivery) → d.tid ≡ t → Stands d.tid scene n work v
      of d own = subst (λ (k : Tid). Stands k scene n work v) (sym own) is

  next_stands : (server : ServerNo) (work : Work) (v : machine.World) → CanCount t work → Stands t scene n work v → GoesOn t scene n (serve_next work server) v
  next_stands server work v can is = by (ipc.next server work.node.queues) refl
    where
      picked : (d : Delivery) → ipc.next server work.node.queues ≡ Some d → (b : Bool) → same_tid t d.tid ≡ b → GoesOn t scene n (serve_next work server) v
      picked d next true same = subst (λ (k : Tid). Stands k scene n work v → CanCount k work → GoesOn k scene n (serve_next work server) v) (sym (same_is t d.tid same)) (λ own counts. own_served scene n server d work v own next counts) is can
      picked d next false apart = record { next = v; leads = record { events = []; run = refl }; stands = other_served t scene n server d work v is next apart }

      by : (o : Option Delivery) → ipc.next server work.node.queues ≡ o → GoesOn t scene n (serve_next work server) v
      by None none = subst (λ (k : Work). GoesOn t scene n k v) (sym (ap (λ (o : Option Delivery). elim o [ None ↦ work | Some d ↦ serve_or_drop server d (with_queues (ipc.after_next server) work) ]) none)) (stands_itself t scene n work v is)
      by (Some d) next = picked d next (same_tid t d.tid) refl

  pub record ServesFound (servers : List ServerNo) (work : Work) (v : machine.World) : Type 0 where
    pub now : machine.World
    pub leads : Leads v now
    pub stands : Stands t scene n (fold serve_next work servers) now
    pub finds : AtEach (ServesWell (IsDoomed now) t) serve_next work servers

  pub all_find : (servers : List ServerNo) (work : Work) (v : machine.World) → CanCount t work → Stands t scene n work v → ServesFound servers work v
  all_find [] work v can is = record { now = v; leads = record { events = []; run = refl }; stands = is; finds = tt }
  all_find (server ∷ servers) work v can is = by (next_stands server work v can is) (λ x can_then stands. all_find servers (serve_next work server) x can_then stands)
    where
      sized : IsSized t work
      sized part known = (whole_known t scene n work v is part known).whole.members

      by : GoesOn t scene n (serve_next work server) v → ((x : machine.World) → CanCount t (serve_next work server) → Stands t scene n (serve_next work server) x → ServesFound servers (serve_next work server) x) → ServesFound (server ∷ servers) work v
      by goes more = on (more goes.next (next_counts t work server sized can) goes.stands)
        where
          on : ServesFound servers (serve_next work server) goes.next → ServesFound (server ∷ servers) work v
          on found = let leads : Leads v found.now = leads_on v goes.next found.now goes.leads found.leads in
              record { now = found.now; leads = leads; stands = found.stands; finds = (serve_later t (IsDoomed v) (IsDoomed found.now) (λ doomed. doom_stays v found.now doomed leads) work server (serves_well work server v is), found.finds) }
