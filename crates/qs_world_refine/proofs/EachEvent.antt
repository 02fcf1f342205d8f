-- Whatever comes in a step of a node: what stands of a transaction that is shown goes on to stand, over the channels as the event leaves them.
use Rattle.qs_world_refine.proofs.Words.{◌≡◌, ◌≢◌, ◌⊎◌, inl, inr, ℕ, ◌+◌, ◌<◌, ◌≤◌, ◌==◌, ◌&&◌, ◌||◌, not, Bool, true, false, List, [], ◌∷◌, ◌++◌, drop, length, map, Option, Some, None, is_some, refl, sym, ap, subst, ◌∙◌, arith, if◌then◌else◌, eqb-true, same_tid, NodeNo, Tid, peer_of, IpcValue, queue_at, count_of, ScriptLine, Record, Participant, begin_incarnation, NodeValue, Work, part_of, work_on, Source, Commanded, Handed, Queues, Clock, Noticed, event_of, command_of, Parcel, leads_on, ShowsAll}
use Rattle.qs_world_refine.proofs.Words.{MessagesFit, node_no, all_said, taken_scene, noticed, IsNoticed, CanCount, message_of, Scene, scene_of, handed, Shows, server_no, begun, GoesOn, IsSteady, HasBegun, rest_behind, same_Some}
use Rattle.qs_engage.specs.declared.engage.Engage.{Engage}
use Rattle.qs_tm.specs.Manager as tm
use Rattle.qs_node_step.specs.declared.event.Event.{Event}
use Rattle.qs_node_step.specs.declared.event.Event.TheVariants as events
use Rattle.qs_world.specs.Moves.{may_serve}
use Rattle.qs_world.specs.World.{World}
use Rattle.qs_world_agree.specs.World as machine
use Rattle.qs_world_refine.specs.NodeFaces.{waiting_at}
use Rattle.qs_world_refine.specs.Shows.{sent_to}
use Rattle.qs_world_refine.specs.Steady.{IsEarly}
use Rattle.qs_world_refine.specs.StepLaws.{stepped}
use Rattle.qs_world_refine.proofs.BeginStands.{begin_incarnation_goes}
use Rattle.qs_world_refine.proofs.Calm.{IsCalm}
use Rattle.qs_world_refine.proofs.CommandStands.{command_goes}
use Rattle.qs_world_refine.proofs.EachCame.{Came, message_arrives}
use Rattle.qs_world_refine.proofs.EachHears.{opened, first, is_calm, keeps, was}
use Rattle.qs_world_refine.proofs.EachMay.{from_client, from_node, from_notice, FromNotice, is_next, is_fit}
use Rattle.qs_world_refine.proofs.EachReady.{taken_up}
use Rattle.qs_world_refine.proofs.FirstNoticed.{noticed_first, noticed_then}
use Rattle.qs_world_refine.proofs.MayCount.{can_count}
use Rattle.qs_world_refine.proofs.Moving.{drop_none}
use Rattle.qs_world_refine.proofs.RestartStands.{peer_restarted_goes}
use Rattle.qs_world_refine.proofs.ServeStands.{serve_all_goes}
use Rattle.qs_world_refine.proofs.SoundKnown.{same_is}
use Rattle.qs_world_refine.proofs.SoundViews.{seen}
use Rattle.qs_world_refine.proofs.Taken.{handed_taken, noticed_taken}
use Rattle.qs_world_refine.proofs.TickGoes.{tick_goes}
use Rattle.qs_base_lemmas.proofs.Tests.{some_not_zero}

pub record StepCame (t : Tid) (world : World) (n free : ℕ) (source : Source) (event : Event) (w : machine.World) : Type 0 where
  pub later : Scene
  pub size : later.size ≡ world.size
  pub inc : later.inc ≡ world.channels.inc
  pub log : later.log ≡ (scene_of world).log
  pub came : Came t world n free event later w
  pub taken : (work : Work) (log : List Record) (v : machine.World) → Shows t (stepped later n work log) v → Shows t (stepped (taken_scene world n source) n work log) v

module _ (t : Tid) (world : World) (w : machine.World) (steady : IsSteady world) (home_in : t.home.0 < world.size) (began : HasBegun world t) (all : ShowsAll t world w) (fits : MessagesFit world)
    (n free : ℕ) (n_in : n < world.size) (on : world.channels.up n ≡ true) where
  abbrev node : NodeValue
  node = (world.hosts n).node

  abbrev work : Work
  work = begun node free

  abbrev scene : Scene
  scene = scene_of world

  abbrev stood : GoesOn t scene n work w
  stood = first t world w steady home_in all n free n_in on

  calm_work : IsCalm work
  calm_work = is_calm t world w steady home_in all n free n_in on

  -- ---- a client commands: the next number is not that of the transaction, which has begun

  apart : same_tid t (tm.next_tid work.node.manager) ≡ false
  apart = by (same_tid t (tm.next_tid work.node.manager)) refl
    where
      next_is : tm.next_tid work.node.manager ≡ tm.next_tid node.manager
      next_is = (keeps t world w steady home_in all n free n_in on).next

      fits_node : (node.manager.node ≡ node.setting.node) × (node.manager.inc ≡ node.setting.inc)
      fits_node = (ap node_no (eqb-true node.manager.node.0 node.setting.node.0 (second _ (node.manager.node.0 == node.setting.node.0) _ its_fits)), eqb-true node.manager.inc node.setting.inc (third _ (node.manager.node.0 == node.setting.node.0) (node.manager.inc == node.setting.inc) _ its_fits))
        where
          its_fits : Rattle.qs_world_refine.specs.Sound.fits_setting node ≡ true
          its_fits = (seen node (steady.sound n n_in).node).fits

          second : (a d r : Bool) → (a && (d && r)) ≡ true → d ≡ true
          second true true r so = refl
          second true false r so = absurd (cc (so))
          second false d r so = absurd (cc (so))

          third : (a d e r : Bool) → (a && (d && (e && r))) ≡ true → e ≡ true
          third true true true r so = refl
          third true true false r so = absurd (cc (so))
          third true false e r so = absurd (cc (so))
          third false d e r so = absurd (cc (so))

      never : t ≡ tm.next_tid node.manager → ⊥
      never same = more t.seq node.manager.begun (ap (λ (u : Tid). u.seq) same) (subst (λ (k : ℕ). t.seq ≤ (world.hosts k).node.manager.begun) at_n (began home_in (subst (λ (k : ℕ). world.channels.up k ≡ true) (sym at_n) on) at_inc))
        where
          at_n : t.home.0 ≡ n
          at_n = ap (λ (u : Tid). u.home.0) same ∙ (ap (λ (k : NodeNo). k.0) fits_node.0 ∙ ap (λ (k : NodeNo). k.0) (steady.seated.node n n_in))

          at_inc : t.inc ≡ world.channels.inc t.home.0
          at_inc = ap (λ (u : Tid). u.inc) same ∙ (fits_node.1 ∙ (steady.seated.inc n n_in ∙ ap world.channels.inc (sym at_n)))

          more : (a b : ℕ) → a ≡ b + 1 → a ≤ b → ⊥
          more a b is less = omega (arith, is, less)

      by : (b : Bool) → same_tid t (tm.next_tid work.node.manager) ≡ b → b ≡ false
      by true same = absurd (never (same_is t (tm.next_tid work.node.manager) same ∙ next_is))
      by false same = refl

  commanded : (k : ℕ) (event : Event) → event_of world n 0 (Commanded k) ≡ Some event → StepCame t world n free (Commanded k) event w
  commanded k event is = let from = from_client world n k event steady is in subst (λ (e : Event). StepCame t world n free (Commanded k) e w) (sym from.is) (by from.line from.in_run)
    where
      by : (line : ScriptLine) → Rattle.qs_world_refine.specs.Sound.goes_in_run world.size line.command ≡ true → StepCame t world n free (Commanded k) (command_of line) w
      by line in_run = record {
        later = scene;
        size = refl;
        inc = refl;
        log = refl;
        came = record {
          mid = stood.next;
          leads = stood.leads;
          after = command_goes t scene n line work stood.next (subst (λ (k : ℕ). Rattle.qs_world_refine.specs.Sound.goes_in_run k line.command ≡ true) (sym stood.stands.at.nodes) in_run) calm_work.owned (λ _. apart) stood.stands;
          ends = false;
          ended = λ never. absurd (cc (never));
          comes = λ f last leads shown begins same. absurd (cc (same, apart));
        };
        taken = λ work log v shown. shown;
      }

  -- ---- a message

  handed_up : (stamp m : ℕ) (event : Event) → event_of world n stamp (Handed m) ≡ Some event → StepCame t world n free (Handed m) event w
  handed_up stamp m event is = let from = from_node world n stamp m event is in subst (λ (e : Event). StepCame t world n free (Handed m) e w) (sym from.is) (by from.parcel from.found)
    where
      by : (parcel : Parcel) → Rattle.qs_world.specs.Posting.next_parcel world n m ≡ Some parcel → StepCame t world n free (Handed m) (events.Received (node_no m) parcel.message) w
      by parcel found = record {
        later = handed scene m (world.channels.peer n m) n (rest_behind world n m parcel);
        size = refl;
        inc = refl;
        log = refl;
        came = message_arrives t world w steady home_in began all n free n_in on m (world.channels.peer n m) (rest_behind world n m parcel) parcel.message (is_next world n m parcel steady found) (is_fit world n m parcel steady found) (fits n m free parcel n_in on found);
        taken = λ work log v shown. handed_taken t world n m parcel work log v found shown;
      }

  -- ---- what waits is served, and time goes on

  -- in the first step of an incarnation nothing waits
  can_count_now : may_serve node Queues ≡ true → CanCount t work
  can_count_now serves = by node.is_first refl
    where
      by : (b : Bool) → node.is_first ≡ b → CanCount t work
      by true early = λ part s known below waits. absurd (some_not_zero (waiting_at work.node t s) waits (ap (λ (queues : IpcValue). count_of t (queue_at queues (server_no s)).waiting) (keeps t world w steady home_in all n free n_in on).queues ∙ (steady.nodes n n_in on).idle early t s))
      by false further = subst (λ (k : Work). CanCount t k) (sym (same further)) (can_count t node free serves)
        where
          same : node.is_first ≡ false → work ≡ work_on node free
          same further = picked node.is_first further
            where
              picked : (b : Bool) → b ≡ false → (if b then Rattle.std.proofs.Common.fold Rattle.qs_node_step.specs.Restarts.resume_tid (Rattle.qs_node_step.specs.State.with_node (λ node. record node { is_first = false }) (work_on node free)) (Rattle.qs_node_step.specs.Restarts.known_tids (work_on node free)) else work_on node free) ≡ work_on node free
              picked b is = rw is refl

  served : may_serve node Queues ≡ true → StepCame t world n free Queues events.ServeAll w
  served serves = record {
    later = scene;
    size = refl;
    inc = refl;
    log = refl;
    came = record { mid = stood.next; leads = stood.leads; after = serve_all_goes t scene n work stood.next (can_count_now serves) stood.stands; ends = false; ended = λ never. absurd (cc (never)); comes = λ f last leads shown. tt };
    taken = λ work log v shown. shown;
  }

  timed : StepCame t world n free Clock events.Tick w
  timed = record {
    later = scene;
    size = refl;
    inc = refl;
    log = refl;
    came = record { mid = stood.next; leads = stood.leads; after = tick_goes t scene n work stood.next stood.stands; ends = false; ended = λ never. absurd (cc (never)); comes = λ f last leads shown. tt };
    taken = λ work log v shown. shown;
  }

  -- ---- another node restarted

  module _ (m new : ℕ) (event : Event) (from : FromNotice world n m new event) where
    abbrev old : ℕ
    old = world.channels.peer n m

    abbrev there : (m < world.size) × (m ≢ n)
    there = steady.peers n m from.known

    nothing_posted : scene.pending n (world.channels.inc n) m new ≡ []
    nothing_posted = ap (map message_of) (drop_none (world.channels.handed n m (world.channels.inc n) new) (world.channels.posted n m (world.channels.inc n) new) (steady.seated.unknown n m new from.later))

    may_notice : (now : Work) → all_said t (sent_to m now.out.messages) ≡ [] → IsNoticed t scene n m old new now
    may_notice now silent = record { in_run = there.0; other = there.1; knows = refl; some = from.known; later = from.later; begun = from.begun; fresh = nothing_posted; silent = silent }

    -- in a later step of the incarnation
    noticed_later : node.is_first ≡ false → Came t world n free (events.PeerRestarted (node_no m) old new) (noticed scene n m new) w
    noticed_later further = record {
      mid = stood.next;
      leads = stood.leads;
      after = peer_restarted_goes t scene n m old new work stood.next (may_notice work silent) stood.stands;
      ends = false;
      ended = λ never. absurd (cc (never));
      comes = λ f last leads shown. tt;
    }
      where
        same : work ≡ work_on node free
        same = picked node.is_first further
          where
            picked : (b : Bool) → b ≡ false → (if b then Rattle.std.proofs.Common.fold Rattle.qs_node_step.specs.Restarts.resume_tid (Rattle.qs_node_step.specs.State.with_node (λ node. record node { is_first = false }) (work_on node free)) (Rattle.qs_node_step.specs.Restarts.known_tids (work_on node free)) else work_on node free) ≡ work_on node free
            picked b is = rw is refl

        silent : all_said t (sent_to m work.out.messages) ≡ []
        silent = ap (λ (k : Work). all_said t (sent_to m k.out.messages)) same

    -- in the first one
    noticed_now : node.is_first ≡ true → Came t world n free (events.PeerRestarted (node_no m) old new) (noticed scene n m new) w
    noticed_now early = record {
      mid = resumed.next;
      leads = leads_on w found.next resumed.next found.leads resumed.leads;
      after = noticed_then t scene n m old new there.0 there.1 (positive old new from.later) work resumed.next
          (λ part known. let before = was t world w steady home_in all n free n_in on part known in
          record { peer = ap (λ (e : Engage). peer_of e (node_no m)) before.1.1.engage ∙ (at_first before.0 before.1.0).peers m; waiting = before.1.1.waiting ∙ (at_first before.0 before.1.0).waiting }) resumed.stands;
      ends = false;
      ended = λ never. absurd (cc (never));
      comes = λ f last leads shown. tt;
    }
      where
        positive : (a b : ℕ) → a < b → 1 ≤ b
        positive a b less = omega (arith, less)

        at_first : (part : Participant) → tm.part_of t node.manager ≡ Some part → IsEarly part
        at_first part known = (steady.nodes n n_in on).early early t part known

        found : GoesOn t (noticed scene n m new) n (work_on node free) w
        found = noticed_first t scene n m old new (work_on node free) w (opened t world w steady home_in all n free n_in on) (may_notice (work_on node free) refl) (λ part known. record { peer = (at_first part known).peers m; waiting = (at_first part known).waiting })

        resumed : GoesOn t (noticed scene n m new) n work found.next
        resumed = begin_incarnation_goes t (noticed scene n m new) n (work_on node free) found.next (taken_up t world w steady home_in all n n_in on free) found.stands

    noticed_at : (b : Bool) → node.is_first ≡ b → Came t world n free (events.PeerRestarted (node_no m) old new) (noticed scene n m new) w
    noticed_at true early = noticed_now early
    noticed_at false further = noticed_later further

    pub notices : StepCame t world n free (Noticed m new) event w
    notices = subst (λ (e : Event). StepCame t world n free (Noticed m new) e w) (sym from.is)
        (record { later = noticed scene n m new; size = refl; inc = refl; log = refl; came = noticed_at node.is_first refl; taken = λ work log v shown. noticed_taken t world n m new work log v shown })

  -- ---- whatever it is

  pub step_came : (stamp : ℕ) (source : Source) (event : Event) → may_serve node source ≡ true → event_of world n stamp source ≡ Some event → StepCame t world n free source event w
  step_came stamp (Commanded k) event serves is = commanded k event is
  step_came stamp (Handed m) event serves is = handed_up stamp m event is
  step_came stamp Queues event serves is = subst (λ (e : Event). StepCame t world n free Queues e w) (same_Some events.ServeAll event is) (served serves)
  step_came stamp Clock event serves is = subst (λ (e : Event). StepCame t world n free Clock e w) (same_Some events.Tick event is) timed
  step_came stamp (Noticed m new) event serves is = notices m new event (from_notice world n stamp m new event is)
