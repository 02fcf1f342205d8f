-- A step is cut off with a record of a transaction on the disk: that is committed then, or never will be.
use Rattle.qs_world_refine.proofs.Words.{◌≡◌, ◌⊎◌, inl, inr, ℕ, ◌<◌, ◌≤◌, ◌==◌, ◌&&◌, ◌||◌, Bool, true, false, Option, Some, None, refl, sym, ap, subst, ◌∙◌, arith, if◌then◌else◌, eqb-true, nat_tests, list_any, NodeNo, Tid, CrashCause, is_crash, same_node, Participant, Work, part_of, accept, after_step, effects_of, step_work, Source, Cut, event_of, may_step, stopped, stopped_host, cut_log, cut_with, log_after, Open, Committed, Aborted, Leads, IsLawful, leads_on, ShowsAll, KeepsDecided, AllGoes}
use Rattle.qs_world_refine.proofs.Words.{Face, ShowsFace, IsCut, AllClose, taken_scene, StepShown, ShowsWorld, is_record_of, is_cut_with, began_here, face_at, outcome_seen, place, BeginsNew, Scene, scene_of, sight, Shows, IsShownWorld, MayHappen, begun, IsSteady, Stands, is_decided}
use Rattle.qs_base.specs.declared.identifiers.Outcome.{Outcome}
use Rattle.qs_base.specs.declared.identifiers.Outcome.TheVariants as outcomes
use Rattle.qs_session_channels.specs.Network.{with_at}
use Rattle.qs_tm.specs.Manager as tm
use Rattle.qs_node_step.specs.declared.event.Event.{Event}
use Rattle.qs_world.specs.World.{World}
use Rattle.qs_world_agree.specs.World as machine
use Rattle.qs_world_agree.specs.Doomed.{IsDoomed}
use Rattle.qs_world_agree.proofs.Doomed.{doom_stays, abort_dooms, engaged_past_dooms}
use Rattle.qs_world_refine.specs.CutLaws.{CutsOff, CutGoesKept}
use Rattle.qs_world_refine.specs.NodeFaces as faces
use Rattle.qs_world_refine.specs.StepLaws.{stepped}
use Rattle.qs_world_refine.proofs.Crashing as crashing
use Rattle.qs_world_refine.proofs.CutRecords.{OneOf, one_of}
use Rattle.qs_world_refine.proofs.EachCame.{case_of}
use Rattle.qs_world_refine.proofs.EachEvent.{StepCame, step_came}
use Rattle.qs_world_refine.proofs.EachMay.{each_may_come}
use Rattle.qs_world_refine.proofs.Facts.{invariant, lawful_on}
use Rattle.qs_world_refine.proofs.Heads.{face_is}
use Rattle.qs_world_refine.proofs.LaterWorlds.{commit_stays}
use Rattle.qs_world_refine.proofs.MoveGoes.{StepMay, step_may}
use Rattle.qs_world_refine.proofs.Moving.{inc_taken, whole_cut, up_taken}
use Rattle.qs_world_refine.proofs.PassGoes.{engaged}
use Rattle.qs_world_refine.proofs.Placing.{placed_stay}
use Rattle.qs_world_refine.proofs.PreparedHeld.{LoggedWell}
use Rattle.qs_world_refine.proofs.PreparedSteps.{step_logs}
use Rattle.qs_world_refine.proofs.ShownMoves.{steady, home_in_run, messages_fit, event_gives}
use Rattle.qs_world_refine.proofs.SoundHolds.{is_held, held_is}
use Rattle.qs_world_refine.proofs.SoundParts.{and_both}
use Rattle.qs_world_refine.proofs.SteadyFrom.{begun_low}
use Rattle.qs_world_refine.proofs.SteadyMays.{event_fits}
use Rattle.qs_world_refine.proofs.StepAll as step
use Rattle.qs_world_refine.proofs.StepAll.{outcome_on, kept_same, node_stopped, stays_stopped}
use Rattle.qs_world_refine.proofs.StepJoined as joined
use Rattle.qs_world_refine.proofs.StepMoves.{closes_on}
use Rattle.qs_world_refine.proofs.TurnOn.{Turned, is_end_of}

module _ (t : Tid) (world : World) (w : machine.World) (shown_world : IsShownWorld world) (has : Rattle.qs_world_refine.specs.Begun.has_begun world t ≡ true) (all : ShowsAll t world w)
    (n stamp free : ℕ) (source : Source) (event : Event) (cause : CrashCause) (n_in : n < world.size) (on : world.channels.up n ≡ true) (serves : Rattle.qs_world.specs.Moves.may_serve (world.hosts n).node source ≡ true) (is_event : event_of world n stamp source ≡ Some event) where
  abbrev st : IsSteady world
  st = steady world shown_world

  home_in : t.home.0 < world.size
  home_in = home_in_run world shown_world t has

  came : StepCame t world n free source event w
  came = step_came t world w st home_in (begun_low world t has) all (messages_fit world shown_world) n free n_in on stamp source event serves is_event

  may : MayHappen event (begun (world.hosts n).node free) × BeginsNew event (begun (world.hosts n).node free)
  may = each_may_come world n stamp free source event st (messages_fit world shown_world) n_in on is_event

  abbrev out : Rattle.qs_node_step.specs.declared.event.Effects.Effects
  out = effects_of (world.hosts n).node event free

  abbrev work : Work
  work = step_work (world.hosts n).node event free

  abbrev q : ℕ
  q = place n (world.channels.inc n)

  its : (shown : StepShown t world n free source event w) × Leads (step.then_f t world w st home_in all n stamp free n_in on source event is_event came may) shown.next
  its = step.shown_step t world w st home_in all n stamp free n_in on source event is_event came may

  abbrev f : machine.World
  f = step.then_f t world w st home_in all n stamp free n_in on source event is_event came may

  abbrev u : machine.World
  u = its.0.next

  logs : LoggedWell t work
  logs = step_logs t world shown_world.steady n free n_in on event (event_fits world shown_world.steady n free n_in on stamp source event is_event) (event_gives world shown_world n stamp free source event n_in on is_event)

  -- ---- the place stops at the end of the step

  abbrev after : World
  after = stopped world n stamp cause (log_after (world.hosts n) out)

  abbrev scene : Scene
  scene = stepped (taken_scene world n source) n work (log_after (world.hosts n) out)

  up_then : scene.up n ≡ true
  up_then = ap (λ (g : ℕ → Bool). g n) (up_taken world n source) ∙ on

  cut : IsCut (sight t scene) (sight t (scene_of after)) n
  cut = whole_cut t world n stamp source work cause (log_after (world.hosts n) out)

  abbrev v : machine.World
  v = crashing.v t (sight t scene) (sight t (scene_of after)) u n its.0.shown n_in up_then cut.size cut.inc cut.knows cut.found cut.up cut.faces cut.unmet cut.said_other cut.said_cut

  last : Leads u v
  last = crashing.leads t (sight t scene) (sight t (scene_of after)) u n its.0.shown n_in up_then cut.size cut.inc cut.knows cut.found cut.up cut.faces cut.unmet cut.said_other cut.said_cut

  shown : Shows t (scene_of after) v
  shown = crashing.after t (sight t scene) (sight t (scene_of after)) u n its.0.shown n_in up_then cut.size cut.inc cut.knows cut.found cut.up cut.faces cut.unmet cut.said_other cut.said_cut

  leads : Leads w v
  leads = leads_on w u v its.0.leads last

  then_shown : ShowsWorld t after v
  then_shown = record {
    lawful = lawful_on w v all.seen.lawful leads;
    placed = placed_stay w v all.seen.lawful all.seen.placed leads;
    shown = shown;
    closes = λ m m_in runs. closes m m_in runs (m == n) refl;
  }
    where
      closes : (m : ℕ) → m < world.size → with_at world.channels.up n false m ≡ true → (b : Bool) → (m == n) ≡ b
          → AllClose t m (place m (world.channels.inc m)) v (if b then stopped_host stamp (log_after (world.hosts n) out) (world.hosts n) else world.hosts m).waiting
      closes m m_in runs true same = tt
      closes m m_in runs false apart = closes_on t world w st.seated home_in all.seen v leads m m_in (ran (m == n) apart runs) (shown.faces m m_in runs).up
        where
          ran : (b : Bool) → b ≡ false → (if b then false else world.channels.up m) ≡ true → world.channels.up m ≡ true
          ran b off so = rw off at so

  then_kept : KeepsDecided t after v
  then_kept = kept_same t world after w v all leads (node_stopped world n stamp cause (log_after (world.hosts n) out) t.home.0)

  abbrev all_goes : AllGoes t after w
  all_goes = record {
    next = v;
    leads = leads;
    shown = record { seen = then_shown; outcome = outcome_on t world w home_in all after v leads refl then_shown then_kept (λ k k_in up. inl (stays_stopped world n stamp cause (log_after (world.hosts n) out) k up)); kept = then_kept };
  }

  -- ---- what became of it

  u_lawful : IsLawful u
  u_lawful = lawful_on w u all.seen.lawful its.0.leads

  v_lawful : IsLawful v
  v_lawful = lawful_on w v all.seen.lawful leads

  -- the place as the step left it
  abbrev p : ℕ
  p = place n (scene.inc n)

  face : ShowsFace (face_at work.node t) p u
  face = subst (λ (g : Face). ShowsFace g p u) (picked (n == n) (grind (arith, nat_tests))) (its.0.shown.faces n n_in up_then)
    where
      picked : (b : Bool) → b ≡ true → face_at (if b then accept work.node else (taken_scene world n source).node n) t ≡ face_at work.node t
      picked b so = rw so refl

  stood : Stands t came.later n work f
  stood = step.stood t world w st home_in all n stamp free n_in on source event is_event came may

  to_v : Leads f v
  to_v = leads_on f u v its.1 last

  abbrev Fate : Type 0
  Fate = IsDoomed v ⊎ (v.cell ≡ Committed)

  committed : f.cell ≡ Committed → Fate
  committed is = inr (commit_stays f v stood.lawful to_v is)

  aborted : u.outcome p ≡ Aborted → Fate
  aborted knows = inl (doom_stays u v (abort_dooms u u_lawful.reached (u_lawful.agreed.knows_abort p knows)) last)

  -- engaged as the step ended, and then stopped
  died : (face_at work.node t).on ≡ true → Fate
  died so = inl (engaged_past_dooms v p v_lawful.reached (record { down = grind (arith, nat_tests); begun = below }) (face.engaged ∙ so))
    where
      here : u.present (u.node p) ≡ p
      here = (invariant u u_lawful).counts.up_present p face.up

      below : p ≤ u.present (u.node p)
      below = omega (arith, here)

  seen : (part : Participant) → part_of t work ≡ Some part → face_at work.node t ≡ faces.face work.node t part
  seen part known = face_is t came.later n work f stood part known

  of_outcome : (part : Participant) → part_of t work ≡ Some part → (outcome : Outcome) → part.outcome ≡ Some outcome → Fate
  of_outcome part known outcomes.Commit is = committed (step.learnt_then t world w st home_in all n stamp free n_in on source event is_event came may part known is)
  of_outcome part known outcomes.Abort is = aborted (face.outcome ∙ (ap (λ (g : Face). g.outcome) (seen part known) ∙ ap (λ (o : Option Outcome). outcome_seen o (part.engage.home || part.involved)) is))

  decided : (o : Option Participant) → part_of t work ≡ o → ◌≡◌ {A = Bool} (elim o [ None ↦ false | Some p ↦ is_decided p ]) true → Fate
  decided None none so = absurd (cc so)
  decided (Some part) known so = by part.outcome refl
    where
      by : (o : Option Outcome) → part.outcome ≡ o → Fate
      by None open_now = absurd (let off : is_decided part ≡ false = rw open_now refl in cc (so, off))
      by (Some outcome) is = of_outcome part known outcome is

  held : (o : Option Participant) → part_of t work ≡ o → ◌≡◌ {A = Bool} (elim o [ None ↦ false | Some p ↦ is_held p ]) true → Fate
  held None none so = absurd (cc so)
  held (Some part) known so = by part.outcome refl
    where
      by : (o : Option Outcome) → part.outcome ≡ o → Fate
      by None open_now = died (ap (λ (g : Face). g.on) (seen part known) ∙ engaged t work part stood.sound known open_now (held_is part so))
      by (Some outcome) is = of_outcome part known outcome is

  ended : list_any (is_end_of t) out.records ≡ true → Fate
  ended so = committed (stood.lawful.agreed.knows_commit (place n (world.channels.inc n)) (joined.ended_then t world w st home_in all n stamp free n_in on source event is_event came may (turned.ends so)).committed)
    where
      turned : Turned (case_of t world n came.came.ends f) work
      turned = joined.turned t world w st home_in all n stamp free n_in on source event is_event came may

  fate : list_any (is_record_of t) out.records ≡ true → Fate
  fate some = by (one_of t out.records some)
    where
      or_ended : {g : Participant → Bool} → ((o : Option Participant) → part_of t work ≡ o → ◌≡◌ {A = Bool} (elim o [ None ↦ false | Some p ↦ g p ]) true → Fate) → (tm.told_of t false g work.node.manager ≡ true) ⊎ (list_any (is_end_of t) out.records ≡ true) → Fate
      or_ended {g} each (inl so) = each (part_of t work) refl so
      or_ended {g} each (inr so) = ended so

      by : OneOf t out.records → Fate
      by (inl (inl prepared)) = or_ended {g = is_held} held (logs.held prepared)
      by (inl (inr commits)) = or_ended {g = is_decided} decided (logs.decided commits)
      by (inr (inl aborts)) = inl (doom_stays f v (abort_dooms f stood.lawful.reached (stood.lawful.agreed.knows_abort (place n (world.channels.inc n)) (joined.aborted_then t world w st home_in all n stamp free n_in on source event is_event came may aborts))) to_v)
      by (inr (inr ends)) = ended ends

  knows : v.cell ≡ Committed → began_here work.node t ≡ true → (face_at work.node t).outcome ≡ Committed
  knows is began = sym face.outcome ∙ (ap u.outcome at_home ∙ ((invariant u u_lawful).keeps p).home_keeps (subst (λ (k : ℕ). u.up k ≡ true) at_home face.up) ∙ is)
    where
      both : (same_node t.home work.node.setting.node ≡ true) × ((t.inc == work.node.setting.inc) ≡ true)
      both = and_both (same_node t.home work.node.setting.node) (t.inc == work.node.setting.inc) began

      there : t.home.0 ≡ n
      there = eqb-true t.home.0 work.node.setting.node.0 both.0 ∙ ap (λ (k : NodeNo). k.0) stood.at.node

      now : t.inc ≡ scene.inc n
      now = eqb-true t.inc work.node.setting.inc both.1 ∙ (stood.at.inc ∙ (ap (λ (g : ℕ → ℕ). g n) came.inc ∙ sym (ap (λ (g : ℕ → ℕ). g n) (inc_taken world n source))))

      at_home : p ≡ u.home
      at_home = sym (its.0.shown.stage.home ∙ (ap (λ (k : ℕ). place k t.inc) there ∙ ap (place n) now))

pub cut_goes_kept : CutGoesKept
cut_goes_kept tid world n stamp free source is_kept cause event w may shown_world begun all comes has =
    subst (λ (o : Option Event). CutsOff tid (after_step (world.hosts n).node event free) (cut_with world n stamp free is_kept cause o) w) (sym comes) (by is_kept has)
  where
    its : StepMay world n source
    its = step_may world n stamp source (and_both (may_step world n stamp source) (is_crash cause) may).0

    kept : (a b : Bool) → (effects_of (world.hosts n).node event free).force ≡ a → list_any (is_record_of tid) (effects_of (world.hosts n).node event free).records ≡ b → (a && b) ≡ true
        → CutsOff tid (after_step (world.hosts n).node event free) (stopped world n stamp cause (cut_log (world.hosts n) true (effects_of (world.hosts n).node event free))) w
    kept a true force some both = record {
      goes = all_goes tid world w shown_world begun all n stamp free source event cause its.low its.runs its.serves comes;
      fate = fate tid world w shown_world begun all n stamp free source event cause its.low its.runs its.serves comes some;
      knows = knows tid world w shown_world begun all n stamp free source event cause its.low its.runs its.serves comes;
    }
    kept true false force none both = absurd (cc both)
    kept false false force none both = absurd (cc both)

    by : (b : Bool) → is_cut_with tid b world n free event ≡ true → CutsOff tid (after_step (world.hosts n).node event free) (stopped world n stamp cause (cut_log (world.hosts n) b (effects_of (world.hosts n).node event free))) w
    by false none = absurd (cc none)
    by true both = kept (effects_of (world.hosts n).node event free).force (list_any (is_record_of tid) (effects_of (world.hosts n).node event free).records) refl refl both
