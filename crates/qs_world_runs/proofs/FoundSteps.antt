-- A whole step: what it issues and votes of a transaction finds what it needs at each stage, or that is doomed in what shows it after the step.
use Rattle.qs_world_runs.proofs.Words.{◌≡◌, inl, inr, ℕ, ◌<◌, ◌≤◌, ◌==◌, ◌&&◌, ◌||◌, not, nat_lt, Bool, true, false, Option, Some, None, is_some, refl, sym, ap, subst, ◌∙◌, arith, if◌then◌else◌, [], nat_tests, NodeNo, Tid, peer_of, names_transaction, due_tids, settle, settle_tid, Work, accept, after_step, effects_of, step_work, wait_on, waiting_clients, Event, is_undecided, Participant, Clock, Commanded, Handed, Noticed, Queues, Source, event_of, step_with, stepped_host, taken_by, Opening}
use Rattle.qs_world_runs.proofs.Words.{World, Parcel, Leads, IsDoomed, leads_on, abort_dooms, doom_stays, IsShownWorld, AllGoes, ShowsAll, taken_scene, outcome_seen, place, BeginsNew, Scene, scene_of, StepCame, step_came, from_node, from_notice, face_is, shown_here, up_taken, up_all, home_in_run, shown_fit, begun_low, steady_gives, done_work, first_work, MakesStep, Joined, PlacesAt, Field, field_of, taken, ComesFinds, Reaches, Channels, IsSteady, StepMay, step_may, same_Some, eqb-self}
use Rattle.qs_base.specs.declared.identifiers.Outcome.{Outcome}
use Rattle.qs_node_step.specs.State.{NodeValue, part_of}
use Rattle.qs_node_step.specs.declared.event.Event.TheVariants as events
use Rattle.qs_tm.specs.Manager as tm
use Rattle.qs_world_agree.specs.World as machine
use Rattle.qs_world_refine.specs.Begun.{has_begun}
use Rattle.qs_world_refine.specs.Faces.{Face}
use Rattle.qs_world_refine.specs.NodeFaces.{face}
use Rattle.qs_world_refine.specs.SoundSteps.{MayHappen, begun}
use Rattle.qs_world_refine.specs.Stands.{GoesOn, Stands}
use Rattle.qs_world_refine.proofs.EachMay.{each_may_come}
use Rattle.qs_world_refine.proofs.PassGoes.{engaged}
use Rattle.qs_world_refine.proofs.SaidSteps.{step_open}
use Rattle.qs_world_refine.proofs.SoundParts.{and_both}
use Rattle.qs_world_refine.proofs.StepAll.{step_goes_further, stood, then_f}
use Rattle.qs_world_refine.proofs.StepJoined.{after_leads}
use Rattle.qs_world_lawful.proofs.FactsStages.{happens_keep, settle_keeps}
use Rattle.qs_world_runs.specs.PlacesFound.{StepFound, StepsFind}
use Rattle.qs_world_runs.proofs.FoundIssued.{IsUncommitted}
use Rattle.qs_world_runs.proofs.FoundLate.{sees_work, sees_world, unreached_doomed, Sees}
use Rattle.qs_world_runs.proofs.FoundRefused.{Refused, refused_then}
use Rattle.qs_world_runs.proofs.FoundTurns as turns
use Rattle.qs_world_runs.proofs.FoundWalks.{StandsLater, late_ends, sent_there, settled_here, settles_found, waits_found}
use Rattle.qs_world_runs.proofs.Onward.{Awaits, IsHeldUp}
use Rattle.qs_world_runs.proofs.Stuck.{settle_sticks, wait_keeps}
use Rattle.qs_world_runs.proofs.StuckRules.{Sticks, sticks_fold, sticks_of, sticks_on, keeps_itself}
use Rattle.qs_world_runs.proofs.TurnsShown.{stands_taken}
use Rattle.qs_world_refine.proofs.EachHears as hears

module _ (t : Tid) (o : Opening) (world : World) (n stamp free : ℕ) (source : Source) (event : Event) (w : machine.World) (j : Joined PlacesAt o world) (makes : MakesStep world n stamp source event) (began : has_begun world t ≡ true) (all : ShowsAll t world w)
    (came : StepCame t world n free source event w) where
  abbrev node : NodeValue
  node = (world.hosts n).node

  abbrev first : Work
  first = first_work node free

  abbrev done : Work
  done = done_work node event free

  abbrev last : Work
  last = step_work node event free

  abbrev scene : Scene
  scene = taken_scene world n source

  abbrev base : Field
  base = field_of (taken world n source)

  abbrev knows : ℕ → ℕ
  knows = (taken_by world n source).peer n

  its : StepMay world n source
  its = turns.its o world n stamp free source event j makes

  steady : IsSteady world
  steady = turns.steady o world n stamp free source event j makes

  small : world.size ≤ 16
  small = steady.seated.small

  home_low : t.home.0 < world.size
  home_low = let there : nat_lt t.home.0 world.size ≡ true = (and_both (nat_lt t.home.0 world.size) _ (and_both (names_transaction t) _ began).1).0 in grind (arith, nat_tests, there)

  -- ---- once what came is done

  may : MayHappen event (begun node free) × BeginsNew event (begun node free)
  may = each_may_come world n stamp free source event steady (shown_fit world j.shown) its.low its.runs makes.comes

  abbrev c : machine.World
  c = came.came.after.next

  to_c : Leads w c
  to_c = leads_on w came.came.mid c came.came.leads came.came.after.leads

  c_stands : Stands t scene n done c
  c_stands = stands_taken t world n source came.later came.size came.inc came.log came.taken its.low its.runs done c came.came.after.stands

  -- ---- at the end of the step

  abbrev f : machine.World
  f = then_f t world w steady home_low all n stamp free its.low its.runs source event makes.comes came may

  c_to_f : Leads c f
  c_to_f = after_leads t world w steady home_low all n stamp free its.low its.runs source event makes.comes came may

  f_stands : Stands t scene n last f
  f_stands = stands_taken t world n source came.later came.size came.inc came.log came.taken its.low its.runs last f (stood t world w steady home_low all n stamp free its.low its.runs source event makes.comes came may)

  -- ---- and after it

  abbrev after : World
  after = step_with world n stamp free source (Some event)

  further : (goes : AllGoes t after w) × Leads f goes.next
  further = step_goes_further t world w steady home_low all n stamp free its.low its.runs source event makes.comes came may

  node_then : (after.hosts n).node ≡ accept last.node
  node_then = picked (n == n) (eqb-self n)
    where
      picked : (b : Bool) → b ≡ true → (if b then stepped_host stamp (after_step node event free) (effects_of node event free) (world.hosts n) else world.hosts n).node ≡ accept last.node
      picked b is = rw is refl

  up_then : after.channels.up n ≡ true
  up_then = ap (λ (u : ℕ → Bool). u n) (up_all n stamp (effects_of node event free).messages (taken_by world n source) ∙ up_taken world n source) ∙ its.runs

  on_then : (part : Participant) → tm.part_of t (after.hosts n).node.manager ≡ Some part → IsHeldUp part → part.outcome ≡ None → (face (after.hosts n).node t part).on ≡ true
  on_then part known held undecided = subst (λ (k : NodeValue). (face k t part).on ≡ true) (sym node_then)
      (engaged t last part f_stands.sound (subst (λ (k : NodeValue). tm.part_of t k.manager ≡ Some part) node_then known) undecided (near part.engage.home (is_some part.engage.superior) (is_undecided part) held.engaged))
    where
      near : (h s u : Bool) → (h || s) ≡ true → (not h && (u && not (if h then u else s))) ≡ false
      near true s u is = refl
      near false true true is = refl
      near false true false is = refl
      near false false u is = absurd (cc is)

  refused : Refused t after n further.0.next
  refused = refused_then t after n further.0.next further.0.shown its.low up_then on_then

  abbrev next : machine.World
  next = refused.next

  f_to_next : Leads f next
  f_to_next = leads_on f further.0.next next further.1 refused.leads

  abbrev D : Type 0
  D = IsDoomed next

  -- ---- what keeps its node from being ready then dooms it

  more : (start : machine.World) (m : NodeNo) (k : ℕ) (part : Participant) → part_of t last ≡ Some part → Awaits m k part → IsUncommitted part → start.sent (place n (scene.inc n)) m.0 < k → start.sent (place n (scene.inc n)) m.0 < f.sent (place n (scene.inc n)) m.0
  more start m k part known awaits uncommitted below = less (start.sent (place n (scene.inc n)) m.0) k (peer_of part.engage m).sent (f.sent (place n (scene.inc n)) m.0) below awaits.sent (sent_there t scene n last f part m f_stands known uncommitted)
    where
      less : (a k s b : ℕ) → a < k → k ≤ s → b ≡ s → a < b
      less a k s b p q e = omega (arith, p, q, e)

  ends : (m : NodeNo) (k : ℕ) (part : Participant) → part_of t last ≡ Some part → Awaits m k part → IsUncommitted part → m.0 < scene.size → c.sent (place n (scene.inc n)) m.0 < k → (Reaches base knows m.0 → ⊥) → D
  ends m k part known awaits uncommitted in_run below unreached =
      doom_stays f next (unreached_doomed scene n c f (sees_work t scene n done c c_stands) (sees_work t scene n last f f_stands) c_stands.lawful.reached c_to_f m.0 in_run base knows refl refl refl unreached (more c m k part known awaits uncommitted below)) f_to_next

  held_ends : (part : Participant) → part_of t last ≡ Some part → IsHeldUp part → IsUncommitted part → D
  held_ends part known held (inl undecided) = refused.held part (subst (λ (k : NodeValue). tm.part_of t k.manager ≡ Some part) (sym node_then) known) held undecided
  held_ends part known held (inr aborted) = doom_stays f next (abort_dooms f f_stands.lawful.reached (f_stands.lawful.agreed.knows_abort (place n (scene.inc n)) knows_it)) f_to_next
    where
      knows_it : f.outcome (place n (scene.inc n)) ≡ machine.Aborted
      knows_it = (shown_here t scene n last f f_stands).outcome ∙ (ap (λ (x : Face). x.outcome) (face_is t scene n last f f_stands part known) ∙ ap (λ (q : Option Outcome). outcome_seen q (part.engage.home || part.involved)) aborted)

  -- ---- at each stage

  waits_stick : Sticks t (settle done) last
  waits_stick = sticks_fold t wait_on (λ k x. sticks_of t k (wait_on k x) (wait_keeps t k x)) (waiting_clients (settle done)) (settle done)

  all_stick : Sticks t done last
  all_stick = sticks_on t done (settle done) last (sticks_fold t settle_tid (settle_sticks t) (due_tids done) done) waits_stick

  here_done : StandsLater t scene n c done
  here_done = record { now = c; leads = record { events = []; run = refl }; stands = c_stands }

  here_settled : StandsLater t scene n c (settle done)
  here_settled = settled_here D t scene n c base knows refl small last ends held_ends (due_tids done) done here_done

  -- as a command comes, the channels are as they were
  module _ (same : taken_by world n source ≡ world.channels) where
    f_sees : Sees (scene_of world) n f
    f_sees = subst (λ (ch : Channels Parcel). Sees (scene_of (record world { channels = ch })) n f) same (sees_work t scene n last f f_stands)

    inc_same : scene.inc n ≡ world.channels.inc n
    inc_same = ap (λ (ch : Channels Parcel). ch.inc n) same

    ends_first : (m : NodeNo) (k : ℕ) (part : Participant) → part_of t last ≡ Some part → Awaits m k part → IsUncommitted part → m.0 < world.size → w.sent (place n (world.channels.inc n)) m.0 < k → (Reaches (field_of world) (world.channels.peer n) m.0 → ⊥) → D
    ends_first m k part known awaits uncommitted in_run below unreached =
        doom_stays f next (unreached_doomed (scene_of world) n w f (sees_world t (scene_of world) n w its.low its.runs all.seen.shown) f_sees all.seen.lawful.reached (leads_on w c f to_c c_to_f) m.0 in_run (field_of world) (world.channels.peer n) refl refl refl unreached
        (subst (λ (i : ℕ). w.sent (place n i) m.0 < f.sent (place n i) m.0) inc_same (more w m k part known awaits uncommitted (subst (λ (i : ℕ). w.sent (place n i) m.0 < k) (sym inc_same) below)))) f_to_next

    here_first : StandsLater t (scene_of world) n w first
    here_first = let goes : GoesOn t (scene_of world) n (begun node free) w = hears.first t world w steady home_low all n free its.low its.runs in record { now = goes.next; leads = goes.leads; stands = goes.stands }

    comes_first : ComesFinds D t world n event first
    comes_first = turns.comes_so o world n stamp free source event j makes D t (late_ends D t (scene_of world) n w (field_of world) (world.channels.peer n) refl small last ends_first held_ends first done here_first all_stick)

  comes_found : (s : Source) → source ≡ s → event_of world n stamp s ≡ Some event → ComesFinds D t world n event first
  comes_found (Commanded k) is comes = comes_first (ap (taken_by world n) is)
  comes_found (Handed m) is comes = let from = from_node world n stamp m event comes in subst (λ (e : Event). ComesFinds D t world n e first) (sym from.is) tt
  comes_found Queues is comes = subst (λ (e : Event). ComesFinds D t world n e first) (same_Some events.ServeAll event comes) tt
  comes_found Clock is comes = subst (λ (e : Event). ComesFinds D t world n e first) (same_Some events.Tick event comes) tt
  comes_found (Noticed m new) is comes = let from = from_notice world n stamp m new event comes in subst (λ (e : Event). ComesFinds D t world n e first) (sym from.is) tt

  pub step_found : (found : StepFound t world n stamp free source event w) × Leads came.came.after.next found.next
  step_found = (
    record {
      done = record { now = c; leads = to_c; stands = c_stands };
      next = next;
      leads = leads_on c f next c_to_f f_to_next;
      shows = subst (λ (q : Option Event). ShowsAll t (step_with world n stamp free source q) next) (sym makes.comes) refused.shows;
      finds = record {
        comes = comes_found source refl makes.comes;
        settles = settles_found D t scene n c base knows refl small last ends held_ends (due_tids done) done here_done waits_stick;
        waits = waits_found D t scene n c base knows refl small last ends held_ends (waiting_clients (settle done)) (settle done) here_settled
            (step_open node event free may.0 may.1 (steady.sound n its.low).node (steady.commands n its.low)).0
            (settle_keeps done (happens_keep event first (turns.fits o world n stamp free source event j makes) (turns.first_facts o world n stamp free source event j makes)))
            (sticks_of t last last (keeps_itself t last));
      };
    },
    leads_on c f next c_to_f f_to_next,
  )

-- as an event of whatever source comes
pub event_came : (t : Tid) (world : World) (n stamp free : ℕ) (source : Source) (event : Event) (w : machine.World) → IsShownWorld world → MakesStep world n stamp source event → has_begun world t ≡ true → ShowsAll t world w → StepCame t world n free source event w
event_came t world n stamp free source event w is makes began all =
    let its : StepMay world n source = step_may world n stamp source makes.may in
    step_came t world w (steady_gives world is.steady is.listed) (home_in_run world is t began) (begun_low world t began) all (shown_fit world is) n free its.low its.runs stamp source event its.serves makes.comes

pub steps_find : StepsFind
steps_find t o world n stamp free source event w j makes began all = (step_found t o world n stamp free source event w j makes began all (event_came t world n stamp free source event w j.shown makes began all)).0
