-- At each turn all that was settled before is lawful, so what stands there may show that a commit there is unanimous; and so on to the next turn.
use Rattle.qs_world_runs.proofs.Words.{◌≡◌, ℕ, true, List, [], ◌∷◌, Some, refl, ap, sym, subst, ◌∙◌, ServerNo, Tid, BookValue, serve_next, due_tids, pass_rule, settle_tid, try, Work, work_on, Event, Setting, Participant, is_pass_due, opened_from, Source, Opening, World, is_sound, StepMay, step_may, InRun, HappensSo, ComesTo, HoldsWork, book_at, entries_so_far, AtEach, done_work, first_work, FitsEvent, HoldsNodeAt, opens_soundly, begin_incarnation_keeps, in_runs, begin_same, happen_same}
use Rattle.qs_world_runs.proofs.Words.{held_at, first_held, MakesStep, PassesUndone, nodes_in, Joined, book_in, CommitsSettled, PlacesAt, is_later}
use Rattle.qs_ipc.specs.Ipc as ipc
use Rattle.qs_node_step.specs.State.{NodeValue}
use Rattle.qs_node_step.specs.declared.event.Event.TheVariants as events
use Rattle.qs_tm.specs.Manager as tm
use Rattle.qs_world_refine.proofs.SoundParts.{and_both}
use Rattle.qs_world_lawful.specs.Agreed.{AgreementGives, AgreesEvent}
use Rattle.qs_world_lawful.specs.BesideStep.{AreCommitted, HasCountRoom}
use Rattle.qs_world_lawful.specs.Given.{MayPass, MayServe}
use Rattle.qs_world_lawful.specs.GivenStep.{MayHappen}
use Rattle.qs_world_lawful.specs.Holds.{Holds}
use Rattle.qs_world_lawful.specs.Standing.{CanCount, HoldsHomes, KeepsStanding, Stands}
use Rattle.qs_world_lawful.proofs.BesideGoes.{Goes}
use Rattle.qs_world_lawful.proofs.BesideHappens.{goes_happens}
use Rattle.qs_world_lawful.proofs.BesideRestarts.{goes_incarnation}
use Rattle.qs_world_lawful.proofs.BesideWhole.{keeps_beside, logged_still}
use Rattle.qs_world_lawful.proofs.ComesFirst.{comes_first, fits_so}
use Rattle.qs_world_lawful.proofs.FactsStages.{happens_keep}
use Rattle.qs_world_lawful.proofs.GivenComing.{may_come}
use Rattle.qs_world_lawful.proofs.GivenServing.{may_serve}
use Rattle.qs_world_lawful.proofs.GivenSettling.{may_pass}
use Rattle.qs_world_lawful.proofs.GivenStages.{at_each, s_settled}
use Rattle.qs_world_lawful.proofs.GivenWaiting.{may_command}
use Rattle.qs_world_lawful.proofs.GivenWhole.{all_any}
use Rattle.qs_world_lawful.proofs.HomesStand.{homes_stand}
use Rattle.qs_world_lawful.proofs.OldEnough.{may_age}
use Rattle.qs_world_lawful.proofs.PassingAll.{by_pass_rule}
use Rattle.qs_world_lawful.proofs.Replied.{by_served}
use Rattle.qs_world_lawful.proofs.Stages.{by_undecided}
use Rattle.qs_world_lawful.proofs.StandsOn.{keeps_standing, stands_on}
use Rattle.qs_world_lawful.proofs.WholeStep.{by_happen}
use Rattle.qs_world_runs.specs.PlacesTurns.{SettledBy, TurnsSettle}
use Rattle.qs_world_runs.proofs.AgreesPasses.{passes_agree, stages_sound}
use Rattle.qs_world_runs.proofs.AgreesWhole.{event_agrees}
use Rattle.qs_world_runs.proofs.JoinedGiven.{comes_to, counts, happens_so}
use Rattle.qs_world_runs.proofs.JoinedLogged.{logged_by_log}
use Rattle.qs_world_runs.proofs.JoinedSound.{sound_gives}
use Rattle.qs_world.specs.Moves.{is_in_order}

module _ (o : Opening) (world : World) (j : Joined PlacesAt o world) (n stamp free : ℕ) (source : Source) (event : Event) (makes : MakesStep world n stamp source event) where
  abbrev before : BookValue
  before = book_in o world

  abbrev node : NodeValue
  node = (world.hosts n).node

  abbrev first : Work
  first = first_work node free

  abbrev done : Work
  done = done_work node event free

  its : StepMay world n source
  its = step_may world n stamp source makes.may

  at : HoldsNodeAt before world n
  at = j.held.nodes n its.low

  ordered : is_in_order world n stamp ≡ true
  ordered = (and_both (is_in_order world n stamp) _ (and_both (is_later world n stamp) _ (and_both (world.channels.up n) _ makes.may).1).0).0

  run : InRun before
  run = record { opened = opened_from o 0 o.size; history = world.journal; coherent = opens_soundly o j.opens; lawful = j.lawful; is = refl }

  homes : HoldsHomes before world.size (nodes_in world) n
  homes = λ tid tx found committed in_run away. j.homes tid tx found committed in_run

  rules : KeepsStanding stamp before world.size (nodes_in world) n
  rules = keeps_standing stamp before world.size (nodes_in world) n homes (keeps_beside stamp before run world.size (nodes_in world) n)

  -- ---- as its event comes

  holds : Holds stamp before node
  holds = held_at n stamp before node at.node (at.runs its.runs).still (j.held.order n stamp ordered)

  held : HoldsWork stamp before first
  held = first_held stamp before node free holds

  so : HappensSo stamp before event first
  so = happens_so PlacesAt o world j n stamp free source event makes holds

  goes : Goes stamp before run (work_on node free) first
  goes = goes_incarnation stamp before run (work_on node free)

  at_first : first.node.setting.node.0 ≡ n
  at_first = ap (λ (t : Setting). t.node.0) (begin_same (work_on node free)) ∙ at.node

  stands : Stands stamp before world.size (nodes_in world) n first
  stands = record {
    held = held;
    by = record {
      facts = begin_incarnation_keeps (work_on node free) (j.facts n its.low);
      beside = goes.keeps held.lawful (j.running n its.low its.runs).beside;
      homes = homes_stand stamp before world.size (nodes_in world) n first at_first held.lawful homes;
      at = at_first;
      run = ap (λ (t : Setting). t.nodes) (begin_same (work_on node free)) ∙ at.run;
    };
  }

  comes : ComesTo before event (work_on node free)
  comes = comes_to PlacesAt o world j n stamp free source event makes

  comes_now : ComesTo (book_at stamp before first) event first
  comes_now = comes_first stamp before run node free held event comes (counts PlacesAt o world j n stamp free source event makes)

  agrees : AgreesEvent world.size (nodes_in world) n first event
  agrees = event_agrees world n stamp free source event j.shown makes

  -- ---- once it is done

  may_happen : (e : Event) → event ≡ e → ComesTo (book_at stamp before first) e first → AgreesEvent world.size (nodes_in world) n first e → MayHappen stamp before e first
  may_happen (events.Command client line label command) is came so_agreed = may_command stamp before world.size (nodes_in world) n first stands.by so_agreed (record { client = client; line = line; label = label; command = command }) came
  may_happen (events.Received peer message) is came so_agreed = may_come stamp before world.size (nodes_in world) n first stands peer message came so_agreed
  may_happen events.ServeAll is came so_agreed = at_each (Stands stamp before world.size (nodes_in world) n) (λ (server : ServerNo). Unit {0}) CanCount (MayServe stamp before) serve_next
      (λ work server k any room. may_serve stamp before world.size (nodes_in world) n work k server room)
      (λ work server k any room. let served : HoldsWork stamp before (serve_next work server) = by_served stamp before work k.held server (may_serve stamp before world.size (nodes_in world) n work k server room) in record { held = served; by = rules.serves work server room k served })
      (ipc.turns first.node.queues) first stands (all_any (ipc.turns first.node.queues)) came
  may_happen (events.PeerRestarted peer old new) is came so_agreed = tt
  may_happen events.Tick is came so_agreed = may_age stamp before run first held stands.by.beside (begin_incarnation_keeps (work_on node free) (j.facts n its.low))
      (subst (λ (e : Event). ComesTo (book_at stamp before first) e first) is comes_now) (subst (λ (e : Event). HappensSo stamp before e first) is so)

  logged : AreCommitted (book_at stamp before first) first.node
  logged = logged_still before run (entries_so_far stamp first) held.lawful node first.node goes.logged
      (logged_by_log before n at.state (world.hosts n) (in_runs o world.journal j.opens j.lawful) (at.runs its.runs) (j.logged n its.low))

  stands_done : Stands stamp before world.size (nodes_in world) n done
  stands_done = let then_held : HoldsWork stamp before done = by_happen stamp before event first held (may_happen event refl comes_now agrees) in
      record {
        held = then_held;
        by = stands_on stamp before world.size (nodes_in world) n homes first done (happen_same event first)
            (happens_keep event first (subst (λ (t : Setting). FitsEvent t event) (sym (begin_same (work_on node free))) (fits_so before node free event comes))) stands then_held
            ((goes_happens stamp before run world.size (nodes_in world) n homes event first stands comes_now agrees so logged).keeps then_held.lawful stands.by.beside);
      }

  -- ---- from turn to turn

  turns : (tids : List Tid) (work : Work) → Stands stamp before world.size (nodes_in world) n work → AtEach (PassesUndone world.size (nodes_in world) n) settle_tid work tids
      → AtEach (λ (work : Work) (tid : Tid). is_sound work.node ≡ true) settle_tid work tids → AtEach HasCountRoom settle_tid work tids
      → AtEach (SettledBy stamp before world.size (nodes_in world) n) settle_tid work tids → AtEach (CommitsSettled stamp before) settle_tid work tids
  turns [] work s passes sound rooms settled = tt
  turns (tid ∷ tids) work s passes sound rooms settled = (commits, turns tids (settle_tid work tid) (s_settled stamp before world.size (nodes_in world) n rules work tid s agreed rooms.0) passes.1 sound.1 rooms.1 settled.1)
    where
      may : (part : Participant) → tm.part_of tid work.node.manager ≡ Some part → is_pass_due tid part work ≡ true → MayPass stamp before work tid part
      may part known due = may_pass stamp before world.size (nodes_in world) n work s.by tid part known (passes.0 part known due)

      passed : Stands stamp before world.size (nodes_in world) n (try tid pass_rule work)
      passed = let then_held : HoldsWork stamp before (try tid pass_rule work) = by_undecided stamp before work s.held tid (pass_rule tid) (λ part known unknown. by_pass_rule stamp before tid work s.held part known (λ due. may part known due)) in
          record { held = then_held; by = rules.passes work tid (record { may = may; room = rooms.0 }) s then_held }

      commits : CommitsSettled stamp before work tid
      commits = settled.0 passed

      agreed : AgreementGives stamp before world.size (nodes_in world) n work tid
      agreed = record { passes = passes.0; commits = commits; alone = sound_gives work tid sound.0 }

  turns_so : AtEach HasCountRoom settle_tid done (due_tids done) → AtEach (SettledBy stamp before world.size (nodes_in world) n) settle_tid done (due_tids done) → AtEach (CommitsSettled stamp before) settle_tid done (due_tids done)
  turns_so rooms settled = turns (due_tids done) done stands_done (passes_agree world n stamp free source event j.shown makes) (stages_sound world n stamp free source event j.shown makes).settles rooms settled

pub turns_settle : TurnsSettle
turns_settle o world n stamp free source event j makes rooms settled = turns_so o world j n stamp free source event makes rooms settled
