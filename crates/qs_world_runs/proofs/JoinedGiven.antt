-- A step of a world in which all stands together is given all that it needs.
use Rattle.qs_world_runs.proofs.Words.{◌≡◌, ℕ, ◌<◌, true, Some, refl, sym, subst, arith, nat_tests, serve_next, work_on, Event, opened_from, Clock, Commanded, Handed, Noticed, Queues, Source, event_of, is_later, Opening, World, from_client, from_node, from_notice, StepMay, step_may, HappensSo, ComesTo, AtEach, first_work, HoldsNodeAt, opens_soundly, begin_incarnation_keeps, in_runs, held_at, first_held, MakesStep, nodes_in, HoldsRunning, Joined, book_in}
use Rattle.qs_ipc.specs.Ipc as ipc
use Rattle.qs_node_step.specs.State.{NodeValue}
use Rattle.qs_node_step.specs.declared.event.Event.TheVariants as events
use Rattle.qs_world.specs.Moves.{is_in_order, may_serve}
use Rattle.qs_world_refine.proofs.SoundParts.{and_both}
use Rattle.qs_world_lawful.specs.Agreed.{StepAgrees}
use Rattle.qs_world_lawful.specs.GivenStep.{MayStep}
use Rattle.qs_world_lawful.specs.Holds.{Holds}
use Rattle.qs_world_lawful.specs.Standing.{CanCount}
use Rattle.qs_world_lawful.specs.StepOn.{StepOn}
use Rattle.qs_world_lawful.proofs.BesideWhole.{may_step_on}
use Rattle.qs_world_lawful.proofs.GivenEvents.{event_comes}
use Rattle.qs_world_runs.specs.StepLaws.{CountsHaveRoom}
use Rattle.qs_world_runs.proofs.AgreesEach.{steady}
use Rattle.qs_world_runs.proofs.AgreesPasses.{stages_sound}
use Rattle.qs_world_runs.proofs.JoinedClocks.{tick_room}
use Rattle.qs_world_runs.proofs.JoinedGone.{finds_gone}
use Rattle.qs_world_runs.proofs.JoinedLogged.{logged_by_log}
use Rattle.qs_world_runs.proofs.CountsServed.{room_before, room_first}
use Rattle.qs_world_runs.proofs.CountsRoom.{turns_have_room}

-- ---- what comes, and that what waits can be counted

module _ (P : Opening → World → Type 0) (o : Opening) (world : World) (j : Joined P o world) (n stamp free : ℕ) (source : Source) (event : Event) (makes : MakesStep world n stamp source event) where
  abbrev node : NodeValue
  node = (world.hosts n).node

  its : StepMay world n source
  its = step_may world n stamp source makes.may

  at : HoldsNodeAt (book_in o world) world n
  at = j.held.nodes n its.low

  running : HoldsRunning (book_in o world) node
  running = j.running n its.low its.runs

  -- where requests are served all of them can be counted
  serves : (from : Source) → source ≡ from → event_of world n stamp from ≡ Some event → event ≡ events.ServeAll → source ≡ Queues
  serves Queues is comes served = is
  serves Clock is comes served = absurd (cc (comes, served))
  serves (Commanded k) is comes served = absurd (let from = from_client world n k event (steady world j.shown n stamp free source event makes) comes in let same = from.is in cc (same, served))
  serves (Handed m) is comes served = absurd (let from = from_node world n stamp m event comes in let same = from.is in cc (same, served))
  serves (Noticed m new) is comes served = absurd (let from = from_notice world n stamp m new event comes in let same = from.is in cc (same, served))

  pub comes_to : ComesTo (book_in o world) event (work_on node free)
  comes_to = event_comes o (book_in o world) world n stamp free j.opens source (record {
    size = j.size;
    in_run = let low = its.low in grind (arith, nat_tests, low);
    up = its.runs;
    node = at.node;
    nodes = at.run;
    scripts = j.scripts;
    channels = j.channels;
    ways = j.ways;
    room = λ served. room_before world j.shown n free its.low (subst (λ (s : Source). may_serve node s ≡ true) served its.serves) (j.shown.steady.sound n its.low).node;
    young = running.young;
  }) event makes.comes

  pub counts : event ≡ events.ServeAll → AtEach CanCount serve_next (first_work node free) (ipc.turns (first_work node free).node.queues)
  counts served = room_first world j.shown n free its.low (subst (λ (s : Source). may_serve node s ≡ true) (serves source refl makes.comes served) its.serves) stamp (book_in o world) (stages_sound world n stamp free source event j.shown makes).first

  -- and it is so
  pub happens_so : Holds stamp (book_in o world) node → HappensSo stamp (book_in o world) event (first_work node free)
  happens_so holds = so event refl
    where
      so : (e : Event) → event ≡ e → HappensSo stamp (book_in o world) event (first_work node free)
      so (events.Command client line label command) is = subst (λ (x : Event). HappensSo stamp (book_in o world) x (first_work node free)) (sym is) tt
      so (events.Received peer message) is = subst (λ (x : Event). HappensSo stamp (book_in o world) x (first_work node free)) (sym is) tt
      so events.ServeAll is = subst (λ (x : Event). HappensSo stamp (book_in o world) x (first_work node free)) (sym is) tt
      so (events.PeerRestarted peer old new) is = subst (λ (x : Event). HappensSo stamp (book_in o world) x (first_work node free)) (sym is)
          (finds_gone P o world j n stamp free source peer old new (subst (λ (x : Event). MakesStep world n stamp source x) is makes) holds)
      so events.Tick is = subst (λ (x : Event). HappensSo stamp (book_in o world) x (first_work node free)) (sym is) (tick_room P o world j n stamp free source event makes)

  -- where a vote pass is due, the count of changes has room

  ordered : is_in_order world n stamp ≡ true
  ordered = (and_both (is_in_order world n stamp) _ (and_both (is_later world n stamp) _ (and_both (world.channels.up n) _ makes.may).1).0).0

  pub counts_have_room : CountsHaveRoom o world n stamp free source event
  counts_have_room = turns_have_room o j.opens world.journal j.lawful stamp node event free (j.rooms n its.low).shares (first_held stamp (book_in o world) node free (held_at n stamp (book_in o world) node at.node (at.runs its.runs).still (j.held.order n stamp ordered)))
      (begin_incarnation_keeps (work_on node free) (j.facts n its.low)) comes_to

-- ---- and all else

module _ (P : Opening → World → Type 0) (o : Opening) (world : World) (j : Joined P o world) (n stamp free : ℕ) (source : Source) (event : Event) (makes : MakesStep world n stamp source event)
    (holds : Holds stamp (book_in o world) (world.hosts n).node) (agreed : StepAgrees stamp (book_in o world) world.size (nodes_in world) n (world.hosts n).node event free) where
  abbrev node_now : NodeValue
  node_now = (world.hosts n).node

  low : n < world.size
  low = (step_may world n stamp source makes.may).low

  runs : world.channels.up n ≡ true
  runs = (step_may world n stamp source makes.may).runs

  at_now : HoldsNodeAt (book_in o world) world n
  at_now = j.held.nodes n low

  pub step_on : StepOn stamp (book_in o world) world.size (nodes_in world) n node_now event free
  step_on = record {
    at = at_now.node;
    run = at_now.run;
    facts = j.facts n low;
    homes = λ tid tx found committed in_run away. j.homes tid tx found committed in_run;
    in_run = record { opened = opened_from o 0 o.size; history = world.journal; coherent = opens_soundly o j.opens; lawful = j.lawful; is = refl };
    beside = (j.running n low runs).beside;
    holds = holds;
    logged = logged_by_log (book_in o world) n at_now.state (world.hosts n) (in_runs o world.journal j.opens j.lawful) (at_now.runs runs) (j.logged n low);
    comes = comes_to P o world j n stamp free source event makes;
    room = counts P o world j n stamp free source event makes;
    so = happens_so P o world j n stamp free source event makes holds;
    agreed = agreed;
    rooms = counts_have_room P o world j n stamp free source event makes;
  }

  pub given : MayStep stamp (book_in o world) node_now event free
  given = may_step_on stamp (book_in o world) world.size (nodes_in world) n node_now event free step_on
