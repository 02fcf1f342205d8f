-- What shows a transaction once what came is done leads to what shows it after the step: where something was not found then or later, it is doomed there.
use Rattle.qs_world_runs.proofs.Words.{◌≡◌, ℕ, true, Tid, BookValue, due_tids, settle, Work, waiting_clients, with_command, Event, Source, taken_by, Opening, World, Leads, IsDoomed, leads_on, ShowsAll, StepCame, done_work, first_work, MakesStep, ComesFound, Joined, book_in, PlacesAt, field_of, taken, WholeFound, ComesWell}
use Rattle.qs_node_step.specs.declared.event.Event.TheVariants as events
use Rattle.qs_world_agree.specs.World as machine
use Rattle.qs_world_refine.specs.Begun.{has_begun}
use Rattle.qs_world_runs.specs.ComesFind.{CommandFinds}
use Rattle.qs_world_runs.specs.PlacesFound.{StepFound}
use Rattle.qs_world_runs.specs.PlacesSteps.{WholeFind}
use Rattle.qs_world_runs.proofs.ComesFind.{comes_find, comes_later}
use Rattle.qs_world_runs.proofs.FoundSteps.{event_came, step_found}
use Rattle.qs_world_runs.proofs.FoundWell.{commands_well, passes_well, waits_well}

module _ (t : Tid) (o : Opening) (world : World) (n stamp free : ℕ) (source : Source) (event : Event) (w : machine.World) (j : Joined PlacesAt o world) (makes : MakesStep world n stamp source event) (began : has_begun world t ≡ true) (all : ShowsAll t world w) where
  abbrev before : BookValue
  before = book_in o world

  abbrev first : Work
  first = first_work (world.hosts n).node free

  abbrev done : Work
  done = done_work (world.hosts n).node event free

  module _ (came : StepCame t world n free source event w) where
    abbrev found : (s : StepFound t world n stamp free source event w) × Leads came.came.after.next s.next
    found = step_found t o world n stamp free source event w j makes began all came

    whole : ComesWell (IsDoomed found.0.next) t world n stamp before source event first → WholeFound t o world n stamp free source event w
    whole comes = record {
      next = found.0.next;
      leads = leads_on w found.0.done.now found.0.next found.0.done.leads found.0.leads;
      shows = found.0.shows;
      finds = record {
        comes = comes;
        settles = passes_well (IsDoomed found.0.next) t (field_of (taken world n source)) ((taken_by world n source).peer n) n stamp before (due_tids done) done found.0.finds.settles;
        waits = waits_well (IsDoomed found.0.next) t (field_of (taken world n source)) ((taken_by world n source).peer n) n stamp before (waiting_clients (settle done)) (settle done) found.0.finds.waits;
      };
    }

  -- what comes by itself finds what it needs
  quietly : ((D : machine.World) → CommandFinds (IsDoomed D) t world n stamp before event first) → WholeFound t o world n stamp free source event w
  quietly asks = by (comes_find t world n stamp free before source event w j.shown makes began all (λ v u leads stands goes there. asks u))
    where
      by : ComesFound t world n stamp free before source event w → WholeFound t o world n stamp free source event w
      by c = whole c.came (comes_later c.came.came.after.next (found c.came).0.next t world n stamp before source event first (found c.came).1 c.finds)

pub whole_find : WholeFind
whole_find t o world n stamp free source (events.Command client line label command) w j makes lawful began all =
    let came : StepCame t world n free source (events.Command client line label command) w = event_came t world n stamp free source (events.Command client line label command) w j.shown makes began all in
    whole t o world n stamp free source (events.Command client line label command) w j makes began all came
    (commands_well (IsDoomed (step_found t o world n stamp free source (events.Command client line label command) w j makes began all came).0.next) t (field_of world) (world.channels.peer n) n stamp (book_in o world) client label command
    (with_command (record { client = client; line = line; label = label; command = command }) (first_work (world.hosts n).node free)) (step_found t o world n stamp free source (events.Command client line label command) w j makes began all came).0.finds.comes)
whole_find t o world n stamp free source (events.Received peer message) w j makes lawful began all = quietly t o world n stamp free source (events.Received peer message) w j makes began all (λ D. tt)
whole_find t o world n stamp free source events.ServeAll w j makes lawful began all = quietly t o world n stamp free source events.ServeAll w j makes began all (λ D. tt)
whole_find t o world n stamp free source (events.PeerRestarted peer old new) w j makes lawful began all = quietly t o world n stamp free source (events.PeerRestarted peer old new) w j makes began all (λ D. tt)
whole_find t o world n stamp free source events.Tick w j makes lawful began all = quietly t o world n stamp free source events.Tick w j makes began all (λ D. tt)
