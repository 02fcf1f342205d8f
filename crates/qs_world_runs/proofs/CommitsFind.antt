-- At the turn of a transaction that its home is ready to commit, what came found what it needed, and so did all that was issued and voted: so the commit is unanimous.
use Rattle.qs_world_runs.proofs.Words.{◌≡◌, ℕ, true, List, [], ◌∷◌, Tid, BookValue, due_tids, settle_tid, Work, with_command, Event, Source, taken_by, Opening, World, IsDoomed, leads_on, ShowsAll, AtEach, done_work, first_work, MakesStep, ComesFound, Joined, book_in, PlacesAt, field_of, taken, ComesFinds, IsReadyAt, ShownAt}
use Rattle.qs_node_step.specs.declared.event.Event.TheVariants as events
use Rattle.qs_world_agree.specs.World as machine
use Rattle.qs_world_refine.specs.Begun.{has_begun}
use Rattle.qs_world_runs.specs.ComesFind.{CommandFinds}
use Rattle.qs_world_runs.specs.JoinedLaws.{EachCommitsSettled}
use Rattle.qs_world_runs.specs.PlacesFound.{FoundAtTurn}
use Rattle.qs_world_runs.specs.PlacesTurns.{FindsAtTurn, FollowsAtTurn, IsFoundThere, passed}
use Rattle.qs_world_runs.proofs.ComesFind.{comes_find, comes_later}
use Rattle.qs_world_runs.proofs.FoundTurns.{turns_find}
use Rattle.qs_world_runs.proofs.FoundWell.{commands_well, pass_well}
use Rattle.qs_world_runs.proofs.JoinedGiven.{counts_have_room}
use Rattle.qs_world_runs.proofs.TurnsGo.{finds_settle}
use Rattle.qs_world_runs.proofs.TurnsShown.{came_shown, turns_follow}

-- what a client's command issues
pub comes_command : (D : Type 0) (t : Tid) (world : World) (n stamp : ℕ) (before : BookValue) (event : Event) (work : Work) → ComesFinds D t world n event work → CommandFinds D t world n stamp before event work
comes_command D t world n stamp before (events.Command client line label command) work finds = commands_well D t (field_of world) (world.channels.peer n) n stamp before client label command (with_command (record { client = client; line = line; label = label; command = command }) work) finds
comes_command D t world n stamp before (events.Received peer message) work finds = tt
comes_command D t world n stamp before events.ServeAll work finds = tt
comes_command D t world n stamp before (events.PeerRestarted peer old new) work finds = tt
comes_command D t world n stamp before events.Tick work finds = tt

module _ (o : Opening) (world : World) (n stamp free : ℕ) (source : Source) (event : Event) (j : Joined PlacesAt o world) (makes : MakesStep world n stamp source event) where
  abbrev before : BookValue
  before = book_in o world

  module _ (work : Work) (tid : Tid) (follows : FollowsAtTurn world n free source event work tid) (found : FoundAtTurn world n free source event work tid) (ready : IsReadyAt work tid) (began : has_begun world tid ≡ true) (w : machine.World) (shows : ShowsAll tid world w) where
    came : ComesFound tid world n stamp free before source event w
    came = comes_find tid world n stamp free before source event w j.shown makes began shows (λ v u first stood leads stands. comes_command (IsDoomed u) tid world n stamp before event (first_work (world.hosts n).node free) (found ready u).0)

    abbrev done : ShownAt world n source tid w (done_work (world.hosts n).node event free)
    done = came_shown world j.shown n stamp free source event makes tid w came.came

    by : ShownAt world n source tid done.now (passed work tid) → IsFoundThere o world n stamp free source event work tid w
    by s = record {
      at = record { now = s.now; leads = leads_on w done.now s.now done.leads s.leads; stands = s.stands };
      comes = comes_later done.now s.now tid world n stamp before source event (first_work (world.hosts n).node free) s.leads came.finds;
      passes = pass_well (IsDoomed s.now) tid (field_of (taken world n source)) ((taken_by world n source).peer n) n stamp before work (found ready s.now).1;
    }

    there : IsFoundThere o world n stamp free source event work tid w
    there = by (follows done.now done.stands)

  turns : (tids : List Tid) (work : Work) → AtEach (FollowsAtTurn world n free source event) settle_tid work tids → AtEach (FoundAtTurn world n free source event) settle_tid work tids → AtEach (FindsAtTurn o world n stamp free source event) settle_tid work tids
  turns [] work follow found = tt
  turns (tid ∷ tids) work follow found = (there work tid follow.0 found.0, turns tids (settle_tid work tid) follow.1 found.1)

pub commits_find : EachCommitsSettled PlacesAt
commits_find o world n stamp free source event j makes =
    finds_settle o world n stamp free source event j makes (counts_have_room PlacesAt o world j n stamp free source event makes)
    (turns o world n stamp free source event j makes (due_tids (done_work (world.hosts n).node event free)) (done_work (world.hosts n).node event free) (turns_follow world n free source event) (turns_find o world n stamp free source event j makes))
