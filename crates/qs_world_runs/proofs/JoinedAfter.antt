-- All that stands together of a world stands after a whole step: what the machines and the nodes are known to keep, and what is owed.
use Rattle.qs_world_runs.proofs.Words.{◌≡◌, ℕ, ◌≤◌, ◌<◌, ◌==◌, Bool, true, false, List, ◌++◌, Option, refl, sym, ap, subst, ◌∙◌, arith, if◌then◌else◌, [], None, eqb-true, fold-append, nat_tests, Entry, Tid, BookValue, find_transaction, book_after, is_among, Record, Recovery, found_record, nothing_said, recovery, after_step, effects_of, Effects, Event, book_of, Move, Source, Step, log_after, may_move, moved, step_with, stepped_host, taken_by, Host, Opening, World, up_taken, up_all}
use Rattle.qs_world_runs.proofs.Words.{each_begun_shown, move_shown, HoldsBeside, HasNodeFacts, HoldsChannels, HoldsWays, HoldsScripts, HoldsWorld, MakesStep, nodes_in, HomesAt, HomesHave, HoldsRunning, Joined, ClocksAt, LoggedAt, OwnersAt, RunningAt, book_in, ClientsAt, Owes, OwesAt, WholeSteps, AfterStep, StaysUnanimousThen}
use Rattle.qs_book_machine.specs.Lawful.{IsLawful}
use Rattle.qs_node_step.specs.State.{NodeValue}
use Rattle.qs_world_lawful.specs.Face.{waiting_at}
use Rattle.qs_world_lawful.proofs.OpenedCommits.{stays_among}
use Rattle.qs_world_runs.specs.Joined.{ChannelsAt, FactsAt, HeldAt, ScriptsAt, WaysAt, KeepsBackUnmet, QueuedAt}
use Rattle.qs_world_runs.proofs.BornMoves.{born_moved}
use Rattle.qs_world_runs.proofs.JoinedFacts.{steps_facts}
use Rattle.qs_world_runs.proofs.JoinedHeld as held_proofs
use Rattle.qs_world_runs.proofs.JoinedHomes.{homes_after}
use Rattle.qs_world_runs.proofs.JoinedParts.{book_on, lawful_on}
use Rattle.qs_world_runs.proofs.JoinedClocks.{step_on_time}
use Rattle.qs_world_runs.proofs.ClientsGo.{clients_then, scripts_then}
use Rattle.qs_world_runs.proofs.JoinedWays.{lasts_now, steps_ways}
use Rattle.qs_world_runs.proofs.LabelsMoves.{labels_moved}
use Rattle.qs_world_runs.proofs.OwingElsewhere.{by_step, owes_on}
use Rattle.qs_world_runs.proofs.OwingSteps.{steps_owing}
use Rattle.qs_world_runs.proofs.RoomsMoves.{rooms_moved}
use Rattle.qs_world_runs.proofs.KeptBack.{none_before, nothing_waits, step_unmet}
use Rattle.qs_world_runs.proofs.StaysWorlds.{steps_keep_logged}
use Rattle.qs_world_runs.proofs.JoinedSteps.{step_at, step_entries, step_holds, step_journal, step_lawful, step_low, step_up}

-- what a step appends leaves the Commits that the log had
pub log_goes_on : (host : Host) (out : Effects) (tid : Tid) → is_among (recovery host.log).committed tid ≡ true → is_among (recovery (log_after host out)).committed tid ≡ true
log_goes_on host out tid is = by out.force
  where
    by : (b : Bool) → is_among (recovery (if b then host.log ++ (host.waiting ++ out.records) else host.log)).committed tid ≡ true
    by true = ap (λ (said : Recovery). is_among said.committed tid) (fold-append found_record nothing_said host.log (host.waiting ++ out.records)) ∙ stays_among tid (host.waiting ++ out.records) (recovery host.log) is
    by false = is

-- what is known of a world that a move leads to
pub record Known (o : Opening) (world new : World) : Type 0 where
  pub size : new.size ≡ world.size
  pub lawful : IsLawful (book_of o) new.journal
  pub held : HeldAt o new
  pub facts : FactsAt new
  pub running : RunningAt o new
  pub homes : HomesAt o new
  pub owners : OwnersAt o new
  pub logged : LoggedAt new
  pub clocks : ClocksAt new
  pub channels : ChannelsAt o new
  pub unmet : KeepsBackUnmet new.channels
  pub queued : QueuedAt o new
  pub ways : WaysAt o new
  pub clients : ClientsAt new
  pub scripts : ScriptsAt o new
  pub owing : OwesAt new

module _ (P : Opening → World → Type 0) (steps : WholeSteps P) (unanimous : AfterStep P StaysUnanimousThen) (o : Opening) (world : World) (j : Joined P o world) where
  abbrev book : BookValue
  book = book_in o world

  pub then_joined : (move : Move) → may_move world move ≡ true → Known o world (moved move world) → P o (moved move world) → Joined P o (moved move world)
  then_joined move may k places = record {
    opens = j.opens;
    size = k.size ∙ j.size;
    lawful = k.lawful;
    shown = move_shown world move may j.shown (each_begun_shown world move may j.shown);
    held = k.held;
    facts = k.facts;
    running = k.running;
    homes = k.homes;
    owners = k.owners;
    logged = k.logged;
    clocks = k.clocks;
    labels = labels_moved P o world j move may k.lawful;
    born = born_moved o world j.born move may;
    rooms = rooms_moved o world j.rooms move may;
    channels = k.channels;
    unmet = k.unmet;
    queued = k.queued;
    ways = k.ways;
    clients = k.clients;
    scripts = k.scripts;
    owing = k.owing;
    places = places;
  }

  -- ---- a whole step

  module _ (n stamp free : ℕ) (source : Source) (event : Event) (makes : MakesStep world n stamp source event) (may : may_move world (Step n stamp free source) ≡ true) where
    abbrev step : Move
    step = Step n stamp free source

    abbrev new : World
    new = moved step world

    abbrev entries : List Entry
    entries = step_entries P steps o world j n stamp free source event makes

    journal : new.journal ≡ world.journal ++ entries
    journal = step_journal P steps o world j n stamp free source event makes

    lawful_then : IsLawful (book_of o) new.journal
    lawful_then = lawful_on o world new entries journal j.lawful (step_lawful P steps o world j n stamp free source event makes)

    sized : new.size ≡ world.size
    sized = ap (λ (e : Option Event). (step_with world n stamp free source e).size) makes.comes

    ups : new.channels.up ≡ world.channels.up
    ups = ap (λ (e : Option Event). (step_with world n stamp free source e).channels.up) makes.comes
        ∙ (up_all n stamp (effects_of (world.hosts n).node event free).messages (taken_by world n source) ∙ up_taken world n source)

    runs : new.channels.up n ≡ true
    runs = ap (λ (f : ℕ → Bool). f n) ups ∙ step_up P steps o world j n stamp free source event makes

    own_then : (new.hosts n).node ≡ after_step (world.hosts n).node event free
    own_then = ap (λ (e : Option Event). ((step_with world n stamp free source e).hosts n).node) makes.comes ∙ picked (n == n) (grind (arith, nat_tests))
      where
        picked : (b : Bool) → b ≡ true → (if b then stepped_host stamp (after_step (world.hosts n).node event free) (effects_of (world.hosts n).node event free) (world.hosts n) else world.hosts n).node ≡ after_step (world.hosts n).node event free
        picked b is = rw is refl

    same : (k : ℕ) → (k == n) ≡ false → (new.hosts k).node ≡ (world.hosts k).node
    same k far = ap (λ (e : Option Event). ((step_with world n stamp free source e).hosts k).node) makes.comes ∙ picked (k == n) far
      where
        picked : (b : Bool) → b ≡ false → (if b then stepped_host stamp (after_step (world.hosts n).node event free) (effects_of (world.hosts n).node event free) (world.hosts n) else world.hosts k).node ≡ (world.hosts k).node
        picked b is = rw is refl

    held_then : HeldAt o new
    held_then = subst (λ (b : BookValue). HoldsWorld b new) (sym (book_on o world new entries journal))
        (subst (λ (w : World). HoldsWorld (book_after book entries) w) (sym (ap (step_with world n stamp free source) makes.comes)) (held_proofs.held_then P steps unanimous o world j n stamp free source event makes))

    runs_then : RunningAt o new
    runs_then k low on = subst (λ (b : BookValue). HoldsRunning b (new.hosts k).node) (sym (book_on o world new entries journal)) (by (k == n) refl)
      where
        by : (b : Bool) → (k == n) ≡ b → HoldsRunning (book_after book entries) (new.hosts k).node
        by true near = subst (λ (i : ℕ). HoldsRunning (book_after book entries) (new.hosts i).node) (sym (eqb-true k n near))
            (subst (λ (m : NodeValue). HoldsRunning (book_after book entries) m) (sym own_then) (held_proofs.own_running P steps unanimous o world j n stamp free source event makes))
        by false far = subst (λ (m : NodeValue). HoldsRunning (book_after book entries) m) (sym (same k far))
            (held_proofs.other_running P steps unanimous o world j n stamp free source event makes k far (subst (λ (s : ℕ). k < s) sized low) (sym (ap (λ (f : ℕ → Bool). f k) ups) ∙ on))

    low_then : n < new.size
    low_then = subst (λ (s : ℕ). n < s) (sym sized) (step_low P steps o world j n stamp free source event makes)

    facts_then : FactsAt new
    facts_then k low = by (k == n) refl
      where
        by : (b : Bool) → (k == n) ≡ b → HasNodeFacts (new.hosts k).node
        by true near = subst (λ (i : ℕ). HasNodeFacts (new.hosts i).node) (sym (eqb-true k n near)) (subst HasNodeFacts (sym own_then)
            (steps_facts o j.opens book world n stamp free j.scripts j.size (step_low P steps o world j n stamp free source event makes) (step_up P steps o world j n stamp free source event makes) (j.held.nodes n (step_low P steps o world j n stamp free source event makes)).run
            source event makes.comes (j.facts n (step_low P steps o world j n stamp free source event makes))))
        by false far = subst HasNodeFacts (sym (same k far)) (j.facts k (subst (λ (s : ℕ). k < s) sized low))

    homes_then : HomesAt o new
    homes_then = subst (λ (size : ℕ). HomesHave (book_in o new) size (nodes_in new)) (sym sized)
        (subst (λ (b : BookValue). HomesHave b world.size (nodes_in new)) (sym (book_on o world new entries journal))
        (homes_after book world.size (nodes_in world) (nodes_in new) n stamp (effects_of (world.hosts n).node event free).entries (step_at P steps o world j n stamp free source event makes) (held_then.nodes n low_then).node same
        (step_lawful P steps o world j n stamp free source event makes)
        (subst (λ (b : BookValue). HoldsBeside b (new.hosts n).node) (book_on o world new entries journal) (runs_then n low_then runs).beside) j.homes))

    -- of what the machine does not know nothing waits: at its own node by the step, at others since it knows on what it knew
    queued_then : QueuedAt o new
    queued_then k low tid server none = by (k == n) refl
      where
        none_now : find_transaction (book_after book entries) tid ≡ None
        none_now = subst (λ (b : BookValue). find_transaction b tid ≡ None) (book_on o world new entries journal) none

        own : waiting_at (after_step (world.hosts n).node event free) tid server ≡ []
        own = nothing_waits stamp (book_after book entries) (after_step (world.hosts n).node event free) (step_holds P steps o world j n stamp free source event makes) tid server none_now

        by : (b : Bool) → (k == n) ≡ b → waiting_at (new.hosts k).node tid server ≡ []
        by true near = subst (λ (i : ℕ). waiting_at (new.hosts i).node tid server ≡ []) (sym (eqb-true k n near)) (subst (λ (m : NodeValue). waiting_at m tid server ≡ []) (sym own_then) own)
        by false far = subst (λ (m : NodeValue). waiting_at m tid server ≡ []) (sym (same k far))
            (j.queued k (subst (λ (s : ℕ). k < s) sized low) tid server (none_before entries book (lasts_now o world j.opens j.lawful) (step_lawful P steps o world j n stamp free source event makes) tid none_now))

    own_log : (new.hosts n).log ≡ log_after (world.hosts n) (effects_of (world.hosts n).node event free)
    own_log = ap (λ (e : Option Event). ((step_with world n stamp free source e).hosts n).log) makes.comes ∙ picked (n == n) (grind (arith, nat_tests))
      where
        picked : (b : Bool) → b ≡ true → (if b then stepped_host stamp (after_step (world.hosts n).node event free) (effects_of (world.hosts n).node event free) (world.hosts n) else world.hosts n).log ≡ log_after (world.hosts n) (effects_of (world.hosts n).node event free)
        picked b is = rw is refl

    same_log : (k : ℕ) → (k == n) ≡ false → (new.hosts k).log ≡ (world.hosts k).log
    same_log k far = ap (λ (e : Option Event). ((step_with world n stamp free source e).hosts k).log) makes.comes ∙ picked (k == n) far
      where
        picked : (b : Bool) → b ≡ false → (if b then stepped_host stamp (after_step (world.hosts n).node event free) (effects_of (world.hosts n).node event free) (world.hosts n) else world.hosts k).log ≡ (world.hosts k).log
        picked b is = rw is refl

    logged_then : LoggedAt new
    logged_then k low tid among = by (k == n) refl
      where
        by : (b : Bool) → (k == n) ≡ b → is_among (recovery (new.hosts k).log).committed tid ≡ true
        by true near = subst (λ (i : ℕ). is_among (recovery (new.hosts i).log).committed tid ≡ true) (sym (eqb-true k n near)) (subst (λ (rs : List Record). is_among (recovery rs).committed tid ≡ true) (sym own_log)
            (log_goes_on (world.hosts n) (effects_of (world.hosts n).node event free) tid (j.logged n (step_low P steps o world j n stamp free source event makes) tid
            (subst (λ (ts : List Tid). is_among ts tid ≡ true) (steps_keep_logged world n stamp free source event j.shown makes (j.facts n (step_low P steps o world j n stamp free source event makes)))
            (subst (λ (m : NodeValue). is_among m.committed tid ≡ true) own_then (subst (λ (i : ℕ). is_among (new.hosts i).node.committed tid ≡ true) (eqb-true k n near) among))))))
        by false far = subst (λ (rs : List Record). is_among (recovery rs).committed tid ≡ true) (sym (same_log k far)) (j.logged k (subst (λ (s : ℕ). k < s) sized low) tid (subst (λ (m : NodeValue). is_among m.committed tid ≡ true) (same k far) among))

    clocks_then : ClocksAt new
    clocks_then k low = by (k == n) refl
      where
        stamps : (m : ℕ) → m ≡ n → (new.hosts m).stamp ≡ stamp
        stamps m same = ap (λ (e : Option Event). ((step_with world n stamp free source e).hosts m).stamp) makes.comes ∙ picked (m == n) (grind (arith, nat_tests, same))
          where
            picked : (b : Bool) → b ≡ true → (if b then stepped_host stamp (after_step (world.hosts n).node event free) (effects_of (world.hosts n).node event free) (world.hosts n) else world.hosts m).stamp ≡ stamp
            picked b is = rw is refl

        same_stamp : (k == n) ≡ false → (new.hosts k).stamp ≡ (world.hosts k).stamp
        same_stamp far = ap (λ (e : Option Event). ((step_with world n stamp free source e).hosts k).stamp) makes.comes ∙ picked (k == n) far
          where
            picked : (b : Bool) → b ≡ false → (if b then stepped_host stamp (after_step (world.hosts n).node event free) (effects_of (world.hosts n).node event free) (world.hosts n) else world.hosts k).stamp ≡ (world.hosts k).stamp
            picked b is = rw is refl

        by : (b : Bool) → (k == n) ≡ b → (new.hosts k).node.manager.ticks ≤ (new.hosts k).stamp
        by true near = subst (λ (t : ℕ). (new.hosts k).node.manager.ticks ≤ t) (sym (stamps k (eqb-true k n near))) (subst (λ (i : ℕ). (new.hosts i).node.manager.ticks ≤ stamp) (sym (eqb-true k n near)) (subst (λ (m : NodeValue). m.manager.ticks ≤ stamp) (sym own_then)
            (step_on_time P o world j n stamp free source event makes)))
        by false far = subst (λ (t : ℕ). (new.hosts k).node.manager.ticks ≤ t) (sym (same_stamp far)) (subst (λ (m : NodeValue). m.manager.ticks ≤ (world.hosts k).stamp) (sym (same k far)) (j.clocks k (subst (λ (s : ℕ). k < s) sized low)))

    owing_then : OwesAt new
    owing_then k low on = subst (Owes (new.hosts k).node) (sym journal) (by (k == n) refl)
      where
        by : (b : Bool) → (k == n) ≡ b → Owes (new.hosts k).node (world.journal ++ entries)
        by true near = subst (λ (i : ℕ). Owes (new.hosts i).node (world.journal ++ entries)) (sym (eqb-true k n near)) (subst (λ (m : NodeValue). Owes m (world.journal ++ entries)) (sym own_then)
            (steps_owing P o world n stamp free source event j makes))
        by false far = subst (λ (m : NodeValue). Owes m (world.journal ++ entries)) (sym (same k far)) (owes_on k (world.hosts k).node (j.held.nodes k k_low).node world.journal entries
            (by_step k (world.hosts k).node entries (held_proofs.asides P steps unanimous o world j n stamp free source event makes k far k_low)) (j.owing k k_low (sym (ap (λ (f : ℕ → Bool). f k) ups) ∙ on)))
          where
            k_low : k < world.size
            k_low = subst (λ (s : ℕ). k < s) sized low

    pub step_joined : Joined P o new
    step_joined = then_joined step may (record {
      size = sized;
      lawful = lawful_then;
      held = held_then;
      facts = facts_then;
      running = runs_then;
      homes = homes_then;
      owners = (runs_then n low_then runs).beside.owners;
      logged = logged_then;
      clocks = clocks_then;
      channels = subst (λ (b : BookValue). HoldsChannels b new.size new.channels) (sym (book_on o world new entries journal))
          (subst (λ (w : World). HoldsChannels (book_after book entries) w.size w.channels) (sym (ap (step_with world n stamp free source) makes.comes)) (held_proofs.channels_then P steps unanimous o world j n stamp free source event makes));
      unmet = subst (λ (w : World). KeepsBackUnmet w.channels) (sym (ap (step_with world n stamp free source) makes.comes)) (step_unmet world n stamp source event makes.comes (effects_of (world.hosts n).node event free).messages j.unmet);
      queued = queued_then;
      ways = subst (λ (b : BookValue). HoldsWays b new) (sym (book_on o world new entries journal)) (steps_ways P o world n stamp free source event j makes (step_lawful P steps o world j n stamp free source event makes));
      clients = clients_then P o world j n stamp free source event makes;
      owing = owing_then;
      scripts = subst (λ (b : BookValue). HoldsScripts o b new) (sym (book_on o world new entries journal)) (scripts_then P o world j n stamp free source event makes);
    }) (steps.places o world step tt j may lawful_then)
