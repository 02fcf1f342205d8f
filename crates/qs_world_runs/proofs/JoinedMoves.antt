-- All that stands together of a world stands after each move.
use Rattle.qs_world_runs.proofs.Words.{◌≡◌, ℕ, ◌<◌, ◌≤◌, ◌==◌, ◌&&◌, not, Bool, true, false, [], ◌∷◌, Option, Some, None, refl, sym, ap, subst, ◌∙◌, arith, nat_lt, nat_le, if◌then◌else◌, eqb-true, nat_tests, is_at, lookup, BookValue, find_transaction, is_crash, book_after, is_among, recovery, recovered_of, client_cmp, effects_of, Event, book_of, opened_from, Cut, Meet, Move, Rise, Step, Stop, cut_log, cut_with, event_of, is_later, may_move, may_step, moved, risen_host, step_with, Opening}
use Rattle.qs_world_runs.proofs.Words.{World, known_of, HoldsBeside, is_committed_at, Lasts, found_votes, HasNodeFacts, HoldsWays, HoldsScripts, rise_entry, HoldsWorld, opens_soundly, in_runs, channels_moved, rises_well, nodes_in, ClocksAt, HomesAt, HomesHave, HoldsRunning, Joined, LoggedAt, OwnersAt, RunningAt, book_in, ClientsAt, IsOwnClient, Owes, OwesAt, AfterStep, IsBetweenSteps, StaysUnanimousThen, WholeSteps, le_le, zero_least}
use Rattle.qs_session_channels.specs.Channels as channel
use Rattle.qs_book_journal.specs.declared.entry.Act.TheVariants as acts
use Rattle.qs_book_machine.specs.Lawful.{IsLawful}
use Rattle.qs_node_step.specs.State.{NodeValue}
use Rattle.qs_world.specs.Moves.{is_in_order, reopened}
use Rattle.qs_world_refine.proofs.SoundParts.{and_both}
use Rattle.qs_world_lawful.specs.Face.{waiting_at}
use Rattle.qs_world_lawful.specs.WorldLaws.{RisesWell}
use Rattle.qs_world_lawful.proofs.Meeting.{meets}
use Rattle.qs_world_lawful.proofs.MetWays.{meet_ways}
use Rattle.qs_world_lawful.proofs.RisenScripts.{rise_scripts}
use Rattle.qs_world_lawful.proofs.ScriptsLike.{meet_scripts}
use Rattle.qs_world_lawful.proofs.StopsWhole.{by_cut, by_stop}
use Rattle.qs_world_lawful.proofs.WaysOn.{rise_ways}
use Rattle.qs_world_runs.specs.Joined.{FactsAt, HeldAt, QueuedAt}
use Rattle.qs_world_runs.specs.JoinedLaws.{Keeps}
use Rattle.qs_world_runs.specs.CutBatches.{EachVoteOfStart}
use Rattle.qs_world_runs.specs.JoinedRuns.{EachMoveJoined}
use Rattle.qs_world_runs.specs.PlacesLaws.{GoesOn}
use Rattle.qs_world_runs.proofs.JoinedFacts.{rises_facts}
use Rattle.qs_world_runs.proofs.JoinedHomes.{homes_after}
use Rattle.qs_world_runs.proofs.JoinedParts.{book_on, channels_later, lawful_on, seated_sound}
use Rattle.qs_world_runs.proofs.JoinedWays.{lasts_now}
use Rattle.qs_world_runs.proofs.KeptBack.{meet_unmet, none_before, rise_unmet}
use Rattle.qs_world_runs.proofs.RisesBeside.{rise_keeps_beside}
use Rattle.qs_world_runs.proofs.JoinedClocks.{in_order_stamp, opens_on_time}
use Rattle.qs_world_runs.proofs.RisesRunning.{rises_running}
use Rattle.qs_world_runs.proofs.OwingElsewhere.{by_one, owes_on}
use Rattle.qs_world_runs.proofs.OwingFresh.{opens_owing}
use Rattle.qs_world_runs.proofs.JoinedAfter.{log_goes_on, step_joined, then_joined}
use Rattle.qs_world_runs.proofs.JoinedCrash.{crash_joined}
use Rattle.qs_world_runs.proofs.CutHeld.{cut_held}

module _ (P : Opening → World → Type 0) (between : Keeps P IsBetweenSteps P) (steps : WholeSteps P) (votes : EachVoteOfStart P) (unanimous : AfterStep P StaysUnanimousThen) (o : Opening) (world : World) (j : Joined P o world) where
  abbrev book : BookValue
  book = book_in o world

  lasts : Lasts book
  lasts = in_runs o world.journal j.opens j.lawful

  -- ---- a restart

  module _ (n stamp inc : ℕ) (may : may_move world (Rise n stamp inc) ≡ true) where
    abbrev risen_world : World
    risen_world = moved (Rise n stamp inc) world

    tests : (is_in_order world n stamp ≡ true) × (nat_lt (world.channels.inc n) inc ≡ true)
    tests = and_both (is_in_order world n stamp) (nat_lt (world.channels.inc n) inc) (and_both (not (world.channels.up n)) _ may).1

    n_low : n < world.size
    n_low = let there : nat_lt n world.size ≡ true = (and_both (nat_lt n world.size) _ (and_both (nat_lt n world.size && _) _ tests.0).0).0 in grind (arith, nat_tests, there)

    rises : RisesWell book world n stamp inc
    rises = rises_well book world n stamp inc lasts j.held may

    rise_lawful : IsLawful (book_of o) risen_world.journal
    rise_lawful = lawful_on o world risen_world (rise_entry world n stamp inc ∷ []) refl j.lawful rises.lawful

    rise_book : book_in o risen_world ≡ book_after book (rise_entry world n stamp inc ∷ [])
    rise_book = book_on o world risen_world (rise_entry world n stamp inc ∷ []) refl

    rise_held : HeldAt o risen_world
    rise_held = subst (λ (b : BookValue). HoldsWorld b risen_world) (sym rise_book) rises.holds

    rise_same : (k : ℕ) → (k == n) ≡ false → (risen_world.hosts k).node ≡ (world.hosts k).node
    rise_same k far = picked (k == n) far
      where
        picked : (b : Bool) → b ≡ false → (if b then risen_host stamp inc (recovered_of (world.hosts n).log) (world.hosts n) else world.hosts k).node ≡ (world.hosts k).node
        picked b so = rw so refl

    rise_own : (risen_world.hosts n).node ≡ reopened inc (recovered_of (world.hosts n).log) (world.hosts n).node
    rise_own = picked (n == n) (grind (arith, nat_tests))
      where
        picked : (b : Bool) → b ≡ true → (if b then risen_host stamp inc (recovered_of (world.hosts n).log) (world.hosts n) else world.hosts n).node ≡ reopened inc (recovered_of (world.hosts n).log) (world.hosts n).node
        picked b is = rw is refl

    rise_running : RunningAt o risen_world
    rise_running k low on = subst (λ (b : BookValue). HoldsRunning b (risen_world.hosts k).node) (sym rise_book) (by (k == n) refl on)
      where
        by : (b : Bool) → (k == n) ≡ b → (if b then true else world.channels.up k) ≡ true → HoldsRunning (book_after book (rise_entry world n stamp inc ∷ [])) (risen_world.hosts k).node
        by true near runs = subst (λ (i : ℕ). HoldsRunning (book_after book (rise_entry world n stamp inc ∷ [])) (risen_world.hosts i).node) (sym (eqb-true k n near))
            (subst (λ (m : NodeValue). HoldsRunning (book_after book (rise_entry world n stamp inc ∷ [])) m) (sym rise_own) (rises_running P o world n stamp inc j may))
        by false far runs = subst (λ (m : NodeValue). HoldsRunning (book_after book (rise_entry world n stamp inc ∷ [])) m) (sym (rise_same k far)) (record {
          beside = rise_keeps_beside (opened_from o 0 o.size) world.journal (opens_soundly o j.opens) j.lawful world n stamp inc lasts j.held may k (world.hosts k).node far (j.held.nodes k low).node (j.running k low runs).beside;
          young = (j.running k low runs).young;
        })

    rise_up : risen_world.channels.up n ≡ true
    rise_up = picked (n == n) (grind (arith, nat_tests))
      where
        picked : (b : Bool) → b ≡ true → (if b then true else world.channels.up n) ≡ true
        picked b so = rw so refl

    rise_facts : FactsAt risen_world
    rise_facts k low = by (k == n) refl
      where
        by : (b : Bool) → (k == n) ≡ b → HasNodeFacts (risen_world.hosts k).node
        by true near = subst (λ (i : ℕ). HasNodeFacts (risen_world.hosts i).node) (sym (eqb-true k n near)) (subst HasNodeFacts (sym rise_own) (rises_facts (world.hosts n).node inc (recovered_of (world.hosts n).log) (j.held.nodes n n_low).accepted (j.facts n n_low)))
        by false far = subst HasNodeFacts (sym (rise_same k far)) (j.facts k low)

    rise_homes : HomesAt o risen_world
    rise_homes = subst (λ (b : BookValue). HomesHave b world.size (nodes_in risen_world)) (sym rise_book)
        (homes_after book world.size (nodes_in world) (nodes_in risen_world) n stamp (acts.Restart inc (found_votes (recovery (world.hosts n).log)) (recovery (world.hosts n).log).committed ∷ []) (j.held.nodes n n_low).node (rise_held.nodes n n_low).node rise_same
        rises.lawful (subst (λ (b : BookValue). HoldsBeside b (risen_world.hosts n).node) rise_book (rise_running n n_low rise_up).beside) j.homes)

    -- nothing waits at it
    rise_queued : QueuedAt o risen_world
    rise_queued k low tid server none = by (k == n) refl
      where
        by : (b : Bool) → (k == n) ≡ b → waiting_at (risen_world.hosts k).node tid server ≡ []
        by true near = subst (λ (m : NodeValue). waiting_at m tid server ≡ []) (sym (ap (λ (i : ℕ). (risen_world.hosts i).node) (eqb-true k n near) ∙ rise_own)) refl
        by false far = subst (λ (m : NodeValue). waiting_at m tid server ≡ []) (sym (rise_same k far))
            (j.queued k low tid server (none_before (rise_entry world n stamp inc ∷ []) book (lasts_now o world j.opens j.lawful) rises.lawful tid (subst (λ (b : BookValue). find_transaction b tid ≡ None) rise_book none)))

    -- it has nothing in hand
    rise_clients : ClientsAt risen_world
    rise_clients k low client command there = by (k == n) refl
      where
        by : (b : Bool) → (k == n) ≡ b → IsOwnClient risen_world k client
        by true near = absurd (cc (subst (λ (m : NodeValue). lookup (is_at (client_cmp client)) m.commands ≡ Some command) (ap (λ (i : ℕ). (risen_world.hosts i).node) (eqb-true k n near) ∙ rise_own) there))
        by false far = let i = j.clients k low client command (subst (λ (m : NodeValue). lookup (is_at (client_cmp client)) m.commands ≡ Some command) (rise_same k far) there) in record { small = i.small; at = i.at }

    rise_owners : OwnersAt o risen_world
    rise_owners = (rise_running n n_low rise_up).beside.owners

    rise_logged : LoggedAt risen_world
    rise_logged k low tid among = by (k == n) refl among
      where
        by : (b : Bool) → (k == n) ≡ b → is_among (if b then risen_host stamp inc (recovered_of (world.hosts n).log) (world.hosts n) else world.hosts k).node.committed tid ≡ true
            → is_among (recovery (if b then risen_host stamp inc (recovered_of (world.hosts n).log) (world.hosts n) else world.hosts k).log).committed tid ≡ true
        by true near is = is
        by false far is = j.logged k low tid is

    rise_clocks : ClocksAt risen_world
    rise_clocks k low = by (k == n) refl
      where
        by : (b : Bool) → (k == n) ≡ b → (if b then risen_host stamp inc (recovered_of (world.hosts n).log) (world.hosts n) else world.hosts k).node.manager.ticks ≤ (if b then risen_host stamp inc (recovered_of (world.hosts n).log) (world.hosts n) else world.hosts k).stamp
        by true near = zero_least _ stamp (opens_on_time (world.hosts n).node.manager.alloc (record (world.hosts n).node.setting { inc = inc }) (recovered_of (world.hosts n).log))
        by false far = j.clocks k low

    rise_owing : OwesAt risen_world
    rise_owing k low on = by (k == n) refl on
      where
        by : (b : Bool) → (k == n) ≡ b → (if b then true else world.channels.up k) ≡ true → Owes (risen_world.hosts k).node risen_world.journal
        by true near runs = subst (λ (m : NodeValue). Owes m risen_world.journal) (sym (ap (λ (i : ℕ). (risen_world.hosts i).node) (eqb-true k n near) ∙ rise_own))
            (opens_owing (world.hosts n).node.manager.alloc (record (world.hosts n).node.setting { inc = inc }) (recovered_of (world.hosts n).log) (world.hosts n).node.kept.saved risen_world.journal)
        by false far runs = subst (λ (m : NodeValue). Owes m risen_world.journal) (sym (rise_same k far))
            (owes_on k (world.hosts k).node (j.held.nodes k low).node world.journal (rise_entry world n stamp inc ∷ []) (by_one k n far (world.hosts k).node (rise_entry world n stamp inc) refl tt) (j.owing k low runs))

    pub rise_joined : Joined P o risen_world
    rise_joined = then_joined P steps unanimous o world j (Rise n stamp inc) may (record {
      size = refl;
      lawful = rise_lawful;
      held = rise_held;
      facts = rise_facts;
      running = rise_running;
      homes = rise_homes;
      owners = rise_owners;
      logged = rise_logged;
      clocks = rise_clocks;
      channels = channels_later o world risen_world (rise_entry world n stamp inc ∷ []) j.opens refl rise_lawful world.size risen_world.channels
          (channels_moved book world.size (channel.Restart n inc) world.channels (let later : nat_lt (world.channels.inc n) inc ≡ true = tests.1 in grind (arith, nat_tests, later)) j.channels);
      unmet = rise_unmet world.channels n inc j.unmet;
      queued = rise_queued;
      ways = subst (λ (b : BookValue). HoldsWays b risen_world) (sym rise_book) (rise_ways book world n stamp inc lasts j.held (seated_sound world j.shown.steady.seated) may j.ways);
      clients = rise_clients;
      owing = rise_owing;
      scripts = subst (λ (b : BookValue). HoldsScripts o b risen_world) (sym rise_book) (rise_scripts o book world n stamp inc lasts j.held may j.scripts);
    }) (between o world (Rise n stamp inc) tt j may rise_lawful)

  -- ---- a first meeting: nothing is entered, and each node stays

  module _ (n stamp m inc : ℕ) (may : may_move world (Meet n stamp m inc) ≡ true) where
    abbrev met_world : World
    met_world = moved (Meet n stamp m inc) world

    met_node : (k : ℕ) → (met_world.hosts k).node ≡ (world.hosts k).node
    met_node k = picked (k == n) refl
      where
        picked : (b : Bool) → (k == n) ≡ b → (if b then record (world.hosts n) { stamp = stamp } else world.hosts k).node ≡ (world.hosts k).node
        picked true near = ap (λ (i : ℕ). (world.hosts i).node) (sym (eqb-true k n near))
        picked false far = refl

    met_running : RunningAt o met_world
    met_running k low runs = subst (λ (node : NodeValue). HoldsRunning book node) (sym (met_node k)) (j.running k low runs)

    met_homes : HomesAt o met_world
    met_homes tid tx found committed in_run = subst (λ (node : NodeValue). is_committed_at node tid ≡ true) (sym (met_node tid.home.0)) (j.homes tid tx found committed in_run)

    met_logged : LoggedAt met_world
    met_logged k low tid among = by (k == n) refl among
      where
        by : (b : Bool) → (k == n) ≡ b → is_among (if b then record (world.hosts n) { stamp = stamp } else world.hosts k).node.committed tid ≡ true
            → is_among (recovery (if b then record (world.hosts n) { stamp = stamp } else world.hosts k).log).committed tid ≡ true
        by true near is = j.logged n (subst (λ (i : ℕ). i < world.size) (eqb-true k n near) low) tid is
        by false far is = j.logged k low tid is

    met_clocks : ClocksAt met_world
    met_clocks k low = by (k == n) refl
      where
        by : (b : Bool) → (k == n) ≡ b → (if b then record (world.hosts n) { stamp = stamp } else world.hosts k).node.manager.ticks ≤ (if b then record (world.hosts n) { stamp = stamp } else world.hosts k).stamp
        by true near = le_le (world.hosts n).node.manager.ticks (world.hosts n).stamp stamp (j.clocks n (subst (λ (i : ℕ). i < world.size) (eqb-true k n near) low))
            (in_order_stamp world n stamp (and_both (is_in_order world n stamp) _ (and_both (is_later world n stamp) _ (and_both (world.channels.up n) _ may).1).0).0)
        by false far = j.clocks k low

    known_inc : inc ≤ world.channels.inc m
    known_inc = let low : nat_le inc (world.channels.inc m) ≡ true = (and_both (nat_le inc (world.channels.inc m)) _ (and_both (nat_lt 0 inc) _ (and_both (known_of world n m == 0) _ (and_both (not (m == n) && nat_lt m world.size) _ (and_both (is_later world n stamp) _ (and_both (world.channels.up n) _ may).1).1).1).1).1).0 in grind (arith, nat_tests, low)

    pub meet_joined : Joined P o met_world
    meet_joined = then_joined P steps unanimous o world j (Meet n stamp m inc) may (record {
      size = refl;
      lawful = j.lawful;
      held = meets book world n stamp m inc j.held may;
      facts = λ k low. subst HasNodeFacts (sym (met_node k)) (j.facts k low);
      running = met_running;
      homes = met_homes;
      owners = j.owners;
      logged = met_logged;
      clocks = met_clocks;
      channels = channels_moved book world.size (channel.Meet n m inc) world.channels known_inc j.channels;
      unmet = meet_unmet world.channels n m inc j.unmet;
      queued = λ k low tid server none. subst (λ (m : NodeValue). waiting_at m tid server ≡ []) (sym (met_node k)) (j.queued k low tid server none);
      ways = meet_ways book world n stamp m inc j.channels (seated_sound world j.shown.steady.seated) may j.ways;
      clients = λ k low client command there. let i = j.clients k low client command (subst (λ (m : NodeValue). lookup (is_at (client_cmp client)) m.commands ≡ Some command) (met_node k) there) in record { small = i.small; at = i.at };
      owing = λ k low runs. subst (λ (m : NodeValue). Owes m met_world.journal) (sym (met_node k)) (j.owing k low runs);
      scripts = meet_scripts o book world n stamp m inc j.scripts;
    }) (between o world (Meet n stamp m inc) tt j may j.lawful)

  -- ---- each move

  pub move_joined : (move : Move) → may_move world move ≡ true → Joined P o (moved move world)
  move_joined (Step n stamp free source) may = by (event_of world n stamp source) refl
    where
      by : (e : Option Event) → event_of world n stamp source ≡ e → Joined P o (moved (Step n stamp free source) world)
      by None none = subst (λ (e : Option Event). Joined P o (step_with world n stamp free source e)) (sym none) j
      by (Some event) comes = step_joined P steps unanimous o world j n stamp free source event (record { may = may; comes = comes }) may
  move_joined (Cut n stamp free source is_kept cause) may = by (event_of world n stamp source) refl is_kept may
    where
      cut_ordered : (may_step world n stamp source && is_crash cause) ≡ true → is_in_order world n stamp ≡ true
      cut_ordered m = (and_both (is_in_order world n stamp) _ (and_both (is_later world n stamp) _ (and_both (world.channels.up n) _ (and_both (may_step world n stamp source) (is_crash cause) m).0).1).0).0

      by : (e : Option Event) → event_of world n stamp source ≡ e → (b : Bool) → may_move world (Cut n stamp free source b cause) ≡ true → Joined P o (moved (Cut n stamp free source b cause) world)
      by None none b may_b = subst (λ (e : Option Event). Joined P o (cut_with world n stamp free b cause e)) (sym none) j
      by (Some event) comes true may_b = crash_joined P steps unanimous o world j n stamp cause (cut_log (world.hosts n) true (effects_of (world.hosts n).node event free)) (Cut n stamp free source true cause) may_b (ap (cut_with world n stamp free true cause) comes) (log_goes_on (world.hosts n) (effects_of (world.hosts n).node event free)) (cut_ordered may_b) (cut_held P steps votes unanimous o world n stamp free source cause j may_b) (between o world (Cut n stamp free source true cause) tt j may_b)
      by (Some event) comes false may_b = crash_joined P steps unanimous o world j n stamp cause (cut_log (world.hosts n) false (effects_of (world.hosts n).node event free)) (Cut n stamp free source false cause) may_b (ap (cut_with world n stamp free false cause) comes) (λ tid is. is) (cut_ordered may_b) (by_cut book world n stamp free source cause lasts j.held may_b) (between o world (Cut n stamp free source false cause) tt j may_b)
  move_joined (Stop n stamp cause) may = crash_joined P steps unanimous o world j n stamp cause (world.hosts n).log (Stop n stamp cause) may refl (λ tid is. is) (and_both (is_in_order world n stamp) _ (and_both (world.channels.up n) _ may).1).0 (by_stop book world n stamp cause lasts j.held may) (between o world (Stop n stamp cause) tt j may)
  move_joined (Rise n stamp inc) may = rise_joined n stamp inc may
  move_joined (Meet n stamp m inc) may = meet_joined n stamp m inc may

pub each_move_joined : (P : Opening → World → Type 0) → GoesOn P → EachMoveJoined P
each_move_joined P goes o world move j may = move_joined P goes.between goes.steps goes.votes goes.unanimous o world j move may
