-- All that stands together of a world stands after a crash, whatever it leaves in the log.
use Rattle.qs_world_runs.proofs.Words.{◌≡◌, ℕ, ◌≤◌, ◌<◌, ◌==◌, Bool, true, false, List, [], ◌∷◌, Some, None, refl, sym, ap, subst, ◌∙◌, if◌then◌else◌, is_at, lookup, slice_get, eqb-true, eqb-false, CrashCause, Entry, Tid, BookValue, find_transaction, is_among, TransactionValue, Record, recovery, client_cmp, book_of, opened_from, Move, may_move, moved, stopped, stopped_host, entry_of, Client, Opening, World, node_stopped, is_committed_at, HasNodeFacts, HoldsWays, HoldsScripts, HoldsNodeAt}
use Rattle.qs_world_runs.proofs.Words.{HoldsWorld, opens_soundly, opened_numbered, channels_moved, HomesAt, HoldsRunning, Joined, ClocksAt, LoggedAt, OwnersAt, RunningAt, book_in, Owes, OwesAt, AfterStep, WholeSteps, StaysUnanimousThen, le_le}
use Rattle.qs_session_channels.specs.Channels as channel
use Rattle.qs_book_journal.specs.declared.entry.Act.TheVariants as acts
use Rattle.qs_book_machine.specs.Lawful.{IsLawful}
use Rattle.qs_node_step.specs.State.{NodeValue}
use Rattle.qs_world.specs.Moves.{is_in_order}
use Rattle.qs_world_lawful.specs.Beside.{HasOwner}
use Rattle.qs_world_lawful.specs.Face.{waiting_at}
use Rattle.qs_world_lawful.specs.WorldLaws.{StopsWell}
use Rattle.qs_world_lawful.proofs.AsideBesides.{keeps_others_beside}
use Rattle.qs_world_lawful.proofs.ScriptsLike.{crash_scripts}
use Rattle.qs_world_lawful.proofs.WaysOn.{crash_ways}
use Rattle.qs_world_runs.proofs.JoinedHeld as held_proofs
use Rattle.qs_world_runs.proofs.JoinedParts.{book_on, channels_later, lawful_on}
use Rattle.qs_world_runs.proofs.JoinedWays.{lasts_now}
use Rattle.qs_world_runs.proofs.KeptBack.{none_before}
use Rattle.qs_world_runs.proofs.JoinedClocks.{in_order_stamp}
use Rattle.qs_world_runs.proofs.OwingElsewhere.{by_one, owes_on}
use Rattle.qs_world_runs.proofs.JoinedAfter.{Known, then_joined}

module _ (P : Opening → World → Type 0) (steps : WholeSteps P) (unanimous : AfterStep P StaysUnanimousThen) (o : Opening) (world : World) (j : Joined P o world) where
  abbrev book : BookValue
  book = book_in o world

  module _ (n stamp : ℕ) (cause : CrashCause) (log : List Record) (move : Move) (may : may_move world move ≡ true) (is : moved move world ≡ stopped world n stamp cause log) (longer : (tid : Tid) → is_among (recovery (world.hosts n).log).committed tid ≡ true → is_among (recovery log).committed tid ≡ true)
      (ordered : is_in_order world n stamp ≡ true) (well : StopsWell book (moved move world) n stamp cause) where
    abbrev after : World
    after = stopped world n stamp cause log

    crashed : StopsWell book after n stamp cause
    crashed = subst (λ (w : World). StopsWell book w n stamp cause) is well

    abbrev entry : Entry
    entry = entry_of n stamp (acts.Crash cause)

    crash_lawful : IsLawful (book_of o) after.journal
    crash_lawful = lawful_on o world after (entry ∷ []) refl j.lawful crashed.lawful

    crash_homes : HomesAt o after
    crash_homes tid tx found committed in_run = subst (λ (node : NodeValue). is_committed_at node tid ≡ true) (sym (node_stopped world n stamp cause log tid.home.0))
        (j.homes tid tx (ap (λ (b : BookValue). find_transaction b tid) (sym (book_on o world after (entry ∷ []) refl)) ∙ found) committed in_run)

    -- of the others that run
    crash_running : RunningAt o after
    crash_running k low on = by (k == n) refl on
      where
        by : (b : Bool) → (k == n) ≡ b → (if b then false else world.channels.up k) ≡ true → HoldsRunning (book_in o after) (after.hosts k).node
        by true near off = absurd (cc off)
        by false far runs = subst (λ (m : NodeValue). HoldsRunning (book_in o after) m) (sym (node_stopped world n stamp cause log k)) (record {
          beside = keeps_others_beside (opened_from o 0 o.size) world.journal (entry ∷ []) (opens_soundly o j.opens) (opened_numbered o 0 o.size) crash_lawful (world.hosts k).node
              (record { far = λ at. eqb-false k n far (sym (at ∙ its.node)); of_step = tt; answers = tt }, tt) ((λ tid label client begins. absurd (cc begins)), tt)
              (λ state there. held_proofs.runs_at book world k its runs state (subst (λ (i : ℕ). slice_get book.nodes i ≡ Some state) its.node there)) (j.running k low runs).beside;
          young = (j.running k low runs).young;
        })
          where
            its : HoldsNodeAt book world k
            its = j.held.nodes k low

    still : (b : Bool) (client : Client) → (if b then record client { is_handed = false } else client).at ≡ client.at
    still true client = refl
    still false client = refl

    crash_owners : OwnersAt o after
    crash_owners = subst (λ (b : BookValue). (tid : Tid) (tx : TransactionValue) → find_transaction b tid ≡ Some tx → HasOwner b tx) (sym (book_on o world after (entry ∷ []) refl)) (λ tid tx found. j.owners tid tx found)

    crash_logged : LoggedAt after
    crash_logged k low tid among = by (k == n) refl
      where
        had : (i : ℕ) → i ≡ k → is_among (recovery (world.hosts i).log).committed tid ≡ true
        had i same = j.logged i (subst (λ (x : ℕ). x < world.size) (sym same) low) tid (subst (λ (x : ℕ). is_among (world.hosts x).node.committed tid ≡ true) (sym same) (subst (λ (m : NodeValue). is_among m.committed tid ≡ true) (node_stopped world n stamp cause log k) among))

        by : (b : Bool) → (k == n) ≡ b → is_among (recovery (if b then stopped_host stamp log (world.hosts n) else world.hosts k).log).committed tid ≡ true
        by true near = longer tid (had n (sym (eqb-true k n near)))
        by false far = had k refl

    crash_clocks : ClocksAt after
    crash_clocks k low = subst (λ (m : NodeValue). m.manager.ticks ≤ (after.hosts k).stamp) (sym (node_stopped world n stamp cause log k)) (by (k == n) refl)
      where
        by : (b : Bool) → (k == n) ≡ b → (world.hosts k).node.manager.ticks ≤ (if b then stopped_host stamp log (world.hosts n) else world.hosts k).stamp
        by true near = subst (λ (i : ℕ). (world.hosts i).node.manager.ticks ≤ stamp) (sym (eqb-true k n near)) (le_le (world.hosts n).node.manager.ticks (world.hosts n).stamp stamp (j.clocks n (subst (λ (i : ℕ). i < world.size) (eqb-true k n near) low)) (in_order_stamp world n stamp ordered))
        by false far = j.clocks k low

    crash_owing : OwesAt after
    crash_owing k low on = by (k == n) refl on
      where
        by : (b : Bool) → (k == n) ≡ b → (if b then false else world.channels.up k) ≡ true → Owes (after.hosts k).node after.journal
        by true near off = absurd (cc off)
        by false far runs = subst (λ (m : NodeValue). Owes m after.journal) (sym (node_stopped world n stamp cause log k))
            (owes_on k (world.hosts k).node (j.held.nodes k low).node world.journal (entry ∷ []) (by_one k n far (world.hosts k).node entry refl tt) (j.owing k low runs))

    known : Known o world after
    known = record {
      size = refl;
      lawful = crash_lawful;
      held = subst (λ (b : BookValue). HoldsWorld b after) (sym (book_on o world after (entry ∷ []) refl)) crashed.holds;
      facts = λ k low. subst HasNodeFacts (sym (node_stopped world n stamp cause log k)) (j.facts k low);
      running = crash_running;
      homes = crash_homes;
      owners = crash_owners;
      logged = crash_logged;
      clocks = crash_clocks;
      channels = channels_later o world after (entry ∷ []) j.opens refl crash_lawful world.size after.channels (channels_moved book world.size (channel.Crash n) world.channels tt j.channels);
      unmet = j.unmet;
      queued = λ k low tid server none. subst (λ (m : NodeValue). waiting_at m tid server ≡ []) (sym (node_stopped world n stamp cause log k))
          (j.queued k low tid server (none_before (entry ∷ []) book (lasts_now o world j.opens j.lawful) crashed.lawful tid (subst (λ (b : BookValue). find_transaction b tid ≡ None) (book_on o world after (entry ∷ []) refl) none)));
      ways = subst (λ (b : BookValue). HoldsWays b after) (sym (book_on o world after (entry ∷ []) refl)) (crash_ways book world n stamp cause log j.ways);
      clients = λ k low client command there. let i = j.clients k low client command (subst (λ (m : NodeValue). lookup (is_at (client_cmp client)) m.commands ≡ Some command) (node_stopped world n stamp cause log k) there) in
          record { small = i.small; at = still ((world.clients client.0).at == n) (world.clients client.0) ∙ i.at };
      owing = crash_owing;
      scripts = subst (λ (b : BookValue). HoldsScripts o b after) (sym (book_on o world after (entry ∷ []) refl)) (crash_scripts o book world n stamp cause log j.scripts);
    }

    pub crash_joined : (IsLawful (book_of o) (moved move world).journal → P o (moved move world)) → Joined P o (moved move world)
    crash_joined places = then_joined P steps unanimous o world j move may so (places so.lawful)
      where
        so : Known o world (moved move world)
        so = subst (λ (w : World). Known o world w) (sym is) known
