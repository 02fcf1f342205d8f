-- A home that is ready at the turn of a transaction is shown there by a machine, beside the other nodes as they were: so where all places hold what they should, its commit is unanimous.
use Rattle.qs_world_runs.proofs.Words.{◌≡◌, ◌⊎◌, ℕ, ◌<◌, ◌==◌, Bool, true, false, List, [], ◌∷◌, ◌++◌, fold, Some, None, refl, sym, ap, subst, ◌∙◌, append_assoc, eqb-true, Tid, same_node, Act, BookValue, find_transaction, book_after, TransactionValue, is_unanimous, due_tids, may_answer, pass_rule, settle, settle_tid, try, Work, effects_of, step_work, wait_on, waiting_clients, Event, Participant, opened_from, Source, taken_by, entries_of, Opening, World, IsDoomed, doom_stays, taken_scene}
use Rattle.qs_world_runs.proofs.Words.{Scene, same_flag, up_taken, known_sound, InRun, AtEach, done_work, HoldsStill, opens_soundly, still_held, MakesStep, nodes_in, Joined, book_in, CommitsSettled, PlacedOf, PlacesAt, Field, field_of, OpenPlaced, Here, PlacedAmid, book_amid, IsBeside, taken, Extends, AreLawful, IsReadyAt, ShownAt}
use Rattle.qs_book_machine.specs.Lawful.{IsLawful}
use Rattle.qs_node_step.specs.State.{NodeValue, part_of}
use Rattle.qs_world_agree.specs.World as machine
use Rattle.qs_world_refine.specs.Stands as shown
use Rattle.qs_world_lawful.specs.Amid.{GoesOn}
use Rattle.qs_world_lawful.specs.Holds.{Holds}
use Rattle.qs_world_lawful.specs.Standing.{Stands}
use Rattle.qs_world_lawful.proofs.BesideCommands.{goes_wait}
use Rattle.qs_world_lawful.proofs.BesideGoes.{goes_fold}
use Rattle.qs_world_runs.specs.PlacesCommits.{ShowsField}
use Rattle.qs_world_runs.specs.PlacesTurns.{BeganAtTurn, IsPlacedThere, PlacedAtTurn, PlacedSettles, SettledBy}
use Rattle.qs_world_runs.proofs.CommitsAmid.{home_commits, world_shows_field}
use Rattle.qs_world_runs.proofs.LeftSteps.{rest_leaves, settle_leaves}
use Rattle.qs_world_runs.proofs.OthersBeside.{others_beside}
use Rattle.qs_world_runs.proofs.PlacesGo.{beside, extends_of, extends_then, is_beside}
use Rattle.qs_world_runs.proofs.PlacesJoined.{held_here}
use Rattle.qs_world_runs.proofs.PlacesLeft.{itself_leaves}
use Rattle.qs_world_runs.proofs.TurnsBegan.{turns_began}
use Rattle.qs_world_runs.proofs.TurnsSettle.{turns_settle}

-- ---- the home is the node in its step

abbrev CommitsAt : Tid → Scene → Field → ℕ → BookValue → Work → Participant → machine.World → TransactionValue → ℕ → Type 0
CommitsAt t scene base stamp before work part v tx n = shown.Stands t scene n work v → ShowsField t scene base → IsDoomed v ⊎ PlacedAmid t base (scene.knows n) n stamp before work
    → ((k : ℕ) → k < scene.size → scene.up k ≡ true → (k == n) ≡ false → IsBeside scene (book_amid n stamp before work) k) → HoldsStill (book_amid n stamp before work) work.node
    → part_of t work ≡ Some part → part.outcome ≡ None → may_answer t part work ≡ true → find_transaction (book_amid n stamp before work) t ≡ Some tx → is_unanimous tx ≡ true

commits_at : (t : Tid) (scene : Scene) (base : Field) (stamp : ℕ) (before : BookValue) (work : Work) (part : Participant) (v : machine.World) (tx : TransactionValue) (n : ℕ) → t.home.0 ≡ n → CommitsAt t scene base stamp before work part v tx n
commits_at t scene base stamp before work part v tx n at = subst (CommitsAt t scene base stamp before work part v tx) at (home_commits t scene base stamp before work part v tx)

-- ---- what is entered behind a turn

settled_extends : (tids : List Tid) (work : Work) → Extends work (fold settle_tid work tids)
settled_extends [] work = extends_of (record { home = record { 0 = 0 }; inc = 0; seq = 0 }) work work (itself_leaves (record { home = record { 0 = 0 }; inc = 0; seq = 0 }) work)
settled_extends (tid ∷ tids) work = extends_then work (settle_tid work tid) (fold settle_tid work (tid ∷ tids)) (extends_of (beside tid) work (settle_tid work tid) (settle_leaves (beside tid) tid (is_beside tid) work)) (settled_extends tids (settle_tid work tid))

turn_extends : (tid : Tid) (tids : List Tid) (work : Work) → Extends (try tid pass_rule work) (fold settle_tid work (tid ∷ tids))
turn_extends tid tids work = extends_then (try tid pass_rule work) (settle_tid work tid) (fold settle_tid work (tid ∷ tids)) (extends_of tid (try tid pass_rule work) (settle_tid work tid) (rest_leaves tid tid (try tid pass_rule work))) (settled_extends tids (settle_tid work tid))

module _ (o : Opening) (world : World) (j : Joined PlacesAt o world) (n stamp free : ℕ) (source : Source) (event : Event) (makes : MakesStep world n stamp source event) where
  abbrev before : BookValue
  before = book_in o world

  abbrev node : NodeValue
  node = (world.hosts n).node

  abbrev done : Work
  done = done_work node event free

  abbrev last : Work
  last = step_work node event free

  run : InRun before
  run = record { opened = opened_from o 0 o.size; history = world.journal; coherent = opens_soundly o j.opens; lawful = j.lawful; is = refl }

  waits : GoesOn stamp before (settle done) last
  waits = goes_fold stamp before run wait_on (goes_wait stamp before run) (waiting_clients (settle done)) (settle done)

  -- ---- at a turn

  module _ (work : Work) (tid : Tid) (more : List Act) (whole : (effects_of node event free).entries ≡ (try tid pass_rule work).out.entries ++ more) (began : BeganAtTurn o world n stamp work tid) (placed : PlacedAtTurn o world n stamp source work tid)
      (s : Stands stamp before world.size (nodes_in world) n (try tid pass_rule work)) where
    abbrev now : Work
    now = try tid pass_rule work

    lawful : AreLawful n stamp before now
    lawful = subst (λ (k : ℕ). IsLawful before (entries_of k stamp now.out.entries)) s.by.at s.held.lawful

    holds : HoldsStill (book_amid n stamp before now) now.node
    holds = still_held stamp (book_amid n stamp before now) now.node (subst (λ (k : ℕ). Holds stamp (book_after before (entries_of k stamp now.out.entries)) now.node) s.by.at s.held.holds)

    module _ (ready : IsReadyAt work tid) (tx : TransactionValue) (found : find_transaction (book_amid n stamp before now) tid ≡ Some tx) where
      p : PlacedOf tid o world
      p = j.places tid (began s ready)

      abbrev there : IsPlacedThere o world n stamp source work tid p.machine
      there = placed ready (began s ready) p.machine p.shows

      abbrev at : ShownAt world n source tid p.machine now
      at = there.at

      home_is : tid.home.0 ≡ n
      home_is = eqb-true tid.home.0 now.node.setting.node.0 (flag ready.part.engage.home (same_node tid.home now.node.setting.node) ready.home (known_sound tid now.node ready.part ready.known at.stands.sound).homed) ∙ s.by.at
        where
          flag : (a b : Bool) → a ≡ true → same_flag a b ≡ true → b ≡ true
          flag true b is so = so
          flag false b is so = absurd (cc is)

      held : IsDoomed at.now ⊎ Here tid (OpenPlaced tid (field_of world)) before
      held = held_here tid before (field_of world) (IsDoomed at.now) p.machine (λ doomed. doom_stays p.machine at.now doomed at.leads) p.placed

      others : (k : ℕ) → k < world.size → (taken_by world n source).up k ≡ true → (k == n) ≡ false → IsBeside (taken_scene world n source) (book_amid n stamp before now) k
      others k low up far = let up_then : world.channels.up k ≡ true = ap (λ (f : ℕ → Bool). f k) (sym (up_taken world n source)) ∙ up in
          others_beside o world n stamp free source event j makes now more whole lawful k low up_then far

      unanimous : is_unanimous tx ≡ true
      unanimous = commits_at tid (taken_scene world n source) (field_of (taken world n source)) stamp before now ready.part at.now tx n home_is
          at.stands (world_shows_field tid (taken world n source)) (there.placed lawful held) others holds ready.known ready.open_now ready.may found

    settled : CommitsSettled stamp before work tid
    settled part known open_now home may quiet tx found =
        unanimous (record { part = part; known = known; open_now = open_now; home = home; may = may; quiet = quiet }) tx (subst (λ (k : ℕ). find_transaction (book_after before (entries_of k stamp now.out.entries)) tid ≡ Some tx) s.by.at found)

  -- ---- from turn to turn

  turns : (tids : List Tid) (work : Work) → fold settle_tid work tids ≡ settle done → AtEach (BeganAtTurn o world n stamp) settle_tid work tids → AtEach (PlacedAtTurn o world n stamp source) settle_tid work tids
      → AtEach (SettledBy stamp before world.size (nodes_in world) n) settle_tid work tids
  turns [] work is began placed = tt
  turns (tid ∷ tids) work is began placed = (λ s. settled work tid (e.more ++ waits.more) whole began.0 placed.0 s, turns tids (settle_tid work tid) is began.1 placed.1)
    where
      e : Extends (try tid pass_rule work) (fold settle_tid work (tid ∷ tids))
      e = turn_extends tid tids work

      whole : last.out.entries ≡ (try tid pass_rule work).out.entries ++ (e.more ++ waits.more)
      whole = waits.entries ∙ (ap (λ (w : Work). w.out.entries ++ waits.more) (sym is) ∙ (ap (λ (xs : List Act). xs ++ waits.more) e.entries ∙ append_assoc (try tid pass_rule work).out.entries e.more waits.more))

  turns_so : AtEach (PlacedAtTurn o world n stamp source) settle_tid done (due_tids done) → AtEach (SettledBy stamp before world.size (nodes_in world) n) settle_tid done (due_tids done)
  turns_so placed = turns (due_tids done) done refl (turns_began o world n stamp free source event j makes) placed

pub placed_settles : PlacedSettles
placed_settles o world n stamp free source event j makes rooms placed = turns_settle o world n stamp free source event j makes rooms (turns_so o world j n stamp free source event makes placed)
