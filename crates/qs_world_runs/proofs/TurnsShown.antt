-- A machine that shows a transaction before a step leads to one that shows it at its turn, over the channels as the step took what came from them.
use Rattle.qs_world_runs.proofs.Words.{◌≡◌, ℕ, ◌≤◌, ◌<◌, ◌==◌, ◌&&◌, nat_lt, not, Bool, true, false, List, [], ◌∷◌, ◌++◌, Option, Some, None, refl, sym, ap, subst, ◌∙◌, arith, if◌then◌else◌, filter, nat_tests, NodeNo, Tid, Message, Record, recovery, due_tids, pass_rule, settle_tid, try, Work, accept, Event, Participant, Source, World, names_transaction, leads_on, ShowsAll, all_said, taken_scene, face_at, known_place, place, Scene, sent_to, sight, scene_of, IsShownWorld, IsSteady, StepCame}
use Rattle.qs_world_runs.proofs.Words.{step_came, StepMay, step_may, inc_taken, up_taken, settle_tid_goes, shown_fit, known_sound, begun_low, steady_gives, AtEach, done_work, MakesStep, ShownAt}
use Rattle.qs_node_step.specs.Bringing.{is_forced}
use Rattle.qs_node_step.specs.State.{part_of}
use Rattle.qs_world_agree.specs.World as machine
use Rattle.qs_world_refine.specs.Begun.{has_begun}
use Rattle.qs_world_refine.specs.Links.{node_no}
use Rattle.qs_world_refine.specs.Shows.{Shows, sight_during, said_during, unmet_during}
use Rattle.qs_world_refine.specs.Sights.{ShowsSight, is_in_doubt}
use Rattle.qs_world_refine.specs.Sound.{is_superior}
use Rattle.qs_world_refine.specs.Stands.{Stands}
use Rattle.qs_world_refine.specs.StepLaws.{stepped}
use Rattle.qs_world_refine.specs.Steps.{IsAt}
use Rattle.qs_world_refine.proofs.Alike.{SameFace, SameFound, found_itself, same_itself, sight_alike}
use Rattle.qs_world_refine.proofs.Reading.{face_for}
use Rattle.qs_world_refine.proofs.Sending.{said_append}
use Rattle.qs_world_refine.proofs.SettleRules.{pass_stands, try_stands}
use Rattle.qs_world_refine.proofs.SoundParts.{and_both}
use Rattle.qs_world_refine.proofs.StepEdges.{step_ends}
use Rattle.qs_world_runs.specs.PlacesTurns.{FollowsAtTurn, ShownAtTurn, TurnsFollow, TurnsShown}

-- ---- what shows a scene at the end of a step shows it in the middle, where the log has what was forced

during : (tid : Tid) (scene : Scene) (n : ℕ) (work : Work) (w : machine.World) → Shows tid (stepped scene n work (scene.log n ++ filter is_forced work.out.records)) w → ShowsSight tid (sight_during tid scene n work) w
during tid scene n work w shown = sight_alike tid (sight tid (stepped scene n work (scene.log n ++ filter is_forced work.out.records))) (sight_during tid scene n work) w
    (record { size = refl; inc = refl; up = refl; knows = refl; face = λ k. by k (k == n); said = said_is; unmet = unmet_is; found = λ k. found_by k (k == n) }) shown
  where
    by : (k : ℕ) (b : Bool) → SameFace (face_at (if b then accept work.node else scene.node k) tid) (if b then face_at work.node tid else face_at (scene.node k) tid)
    by k true = face_for tid (accept work.node) work.node (record { around = record { setting = refl; waits = λ s. refl; loans = refl; past = refl }; part = refl })
    by k false = same_itself (face_at (scene.node k) tid)

    split : (t : Bool) (list more : List Message) → (if t then all_said tid list ++ all_said tid more else all_said tid list) ≡ all_said tid (if t then list ++ more else list)
    split true list more = sym (said_append tid list more)
    split false list more = refl

    said_is : (a k b l : ℕ) → said_during tid scene n work.out.messages a k b l ≡ all_said tid ((stepped scene n work (scene.log n ++ filter is_forced work.out.records)).pending a k b l)
    said_is a k b l = split ((a == n) && ((k == scene.inc n) && ((l == scene.knows n b) && not (l == 0)))) (scene.pending a k b l) (sent_to b work.out.messages)

    unmet_is : (a b : ℕ) → unmet_during tid scene n work.out.messages a b ≡ all_said tid ((stepped scene n work (scene.log n ++ filter is_forced work.out.records)).unmet a b)
    unmet_is a b = split ((a == n) && (scene.knows n b == 0)) (scene.unmet a b) (sent_to b work.out.messages)

    found_by : (k : ℕ) (b : Bool) → SameFound tid (recovery (if b then scene.log n ++ filter is_forced work.out.records else scene.log k)) (if b then recovery (scene.log n ++ filter is_forced work.out.records) else recovery (scene.log k))
    found_by k true = found_itself tid (recovery (scene.log n ++ filter is_forced work.out.records))
    found_by k false = found_itself tid (recovery (scene.log k))

-- ---- what stands over what came stands over the world as the step took it

module _ (t : Tid) (world : World) (n : ℕ) (source : Source) (later : Scene) (size : later.size ≡ world.size) (inc : later.inc ≡ world.channels.inc) (logs : later.log ≡ (scene_of world).log)
    (taken : (work : Work) (log : List Record) (v : machine.World) → Shows t (stepped later n work log) v → Shows t (stepped (taken_scene world n source) n work log) v)
    (low : n < world.size) (up : world.channels.up n ≡ true) where
  abbrev next : Scene
  next = taken_scene world n source

  module _ (work : Work) (v : machine.World) (s : Stands t later n work v) where
    abbrev log : List Record
    log = later.log n ++ filter is_forced work.out.records

    ended : Shows t (stepped later n work log) v
    ended = step_ends t later n work log v s.shown (record { prepared = λ k. refl; committed = refl; unended = refl; named = λ m. refl })

    there : Shows t (stepped next n work log) v
    there = taken work log v ended

    log_is : log ≡ next.log n ++ filter is_forced work.out.records
    log_is = ap (λ (l : ℕ → List Record). l n ++ filter is_forced work.out.records) logs

    shown_then : ShowsSight t (sight_during t next n work) v
    shown_then = during t next n work v (subst (λ (l : List Record). Shows t (stepped next n work l) v) log_is there)

    inc_is : next.inc n ≡ later.inc n
    inc_is = ap (λ (f : ℕ → ℕ). f n) (inc_taken world n source) ∙ ap (λ (f : ℕ → ℕ). f n) (sym inc)

    up_is : next.up n ≡ true
    up_is = ap (λ (f : ℕ → Bool). f n) (up_taken world n source) ∙ up

    at : IsAt next n work
    at = record { in_run = low; up = up_is; node = s.at.node; nodes = s.at.nodes ∙ size; inc = s.at.inc ∙ sym inc_is }

    -- both are shown by one machine, which says of whom the node knows an incarnation
    knows_still : (m : ℕ) → m < world.size → 1 ≤ later.knows n m → 1 ≤ next.knows n m
    knows_still m in_run some = positive (later.knows n m) (next.knows n m) m some (same (later.inc n) (next.inc n) inc_is
        (s.shown.stage.peers n m s.at.in_run (subst (λ (k : ℕ). m < k) (sym size) in_run) s.at.up) (shown_then.stage.peers n m low in_run up_is))
      where
        same : (i k : ℕ) → k ≡ i → v.peer (place n i) m ≡ known_place m (later.knows n m) → v.peer (place n k) m ≡ known_place m (next.knows n m) → known_place m (later.knows n m) ≡ known_place m (next.knows n m)
        same i k e p q = sym p ∙ (ap (λ (x : ℕ). v.peer (place n x) m) (sym e) ∙ q)

        positive : (a b m : ℕ) → 1 ≤ a → known_place m a ≡ known_place m b → 1 ≤ b
        positive a b m p q = grind (arith, nat_tests, p, q)

    superior_in : (part : Participant) (m : ℕ) → part_of t work ≡ Some part → part.engage.superior ≡ Some (node_no m) → m < world.size
    superior_in part m known is = subst (λ (k : ℕ). m < k) (s.at.nodes ∙ size) (low_of (nat_lt m work.node.setting.nodes) refl
        (and_both (nat_lt m work.node.setting.nodes) _ (and_both (nat_lt m work.node.setting.nodes && _) _ (and_both (not part.engage.home) _ sound).1).0).0)
      where
        sound : (not part.engage.home && is_superior work.node part.engage.last_superior (node_no m)) ≡ true
        sound = subst (λ (o : Option NodeNo). (elim o [ None ↦ true | Some superior ↦ not part.engage.home && is_superior work.node part.engage.last_superior superior ]) ≡ true) is (known_sound t work.node part known s.sound).superior

        low_of : (b : Bool) → nat_lt m work.node.setting.nodes ≡ b → b ≡ true → m < work.node.setting.nodes
        low_of b is so = let on : nat_lt m work.node.setting.nodes ≡ true = is ∙ so in grind (arith, nat_tests, on)

    pub stands_taken : Stands t next n work v
    stands_taken = record {
      at = at;
      home_in = subst (λ (k : ℕ). t.home.0 < k) size s.home_in;
      sound = s.sound;
      kinds = s.kinds;
      lawful = s.lawful;
      shown = shown_then;
      clear = λ none k. subst (λ (l : ℕ → List Record). is_in_doubt t k (if n == n then recovery (l n ++ filter is_forced work.out.records) else recovery (l n)) ≡ false) logs (s.clear none k);
      superior = λ part m known is. knows_still m (superior_in part m known is) (s.superior part m known is);
    }

-- ---- from turn to turn, from what is done of what came

module _ (world : World) (n free : ℕ) (source : Source) (event : Event) where
  abbrev done : Work
  done = done_work (world.hosts n).node event free

  -- what shows it there leads to what shows it here
  abbrev Follows : Work → Type 0
  Follows work = (t : Tid) (u : machine.World) → Stands t (taken_scene world n source) n done u → ShownAt world n source t u work

  on_settling : (work : Work) (tid : Tid) → Follows work → Follows (settle_tid work tid)
  on_settling work tid follows t u stands = by (follows t u stands)
    where
      by : ShownAt world n source t u work → ShownAt world n source t u (settle_tid work tid)
      by s = let goes = settle_tid_goes t tid (taken_scene world n source) n work s.now s.stands in record { now = goes.next; leads = leads_on u s.now goes.next s.leads goes.leads; stands = goes.stands }

  at_turn : (work : Work) (tid : Tid) → Follows work → FollowsAtTurn world n free source event work tid
  at_turn work tid follows u stands = by (follows tid u stands)
    where
      by : ShownAt world n source tid u work → ShownAt world n source tid u (try tid pass_rule work)
      by s = let goes = try_stands tid (taken_scene world n source) n pass_rule (pass_stands tid (taken_scene world n source) n) work s.now s.stands in
          record { now = goes.next; leads = leads_on u s.now goes.next s.leads goes.leads; stands = goes.stands }

  turns : (tids : List Tid) (work : Work) → Follows work → AtEach (FollowsAtTurn world n free source event) settle_tid work tids
  turns [] work follows = tt
  turns (tid ∷ tids) work follows = (at_turn work tid follows, turns tids (settle_tid work tid) (on_settling work tid follows))

pub turns_follow : TurnsFollow
turns_follow world n free source event = turns world n free source event (due_tids (done_work (world.hosts n).node event free)) (done_work (world.hosts n).node event free)
    (λ t u stands. record { now = u; leads = record { events = []; run = refl }; stands = stands })

-- ---- and from the step's beginning

module _ (world : World) (is : IsShownWorld world) (n stamp free : ℕ) (source : Source) (event : Event) (makes : MakesStep world n stamp source event) where
  abbrev its : StepMay world n source
  its = step_may world n stamp source makes.may

  steady : IsSteady world
  steady = steady_gives world is.steady is.listed

  home_low : (t : Tid) → has_begun world t ≡ true → t.home.0 < world.size
  home_low t began = let there : nat_lt t.home.0 world.size ≡ true = (and_both (nat_lt t.home.0 world.size) _ (and_both (names_transaction t) _ began).1).0 in grind (arith, nat_tests, there)

  -- what is shown to come is shown once it is done
  abbrev pub came_shown : (t : Tid) (w : machine.World) → StepCame t world n free source event w → ShownAt world n source t w (done_work (world.hosts n).node event free)
  came_shown t w came = record {
    now = came.came.after.next;
    leads = leads_on w came.came.mid came.came.after.next came.came.leads came.came.after.leads;
    stands = stands_taken t world n source came.later came.size came.inc came.log came.taken its.low its.runs (done_work (world.hosts n).node event free) came.came.after.next came.came.after.stands;
  }

  -- so is each that has begun
  shown_done : (t : Tid) → has_begun world t ≡ true → (w : machine.World) → ShowsAll t world w → ShownAt world n source t w (done_work (world.hosts n).node event free)
  shown_done t began w all = came_shown t w (step_came t world w steady (home_low t began) (begun_low world t began) all (shown_fit world is) n free its.low its.runs stamp source event its.serves makes.comes)

  begun_turns : (tids : List Tid) (work : Work) → AtEach (FollowsAtTurn world n free source event) settle_tid work tids → AtEach (ShownAtTurn world n source) settle_tid work tids
  begun_turns [] work follow = tt
  begun_turns (tid ∷ tids) work follow = (λ began w all. by w (shown_done tid began w all), begun_turns tids (settle_tid work tid) follow.1)
    where
      by : (w : machine.World) → ShownAt world n source tid w (done_work (world.hosts n).node event free) → ShownAt world n source tid w (try tid pass_rule work)
      by w d = let s = follow.0 d.now d.stands in record { now = s.now; leads = leads_on w d.now s.now d.leads s.leads; stands = s.stands }

pub turns_shown : TurnsShown
turns_shown world n stamp free source event is makes = begun_turns world is n stamp free source event makes (due_tids (done_work (world.hosts n).node event free)) (done_work (world.hosts n).node event free) (turns_follow world n free source event)
