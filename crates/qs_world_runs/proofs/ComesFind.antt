-- Whatever comes in a step finds what it needs, or the transaction is doomed in the machine that shows it then.
use Rattle.qs_world_runs.proofs.Words.{◌≡◌, ◌≢◌, ◌⊎◌, inl, inr, ℕ, ◌+◌, ◌<◌, ◌&&◌, nat_lt, Bool, true, false, List, Some, None, refl, sym, ap, subst, ◌∙◌, arith, if◌then◌else◌, nat_tests, same_tid, Member, ServerNo, Tid, same_node, IpcValue, queue_at, Command, ScriptLine, BookValue, Op, Message, names_transaction, is_dropped, Work, here, work_on, command_came, message_came, Event, Clock, Commanded, Handed, Noticed, Queues, Source, command_of, event_of, next_parcel, Parcel, World, Committed}
use Rattle.qs_world_runs.proofs.Words.{IsDoomed, doom_stays, ShowsAll, taken_scene, scene_of, IsShownWorld, server_no, IsSteady, StepCame, step_came, FromNotice, from_client, from_node, from_notice, StepMay, step_may, shown_fit, same_is, begun_low, steady_gives, done_work, ComesFound, ComesWell, some_not_zero, some_same}
use Rattle.qs_ipc.specs.Ipc as ipc
use Rattle.qs_ipc.specs.Queue.{count_of, is_for}
use Rattle.qs_book_journal.specs.declared.script_line.Command.TheVariants as commands
use Rattle.qs_packet.specs.declared.message.Message.TheVariants as messages
use Rattle.qs_node_step.specs.State.{NodeValue, part_of}
use Rattle.qs_node_step.specs.declared.event.Event.TheVariants as events
use Rattle.qs_world.specs.Moves.{may_serve}
use Rattle.qs_world_agree.specs.World as machine
use Rattle.qs_world_refine.specs.Begun.{has_begun}
use Rattle.qs_world_refine.specs.Links.{node_no}
use Rattle.qs_world_refine.specs.NodeFaces.{waiting_at}
use Rattle.qs_world_refine.specs.ServeWhole.{CanCount}
use Rattle.qs_world_refine.specs.Shows.{handed}
use Rattle.qs_world_refine.specs.Sound.{goes_in_run}
use Rattle.qs_world_refine.specs.SoundSteps.{FitsMessage, begun}
use Rattle.qs_world_refine.specs.Stands.{GoesOn, Stands}
use Rattle.qs_world_refine.specs.Steady.{is_fit_message, is_of_run}
use Rattle.qs_world_refine.specs.Steps.{IsNext}
use Rattle.qs_world_refine.specs.TakenLaws.{rest_behind}
use Rattle.qs_world_refine.proofs.CommandStands.{command_goes}
use Rattle.qs_world_refine.proofs.EachHears.{counts_no_more, first, is_calm, keeps, learnt}
use Rattle.qs_world_refine.proofs.EachMay.{is_fit, is_next}
use Rattle.qs_world_refine.proofs.Heads.{no_request}
use Rattle.qs_world_refine.proofs.MayCount.{can_count}
use Rattle.qs_world_refine.proofs.RequestStands.{request_stands}
use Rattle.qs_world_refine.proofs.Same.{tid_same}
use Rattle.qs_world_refine.proofs.SoundParts.{and_both}
use Rattle.qs_world_refine.proofs.Taken.{handed_taken}
use Rattle.qs_world_runs.specs.ComesFind.{ComesFind, ComesLater, CommandsFind}
use Rattle.qs_world_runs.specs.PlacesWhole.{TakesIn}
use Rattle.qs_world_runs.proofs.DropDooms.{dropped_dooms}
use Rattle.qs_world_runs.proofs.NoticeFinds.{notice_finds}
use Rattle.qs_world_runs.proofs.ServesFind.{ServesFound, all_find, serves_later}
use Rattle.qs_world_runs.proofs.TurnsShown.{stands_taken}

module _ (t : Tid) (world : World) (w : machine.World) (steady : IsSteady world) (is_shown : IsShownWorld world) (home_in : t.home.0 < world.size) (begins : has_begun world t ≡ true) (all : ShowsAll t world w)
    (n stamp free : ℕ) (low : n < world.size) (on : world.channels.up n ≡ true) (before : BookValue) where
  abbrev node : NodeValue
  node = (world.hosts n).node

  abbrev work : Work
  work = begun node free

  stood : GoesOn t (scene_of world) n work w
  stood = first t world w steady home_in all n free low on

  abbrev Found : Source → Event → Type 0
  Found source event = ComesFound t world n stamp free before source event w

  came : (source : Source) (event : Event) → may_serve node source ≡ true → event_of world n stamp source ≡ Some event → StepCame t world n free source event w
  came source event serves comes = step_came t world w steady home_in (begun_low world t begins) all (shown_fit world is_shown) n free low on stamp source event serves comes

  -- as far as the machine goes as the step is shown to go
  by_step : (source : Source) (event : Event) → (c : StepCame t world n free source event w) → ((v : machine.World) → Stands t (taken_scene world n source) n (done_work node event free) v → ComesWell (IsDoomed v) t world n stamp before source event work) → Found source event
  by_step source event c finds = record { came = c; finds = finds c.came.after.next stands }
    where
      stands : Stands t (taken_scene world n source) n (done_work node event free) c.came.after.next
      stands = stands_taken t world n source c.later c.size c.inc c.log c.taken low on (done_work node event free) c.came.after.next c.came.after.stands

  -- ---- a client commands

  commanded : (k : ℕ) (event : Event) → event_of world n stamp (Commanded k) ≡ Some event → CommandsFind t world n stamp free before (Commanded k) event w → Found (Commanded k) event
  commanded k event comes finds = let from = from_client world n k event steady comes in
      subst (λ (e : Event). event_of world n stamp (Commanded k) ≡ Some e → CommandsFind t world n stamp free before (Commanded k) e w → Found (Commanded k) e) (sym from.is) (by from.line from.in_run from.line.command refl) comes finds
    where
      other : (line : ScriptLine) → goes_in_run world.size line.command ≡ true → (line.command ≡ commands.Begin → ⊥) → CommandsFind t world n stamp free before (Commanded k) (command_of line) w → Found (Commanded k) (command_of line)
      other line in_run apart gives = record {
        came = record {
          later = scene_of world;
          size = refl;
          inc = refl;
          log = refl;
          came = record { mid = stood.next; leads = stood.leads; after = goes; ends = false; ended = λ never. absurd (cc never); comes = λ f last leads shown begins. absurd (apart begins) };
          taken = λ done log v shown. shown;
        };
        finds = gives stood.next goes.next stood.leads stood.stands goes.leads goes.stands;
      }
        where
          goes : GoesOn t (scene_of world) n (command_came line work) stood.next
          goes = command_goes t (scene_of world) n line work stood.next (subst (λ (size : ℕ). goes_in_run size line.command ≡ true) (sym stood.stands.at.nodes) in_run) (is_calm t world w steady home_in all n free low on).owned (λ begin. absurd (apart begin)) stood.stands

      by : (line : ScriptLine) → goes_in_run world.size line.command ≡ true → (command : Command) → line.command ≡ command → event_of world n stamp (Commanded k) ≡ Some (command_of line) → CommandsFind t world n stamp free before (Commanded k) (command_of line) w → Found (Commanded k) (command_of line)
      by line in_run commands.Begin is from gives = by_step (Commanded k) (command_of line) (came (Commanded k) (command_of line) refl from) (λ v stands begun member op number named its obeyed asks next. let both : commands.Begin ≡ commands.Request member op = sym is ∙ asks in absurd (cc both))
      by line in_run commands.Commit is from gives = other line in_run (λ begin. cc (is, begin)) gives
      by line in_run commands.Abort is from gives = other line in_run (λ begin. cc (is, begin)) gives
      by line in_run commands.Take is from gives = other line in_run (λ begin. cc (is, begin)) gives
      by line in_run commands.Yield is from gives = other line in_run (λ begin. cc (is, begin)) gives
      by line in_run (commands.Request member op) is from gives = other line in_run (λ begin. cc (is, begin)) gives

  -- ---- a message

  module _ (m : ℕ) (parcel : Parcel) (found : next_parcel world n m ≡ Some parcel) where
    abbrev it : ℕ
    it = world.channels.peer n m

    abbrev rest : List Message
    rest = rest_behind world n m parcel

    abbrev Comes : Message → Type 0
    Comes message = event_of world n stamp (Handed m) ≡ Some (events.Received (node_no m) message) → IsNext (scene_of world) n m it message rest → is_fit_message world.size m n message ≡ true → FitsMessage (node_no m) message work
        → Found (Handed m) (events.Received (node_no m) message)

    -- a request of it
    own : (label : List ℕ) (member : Member) (number : ℕ) (issuer : ServerNo) (op : Op) → Comes (messages.Request t label member number issuer op)
    own label member number issuer op from next fit fits = record {
      came = record {
        later = handed (scene_of world) m it n rest;
        size = refl;
        inc = refl;
        log = refl;
        came = record { mid = stood.next; leads = stood.leads; after = goes; ends = false; ended = λ never. absurd (cc never); comes = λ f last leads shown. tt };
        taken = λ done log v shown. handed_taken t world n m parcel done log v found shown;
      };
      finds = λ about. (its_own, taken_in (is_dropped (same_node t.home (here work)) (part_of t work)) refl);
    }
      where
        its_own : is_for member.server op ≡ true
        its_own = (and_both (is_of_run world.size t) (is_for member.server op) fit).1

        goes : GoesOn t (handed (scene_of world) m it n rest) n (message_came (node_no m) (messages.Request t label member number issuer op) work) stood.next
        goes = request_stands t (scene_of world) n m it number label member issuer op rest work stood.next next its_own fits stood.stands

        undecided : stood.next.cell ≢ Committed
        undecided = no_request t (scene_of world) n work stood.next stood.stands m it (messages.Request t label member number issuer op) rest next number member.server.0 refl

        doomed : is_dropped (same_node t.home (here work)) (part_of t work) ≡ true → IsDoomed stood.next
        doomed drops = dropped_dooms t (scene_of world) n work stood.next stood.stands (learnt t world w steady home_in all n free low on stood.next stood.leads (scene_of world) refl refl stood.stands)
            (counts_no_more t world w steady home_in all n free low on stood.next stood.leads (scene_of world) refl refl stood.stands (begun_low world t begins)).kept undecided drops

        taken_in : (b : Bool) → is_dropped (same_node t.home (here work)) (part_of t work) ≡ b → IsDoomed goes.next ⊎ (is_dropped (same_node t.home (here work)) (part_of t work) ≡ false)
        taken_in true drops = inl (doom_stays stood.next goes.next (doomed drops) goes.leads)
        taken_in false keeps_it = inr keeps_it

    -- whatever else asks for nothing
    quietly : (message : Message) → ((D : machine.World) → ComesWell (IsDoomed D) t world n stamp before (Handed m) (events.Received (node_no m) message) work) → Comes message
    quietly message asks from next fit fits = by_step (Handed m) (events.Received (node_no m) message) (came (Handed m) (events.Received (node_no m) message) refl from) (λ v stands. asks v)

    of_message : (message : Message) → Comes message
    of_message messages.Hello = quietly messages.Hello (λ v. tt)
    of_message (messages.Answered tid member number reply) = quietly (messages.Answered tid member number reply) (λ v. tt)
    of_message (messages.AskVote tid) = quietly (messages.AskVote tid) (λ v. tt)
    of_message (messages.Covered tid up_to) = quietly (messages.Covered tid up_to) (λ v. tt)
    of_message (messages.VotedYes tid up_to told) = quietly (messages.VotedYes tid up_to told) (λ v. tt)
    of_message (messages.VotedAbort tid cause) = quietly (messages.VotedAbort tid cause) (λ v. tt)
    of_message (messages.Tell tid outcome) = quietly (messages.Tell tid outcome) (λ v. tt)
    of_message (messages.Told tid further) = quietly (messages.Told tid further) (λ v. tt)
    of_message (messages.Inquire tid) = quietly (messages.Inquire tid) (λ v. tt)
    of_message (messages.Request tid label member number issuer op) = by (same_tid t tid) refl
      where
        by : (b : Bool) → same_tid t tid ≡ b → Comes (messages.Request tid label member number issuer op)
        by true same = subst (λ (u : Tid). Comes (messages.Request u label member number issuer op)) (same_is t tid same) (own label member number issuer op)
        by false apart = quietly (messages.Request tid label member number issuer op) (λ v about. let itself : same_tid t tid ≡ true = ap (λ (u : Tid). same_tid t u) about ∙ tid_same t in absurd (cc (apart, itself)))

  handed_up : (m : ℕ) (event : Event) → event_of world n stamp (Handed m) ≡ Some event → Found (Handed m) event
  handed_up m event comes = let from = from_node world n stamp m event comes in
      subst (λ (e : Event). event_of world n stamp (Handed m) ≡ Some e → Found (Handed m) e) (sym from.is)
      (λ same. of_message m from.parcel from.found from.parcel.message same (is_next world n m from.parcel steady from.found) (is_fit world n m from.parcel steady from.found) (shown_fit world is_shown n m free from.parcel low on from.found)) comes

  -- ---- what waits is served

  can_count_now : may_serve node Queues ≡ true → CanCount t work
  can_count_now serves = by node.is_first refl
    where
      by : (b : Bool) → node.is_first ≡ b → CanCount t work
      by true early = λ part s known below waits. absurd (some_not_zero (waiting_at work.node t s) waits (ap (λ (queues : IpcValue). count_of t (queue_at queues (server_no s)).waiting) (keeps t world w steady home_in all n free low on).queues ∙ (steady.nodes n low on).idle early t s))
      by false further = subst (λ (k : Work). CanCount t k) (sym (picked node.is_first further)) (can_count t node free serves)
        where
          picked : (b : Bool) → b ≡ false → (if b then Rattle.std.proofs.Common.fold Rattle.qs_node_step.specs.Restarts.resume_tid (Rattle.qs_node_step.specs.State.with_node (λ node. record node { is_first = false }) (work_on node free)) (Rattle.qs_node_step.specs.Restarts.known_tids (work_on node free)) else work_on node free) ≡ work_on node free
          picked b is = rw is refl

  served : may_serve node Queues ≡ true → Found Queues events.ServeAll
  served serves = by (all_find t (scene_of world) n (ipc.turns work.node.queues) work stood.next (can_count_now serves) stood.stands)
    where
      by : ServesFound t (scene_of world) n (ipc.turns work.node.queues) work stood.next → Found Queues events.ServeAll
      by found = record {
        came = record {
          later = scene_of world;
          size = refl;
          inc = refl;
          log = refl;
          came = record { mid = stood.next; leads = stood.leads; after = record { next = found.now; leads = found.leads; stands = found.stands }; ends = false; ended = λ never. absurd (cc never); comes = λ f last leads shown. tt };
          taken = λ done log v shown. shown;
        };
        finds = found.finds;
      }

  -- ---- another node restarted

  noticed : (m new : ℕ) (event : Event) → event_of world n stamp (Noticed m new) ≡ Some event → Found (Noticed m new) event
  noticed m new event comes = let from = from_notice world n stamp m new event comes in
      subst (λ (e : Event). event_of world n stamp (Noticed m new) ≡ Some e → Found (Noticed m new) e) (sym from.is) (by from) comes
    where
      by : FromNotice world n m new event → event_of world n stamp (Noticed m new) ≡ Some (events.PeerRestarted (node_no m) (world.channels.peer n m) new) → Found (Noticed m new) (events.PeerRestarted (node_no m) (world.channels.peer n m) new)
      by from same = by_step (Noticed m new) (events.PeerRestarted (node_no m) (world.channels.peer n m) new) (came (Noticed m new) (events.PeerRestarted (node_no m) (world.channels.peer n m) new) refl same)
          (λ v stands. notice_finds t world n m new (steady.peers n m from.known).0 (steady.peers n m from.known).1 from.known from.later from.begun (done_work node (events.PeerRestarted (node_no m) (world.channels.peer n m) new) free) v stands stamp free before)

  -- ---- whatever it is

  pub comes_found : (source : Source) (event : Event) → may_serve node source ≡ true → event_of world n stamp source ≡ Some event → CommandsFind t world n stamp free before source event w → Found source event
  comes_found (Commanded k) event serves comes finds = commanded k event comes finds
  comes_found (Handed m) event serves comes finds = handed_up m event comes
  comes_found Queues event serves comes finds = subst (λ (e : Event). Found Queues e) (some_same comes) (served serves)
  comes_found Clock event serves comes finds = subst (λ (e : Event). Found Clock e) (some_same comes) (by_step Clock events.Tick (came Clock events.Tick refl refl) (λ v stands. tt))
  comes_found (Noticed m new) event serves comes finds = noticed m new event comes

pub comes_find : ComesFind
comes_find t world n stamp free before source event w is makes begins all finds =
    let its : StepMay world n source = step_may world n stamp source makes.may in
    comes_found t world w (steady_gives world is.steady is.listed) is (home_low (nat_lt t.home.0 world.size) refl (and_both (nat_lt t.home.0 world.size) _ (and_both (names_transaction t) _ begins).1).0) begins all n stamp free its.low its.runs before source event its.serves makes.comes finds
  where
    home_low : (b : Bool) → nat_lt t.home.0 world.size ≡ b → b ≡ true → t.home.0 < world.size
    home_low b is so = let there : nat_lt t.home.0 world.size ≡ true = is ∙ so in grind (arith, nat_tests, there)

-- ---- what dooms it then dooms it later

module _ (D E : Type 0) (f : D → E) (t : Tid) (world : World) (n stamp : ℕ) (before : BookValue) (source : Source) where
  either : {A : Type 0} → D ⊎ A → E ⊎ A
  either (inl x) = inl (f x)
  either (inr a) = inr a

  takes_later : (at : Work) (message : Message) → TakesIn D t at message → TakesIn E t at message
  takes_later at messages.Hello takes = tt
  takes_later at (messages.Request tid label member number issuer op) takes = λ about. ((takes about).0, either (takes about).1)
  takes_later at (messages.Answered tid member number reply) takes = tt
  takes_later at (messages.AskVote tid) takes = tt
  takes_later at (messages.Covered tid up_to) takes = tt
  takes_later at (messages.VotedYes tid up_to told) takes = tt
  takes_later at (messages.VotedAbort tid cause) takes = tt
  takes_later at (messages.Tell tid outcome) takes = tt
  takes_later at (messages.Told tid further) takes = tt
  takes_later at (messages.Inquire tid) takes = tt

  later : (event : Event) (at : Work) → ComesWell D t world n stamp before source event at → ComesWell E t world n stamp before source event at
  later (events.Command client line label command) at finds = λ begun member op number named its obeyed asks next. either (finds begun member op number named its obeyed asks next)
  later (events.Received peer message) at finds = takes_later at message finds
  later events.ServeAll at finds = serves_later t D E f (ipc.turns at.node.queues) at finds
  later (events.PeerRestarted peer old new) at finds = either finds
  later events.Tick at finds = tt

pub comes_later : ComesLater
comes_later w v t world n stamp before source event work leads finds = later (IsDoomed w) (IsDoomed v) (λ doomed. doom_stays w v doomed leads) t world n stamp before source event work finds
