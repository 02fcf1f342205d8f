-- At each stage of a step nothing is committed of which a request comes, or a loan stands; and so it is from stage to stage.
use Rattle.qs_world_runs.proofs.Words.{◌≡◌, ℕ, ◌<◌, ◌||◌, Bool, true, false, List, [], ◌∷◌, Some, refl, sym, ap, subst, arith, nat_lt, if◌then◌else◌, list_all, list_any, nat_tests, same_tid, ClientNo, Tid, is_standing_loan, Lent, Message, names_transaction, is_lent, settle_tid, Work, wait_on, Event, Clock, Commanded, Handed, Noticed, Queues, Source, event_of, next_parcel, Parcel, World, Committed, scene_of, IsShownWorld, commands_in_run, MachineGives, IsTidy, Stage, from_client, from_node}
use Rattle.qs_world_runs.proofs.Words.{from_notice, same_is, wait_carries, ComesFit, tidy_keeps, tidy_reads, MakesStep, nodes_in, same_Some}
use Rattle.qs_packet.specs.declared.message.Message.TheVariants as messages
use Rattle.qs_node_step.specs.declared.event.Event.TheVariants as events
use Rattle.qs_world_agree.specs.World as machine
use Rattle.qs_world_refine.specs.Begun.{has_begun}
use Rattle.qs_world_refine.specs.Links.{Requested, node_no}
use Rattle.qs_world_refine.specs.Messages.{said}
use Rattle.qs_world_refine.specs.TakenLaws.{rest_behind}
use Rattle.qs_world_refine.specs.Tidy.{is_tidy_loan}
use Rattle.qs_world_refine.proofs.EachMay.{is_next}
use Rattle.qs_world_refine.proofs.Heads.{no_request}
use Rattle.qs_world_refine.proofs.SoundParts.{and_both}
use Rattle.qs_world_refine.proofs.SoundSettle.{settle_tid_sound}
use Rattle.qs_world_refine.proofs.WalkSettles.{settle_tid_walk}
use Rattle.qs_world_lawful.specs.Agreed.{AgreesEvent, AgreesMessage, AreLentUndone, IsUndone}
use Rattle.qs_world_runs.specs.Agrees.{EventAgrees}
use Rattle.qs_world_runs.proofs.AgreesEach.{AllFollow, all_first, came_to, fit, gives, low, steady, up}
use Rattle.qs_world_runs.proofs.AgreesFirst.{Follows, first_stage}
use Rattle.qs_world_runs.proofs.AgreesFollow.{after_settling, after_waiting}
use Rattle.qs_world_runs.proofs.AgreesOpen.{none_lent}
use Rattle.qs_world_runs.proofs.AgreesStage.{AtStage, undone}
use Rattle.qs_world_runs.proofs.AgreesWaits.{wait_on_walk}
use Rattle.qs_world_runs.proofs.JoinedSound.{lent_known}

-- ---- what is lent has begun

lent_begun : (c : Stage) (t : Tid) (inc : ℕ) (loans : List Lent) → list_all (is_tidy_loan c) loans ≡ true → list_any (is_standing_loan t inc) loans ≡ true → c.begun t ≡ true
lent_begun c t inc [] all is = absurd (cc (is))
lent_begun c t inc (loan ∷ rest) all is = by (is_standing_loan t inc loan) refl is (lent_begun c t inc rest both.1)
  where
    both : (is_tidy_loan c loan ≡ true) × (list_all (is_tidy_loan c) rest ≡ true)
    both = and_both (is_tidy_loan c loan) (list_all (is_tidy_loan c) rest) all

    by : (b : Bool) → is_standing_loan t inc loan ≡ b → (b || list_any (is_standing_loan t inc) rest) ≡ true → (list_any (is_standing_loan t inc) rest ≡ true → c.begun t ≡ true) → c.begun t ≡ true
    by true its so more = subst (λ (u : Tid). c.begun u ≡ true) (sym (same_is t loan.tid (and_both (same_tid t loan.tid) _ its).0)) (and_both (c.begun loan.tid) _ both.0).0
    by false its so more = more so

module _ (world : World) (is : IsShownWorld world) (n stamp free : ℕ) (source : Source) (event : Event) (makes : MakesStep world n stamp source event) where
  abbrev pub Following : Work → Type 0
  Following work = AllFollow world is n stamp free source event makes work

  -- what a machine that has no commit says of the home
  pub its_undone : (work : Work) (t : Tid) (follows : Follows world n work t) → (follows.at.now.cell ≡ Committed → ⊥) → IsUndone world.size (nodes_in world) n work t
  its_undone work t follows never = record {
    in_run = let there = follows.home_in in grind (arith, nat_tests, there);
    undone = undone t world follows.machine is.steady follows.home_in follows.shows n follows.later follows.ends work follows.at never;
  }

  pub lent_undone : (work : Work) → Following work → AreLentUndone world.size (nodes_in world) n work
  lent_undone work all t lent = (lent_known work.node all.sound t lent, its_undone work t follows (λ committed. let none : is_lent t work.node ≡ false = none_lent t follows.later n work follows.at.now follows.at.stands committed in cc (none, lent)))
    where
      follows : Follows world n work t
      follows = all.each t (lent_begun all.stage t work.node.setting.inc work.node.kept.now.loans all.tidy.node.loans lent)

  -- ---- from stage to stage

  pub settles_on : (work : Work) (tid : Tid) → Following work → Following (settle_tid work tid)
  settles_on work tid all = record {
    stage = all.stage;
    is_stage = all.is_stage;
    size = all.size;
    tidy = settle_tid_walk all.stage.past all.stage.begun all.stage.met all.stage.setting.node all.stage.setting.nodes (IsTidy all.stage) (tidy_reads all.stage all.is_stage) (tidy_keeps all.stage all.is_stage) work tid all.sound all.tidy;
    sound = settle_tid_sound work tid all.sound;
    each = λ t on. let f = all.each t on in record { machine = f.machine; home_in = f.home_in; shows = f.shows; later = f.later; ends = f.ends; at = after_settling t world f.machine n f.later f.ends work f.at tid };
  }

  pub waits_on : (work : Work) (client : ClientNo) → commands_in_run work.node ≡ true → Following work → Following (wait_on work client)
  waits_on work client in_run all = record {
    stage = all.stage;
    is_stage = all.is_stage;
    size = all.size;
    tidy = wait_on_walk all.stage.past all.stage.begun all.stage.met all.stage.setting.node all.stage.setting.nodes (IsTidy all.stage) (tidy_reads all.stage all.is_stage) (tidy_keeps all.stage all.is_stage) work client all.tidy;
    sound = (wait_carries work client (all.sound, in_run)).0;
    each = λ t on. let f = all.each t on in record { machine = f.machine; home_in = f.home_in; shows = f.shows; later = f.later; ends = f.ends; at = after_waiting t world f.machine n f.later f.ends work f.at client in_run };
  }

  -- ---- what comes

  abbrev first_of : Work
  first_of = came_to world is n stamp free source event makes

  lent_first : AreLentUndone world.size (nodes_in world) n first_of
  lent_first = lent_undone first_of (all_first world is n stamp free source event makes)

  -- a request of what has begun
  request_undone : (m : ℕ) (parcel : Parcel) → next_parcel world n m ≡ Some parcel → (tid : Tid) (number server : ℕ) → has_begun world tid ≡ true
      → said tid parcel.message ≡ (if same_tid tid tid then Requested number server ∷ [] else []) → IsUndone world.size (nodes_in world) n first_of tid
  request_undone m parcel found tid number server began says = its_undone first_of tid
      (record { machine = w; home_in = home_in; shows = (is.shown tid began).shows; later = scene_of world; ends = false; at = stage })
      (no_request tid (scene_of world) n first_of stage.now stage.stands m (world.channels.peer n m) parcel.message (rest_behind world n m parcel) (is_next world n m parcel (steady world is n stamp free source event makes) found) number server says)
    where
      w : machine.World
      w = (is.shown tid began).machine

      home_in : tid.home.0 < world.size
      home_in = let there : nat_lt tid.home.0 world.size ≡ true = (and_both (nat_lt tid.home.0 world.size) _ (and_both (names_transaction tid) _ began).1).0 in grind (arith, nat_tests, there)

      stage : AtStage tid world w n (scene_of world) false first_of
      stage = first_stage tid world w (steady world is n stamp free source event makes) home_in (is.shown tid began).shows n free (low world is n stamp free source event makes) (up world is n stamp free source event makes)

  on_message : (m : ℕ) (parcel : Parcel) → next_parcel world n m ≡ Some parcel → (message : Message) → parcel.message ≡ message
      → ComesFit world is.steady n free (low world is n stamp free source event makes) (up world is n stamp free source event makes) (events.Received (node_no m) message) → MachineGives (events.Received (node_no m) message) first_of
      → AgreesMessage world.size (nodes_in world) n first_of (node_no m) message
  on_message m parcel found messages.Hello same fits given = tt
  on_message m parcel found (messages.Request tid label member number issuer op) same fits given = request_undone m parcel found tid number member.server.0 (and_both (has_begun world tid) _ fits.1.1).0 (ap (said tid) same)
  on_message m parcel found (messages.Answered tid member number reply) same fits given = tt
  on_message m parcel found (messages.AskVote tid) same fits given = tt
  on_message m parcel found (messages.Covered tid up_to) same fits given = given
  on_message m parcel found (messages.VotedYes tid up_to told) same fits given = given
  on_message m parcel found (messages.VotedAbort tid cause) same fits given = tt
  on_message m parcel found (messages.Tell tid outcome) same fits given = tt
  on_message m parcel found (messages.Told tid further) same fits given = tt
  on_message m parcel found (messages.Inquire tid) same fits given = tt

  came_agrees : AgreesEvent world.size (nodes_in world) n first_of event
  came_agrees = by source makes.comes
    where
      Agrees : Event → Type 0
      Agrees e = AgreesEvent world.size (nodes_in world) n first_of e

      by : (source : Source) → event_of world n stamp source ≡ Some event → Agrees event
      by (Commanded k) comes = let from = from_client world n k event (steady world is n stamp free source event makes) comes in subst Agrees (sym from.is) lent_first
      by (Handed m) comes = let from = from_node world n stamp m event comes in subst Agrees (sym from.is) (on_message m from.parcel from.found from.parcel.message refl
          (subst (λ (e : Event). ComesFit world is.steady n free (low world is n stamp free source event makes) (up world is n stamp free source event makes) e) from.is (fit world is n stamp free source event makes))
          (subst (λ (e : Event). MachineGives e first_of) from.is (gives world is n stamp free source event makes)))
      by Queues comes = subst Agrees (same_Some events.ServeAll event comes) tt
      by Clock comes = subst Agrees (same_Some events.Tick event comes) tt
      by (Noticed m new) comes = let from = from_notice world n stamp m new event comes in subst Agrees (sym from.is) tt

-- ---- what comes in a step is of what is not committed

pub event_agrees : EventAgrees
event_agrees world n stamp free source event is makes = came_agrees world is n stamp free source event makes
