-- After a whole step the machine has the whole world: its own node by the step, the others as the step leaves them.
use Rattle.qs_world_runs.proofs.Words.{◌≡◌, ℕ, ◌<◌, ◌==◌, Bool, true, false, List, [], ◌∷◌, ◌++◌, Option, Some, None, refl, sym, ap, subst, ◌∙◌, arith, nat_lt, if◌then◌else◌, eqb-true, nat_tests, slice_get, Act, Entry, ran_run, after_both, BookValue, book_after, Message, Recovery, recovery, after_step, effects_of, Event, Sending, Setting, book_of, opened_from, Clock, Commanded, Handed, Noticed, Queues, Source, event_of, hand_next, log_after, step_with, stepped_host, taken_by, waiting_after}
use Rattle.qs_world_runs.proofs.Words.{entries_of, next_parcel, Host, Opening, Parcel, World, inc_of, from_client, from_node, from_notice, inc_taken, up_taken, inc_all, up_all, steady_gives, InRun, AnswersElsewhere, IsAside, IsOfStep, HoldsBeside, IsTrueEvent, Every, HoldsChannels, IsParcel, HoldsSaid, HoldsNodeAt, HoldsNodeOf, HoldsWorld, opens_soundly, every_on, opened_numbered, channels_moved, step_same, still_held, of_some, MakesStep, HoldsRunning, Joined, book_in, AfterStep, WholeSteps}
use Rattle.qs_world_runs.proofs.Words.{StaysUnanimousThen, book_then, entries_in, same_Some}
use Rattle.qs_session_channels.specs.Channels as channel
use Rattle.qs_book_machine.specs.Lawful.{IsLawful}
use Rattle.qs_book_machine.specs.Nodes as machine
use Rattle.qs_packet.specs.declared.message.Message.TheVariants as messages
use Rattle.qs_node_step.specs.State.{NodeValue}
use Rattle.qs_node_step.specs.declared.event.Event.TheVariants as events
use Rattle.qs_world.specs.Moves.{is_in_order, stamp_limit}
use Rattle.qs_world_lawful.specs.Amid.{IsSent}
use Rattle.qs_world_lawful.specs.Aside.{StaysUnanimous}
use Rattle.qs_world_lawful.specs.Holds.{Holds, is_next}
use Rattle.qs_world_lawful.specs.Logged.{HoldsHost}
use Rattle.qs_world_lawful.specs.Parcels.{IsBetween, IsSaid}
use Rattle.qs_world_lawful.specs.SayingSteps.{SaysBetween}
use Rattle.qs_world_lawful.proofs.AsideBesides.{keeps_others_beside}
use Rattle.qs_world_lawful.proofs.AsideIssued.{issued_held}
use Rattle.qs_world_lawful.proofs.AsideWhole.{keeps_others}
use Rattle.qs_world_lawful.proofs.BesideSent.{channels_on, sent_parcel}
use Rattle.qs_world_lawful.proofs.GivenByWorld.{message_between, message_comes}
use Rattle.qs_world_lawful.proofs.LogLaws.{step_keeps}
use Rattle.qs_world_lawful.proofs.ParcelsKept.{channels_posted}
use Rattle.qs_world_lawful.proofs.StopsWhole.{back_by, next_by}
use Rattle.qs_world_runs.specs.JoinedLaws.{HasOwner}
use Rattle.qs_world_runs.proofs.ClientsGo.{answers_aside, begins_owned, of_steps}
use Rattle.qs_world_runs.proofs.JoinedKept.{step_clients}
use Rattle.qs_world_runs.proofs.JoinedSaid.{step_said}
use Rattle.qs_world_runs.proofs.JoinedParts.{lawful_both}
use Rattle.qs_world_runs.proofs.StaysWorlds.{steps_young}
use Rattle.qs_world_runs.proofs.JoinedSteps.{step_holds, step_kept, step_lawful, step_low, step_sent, step_up}

-- each entry of a step is aside of another node
pub all_aside : (k n stamp : ℕ) (node : NodeValue) (acts : List Act) → (k == n) ≡ false → Every (λ (act : Act). IsOfStep act × AnswersElsewhere node act) acts → Every (IsAside k node) (entries_of n stamp acts)
all_aside k n stamp node [] far all = tt
all_aside k n stamp node (act ∷ acts) far all = (record { far = λ same. other k n far same; of_step = all.0.0; answers = all.0.1 }, all_aside k n stamp node acts far all.1)
  where
    other : (a b : ℕ) → (a == b) ≡ false → b ≡ a → ⊥
    other a b off same = let on : (a == b) ≡ true = grind (arith, nat_tests, same) in let both : true ≡ false = sym on ∙ off in cc (both)

pub both_of : (Q R : Act → Type 0) (acts : List Act) → Every Q acts → Every R acts → Every (λ (act : Act). Q act × R act) acts
both_of Q R [] q r = tt
both_of Q R (act ∷ acts) q r = ((q.0, r.0), both_of Q R acts q.1 r.1)

all_entries : (Q : Act → Type 0) (n stamp : ℕ) (acts : List Act) → Every Q acts → Every (λ (entry : Entry). Q entry.act) (entries_of n stamp acts)
all_entries Q n stamp [] all = tt
all_entries Q n stamp (act ∷ acts) all = (all.0, all_entries Q n stamp acts all.1)

-- the machine has a node up that runs
pub runs_at : (book : BookValue) (world : World) (k : ℕ) → HoldsNodeAt book world k → world.channels.up k ≡ true → (state : machine.NodeValue) → slice_get book.nodes k ≡ Some state → state.up ≡ true
runs_at book world k its on state there = ap (λ (s : machine.NodeValue). s.up) (same_Some state its.state (sym there ∙ its.there)) ∙ (its.up_is ∙ on)

module _ (P : Opening → World → Type 0) (steps : WholeSteps P) (unanimous : AfterStep P StaysUnanimousThen) (o : Opening) (world : World) (j : Joined P o world) (n stamp free : ℕ) (source : Source) (event : Event) (makes : MakesStep world n stamp source event) where
  abbrev node : NodeValue
  node = (world.hosts n).node

  abbrev old : BookValue
  old = book_in o world

  abbrev now : BookValue
  now = book_then o world n stamp free event

  abbrev entries : List Entry
  entries = entries_in world n stamp free event

  abbrev after : World
  after = step_with world n stamp free source (Some event)

  abbrev host : Host
  host = stepped_host stamp (after_step node event free) (effects_of node event free) (world.hosts n)

  low : n < world.size
  low = step_low P steps o world j n stamp free source event makes

  up : world.channels.up n ≡ true
  up = step_up P steps o world j n stamp free source event makes

  lawful : IsLawful old entries
  lawful = step_lawful P steps o world j n stamp free source event makes

  whole : IsLawful (book_of o) (world.journal ++ entries)
  whole = lawful_both world.journal entries (book_of o) j.lawful lawful

  at : HoldsNodeAt old world n
  at = j.held.nodes n low

  held : Holds stamp now (after_step node event free)
  held = step_holds P steps o world j n stamp free source event makes

  setting_is : (after_step node event free).setting ≡ node.setting
  setting_is = step_same node event free

  node_is : (after_step node event free).setting.node.0 ≡ n
  node_is = ap (λ (s : Setting). s.node.0) setting_is ∙ at.node

  -- ---- a Tell that comes says the outcome that the machine has

  pub true_event : IsTrueEvent old event
  true_event = by source makes.comes
    where
      true_message : (m : ℕ) (message : Message) → IsSaid old message → IsTrueEvent old (events.Received (record { 0 = m }) message)
      true_message m (messages.Tell tid outcome) says = says
      true_message m messages.Hello says = tt
      true_message m (messages.Request tid label member number issuer op) says = tt
      true_message m (messages.Answered tid member number reply) says = tt
      true_message m (messages.AskVote tid) says = tt
      true_message m (messages.Covered tid up_to) says = tt
      true_message m (messages.VotedYes tid up_to told) says = tt
      true_message m (messages.VotedAbort tid cause) says = tt
      true_message m (messages.Told tid further) says = tt
      true_message m (messages.Inquire tid) says = tt

      by : (source : Source) → event_of world n stamp source ≡ Some event → IsTrueEvent old event
      by (Commanded k) comes = let from = from_client world n k event (steady_gives world j.shown.steady j.shown.listed) comes in subst (IsTrueEvent old) (sym from.is) tt
      by (Handed m) comes = let from = from_node world n stamp m event comes in let between : IsBetween world.size m n = message_between old world n m j.channels from.parcel from.found in
          subst (IsTrueEvent old) (sym from.is) (true_message m from.parcel.message (message_comes old world n m j.channels (j.ways m n between.from between.to between.other) at.node at.run from.parcel from.found).says)
      by Queues comes = subst (IsTrueEvent old) (same_Some events.ServeAll event comes) tt
      by Clock comes = subst (IsTrueEvent old) (same_Some events.Tick event comes) tt
      by (Noticed m new) comes = let from = from_notice world n stamp m new event comes in subst (IsTrueEvent old) (sym from.is) tt

  -- ---- its own node

  log_then : HoldsHost n now (after_step node event free).manager (log_after (world.hosts n) (effects_of node event free)) (waiting_after (world.hosts n) (effects_of node event free))
  log_then = subst (λ (k : ℕ). HoldsHost k (book_after old (entries_of k stamp (effects_of node event free).entries)) (after_step node event free).manager (log_after (world.hosts n) (effects_of node event free)) (waiting_after (world.hosts n) (effects_of node event free))) at.node
      (step_keeps (opened_from o 0 o.size) world.journal (opens_soundly o j.opens) j.lawful stamp (world.hosts n) event free true_event
      (subst (λ (k : ℕ). HoldsHost k old node.manager (world.hosts n).log (world.hosts n).waiting) (sym at.node) (at.runs up).log)
      (subst (λ (k : ℕ). IsLawful old (entries_of k stamp (effects_of node event free).entries)) (sym at.node) lawful))

  own : HoldsNodeOf now world.size n (inc_of world n) true host
  own = record {
    state = held.state;
    there = there_n;
    up_is = held.same.up;
    inc_is = held.same.inc ∙ (ap (λ (s : Setting). s.inc) setting_is ∙ inc_old);
    node = node_is;
    run = ap (λ (s : Setting). s.nodes) setting_is ∙ at.run;
    format = (held.same.extra, held.same.keep);
    accepted = refl;
    kept = step_clients P steps o world j n stamp free source event makes;
    runs = λ is. record {
      still = still_held stamp now (after_step node event free) held;
      log = log_then;
      said = says_in (recovery (log_after (world.hosts n) (effects_of node event free) ++ waiting_after (world.hosts n) (effects_of node event free))) said_then.said;
      on_disk = says_in (recovery (log_after (world.hosts n) (effects_of node event free))) said_then.on_disk;
    };
    stopped = λ off. absurd (let both : true ≡ false = off in cc (both));
  }
    where
      there_n : slice_get now.nodes n ≡ Some held.state
      there_n = subst (λ (k : ℕ). slice_get now.nodes k ≡ Some held.state) node_is held.there

      said_then : SaysBetween n now (log_after (world.hosts n) (effects_of node event free)) (waiting_after (world.hosts n) (effects_of node event free))
      said_then = step_said P steps o world j n stamp free source event makes true_event

      says_in : (log : Recovery) → HoldsSaid n now said_then.state log → HoldsSaid n now held.state log
      says_in log = subst (λ (state : machine.NodeValue). HoldsSaid n now state log) (of_some (sym said_then.there ∙ there_n))

      inc_old : node.setting.inc ≡ inc_of world n
      inc_old = j.shown.steady.seated.inc n low

  -- ---- the others

  pub asides : (k : ℕ) → (k == n) ≡ false → k < world.size → Every (IsAside k (world.hosts k).node) entries
  asides k far k_low = all_aside k n stamp (world.hosts k).node (effects_of node event free).entries far (both_of IsOfStep (AnswersElsewhere (world.hosts k).node) (effects_of node event free).entries (of_steps P o world j n stamp free source event makes) (answers_aside P o world j n stamp free source event makes k far k_low))

  other : (k : ℕ) → (k == n) ≡ false → k < world.size → HoldsNodeOf now world.size k (inc_of world k) (world.channels.up k) (world.hosts k)
  other k far k_low = subst (λ (b : BookValue). HoldsNodeOf b world.size k (inc_of world k) (world.channels.up k) (world.hosts k)) (after_both world.journal entries (book_of o))
      (keeps_others (opened_from o 0 o.size) world.journal entries (opens_soundly o j.opens) (opened_numbered o 0 o.size) whole world.size k (inc_of world k) (world.channels.up k) (world.hosts k)
      (asides k far k_low)
      (λ off. subst (λ (b : BookValue). StaysUnanimous k (recovery (world.hosts k).log) old b) (sym (after_both world.journal entries (book_of o))) (unanimous o world n stamp free source event j makes lawful k far k_low off))
      (record { node = j.held.nodes k k_low; issued = λ on. issued_held old (world.hosts k).node (j.running k k_low on).beside })).node

  -- what is said of those that run

  pub own_running : HoldsRunning now (after_step node event free)
  own_running = record {
    beside = (step_kept P steps o world j n stamp free source event makes).beside;
    young = steps_young world n stamp free source event j.shown makes (j.facts n low) (j.running n low up).beside.clock.room (j.running n low up).young;
  }

  pub other_running : (k : ℕ) → (k == n) ≡ false → k < world.size → world.channels.up k ≡ true → HoldsRunning now (world.hosts k).node
  other_running k far k_low on = record {
    beside = subst (λ (b : BookValue). HoldsBeside b (world.hosts k).node) (after_both world.journal entries (book_of o))
        (keeps_others_beside (opened_from o 0 o.size) world.journal entries (opens_soundly o j.opens) (opened_numbered o 0 o.size) whole (world.hosts k).node
        (subst (λ (i : ℕ). Every (IsAside i (world.hosts k).node) entries) (sym its.node) (asides k far k_low))
        (all_entries (HasOwner old) n stamp (effects_of node event free).entries (begins_owned P o world j n stamp free source event makes))
        (λ state there. runs_at old world k its on state (subst (λ (i : ℕ). slice_get old.nodes i ≡ Some state) its.node there)) (j.running k k_low on).beside);
    young = (j.running k k_low on).young;
  }
    where
      its : HoldsNodeAt old world k
      its = j.held.nodes k k_low

  -- ---- what channels hold

  taken_fits : (source : Source) → event_of world n stamp source ≡ Some event → HoldsChannels old world.size (taken_by world n source)
  taken_fits (Commanded k) comes = j.channels
  taken_fits (Handed m) comes = by (next_parcel world n m)
    where
      by : (p : Option Parcel) → HoldsChannels old world.size (hand_next n m p world.channels)
      by None = j.channels
      by (Some parcel) = channels_moved old world.size (channel.Hand n m parcel) world.channels tt j.channels
  taken_fits Queues comes = j.channels
  taken_fits Clock comes = j.channels
  taken_fits (Noticed m new) comes = channels_moved old world.size (channel.Notice n m new) world.channels (from_notice world n stamp m new event comes).begun j.channels

  pub channels_then : HoldsChannels now world.size after.channels
  channels_then = channels_posted now world.size n stamp (effects_of node event free).messages (taken_by world n source)
      (every_on (IsSent now node.setting) (λ (sending : Sending). IsParcel now world.size n sending.to.0 (record { stamp = stamp; message = sending.message })) (sent_parcel now node.setting stamp world.size n at.node at.run within)
      (effects_of node event free).messages (step_sent P steps o world j n stamp free source event makes))
      (channels_on old run_in entries lawful world.size (taken_by world n source) (taken_fits source makes.comes))
    where
      within : nat_lt n world.size ≡ true
      within = grind (arith, nat_tests, low)

      run_in : InRun old
      run_in = record { opened = opened_from o 0 o.size; history = world.journal; coherent = opens_soundly o j.opens; lawful = j.lawful; is = refl }

  -- ---- all of it

  inc_is : after.channels.inc ≡ world.channels.inc
  inc_is = inc_all n stamp (effects_of node event free).messages (taken_by world n source) ∙ inc_taken world n source

  up_is : after.channels.up ≡ world.channels.up
  up_is = up_all n stamp (effects_of node event free).messages (taken_by world n source) ∙ up_taken world n source

  nodes_then : (k : ℕ) → k < world.size → HoldsNodeOf now world.size k (inc_of world k) (world.channels.up k) (if k == n then host else world.hosts k)
  nodes_then k k_low = by (k == n) refl
    where
      by : (b : Bool) → (k == n) ≡ b → HoldsNodeOf now world.size k (inc_of world k) (world.channels.up k) (if b then host else world.hosts k)
      by true near = subst (λ (i : ℕ). HoldsNodeOf now world.size i (inc_of world i) (world.channels.up i) host) (sym (eqb-true k n near)) (subst (λ (b : Bool). HoldsNodeOf now world.size n (inc_of world n) b host) (sym up) own)
      by false far = other k far k_low

  order_then : (k s : ℕ) → is_in_order after k s ≡ true → is_next s k now ≡ true
  order_then k s is = back_by stamp_limit now.stamp now.node stamp n s k own_order (next_by stamp_limit world.size stamp n s k (after.hosts k).stamp is)
    where
      own_order : is_next stamp n now ≡ true
      own_order = subst (λ (i : ℕ). is_next stamp i now ≡ true) node_is held.order

  pub held_then : HoldsWorld now after
  held_then = record {
    size = ran_run entries old ∙ j.held.size;
    order = order_then;
    nodes = λ k k_low. subst (λ (f : ℕ → ℕ). HoldsNodeOf now world.size k (f k) (after.channels.up k) (after.hosts k)) (sym inc_is) (subst (λ (f : ℕ → Bool). HoldsNodeOf now world.size k (inc_of world k) (f k) (after.hosts k)) (sym up_is) (nodes_then k k_low));
  }
