-- Each event and each restart of a cell goes on in the world: its node's local run is made longer, and where a step is cut off two are kept.
use Rattle.std.proofs.Common.{◌≡◌, ◌⊎◌, ◌∙◌, ap, inl, inr, refl, subst, sym, ℕ, ◌+◌, ◌<◌, ◌≤◌, Bool, true, false, List, [], ◌++◌, Some, Result, Ok, append-nil, arith}
use Rattle.std.specs.Global.{Global}
use Rattle.std.specs.Prelude.{⊤}
use Rattle.qs_book_journal.specs.declared.entry.CrashCause.{CrashCause}
use Rattle.qs_cell.specs.Asides.{IsAsideOutcome}
use Rattle.qs_cell.specs.Cell.{IfStands, IsOutcome, StandsAfter, out_of}
use Rattle.qs_cell.specs.Outcomes.{Outcome}
use Rattle.qs_cell.specs.Outcomes as outcomes
use Rattle.qs_cell.specs.Restart.{IfUp, IsRestarted, IsUp, inc_of}
use Rattle.qs_cell.specs.State.{Restarts, Up, answers_of, disk_of, state_after, state_of}
use Rattle.qs_cell.specs.Visits.{all_delivered}
use Rattle.qs_cell.specs.declared.state.CellState.{CellState}
use Rattle.qs_cell.specs.declared.state.CellState.TheVariants as states
use Rattle.qs_cell.specs.declared.state.RestartFault.{RestartFault}
use Rattle.qs_cell.specs.declared.stopped.Restarted.{Restarted}
use Rattle.qs_cell.specs.declared.stopped.Restarted.TheVariants as restarts
use Rattle.qs_cell.specs.declared.stopped.Stopped.{Stopped}
use Rattle.qs_cell_chronicle.specs.declared.occasion.Occasion.{Occasion}
use Rattle.qs_cell_peers.specs.Sessions.{SessionsValue}
use Rattle.qs_cell_peers.specs.declared.heard.Heard.TheVariants as heards
use Rattle.qs_client.specs.declared.cell.ClientCell.{ClientCell}
use Rattle.qs_disk.specs.Disk.{DiskState, EachImage}
use Rattle.qs_disk.specs.Fuse.{FusedValue}
use Rattle.qs_disk.specs.Moments.{Keeps}
use Rattle.qs_files.specs.declared.files.Files.{Files}
use Rattle.qs_link.specs.declared.ends.NodeEnds.{NodeEnds}
use Rattle.qs_log.specs.Image.{IsLog}
use Rattle.qs_log.specs.Log.{LogValue, Stands, raised_of, records_of}
use Rattle.qs_log_start.specs.Incarnation.{HasOneOf, IsLeftOrRaised, IsReopened}
use Rattle.qs_node_host.specs.Host.{HostValue, IsOldOrAfter, appended, forced_if, log_after}
use Rattle.qs_node_step.specs.declared.event.ClientAnswer.{ClientAnswer}
use Rattle.qs_node_step.specs.declared.event.Effects.{Effects}
use Rattle.qs_node_step.specs.declared.setting.Setting.{Setting}
use Rattle.qs_ops.specs.declared.no_server.NoServer.{NoServer}
use Rattle.qs_packet.specs.declared.packet.Packet.{Packet}
use Rattle.qs_record.specs.declared.record.Record.{Record}
use Rattle.qs_slot.specs.Slot.{Present}
use Rattle.qs_slot.specs.Turning.{SlotsValue}
use Rattle.qs_world.specs.World.{Opening}
use Rattle.qs_world_seats.proofs.Seated as seated
use Rattle.qs_world_seats.specs.Events.{IsHeard, with_sessions}
use Rattle.qs_world_seats.specs.Reached.{EventsGoOn, IsGranted, IsHalted, IsInOrPast, IsInWorld, IsRunning, RestartsGoOn}
use Rattle.qs_world_seats.specs.Seats.{From, IsDueFrom, SeatDown, SeatUp, left}
use Rattle.qs_world_seats.specs.Shown.{Reaches}

-- ---- incarnations

same_present : {a b : Present} → ◌≡◌ {A = Result Present ℕ} (Ok a) (Ok b) → a ≡ b
same_present e = cc e

reaches : {a b : ℕ} → a ≡ b → b ≤ a
reaches e = omega arith

above : (a b : ℕ) → a ≤ b → a < b + 1
above a b within = omega arith

more : (a b : ℕ) → a ≤ b → a ≤ b + 1
more a b within = omega arith

-- the log stands on a disk, which has but one image
one_log : {D : Type 0} (log : LogValue (FusedValue D)) (disk : DiskState) → Stands log disk → EachImage (HasOneOf log.forced log.forced) disk.now
one_log log disk stands image is = inl (record { present = log.slots.present; used = log.used; log = subst (λ (c : List ℕ). IsLog log.slots.present log.forced log.used c) (sym (stands.still image is)) stands.forced })

-- of a stop in place of an event the command is told where memory was not refused
abbrev pub IsGrantedIn : {D : Type 0} → Outcome D Files NoServer → Type 0
IsGrantedIn (outcomes.Replaced stopped) = IsGranted (states.Down stopped)
IsGrantedIn (outcomes.Whole running said) = ⊤
IsGrantedIn (outcomes.Followed stopped said) = ⊤
IsGrantedIn (outcomes.CutOff stopped) = ⊤

granted_in : {D : Type 0} (outcome : Outcome D Files NoServer) → IsGranted (state_of outcome) → IsGrantedIn outcome
granted_in (outcomes.Replaced stopped) granted = granted
granted_in (outcomes.Whole running said) granted = tt
granted_in (outcomes.Followed stopped said) granted = tt
granted_in (outcomes.CutOff stopped) granted = tt

module _ {D : Type 0} (told : Type 0) (state : D → DiskState) (own size : D → ℕ) (o : Opening) (n : ℕ) where
  module _ (old : Up D) (ends : List NodeEnds) (clients : List ClientCell) (was : IsRunning told state o n old ends clients) where
    abbrev bytes : ℕ
    bytes = size old.host.log.disk.disk

    abbrev lost_log : List Record
    lost_log = old.host.log.forced

    none_fell_behind : (image : List ℕ) → IsLog old.host.log.slots.present old.host.log.forced old.host.log.used image → IsInOrPast old.carried.setting.inc image
    none_fell_behind image is = record { present = old.host.log.slots.present; slots = is.slots; reached = reaches was.inc }

    -- it stops before the disk is touched
    pub images_whole : (stopped : Stopped D) → stopped.disk ≡ old.host.log.disk → told → EachImage (HasOneOf lost_log lost_log) (state stopped.disk.disk).now
    images_whole stopped disk t = subst (λ (d : FusedValue D). EachImage (HasOneOf lost_log lost_log) (state d.disk).now) (sym disk) (one_log old.host.log (state old.host.log.disk.disk) (was.stands t))

    pub incs_whole : (stopped : Stopped D) → stopped.disk ≡ old.host.log.disk → stopped.carried.setting ≡ old.carried.setting → told → EachImage (IsInOrPast stopped.carried.setting.inc) (state stopped.disk.disk).now
    incs_whole stopped disk same t = subst (λ (d : FusedValue D). EachImage (IsInOrPast stopped.carried.setting.inc) (state d.disk).now) (sym disk)
        (subst (λ (s : Setting). EachImage (IsInOrPast s.inc) (state old.host.log.disk.disk).now) (sym same)
        (λ image at. none_fell_behind image (subst (λ (c : List ℕ). IsLog old.host.log.slots.present old.host.log.forced old.host.log.used c) (sym ((was.stands t).still image at)) (was.stands t).forced)))

    stopped_whole : (stopped : Stopped D) (lanes : List NodeEnds) → Reaches o n stopped.carried.chronicle.told (SeatDown o n stopped lanes clients lost_log) → stopped.disk ≡ old.host.log.disk → stopped.carried.setting ≡ old.carried.setting
        → IsHalted told state o n stopped lanes clients
    stopped_whole stopped lanes reached disk same = record {
      first = lost_log;
      other = lost_log;
      to_first = reached;
      to_other = reached;
      images = images_whole stopped disk;
      incs = incs_whole stopped disk same;
    }

    -- ---- each event

    module _ (source : From) (occasion : Occasion) (sessions : SessionsValue) (due_is : IsDueFrom source occasion sessions old ends clients) where
      abbrev out : Effects
      out = out_of bytes occasion old

      abbrev kept_log : List Record
      kept_log = (log_after out old.host.log).forced

      abbrev lanes : List NodeEnds
      lanes = left source old ends

      either : (image : List ℕ) → IsOldOrAfter out old.host.log image → HasOneOf lost_log kept_log image
      either image (inl is) = inl (record { present = old.host.log.slots.present; used = old.host.log.used; log = is })
      either image (inr is) = inr (record { present = (log_after out old.host.log).slots.present; used = (log_after out old.host.log).used; log = is })

      -- no step touches the slots
      same_slots : (due : Bool) (log : LogValue (FusedValue D)) → (forced_if due log).slots ≡ log.slots
      same_slots true log = refl
      same_slots false log = refl

      inc_after : inc_of (log_after out old.host.log) ≡ old.carried.setting.inc
      inc_after = ap (λ (s : SlotsValue). s.present.value.inc) (same_slots out.force (appended out.records old.host.log)) ∙ was.inc

      none_behind : (image : List ℕ) → IsOldOrAfter out old.host.log image → IsInOrPast old.carried.setting.inc image
      none_behind image (inl is) = none_fell_behind image is
      none_behind image (inr is) = record { present = (log_after out old.host.log).slots.present; slots = is.slots; reached = reaches inc_after }

      incs_of : (stopped : Stopped D) → stopped.carried.setting ≡ old.carried.setting → EachImage (IsOldOrAfter out old.host.log) (state stopped.disk.disk).now
          → EachImage (IsInOrPast stopped.carried.setting.inc) (state stopped.disk.disk).now
      incs_of stopped same images image at = subst (λ (s : Setting). IsInOrPast s.inc image) (sym same) (none_behind image (images image at))

      pub goes_on : (outcome : Outcome D Files NoServer) → IsOutcome own bytes occasion (with_sessions sessions old) outcome → IsGrantedIn outcome
          → (told → IfStands outcome (λ disk. StandsAfter out old.host.log disk (state disk.disk)))
          → (told → Keeps (IsOldOrAfter out old.host.log) (state old.host.log.disk.disk) (state (disk_of (state_of outcome)).disk))
          → IsInWorld told state o n (state_of outcome) (all_delivered (answers_of outcome) lanes) clients
      goes_on (outcomes.Whole running said) is granted stands moments = record {
        reached = seated.whole o n bytes source occasion sessions old ends clients was.reached.world due_is was.reached.reached was.reached.shows running said is;
        inc = ap (λ (l : LogValue (FusedValue D)). inc_of l) is.log ∙ (inc_after ∙ sym (ap (λ (s : Setting). s.inc) is.setting));
        stands = λ t. subst (λ (l : LogValue (FusedValue D)). Stands l (state running.host.log.disk.disk)) (sym is.log) (stands t);
      }
      goes_on (outcomes.Followed stopped said) is granted stands moments = record {
        first = kept_log;
        other = kept_log;
        to_first = reached;
        to_other = reached;
        images = λ t. one_log (record (log_after out old.host.log) { disk = stopped.disk }) (state stopped.disk.disk) (stands t);
        incs = λ t. incs_of stopped is.setting (moments t).here;
      }
        where
          reached : Reaches o n stopped.carried.chronicle.told (SeatDown o n stopped (all_delivered said lanes) clients kept_log)
          reached = seated.followed o n bytes source occasion sessions old ends clients was.reached.world due_is was.reached.reached was.reached.shows stopped said is
      goes_on (outcomes.Replaced stopped) is granted stands moments =
          stopped_whole stopped lanes (seated.replaced o n bytes source occasion sessions old ends clients was.reached.world due_is was.reached.reached was.reached.shows stopped is (λ memory. granted (ap (λ (c : CrashCause). Some c) memory))) is.disk is.setting
      goes_on (outcomes.CutOff stopped) is granted stands moments = record {
        first = lost_log;
        other = kept_log;
        to_first = seated.cut o n bytes source occasion sessions old ends clients was.reached.world due_is was.reached.reached was.reached.shows own stopped is false;
        to_other = seated.cut o n bytes source occasion sessions old ends clients was.reached.world due_is was.reached.reached was.reached.shows own stopped is true;
        images = λ t image at. either image ((moments t).here image at);
        incs = λ t. incs_of stopped is.setting (moments t).here;
      }

    -- ---- a packet aside

    pub aside_goes_on : (packet : Packet) (sessions : SessionsValue) → IsHeard heards.Aside packet old.sessions sessions → (outcome : Outcome D Files NoServer) → IsAsideOutcome packet (with_sessions sessions old) outcome
        → IsInWorld told state o n (state_of outcome) (all_delivered (answers_of outcome) ends) clients
    aside_goes_on packet sessions heard (outcomes.Whole running said) (is, none) = subst (λ (l : List ClientAnswer). IsRunning told state o n running (all_delivered l ends) clients) (sym none) (record {
      reached = seated.aside o n packet sessions old ends clients was.reached.world was.reached.reached was.reached.shows running heard is;
      inc = ap (λ (h : HostValue (FusedValue D)). inc_of h.log) is.host ∙ (was.inc ∙ sym (ap (λ (s : Setting). s.inc) is.setting));
      stands = λ t. subst (λ (h : HostValue (FusedValue D)). Stands h.log (state h.log.disk.disk)) (sym is.host) (was.stands t);
    })
    aside_goes_on packet sessions heard (outcomes.Replaced stopped) is =
        stopped_whole stopped ends (seated.aside_replaced o n packet sessions old ends clients was.reached.world was.reached.reached was.reached.shows stopped is) is.disk is.setting
    aside_goes_on packet sessions heard (outcomes.Followed stopped said) is = absurd is
    aside_goes_on packet sessions heard (outcomes.CutOff stopped) is = absurd is

pub each_event : {D : Type 0} (told : Type 0) (state : D → DiskState) (own size : D → ℕ) (o : Opening) (n : ℕ) (source : From) (occasion : Occasion) (sessions : SessionsValue) (old : Up D) (new : CellState D) (ends : List NodeEnds) (clients : List ClientCell) (answers : List ClientAnswer)
    → EventsGoOn told state own size o n source occasion sessions old new ends clients answers
each_event told state own size o n source occasion sessions old new ends clients answers makes granted due_is was =
    subst (λ (x : CellState _). IsInWorld told state o n x (all_delivered answers (left source old ends)) clients) (sym makes.node)
    (subst (λ (a : List ClientAnswer). IsInWorld told state o n (state_of makes.outcome) (all_delivered a (left source old ends)) clients) (sym makes.said)
    (goes_on told state own size o n old ends clients was source occasion sessions due_is makes.outcome makes.is
    (granted_in makes.outcome (subst (λ (x : CellState _). IsGranted x) makes.node granted)) makes.stands
    (λ t. subst (λ (x : CellState _). Keeps (IsOldOrAfter (out_of (size old.host.log.disk.disk) occasion old) old.host.log) (state old.host.log.disk.disk) (state (disk_of x).disk)) makes.node (makes.moments t))))

-- ---- a restart

module _ {D : Type 0} (told : Type 0) (state : D → DiskState) (own size : D → ℕ) (alloc : Global) (o : Opening) (n : ℕ) (old : Stopped D) (ends : List NodeEnds) (clients : List ClientCell) (was : IsHalted told state o n old ends clients) where
  -- the log that was found is one of the two
  rises_with : (running : Up D) → IsUp alloc old running → running.host.log.waiting ≡ [] → old.carried.setting.inc < inc_of running.host.log
      → (records_of running.host.log ≡ was.first) ⊎ (records_of running.host.log ≡ was.other) → Reaches o n running.carried.chronicle.told (SeatUp o n running ends clients)
  rises_with running is none later found = by found
    where
      all_forced : running.host.log.forced ≡ records_of running.host.log
      all_forced = sym (ap (λ (l : List Record). running.host.log.forced ++ l) none ∙ append-nil running.host.log.forced)

      by : (records_of running.host.log ≡ was.first) ⊎ (records_of running.host.log ≡ was.other) → Reaches o n running.carried.chronicle.told (SeatUp o n running ends clients)
      by (inl first) = seated.risen o n old ends clients was.to_first.world was.first was.to_first.reached was.to_first.shows alloc running is none later (all_forced ∙ first)
      by (inr other) = seated.risen o n old ends clients was.to_other.world was.other was.to_other.reached was.to_other.shows alloc running is none later (all_forced ∙ other)

  -- each image that was left says an incarnation that is as high, and the log that was opened one that is higher
  is_later : told → (log : LogValue (FusedValue D)) → IsReopened (state old.disk.disk) log → old.carried.setting.inc < inc_of log
  is_later t log again =
      let before : IsInOrPast old.carried.setting.inc again.content = was.incs t again.content again.image in
      let same : before.present ≡ again.raised.present = same_present (sym before.slots ∙ again.raised.records.slots) in
      subst (λ (k : ℕ). old.carried.setting.inc < k) (sym (ap (λ (p : Present). p.value.inc) again.raised.raised))
      (above old.carried.setting.inc again.raised.present.value.inc (subst (λ (p : Present). old.carried.setting.inc ≤ p.value.inc) same before.reached))

  none_fell : told → (image : List ℕ) → IsLeftOrRaised (state old.disk.disk) image → IsInOrPast old.carried.setting.inc image
  none_fell t image (inl before) = was.incs t image before
  none_fell t image (inr raised) = by raised.says.says
    where
      before : IsInOrPast old.carried.setting.inc raised.content
      before = was.incs t raised.content raised.image

      reached : old.carried.setting.inc ≤ raised.says.present.value.inc
      reached = subst (λ (p : Present). old.carried.setting.inc ≤ p.value.inc) (same_present (sym before.slots ∙ raised.says.log.slots)) before.reached

      by : IsLog raised.says.present raised.says.records raised.says.used image ⊎ IsLog (raised_of raised.says.present) raised.says.records raised.says.used image → IsInOrPast old.carried.setting.inc image
      by (inl log) = record { present = raised.says.present; slots = log.slots; reached = reached }
      by (inr log) = record { present = raised_of raised.says.present; slots = log.slots; reached = more old.carried.setting.inc raised.says.present.value.inc reached }

  restarted : (t : told) (new : CellState D) (answer : Result Bool RestartFault) (r : Restarts told state own size alloc old new answer) (outcome : Restarted D Files NoServer) → new ≡ state_after outcome → IsRestarted own alloc old outcome
      → IfUp outcome (IsReopened (state old.disk.disk))
      → IfUp outcome (λ log. (a b : List Record) → EachImage (HasOneOf a b) (state old.disk.disk).now → (records_of log ≡ a) ⊎ (records_of log ≡ b))
      → (told → IfUp outcome (λ log. Stands log (state log.disk.disk))) → IsInWorld told state o n (state_after outcome) ends clients
  restarted t new answer r (restarts.Up running) same is reopened found stands = record {
    reached = rises_with running is reopened.raised.waiting (is_later t running.host.log reopened) (found was.first was.other (was.images t));
    inc = sym (ap (λ (s : Setting). s.inc) is.setting);
    stands = stands;
  }
  restarted t new answer r (restarts.Down stopped why) same is reopened found stands = record {
    first = was.first;
    other = was.other;
    to_first = seated.stays o n old ends clients was.to_first.world was.first was.to_first.reached was.to_first.shows stopped is.0;
    to_other = seated.stays o n old ends clients was.to_other.world was.other was.to_other.reached was.to_other.shows stopped is.0;
    images = λ again. subst (λ (x : CellState D). EachImage (HasOneOf was.first was.other) (state (disk_of x).disk).now) same (r.moments t was.first was.other (was.images t)).here;
    incs = λ again. subst (λ (s : Setting). EachImage (IsInOrPast s.inc) (state stopped.disk.disk).now) (sym is.0.setting)
        (λ image at. none_fell again image (subst (λ (x : CellState D). EachImage (IsLeftOrRaised (state old.disk.disk)) (state (disk_of x).disk).now) same (r.touched again).here image at));
  }

pub each_restart : {D : Type 0} (told : Type 0) (state : D → DiskState) (own size : D → ℕ) (alloc : Global) (o : Opening) (n : ℕ) (old : Stopped D) (new : CellState D) (ends : List NodeEnds) (clients : List ClientCell) (answer : Result Bool RestartFault)
    → RestartsGoOn told state own size alloc o n old new ends clients answer
each_restart told state own size alloc o n old new ends clients answer t r was =
    subst (λ (x : CellState _). IsInWorld told state o n x ends clients) (sym r.node)
    (restarted told state own size alloc o n old ends clients was t new answer r r.restarted r.node r.is (r.reopened t) (r.found t) r.stands)
