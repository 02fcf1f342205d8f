-- What stands of a node after an event and after a restart: its log on the disk, and its setting.
use Rattle.std.proofs.Common.{◌≡◌, ◌⊎◌, ◌∙◌, ◌≤◌, ◌<◌, ◌+◌, ap, subst, sym, refl, inl, inr, ℕ, Bool, false, List, [], ◌++◌, arith}
use Rattle.std.proofs.lemmas.List.{append-nil}
use Rattle.std.specs.Prelude.{Result}
use Rattle.std.specs.Global.{Global}
use Rattle.qs_cell_peers.specs.Links.{LinksValue}
use Rattle.qs_disk.specs.Disk.{DiskState, EachImage}
use Rattle.qs_disk.specs.Fuse.{FusedValue, mended}
use Rattle.qs_disk.specs.Fuse.{GoesOn as GoesOnFuse}
use Rattle.qs_disk.specs.Moments.{Keeps}
use Rattle.qs_files.specs.declared.files.Files.{Files}
use Rattle.qs_node_host.specs.Host.{HostValue, IsLogAfter, IsOldOrAfter}
use Rattle.qs_log_start.specs.Incarnation.{open_limit, IsLeftOrRaised, IsRaisedLog, IsReopened, IsArmed, HasOneOf}
use Rattle.qs_book_journal.specs.declared.entry.CrashCause.{CrashCause}
use Rattle.qs_book_journal.specs.declared.script_line.Point.{Point}
use Rattle.qs_link.specs.declared.ends.NodeEnds.{NodeEnds}
use Rattle.qs_log.specs.Log.{LogValue, Stands, records_of}
use Rattle.qs_book_machine.specs.declared.opened.Opened.{Opened}
use Rattle.qs_record.specs.declared.record.Record.{Record}
use Rattle.qs_restart.specs.declared.recovered.Recovered.{Recovered}
use Rattle.qs_slot.proofs.Limits.{stand_below}
use Rattle.qs_slot.specs.Slot.{SayTheSame, StandBelow}
use Rattle.qs_ops.specs.declared.no_server.NoServer.{NoServer}
use Rattle.qs_node_step.specs.declared.event.ClientAnswer.{ClientAnswer}
use Rattle.qs_node_step.specs.declared.event.Effects.{Effects}
use Rattle.qs_node_step.specs.declared.setting.Setting.{Setting}
use Rattle.qs_world.specs.Histories.{opened_with}
use Rattle.qs_cell_chronicle.specs.Carried.{Seen}
use Rattle.qs_cell_chronicle.specs.declared.carried.Carried.{Carried}
use Rattle.qs_cell_chronicle.specs.declared.occasion.Occasion.{Occasion}
use Rattle.qs_cell.specs.Logged.{GoesOn, IsLogged, StandsWithin, limit_after}
use Rattle.qs_cell.proofs.Reopening.{RoundsGrow, damage_told, within_seen}
use Rattle.qs_cell.proofs.Logging.{goes_on_first, logged_stands}
use Rattle.qs_cell.specs.Cell.{IsOutcome, IfStands, StandsAfter, out_of, disk_after}
use Rattle.qs_cell.specs.Restart.{IsRestarted, IfDamaged, IfUp, restarted_disk, found_in, inc_of}
use Rattle.qs_cell.specs.Starts.{IsSound, IsStarted, LogGoesOn, Begins, setting_in}
use Rattle.qs_cell.specs.State.{Up, IsSeenAs, LogStands, IsAllowed, Restarts, state_of, answers_of, state_after, answer_after, carried_of, disk_of, rounds_of}
use Rattle.qs_cell.specs.Visits.{Makes, MakesIn}
use Rattle.qs_cell.proofs.Happening.{disk_left}
use Rattle.qs_cell.specs.Outcomes.{Outcome, outcome_of, stopped_of}
use Rattle.qs_cell.specs.Outcomes as outcomes
use Rattle.qs_cell.specs.declared.running.Fate.{Fate}
use Rattle.qs_cell.specs.declared.running.Fate.TheVariants as fates
use Rattle.qs_cell.specs.declared.starting.NodePlan.{NodePlan}
use Rattle.qs_cell.specs.declared.state.CellState.{CellState}
use Rattle.qs_cell.specs.declared.state.CellState.TheVariants as states
use Rattle.qs_cell.specs.declared.state.RestartFault.{RestartFault}
use Rattle.qs_cell.specs.declared.stopped.Restarted.{Restarted}
use Rattle.qs_cell.specs.declared.stopped.Restarted.TheVariants as restarts
use Rattle.qs_cell.specs.declared.stopped.Stopped.{Stopped}

-- ---- an event

pub disk_made : {D : Type 0} (outcome : Outcome D Files NoServer) → disk_after outcome ≡ disk_of (state_of outcome)
disk_made (outcomes.Whole running answers) = refl
disk_made (outcomes.Followed stopped answers) = refl
disk_made (outcomes.Replaced stopped) = refl
disk_made (outcomes.CutOff stopped) = refl

stands_whole : {D : Type 0} (out : Effects) (old new : LogValue (FusedValue D)) (s : DiskState) → IsLogAfter out old new → StandsAfter out old new.disk s → Stands new s
stands_whole {D} out old new s is stands = subst (λ (log : LogValue (FusedValue D)). Stands log s) (sym is) stands

pub stands_made : {D : Type 0} (state : D → DiskState) (own : D → ℕ) (size : ℕ) (occasion : Occasion) (old : Up D) (outcome : Outcome D Files NoServer)
    → IsOutcome own size occasion old outcome
    → IfStands outcome (λ disk. StandsAfter (out_of size occasion old) old.host.log disk (state disk.disk)) → LogStands state (state_of outcome)
stands_made state own size occasion old (outcomes.Whole running answers) is stands =
    stands_whole (out_of size occasion old) old.host.log running.host.log (state running.host.log.disk.disk) is.log stands
stands_made state own size occasion old (outcomes.Followed stopped answers) is stands = tt
stands_made state own size occasion old (outcomes.Replaced stopped) is stands = tt
stands_made state own size occasion old (outcomes.CutOff stopped) is stands = tt

pub setting_made : {D : Type 0} (own : D → ℕ) (size : ℕ) (occasion : Occasion) (old : Up D) (outcome : Outcome D Files NoServer)
    → IsOutcome own size occasion old outcome → (carried_of (state_of outcome)).setting ≡ old.carried.setting
setting_made own size occasion old (outcomes.Whole running answers) is = is.setting
setting_made own size occasion old (outcomes.Followed stopped answers) is = is.setting
setting_made own size occasion old (outcomes.Replaced stopped) is = is.setting
setting_made own size occasion old (outcomes.CutOff stopped) is = is.setting

pub makes_of : {D : Type 0} (told : Type 0) (state : D → DiskState) (own size : D → ℕ) (occasion : Occasion) (old : Up D) (outcome : Outcome D Files NoServer)
    (new : CellState D) (answers : List ClientAnswer) → IsOutcome own (size old.host.log.disk.disk) occasion old outcome → new ≡ state_of outcome
    → answers ≡ answers_of outcome
    → (told → IfStands outcome (λ disk. StandsAfter (out_of (size old.host.log.disk.disk) occasion old) old.host.log disk (state disk.disk)))
    → (told → Keeps (IsOldOrAfter (out_of (size old.host.log.disk.disk) occasion old) old.host.log) (state old.host.log.disk.disk) (state (disk_after outcome).disk))
    → (told → Keeps (SayTheSame (state old.host.log.disk.disk).content) (state old.host.log.disk.disk) (state (disk_after outcome).disk))
    → size (disk_after outcome).disk ≡ size old.host.log.disk.disk → Makes told state own size occasion old new answers
makes_of {D} told state own size occasion old outcome new answers is node said stands moments header bytes = record {
  outcome = outcome;
  is = is;
  node = node;
  said = said;
  stands = stands;
  moments = λ yes. subst (λ (d : FusedValue D).
      Keeps (IsOldOrAfter (out_of (size old.host.log.disk.disk) occasion old) old.host.log) (state old.host.log.disk.disk) (state d.disk))
      same (moments yes);
  header = λ yes. subst (λ (d : FusedValue D). Keeps (SayTheSame (state old.host.log.disk.disk).content) (state old.host.log.disk.disk) (state d.disk)) same (header yes);
  bytes = subst (λ (d : FusedValue D). size d.disk ≡ size old.host.log.disk.disk) same bytes;
}
  where
    same : disk_after outcome ≡ disk_of new
    same = disk_made outcome ∙ ap (λ (n : CellState D). disk_of n) (sym node)

-- a node that a crash stopped is down, and answers nobody
pub left_down : {D : Type 0} (fate : Fate) (cause : CrashCause) (is_full : Bool) (running : Up D)
    → ((fate ≡ fates.Replaced cause) × (is_full ≡ false)) ⊎ (fate ≡ fates.CutOff cause is_full)
    → (state_of (outcome_of fate running) ≡ states.Down (stopped_of cause is_full running)) × (answers_of (outcome_of fate running) ≡ [])
left_down fate cause is_full running (inl is) = rw (is.0, is.1) (refl, refl)
left_down fate cause is_full running (inr is) = rw is (refl, refl)

-- by how it left the node, and what it left of it
pub makes_by : {D : Type 0} (told : Type 0) (state : D → DiskState) (own size : D → ℕ) (occasion : Occasion) (from new : CellState D) (old running : Up D) (fate : Fate)
    (answers : List ClientAnswer) → from ≡ states.Up old → IsOutcome own (size old.host.log.disk.disk) occasion old (outcome_of fate running) → new ≡ state_of (outcome_of fate running)
    → answers ≡ answers_of (outcome_of fate running)
    → (told → IfStands (outcome_of fate running) (λ disk. StandsAfter (out_of (size old.host.log.disk.disk) occasion old) old.host.log disk (state disk.disk)))
    → (told → Keeps (IsOldOrAfter (out_of (size old.host.log.disk.disk) occasion old) old.host.log) (state old.host.log.disk.disk) (state running.host.log.disk.disk))
    → (told → Keeps (SayTheSame (state old.host.log.disk.disk).content) (state old.host.log.disk.disk) (state running.host.log.disk.disk))
    → size running.host.log.disk.disk ≡ size old.host.log.disk.disk → MakesIn told state own size occasion from new answers
makes_by {D} told state own size occasion from new old running fate answers up is node said stands moments header bytes =
    subst (λ (before : CellState D). MakesIn told state own size occasion before new answers) (sym up)
    (makes_of told state own size occasion old (outcome_of fate running) new answers is node said stands (λ yes.
    subst (λ (d : FusedValue D). Keeps (IsOldOrAfter (out_of (size old.host.log.disk.disk) occasion old) old.host.log) (state old.host.log.disk.disk) (state d.disk))
    (sym (disk_left fate running)) (moments yes))
    (λ yes. subst (λ (d : FusedValue D). Keeps (SayTheSame (state old.host.log.disk.disk).content) (state old.host.log.disk.disk) (state d.disk)) (sym (disk_left fate running)) (header yes))
    (subst (λ (d : FusedValue D). size d.disk ≡ size old.host.log.disk.disk) (sym (disk_left fate running)) bytes))

-- a setting with the same limits is allowed
allowed_by : (carried : Carried) (s : Setting) → carried.setting ≡ s → s.extra ≤ 8 → s.keep ≤ 144 → s.nodes ≤ 8 → s.node.0 < s.nodes → IsAllowed carried
allowed_by carried s same extra keep nodes node = record {
  batch = subst (λ (t : Setting). t.extra ≤ 8) (sym same) extra;
  keep = subst (λ (t : Setting). t.keep ≤ 144) (sym same) keep;
  nodes = subst (λ (t : Setting). t.nodes ≤ 8) (sym same) nodes;
  node = subst (λ (t : Setting). t.node.0 < t.nodes) (sym same) node;
}

-- what is seen changes alone
pub sound_seen : {D : Type 0} (told : Type 0) (state : D → DiskState) (opened : Opened) (f : Seen → Seen) (old new : CellState D) → RoundsGrow f → IsSeenAs f old new
    → IsSound told state opened old → IsSound told state opened new
sound_seen told state opened f (states.Up old) (states.Up new) grows is sound = record {
  stands = λ yes. subst (λ h. Stands h.log (state h.log.disk.disk)) (sym is.0.0) (sound.stands yes);
  goes_on = λ yes. subst (λ h. GoesOn opened h.log.forced) (sym is.0.0) (sound.goes_on yes);
  logged = λ yes. subst (λ h. IsLogged opened (state h.log.disk.disk).now) (sym is.0.0) (sound.logged yes);
  within = λ yes. subst (λ h. StandsWithin new.carried.chronicle.told.rounds (state h.log.disk.disk).now) (sym is.0.0)
      (within_seen f grows old.carried new.carried is.1.0 (state old.host.log.disk.disk).now (sound.within yes));
  allowed = allowed_by new.carried old.carried.setting is.1.1 sound.allowed.batch sound.allowed.keep sound.allowed.nodes sound.allowed.node;
}
sound_seen told state opened f (states.Down old) (states.Down new) grows is sound = record {
  stands = λ yes. tt;
  goes_on = λ yes. tt;
  logged = λ yes. subst (λ d. IsLogged opened (state d.disk).now) (sym is.0) (sound.logged yes);
  within = λ yes. subst (λ d. StandsWithin new.carried.chronicle.told.rounds (state d.disk).now) (sym is.0)
      (within_seen f grows old.carried new.carried is.1.1.1.0 (state old.disk.disk).now (sound.within yes));
  allowed = allowed_by new.carried old.carried.setting is.1.1.1.1 sound.allowed.batch sound.allowed.keep sound.allowed.nodes sound.allowed.node;
}
sound_seen told state opened f (states.Up old) (states.Down new) grows is sound = absurd is
sound_seen told state opened f (states.Down old) (states.Up new) grows is sound = absurd is

-- and so does what an event leaves
pub sound_after : {D : Type 0} (told : Type 0) (state : D → DiskState) (opened : Opened) (old new : CellState D) → (told → LogStands state new)
    → (told → LogGoesOn opened new) → (told → IsLogged opened (state (disk_of new).disk).now) → (told → StandsWithin (rounds_of new) (state (disk_of new).disk).now)
    → (carried_of new).setting ≡ (carried_of old).setting → IsSound told state opened old
    → IsSound told state opened new
sound_after told state opened old new stands goes_on logged within setting sound = record {
  stands = stands;
  goes_on = goes_on;
  logged = logged;
  within = within;
  allowed = allowed_by (carried_of new) (carried_of old).setting setting sound.allowed.batch sound.allowed.keep sound.allowed.nodes sound.allowed.node;
}

-- ---- a start

-- the disk of the log that it began over
pub started_moments : {D : Type 0} (state : D → DiskState) (P : List ℕ → Type 0) (s : DiskState) (alloc : Global) (setting : Setting) (crashes : List ℕ) (points : List Point)
    (log : LogValue (FusedValue D)) (running : Up D) → Begins alloc setting crashes points log running → Keeps P s (state log.disk.disk)
    → Keeps P s (state running.host.log.disk.disk)
started_moments {D} state P s alloc setting crashes points log running begins keeps =
    subst (λ (l : LogValue (FusedValue D)). Keeps P s (state l.disk.disk)) (sym (ap (λ (h : HostValue (FusedValue D)). h.log) begins.host)) keeps

pub started_of : {D : Type 0} (told : Type 0) (state : D → DiskState) (alloc : Global) (disk : D) (setting : Setting) (links : LinksValue) (ends : List NodeEnds) (plan : NodePlan)
    (log : LogValue (FusedValue D)) (running : Up D) (found : Recovered) (faults : ℕ) → Begins alloc setting plan.crashes plan.points log running → found ≡ found_in log
    → (told → IsRaisedLog open_limit (state disk).content log) → IsArmed plan.stops log.disk.fuse → (told → Stands log (state log.disk.disk))
    → IsStarted told state alloc disk setting links ends plan
    (record { alloc = alloc; seat = record { node = states.Up running; ends = ends }; links = links; opened = opened_with running.carried.setting found; faults = faults })
started_of {D} told state alloc disk setting links ends plan log running found faults begins is raised armed stands =
    let same : log ≡ running.host.log = sym (ap (λ (h : HostValue (FusedValue D)). h.log) begins.host) in
    record {
      running = running;
      node = refl;
      begins = subst (λ (l : LogValue (FusedValue D)). Begins alloc setting plan.crashes plan.points l running) same begins;
      raised = λ yes. subst (λ (l : LogValue (FusedValue D)). IsRaisedLog open_limit (state disk).content l) same (raised yes);
      stands = λ yes. subst (λ (l : LogValue (FusedValue D)). Stands l (state l.disk.disk)) same (stands yes);
      armed = subst (λ (l : LogValue (FusedValue D)). IsArmed plan.stops l.disk.fuse) same armed;
      lanes = refl;
      links_are = refl;
      opened = ap (λ (s : Setting). opened_with s found) begins.setting ∙ ap (opened_with (setting_in log setting)) is
          ∙ ap (λ (l : LogValue (FusedValue D)). opened_with (setting_in l setting) (found_in l)) same;
    }

-- the node that began holds what is asked of each
pub sound_started : {D : Type 0} (told : Type 0) (state : D → DiskState) (alloc : Global) (setting : Setting) (crashes : List ℕ) (points : List Point)
    (log : LogValue (FusedValue D)) (running : Up D) (found : Recovered) → Begins alloc setting crashes points log running → found ≡ found_in log → log.waiting ≡ []
    → setting.extra ≤ 8 → setting.keep ≤ 144 → setting.nodes ≤ 8 → setting.node.0 < setting.nodes → (told → Stands log (state log.disk.disk))
    → (told → EachImage (StandBelow (open_limit + 1)) (state log.disk.disk).now) → IsSound told state (opened_with running.carried.setting found) (states.Up running)
sound_started {D} told state alloc setting crashes points log running found begins is none extra keep nodes node stands below = record {
  stands = now;
  allowed = allowed_by running.carried (setting_in log setting) begins.setting extra keep nodes node;
  goes_on = λ is_told. on;
  logged = λ is_told. logged_stands (opened_with running.carried.setting found) running.host.log (state running.host.log.disk.disk) (now is_told) on;
  within = λ is_told few image here. stand_below (open_limit + 1) (limit_after running.carried.chronicle.told.rounds) image (omega arith)
      (subst (λ (l : LogValue (FusedValue D)). EachImage (StandBelow (open_limit + 1)) (state l.disk.disk).now) same (below is_told) image here);
}
  where
    same : log ≡ running.host.log
    same = sym (ap (λ (h : HostValue (FusedValue D)). h.log) begins.host)

    now : told → Stands running.host.log (state running.host.log.disk.disk)
    now is_told = subst (λ (l : LogValue (FusedValue D)). Stands l (state l.disk.disk)) same (stands is_told)

    on : GoesOn (opened_with running.carried.setting found) running.host.log.forced
    on = subst (λ (l : LogValue (FusedValue D)). GoesOn (opened_with running.carried.setting found) l.forced) same
        (subst (λ (r : Recovered). GoesOn (opened_with running.carried.setting r) log.forced) (sym is) (goes_on_first running.carried.setting log.forced log.waiting none))

-- ---- a restart

pub disk_restarted : {D : Type 0} (restarted : Restarted D Files NoServer) → restarted_disk restarted ≡ disk_of (state_after restarted)
disk_restarted (restarts.Up running) = refl
disk_restarted (restarts.Down stopped why) = refl

pub if_up : {D F X : Type 0} (restarted : Restarted D F X) (P : LogValue (FusedValue D) → Type 0) (log : LogValue (FusedValue D)) → IfUp restarted (λ new. new ≡ log)
    → P log → IfUp restarted P
if_up (restarts.Up running) P log is p = subst P (sym is) p
if_up (restarts.Down stopped why) P log is p = tt

pub found_all : {D : Type 0} (log : LogValue (FusedValue D)) (P : List Record → List Record → Type 0) → log.waiting ≡ []
    → ((a b : List Record) → P a b → (log.forced ≡ a) ⊎ (log.forced ≡ b)) → (a b : List Record) → P a b → (records_of log ≡ a) ⊎ (records_of log ≡ b)
found_all log P none found a b p = elim (found a b p) [ inl left ↦ inl (all ∙ left) | inr right ↦ inr (all ∙ right) ]
  where
    all : records_of log ≡ log.forced
    all = ap (λ (waiting : List Record). log.forced ++ waiting) none ∙ append-nil log.forced

pub restarts_of : {D : Type 0} (told : Type 0) (state : D → DiskState) (own size : D → ℕ) (alloc : Global) (old : Stopped D) (restarted : Restarted D Files NoServer)
    (new : CellState D) (answer : Result Bool RestartFault) → IsRestarted own alloc old restarted → new ≡ state_after restarted → answer ≡ answer_after restarted
    → (told → IfUp restarted (IsReopened (state old.disk.disk)))
    → (told → IfUp restarted (λ log. (a b : List Record) → EachImage (HasOneOf a b) (state old.disk.disk).now → (records_of log ≡ a) ⊎ (records_of log ≡ b)))
    → (told → (a b : List Record) → EachImage (HasOneOf a b) (state old.disk.disk).now
    → Keeps (HasOneOf a b) (state old.disk.disk) (state (restarted_disk restarted).disk))
    → (told → IfUp restarted (λ log. Stands log (state log.disk.disk)))
    → (told → Keeps (IsLeftOrRaised (state old.disk.disk)) (state old.disk.disk) (state (restarted_disk restarted).disk))
    → (told → IfDamaged restarted (state old.disk.disk))
    → GoesOnFuse (mended old.disk.fuse) (restarted_disk restarted).fuse → size (restarted_disk restarted).disk ≡ size old.disk.disk → Restarts told state own size alloc old new answer
restarts_of {D} told state own size alloc old restarted new answer is node said reopened found moments stands touched damaged goes bytes = record {
  restarted = restarted;
  is = is;
  node = node;
  said = said;
  reopened = reopened;
  found = found;
  moments = λ yes a b here. subst (λ (d : FusedValue D). Keeps (HasOneOf a b) (state old.disk.disk) (state d.disk)) same (moments yes a b here);
  stands = stands;
  touched = λ yes. subst (λ (d : FusedValue D). Keeps (IsLeftOrRaised (state old.disk.disk)) (state old.disk.disk) (state d.disk)) same (touched yes);
  damaged = λ yes. damage_told (state old.disk.disk) restarted answer said (damaged yes);
  goes = subst (λ (d : FusedValue D). GoesOnFuse (mended old.disk.fuse) d.fuse) same goes;
  bytes = subst (λ (d : FusedValue D). size d.disk ≡ size old.disk.disk) same bytes;
}
  where
    same : restarted_disk restarted ≡ disk_of new
    same = disk_restarted restarted ∙ ap (λ (n : CellState D). disk_of n) (sym node)

pub stands_restarted : {D : Type 0} (state : D → DiskState) (restarted : Restarted D Files NoServer) → IfUp restarted (λ log. Stands log (state log.disk.disk))
    → LogStands state (state_after restarted)
stands_restarted state (restarts.Up running) stands = stands
stands_restarted state (restarts.Down stopped why) stands = tt

pub allowed_restarted : {D : Type 0} (own : D → ℕ) (alloc : Global) (old : Stopped D) (restarted : Restarted D Files NoServer) → IsRestarted own alloc old restarted
    → IsAllowed old.carried → IsAllowed (carried_of (state_after restarted))
allowed_restarted own alloc old (restarts.Up running) is allowed =
    allowed_by running.carried (record old.carried.setting { inc = inc_of running.host.log }) is.setting allowed.batch allowed.keep allowed.nodes allowed.node
allowed_restarted own alloc old (restarts.Down stopped why) is allowed = allowed_by stopped.carried old.carried.setting is.0.setting allowed.batch allowed.keep allowed.nodes allowed.node
