-- Each image of a node's disk has a log that goes on from what it was started with: after an event, after a restart and as the
-- node begins.
use Rattle.std.proofs.Common.{◌≡◌, ◌⊎◌, ◌∙◌, subst, sym, ap, refl, inl, inr, Bool, true, false, List, [], ◌++◌, append_assoc, append-nil, ℕ}
use Rattle.std.specs.Prelude.{Result}
use Rattle.std.specs.Global.{Global}
use Rattle.qs_disk.specs.Disk.{DiskState, Frame, EachImage}
use Rattle.qs_disk.specs.Fuse.{FusedValue}
use Rattle.qs_files.specs.declared.files.Files.{Files}
use Rattle.qs_node_host.specs.Host.{IsLogAfter, appended, forced_if, log_after}
use Rattle.qs_log_start.specs.Incarnation.{HasLogOf, HasOneOf, IsReopened}
use Rattle.qs_log.specs.Image.{IsLog}
use Rattle.qs_log.specs.Log.{LogValue, Stands, records_of}
use Rattle.qs_book_machine.specs.declared.opened.Opened.{Opened}
use Rattle.qs_ops.specs.declared.no_server.NoServer.{NoServer}
use Rattle.qs_record.specs.declared.record.Record.{Record}
use Rattle.qs_slot.specs.Slot.{Present}
use Rattle.qs_node_step.specs.Opening.{recovered_of}
use Rattle.qs_node_step.specs.declared.event.ClientAnswer.{ClientAnswer}
use Rattle.qs_node_step.specs.declared.event.Effects.{Effects}
use Rattle.qs_node_step.specs.declared.setting.Setting.{Setting}
use Rattle.qs_world.specs.Histories.{opened_with}
use Rattle.qs_cell_chronicle.specs.declared.occasion.Occasion.{Occasion}
use Rattle.qs_cell.specs.Cell.{IsOutcome, out_of}
use Rattle.qs_cell.specs.Logged.{GoesOn, HasLog, IsLogged}
use Rattle.qs_cell.specs.Restart.{IfUp}
use Rattle.qs_cell.specs.Starts.{LogGoesOn}
use Rattle.qs_cell.specs.State.{StartsAgain, Up, disk_of, state_after, state_of}
use Rattle.qs_cell.specs.Visits.{MakesIn}
use Rattle.qs_cell.specs.Outcomes.{Outcome}
use Rattle.qs_cell.specs.Outcomes as outcomes
use Rattle.qs_cell.specs.declared.state.CellState.{CellState}
use Rattle.qs_cell.specs.declared.state.CellState.TheVariants as states
use Rattle.qs_cell.specs.declared.state.RestartFault.{RestartFault}
use Rattle.qs_cell.specs.declared.stopped.Restarted.{Restarted}
use Rattle.qs_cell.specs.declared.stopped.Restarted.TheVariants as restarts

-- ---- records that go on

pub goes_on_with : (opened : Opened) (records next : List Record) → GoesOn opened records → GoesOn opened (records ++ next)
goes_on_with opened records next on = record {
  first = on.first;
  old = on.old;
  more = on.more ++ next;
  is = ap (λ (l : List Record). l ++ next) on.is ∙ append_assoc on.old on.more next;
  says = on.says;
}

-- as the node begins none waits, and all say what the machine opens with
pub goes_on_first : (first : Setting) (forced waiting : List Record) → waiting ≡ [] → GoesOn (opened_with first (recovered_of (forced ++ waiting))) forced
goes_on_first first forced waiting none = record {
  first = first;
  old = forced ++ waiting;
  more = [];
  is = sym (append-nil (forced ++ waiting) ∙ (ap (λ (l : List Record). forced ++ l) none ∙ append-nil forced));
  says = refl;
}

-- a step forces none, or these and more
forced_on : {D : Type 0} (opened : Opened) (log : LogValue D) → GoesOn opened log.forced → (due : Bool) → GoesOn opened (forced_if due log).forced
forced_on opened log on true = goes_on_with opened log.forced log.waiting on
forced_on opened log on false = on

step_on : {D : Type 0} (opened : Opened) (out : Effects) (log : LogValue D) → GoesOn opened log.forced → GoesOn opened (log_after out log).forced
step_on opened out log on = forced_on opened (appended out.records log) on out.force

after_on : {D : Type 0} (opened : Opened) (out : Effects) (old new : LogValue D) → IsLogAfter out old new → GoesOn opened old.forced → GoesOn opened new.forced
after_on {D} opened out old new is on = subst (λ (log : LogValue D). GoesOn opened log.forced) (sym is) (step_on opened out old on)

outcome_on : {D : Type 0} (own : D → ℕ) (size : ℕ) (opened : Opened) (occasion : Occasion) (old : Up D) (outcome : Outcome D Files NoServer) → IsOutcome own size occasion old outcome
    → GoesOn opened old.host.log.forced → LogGoesOn opened (state_of outcome)
outcome_on own size opened occasion old (outcomes.Whole running answers) is on = after_on opened (out_of size occasion old) old.host.log running.host.log is.log on
outcome_on own size opened occasion old (outcomes.Followed stopped answers) is on = tt
outcome_on own size opened occasion old (outcomes.Replaced stopped) is on = tt
outcome_on own size opened occasion old (outcomes.CutOff stopped) is on = tt

pub made_on : {D : Type 0} (told : Type 0) (state : D → DiskState) (own size : D → ℕ) (opened : Opened) (occasion : Occasion) (old new : CellState D) (answers : List ClientAnswer)
    → MakesIn told state own size occasion old new answers → (told → LogGoesOn opened old) → told → LogGoesOn opened new
made_on {D} told state own size opened occasion (states.Up old) new answers makes on is_told =
    subst (λ (node : CellState D). LogGoesOn opened node) (sym makes.node) (outcome_on own (size old.host.log.disk.disk) opened occasion old makes.outcome makes.is (on is_told))
made_on {D} told state own size opened occasion (states.Down old) new answers makes on is_told =
    subst (λ (node : CellState D). LogGoesOn opened node) (sym makes.0) tt

-- a log that was opened again has the records of one of two
again_on : {D : Type 0} (opened : Opened) (before : DiskState) (restarted : Restarted D Files NoServer) (logged : IsLogged opened before.now) → IfUp restarted (IsReopened before)
    → IfUp restarted (λ log. (a b : List Record) → EachImage (HasOneOf a b) before.now → (records_of log ≡ a) ⊎ (records_of log ≡ b)) → LogGoesOn opened (state_after restarted)
again_on {D} opened before (restarts.Up running) logged reopened found = by (found logged.first logged.other logged.each)
  where
    log : LogValue (FusedValue D)
    log = running.host.log

    all : records_of log ≡ log.forced
    all = ap (λ (waiting : List Record). log.forced ++ waiting) reopened.raised.waiting ∙ append-nil log.forced

    by : (records_of log ≡ logged.first) ⊎ (records_of log ≡ logged.other) → GoesOn opened log.forced
    by (inl is) = subst (GoesOn opened) (sym is ∙ all) logged.first_on
    by (inr is) = subst (GoesOn opened) (sym is ∙ all) logged.other_on
again_on opened before (restarts.Down stopped why) logged reopened found = tt

pub restart_on : {D : Type 0} (told : Type 0) (state : D → DiskState) (own size : D → ℕ) (alloc : Global) (opened : Opened) (old new : CellState D) (answer : Result Bool RestartFault)
    → StartsAgain told state own size alloc old new answer → (told → IsLogged opened (state (disk_of old).disk).now) → (told → LogGoesOn opened old) → told → LogGoesOn opened new
restart_on {D} told state own size alloc opened (states.Up running) new answer starts logged on is_told =
    subst (λ (node : CellState D). LogGoesOn opened node) (sym starts.0) (on is_told)
restart_on {D} told state own size alloc opened (states.Down stopped) new answer starts logged on is_told =
    subst (λ (node : CellState D). LogGoesOn opened node) (sym starts.node)
    (again_on opened (state stopped.disk.disk) starts.restarted (logged is_told) (starts.reopened is_told) (starts.found is_told))

-- ---- images

of_records : (present : Present) (records : List Record) (used : ℕ) (image : List ℕ) → IsLog present records used image → HasLogOf records image
of_records present records used image log = record { present = present; used = used; log = log }

pub has_log : (opened : Opened) (frame : Frame) → IsLogged opened frame → EachImage (HasLog opened) frame
has_log opened frame logged = λ image is. elim (logged.each image is) [
  | inl first ↦ record { present = first.present; records = logged.first; used = first.used; log = first.log; goes_on = logged.first_on }
  | inr other ↦ record { present = other.present; records = logged.other; used = other.used; log = other.log; goes_on = logged.other_on }
]

-- a log that stands is that of the only image
pub logged_stands : {D : Type 0} (opened : Opened) (log : LogValue D) (s : DiskState) → Stands log s → GoesOn opened log.forced → IsLogged opened s.now
logged_stands opened log s stands on = record {
  first = log.forced;
  other = log.forced;
  first_on = on;
  other_on = on;
  each = λ image is. inl (of_records log.slots.present log.forced log.used image
      (subst (IsLog log.slots.present log.forced log.used) (sym (stands.still image is)) stands.forced));
}

-- each image has the records of before the event, or those of after it
pub logged_made : {D : Type 0} (told : Type 0) (state : D → DiskState) (own size : D → ℕ) (opened : Opened) (occasion : Occasion) (old new : CellState D) (answers : List ClientAnswer)
    → MakesIn told state own size occasion old new answers → (told → LogGoesOn opened old) → (told → IsLogged opened (state (disk_of old).disk).now) → told → IsLogged opened (state (disk_of new).disk).now
logged_made {D} told state own size opened occasion (states.Up old) new answers makes on logged is_told =
    let out = out_of (size old.host.log.disk.disk) occasion old in
    let after : LogValue (FusedValue D) = log_after out old.host.log in
    record {
      first = old.host.log.forced;
      other = after.forced;
      first_on = on is_told;
      other_on = step_on opened out old.host.log (on is_told);
      each = λ image is. elim ((makes.moments is_told).here image is) [
        | inl before ↦ inl (of_records old.host.log.slots.present old.host.log.forced old.host.log.used image before)
        | inr now ↦ inr (of_records after.slots.present after.forced after.used image now)
      ];
    }
logged_made {D} told state own size opened occasion (states.Down old) new answers makes on logged is_told =
    subst (λ (node : CellState D). IsLogged opened (state (disk_of node).disk).now) (sym makes.0) (logged is_told)

-- a restart leaves no other records than those that images had
pub logged_again : {D : Type 0} (told : Type 0) (state : D → DiskState) (own size : D → ℕ) (alloc : Global) (opened : Opened) (old new : CellState D) (answer : Result Bool RestartFault)
    → StartsAgain told state own size alloc old new answer → (told → IsLogged opened (state (disk_of old).disk).now) → told → IsLogged opened (state (disk_of new).disk).now
logged_again {D} told state own size alloc opened (states.Up running) new answer starts logged is_told =
    subst (λ (node : CellState D). IsLogged opened (state (disk_of node).disk).now) (sym starts.0) (logged is_told)
logged_again {D} told state own size alloc opened (states.Down stopped) new answer starts logged is_told =
    let before = logged is_told in
    record {
      first = before.first;
      other = before.other;
      first_on = before.first_on;
      other_on = before.other_on;
      each = (starts.moments is_told before.first before.other before.each).here;
    }
