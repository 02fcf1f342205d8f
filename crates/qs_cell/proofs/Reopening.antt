-- A log never opens as damaged where its node starts again: how far its slots stand, after an event and after a restart.
use Rattle.std.proofs.Common.{◌≡◌, ◌∙◌, ◌≤◌, ◌<◌, ◌+◌, ap, subst, sym, refl, ℕ, Bool, true, false, nat_lt, List, [], ◌∷◌, arith}
use Rattle.std.proofs.lemmas.Bool.{ltb-false, ltb-true}
use Rattle.std.specs.Global.{Global}
use Rattle.std.specs.Prelude.{Result, Err, max, if◌then◌else◌}
use Rattle.qs_disk.specs.Disk.{DiskState, EachImage, Frame, IsStill, Matches}
use Rattle.qs_files.specs.declared.files.Files.{Files}
use Rattle.qs_log_start.proofs.Beginning.{has_below, left_stand, never_damaged}
use Rattle.qs_log_start.specs.Incarnation.{IsLeftDamaged, reopen_limit}
use Rattle.qs_log_start.specs.declared.counts.FaultCounts.{FaultCounts}
use Rattle.qs_log_start.specs.declared.incarnation.ReopenFault.TheVariants as reopen_faults
use Rattle.qs_disk.specs.Fuse.{FusedValue}
use Rattle.qs_log.specs.Log.{LogValue}
use Rattle.qs_book_machine.specs.declared.opened.Opened.{Opened}
use Rattle.qs_ops.specs.declared.no_server.NoServer.{NoServer}
use Rattle.qs_slot.proofs.Limits.{stand_below}
use Rattle.qs_slot.specs.Slot.{StandBelow}
use Rattle.qs_node_step.specs.declared.event.ClientAnswer.{ClientAnswer}
use Rattle.qs_cell_chronicle.specs.Carried.{Seen, seen}
use Rattle.qs_cell_chronicle.specs.Chronicle.{Told, counted, in_round, is_last, is_last_past, numbered, stamped}
use Rattle.qs_cell_chronicle.specs.declared.carried.Carried.{Carried}
use Rattle.qs_cell_chronicle.specs.Occasions.{stamp_in}
use Rattle.qs_cell_chronicle.specs.declared.occasion.Occasion.{Occasion}
use Rattle.qs_cell.specs.Acts.{in_act_as}
use Rattle.qs_cell.specs.Cell.{IsOutcome, begun, begun_past, labels_of, out_of, stepped}
use Rattle.qs_cell.specs.Logged.{IsLogged, StandsWithin, limit_after, most_rounds}
use Rattle.qs_cell.specs.Outcomes.{Outcome}
use Rattle.qs_cell.specs.Outcomes as outcomes
use Rattle.qs_cell.specs.Restart.{IfDamaged, IsRestarted, in_round_as}
use Rattle.qs_cell.specs.State.{LogStands, StartsAgain, Up, answer_after, disk_of, rounds_of, state_after, state_of}
use Rattle.qs_cell.specs.Visits.{MakesIn}
use Rattle.qs_cell.specs.Within.{Begins}
use Rattle.qs_cell.specs.declared.state.CellState.{CellState}
use Rattle.qs_cell.specs.declared.state.CellState.TheVariants as states
use Rattle.qs_cell.specs.declared.state.RestartFault.{RestartFault}
use Rattle.qs_cell.specs.declared.state.RestartFault.TheVariants as restart_faults
use Rattle.qs_cell.specs.declared.stopped.Rest.{Rest}
use Rattle.qs_cell.specs.declared.stopped.Restarted.{Restarted}
use Rattle.qs_cell.specs.declared.stopped.Restarted.TheVariants as restarts
use Rattle.qs_cell.specs.declared.stopped.Stopped.{Stopped}

-- ---- what is seen changes alone

-- the rounds do not get fewer
abbrev pub RoundsGrow : (Seen → Seen) → Type 0
RoundsGrow f = (s : Seen) → (f s).told.rounds ≤ most_rounds → s.told.rounds ≤ (f s).told.rounds

pub rounds_stay : RoundsGrow (λ s. s)
rounds_stay s few = omega arith

pub round_begins : RoundsGrow in_round_as
round_begins s few = omega (arith, few)

pub act_begins : RoundsGrow in_act_as
act_begins s few = omega arith

pub within_seen : (f : Seen → Seen) → RoundsGrow f → (a b : Carried) → seen b ≡ f (seen a) → (frame : Frame) → StandsWithin a.chronicle.told.rounds frame
    → StandsWithin b.chronicle.told.rounds frame
within_seen f grows a b is frame within few =
    let same : b.chronicle.told.rounds ≡ (f (seen a)).told.rounds = ap (λ (s : Seen). s.told.rounds) is in
    let more : a.chronicle.told.rounds ≤ (f (seen a)).told.rounds = grows (seen a) (omega (arith, same, few)) in
    λ image here. stand_below (limit_after a.chronicle.told.rounds) (limit_after b.chronicle.told.rounds) image (omega (arith, same, more))
    (within (omega (arith, same, more, few)) image here)

-- ---- an event

rounds_stamped : (told : Told) → (stamped told).rounds ≡ told.rounds
rounds_stamped told = by (is_last told)
  where
    by : (last : Bool) → (if last then told else record told { stamp = told.stamp + 1 }).rounds ≡ told.rounds
    by true = refl
    by false = refl

-- a stamp past another one, and a number
pub rounds_past : (other : ℕ) (told : Told) → (begun_past other told).rounds ≡ told.rounds
rounds_past other told = by (is_last_past other told)
  where
    by : (last : Bool) → (if last then numbered told else record (numbered told) { stamp = max told.stamp other + 1 }).rounds ≡ told.rounds
    by true = refl
    by false = refl

rounds_begun : (occasion : Occasion) (told : Told) → (begun occasion told).rounds ≡ told.rounds
rounds_begun occasion told = rounds_past (stamp_in occasion) told

-- it is no round
outcome_rounds : {D : Type 0} (own : D → ℕ) (size : ℕ) (occasion : Occasion) (old : Up D) (outcome : Outcome D Files NoServer) → IsOutcome own size occasion old outcome
    → rounds_of (state_of outcome) ≡ old.carried.chronicle.told.rounds
outcome_rounds own size occasion old (outcomes.Whole running answers) is = ap (λ (s : Seen). s.told.rounds) is.seen ∙ rounds_begun occasion old.carried.chronicle.told
outcome_rounds own size occasion old (outcomes.Followed stopped answers) is =
    ap (λ (s : Seen). s.told.rounds) is.seen ∙ rounds_stamped (stepped occasion old.carried.setting.inc (labels_of size occasion old) (out_of size occasion old) is.put (seen old.carried)).told
    ∙ rounds_begun occasion old.carried.chronicle.told
outcome_rounds own size occasion old (outcomes.Replaced stopped) is = ap (λ (t : Told). t.rounds) is.told ∙ rounds_begun occasion old.carried.chronicle.told
outcome_rounds own size occasion old (outcomes.CutOff stopped) is = ap (λ (t : Told). t.rounds) is.told ∙ rounds_begun occasion old.carried.chronicle.told

-- the content of a disk that is still is an image
matches_itself : (stable : List ℕ) (loose : List Bool) → Matches stable loose stable
matches_itself [] loose = refl
matches_itself (byte ∷ stable) [] = refl
matches_itself (byte ∷ stable) (true ∷ loose) = matches_itself stable loose
matches_itself (byte ∷ stable) (false ∷ loose) = (refl, matches_itself stable loose)

content_stands : (limit : ℕ) (s : DiskState) → IsStill s → EachImage (StandBelow limit) s.now → StandBelow limit s.content
content_stands limit s still here =
    let it = matches_itself s.now.stable s.now.loose in
    subst (StandBelow limit) (still s.now.stable it) (here s.now.stable it)

module _ {D : Type 0} (told : Type 0) (state : D → DiskState) (own size : D → ℕ) where
  pub made_rounds : (occasion : Occasion) (old new : CellState D) (answers : List ClientAnswer) → MakesIn told state own size occasion old new answers → rounds_of new ≡ rounds_of old
  made_rounds occasion (states.Up old) new answers makes = ap (λ (n : CellState D). rounds_of n) makes.node ∙ outcome_rounds own (size old.host.log.disk.disk) occasion old makes.outcome makes.is
  made_rounds occasion (states.Down old) new answers makes = ap (λ (n : CellState D). rounds_of n) makes.0

  pub within_made : (occasion : Occasion) (old new : CellState D) (answers : List ClientAnswer) → MakesIn told state own size occasion old new answers
      → (told → LogStands state old) → (told → StandsWithin (rounds_of old) (state (disk_of old).disk).now) → told → StandsWithin (rounds_of new) (state (disk_of new).disk).now
  within_made occasion (states.Up old) new answers makes stands within is_told few =
      let same : rounds_of new ≡ old.carried.chronicle.told.rounds = made_rounds occasion (states.Up old) new answers makes in
      let here : StandBelow (limit_after old.carried.chronicle.told.rounds) (state old.host.log.disk.disk).content =
      content_stands (limit_after old.carried.chronicle.told.rounds) (state old.host.log.disk.disk) (stands is_told).still (within is_told (omega (arith, same, few))) in
      λ image is. subst (λ (n : ℕ). StandBelow (limit_after n) image) (sym same)
      (here.0, (makes.header is_told).here image is (limit_after old.carried.chronicle.told.rounds) ∙ here.1)
  within_made occasion (states.Down old) new answers makes stands within is_told few =
      subst (λ (n : CellState D). StandsWithin (rounds_of n) (state (disk_of n).disk).now) (sym makes.0) (within is_told) few

  -- ---- a restart

  pub restart_rounds : (alloc : Global) (old : Stopped D) (restarted : Restarted D Files NoServer) → IsRestarted own alloc old restarted
      → rounds_of (state_after restarted) ≡ counted old.carried.chronicle.told.rounds
  restart_rounds alloc old (restarts.Up running) is = ap (λ (s : Seen). s.told.rounds) is.seen ∙ rounds_stamped (in_round old.carried.chronicle.told)
  restart_rounds alloc old (restarts.Down stopped why) is = ap (λ (s : Seen). s.told.rounds) is.0.seen

  pub within_again : (alloc : Global) (old new : CellState D) (answer : Result Bool RestartFault) → StartsAgain told state own size alloc old new answer
      → (told → StandsWithin (rounds_of old) (state (disk_of old).disk).now) → told → StandsWithin (rounds_of new) (state (disk_of new).disk).now
  within_again alloc (states.Up running) new answer starts within is_told few =
      subst (λ (n : CellState D). StandsWithin (rounds_of n) (state (disk_of n).disk).now) (sym starts.0) (within is_told) few
  within_again alloc (states.Down stopped) new answer starts within is_told few =
      let rounds : ℕ = stopped.carried.chronicle.told.rounds in
      let same : rounds_of new ≡ counted rounds = ap (λ (n : CellState D). rounds_of n) starts.node ∙ restart_rounds alloc stopped starts.restarted starts.is in
      let more : rounds_of new ≡ rounds + 1 = omega (arith, same, few) in
      let next : limit_after rounds + 1 ≡ limit_after (rounds_of new) = omega (arith, more) in
      subst (λ (limit : ℕ). EachImage (StandBelow limit) (state (disk_of new).disk).now) next
      (left_stand (limit_after rounds) (state stopped.disk.disk) (state stopped.disk.disk) (state (disk_of new).disk) (omega arith) (omega (arith, more, few))
      (within is_told (omega (arith, more, few))) (starts.touched is_told)).here

  late : (rounds : ℕ) → (rounds ≤ most_rounds → ⊥) → most_rounds < rounds
  late rounds never = by (nat_lt most_rounds rounds) refl
    where
      by : (b : Bool) → nat_lt most_rounds rounds ≡ b → most_rounds < rounds
      by true e = ltb-true most_rounds rounds e
      by false e = absurd (never (ltb-false most_rounds rounds e))

  -- where a restart tells damage, that many rounds are over
  pub damaged_late : (alloc : Global) (opened : Opened) (old new : CellState D) (answer : Result Bool RestartFault) → StartsAgain told state own size alloc old new answer
      → (told → IsLogged opened (state (disk_of old).disk).now) → (told → StandsWithin (rounds_of old) (state (disk_of old).disk).now) → told
      → (at : ℕ) → answer ≡ Err (restart_faults.Damaged at) → most_rounds < rounds_of old
  damaged_late alloc opened (states.Up running) new answer starts logged within is_told at is = absurd (cc (sym starts.1 ∙ is))
  damaged_late alloc opened (states.Down stopped) new answer starts logged within is_told at is =
      late stopped.carried.chronicle.told.rounds (λ few. never_damaged (state stopped.disk.disk) ⊥ at
      (λ image left. has_below reopen_limit (logged is_told).first (logged is_told).other image ((logged is_told).each image left)
      (stand_below (limit_after stopped.carried.chronicle.told.rounds) reopen_limit image (omega (arith, few)) (within is_told few image left)))
      (starts.damaged is_told at is))

-- ---- what a restart tells of damage

-- a node whose log was opened tells none
pub begun_sound : {D F X : Type 0} (own : D → ℕ) (alloc : Global) (log : LogValue (FusedValue D)) (rest : Rest) (before : FaultCounts) (restarted : Restarted D F X) (old : DiskState)
    → Begins own alloc log rest before restarted → IfDamaged restarted old
begun_sound own alloc log rest before (restarts.Up running) old begins = tt
begun_sound own alloc log rest before (restarts.Down stopped why) old left = λ at is. absurd (left.sound at is)

-- the answer tells what the restart told
pub damage_told : {D : Type 0} (old : DiskState) (restarted : Restarted D Files NoServer) (answer : Result Bool RestartFault) → answer ≡ answer_after restarted
    → IfDamaged restarted old → (at : ℕ) → answer ≡ Err (restart_faults.Damaged at) → IsLeftDamaged old at
damage_told old (restarts.Up running) answer said damaged at is = absurd (cc (sym said ∙ is))
damage_told old (restarts.Down stopped reopen_faults.Tripped) answer said damaged at is = absurd (cc (sym said ∙ is))
damage_told old (restarts.Down stopped reopen_faults.DiskFailed) answer said damaged at is = absurd (cc (sym said ∙ is))
damage_told old (restarts.Down stopped reopen_faults.NoMemory) answer said damaged at is = absurd (cc (sym said ∙ is))
damage_told old (restarts.Down stopped (reopen_faults.Damaged place)) answer said damaged at is = damaged at (cc (sym said ∙ is))
