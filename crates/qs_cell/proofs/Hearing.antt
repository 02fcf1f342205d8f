-- What stands of a node after a packet came to it.
use Rattle.std.proofs.Common.{◌≡◌, ◌∙◌, ap, subst, sym, refl, ℕ, List}
use Rattle.std.specs.Prelude.{Option, []}
use Rattle.qs_book_journal.specs.declared.entry.CrashCause.{CrashCause}
use Rattle.qs_disk.specs.Disk.{DiskState}
use Rattle.qs_disk.specs.Fuse.{FusedValue}
use Rattle.qs_files.specs.declared.files.Files.{Files}
use Rattle.qs_log.specs.Log.{Stands}
use Rattle.qs_book_machine.specs.declared.opened.Opened.{Opened}
use Rattle.qs_ops.specs.declared.no_server.NoServer.{NoServer}
use Rattle.qs_packet.specs.declared.packet.Packet.{Packet}
use Rattle.qs_node_step.specs.declared.event.ClientAnswer.{ClientAnswer}
use Rattle.qs_cell_chronicle.specs.Carried.{Seen}
use Rattle.qs_cell_chronicle.specs.Chronicle.{Told}
use Rattle.qs_cell_chronicle.specs.declared.occasion.Occasion.{Occasion}
use Rattle.qs_cell_chronicle.specs.declared.occasion.Occasion.TheVariants as occasions
use Rattle.qs_cell_peers.specs.declared.heard.Heard.{Heard}
use Rattle.qs_cell_peers.specs.declared.heard.Heard.TheVariants as heards
use Rattle.qs_cell.specs.Asides.{IsAsideOutcome, aside_outcome}
use Rattle.qs_cell.specs.Hearing.{HandsUp, HasTakenIn, SetsAside, TakesIn}
use Rattle.qs_cell.specs.Logged.{GoesOn, IsLogged, StandsWithin}
use Rattle.qs_cell.specs.Outcomes.{Outcome}
use Rattle.qs_cell.specs.Outcomes as outcomes
use Rattle.qs_cell.specs.Starts.{IsSound, LogGoesOn}
use Rattle.qs_cell.specs.State.{LogStands, Up, answers_of, carried_of, disk_of, rounds_of, state_of}
use Rattle.qs_cell.specs.Visits.{Grows, MakesIn, entries_in}
use Rattle.qs_cell.specs.declared.state.CellState.{CellState}
use Rattle.qs_cell.specs.declared.stopped.Stopped.{Stopped}
use Rattle.qs_cell.specs.declared.state.CellState.TheVariants as states
use Rattle.qs_cell.proofs.Growing.{entries_same, grows_on, made_in, past_same}
use Rattle.qs_cell.proofs.Logging.{logged_made, made_on}
use Rattle.qs_cell.proofs.Reopening.{made_rounds, rounds_past, within_made}
use Rattle.qs_cell.proofs.Standing.{sound_after}

-- ---- a packet aside

-- the node and its disk stay
record Stays {D : Type 0} (old : Up D) (new : CellState D) : Type 0 where
  disk : disk_of new ≡ old.host.log.disk
  rounds : rounds_of new ≡ old.carried.chronicle.told.rounds
  entries : Grows old.carried.chronicle.told.journal (entries_in new)

aside_stays : {D : Type 0} (packet : Packet) (old : Up D) (outcome : Outcome D Files NoServer) → IsAsideOutcome packet old outcome → Stays old (state_of outcome)
aside_stays packet old (outcomes.Whole running answers) is = record {
  disk = ap (λ h. h.log.disk) is.0.host;
  rounds = ap (λ (s : Seen). s.told.rounds) is.0.seen ∙ rounds_past packet.stamp old.carried.chronicle.told;
  entries = past_same packet.stamp old.carried.chronicle.told running.carried.chronicle.told.journal _ (ap (λ (s : Seen). s.told.journal) is.0.seen);
}
aside_stays packet old (outcomes.Replaced stopped) is = record {
  disk = is.disk;
  rounds = ap (λ (t : Told). t.rounds) is.told ∙ rounds_past packet.stamp old.carried.chronicle.told;
  entries = past_same packet.stamp old.carried.chronicle.told stopped.carried.chronicle.told.journal _ (ap (λ (t : Told). t.journal) is.told);
}
aside_stays packet old (outcomes.Followed stopped answers) is = absurd is
aside_stays packet old (outcomes.CutOff stopped) is = absurd is

aside_on : {D : Type 0} (opened : Opened) (packet : Packet) (old : Up D) (outcome : Outcome D Files NoServer) → IsAsideOutcome packet old outcome → GoesOn opened old.host.log.forced
    → LogGoesOn opened (state_of outcome)
aside_on opened packet old (outcomes.Whole running answers) is on = subst (λ h. GoesOn opened h.log.forced) (sym is.0.host) on
aside_on opened packet old (outcomes.Replaced stopped) is on = tt
aside_on opened packet old (outcomes.Followed stopped answers) is on = absurd is
aside_on opened packet old (outcomes.CutOff stopped) is on = absurd is

aside_stands : {D : Type 0} (state : D → DiskState) (packet : Packet) (old : Up D) (outcome : Outcome D Files NoServer) → IsAsideOutcome packet old outcome
    → Stands old.host.log (state old.host.log.disk.disk) → LogStands state (state_of outcome)
aside_stands state packet old (outcomes.Whole running answers) is stands = subst (λ h. Stands h.log (state h.log.disk.disk)) (sym is.0.host) stands
aside_stands state packet old (outcomes.Replaced stopped) is stands = tt
aside_stands state packet old (outcomes.Followed stopped answers) is stands = absurd is
aside_stands state packet old (outcomes.CutOff stopped) is stands = absurd is

aside_setting : {D : Type 0} (packet : Packet) (old : Up D) (outcome : Outcome D Files NoServer) → IsAsideOutcome packet old outcome
    → (carried_of (state_of outcome)).setting ≡ old.carried.setting
aside_setting packet old (outcomes.Whole running answers) is = is.0.setting
aside_setting packet old (outcomes.Replaced stopped) is = is.setting
aside_setting packet old (outcomes.Followed stopped answers) is = absurd is
aside_setting packet old (outcomes.CutOff stopped) is = absurd is

-- by why it was not made, if it was not
pub set_by : {D : Type 0} (packet : Packet) (before new : CellState D) (old running : Up D) (cause : Option CrashCause) (answers : List ClientAnswer) → before ≡ states.Up old
    → IsAsideOutcome packet old (aside_outcome cause running) → new ≡ state_of (aside_outcome cause running) → answers ≡ answers_of (aside_outcome cause running) → SetsAside packet before new answers
set_by {D} packet before new old running cause answers up is node said =
    subst (λ (n : CellState D). SetsAside packet n new answers) (sym up) (aside_outcome cause running, (is, (node, said)))

pub set_down : {D : Type 0} (packet : Packet) (before : CellState D) (stopped : Stopped D) (answers : List ClientAnswer) → before ≡ states.Down stopped → answers ≡ [] → SetsAside packet before before answers
set_down {D} packet before stopped answers down none = subst (λ (n : CellState D). SetsAside packet n n answers) (sym down) (refl, none)

pub set_stands : {D : Type 0} (state : D → DiskState) (packet : Packet) (old new : CellState D) (answers : List ClientAnswer) → SetsAside packet old new answers
    → LogStands state old → LogStands state new
set_stands state packet (states.Up old) new answers sets stands = subst (LogStands state) (sym sets.1.1.0) (aside_stands state packet old sets.0 sets.1.0 stands)
set_stands state packet (states.Down old) new answers sets stands = subst (LogStands state) (sym sets.0) tt

pub set_setting : {D : Type 0} (packet : Packet) (old new : CellState D) (answers : List ClientAnswer) → SetsAside packet old new answers
    → (carried_of new).setting ≡ (carried_of old).setting
set_setting packet (states.Up old) new answers sets = ap (λ node. (carried_of node).setting) sets.1.1.0 ∙ aside_setting packet old sets.0 sets.1.0
set_setting packet (states.Down old) new answers sets = ap (λ node. (carried_of node).setting) sets.0

-- ---- the sessions take it in

pub heard_setting : {D : Type 0} (packet : Packet) (old new : CellState D) (heard : Heard) → HasTakenIn packet old new heard → (carried_of new).setting ≡ (carried_of old).setting
heard_setting packet (states.Up old) new heard is = ap (λ node. (carried_of node).setting) is.node
heard_setting packet (states.Down old) new heard is = ap (λ node. (carried_of node).setting) is.0

pub heard_stands : {D : Type 0} (state : D → DiskState) (packet : Packet) (old new : CellState D) (heard : Heard) → HasTakenIn packet old new heard → LogStands state old → LogStands state new
heard_stands state packet (states.Up old) new heard is stands = subst (LogStands state) (sym is.node) stands
heard_stands state packet (states.Down old) new heard is stands = subst (LogStands state) (sym is.0) stands

heard_entries : {D : Type 0} (packet : Packet) (old new : CellState D) (heard : Heard) → HasTakenIn packet old new heard → entries_in new ≡ entries_in old
heard_entries packet (states.Up old) new heard is = ap (λ node. entries_in node) is.node
heard_entries packet (states.Down old) new heard is = ap (λ node. entries_in node) is.0

heard_sound : {D : Type 0} (told : Type 0) (state : D → DiskState) (opened : Opened) (packet : Packet) (old new : CellState D) (heard : Heard) → HasTakenIn packet old new heard
    → IsSound told state opened old → IsSound told state opened new
heard_sound {D} told state opened packet (states.Up old) new heard is sound = subst (λ (node : CellState D). IsSound told state opened node) (sym is.node) (record {
  stands = sound.stands;
  allowed = sound.allowed;
  goes_on = sound.goes_on;
  logged = sound.logged;
  within = sound.within;
})
heard_sound {D} told state opened packet (states.Down old) new heard is sound = subst (λ (node : CellState D). IsSound told state opened node) (sym is.0) sound

-- ---- what stands after it

module _ {D : Type 0} (told : Type 0) (state : D → DiskState) (own size : D → ℕ) (opened : Opened) (packet : Packet) where
  made_sound : (occasion : Occasion) (old new : CellState D) (answers : List ClientAnswer) → MakesIn told state own size occasion old new answers → (told → LogStands state new)
      → (carried_of new).setting ≡ (carried_of old).setting → IsSound told state opened old → IsSound told state opened new
  made_sound occasion old new answers makes stands setting sound = sound_after told state opened old new stands
      (made_on told state own size opened occasion old new answers makes sound.goes_on) (logged_made told state own size opened occasion old new answers makes sound.goes_on sound.logged)
      (within_made told state own size occasion old new answers makes sound.stands sound.within) setting sound

  aside_sound : (old new : CellState D) (answers : List ClientAnswer) → SetsAside packet old new answers → (told → LogStands state new)
      → (carried_of new).setting ≡ (carried_of old).setting → IsSound told state opened old → IsSound told state opened new
  aside_sound (states.Up old) new answers sets stands setting sound = sound_after told state opened (states.Up old) new stands
      (λ yes. subst (λ (node : CellState D). LogGoesOn opened node) (sym sets.1.1.0) (aside_on opened packet old sets.0 sets.1.0 (sound.goes_on yes)))
      (λ yes. subst (λ (d : FusedValue D). IsLogged opened (state d.disk).now) (sym disk) (sound.logged yes))
      (λ yes. subst (λ (d : FusedValue D). StandsWithin (rounds_of new) (state d.disk).now) (sym disk)
      (subst (λ (n : ℕ). StandsWithin n (state old.host.log.disk.disk).now) (sym rounds) (sound.within yes))) setting sound
    where
      stays : Stays old (state_of sets.0)
      stays = aside_stays packet old sets.0 sets.1.0

      disk : disk_of new ≡ old.host.log.disk
      disk = ap (λ node. disk_of node) sets.1.1.0 ∙ stays.disk

      rounds : rounds_of new ≡ old.carried.chronicle.told.rounds
      rounds = ap (λ node. rounds_of node) sets.1.1.0 ∙ stays.rounds
  aside_sound (states.Down old) new answers sets stands setting sound = subst (λ (node : CellState D). IsSound told state opened node) (sym sets.0) sound

  hands_sound : (heard : Heard) (old new : CellState D) (answers : List ClientAnswer) → HandsUp told state own size heard packet old new answers → (told → LogStands state new)
      → (carried_of new).setting ≡ (carried_of old).setting → IsSound told state opened old → IsSound told state opened new
  hands_sound heards.Strange old new answers hands stands setting sound = subst (λ (node : CellState D). IsSound told state opened node) (sym hands.0) sound
  hands_sound heards.Aside old new answers hands stands setting sound = aside_sound old new answers hands stands setting sound
  hands_sound heards.Message old new answers hands stands setting sound = made_sound (occasions.Message packet) old new answers hands stands setting sound
  hands_sound (heards.Restarted known) old new answers hands stands setting sound = made_sound (occasions.Restarted packet known) old new answers hands stands setting sound

  pub taken_sound : (old new : CellState D) (answers : List ClientAnswer) → TakesIn told state own size packet old new answers → (told → LogStands state new)
      → (carried_of new).setting ≡ (carried_of old).setting → IsSound told state opened old → IsSound told state opened new
  taken_sound old new answers takes stands setting sound = hands_sound takes.heard takes.mid new answers takes.hands stands
      (setting ∙ sym (heard_setting packet old takes.mid takes.heard takes.takes)) (heard_sound told state opened packet old takes.mid takes.heard takes.takes sound)

-- ---- entries were only added

module _ {D : Type 0} (told : Type 0) (state : D → DiskState) (own size : D → ℕ) (packet : Packet) where
  aside_grows : (old new : CellState D) (answers : List ClientAnswer) → SetsAside packet old new answers → Grows (entries_in old) (entries_in new)
  aside_grows (states.Up old) new answers sets =
      subst (λ (node : CellState D). Grows old.carried.chronicle.told.journal (entries_in node)) (sym sets.1.1.0) (aside_stays packet old sets.0 sets.1.0).entries
  aside_grows (states.Down old) new answers sets = entries_same (states.Down old) new (ap (λ node. entries_in node) sets.0)

  hands_grow : (heard : Heard) (old new : CellState D) (answers : List ClientAnswer) → HandsUp told state own size heard packet old new answers → Grows (entries_in old) (entries_in new)
  hands_grow heards.Strange old new answers hands = entries_same old new (ap (λ node. entries_in node) hands.0)
  hands_grow heards.Aside old new answers hands = aside_grows old new answers hands
  hands_grow heards.Message old new answers hands = made_in told state own size (occasions.Message packet) old new answers hands
  hands_grow (heards.Restarted known) old new answers hands = made_in told state own size (occasions.Restarted packet known) old new answers hands

  pub taken_grows : (old new : CellState D) (answers : List ClientAnswer) → TakesIn told state own size packet old new answers → Grows (entries_in old) (entries_in new)
  taken_grows old new answers takes = grows_on (entries_in old) (entries_in takes.mid) (entries_in new) (entries_same old takes.mid (heard_entries packet old takes.mid takes.heard takes.takes))
      (hands_grow takes.heard takes.mid new answers takes.hands)

  -- ---- and it is no round

  hands_rounds : (heard : Heard) (old new : CellState D) (answers : List ClientAnswer) → HandsUp told state own size heard packet old new answers → rounds_of new ≡ rounds_of old
  hands_rounds heards.Strange old new answers hands = ap (λ node. rounds_of node) hands.0
  hands_rounds heards.Aside (states.Up old) new answers sets = ap (λ node. rounds_of node) sets.1.1.0 ∙ (aside_stays packet old sets.0 sets.1.0).rounds
  hands_rounds heards.Aside (states.Down old) new answers sets = ap (λ node. rounds_of node) sets.0
  hands_rounds heards.Message old new answers hands = made_rounds told state own size (occasions.Message packet) old new answers hands
  hands_rounds (heards.Restarted known) old new answers hands = made_rounds told state own size (occasions.Restarted packet known) old new answers hands

  heard_rounds : (old new : CellState D) (heard : Heard) → HasTakenIn packet old new heard → rounds_of new ≡ rounds_of old
  heard_rounds (states.Up old) new heard is = ap (λ node. rounds_of node) is.node
  heard_rounds (states.Down old) new heard is = ap (λ node. rounds_of node) is.0

  pub taken_rounds : (old new : CellState D) (answers : List ClientAnswer) → TakesIn told state own size packet old new answers → rounds_of new ≡ rounds_of old
  taken_rounds old new answers takes = hands_rounds takes.heard takes.mid new answers takes.hands ∙ heard_rounds old takes.mid takes.heard takes.takes
