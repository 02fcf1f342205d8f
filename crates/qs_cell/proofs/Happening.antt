-- What an event does with the log and leaves on the disk, by its stages.
use Rattle.std.proofs.Common.{◌≡◌, ◌⊎◌, ◌∙◌, ◌-◌, ◌^◌, ap, subst, sym, refl, inl, inr, ℕ, Bool, true, false, List, ◌++◌}
use Rattle.std.specs.Prelude.{◌↔◌, None, if◌then◌else◌}
use Rattle.std.specs.List.{list_any}
use Rattle.qs_base.specs.Causes.{Rose}
use Rattle.qs_base.specs.declared.memory.GrowFault.{GrowFault}
use Rattle.qs_base.specs.declared.memory.GrowFault.TheVariants as grow_faults
use Rattle.qs_base.specs.declared.memory.GrowFault.TheVariants.{Last}
use Rattle.qs_cell_peers.specs.Sessions.{LacksNumber, SessionsValue}
use Rattle.qs_cell_peers.specs.Steps.{Sends}
use Rattle.qs_node_kept.specs.declared.kept.KeptLabel.{KeptLabel}
use Rattle.qs_packet.specs.declared.packet.Packet.{Packet}
use Rattle.qs_disk.specs.Disk.{DiskState}
use Rattle.qs_disk.specs.Fuse.{FusedValue, GoesOn, fused_count}
use Rattle.qs_disk.specs.Moments.{Keeps}
use Rattle.qs_node_host.proofs.Carrying.{unwritten, unwritten_header}
use Rattle.qs_node_host.specs.Host.{HostValue, HasBatch, IsLogAfter, IsOldOrAfter, log_after, effects_at, worked_node}
use Rattle.qs_node_host.specs.Roomy.{LacksRoom}
use Rattle.qs_node_host.specs.declared.fault.HostFault.{HostFault}
use Rattle.qs_node_host.specs.declared.fault.HostFault.TheVariants as faults
use Rattle.qs_book_journal.specs.declared.entry.Act.{Act}
use Rattle.qs_book_journal.specs.declared.entry.CrashCause.{CrashCause}
use Rattle.qs_book_journal.specs.declared.entry.CrashCause.TheVariants as causes
use Rattle.qs_log.specs.Log.{LogValue, Stands}
use Rattle.qs_cell_chronicle.specs.Points.{spent, stops_before}
use Rattle.qs_cell_chronicle.specs.declared.points.Watched.{Watched}
use Rattle.qs_node_step.specs.State.{NodeValue}
use Rattle.qs_node_step.specs.Step.{accept}
use Rattle.qs_slot.specs.Slot.{SayTheSame}
use Rattle.qs_node_step.specs.declared.event.Effects.{Effects}
use Rattle.qs_cell_chronicle.specs.Carried.{seen}
use Rattle.qs_cell_chronicle.specs.Chronicle.{crashed}
use Rattle.qs_cell_chronicle.specs.Occasions.{did_of, event_of, taken}
use Rattle.qs_cell_chronicle.specs.declared.carried.Carried.{Carried}
use Rattle.qs_cell_chronicle.specs.declared.occasion.Occasion.{Occasion}
use Rattle.qs_cell.specs.Cell.{begun, ticks, unsent_cause, IsAsPlanned, IsOutcome, IsPastLast, IsSent, IsUnnumbered, IfStands, IsCutOff, IsFaulted, IsRefused, StandsAfter, disk_after, fault_cause, held_back, is_forestalled, labels_of, may_make, ordered, planned_after, planned_for, out_of, spent_after, IsUnplanned}
use Rattle.qs_cell.specs.Within.{HasBegun, HasCrashed, IsWorkedOut, HasStepped, running_with}
use Rattle.qs_cell.specs.Outcomes.{Outcome, outcome_of, stopped_of}
use Rattle.qs_cell.specs.Outcomes as outcomes
use Rattle.qs_cell.specs.declared.running.Fate.{Fate}
use Rattle.qs_cell.specs.declared.running.Fate.TheVariants as fates
use Rattle.qs_cell.specs.declared.running.Running.{Running}
use Rattle.qs_cell.specs.declared.stopped.Stopped.{Stopped}

-- ---- a disk that nothing was written to

pub untouched : {D : Type 0} (out : Effects) (log : LogValue (FusedValue D)) (state : D → DiskState) (disk : FusedValue D) → disk ≡ log.disk
    → Stands log (state log.disk.disk) → Keeps (IsOldOrAfter out log) (state log.disk.disk) (state disk.disk)
untouched {D} out log state disk is stands =
    unwritten log (log_after out log) (state log.disk.disk) (state disk.disk) (ap (λ (d : FusedValue D). state d.disk) is) stands

-- and slots that say the same
pub untouched_header : {D : Type 0} (log : LogValue (FusedValue D)) (state : D → DiskState) (disk : FusedValue D) → disk ≡ log.disk → Stands log (state log.disk.disk)
    → Keeps (SayTheSame (state log.disk.disk).content) (state log.disk.disk) (state disk.disk)
untouched_header {D} log state disk is stands =
    unwritten_header (state log.disk.disk) (state disk.disk) (ap (λ (d : FusedValue D). state d.disk) is) stands.still

pub header_as : {D : Type 0} (state : D → DiskState) (disk : FusedValue D) (mid log : LogValue (FusedValue D)) → mid ≡ log
    → Keeps (SayTheSame (state mid.disk.disk).content) (state mid.disk.disk) (state disk.disk) → Keeps (SayTheSame (state log.disk.disk).content) (state log.disk.disk) (state disk.disk)
header_as {D} state disk mid log same keeps =
    subst (λ (l : LogValue (FusedValue D)). Keeps (SayTheSame (state l.disk.disk).content) (state l.disk.disk) (state disk.disk)) same keeps

-- the log is the same one all along
pub disk_of_log : {D : Type 0} (left : FusedValue D) (mid old : LogValue (FusedValue D)) → left ≡ mid.disk → mid ≡ old → left ≡ old.disk
disk_of_log {D} left mid old is same = is ∙ ap (λ (l : LogValue (FusedValue D)). l.disk) same

-- ---- the step is worked out

-- whether a line stops the node in place of it, by what the node keeps then
pub stops_as : {D F X : Type 0} (size : ℕ) (occasion : Occasion) (old : Running D F X) (labels : List KeptLabel) (out : Effects) (entries : List Act) (points : List Watched) (stops : Bool)
    → labels ≡ labels_of size occasion old → out ≡ out_of size occasion old → entries ≡ out.entries → points ≡ old.carried.points.items
    → stops ≡ list_any (stops_before labels entries) points → stops ≡ is_forestalled size occasion old
stops_as size occasion old labels out entries points stops met same is_entries is_points is =
    is ∙ (ap (list_any (stops_before labels entries)) is_points
    ∙ (ap (λ (es : List Act). list_any (stops_before labels es) old.carried.points.items) (is_entries ∙ ap (λ (e : Effects). e.entries) same)
    ∙ ap (λ (ls : List KeptLabel). list_any (stops_before ls (out_of size occasion old).entries) old.carried.points.items) met))

-- what is to stand in place of an event that may be made
pub planned_by : {D F X : Type 0} (size : ℕ) (occasion : Occasion) (old : Running D F X) (stops : Bool)
    → may_make old.host.node occasion ≡ true → ordered occasion (seen old.carried) ≡ None → is_forestalled size occasion old ≡ stops
    → planned_for size occasion old ≡ held_back true stops
planned_by size occasion old stops may none is =
    ap (planned_after (may_make old.host.node occasion) (is_forestalled size occasion old)) none
    ∙ (ap (λ (b : Bool). held_back b (is_forestalled size occasion old)) may ∙ ap (held_back true) is)

-- and what becomes of the lines where one does
pub spent_as : {D F X : Type 0} (size : ℕ) (occasion : Occasion) (old : Running D F X) (labels : List KeptLabel) (out : Effects) (entries : List Act) (points : List Watched)
    → labels ≡ labels_of size occasion old → out ≡ out_of size occasion old → entries ≡ out.entries → points ≡ old.carried.points.items
    → may_make old.host.node occasion ≡ true → ordered occasion (seen old.carried) ≡ None
    → spent labels entries points ≡ spent_after (may_make old.host.node occasion) (labels_of size occasion old) (out_of size occasion old) (seen old.carried) (ordered occasion (seen old.carried))
spent_as size occasion old labels out entries points met same is_entries is_points may none =
    ap (spent labels entries) is_points
    ∙ (ap (λ (es : List Act). spent labels es old.carried.points.items) (is_entries ∙ ap (λ (e : Effects). e.entries) same)
    ∙ (ap (λ (ls : List KeptLabel). spent ls (out_of size occasion old).entries old.carried.points.items) met
    ∙ sym (ap (spent_after (may_make old.host.node occasion) (labels_of size occasion old) (out_of size occasion old) (seen old.carried)) none
    ∙ ap (λ (b : Bool). if b then spent (labels_of size occasion old) (out_of size occasion old).entries old.carried.points.items else old.carried.points.items) may)))

-- a crash stands in place of it
pub replaced_by : {D F X : Type 0} (own : D → ℕ) (size : ℕ) (occasion : Occasion) (old : Running D F X) (host : HostValue (FusedValue D)) (sessions : SessionsValue) (mid carried : Carried) (cause : CrashCause) (fate : Fate)
    → host.log ≡ old.host.log → host.node.kept.saved ≡ old.host.node.kept.saved → HasCrashed (did_of occasion) cause mid carried → mid.chronicle.told ≡ begun occasion old.carried.chronicle.told
    → mid.crashes ≡ old.carried.crashes → mid.setting ≡ old.carried.setting → fate ≡ fates.Replaced cause
    → (cause ≡ causes.Memory) ⊎ (IsAsPlanned size occasion old (stopped_of cause false (running_with {D = D} {F = F} {X = X} host sessions carried)) ⊎ IsUnnumbered size occasion old (stopped_of cause false (running_with {D = D} {F = F} {X = X} host sessions carried)))
    → IsOutcome own size occasion old (outcome_of fate (running_with host sessions carried))
replaced_by {D} own size occasion old host sessions mid carried cause fate log saved crash told crashes setting is why = rw is (record {
  disk = ap (λ (l : LogValue (FusedValue D)). l.disk) log;
  kept = saved;
  told = crash.told ∙ ap (crashed (did_of occasion) cause) told;
  crashes = crash.crashes ∙ crashes;
  setting = crash.setting ∙ setting;
  full = refl;
  why = why;
})

pub begun_on : (occasion : Occasion) (old mid new : Carried) → HasBegun occasion old mid → new.chronicle.told ≡ mid.chronicle.told → new.commands ≡ mid.commands
    → new.crashes ≡ mid.crashes → new.points.items ≡ mid.points.items → new.setting ≡ mid.setting → HasBegun occasion old new
begun_on occasion old mid new begun told commands crashes points setting = record {
  told = told ∙ begun.told;
  commands = commands ∙ begun.commands;
  crashes = crashes ∙ begun.crashes;
  points = points ∙ begun.points;
  setting = setting ∙ begun.setting;
}

-- what the sessions did is that of the node that the event began with
pub sent_as : {D F X : Type 0} (size : ℕ) (occasion : Occasion) (old : Running D F X) (before after : SessionsValue) (stamp : ℕ) (out : Effects) (put : List Packet)
    → before ≡ old.sessions → stamp ≡ (begun occasion old.carried.chronicle.told).stamp → out ≡ out_of size occasion old → Sends (ticks occasion) stamp out.messages before put after → IsSent size occasion old put after
sent_as size occasion old before after stamp out put same at is sends =
    subst (λ (b : SessionsValue). Sends (ticks occasion) (begun occasion old.carried.chronicle.told).stamp (out_of size occasion old).messages b put after) same
    (subst (λ (s : ℕ). Sends (ticks occasion) s (out_of size occasion old).messages before put after) at
    (subst (λ (o : Effects). Sends (ticks occasion) stamp o.messages before put after) is sends))

pub past_last : {D F X : Type 0} (size : ℕ) (occasion : Occasion) (old : Running D F X) (before : SessionsValue) (out : Effects)
    → before ≡ old.sessions → out ≡ out_of size occasion old → LacksNumber before out.messages → IsPastLast size occasion old
past_last size occasion old before out same is lacks =
    subst (λ (b : SessionsValue). LacksNumber b (out_of size occasion old).messages) same (subst (λ (o : Effects). LacksNumber before o.messages) is lacks)

pub not_past_last : {D F X : Type 0} (size : ℕ) (occasion : Occasion) (old : Running D F X) (before : SessionsValue) (out : Effects)
    → before ≡ old.sessions → out ≡ out_of size occasion old → (LacksNumber before out.messages → ⊥) → IsPastLast size occasion old → ⊥
not_past_last size occasion old before out same is never lacks =
    never (subst (λ (o : Effects). LacksNumber before o.messages) (sym is) (subst (λ (b : SessionsValue). LacksNumber b (out_of size occasion old).messages) (sym same) lacks))

-- a node stops in place of the event whose sessions could not send
pub unsent : {D F X : Type 0} (size : ℕ) (occasion : Occasion) (old : Running D F X) (new : Stopped D) (fault : GrowFault) → IsUnplanned size occasion old → new.cause ≡ unsent_cause fault
    → new.carried.commands ≡ taken occasion old.carried.setting.inc old.carried.commands → new.carried.points.items ≡ old.carried.points.items
    → ((value : ℕ) → fault ≡ Last value → (value ≡ 2 ^ 62 - 1) × IsPastLast size occasion old)
    → (new.cause ≡ causes.Memory) ⊎ (IsAsPlanned size occasion old new ⊎ IsUnnumbered size occasion old new)
unsent size occasion old new grow_faults.NoMemory unplanned cause commands points last = inl cause
unsent size occasion old new (grow_faults.Last value) unplanned cause commands points last = inr (inr (record {
  unplanned = unplanned;
  lacks = (last value refl).1;
  cause = cause ∙ ap (λ (v : ℕ). causes.Last v) (last value refl).0;
  commands = commands;
  points = points;
}))

pub worked : {D F X : Type 0} (size : ℕ) (occasion : Occasion) (old : Running D F X) (host new : HostValue (FusedValue D)) (sessions : SessionsValue) (carried ready : Carried) (out : Effects) (put : List Packet)
    → host ≡ old.host → new.node ≡ worked_node size host (event_of occasion) → new.node.kept.saved ≡ host.node.kept.saved → new.log ≡ host.log
    → out ≡ effects_at size host (event_of occasion) → HasBegun occasion old.carried ready → IsUnplanned size occasion old
    → IsSent size occasion old put sessions → (IsPastLast size occasion old → ⊥) → IsWorkedOut size occasion old new sessions ready out put
worked {D} size occasion old host new sessions carried ready out put same node saved log is begun unplanned sent numbered = record {
  node = node ∙ ap (λ (h : HostValue (FusedValue D)). worked_node size h (event_of occasion)) same;
  saved = saved ∙ ap (λ (h : HostValue (FusedValue D)). h.node.kept.saved) same;
  log = log ∙ ap (λ (h : HostValue (FusedValue D)). h.log) same;
  out = is ∙ ap (λ (h : HostValue (FusedValue D)). effects_at size h (event_of occasion)) same;
  begun = begun;
  unplanned = unplanned;
  sent = sent;
  numbered = numbered;
}

-- what it does is that of the log that it began with
pub stands_as : {D F X : Type 0} (state : D → DiskState) (outcome : Outcome D F X) (out out_as : Effects) (mid log : LogValue (FusedValue D)) → out ≡ out_as → mid ≡ log
    → IfStands outcome (λ disk. StandsAfter out mid disk (state disk.disk)) → IfStands outcome (λ disk. StandsAfter out_as log disk (state disk.disk))
stands_as {D} state outcome out out_as mid log is same stands =
    subst (λ (o : Effects). IfStands outcome (λ disk. StandsAfter o log disk (state disk.disk))) is
    (subst (λ (l : LogValue (FusedValue D)). IfStands outcome (λ disk. StandsAfter out l disk (state disk.disk))) same stands)

pub moments_as : {D : Type 0} (state : D → DiskState) (disk : FusedValue D) (out out_as : Effects) (mid log : LogValue (FusedValue D)) → out ≡ out_as → mid ≡ log
    → Keeps (IsOldOrAfter out mid) (state mid.disk.disk) (state disk.disk) → Keeps (IsOldOrAfter out_as log) (state log.disk.disk) (state disk.disk)
moments_as {D} state disk out out_as mid log is same keeps =
    subst (λ (o : Effects). Keeps (IsOldOrAfter o log) (state log.disk.disk) (state disk.disk)) is
    (subst (λ (l : LogValue (FusedValue D)). Keeps (IsOldOrAfter out l) (state l.disk.disk) (state disk.disk)) same keeps)

-- ---- the step is done with the log

pub has_stepped : {D F X : Type 0} (size : ℕ) (occasion : Occasion) (old : Running D F X) (host new : HostValue (FusedValue D)) (sessions : SessionsValue) (carried : Carried) (out : Effects) (put : List Packet)
    → IsWorkedOut size occasion old host sessions carried out put → new.node ≡ accept host.node → IsLogAfter out host.log new.log → GoesOn host.log.disk.fuse new.log.disk.fuse
    → HasStepped size occasion old new sessions carried out put
has_stepped {D} size occasion old host new sessions carried out put work node log goes = record {
  node = node ∙ ap accept work.node;
  log = subst (λ (o : Effects). IsLogAfter o old.host.log new.log) work.out (subst (λ (l : LogValue (FusedValue D)). IsLogAfter out l new.log) work.log log);
  out = work.out;
  begun = work.begun;
  unplanned = work.unplanned;
  sent = work.sent;
  numbered = work.numbered;
  goes = subst (λ (l : LogValue (FusedValue D)). GoesOn l.disk.fuse new.log.disk.fuse) work.log goes;
}

-- or it is cut off: memory was refused, or a call of the disk failed as the batch was forced
cut_why : {D F X : Type 0} (own : D → ℕ) (size : ℕ) (occasion : Occasion) (old : Running D F X) (host : HostValue (FusedValue D)) (sessions : SessionsValue) (carried : Carried) (out : Effects) (put : List Packet)
    (new : Stopped D) (fault : HostFault) → IsWorkedOut size occasion old host sessions carried out put → (fault ≡ faults.NoMemory → new.cause ≡ causes.Memory)
    → (fault ≡ faults.NoRoom → new.cause ≡ causes.Memory) → (new.is_full ≡ true ↔ fault ≡ faults.NoRoom) → (fault ≡ faults.NoRoom → LacksRoom size host.log out.records)
    → (fault ≡ faults.Disk → new.cause ≡ fault_cause own host.log.disk new.disk) → (fault ≡ faults.Disk → HasBatch out host.log)
    → (fault ≡ faults.Disk → Rose (fused_count own host.log.disk) (fused_count own new.disk)) → IsRefused size occasion old new ⊎ IsFaulted own size occasion old new
cut_why own size occasion old host sessions carried out put new faults.NoMemory work memory room full lacks cause batch rose =
    inl (record { cause = memory refl; full = λ is. absurd (let no : faults.NoMemory ≡ faults.NoRoom = full.0 is in cc no) })
cut_why {D} own size occasion old host sessions carried out put new faults.NoRoom work memory room full lacks cause batch rose = inl (record {
  cause = room refl;
  full = λ is. subst (λ (o : Effects). LacksRoom size old.host.log o.records) work.out (subst (λ (l : LogValue (FusedValue D)). LacksRoom size l out.records) work.log (lacks refl));
})
cut_why {D} own size occasion old host sessions carried out put new faults.Disk work memory room full lacks cause batch rose = inr (record {
  force = ap (λ (o : Effects). o.force) (sym work.out) ∙ (batch refl).force;
  batch = λ none. (batch refl).batch (ap (λ (l : LogValue (FusedValue D)). l.waiting ++ out.records) work.log ∙ ap (λ (o : Effects). old.host.log.waiting ++ o.records) work.out ∙ none);
  cause = cause refl ∙ ap (λ (l : LogValue (FusedValue D)). fault_cause own l.disk new.disk) work.log;
  rose = subst (λ (l : LogValue (FusedValue D)). Rose (fused_count own l.disk) (fused_count own new.disk)) work.log (rose refl);
  full = not_full new.is_full refl;
})
  where
    not_full : (b : Bool) → new.is_full ≡ b → new.is_full ≡ false
    not_full false is = is
    not_full true is = absurd (let no : faults.Disk ≡ faults.NoRoom = full.0 is in cc no)

-- what is told of counts that were read before
pub told_cause : {D : Type 0} (own : D → ℕ) (old new first second third : FusedValue D) (trips faults : ℕ) (cause : CrashCause) → first ≡ old → second ≡ old → third ≡ new
    → trips ≡ first.fuse.trips → faults ≡ own second.disk
    → ((before : FusedValue D) → before.fuse.trips ≡ trips → own before.disk ≡ faults → cause ≡ fault_cause own before third) → cause ≡ fault_cause own old new
told_cause {D} own old new first second third trips faults cause one two three is_trips is_faults told =
    told old (ap (λ (d : FusedValue D). d.fuse.trips) (sym one) ∙ sym is_trips) (ap (λ (d : FusedValue D). own d.disk) (sym two) ∙ sym is_faults)
    ∙ ap (fault_cause own old) three

pub cut_short : {D F X : Type 0} (own : D → ℕ) (size : ℕ) (occasion : Occasion) (old : Running D F X) (host new : HostValue (FusedValue D)) (sessions : SessionsValue) (carried after : Carried)
    (out : Effects) (put : List Packet) (fault : HostFault) (cause : CrashCause) (is_full : Bool) → IsWorkedOut size occasion old host sessions carried out put → new.node ≡ host.node
    → HasCrashed (did_of occasion) cause carried after → GoesOn host.log.disk.fuse new.log.disk.fuse → (fault ≡ faults.NoMemory → cause ≡ causes.Memory)
    → (fault ≡ faults.NoRoom → cause ≡ causes.Memory) → (is_full ≡ true ↔ fault ≡ faults.NoRoom) → (fault ≡ faults.NoRoom → LacksRoom size host.log out.records)
    → (fault ≡ faults.Disk → cause ≡ fault_cause own host.log.disk new.log.disk) → (fault ≡ faults.Disk → HasBatch out host.log)
    → (fault ≡ faults.Disk → Rose (fused_count own host.log.disk) (fused_count own new.log.disk))
    → IsCutOff own size occasion old (stopped_of cause is_full (running_with {F = F} {X = X} new sessions after))
cut_short {D} {F} {X} own size occasion old host new sessions carried after out put fault cause is_full work node crash goes memory room full lacks is batch rose = record {
  kept = ap (λ (n : NodeValue). n.kept.saved) node ∙ work.saved;
  told = crash.told ∙ ap (crashed (did_of occasion) cause) work.begun.told;
  commands = crash.commands ∙ work.begun.commands;
  crashes = crash.crashes ∙ work.begun.crashes;
  points = crash.points ∙ work.begun.points;
  setting = crash.setting ∙ work.begun.setting;
  unplanned = work.unplanned;
  numbered = work.numbered;
  goes = subst (λ (l : LogValue (FusedValue D)). GoesOn l.disk.fuse new.log.disk.fuse) work.log goes;
  why = cut_why own size occasion old host sessions carried out put (stopped_of cause is_full (running_with {F = F} {X = X} new sessions after)) fault work memory room full lacks is batch rose;
}

-- it is the disk of the node that made it
pub disk_left : {D F X : Type 0} (fate : Fate) (running : Running D F X) → disk_after (outcome_of fate running) ≡ running.host.log.disk
disk_left (fates.Whole answers) running = refl
disk_left (fates.Followed answers) running = refl
disk_left (fates.Replaced cause) running = refl
disk_left (fates.CutOff cause is_full) running = refl

if_stands : {D F X : Type 0} (outcome : Outcome D F X) (P : FusedValue D → Type 0) → P (disk_after outcome) → IfStands outcome P
if_stands (outcomes.Whole running answers) P p = p
if_stands (outcomes.Followed stopped answers) P p = p
if_stands (outcomes.Replaced stopped) P p = tt
if_stands (outcomes.CutOff stopped) P p = tt

pub stands_on : {D F X : Type 0} (state : D → DiskState) (outcome : Outcome D F X) (out : Effects) (old new : LogValue (FusedValue D)) → IsLogAfter out old new
    → disk_after outcome ≡ new.disk → Stands new (state new.disk.disk) → IfStands outcome (λ disk. StandsAfter out old disk (state disk.disk))
stands_on {D} state outcome out old new is disk stands =
    if_stands outcome (λ d. StandsAfter out old d (state d.disk))
    (subst (λ (d : FusedValue D). StandsAfter out old d (state d.disk)) (sym disk) (subst (λ (l : LogValue (FusedValue D)). Stands l (state new.disk.disk)) is stands))

pub moments_on : {D : Type 0} (state : D → DiskState) (out : Effects) (log : LogValue (FusedValue D)) (here there : FusedValue D) → there ≡ here
    → Keeps (IsOldOrAfter out log) (state log.disk.disk) (state here.disk) → Keeps (IsOldOrAfter out log) (state log.disk.disk) (state there.disk)
moments_on {D} state out log here there is keeps = subst (λ (d : FusedValue D). Keeps (IsOldOrAfter out log) (state log.disk.disk) (state d.disk)) (sym is) keeps
