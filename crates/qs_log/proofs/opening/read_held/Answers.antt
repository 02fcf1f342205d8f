use Rattle.std.proofs.Common.{◌≡◌, Err, sym, ◌∙◌, ap, arith, ℕ, ◌≤◌, length, subst}
use Rattle.qs_log.specs.Image.{InSlot, half, live_area}
use Rattle.qs_base.specs.Causes.{Rose}
use Rattle.qs_slot.proofs.OpeningLemmas.{same_keeps}
use Rattle.qs_log.proofs.ReadLemmas.{log_read, damage_read}
use Rattle.qs_log.specs.declared.fault.OpenFault.TheVariants as faults
use Rattle.qs_log.proofs.opening.read_held.Goals as goal

rose_since : (before then now : ℕ) → before ≤ then → Rose then now → Rose before now
rose_since before then now later rose = omega arith

pub returns-in-Err-clause-failed : goal.returns-in-Err-clause-failed
returns-in-Err-clause-failed g c = λ e.
    let named : c.of_slot.result ≡ faults.DiskFailed = cc in
    c.in-Err.ensures.failed (ap Err (c.of_slot.ensures.failed named))

pub returns-in-Err-read_area-clause-failed : goal.returns-in-Err-read_area-clause-failed
returns-in-Err-read_area-clause-failed g c = λ e.
    let named : c.in-Err-read_area.fault ≡ faults.DiskFailed = cc in
    rose_since (g.D.Disk.fault_count c.args.disk.now) (g.D.Disk.fault_count c.open_slots.new.disk) (g.D.Disk.fault_count c.read_area.new.disk) c.in-Ok.ensures.later
    (c.in-Err-read_area.ensures.failed (ap Err named))

pub returns-clause-failed : goal.returns-clause-failed
returns-clause-failed g c = λ e.
    let named : c.in-Err-counted.fault ≡ faults.DiskFailed = cc in
    absurd (c.in-Err-counted.ensures.never (ap Err named))

pub returns-in-Ok-counted-clause-within : goal.returns-in-Ok-counted-clause-within
returns-in-Ok-counted-clause-within g c =
    let long : length c.as_slice.result.now ≡ half (g.D.Disk.byte_count c.args.disk.now) =
    ap length c.as_slice.ensures.value ∙ c.in-Ok-read_area.ensures.long ∙ ap half c.in-Ok.ensures.size in
    subst (λ (n : ℕ). c.in-Ok-counted.field-0.used ≤ n) long c.in-Ok-counted.ensures.within

pub returns-in-Err-clause-damaged : goal.returns-in-Err-clause-damaged
returns-in-Err-clause-damaged g c = λ told at e.
    let named : c.of_slot.result ≡ faults.Damaged at = cc in
    InSlot (c.in-Err.ensures.damaged told at (ap Err (c.of_slot.ensures.damaged at named)))

pub returns-in-Err-read_area-clause-damaged : goal.returns-in-Err-read_area-clause-damaged
returns-in-Err-read_area-clause-damaged g c = λ told at e.
    let named : c.in-Err-read_area.fault ≡ faults.Damaged at = cc in
    absurd (c.in-Err-read_area.ensures.never at (ap Err named))

pub returns-in-Err-read_area-clause-moments : goal.returns-in-Err-read_area-clause-moments
returns-in-Err-read_area-clause-moments g c = λ told.
    same_keeps (g.D.Disk.state c.args.disk.now) (g.D.Disk.state c.open_slots.new.disk) (g.D.Disk.state c.read_area.new.disk)
    (c.open_slots.ensures.content told) (c.open_slots.ensures.moments told) (c.read_area.ensures.moments told)

pub returns-in-Ok-counted-clause-log : goal.returns-in-Ok-counted-clause-log
returns-in-Ok-counted-clause-log g c = λ told.
    let area : c.as_slice.result.now ≡ live_area c.value-format.result.generation (g.D.Disk.state c.args.disk.now).content =
    c.as_slice.ensures.value ∙ c.in-Ok-read_area.ensures.area told ∙ ap (live_area c.value-format.result.generation) (c.open_slots.ensures.content told) in
    log_read c.in-Ok.slots.present c.value-format.result (g.D.Disk.state c.args.disk.now).content c.as_slice.result.now _ _
    (record { value_is = c.value-format.ensures; area_is = area }) (c.in-Ok.ensures.holds told).say c.in-Ok-counted.ensures.found

pub returns-in-Ok-counted-clause-damaged : goal.returns-in-Ok-counted-clause-damaged
returns-in-Ok-counted-clause-damaged g c = λ told at e. cc

pub returns-in-Ok-counted-clause-moments : goal.returns-in-Ok-counted-clause-moments
returns-in-Ok-counted-clause-moments g c = λ told.
    same_keeps (g.D.Disk.state c.args.disk.now) (g.D.Disk.state c.open_slots.new.disk) (g.D.Disk.state c.read_area.new.disk)
    (c.open_slots.ensures.content told) (c.open_slots.ensures.moments told) (c.read_area.ensures.moments told)

pub returns-clause-damaged : goal.returns-clause-damaged
returns-clause-damaged g c = λ told at e.
    let named : c.in-Err-counted.fault ≡ faults.Damaged at = cc in
    let area : c.as_slice.result.now ≡ live_area c.value-format.result.generation (g.D.Disk.state c.args.disk.now).content =
    c.as_slice.ensures.value ∙ c.in-Ok-read_area.ensures.area told ∙ ap (live_area c.value-format.result.generation) (c.open_slots.ensures.content told) in
    damage_read c.args.limit c.in-Ok.slots.present c.value-format.result (g.D.Disk.state c.args.disk.now).content c.as_slice.result.now c.size.result c.area_start-start.result at
    (record { value_is = c.value-format.ensures; area_is = area }) (c.in-Ok.ensures.value told)
    (g.met.D.Disk.sized c.args.disk.now told ∙ sym c.open_slots.ensures.size ∙ sym c.read_area.ensures.size ∙ sym c.size.ensures.value) c.area_start-start.ensures
    (c.in-Err-counted.ensures.broken at (ap Err named))

pub returns-clause-moments : goal.returns-clause-moments
returns-clause-moments g c = λ told.
    same_keeps (g.D.Disk.state c.args.disk.now) (g.D.Disk.state c.open_slots.new.disk) (g.D.Disk.state c.read_area.new.disk)
    (c.open_slots.ensures.content told) (c.open_slots.ensures.moments told) (c.read_area.ensures.moments told)
