use Rattle.std.proofs.Common.{◌+◌, ℕ, refl, sym, ◌∙◌, ap, subst, arith}
use Rattle.qs_disk.specs.Disk.{IsStill}
use Rattle.qs_disk.specs.Moments.{Keeps}
use Rattle.qs_slot.specs.declared.value.SlotValue.{SlotValue}
use Rattle.qs_log.specs.Image.{area_start}
use Rattle.qs_log.specs.Log.{LogValue, Stands, IsOldOrWhole}
use Rattle.qs_log.proofs.Holding.{view_of, seen_view, some_waits, waiting_short, gate_within, ready_kept, kept_same, kept_forced, old_stays, none_forced, forced_seen, forced_stands, all_same, some_wait}
use Rattle.qs_log.proofs.Areas.{area_within}
use Rattle.qs_log.proofs.Forcing.{header_stays}
use Rattle.qs_slot.specs.Slot.{SayTheSame}
use Rattle.qs_log.proofs.log.Log.force.Goals as goal

pub returns-then-is_empty-clause-moments : goal.returns-then-is_empty-clause-moments
returns-then-is_empty-clause-moments g c = λ told. old_stays c.args.self.now (g.D.Disk.state c.args.self.now.disk) (c.requires told)

pub returns-then-is_empty-clause-forced : goal.returns-then-is_empty-clause-forced
returns-then-is_empty-clause-forced g c =
    let seen = seen_view c.args.self.now c.self.inside.disk c.self.inside.slots c.self.inside.records c.self.inside.forced c.self.inside.used c.self.view_is in
    none_forced c.args.self.now c.self.inside.batch c.is_empty.result (c.self.invariant.gathered ∙ sym seen.waiting_are) c.is_empty.ensures c.if-is_empty.true

pub waiting_length-taken-requires : goal.waiting_length-taken-requires
waiting_length-taken-requires g c =
    let some = some_waits c.self.inside.batch c.is_empty.result c.is_empty.ensures c.if-is_empty.false in
    omega (arith, waiting_short (g.D.Disk.byte_count c.self.inside.disk) c.self.inside.slots c.self.inside.records c.self.inside.forced c.self.inside.batch c.self.inside.used c.self.invariant some)

pub write_batch-requires-clause-some : goal.write_batch-requires-clause-some
write_batch-requires-clause-some g c = some_waits c.self.inside.batch c.is_empty.result c.is_empty.ensures c.if-is_empty.false

pub write_batch-requires-clause-in_range : goal.write_batch-requires-clause-in_range
write_batch-requires-clause-in_range g c =
    let some = some_waits c.self.inside.batch c.is_empty.result c.is_empty.ensures c.if-is_empty.false in
    let begins = c.area_start.ensures ∙ ap (λ (n : ℕ). area_start n c.value.result.generation) c.size-size.ensures.value
    ∙ ap (λ (v : SlotValue). area_start (g.D.Disk.byte_count c.self.inside.disk) v.generation) c.value.ensures in
    gate_within (g.D.Disk.byte_count c.self.inside.disk) c.area_start.result c.self.inside.slots c.self.inside.records c.self.inside.forced c.self.inside.batch c.self.inside.used c.self.invariant some begins

pub write_batch-requires-clause-still : goal.write_batch-requires-clause-still
write_batch-requires-clause-still g c = λ told.
    subst (λ (v : LogValue g.row.D.Denot). IsStill (g.D.Disk.state v.disk)) (sym c.self.view_is) (c.requires told).still

pub invariant_of-self : goal.invariant_of-self
invariant_of-self g c =
    kept_same (g.D.Disk.byte_count c.self.inside.disk) (g.D.Disk.byte_count c.write_batch.new.disk) c.self.inside.slots c.self.inside.records c.self.inside.forced
    c.self.inside.batch c.write_batch.new.batch c.self.inside.used c.self.invariant c.write_batch.ensures.size c.write_batch.ensures.batch

pub returns-in_err-write_batch-clause-moments : goal.returns-in_err-write_batch-clause-moments
returns-in_err-write_batch-clause-moments g c = λ told.
    let seen = seen_view c.args.self.now c.self.inside.disk c.self.inside.slots c.self.inside.records c.self.inside.forced c.self.inside.used c.self.view_is in
    let some = some_waits c.self.inside.batch c.is_empty.result c.is_empty.ensures c.if-is_empty.false in
    let begins = c.area_start.ensures ∙ ap (λ (n : ℕ). area_start n c.value.result.generation) c.size-size.ensures.value
    ∙ ap (λ (v : SlotValue). area_start (g.D.Disk.byte_count c.self.inside.disk) v.generation) c.value.ensures in
    let stands = subst (λ (v : LogValue g.row.D.Denot). Stands c.args.self.now (g.D.Disk.state v.disk)) (sym c.self.view_is) (c.requires told) in
    let ready = ready_kept c.args.self.now (g.D.Disk.byte_count c.self.inside.disk) c.area_start.result c.self.inside.slots c.self.inside.records c.self.inside.forced c.self.inside.batch
    c.self.inside.used (g.D.Disk.state c.self.inside.disk) c.self.invariant seen.slots_are seen.waiting_are seen.used_is some begins stands (g.met.D.Disk.sized c.self.inside.disk told) in
    subst (λ (v : LogValue g.row.D.Denot). Keeps (IsOldOrWhole c.args.self.now) (g.D.Disk.state v.disk) (g.D.Disk.state c.write_batch.new.disk)) c.self.view_is
    (c.write_batch.ensures.moments told c.args.self.now ready)

pub returns-in_err-write_batch-clause-records : goal.returns-in_err-write_batch-clause-records
returns-in_err-write_batch-clause-records g c =
    let seen = seen_view c.args.self.now c.self.inside.disk c.self.inside.slots c.self.inside.records c.self.inside.forced c.self.inside.used c.self.view_is in
    all_same c.args.self.now c.self.inside.slots c.self.inside.records c.self.inside.forced c.self.inside.used c.self.inside.forced seen

pub overflow_add-self : goal.overflow_add-self
overflow_add-self g c =
    let some = some_waits c.self.inside.batch c.is_empty.result c.is_empty.ensures c.if-is_empty.false in
    let short = waiting_short (g.D.Disk.byte_count c.self.inside.disk) c.self.inside.slots c.self.inside.records c.self.inside.forced c.self.inside.batch c.self.inside.used c.self.invariant some in omega (arith, short, c.waiting_length-taken.ensures)

pub invariant_of-self-2 : goal.invariant_of-self-2
invariant_of-self-2 g c =
    let some = some_waits c.self.inside.batch c.is_empty.result c.is_empty.ensures c.if-is_empty.false in
    kept_forced (g.D.Disk.byte_count c.self.inside.disk) (g.D.Disk.byte_count c.write_batch.new.disk) c.self.inside.slots c.self.inside.records c.self.inside.forced c.len-self-inside.result
    c.self.inside.batch c.clear.new.self c.self.inside.used c.waiting_length-taken.result c.self.invariant some c.waiting_length-taken.ensures c.len-self-inside.ensures c.clear.ensures c.write_batch.ensures.size

pub returns-clause-moments : goal.returns-clause-moments
returns-clause-moments g c = λ told.
    let seen = seen_view c.args.self.now c.self.inside.disk c.self.inside.slots c.self.inside.records c.self.inside.forced c.self.inside.used c.self.view_is in
    let some = some_waits c.self.inside.batch c.is_empty.result c.is_empty.ensures c.if-is_empty.false in
    let begins = c.area_start.ensures ∙ ap (λ (n : ℕ). area_start n c.value.result.generation) c.size-size.ensures.value
    ∙ ap (λ (v : SlotValue). area_start (g.D.Disk.byte_count c.self.inside.disk) v.generation) c.value.ensures in
    let stands = subst (λ (v : LogValue g.row.D.Denot). Stands c.args.self.now (g.D.Disk.state v.disk)) (sym c.self.view_is) (c.requires told) in
    let ready = ready_kept c.args.self.now (g.D.Disk.byte_count c.self.inside.disk) c.area_start.result c.self.inside.slots c.self.inside.records c.self.inside.forced c.self.inside.batch
    c.self.inside.used (g.D.Disk.state c.self.inside.disk) c.self.invariant seen.slots_are seen.waiting_are seen.used_is some begins stands (g.met.D.Disk.sized c.self.inside.disk told) in
    subst (λ (v : LogValue g.row.D.Denot). Keeps (IsOldOrWhole c.args.self.now) (g.D.Disk.state v.disk) (g.D.Disk.state c.write_batch.new.disk)) c.self.view_is
    (c.write_batch.ensures.moments told c.args.self.now ready)

pub returns-clause-forced : goal.returns-clause-forced
returns-clause-forced g c =
    let seen = seen_view c.args.self.now c.self.inside.disk c.self.inside.slots c.self.inside.records c.self.inside.forced c.self.inside.used c.self.view_is in
    let next : LogValue g.row.D.Denot = view_of c.write_batch.new.disk c.self.inside.slots c.self.inside.records c.len-self-inside.result (c.self.inside.used + c.waiting_length-taken.result) in
    let is_forced = forced_seen c.args.self.now next c.self.inside.slots c.self.inside.records c.self.inside.forced c.self.inside.used c.len-self-inside.result c.waiting_length-taken.result
    c.self.inside.batch seen (record { slots_are = refl; forced_are = refl; waiting_are = refl; used_is = refl }) c.self.invariant.gathered c.waiting_length-taken.ensures c.len-self-inside.ensures in
    is_forced

pub returns-clause-stands : goal.returns-clause-stands
returns-clause-stands g c = λ told.
    let seen = seen_view c.args.self.now c.self.inside.disk c.self.inside.slots c.self.inside.records c.self.inside.forced c.self.inside.used c.self.view_is in
    let some = some_waits c.self.inside.batch c.is_empty.result c.is_empty.ensures c.if-is_empty.false in
    let begins = c.area_start.ensures ∙ ap (λ (n : ℕ). area_start n c.value.result.generation) c.size-size.ensures.value
    ∙ ap (λ (v : SlotValue). area_start (g.D.Disk.byte_count c.self.inside.disk) v.generation) c.value.ensures in
    let stands = subst (λ (v : LogValue g.row.D.Denot). Stands c.args.self.now (g.D.Disk.state v.disk)) (sym c.self.view_is) (c.requires told) in
    let ready = ready_kept c.args.self.now (g.D.Disk.byte_count c.self.inside.disk) c.area_start.result c.self.inside.slots c.self.inside.records c.self.inside.forced c.self.inside.batch
    c.self.inside.used (g.D.Disk.state c.self.inside.disk) c.self.invariant seen.slots_are seen.waiting_are seen.used_is some begins stands (g.met.D.Disk.sized c.self.inside.disk told) in
    let next : LogValue g.row.D.Denot = view_of c.write_batch.new.disk c.self.inside.slots c.self.inside.records c.len-self-inside.result (c.self.inside.used + c.waiting_length-taken.result) in
    let is_forced = forced_seen c.args.self.now next c.self.inside.slots c.self.inside.records c.self.inside.forced c.self.inside.used c.len-self-inside.result c.waiting_length-taken.result
    c.self.inside.batch seen (record { slots_are = refl; forced_are = refl; waiting_are = refl; used_is = refl }) c.self.invariant.gathered c.waiting_length-taken.ensures c.len-self-inside.ensures in
    forced_stands c.args.self.now next (g.D.Disk.state c.write_batch.new.disk) is_forced (sym seen.slots_are) (c.in_ok-write_batch.ensures.stands told c.args.self.now ready)

pub returns-clause-records : goal.returns-clause-records
returns-clause-records g c =
    let seen = seen_view c.args.self.now c.self.inside.disk c.self.inside.slots c.self.inside.records c.self.inside.forced c.self.inside.used c.self.view_is in
    all_same c.args.self.now c.self.inside.slots c.self.inside.records c.self.inside.forced c.self.inside.used c.len-self-inside.result seen

pub returns-in_err-write_batch-clause-idle : goal.returns-in_err-write_batch-clause-idle
returns-in_err-write_batch-clause-idle g c = λ none.
    let seen = seen_view c.args.self.now c.self.inside.disk c.self.inside.slots c.self.inside.records c.self.inside.forced c.self.inside.used c.self.view_is in
    let some = some_waits c.self.inside.batch c.is_empty.result c.is_empty.ensures c.if-is_empty.false in
    absurd (some_wait c.self.inside.batch c.args.self.now.waiting some (c.self.invariant.gathered ∙ sym seen.waiting_are) none)

pub returns-clause-idle : goal.returns-clause-idle
returns-clause-idle g c = λ none.
    let seen = seen_view c.args.self.now c.self.inside.disk c.self.inside.slots c.self.inside.records c.self.inside.forced c.self.inside.used c.self.view_is in
    let some = some_waits c.self.inside.batch c.is_empty.result c.is_empty.ensures c.if-is_empty.false in
    absurd (some_wait c.self.inside.batch c.args.self.now.waiting some (c.self.invariant.gathered ∙ sym seen.waiting_are) none)

pub returns-then-is_empty-clause-header : goal.returns-then-is_empty-clause-header
returns-then-is_empty-clause-header g c = λ told. header_stays (g.D.Disk.state c.args.self.now.disk) (c.requires told).still

pub returns-in_err-write_batch-clause-header : goal.returns-in_err-write_batch-clause-header
returns-in_err-write_batch-clause-header g c = λ told.
    let begins = c.area_start.ensures ∙ ap (λ (n : ℕ). area_start n c.value.result.generation) c.size-size.ensures.value
    ∙ ap (λ (v : SlotValue). area_start (g.D.Disk.byte_count c.self.inside.disk) v.generation) c.value.ensures in
    let within = area_within (g.D.Disk.byte_count c.self.inside.disk) c.self.inside.slots.present.value.generation (omega (arith, c.self.invariant.allowed.least)) in
    subst (λ (v : LogValue g.row.D.Denot). Keeps (SayTheSame (g.D.Disk.state v.disk).content) (g.D.Disk.state v.disk) (g.D.Disk.state c.write_batch.new.disk)) c.self.view_is
    (c.write_batch.ensures.header told (omega (arith, begins, within.least)))

pub returns-clause-header : goal.returns-clause-header
returns-clause-header g c = λ told.
    let begins = c.area_start.ensures ∙ ap (λ (n : ℕ). area_start n c.value.result.generation) c.size-size.ensures.value
    ∙ ap (λ (v : SlotValue). area_start (g.D.Disk.byte_count c.self.inside.disk) v.generation) c.value.ensures in
    let within = area_within (g.D.Disk.byte_count c.self.inside.disk) c.self.inside.slots.present.value.generation (omega (arith, c.self.invariant.allowed.least)) in
    subst (λ (v : LogValue g.row.D.Denot). Keeps (SayTheSame (g.D.Disk.state v.disk).content) (g.D.Disk.state v.disk) (g.D.Disk.state c.write_batch.new.disk)) c.self.view_is
    (c.write_batch.ensures.header told (omega (arith, begins, within.least)))
