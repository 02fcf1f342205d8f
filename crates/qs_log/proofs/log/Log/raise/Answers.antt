use Rattle.std.proofs.Common.{◌≡◌, ◌<◌, ◌+◌, ◌-◌, ◌^◌, refl, sym, ◌∙◌, ap, subst, arith, ℕ, Ok}
use Rattle.qs_disk.specs.Disk.{MayLeave}
use Rattle.qs_disk.specs.Moments.{Keeps}
use Rattle.qs_slot.specs.Slot.{is_format, StandBelow, slots_in}
use Rattle.qs_slot.specs.Turning.{SaysAsBefore, turned}
use Rattle.qs_slot.specs.declared.value.SlotValue.{SlotValue}
use Rattle.qs_log.specs.Log.{LogValue, Stands, IsOldOrRaised, raised_of, top_of}
use Rattle.qs_log.proofs.Raising.{raising, raised_stands, enough, left_if, raising_below}
use Rattle.qs_log.proofs.Holding.{view_of, kept_slots, kept_raised}
use Rattle.qs_log.proofs.log.Log.raise.Goals as goal

pub overflow_add-inc : goal.overflow_add-inc
overflow_add-inc g c =
    let below = subst (λ (v : LogValue g.row.D.Denot). top_of v.slots.present < 2 ^ 62 - 1) (sym c.self.view_is) c.requires.below in
    let is = ap (λ (v : SlotValue). v.inc) c.value-value.ensures in
    omega (arith, below, is)

pub write_next-requires-clause-sequence : goal.write_next-requires-clause-sequence
write_next-requires-clause-sequence g c =
    let below = subst (λ (v : LogValue g.row.D.Denot). top_of v.slots.present < 2 ^ 62 - 1) (sym c.self.view_is) c.requires.below in
    omega (arith, below)

pub write_next-requires-clause-inc : goal.write_next-requires-clause-inc
write_next-requires-clause-inc g c =
    let below = subst (λ (v : LogValue g.row.D.Denot). top_of v.slots.present < 2 ^ 62 - 1) (sym c.self.view_is) c.requires.below in
    let is = ap (λ (v : SlotValue). v.inc) c.value-value.ensures in
    omega (arith, below, is)

pub write_next-requires-clause-format : goal.write_next-requires-clause-format
write_next-requires-clause-format g c = ap (λ (v : SlotValue). is_format v.format) c.value-value.ensures ∙ ap is_format c.self.invariant.format

pub write_next-requires-clause-still : goal.write_next-requires-clause-still
write_next-requires-clause-still g c = λ told.
    let here = subst (λ (v : LogValue g.row.D.Denot). Stands v (g.D.Disk.state v.disk)) (sym c.self.view_is) (c.requires.stands told) in
    here.still

pub write_next-requires-clause-holds : goal.write_next-requires-clause-holds
write_next-requires-clause-holds g c = λ told.
    let here = subst (λ (v : LogValue g.row.D.Denot). Stands v (g.D.Disk.state v.disk)) (sym c.self.view_is) (c.requires.stands told) in
    here.slots

pub invariant_of-self : goal.invariant_of-self
invariant_of-self g c =
    kept_slots (g.D.Disk.byte_count c.self.inside.disk) (g.D.Disk.byte_count c.write_next.new.disk) c.self.inside.slots c.write_next.new.self c.self.inside.records c.self.inside.forced
    c.self.inside.batch c.self.inside.used c.self.invariant c.write_next.ensures.size c.in_err-write_next.ensures.same

pub returns-in_err-write_next-clause-moments : goal.returns-in_err-write_next-clause-moments
returns-in_err-write_next-clause-moments g c = λ told.
    let here = subst (λ (v : LogValue g.row.D.Denot). Stands v (g.D.Disk.state v.disk)) (sym c.self.view_is) (c.requires.stands told) in
    subst (λ (v : LogValue g.row.D.Denot). Keeps (IsOldOrRaised v) (g.D.Disk.state v.disk) (g.D.Disk.state c.write_next.new.disk)) c.self.view_is
    (raising (view_of c.self.inside.disk c.self.inside.slots c.self.inside.records c.self.inside.forced c.self.inside.used) (record c.value-value.result { inc = c.value-value.result.inc + 1 }) (g.D.Disk.state c.self.inside.disk) (g.D.Disk.state c.write_next.new.disk) here (enough (g.D.Disk.state c.self.inside.disk) (g.D.Disk.byte_count c.self.inside.disk) (g.met.D.Disk.sized c.self.inside.disk told) c.self.invariant.allowed) (ap (λ (v : SlotValue). record v { inc = v.inc + 1 }) c.value-value.ensures) (c.write_next.ensures.moments told))

pub returns-in_err-write_next-clause-kept : goal.returns-in_err-write_next-clause-kept
returns-in_err-write_next-clause-kept g c = λ told.
    let left = subst (λ (v : LogValue g.row.D.Denot). MayLeave (SaysAsBefore (g.D.Disk.state v.disk).content) (g.D.Disk.state c.write_next.new.disk).now) c.self.view_is (c.in_err-write_next.ensures.kept told) in
    left_if (MayLeave (SaysAsBefore (g.D.Disk.state c.args.self.now.disk).content) (g.D.Disk.state c.write_next.new.disk).now) _ left

pub invariant_of-self-2 : goal.invariant_of-self-2
invariant_of-self-2 g c =
    let turns : c.write_next.new.self.present ≡ raised_of c.self.inside.slots.present = c.in_ok-write_next.ensures.turned ∙ ap (λ (v : SlotValue). turned c.self.inside.slots.present (record v { inc = v.inc + 1 })) c.value-value.ensures in
    kept_raised (g.D.Disk.byte_count c.self.inside.disk) (g.D.Disk.byte_count c.write_next.new.disk) c.self.inside.slots c.write_next.new.self c.self.inside.records c.self.inside.forced
    c.self.inside.batch c.self.inside.used c.self.invariant c.write_next.ensures.size turns

pub returns-clause-moments : goal.returns-clause-moments
returns-clause-moments g c = λ told.
    let here = subst (λ (v : LogValue g.row.D.Denot). Stands v (g.D.Disk.state v.disk)) (sym c.self.view_is) (c.requires.stands told) in
    subst (λ (v : LogValue g.row.D.Denot). Keeps (IsOldOrRaised v) (g.D.Disk.state v.disk) (g.D.Disk.state c.write_next.new.disk)) c.self.view_is
    (raising (view_of c.self.inside.disk c.self.inside.slots c.self.inside.records c.self.inside.forced c.self.inside.used) (record c.value-value.result { inc = c.value-value.result.inc + 1 }) (g.D.Disk.state c.self.inside.disk) (g.D.Disk.state c.write_next.new.disk) here (enough (g.D.Disk.state c.self.inside.disk) (g.D.Disk.byte_count c.self.inside.disk) (g.met.D.Disk.sized c.self.inside.disk told) c.self.invariant.allowed) (ap (λ (v : SlotValue). record v { inc = v.inc + 1 }) c.value-value.ensures) (c.write_next.ensures.moments told))

pub returns-clause-answer : goal.returns-clause-answer
returns-clause-answer g c = ap (λ (v : SlotValue). v.inc + 1) c.value-value.ensures ∙ ap (λ (v : LogValue g.row.D.Denot). v.slots.present.value.inc + 1) c.self.view_is

pub returns-clause-raised : goal.returns-clause-raised
returns-clause-raised g c =
    let turns : c.write_next.new.self.present ≡ raised_of c.self.inside.slots.present = c.in_ok-write_next.ensures.turned ∙ ap (λ (v : SlotValue). turned c.self.inside.slots.present (record v { inc = v.inc + 1 })) c.value-value.ensures in
    turns ∙ ap (λ (v : LogValue g.row.D.Denot). raised_of v.slots.present) c.self.view_is

pub returns-clause-stands : goal.returns-clause-stands
returns-clause-stands g c = λ told.
    let here = subst (λ (v : LogValue g.row.D.Denot). Stands v (g.D.Disk.state v.disk)) (sym c.self.view_is) (c.requires.stands told) in
    let turns : c.write_next.new.self.present ≡ raised_of c.self.inside.slots.present = c.in_ok-write_next.ensures.turned ∙ ap (λ (v : SlotValue). turned c.self.inside.slots.present (record v { inc = v.inc + 1 })) c.value-value.ensures in
    raised_stands (view_of c.self.inside.disk c.self.inside.slots c.self.inside.records c.self.inside.forced c.self.inside.used) (view_of c.write_next.new.disk c.write_next.new.self c.self.inside.records c.self.inside.forced c.self.inside.used)
    (g.D.Disk.state c.self.inside.disk) (g.D.Disk.state c.write_next.new.disk) here (enough (g.D.Disk.state c.self.inside.disk) (g.D.Disk.byte_count c.self.inside.disk) (g.met.D.Disk.sized c.self.inside.disk told) c.self.invariant.allowed) turns refl refl
    (c.in_ok-write_next.ensures.still told) (c.in_ok-write_next.ensures.holds told) (c.in_ok-write_next.ensures.behind told)

pub returns-in_err-write_next-clause-below : goal.returns-in_err-write_next-clause-below
returns-in_err-write_next-clause-below g c = λ told.
    subst (λ (v : LogValue g.row.D.Denot). (limit : ℕ) → slots_in limit (g.D.Disk.state v.disk).content ≡ Ok v.slots.present → top_of v.slots.present + 1 < limit
    → Keeps (StandBelow limit) (g.D.Disk.state v.disk) (g.D.Disk.state c.write_next.new.disk)) c.self.view_is
    (λ limit said fits. raising_below (view_of c.self.inside.disk c.self.inside.slots c.self.inside.records c.self.inside.forced c.self.inside.used) (record c.value-value.result { inc = c.value-value.result.inc + 1 })
    (g.D.Disk.state c.self.inside.disk) (g.D.Disk.state c.write_next.new.disk) limit said fits (ap (λ (v : SlotValue). record v { inc = v.inc + 1 }) c.value-value.ensures) (c.write_next.ensures.moments told))

pub returns-clause-below : goal.returns-clause-below
returns-clause-below g c = λ told.
    subst (λ (v : LogValue g.row.D.Denot). (limit : ℕ) → slots_in limit (g.D.Disk.state v.disk).content ≡ Ok v.slots.present → top_of v.slots.present + 1 < limit
    → Keeps (StandBelow limit) (g.D.Disk.state v.disk) (g.D.Disk.state c.write_next.new.disk)) c.self.view_is
    (λ limit said fits. raising_below (view_of c.self.inside.disk c.self.inside.slots c.self.inside.records c.self.inside.forced c.self.inside.used) (record c.value-value.result { inc = c.value-value.result.inc + 1 })
    (g.D.Disk.state c.self.inside.disk) (g.D.Disk.state c.write_next.new.disk) limit said fits (ap (λ (v : SlotValue). record v { inc = v.inc + 1 }) c.value-value.ensures) (c.write_next.ensures.moments told))
