use Rattle.std.proofs.Common.{◌≡◌, ◌+◌, inl, inr, ap, sym, subst, arith}
use Rattle.qs_slot.specs.Slot.{Present}
use Rattle.qs_slot.specs.Turning.{HoldsSlots}
use Rattle.qs_test_storage.proofs.slot.turn_twice.Goals as goal

pub write_next-requires-clause-holds : goal.write_next-requires-clause-holds
write_next-requires-clause-holds c = λ told. subst (HoldsSlots c.in_ok-slots.slots) (sym (c.open_slots.ensures.content told)) (c.in_ok-slots.ensures.holds told)

pub write_next-requires-2-clause-sequence : goal.write_next-requires-2-clause-sequence
write_next-requires-2-clause-sequence c =
    let raised : c.write_next.new.self.present.sequence ≡ c.in_ok-slots.slots.present.sequence + 1 = ap (λ (p : Present). p.sequence) c.in_ok-write_next.ensures.turned in
    elim c.in_ok-slots.ensures.below.sequence [ inl below ↦ omega arith | inr none ↦ omega arith ]

pub write_next-requires-2-clause-still : goal.write_next-requires-2-clause-still
write_next-requires-2-clause-still c = c.in_ok-write_next.ensures.still

pub write_next-requires-2-clause-holds : goal.write_next-requires-2-clause-holds
write_next-requires-2-clause-holds c = c.in_ok-write_next.ensures.holds

pub returns : goal.returns
returns c = c.in_ok-write_next-2.ensures.still tt
