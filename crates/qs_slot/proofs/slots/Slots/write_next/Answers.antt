use Rattle.std.proofs.Common.{◌+◌, ◌∙◌, ap, sym, subst, arith}
use Rattle.qs_slot.specs.Turning.{SlotsValue, HoldsSlots, other}
use Rattle.qs_slot.specs.Opening.{offset_of}
use Rattle.qs_slot.specs.Body.{IsBody, closing_bytes}
use Rattle.qs_slot.proofs.StagingLemmas.{unturned}
use Rattle.qs_slot.proofs.TurningLemmas.{IsTurn, turning, turned_holds, turned_is}
use Rattle.qs_slot.proofs.slots.Slots.write_next.Goals as goal

pub returns-in_err-write_slot-clause-moments : goal.returns-in_err-write_slot-clause-moments
returns-in_err-write_slot-clause-moments g c = λ told.
    let turn : IsTurn c.args.self.now c.args.value (g.D.Disk.state c.args.disk.now).content c.offset-place.result c.closing.result.now c.body_of-body.result =
    record {
      place_is = c.offset-place.ensures.exact ∙ ap (λ (slots : SlotsValue). slots.present.next) c.self.view_is;
      closing_is = c.closing.ensures.exact ∙ ap (λ (slots : SlotsValue). closing_bytes slots.next_open) c.self.view_is;
      body_is = subst (λ (slots : SlotsValue). IsBody (slots.present.sequence + 1) c.args.value c.body_of-body.result) c.self.view_is c.body_of-body.ensures;
      holds = c.requires.holds told;
      room = omega (arith, g.met.D.Disk.sized c.args.disk.now told, c.size-size.ensures.value, c.size-size.ensures.allowed.least);
      below = c.requires.sequence;
      inc_below = c.requires.inc;
      known = c.requires.format;
    }
    in
    turning c.args.self.now c.args.value c.offset-place.result c.closing.result.now c.body_of-body.result (g.D.Disk.state c.args.disk.now) (g.D.Disk.state c.write_slot.new.disk) turn
    (c.write_slot.ensures.moments told)

pub returns-clause-moments : goal.returns-clause-moments
returns-clause-moments g c = λ told.
    let turn : IsTurn c.args.self.now c.args.value (g.D.Disk.state c.args.disk.now).content c.offset-place.result c.closing.result.now c.body_of-body.result =
    record {
      place_is = c.offset-place.ensures.exact ∙ ap (λ (slots : SlotsValue). slots.present.next) c.self.view_is;
      closing_is = c.closing.ensures.exact ∙ ap (λ (slots : SlotsValue). closing_bytes slots.next_open) c.self.view_is;
      body_is = subst (λ (slots : SlotsValue). IsBody (slots.present.sequence + 1) c.args.value c.body_of-body.result) c.self.view_is c.body_of-body.ensures;
      holds = c.requires.holds told;
      room = omega (arith, g.met.D.Disk.sized c.args.disk.now told, c.size-size.ensures.value, c.size-size.ensures.allowed.least);
      below = c.requires.sequence;
      inc_below = c.requires.inc;
      known = c.requires.format;
    }
    in
    turning c.args.self.now c.args.value c.offset-place.result c.closing.result.now c.body_of-body.result (g.D.Disk.state c.args.disk.now) (g.D.Disk.state c.write_slot.new.disk) turn
    (c.write_slot.ensures.moments told)

pub returns-clause-holds : goal.returns-clause-holds
returns-clause-holds g c = λ told.
    let turn : IsTurn c.args.self.now c.args.value (g.D.Disk.state c.args.disk.now).content c.offset-place.result c.closing.result.now c.body_of-body.result =
    record {
      place_is = c.offset-place.ensures.exact ∙ ap (λ (slots : SlotsValue). slots.present.next) c.self.view_is;
      closing_is = c.closing.ensures.exact ∙ ap (λ (slots : SlotsValue). closing_bytes slots.next_open) c.self.view_is;
      body_is = subst (λ (slots : SlotsValue). IsBody (slots.present.sequence + 1) c.args.value c.body_of-body.result) c.self.view_is c.body_of-body.ensures;
      holds = c.requires.holds told;
      room = omega (arith, g.met.D.Disk.sized c.args.disk.now told, c.size-size.ensures.value, c.size-size.ensures.allowed.least);
      below = c.requires.sequence;
      inc_below = c.requires.inc;
      known = c.requires.format;
    }
    in
    subst (λ (slots : SlotsValue). HoldsSlots slots (g.D.Disk.state c.write_slot.new.disk).content)
    (turned_is c.args.self.now c.args.value c.self.inside.sequence (offset_of c.other.result) c.self.inside.live_open
    (sym (ap (λ (slots : SlotsValue). slots.present.sequence) c.self.view_is))
    (sym (ap (λ (slots : SlotsValue). other slots.present.next) c.self.view_is) ∙ sym c.other.ensures)
    (sym (ap (λ (slots : SlotsValue). slots.live_open) c.self.view_is)))
    (turned_holds c.args.self.now c.args.value c.offset-place.result c.closing.result.now c.body_of-body.result (g.D.Disk.state c.args.disk.now).content (g.D.Disk.state c.write_slot.new.disk).content turn
    (c.in_ok-write_slot.ensures.written told)).0

pub returns-clause-behind : goal.returns-clause-behind
returns-clause-behind g c = λ told.
    let turn : IsTurn c.args.self.now c.args.value (g.D.Disk.state c.args.disk.now).content c.offset-place.result c.closing.result.now c.body_of-body.result =
    record {
      place_is = c.offset-place.ensures.exact ∙ ap (λ (slots : SlotsValue). slots.present.next) c.self.view_is;
      closing_is = c.closing.ensures.exact ∙ ap (λ (slots : SlotsValue). closing_bytes slots.next_open) c.self.view_is;
      body_is = subst (λ (slots : SlotsValue). IsBody (slots.present.sequence + 1) c.args.value c.body_of-body.result) c.self.view_is c.body_of-body.ensures;
      holds = c.requires.holds told;
      room = omega (arith, g.met.D.Disk.sized c.args.disk.now told, c.size-size.ensures.value, c.size-size.ensures.allowed.least);
      below = c.requires.sequence;
      inc_below = c.requires.inc;
      known = c.requires.format;
    }
    in
    (turned_holds c.args.self.now c.args.value c.offset-place.result c.closing.result.now c.body_of-body.result (g.D.Disk.state c.args.disk.now).content (g.D.Disk.state c.write_slot.new.disk).content turn
    (c.in_ok-write_slot.ensures.written told)).1

pub returns-in_err-write_slot-clause-kept : goal.returns-in_err-write_slot-clause-kept
returns-in_err-write_slot-clause-kept g c = λ told.
    let turn : IsTurn c.args.self.now c.args.value (g.D.Disk.state c.args.disk.now).content c.offset-place.result c.closing.result.now c.body_of-body.result =
    record {
      place_is = c.offset-place.ensures.exact ∙ ap (λ (slots : SlotsValue). slots.present.next) c.self.view_is;
      closing_is = c.closing.ensures.exact ∙ ap (λ (slots : SlotsValue). closing_bytes slots.next_open) c.self.view_is;
      body_is = subst (λ (slots : SlotsValue). IsBody (slots.present.sequence + 1) c.args.value c.body_of-body.result) c.self.view_is c.body_of-body.ensures;
      holds = c.requires.holds told;
      room = omega (arith, g.met.D.Disk.sized c.args.disk.now told, c.size-size.ensures.value, c.size-size.ensures.allowed.least);
      below = c.requires.sequence;
      inc_below = c.requires.inc;
      known = c.requires.format;
    }
    in
    unturned c.args.self.now c.args.value c.offset-place.result c.closing.result.now c.body_of-body.result (g.D.Disk.state c.args.disk.now).content (g.D.Disk.state c.write_slot.new.disk).now _ turn
    (c.in_err-write_slot.ensures.kept told)
