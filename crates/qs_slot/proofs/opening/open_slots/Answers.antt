use Rattle.qs_slot.specs.Opening.{seen}
use Rattle.qs_slot.proofs.OpeningLemmas.{found_value, found_holds, found_damage, no_damage, same_keeps}
use Rattle.qs_slot.proofs.opening.open_slots.Goals as goal

pub returns-in_err-first-clause-damaged : goal.returns-in_err-first-clause-damaged
returns-in_err-first-clause-damaged g c = λ told at e. no_damage c.from_residual.result at _ c.from_residual.ensures.1 e

pub returns-in_err-second-clause-damaged : goal.returns-in_err-second-clause-damaged
returns-in_err-second-clause-damaged g c = λ told at e. no_damage c.from_residual-in_err-second.result at _ c.from_residual-in_err-second.ensures.1 e

pub returns-in_err-second-clause-moments : goal.returns-in_err-second-clause-moments
returns-in_err-second-clause-moments g c = λ told.
    same_keeps (g.D.Disk.state c.args.disk.now) (g.D.Disk.state c.read_slot.new.disk) (g.D.Disk.state c.read_slot-2.new.disk)
    (c.read_slot.ensures.content told) (c.read_slot.ensures.moments told) (c.read_slot-2.ensures.moments told)

pub returns-clause-value : goal.returns-clause-value
returns-clause-value g c = λ told.
    found_value c.args.limit (g.D.Disk.state c.args.disk.now).content (g.D.Disk.state c.read_slot.new.disk).content (seen c.in_ok-first.first) (seen c.in_ok-second.second) c.chosen.result
    (c.in_ok-first.ensures.slot told) (c.in_ok-second.ensures.slot told) (c.read_slot.ensures.content told) c.chosen.ensures.value

pub returns-clause-holds : goal.returns-clause-holds
returns-clause-holds g c = λ told.
    found_holds c.args.limit (g.D.Disk.state c.args.disk.now).content (g.D.Disk.state c.read_slot.new.disk).content (seen c.in_ok-first.first) (seen c.in_ok-second.second) c.chosen.result
    (c.in_ok-first.ensures.slot told) (c.in_ok-second.ensures.slot told) (c.read_slot.ensures.content told) c.requires.limit c.chosen.ensures.value c.chosen.ensures.next c.chosen.ensures.live

pub returns-clause-damaged : goal.returns-clause-damaged
returns-clause-damaged g c = λ told at e.
    found_damage c.args.limit (g.D.Disk.state c.args.disk.now).content (g.D.Disk.state c.read_slot.new.disk).content (seen c.in_ok-first.first) (seen c.in_ok-second.second) at
    (c.in_ok-first.ensures.slot told) (c.in_ok-second.ensures.slot told) (c.read_slot.ensures.content told) (c.chosen.ensures.damaged at e)

pub returns-clause-below : goal.returns-clause-below
returns-clause-below g c = c.chosen.ensures.below c.args.limit c.in_ok-first.ensures.below c.in_ok-second.ensures.below

pub returns-clause-moments : goal.returns-clause-moments
returns-clause-moments g c = λ told.
    same_keeps (g.D.Disk.state c.args.disk.now) (g.D.Disk.state c.read_slot.new.disk) (g.D.Disk.state c.read_slot-2.new.disk)
    (c.read_slot.ensures.content told) (c.read_slot.ensures.moments told) (c.read_slot-2.ensures.moments told)

pub returns-clause-leads : goal.returns-clause-leads
returns-clause-leads g c = g.met.D.Disk.leads_on c.args.disk.now c.read_slot.new.disk c.read_slot-2.new.disk c.read_slot.ensures.leads c.read_slot-2.ensures.leads
