use Rattle.std.proofs.Common.{◌≡◌, ℕ, List, IfOk, Ok, subst}
use Rattle.qs_slot.specs.Slot.{slots_in}
use Rattle.qs_slot.specs.Turning.{HoldsSlots}
use Rattle.qs_log.specs.Image.{IsLog, IsDamaged}
use Rattle.qs_log.proofs.ReadLemmas.{synced_was, synced_on}
use Rattle.qs_log.proofs.opening.read_log.Goals as goal

pub returns-in-Ok-clause-says : goal.returns-in-Ok-clause-says
returns-in-Ok-clause-says g c = λ told.
    subst (λ (xs : List ℕ). IfOk c.read_held.result (λ held. slots_in c.args.limit xs ≡ Ok held.slots.present)) (c.in-Ok.ensures.state told).content (c.read_held.ensures.says told)

pub returns-in-Ok-clause-holds : goal.returns-in-Ok-clause-holds
returns-in-Ok-clause-holds g c = λ told.
    subst (λ (xs : List ℕ). IfOk c.read_held.result (λ held. HoldsSlots held.slots xs)) (c.in-Ok.ensures.state told).content (c.read_held.ensures.holds told)

pub returns-in-Ok-clause-log : goal.returns-in-Ok-clause-log
returns-in-Ok-clause-log g c = λ told.
    subst (λ (xs : List ℕ). IfOk c.read_held.result (λ held. IsLog held.slots.present held.records held.used xs)) (c.in-Ok.ensures.state told).content (c.read_held.ensures.log told)

pub returns-in-Ok-clause-damaged : goal.returns-in-Ok-clause-damaged
returns-in-Ok-clause-damaged g c = λ told at e.
    subst (λ (xs : List ℕ). IsDamaged c.args.limit xs at) (c.in-Ok.ensures.state told).content (c.read_held.ensures.damaged told at e)

pub returns-in-Ok-clause-moments : goal.returns-in-Ok-clause-moments
returns-in-Ok-clause-moments g c = λ told.
    synced_on _ (g.D.Disk.state c.args.disk.now) (g.D.Disk.state c.settle.new.disk) (g.D.Disk.state c.read_held.new.disk) (c.in-Ok.ensures.state told) (c.read_held.ensures.moments told)

pub returns-in-Err-clause-damaged : goal.returns-in-Err-clause-damaged
returns-in-Err-clause-damaged g c = λ told at e. cc

pub returns-in-Err-clause-moments : goal.returns-in-Err-clause-moments
returns-in-Err-clause-moments g c = λ told. synced_was _ (g.D.Disk.state c.args.disk.now) (g.D.Disk.state c.settle.new.disk) (c.in-Err.ensures.state told)
