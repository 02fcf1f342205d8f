use Rattle.std.proofs.Common.{subst, refl}
use Rattle.std.proofs.lemmas.Bool.{false≢true}
use Rattle.qs_log_batch.specs.Batch.{IsBroken}
use Rattle.qs_log_batch.specs.Reading.{HasNone, AddsBatch}
use Rattle.qs_log_batch.proofs.AreaLemmas.{read_more, read_whole, read_broken, told_place}
use Rattle.qs_log_batch.proofs.area.read_batches.Goals as goal

-- src/area.rt:38:13
pub returns-in_default-clause-broken : goal.returns-in_default-clause-broken
returns-in_default-clause-broken c = λ at told.
    let none : HasNone 1 c.loop-alloc.rest.now = rw c.in_default.is at c.in_ok-used.ensures in
    subst (IsBroken c.args.format c.args.area.now) (told_place _ at told)
    (read_broken c.args.format c.args.area.now c.loop-alloc.rest.now c.loop-alloc.records c.requires c.loop-alloc.invariant (c.loop-alloc-test.ensures.0 refl) none)

-- src/area.rt:36:5
pub loop-alloc-preserved : goal.loop-alloc-preserved
loop-alloc-preserved c =
    let adds : AddsBatch c.loop-alloc.rest.now c.in-Some.used c.loop-alloc.records c.add_batch.new.records = rw c.in-Some.is at c.in_ok-used.ensures in
    read_more c.args.area.now c.loop-alloc.rest.now c.split_at.result.1.now c.in-Some.used c.loop-alloc.records c.add_batch.new.records c.loop-alloc.invariant adds c.split_at.ensures.back

-- src/area.rt:28:1
pub returns-clause-found : goal.returns-clause-found
returns-clause-found c =
    read_whole c.args.format c.args.area.now c.loop-alloc.rest.now c.loop-alloc.records c.requires c.loop-alloc.invariant (λ gate. false≢true (c.loop-alloc-test.ensures.1 gate))
