use Rattle.std.proofs.Common.{refl, ap, ◌∙◌}
use Rattle.std.specs.Prelude.{vec_capacity}
use Rattle.qs_log_batch.specs.Gathering.{records_in}
use Rattle.qs_log_batch.proofs.GatheringLemmas.{gathered_some, seen_sealed, sealed_body}
use Rattle.qs_log_batch.proofs.batch.Batch.seal.Goals as goal

-- src/batch.rt:95:9
pub seal_in-requires-clause-within : goal.seal_in-requires-clause-within
seal_in-requires-clause-within c =
    c.self.invariant.within (gathered_some c.self.inside.count c.self.inside.size c.self.inside.bytes.items (vec_capacity c.self.inside.bytes) c.self.invariant (rw c.self.view_is c.requires.some))

-- src/batch.rt:95:9
pub seal_in-requires-clause-room : goal.seal_in-requires-clause-room
seal_in-requires-clause-room c =
    c.self.invariant.room (gathered_some c.self.inside.count c.self.inside.size c.self.inside.bytes.items (vec_capacity c.self.inside.bytes) c.self.invariant (rw c.self.view_is c.requires.some))

-- src/batch.rt:91:5
pub returns : goal.returns
returns c =
    let body = sealed_body c.self.inside.count c.self.inside.size c.self.inside.bytes.items c.seal_in.new.bytes.items c.self.invariant.within c.seal_in.ensures.items in (
      (refl, (λ _. tt), ap (records_in c.self.inside.count) body.0 ∙ c.self.view_is),
      record {
        same = tt;
        bytes = seen_sealed c.self.inside.count c.self.inside.size c.self.inside.bytes.items c.seal_in.new.bytes.items c.as_slice.result.now (vec_capacity c.self.inside.bytes) c.args.self.now
            c.self.invariant c.self.view_is c.requires.some c.seal_in.ensures.items c.as_slice.ensures.value;
      },
    )
