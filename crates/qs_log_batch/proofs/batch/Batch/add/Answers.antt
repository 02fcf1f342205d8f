use Rattle.std.proofs.Common.{◌≡◌, ◌+◌, List, ℕ, [], ◌∷◌, ◌++◌, length, ap, ◌∙◌, sym, arith}
use Rattle.std.specs.Prelude.{vec_capacity}
use Rattle.qs_record.specs.Grammar.{SpellsRecord}
use Rattle.qs_record.specs.declared.record.Record.{Record}
use Rattle.qs_log_batch.proofs.GatheringLemmas.{gathered_small, gathered_few, gathered_more, part_is, IsAdded}
use Rattle.qs_log_batch.proofs.batch.Batch.add.Goals as goal

-- src/batch.rt:85:9
pub put_behind-requires-clause-small : goal.put_behind-requires-clause-small
put_behind-requires-clause-small c =
    gathered_small c.self.inside.count c.self.inside.size c.self.inside.bytes.items (vec_capacity c.self.inside.bytes) c.args.rec.now c.as_slice.result.now c.args.self.now c.self.invariant c.self.view_is
    (part_is c.args.rec.now _ _ _ c.in_ok-encode.ensures.ok c.truncate.ensures c.as_slice.ensures) c.requires.fits

-- src/batch.rt:87:9
pub overflow_add-self-2 : goal.overflow_add-self-2
overflow_add-self-2 c =
    omega (arith, gathered_few c.self.inside.count c.self.inside.size c.self.inside.bytes.items (vec_capacity c.self.inside.bytes) c.self.invariant, c.self.invariant.small)

-- what stands in the fields at the end
added : (c : goal.After-self-2-1)
    → IsAdded c.self.inside.count c.self.inside.size c.self.inside.bytes.items c.args.rec.now (c.self.inside.size + c.len.result) c.put_behind.new.bytes.items (vec_capacity c.put_behind.new.bytes)
added c =
    let part : List ℕ = c.as_slice.result.now in
    let spelled : SpellsRecord c.args.rec.now part = part_is c.args.rec.now _ _ _ c.in_ok-encode.ensures.ok c.truncate.ensures c.as_slice.ensures in
    let long : c.len.result ≡ length part = c.len.ensures ∙ ap length (sym c.as_slice.ensures) in
    rw long (gathered_more c.self.inside.count c.self.inside.size c.self.inside.bytes.items c.put_behind.new.bytes.items (vec_capacity c.self.inside.bytes) (vec_capacity c.put_behind.new.bytes)
    c.args.rec.now part c.self.invariant spelled
    (gathered_small c.self.inside.count c.self.inside.size c.self.inside.bytes.items (vec_capacity c.self.inside.bytes) c.args.rec.now part c.args.self.now c.self.invariant c.self.view_is spelled c.requires.fits)
    c.in_ok-put_behind.ensures.body c.in_ok-put_behind.ensures.within c.in_ok-put_behind.ensures.room)

-- src/batch.rt:77:5
pub invariant_of-self-2 : goal.invariant_of-self-2
invariant_of-self-2 c = (added c).gathered

-- src/batch.rt:77:5
pub returns-clause-ok : goal.returns-clause-ok
returns-clause-ok c = (added c).records ∙ ap (λ (rs : List Record). rs ++ c.args.rec.now ∷ []) c.self.view_is
