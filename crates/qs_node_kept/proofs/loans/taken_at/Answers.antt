use Rattle.std.proofs.Common.{refl, slice_index_or}
use Rattle.qs_node_kept.proofs.Lending.{no_loan, yields_more}
use Rattle.qs_node_kept.proofs.loans.taken_at.Goals as goal

pub loop-place-preserved : goal.loop-place-preserved
loop-place-preserved c =
    yields_more c.args.client c.args.tid c.args.loans.now c.loop-place.place (slice_index_or c.args.loans.now c.loop-place.place no_loan) c.loop-place.last c.later_taken-last.result
    c.loop-place-test.true refl c.later_taken-last.ensures c.loop-place.invariant
