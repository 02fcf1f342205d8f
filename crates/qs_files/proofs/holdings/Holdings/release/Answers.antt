use Rattle.std.proofs.Common.{ap, arith}
use Rattle.qs_ops.specs.declared.share.Share.{Share}
use Rattle.qs_files.proofs.Counted.{own_noted, noted_removed, counted_of}
use Rattle.qs_files.proofs.holdings.Holdings.release.Goals as goal

pub overflow_sub-self : goal.overflow_sub-self
overflow_sub-self c =
    let counted = counted_of c.self.inside.shares c.args.tid _ _ _ c.count_notes.ensures c.as_slice.ensures (ap (λ (s : Share). s.changes) c.end-share.ensures.share) in
    omega (arith, counted, own_noted c.self.inside.shares c.args.tid _ _ _ c.self.invariant.noted)

pub invariant_of-self : goal.invariant_of-self
invariant_of-self c =
    let n = c.self.invariant.noted in
    let shares = c.self.inside.shares in
    let counted = counted_of shares c.args.tid _ _ _ c.count_notes.ensures c.as_slice.ensures (ap (λ (s : Share). s.changes) c.end-share.ensures.share) in
    let own = own_noted shares c.args.tid _ _ _ n in
    record {
      follows = c.end-share.ensures.follows;
      counted = c.end-share.ensures.counted;
      noted = noted_removed shares c.args.tid _ _ _ n c.end-share.new.shares _ _ _ c.end-share.ensures.shares (omega (arith, counted, own)) (omega (arith, counted, own, n.room));
    }
