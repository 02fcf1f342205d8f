use Rattle.std.proofs.Common.{rules, ◌≡◌, ◌+◌, ◌∙◌, List, ap, arith}
use Rattle.qs_ops.specs.declared.operation.Op.{Op}
use Rattle.qs_ops_shares.specs.Shares.{kept_share}
use Rattle.qs_files.specs.Noted.{count_notes}
use Rattle.qs_files.proofs.Counted.{own_noted, noted_inserted, counted_of}
use Rattle.qs_files.proofs.holdings.Holdings.keep.Goals as goal

pub overflow_sub-self : goal.overflow_sub-self
overflow_sub-self c =
    let n = c.self.invariant.noted in
    let dropped = counted_of c.self.inside.shares c.args.tid _ _ _ c.count_notes.ensures c.as_slice-2.ensures c.in_ok-copy_changes.ensures in
    let more : c.in_ok-waiting.waiting ≡ c.self.inside.waiting + c.count_notes-added.result = search rules in
    omega (arith, dropped, more, own_noted c.self.inside.shares c.args.tid _ _ _ n)

pub invariant_of-self-2 : goal.invariant_of-self-2
invariant_of-self-2 c =
    let n = c.self.invariant.noted in
    let shares = c.self.inside.shares in
    let own = own_noted shares c.args.tid _ _ _ n in
    let dropped = counted_of c.self.inside.shares c.args.tid _ _ _ c.count_notes.ensures c.as_slice-2.ensures c.in_ok-copy_changes.ensures in
    let added : c.count_notes-added.result ≡ count_notes c.args.changes.now = c.count_notes-added.ensures ∙ ap (λ (xs : List Op). count_notes xs) c.as_slice.ensures in
    let more : c.in_ok-waiting.waiting ≡ c.self.inside.waiting + c.count_notes-added.result = search rules in
    record {
      follows = c.keep.ensures.follows;
      counted = c.keep.ensures.counted;
      noted = noted_inserted shares c.args.tid _ _ _ n c.keep.new.shares
          (kept_share c.args.changes.now) _ _ _ c.in_order.ensures c.in_ok-keep.ensures.shares (omega (arith, dropped, added, more, own)) (omega (arith, dropped, more, own, c.in_ok-reserve.ensures.ok));
    }
