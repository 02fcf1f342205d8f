use Rattle.std.proofs.Common.{◌≡◌, ap, arith}
use Rattle.qs_ops.specs.declared.share.Share.{Share}
use Rattle.qs_ops_shares.specs.Shares.{share_in}
use Rattle.qs_files.specs.Noted.{count_notes, note_count}
use Rattle.qs_files.proofs.Counted.{own_noted, noted_removed, counted_of}
use Rattle.qs_files.proofs.holdings.Holdings.commit.Goals as goal

pub overflow_sub-self : goal.overflow_sub-self
overflow_sub-self c =
    let counted = counted_of c.self.inside.shares c.args.tid _ _ _ c.count_notes.ensures c.as_slice.ensures (ap (λ (s : Share). s.changes) c.end-share.ensures.share) in
    omega (arith, counted, own_noted c.self.inside.shares c.args.tid _ _ _ c.self.invariant.noted)

pub add_notes-requires : goal.add_notes-requires
add_notes-requires c =
    let n = c.self.invariant.noted in
    let added : count_notes c.end-share.result.changes ≡ note_count (share_in c.self.inside.shares c.args.tid) = ap (λ (s : Share). note_count s) c.end-share.ensures.share in
    record { room = omega (arith, added, n.room, own_noted c.self.inside.shares c.args.tid _ _ _ n) }

pub invariant_of-self : goal.invariant_of-self
invariant_of-self c =
    let n = c.self.invariant.noted in
    let shares = c.self.inside.shares in
    let counted = counted_of shares c.args.tid _ _ _ c.count_notes.ensures c.as_slice.ensures (ap (λ (s : Share). s.changes) c.end-share.ensures.share) in
    let added : count_notes c.end-share.result.changes ≡ note_count (share_in shares c.args.tid) = ap (λ (s : Share). note_count s) c.end-share.ensures.share in
    let own = own_noted shares c.args.tid _ _ _ n in
    record {
      follows = c.end-share.ensures.follows;
      counted = c.end-share.ensures.counted;
      noted = noted_removed shares c.args.tid _ _ _ n c.end-share.new.shares _ _ _ c.end-share.ensures.shares (omega (arith, counted, own))
          (omega (arith, counted, added, own, n.room, c.add_notes.ensures.len, c.add_notes.ensures.capacity));
    }
