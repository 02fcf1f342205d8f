use Rattle.std.proofs.Common.{◌≡◌, length}
use Rattle.std.specs.List.{fold}
use Rattle.std.specs.Vec.Iter.{into_iter_items, into_iter_len}
use Rattle.qs_book_machine.specs.Restart.{with_vote}
use Rattle.qs_book.proofs.book.nodes.put_votes_at.Given as goal

-- the votes that are left make of this node what all votes make of the first one
abbrev pub invariant-loop-voter : goal.invariant-loop-voter
invariant-loop-voter l = record {
  value : fold with_vote l.node (into_iter_items l.voter-iterator) ≡ fold with_vote l.initial.node (into_iter_items l.initial.voter-iterator);
  count : into_iter_len l.voter-iterator ≡ length (into_iter_items l.voter-iterator);
}
