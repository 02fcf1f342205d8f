use Rattle.std.proofs.Common.{◌≡◌, ℕ, take}
use Rattle.std.specs.List.{list_any}
use Rattle.std.specs.Map.{lookup}
use Rattle.std.specs.BTreeMap.{is_at}
use Rattle.qs_book_machine.specs.Nodes.{voter_cmp}
use Rattle.qs_book_machine.specs.Restart.{is_found_as}
use Rattle.qs_book_machine.specs.declared.state.Voter.{Voter}
use Rattle.qs_book.specs.Found.{is_within}
use Rattle.qs_book.proofs.found.FoundVotes.new.Given as goal

abbrev pub invariant-loop-found : goal.invariant-loop-found
invariant-loop-found l = record {
  items : l.items.items ≡ take l.found-index l.pend;
  best : (at : Voter) (covers : ℕ) → is_within (lookup (is_at (voter_cmp at)) l.covers.entries) covers ≡ list_any (is_found_as at covers) (take l.found-index l.pend);
}
