use Rattle.std.proofs.Common.{◌≡◌}
use Rattle.std.specs.Prelude.{◌&&◌, not}
use Rattle.std.specs.List.{list_any}
use Rattle.qs_base.specs.Order.{same_tid}
use Rattle.qs_book_tables.specs.Held.{share_in}
use Rattle.qs_book_tables.proofs.claims.has_voter.Given as goal

abbrev pub invariant-loop-held : goal.invariant-loop-held
invariant-loop-held l =
    list_any (λ t. not (same_tid l.me t) && (share_in l.shares.entries t).voted) l.held-iterator ≡ list_any (λ t. not (same_tid l.me t) && (share_in l.shares.entries t).voted) l.tids.keys
