use Rattle.std.proofs.Common.{◌≡◌, take}
use Rattle.std.specs.BTreeMap.{IsOrdered}
use Rattle.qs_base.specs.Order.{tid_cmp}
use Rattle.qs_book_tables.specs.Held.{FollowShares}
use Rattle.qs_book_tables.specs.Restarts.{kept_shares}
use Rattle.qs_book_tables.proofs.restarts.keep_all.Given as goal

abbrev pub invariant-loop-kept : goal.invariant-loop-kept
invariant-loop-kept l = record {
  value : l.shares.entries ≡ kept_shares (take l.kept-index l.keeps);
  follows : FollowShares l.locks l.shares.entries;
  ordered : IsOrdered tid_cmp l.shares;
}
