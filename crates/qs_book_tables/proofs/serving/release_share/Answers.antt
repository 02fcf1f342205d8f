use Rattle.std.proofs.Common.{ap, sym, Option}
use Rattle.std.specs.Prelude.{unwrap_or}
use Rattle.qs_ops.specs.declared.share.Share.{Share}
use Rattle.qs_ops.specs.Table.{nothing_held}
use Rattle.qs_book_tables.proofs.ShareSteps.{follow_released}
use Rattle.qs_book_tables.proofs.serving.release_share.Goals as goal

pub returns-clause-follows : goal.returns-clause-follows
returns-clause-follows c =
    rw c.remove.ensures.entries
    (follow_released c.args.locks.now c.release.new.self c.args.shares.now.entries c.args.tid c.in_ok-share.share
    c.requires.follows c.release.ensures.changers c.release.ensures.readers
    (ap (λ (o : Option Share). unwrap_or o nothing_held) (sym c.in_ok-share.ensures.value))
    (rw (← c.remove.ensures.entries) c.remove.ensures.updates.1))
