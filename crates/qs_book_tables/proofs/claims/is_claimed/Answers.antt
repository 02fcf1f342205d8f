use Rattle.std.proofs.Common.{◌∙◌}
use Rattle.qs_book_tables.proofs.Taken.{claimed-from_holders, claimed-from_none}
use Rattle.qs_book_tables.proofs.claims.is_claimed.Goals as goal

pub returns-then-len-ne0 : goal.returns-then-len-ne0
returns-then-len-ne0 c =
    c.has_voter.ensures
    ∙ claimed-from_holders c.args.me c.args.name.now c.args.shares.now.entries c.in-Some.tids.now.keys c.len.ensures.ordered (c.in-Some.ensures ∙ c.requires.at_changers c.args.name.now)

pub returns-in-None : goal.returns-in-None
returns-in-None c =
    claimed-from_none c.args.me c.args.name.now c.args.shares.now.entries (c.in-None.ensures ∙ c.requires.at_changers c.args.name.now)
