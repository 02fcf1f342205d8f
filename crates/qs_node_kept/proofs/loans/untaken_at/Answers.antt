use Rattle.std.proofs.Common.{sym}
use Rattle.qs_node_kept.proofs.Lending.{takes_at, takes_none}
use Rattle.qs_node_kept.proofs.loans.untaken_at.Goals as goal

pub bounds-loans-place : goal.bounds-loans-place
bounds-loans-place c = (takes_at c.args.client c.args.tid c.args.loans.now c.in-Some.place (sym c.in-Some.ensures)).within

pub returns-in-Some : goal.returns-in-Some
returns-in-Some c = takes_at c.args.client c.args.tid c.args.loans.now c.in-Some.place (sym c.in-Some.ensures)

pub returns-in-None : goal.returns-in-None
returns-in-None c = takes_none c.args.client c.args.tid c.args.loans.now (sym c.in-None.ensures)
