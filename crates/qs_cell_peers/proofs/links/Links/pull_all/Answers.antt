use Rattle.std.proofs.Common.{◌≤◌, arith}
use Rattle.qs_cell_peers.proofs.Pulling.{emptied_all, pulled_none, pulls_all, pulls_more, pulls_up_to}
use Rattle.qs_cell_peers.proofs.links.Links.pull_all.Goals as goal

pub loop-from-init : goal.loop-from-init
loop-from-init c = pulled_none c.args.self.now

pub loop-from-preserved : goal.loop-from-preserved
loop-from-preserved c = pulls_more c.loop-from.from c.args.self.now c.loop-from.self c.pull_from.new.self c.loop-from.invariant c.pull_from.ensures.pulls c.in_ok-pull_from.ensures.emptied

pub returns-in_err-pull_from-clause-pulls : goal.returns-in_err-pull_from-clause-pulls
returns-in_err-pull_from-clause-pulls c = pulls_up_to c.loop-from.from c.args.self.now c.loop-from.self c.pull_from.new.self c.loop-from.invariant c.pull_from.ensures.pulls

pub returns-clause-pulls : goal.returns-clause-pulls
returns-clause-pulls c = pulls_all c.loop-from.from c.args.self.now c.loop-from.self c.loop-from.invariant

pub returns-clause-emptied : goal.returns-clause-emptied
returns-clause-emptied c =
    let most : c.args.self.now.size ≤ c.loop-from.from = omega arith in
    emptied_all c.loop-from.from c.args.self.now c.loop-from.self most c.loop-from.invariant
