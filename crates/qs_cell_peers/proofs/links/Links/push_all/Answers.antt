use Rattle.std.proofs.Common.{◌≤◌, arith}
use Rattle.qs_cell_peers.proofs.Pulling.{pushed_none, pushes_all, pushes_more}
use Rattle.qs_cell_peers.proofs.links.Links.push_all.Goals as goal

pub loop-to-init : goal.loop-to-init
loop-to-init c = pushed_none c.args.self.now

pub loop-to-preserved : goal.loop-to-preserved
loop-to-preserved c = pushes_more c.loop-to.to c.args.self.now c.loop-to.self c.push_to.new.self c.loop-to.invariant c.push_to.ensures

pub returns : goal.returns
returns c =
    let most : c.args.self.now.size ≤ c.loop-to.to = omega arith in
    pushes_all c.loop-to.to c.args.self.now c.loop-to.self most c.loop-to.invariant
