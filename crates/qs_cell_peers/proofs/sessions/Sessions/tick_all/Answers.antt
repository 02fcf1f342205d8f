use Rattle.std.proofs.Common.{◌<◌, ℕ, Bool, ap, arith, ◌∙◌}
use Rattle.qs_cell_peers.proofs.Sends.{same_peers, still_go}
use Rattle.qs_cell_peers.proofs.Ticking.{more_due, more_ticked}
use Rattle.qs_cell_peers.proofs.sessions.Sessions.tick_all.Goals as goal

pub loop-number-preserved : goal.loop-number-preserved
loop-number-preserved c =
    let old = c.args.self.now in
    let mid = c.loop-number.self in
    let so_far = c.loop-number.invariant in
    let lt : c.loop-number.number < c.args.self.now.size = omega (arith, c.loop-number-test.true, c.loop-number.invariant.nodes) in
    record {
      ends = more_ticked old mid c.loop-number.number lt so_far.ends c.tick_one.new.self c.in_ok-tick_one.ensures.ends;
      packets = λ m peer. more_due old mid c.loop-number.number lt so_far.ends c.args.stamp m _ _ (so_far.packets m peer)
          (c.in_ok-tick_one.ensures.packets m (ap (λ (f : ℕ → Bool). f m) (same_peers old mid so_far.ends.size so_far.ends.me) ∙ peer));
      from = still_go old mid c.loop-number.packets c.tick_one.new.packets so_far.ends.size so_far.ends.me c.in_ok-tick_one.ensures.from so_far.from;
      spelled = c.in_ok-tick_one.ensures.spelled so_far.spelled;
      nodes = so_far.nodes;
    }
