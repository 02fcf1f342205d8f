use Rattle.qs_cell_peers.proofs.Stepping.{sends_alone, sends_and_ticks}
use Rattle.qs_cell_peers.proofs.sessions.Sessions.send_step.Goals as goal
use Rattle.qs_cell_peers.proofs.sessions.Sessions.send_step.Goals.{then-ticks+in_ok-due+in_ok-add_all, else-ticks}

pub returns-clause-sent : goal.returns-clause-sent
returns-clause-sent c =
    let sent = c.in_ok-packets.ensures in
    elim c.if-ticks.branch [
      | then-ticks+in_ok-due+in_ok-add_all w ↦
          rw (w.self-is, w.packets-is) (sends_and_ticks c.args.ticks c.args.stamp c.args.sendings.now c.args.self.now c.send_all.new.self c.in_ok-packets.packets sent.ends sent.packets sent.from sent.spelled
          w.if-ticks.true w.in_ok-due.due w.add_all.new.packets w.tick_all.new.self w.in_ok-due.ensures.ends w.in_ok-due.ensures.packets w.in_ok-due.ensures.from w.in_ok-due.ensures.spelled w.in_ok-add_all.ensures)
      | else-ticks w ↦
          rw (w.self-is, w.packets-is) (sends_alone c.args.ticks c.args.stamp c.args.sendings.now c.args.self.now c.send_all.new.self c.in_ok-packets.packets sent.ends sent.packets sent.from sent.spelled w.if-ticks.false)
    ]
