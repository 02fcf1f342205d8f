use Rattle.qs_packet.proofs.Parts.{behind_two}
use Rattle.qs_packet.proofs.body.cause_behind.Goals as goal

pub returns-in_ok-inc-in-3-clause-value : goal.returns-in_ok-inc-in-3-clause-value
returns-in_ok-inc-in-3-clause-value c = rw c.in-3.is (behind_two c.in_ok-node-in-3.ensures.value c.in_ok-inc-in-3.ensures.value)

pub returns-in_ok-room-in-5-clause-value : goal.returns-in_ok-room-in-5-clause-value
returns-in_ok-room-in-5-clause-value c = rw c.in-5.is (behind_two c.in_ok-need-in-5.ensures.value c.in_ok-room-in-5.ensures.value)
