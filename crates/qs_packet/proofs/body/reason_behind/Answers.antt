use Rattle.qs_packet.proofs.Parts.{behind_two}
use Rattle.qs_packet.proofs.body.reason_behind.Goals as goal

pub returns-in_ok-limit-in-1-clause-value : goal.returns-in_ok-limit-in-1-clause-value
returns-in_ok-limit-in-1-clause-value c = rw c.in-1.is (behind_two c.in_ok-bytes-in-1.ensures.value c.in_ok-limit-in-1.ensures.value)

pub returns-in_ok-room-in-2-clause-value : goal.returns-in_ok-room-in-2-clause-value
returns-in_ok-room-in-2-clause-value c = rw c.in-2.is (behind_two c.in_ok-need-in-2.ensures.value c.in_ok-room-in-2.ensures.value)
