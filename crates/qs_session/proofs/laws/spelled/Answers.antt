use Rattle.qs_session.proofs.Spelling.{spelled_new, spelled_send, spelled_packet, spelled_receive, spelled_tick, spelled_ticked}
use Rattle.qs_session.proofs.laws.spelled.Goals as goal

pub returns-clause-new : goal.returns-clause-new
returns-clause-new c = spelled_new

pub returns-clause-send : goal.returns-clause-send
returns-clause-send c = spelled_send

pub returns-clause-packet : goal.returns-clause-packet
returns-clause-packet c = spelled_packet

pub returns-clause-receive : goal.returns-clause-receive
returns-clause-receive c = spelled_receive

pub returns-clause-tick : goal.returns-clause-tick
returns-clause-tick c = spelled_tick

pub returns-clause-ticked : goal.returns-clause-ticked
returns-clause-ticked c = spelled_ticked
