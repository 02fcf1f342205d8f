use Rattle.std.proofs.Common.{◌≡◌, drop}
use Rattle.qs_link.specs.Plan.{fate}
use Rattle.qs_link.proofs.outgoing.fate_of.Given as goal

abbrev pub invariant-loop-fault : goal.invariant-loop-fault
invariant-loop-fault l = fate (drop l.fault-index l.plan) l.number ≡ fate l.plan l.number
