use Rattle.std.proofs.Common.{◌≡◌, take, fold}
use Rattle.qs_engage.specs.Nodes.{put_where}
use Rattle.qs_engage.specs.Engage.{has_sent}
use Rattle.qs_engage.proofs.engage.Engage.put_sent.Given as goal

abbrev pub invariant-loop-peer : goal.invariant-loop-peer
invariant-loop-peer l = l.nodes ≡ fold (put_where (λ peer. has_sent peer l.self)) l.initial.nodes (take l.peer-index l.peers)
