use Rattle.std.proofs.Common.{◌≡◌, take, fold}
use Rattle.qs_engage.specs.Nodes.{put_where}
use Rattle.qs_engage.specs.Engage.{is_open_to}
use Rattle.qs_engage.proofs.engage.Engage.put_uncovered.Given as goal

abbrev pub invariant-loop-peer : goal.invariant-loop-peer
invariant-loop-peer l = l.nodes ≡ fold (put_where (λ peer. is_open_to peer l.self)) l.initial.nodes (take l.peer-index l.peers)
