use Rattle.std.proofs.Common.{◌≡◌, ◌++◌, length}
use Rattle.qs_text.specs.Output.{clients_text}
use Rattle.qs_text.proofs.output.put_clients.Given as goal

abbrev pub invariant-loop-number : goal.invariant-loop-number
invariant-loop-number l = l.out ≡ l.initial.out ++ clients_text l.seats l.history l.book 0 l.number
