use Rattle.std.proofs.Common.{◌≡◌, take, map}
use Rattle.qs_book_machine.specs.declared.transaction.Request.{Request}
use Rattle.qs_book.proofs.book.nodes.names_of.Given as goal

abbrev pub invariant-loop-request : goal.invariant-loop-request
invariant-loop-request l = l.ops ≡ map (λ (request : Request). request.op) (take l.request-index l.requests)
