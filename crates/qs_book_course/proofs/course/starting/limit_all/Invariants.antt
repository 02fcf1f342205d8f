use Rattle.std.proofs.Common.{◌≡◌, take}
use Rattle.std.specs.List.{fold}
use Rattle.qs_book_conformance.specs.Begun.{limited}
use Rattle.qs_book_course.proofs.course.starting.limit_all.Given as goal

abbrev pub invariant-loop-quota : goal.invariant-loop-quota
invariant-loop-quota l = l.nodes.items ≡ fold limited l.initial.nodes.items (take l.quota-index l.quotas)
