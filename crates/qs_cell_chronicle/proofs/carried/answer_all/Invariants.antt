use Rattle.std.proofs.Common.{◌≡◌, take, fold}
use Rattle.qs_cell_chronicle.specs.Carried.{without}
use Rattle.qs_cell_chronicle.proofs.carried.answer_all.Given as goal

abbrev pub invariant-loop-said : goal.invariant-loop-said
invariant-loop-said l = l.commands ≡ fold without l.initial.commands (take l.said-index l.answers)
