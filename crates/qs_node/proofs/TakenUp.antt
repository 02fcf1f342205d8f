-- Records that are taken up behind others are taken up with them.
use Rattle.std.proofs.Common.{◌≡◌, sym, List, ◌++◌, fold}
use Rattle.std.proofs.lemmas.List.Sums.{fold-append}
use Rattle.qs_record.specs.declared.record.Record.{Record}
use Rattle.qs_tm.specs.declared.manager.Manager.{Manager}
use Rattle.qs_node_step.specs.Opening.{take_up}

pub taken_up : (manager : Manager) (first second : List Record) → fold take_up (fold take_up manager first) second ≡ fold take_up manager (first ++ second)
taken_up manager first second = sym (fold-append take_up manager first second)
