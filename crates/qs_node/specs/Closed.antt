-- What a node keeps of its clients, once its log has closed the transactions of these labels.
use Rattle.std.specs.Prelude.{List, Option, fold}
use Rattle.qs_base.specs.declared.identifiers.NodeNo.{NodeNo}
use Rattle.qs_base.specs.declared.identifiers.Tid.{Tid}
use Rattle.qs_node_kept.specs.declared.kept.Kept.{Kept}
use Rattle.qs_node_step.specs.Opening.{close_tid}

abbrev pub closed_by : NodeNo → List Tid → List (Option Tid) → Kept → Kept
closed_by node committed tids kept = record kept { outcomes = fold (close_tid node committed) kept.outcomes tids }
