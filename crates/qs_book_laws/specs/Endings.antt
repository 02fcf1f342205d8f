-- How a transaction ends at a node: what its members may do once one of them has learnt the outcome, and in which order.
use Rattle.std.specs.Prelude.{◌≡◌, ℕ, ◌==◌, Bool, true, false, List, [], ◌∷◌}
use Rattle.std.specs.List.{list_any}
use Rattle.qs_base.specs.declared.identifiers.Class.{Class}
use Rattle.qs_base.specs.declared.identifiers.Class.TheVariants.{Recoverable, Volatile, Standard, Delayed}
use Rattle.qs_ops.specs.Servers.{files_no, audit_no, names_no, windows_no, scratch_no, extra_no}
use Rattle.qs_ops.specs.Table.{no_table}
use Rattle.qs_ops.specs.Timers.{no_timers}
use Rattle.qs_book_machine.specs.Nodes.{NodeValue}

-- the servers of a node that learn an outcome
abbrev pub learning_servers : List ℕ
learning_servers = files_no ∷ audit_no ∷ names_no ∷ windows_no ∷ scratch_no ∷ extra_no ∷ []

abbrev pub is_learner : ℕ → Bool
is_learner server = list_any (λ s. s == server) learning_servers

-- members that vote learn before windows, and these before scratch
abbrev pub learns_before : Class → Class → Bool
learns_before Recoverable Standard = true
learns_before Volatile Standard = true
learns_before Recoverable Delayed = true
learns_before Volatile Delayed = true
learns_before Standard Delayed = true
learns_before first second = false

-- what a node forgets as it stops: names, windows and scratch with all that transactions have there, and timers
pub record BeginsEmpty (node : NodeValue) : Type 0 where
  pub names : node.names ≡ no_table
  pub windows : node.windows ≡ no_table
  pub scratch : node.scratch ≡ no_table
  pub timers : node.timers ≡ no_timers
