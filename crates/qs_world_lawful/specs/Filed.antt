-- What files of a node are: their kind, and what each transaction holds there once, in order of identifiers.
use Rattle.std.specs.Prelude.{◌≡◌, ℕ}
use Rattle.qs_base.specs.Order.{tid_cmp}
use Rattle.qs_book_laws.proofs.Rising.{IsRising}
use Rattle.qs_ops.specs.declared.server.ServerKind.TheVariants.{Files}
use Rattle.qs_node_servers.specs.Servers.{ServersValue}

pub record HoldsFiles (servers : ServersValue) : Type 0 where
  pub quota : ℕ
  pub kind : servers.files.kind ≡ Files quota
  pub rising : IsRising tid_cmp servers.files.table.shares
