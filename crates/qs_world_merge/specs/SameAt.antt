-- What a node has of a world, which its own moves alone change.
use Rattle.std.specs.Prelude.{◌≡◌, ℕ, List}
use Rattle.qs_session_channels.specs.Network.{Network}
use Rattle.qs_book_journal.specs.declared.entry.Entry.{Entry}
use Rattle.qs_world.specs.World.{Parcel}
use Rattle.qs_world_packets.specs.PacketWorld.{PacketWorld}
use Rattle.qs_world_merge.specs.MergedByKey.{of_node}

-- node n has the same of both networks: its incarnation, whether it runs, its ends, and all packets that it sent
pub record SameNetworkAt (n : ℕ) (a b : Network Parcel) : Type 0 where
  pub inc : a.inc n ≡ b.inc n
  pub up : a.up n ≡ b.up n
  pub ends : (m : ℕ) → a.end n m ≡ b.end n m
  pub packets : (m : ℕ) → a.packets n m ≡ b.packets n m

abbrev pub entry_key : Entry → ℕ × ℕ
entry_key entry = (entry.stamp, entry.node.0)

-- and of both worlds: its host, what it has of the network, when its incarnations began, its clients, and its entries
pub record SameAt (clients_at : ℕ → ℕ) (n : ℕ) (a b : PacketWorld) : Type 0 where
  pub size : a.size ≡ b.size
  pub host : a.hosts n ≡ b.hosts n
  pub network : SameNetworkAt n a.network b.network
  pub born : (inc : ℕ) → a.born n inc ≡ b.born n inc
  pub clients : (k : ℕ) → clients_at k ≡ n → a.clients k ≡ b.clients k
  pub entries : ◌≡◌ {A = List Entry} (of_node entry_key n a.journal) (of_node entry_key n b.journal)
