-- Which incarnations of a node have begun: the one in which it opened, and those into which it restarted.
use Rattle.std.specs.Prelude.{◌≡◌, ℕ, ◌≤◌, ◌==◌, ◌||◌, true, List, is_some}
use Rattle.std.specs.List.{list_any}
use Rattle.qs_book_journal.specs.declared.entry.Entry.{Entry}
use Rattle.qs_book_laws.specs.Gone.{restarts_into}
use Rattle.qs_world.specs.World.{Opening, World}

-- it opened in that incarnation, or restarted into it later
pub record HasRun (o : Opening) (history : List Entry) (m inc : ℕ) : Type 0 where
  pub least : (o.settings m).inc ≤ inc
  pub ran : ((o.settings m).inc == inc || list_any (restarts_into (record { 0 = m }) inc) history) ≡ true

-- of all that have begun, the present ones too, and those that another node knows
pub record BornAt (o : Opening) (world : World) : Type 0 where
  pub born : (m inc : ℕ) → is_some (world.born m inc) ≡ true → HasRun o world.journal m inc
  pub present : (m : ℕ) → is_some (world.born m (world.channels.inc m)) ≡ true
  pub known : (n m : ℕ) → 1 ≤ world.channels.peer n m → is_some (world.born m (world.channels.peer n m)) ≡ true
