-- The laws of a restart: what it leaves of what the machine has beside each other node, and what that has beside the node that begins.
use Rattle.std.specs.Prelude.{◌≡◌, ℕ, ◌==◌, true, false, List, [], ◌∷◌}
use Rattle.qs_book_journal.specs.declared.entry.Entry.{Entry}
use Rattle.qs_book_laws.specs.Laws.{IsCoherent}
use Rattle.qs_book_machine.specs.Book.{BookValue}
use Rattle.qs_book_machine.specs.Lawful.{IsLawful, book_after}
use Rattle.qs_book_machine.specs.Opening.{opening}
use Rattle.qs_book_machine.specs.declared.opened.Opened.{Opened}
use Rattle.qs_node_step.specs.Opening.{recovered_of}
use Rattle.qs_node_step.specs.State.{NodeValue}
use Rattle.qs_world.specs.Moves.{Rise, may_move, reopened}
use Rattle.qs_world.specs.World.{Opening, World}
use Rattle.qs_world_lawful.specs.Beside.{HoldsBeside}
use Rattle.qs_world_lawful.specs.Lasting.{Lasts}
use Rattle.qs_world_lawful.specs.WorldLaws.{rise_entry}
use Rattle.qs_world_lawful.specs.Worlds.{HoldsWorld}
use Rattle.qs_world_runs.specs.Joined.{HoldsRunning, Joined, book_in}

abbrev pub EachRiseKeepsBeside : Type 0
EachRiseKeepsBeside = (opened : List Opened) (history : List Entry) → IsCoherent opened → IsLawful (opening opened) history
    → (world : World) (n stamp inc : ℕ) → Lasts (book_after (opening opened) history) → HoldsWorld (book_after (opening opened) history) world → may_move world (Rise n stamp inc) ≡ true
    → (k : ℕ) (node : NodeValue) → (k == n) ≡ false → node.setting.node.0 ≡ k → HoldsBeside (book_after (opening opened) history) node
    → HoldsBeside (book_after (book_after (opening opened) history) (rise_entry world n stamp inc ∷ [])) node

-- the machine after it
abbrev pub rise_book : Opening → World → ℕ → ℕ → ℕ → BookValue
rise_book o world n stamp inc = book_after (book_in o world) (rise_entry world n stamp inc ∷ [])

abbrev pub EachRisesRunning : (Opening → World → Type 0) → Type 0
EachRisesRunning P = (o : Opening) (world : World) (n stamp inc : ℕ) → Joined P o world → may_move world (Rise n stamp inc) ≡ true → HoldsRunning (rise_book o world n stamp inc) (reopened inc (recovered_of (world.hosts n).log) (world.hosts n).node)
