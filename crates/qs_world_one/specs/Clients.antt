-- Where the line of a client stands: none is out, it is on its way to the node, in the node's hands, or answered and on its way back. And what a world
-- of one node shows of that client.
use Rattle.std.specs.Prelude.{◌≡◌, ◌⊎◌, ℕ, ◌+◌, ◌==◌, ◌≤◌, Bool, true, false, drop, List, [], ◌∷◌, Option, Some, None}
use Rattle.qs_cell_chronicle.specs.declared.carried.HeldCommand.{HeldCommand}
use Rattle.qs_client.specs.Progress.{line_at}
use Rattle.qs_client.specs.declared.cell.ClientCell.{ClientCell}
use Rattle.qs_book_journal.specs.declared.script_line.LineAnswer.{LineAnswer}
use Rattle.qs_book_journal.specs.declared.script_line.ScriptLine.{ScriptLine}
use Rattle.qs_link.specs.declared.ends.NodeEnds.{NodeEnds}
use Rattle.qs_link.specs.Lane.{IsLane, on_way}
use Rattle.qs_world.specs.World.{Client}

-- a command is in the hands of a node that is up where its present incarnation took it
abbrev pub is_present : ℕ → Option ℕ → Bool
is_present inc None = false
is_present inc (Some now) = inc == now

-- a client, the node's ends of its lanes, and what the node has in hand for it
pub record Place : Type 0 where
  pub client : ClientCell
  pub end : NodeEnds
  pub held : Option HeldCommand

abbrev pub commands_on_way : Place → List ScriptLine
commands_on_way p = on_way p.client.commands p.end.commands

abbrev pub answers_on_way : Place → List LineAnswer
answers_on_way p = on_way p.end.answers p.client.answers

-- its lines from the one that it stands at, and those behind that
abbrev pub lines_here : Place → List ScriptLine
lines_here p = drop p.client.progress.place p.client.progress.lines

abbrev pub lines_behind : Place → List ScriptLine
lines_behind p = drop (p.client.progress.place + 1) p.client.progress.lines

-- no line is out
pub record IsIdle (p : Place) (shown : Client) : Type 0 where
  pub idle : p.client.progress.is_out ≡ false
  pub no_command : commands_on_way p ≡ []
  pub not_held : p.held ≡ None
  pub no_answer : answers_on_way p ≡ []
  pub lines : shown.lines ≡ lines_here p
  pub unhanded : shown.is_handed ≡ false

-- its line is on its way to the node
pub record IsSent (p : Place) (shown : Client) : Type 0 where
  pub line : ScriptLine
  pub out : p.client.progress.is_out ≡ true
  pub at : line_at p.client.progress ≡ Some line
  pub command : commands_on_way p ≡ line ∷ []
  pub not_held : p.held ≡ None
  pub no_answer : answers_on_way p ≡ []
  pub lines : shown.lines ≡ lines_here p
  pub unhanded : shown.is_handed ≡ false

-- the node has it in hand; the incarnation that took it is the present one, or the node stopped since
pub record IsHeld (inc : ℕ) (now : Option ℕ) (p : Place) (shown : Client) : Type 0 where
  pub line : ScriptLine
  pub by : ℕ
  pub out : p.client.progress.is_out ≡ true
  pub at : line_at p.client.progress ≡ Some line
  pub no_command : commands_on_way p ≡ []
  pub held : p.held ≡ Some (record { line = line; inc = by })
  pub earlier : by ≤ inc
  pub no_answer : answers_on_way p ≡ []
  pub lines : shown.lines ≡ lines_here p
  pub handed : shown.is_handed ≡ is_present by now

-- it is answered, and the answer is on its way back: the world's client is one line further
pub record IsAnswered (p : Place) (shown : Client) : Type 0 where
  pub line : ScriptLine
  pub answer : LineAnswer
  pub out : p.client.progress.is_out ≡ true
  pub at : line_at p.client.progress ≡ Some line
  pub no_command : commands_on_way p ≡ []
  pub not_held : p.held ≡ None
  pub comes : answers_on_way p ≡ answer ∷ []
  pub number : answer.line ≡ line.line
  pub lines : shown.lines ≡ lines_behind p
  pub unhanded : shown.is_handed ≡ false

-- inc is the last incarnation of the node, and now the one in which it is up
abbrev pub StandsAt : ℕ → Option ℕ → Place → Client → Type 0
StandsAt inc now p shown = IsIdle p shown ⊎ (IsSent p shown ⊎ (IsHeld inc now p shown ⊎ IsAnswered p shown))

-- the ends are of the client's lanes, and the world's client is at the one node
pub record ShowsClient (inc : ℕ) (now : Option ℕ) (p : Place) (shown : Client) : Type 0 where
  pub number : p.end.client ≡ p.client.client
  pub commands : IsLane p.client.commands p.end.commands
  pub answers : IsLane p.end.answers p.client.answers
  pub at : shown.at ≡ 0
  pub stands : StandsAt inc now p shown
