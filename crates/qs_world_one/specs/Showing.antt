-- The clients of a cell in a world of one node: each stands where the cell's commands in hand and its lanes have it. What an event makes of them: a
-- command comes, some are answered, and the node may stop behind it.
use Rattle.std.specs.Prelude.{◌≡◌, ◌⊎◌, ◌<◌, ℕ, Bool, true, List, [], ◌∷◌, fold, Option, Some, None, nat_lt, slice_get}
use Rattle.std.specs.BTreeMap.{is_at}
use Rattle.std.specs.List.{filter}
use Rattle.std.specs.Map.{lookup}
use Rattle.qs_base.specs.declared.identifiers.ClientNo.{ClientNo}
use Rattle.qs_cell.specs.Visits.{deliver, left_of}
use Rattle.qs_cell_chronicle.specs.Carried.{Commands, answered, in_hand, is_due_again}
use Rattle.qs_cell_chronicle.specs.declared.carried.HeldCommand.{HeldCommand}
use Rattle.qs_client.specs.declared.cell.ClientCell.{ClientCell}
use Rattle.qs_book_journal.specs.declared.script_line.ScriptLine.{ScriptLine}
use Rattle.qs_link.specs.Lanes as lanes
use Rattle.qs_link.specs.Lanes.{ends_of}
use Rattle.qs_link.specs.declared.ends.NodeEnds.{NodeEnds}
use Rattle.qs_book_laws.proofs.Rising.{IsRising}
use Rattle.qs_node_step.specs.State.{client_cmp}
use Rattle.qs_node_step.specs.declared.event.ClientAnswer.{ClientAnswer}
use Rattle.qs_node_step.specs.declared.state.OpenCommand.{OpenCommand}
use Rattle.qs_world.specs.Moves.{client_count}
use Rattle.qs_world.specs.Posting.{clients_after, handed, handed_back, is_answer_to, next_line}
use Rattle.qs_world.specs.World.{Client}
use Rattle.qs_world_one.specs.Clients.{ShowsClient}

abbrev pub held_for : ClientNo → Commands → Option HeldCommand
held_for client commands = lookup (is_at (client_cmp client)) commands

-- a client of the cell, whose lines are its own, by its number
pub record ShowsIn (inc : ℕ) (now : Option ℕ) (commands : Commands) (ends : List NodeEnds) (clients : ℕ → Client) (client : ClientCell) : Type 0 where
  pub small : nat_lt client.client.0 client_count ≡ true
  pub own : (n : ℕ) (line : ScriptLine) → slice_get client.progress.lines n ≡ Some line → line.client ≡ client.client
  pub end : NodeEnds
  pub there : ends_of client.client ends ≡ Some end
  pub shows : ShowsClient inc now (record { client = client; end = end; held = held_for client.client commands }) (clients client.client.0)

-- ---- a command comes

-- the next of its lane where the client has none in hand, or that in hand, where an earlier incarnation took it
abbrev pub IsDue : ℕ → Option HeldCommand → Option ScriptLine → ScriptLine → Type 0
IsDue inc None next line = next ≡ Some line
IsDue inc (Some held) next line = (is_due_again inc held ≡ true) × (held.line ≡ line)

-- the world's client of its number hands it over next
pub record HandsOver (line : ScriptLine) (clients : ℕ → Client) : Type 0 where
  pub small : nat_lt line.client.0 client_count ≡ true
  pub at : (clients line.client.0).at ≡ 0
  pub next : next_line (clients line.client.0) ≡ Some line

abbrev pub CommandHanded : ℕ → Commands → List NodeEnds → (ℕ → Client) → ScriptLine → ClientCell → Type 0
CommandHanded inc commands ends clients line client =
    ShowsIn inc (Some inc) commands ends clients client → IsDue inc (held_for client.client commands) (lanes.next_line client.client ends) line → HandsOver line clients

-- it comes from the client of this number, and each client stands where it should then
abbrev pub CommandComes : ℕ → Commands → List NodeEnds → (ℕ → Client) → ScriptLine → ClientNo → ClientCell → Type 0
CommandComes inc commands ends clients line from client =
    line.client ≡ from → IsDue inc (held_for from commands) (lanes.next_line from ends) line → ShowsIn inc (Some inc) commands ends clients client
    → ShowsIn inc (Some inc) (in_hand inc line commands) (left_of from (held_for from commands) ends) (handed line.client.0 clients) client

-- ---- answers go out

abbrev pub is_to : ClientNo → ClientAnswer → Bool
is_to client said = is_answer_to client.0 said

-- those to one client
abbrev pub answers_to : ClientNo → List ClientAnswer → List ClientAnswer
answers_to client said = filter (is_to client) said

-- one answer, to the command in hand
pub record AnswersHeld (held : Option HeldCommand) (said : List ClientAnswer) : Type 0 where
  pub answer : ClientAnswer
  pub command : HeldCommand
  pub is : said ≡ answer ∷ []
  pub has : held ≡ Some command
  pub number : answer.answer.line ≡ command.line.line

-- each client is answered once at most, and only where its command is in hand, under the number of its line
abbrev pub AnswersRight : Commands → List ClientAnswer → Type 0
AnswersRight commands said = (client : ClientNo) → (answers_to client said ≡ []) ⊎ AnswersHeld (held_for client commands) (answers_to client said)

abbrev pub AnswersGo : ℕ → Option ℕ → Commands → List NodeEnds → (ℕ → Client) → List ClientAnswer → ClientCell → Type 0
AnswersGo inc now commands ends clients said client =
    IsRising client_cmp commands → AnswersRight commands said → ShowsIn inc now commands ends clients client
    → ShowsIn inc now (answered said commands) (fold deliver ends said) (clients_after said clients) client

-- ---- what waits at the node

-- the commands that wait there
abbrev pub Waiting : Type 0
Waiting = List (ClientNo × OpenCommand)

abbrev pub line_of : Option OpenCommand → Option ℕ
line_of None = None
line_of (Some command) = Some command.line.line

-- the number of the line that waits for a client
abbrev pub its_line : ClientNo → Waiting → Option ℕ
its_line client waits = line_of (lookup (is_at (client_cmp client)) waits)

pub record IsHeldAs (held : Option HeldCommand) (number : ℕ) : Type 0 where
  pub command : HeldCommand
  pub has : held ≡ Some command
  pub number_is : number ≡ command.line.line

-- each line that waits at the node is in the hands of the cell
pub record IsInHand (waits : Waiting) (commands : Commands) : Type 0 where
  pub rising : IsRising client_cmp waits
  pub held : (client : ClientNo) (number : ℕ) → its_line client waits ≡ Some number → IsHeldAs (held_for client commands) number

-- ---- the node stops, and starts again

abbrev pub StopHandsBack : ℕ → Option ℕ → Commands → List NodeEnds → (ℕ → Client) → ClientCell → Type 0
StopHandsBack inc now commands ends clients client = ShowsIn inc now commands ends clients client → ShowsIn inc None commands ends (handed_back 0 clients) client

abbrev pub RiseHands : ℕ → Commands → List NodeEnds → (ℕ → Client) → ClientCell → Type 0
RiseHands inc commands ends clients client = (new : ℕ) → ShowsIn inc None commands ends clients client → inc < new → ShowsIn new (Some new) commands ends clients client
