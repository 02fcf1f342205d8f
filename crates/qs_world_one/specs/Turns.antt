-- What becomes of a client that a world of one node shows: as lanes are carried and as it has its turn, the world's client stays; as its command comes
-- to the node, is answered, or the node stops and starts again, it goes on with the world.
use Rattle.std.specs.Prelude.{◌≡◌, ℕ, ◌<◌, Bool, true, false, Option, Some, None, Ok}
use Rattle.qs_cell_chronicle.specs.Carried.{is_due_again}
use Rattle.qs_cell_chronicle.specs.declared.carried.HeldCommand.{HeldCommand}
use Rattle.qs_client.specs.Progress.{line_at}
use Rattle.qs_client.specs.declared.cell.ClientCell.{ClientCell}
use Rattle.qs_book_journal.specs.declared.script_line.LineAnswer.{LineAnswer}
use Rattle.qs_book_journal.specs.declared.script_line.ScriptLine.{ScriptLine}
use Rattle.qs_link.specs.Lanes.{GoesOn, first_of, with_answer, with_answers, with_commands, without_line}
use Rattle.qs_link.specs.Lane.{DrawValue, FeedValue}
use Rattle.qs_world_rounds.specs.Rounds.{ClientVisit}
use Rattle.qs_world.specs.Posting.{answered, next_line}
use Rattle.qs_world.specs.World.{Client}
use Rattle.qs_world_one.specs.Clients.{Place, ShowsClient}

-- ---- as a round begins, and as the client has its turn: nothing happens in the world

abbrev pub CommandsCarried : ℕ → Option ℕ → Place → Client → Type 0
CommandsCarried inc now p shown = (feed : FeedValue ScriptLine) (draw : DrawValue ScriptLine) (held : ℕ) → ShowsClient inc now p shown
    → GoesOn p.client.commands feed p.end.commands draw (Ok held)
    → ShowsClient inc now (record p { client = record p.client { commands = feed }; end = with_commands draw p.end }) shown

abbrev pub AnswersCarried : ℕ → Option ℕ → Place → Client → Type 0
AnswersCarried inc now p shown = (feed : FeedValue LineAnswer) (draw : DrawValue LineAnswer) (heard : ℕ) → ShowsClient inc now p shown
    → GoesOn p.end.answers feed p.client.answers draw (Ok heard)
    → ShowsClient inc now (record p { client = record p.client { answers = draw }; end = with_answers feed p.end }) shown

abbrev pub ClientTurns : ℕ → Option ℕ → Place → Client → Type 0
ClientTurns inc now p shown = (new : ClientCell) (did : Bool) → ShowsClient inc now p shown → ClientVisit p.client new did → ShowsClient inc now (record p { client = new }) shown

-- ---- as its command comes to the node that is up

abbrev pub handed : Client → Client
handed client = record client { is_handed = true }

abbrev pub in_hand_by : ℕ → ScriptLine → Option HeldCommand
in_hand_by inc line = Some (record { line = line; inc = inc })

-- the first time: it is the next of the lane, and the world's client has it next
pub record IsTaken (inc : ℕ) (p : Place) (line : ScriptLine) (shown : Client) : Type 0 where
  pub next : next_line shown ≡ Some line
  pub at : line_at p.client.progress ≡ Some line
  pub shows : ShowsClient inc (Some inc) (record p { end = without_line p.end; held = in_hand_by inc line }) (handed shown)

abbrev pub LineTaken : ℕ → Place → Client → Type 0
LineTaken inc p shown = (line : ScriptLine) → ShowsClient inc (Some inc) p shown → p.held ≡ None → first_of p.end.commands.inbox ≡ Some line → IsTaken inc p line shown

-- and again, after the incarnation that took it has ended
pub record IsTakenAgain (inc : ℕ) (p : Place) (line : ScriptLine) (shown : Client) : Type 0 where
  pub next : next_line shown ≡ Some line
  pub at : line_at p.client.progress ≡ Some line
  pub shows : ShowsClient inc (Some inc) (record p { held = in_hand_by inc line }) (handed shown)

abbrev pub LineTakenAgain : ℕ → Place → Client → Type 0
LineTakenAgain inc p shown = (held : HeldCommand) → ShowsClient inc (Some inc) p shown → p.held ≡ Some held → is_due_again inc held ≡ true → IsTakenAgain inc p held.line shown

-- ---- as the node answers, stops and starts again

-- what the node has in hand for it is answered, under the number of its line; the node may have stopped behind that step
abbrev pub LineAnswered : ℕ → Option ℕ → Place → Client → Type 0
LineAnswered inc now p shown = (held : HeldCommand) (answer : LineAnswer) → ShowsClient inc now p shown → p.held ≡ Some held → answer.line ≡ held.line.line
    → ShowsClient inc now (record p { end = with_answer answer p.end; held = None }) (answered shown)

abbrev pub unhanded : Client → Client
unhanded client = record client { is_handed = false }

abbrev pub NodeStopped : ℕ → Option ℕ → Place → Client → Type 0
NodeStopped inc now p shown = ShowsClient inc now p shown → ShowsClient inc None p (unhanded shown)

abbrev pub NodeRisen : ℕ → Place → Client → Type 0
NodeRisen inc p shown = (new : ℕ) → ShowsClient inc None p shown → inc < new → ShowsClient new (Some new) p shown
