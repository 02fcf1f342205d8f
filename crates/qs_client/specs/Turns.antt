-- A turn of a client: it sends the line that it stands at, where none is out, or else takes an answer. A visit in a round does both, in the other order.
use Rattle.std.specs.Prelude.{◌≡◌, ◌||◌, Bool, true, false, List, [], ◌∷◌, Option, Some, None, is_some, option_to_list}
use Rattle.qs_book_journal.specs.declared.script_line.LineAnswer.{LineAnswer}
use Rattle.qs_book_journal.specs.declared.script_line.ScriptLine.{ScriptLine}
use Rattle.qs_link.specs.Lane.{Fed, Drawn}
use Rattle.qs_client.specs.declared.cell.ClientCell.{ClientCell}
use Rattle.qs_client.specs.Progress.{to_send, sent, heard}

-- it put this line to its lane, and asked for no answer
pub record Sends (line : ScriptLine) (old new : ClientCell) : Type 0 where
  pub progress : new.progress ≡ sent old.progress
  pub commands : Fed (line ∷ []) old.commands new.commands
  pub answers : new.answers ≡ old.answers

-- it put nothing to its lane, and took this answer, or none
pub record Hears (answer : Option LineAnswer) (old new : ClientCell) : Type 0 where
  pub progress : new.progress ≡ heard answer old.progress
  pub commands : Fed [] old.commands new.commands
  pub answers : Drawn (option_to_list answer) old.answers new.answers

pub record Takes (old new : ClientCell) : Type 0 where
  pub answer : LineAnswer
  pub hears : Hears (Some answer) old new

-- a turn with this line to send or with none, which did something or nothing
abbrev pub Turns : Option ScriptLine → Bool → ClientCell → ClientCell → Type 0
Turns (Some line) did old new = (did ≡ true) × Sends line old new
Turns None true old new = Takes old new
Turns None false old new = Hears None old new

-- ---- a visit, of what was carried alone

abbrev pub first_answer : List LineAnswer → Option LineAnswer
first_answer [] = None
first_answer (answer ∷ answers) = Some answer

-- it took the answer that was carried first, or none was; the rings are left alone
pub record HearsCarried (old new : ClientCell) : Type 0 where
  pub hears : Hears (first_answer old.answers.inbox) old new
  pub commands : new.commands.ring ≡ old.commands.ring
  pub answers : new.answers.ring ≡ old.answers.ring

-- it sent this line, or had none to send and is as it was
abbrev pub SendsIf : Option ScriptLine → ClientCell → ClientCell → Type 0
SendsIf (Some line) old new = Sends line old new
SendsIf None old new = new ≡ old

-- it took the answer that was carried first, if one was, and then sent the line that it stood at, if none was out; whether it did one of both
pub record HearsThenSends (did : Bool) (old new : ClientCell) : Type 0 where
  pub mid : ClientCell
  pub hears : HearsCarried old mid
  pub sends : SendsIf (to_send mid.progress) mid new
  pub did_is : did ≡ (is_some (first_answer old.answers.inbox) || is_some (to_send mid.progress))
