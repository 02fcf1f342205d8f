-- What a client lends.
use Rattle.std.specs.Borrow.{Lends, MutBor, Fml}
use Rattle.qs_book_journal.specs.contracts.script_line.LineAnswer as line_answer
use Rattle.qs_book_journal.specs.contracts.script_line.ScriptLine as script_line
use Rattle.qs_book_journal.specs.declared.script_line.LineAnswer.{LineAnswer}
use Rattle.qs_book_journal.specs.declared.script_line.ScriptLine.{ScriptLine}
use Rattle.qs_link.specs.Lane.{FeedValue, DrawValue}
use Rattle.qs_link.specs.contracts.lanes.Draw as draw
use Rattle.qs_link.specs.contracts.lanes.Feed as feed
use Rattle.qs_client.specs.contracts.cell.ClientCell.{the_row}
use Rattle.qs_client.specs.declared.cell.ClientCell.{ClientCell}

-- it ends with what is left of the end of the lane of its commands
abbrev pub LendsCommands : MutBor ClientCell → MutBor (FeedValue ScriptLine) → Fml
LendsCommands cell commands = Lends the_row (feed.the_row script_line.the_row) cell commands (λ left. record cell.now { commands = left })

-- it ends with what is left of the end of the lane of its answers
abbrev pub LendsAnswers : MutBor ClientCell → MutBor (DrawValue LineAnswer) → Fml
LendsAnswers cell answers = Lends the_row (draw.the_row line_answer.the_row) cell answers (λ left. record cell.now { answers = left })
