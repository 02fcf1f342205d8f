use Rattle.std.proofs.Common.{sym, ◌∙◌}
use Rattle.qs_book_script.proofs.LineLemmas.{line_at, last_line}
use Rattle.qs_text_history.proofs.lines.next_line.Goals as goal

pub returns-in-Some-clause-first : goal.returns-in-Some-clause-first
returns-in-Some-clause-first c = rw (c.split_at.ensures.front, c.split_at-in-Some.ensures.back) (line_at c.args.text.now c.in-Some.at (sym c.first_line_feed.ensures.place ∙ c.in-Some.is))

pub returns-in-None-clause-first : goal.returns-in-None-clause-first
returns-in-None-clause-first c = last_line c.args.text.now c.requires (sym c.first_line_feed.ensures.place ∙ c.in-None.is)
