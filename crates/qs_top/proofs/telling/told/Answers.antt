use Rattle.std.proofs.Common.{◌≡◌, ◌∙◌, ap}
use Rattle.qs_book_machine.specs.Lawful.{book_after}
use Rattle.qs_book_machine.specs.Opening.{opening}
use Rattle.qs_text.specs.Given.{given_of}
use Rattle.qs_top.proofs.telling.told.Goals as goal

-- src/telling.rt:22:1
pub returns-clause-output : goal.returns-clause-output
returns-clause-output c = c.in-Ok-given_text.ensures
    ∙ ap (λ book. given_of c.args.script.now c.args.journal.now book c.args.shown)
    (c.book.ensures ∙ (c.in-Ok.ensures.book ∙ ap (λ list. book_after (opening c.args.opened.now) list) c.as_slice.ensures))
