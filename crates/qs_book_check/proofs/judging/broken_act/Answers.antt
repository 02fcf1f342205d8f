use Rattle.std.proofs.Common.{◌∙◌, ap, sym}
use Rattle.qs_book_journal.specs.declared.entry.Act.{Act}
use Rattle.qs_book_conformance.specs.Rules.{broken_act}
use Rattle.qs_book_check.proofs.judging.broken_act.Goals as goal

pub returns-in-Issue : goal.returns-in-Issue
returns-in-Issue c =
    c.broken_issue.ensures ∙ ap (λ (act : Act). broken_act c.args.course.now c.args.stamp c.args.here.0 act) (sym c.in-Issue.is)

pub returns-in-Yield : goal.returns-in-Yield
returns-in-Yield c =
    c.broken_yield.ensures ∙ ap (λ (act : Act). broken_act c.args.course.now c.args.stamp c.args.here.0 act) (sym c.in-Yield.is)
