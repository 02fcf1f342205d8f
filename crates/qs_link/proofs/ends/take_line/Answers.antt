use Rattle.std.proofs.Common.{◌∙◌, sym, ap, get_or}
use Rattle.qs_link.specs.Lanes.{line_of, without_line}
use Rattle.qs_link.proofs.Places.{change_at, change_none, find_at_place, find_none}
use Rattle.qs_link.proofs.ends.take_line.Goals as goal

pub returns-in-Some-clause-line : goal.returns-in-Some-clause-line
returns-in-Some-clause-line c =
    c.take.ensures.line ∙ sym (ap line_of (find_at_place c.args.client c.args.ends.now c.in-Some.at c.index-ends-at.result (sym c.place.ensures ∙ c.in-Some.is)))

pub returns-in-Some-clause-left : goal.returns-in-Some-clause-left
returns-in-Some-clause-left c =
    change_at c.args.client without_line c.args.ends.now c.in-Some.at _ c.index-ends-at.result (sym c.place.ensures ∙ c.in-Some.is)
    (ap (λ draw. record (get_or c.args.ends.now c.in-Some.at c.index-ends-at.result) { commands = draw }) c.take.ensures.left)

pub returns-in-None-clause-line : goal.returns-in-None-clause-line
returns-in-None-clause-line c = sym (ap line_of (find_none c.args.client c.args.ends.now (sym c.place.ensures ∙ c.in-None.is)))

pub returns-in-None-clause-left : goal.returns-in-None-clause-left
returns-in-None-clause-left c = change_none c.args.client without_line c.args.ends.now (sym c.place.ensures ∙ c.in-None.is)
