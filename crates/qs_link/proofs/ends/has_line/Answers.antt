use Rattle.std.proofs.Common.{◌∙◌, ap, sym}
use Rattle.std.specs.Prelude.{is_some}
use Rattle.qs_link.specs.Lanes.{line_of}
use Rattle.qs_link.proofs.Places.{find_at_place, find_none}
use Rattle.qs_link.proofs.ends.has_line.Goals as goal

pub returns-in-Some : goal.returns-in-Some
returns-in-Some c =
    c.has_command.ensures ∙ sym (ap (λ end. is_some (line_of end)) (find_at_place c.args.client c.args.ends.now c.in-Some.at c.index-ends-at.result (sym c.place.ensures ∙ c.in-Some.is)))

pub returns-in-None : goal.returns-in-None
returns-in-None c = sym (ap (λ end. is_some (line_of end)) (find_none c.args.client c.args.ends.now (sym c.place.ensures ∙ c.in-None.is)))
