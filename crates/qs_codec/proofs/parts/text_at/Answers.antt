use Rattle.std.proofs.Common.{rules, ap, ◌∙◌, sym}
use Rattle.qs_codec.specs.Reading.{reading_at, checked_text}
use Rattle.qs_codec.proofs.ReadingLemmas.{text_at_checked, text_at_whole}
use Rattle.qs_codec.proofs.parts.text_at.Goals as goal

-- src/parts.rt:84:9
pub returns-in-Some-clause-exact : goal.returns-in-Some-clause-exact
returns-in-Some-clause-exact c =
    text_at_checked c.args.bytes.now c.args.at c.args.max c.in_ok-length.length c.in_ok-text.text.now
    c.in_ok-length.ensures.exact (search rules) (search rules) (search rules)
    ∙ ap (checked_text (reading_at c.args.bytes.now c.args.at)) (sym c.in-Some.ensures)

-- src/parts.rt:71:1
pub returns-clause-exact : goal.returns-clause-exact
returns-clause-exact c =
    text_at_whole c.args.bytes.now c.args.at c.args.max c.in_ok-length.length c.in_ok-text.text.now
    c.in_ok-length.ensures.exact (search rules) (search rules) (search rules) c.in_default.ensures
