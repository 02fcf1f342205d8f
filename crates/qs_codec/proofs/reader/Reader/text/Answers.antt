use Rattle.std.proofs.Common.{◌+◌, subst, length}
use Rattle.qs_codec.specs.Grammar.{Text}
use Rattle.qs_codec.specs.Reading.{Reading, Reads, reading_at}
use Rattle.qs_codec.proofs.ReadingLemmas.{read_text, only_text, no_text}
use Rattle.qs_codec.proofs.reader.Reader.text.Goals as goal

pub returns-clause-value : goal.returns-clause-value
returns-clause-value c =
    let new : Reading = reading_at c.self.inside.bytes.now (c.self.inside.at + (4 + length c.in_ok-text.text.now)) in
    subst (λ (r : Reading). Reads (Text c.in_ok-text.text.now) r new) c.self.view_is
    (read_text c.args.max (reading_at c.self.inside.bytes.now c.self.inside.at) new c.in_ok-text.text.now c.self.invariant.1 c.in_ok-text.ensures.exact).0

pub returns-clause-only : goal.returns-clause-only
returns-clause-only c = λ text fits next.
    only_text c.args.max c.args.self.now (reading_at c.self.inside.bytes.now c.self.inside.at) (reading_at c.self.inside.bytes.now (c.self.inside.at + (4 + length c.in_ok-text.text.now)))
    c.in_ok-text.text.now text c.self.view_is c.in_ok-text.ensures.exact fits next

pub returns-in_err-text-clause-only : goal.returns-in_err-text-clause-only
returns-in_err-text-clause-only c = λ text fits next.
    absurd (no_text c.args.max c.args.self.now (reading_at c.self.inside.bytes.now c.self.inside.at) c.in_err-text.field-0.0 text c.self.view_is c.in_err-text.ensures.exact fits next)
