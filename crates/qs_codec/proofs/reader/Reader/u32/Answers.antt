use Rattle.std.proofs.Common.{◌+◌, subst, ap, Ok}
use Rattle.qs_codec.specs.Grammar.{Word}
use Rattle.qs_codec.specs.Reading.{Reading, Reads, reading_at}
use Rattle.qs_codec.proofs.ReadingLemmas.{read_word, only_word, no_word}
use Rattle.qs_codec.proofs.reader.Reader.u32.Goals as goal

pub returns-in_err-number-clause-only : goal.returns-in_err-number-clause-only
returns-in_err-number-clause-only c = λ n next.
    absurd (no_word c.args.self.now (reading_at c.self.inside.bytes.now c.self.inside.at) c.in_err-number.field-0.0 n c.self.view_is c.in_err-number.ensures.exact next)

pub returns-clause-value : goal.returns-clause-value
returns-clause-value c =
    let new : Reading = reading_at c.self.inside.bytes.now (c.self.inside.at + 4) in
    subst (λ (r : Reading). Reads (Word c.in_ok-number.number) r new) c.self.view_is
    (read_word (reading_at c.self.inside.bytes.now c.self.inside.at) new c.in_ok-number.number c.self.invariant.1 c.in_ok-number.ensures.exact)

pub returns-clause-only : goal.returns-clause-only
returns-clause-only c = λ n next.
    ap Ok (only_word c.args.self.now (reading_at c.self.inside.bytes.now c.self.inside.at) (reading_at c.self.inside.bytes.now (c.self.inside.at + 4))
    c.in_ok-number.number n c.self.view_is c.in_ok-number.ensures.exact next)
