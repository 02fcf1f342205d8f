use Rattle.std.proofs.Common.{Ok, ap}
use Rattle.qs_record.specs.Grammar.{SpellsMember}
use Rattle.qs_record.specs.Reading.{member_at}
use Rattle.qs_record.proofs.Ahead.{member_found}
use Rattle.qs_record.proofs.Fronts.{found_ahead, value_only, fault_only}
use Rattle.qs_record.proofs.reading.read_member.Goals as goal

pub returns-in_err-member-clause-only : goal.returns-in_err-member-clause-only
returns-in_err-member-clause-only c = λ member next.
    absurd (fault_only (member_at c.ahead-ahead.result) c.in_err-member.field-0.0 member c.in_err-member.ensures.exact
    (found_ahead member_at (SpellsMember member) member c.args.reader.now c.ahead-ahead.result (member_found member) c.ahead-ahead.ensures next))

pub returns-clause-only : goal.returns-clause-only
returns-clause-only c = λ member next.
    ap Ok (value_only (member_at c.ahead-ahead.result) c.in_ok-member.member member c.take_member.new.reader c.in_ok-member.ensures.exact
    (found_ahead member_at (SpellsMember member) member c.args.reader.now c.ahead-ahead.result (member_found member) c.ahead-ahead.ensures next))
