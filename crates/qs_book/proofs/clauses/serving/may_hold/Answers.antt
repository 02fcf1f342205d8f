use Rattle.std.proofs.Common.{refl}
use Rattle.qs_book.proofs.clauses.serving.may_hold.Goals as goal

-- src/clauses/serving.rt:86:1
pub returns : goal.returns
returns c = rw (c.holds_as.ensures, c.find.ensures, c.inc.ensures) refl
