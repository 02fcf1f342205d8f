-- The order in which the causes of a client's aborts are kept.
use Rattle.std.specs.declared.cmp.Ordering.{Ordering}
use Rattle.qs_ops.specs.declared.answer.Cause.{Cause}
use Rattle.qs_ops.specs.contracts.answer.CauseOrd.TheImpl as cause_ord

-- the order that is derived for causes: of two variants the earlier one is less, and within one the fields decide in turn
abbrev pub cause_cmp : Cause → Cause → Ordering
cause_cmp = (cause_ord.ghosts).cmp
