use Rattle.std.proofs.Common.{sym, subst}
use Rattle.std.specs.Prelude.{List}
use Rattle.std.specs.BTreeMap.{is_at}
use Rattle.qs_base.specs.Order.{tid_cmp}
use Rattle.qs_base.specs.declared.identifiers.Tid.{Tid}
use Rattle.qs_tm.specs.Known.{AreInSpan}
use Rattle.qs_tm.specs.declared.participant.Participant.{Participant}
use Rattle.qs_tm.proofs.KnownLemmas.{spanned_remove}
use Rattle.qs_tm.proofs.known.Known.remove.Goals as goal

pub invariant_of-self : goal.invariant_of-self
invariant_of-self c = record {
  forward = c.self.invariant.forward;
  due = subst (λ (es : List (Tid × Participant)). AreInSpan c.self.inside.span es) (sym c.remove.ensures)
      (spanned_remove c.self.inside.span (is_at (tid_cmp c.args.tid.now)) c.self.inside.parts c.self.invariant.due);
}
