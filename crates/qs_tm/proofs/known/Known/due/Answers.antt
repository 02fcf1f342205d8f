-- Where none is listed, the span may be given up.
use Rattle.std.proofs.Common.{◌∙◌, ap, sym, [], fold}
use Rattle.std.specs.Prelude.{List}
use Rattle.qs_base.specs.declared.identifiers.Tid.{Tid}
use Rattle.qs_tm.specs.Manager.{put_tid}
use Rattle.qs_tm.specs.declared.manager.Which.TheVariants as whiches
use Rattle.qs_tm.specs.declared.participant.Participant.{Participant}
use Rattle.qs_tm.proofs.KnownLemmas.{none_left}
use Rattle.qs_tm.proofs.known.Known.due.Goals as goal

pub invariant_of-self : goal.invariant_of-self
invariant_of-self c = record {
  forward = tt;
  due = none_left c.in_ok-tids.tids c.self.inside.parts
      (c.in_ok-tids.ensures ∙ ap (λ (all : List (Tid × Participant)). fold (put_tid whiches.Due) [] all) (sym c.self.view_is))
      c.if-is_empty.ensures;
}
