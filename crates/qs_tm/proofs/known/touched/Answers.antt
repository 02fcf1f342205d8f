use Rattle.std.proofs.Common.{subst}
use Rattle.std.specs.Prelude.{Option, Some}
use Rattle.qs_base.specs.declared.identifiers.Tid.{Tid}
use Rattle.qs_tm.specs.Known.{AreInSpan}
use Rattle.qs_tm.proofs.KnownLemmas.{alone, of_none}
use Rattle.qs_tm.proofs.known.touched.Goals as goal

pub returns-in-None-clause-spanned : goal.returns-in-None-clause-spanned
returns-in-None-clause-spanned c = record {
  forward = alone c.args.tid;
  due = of_none (Some (c.args.tid, c.args.tid)) c.args.parts.now (subst (λ (s : Option (Tid × Tid)). AreInSpan s c.args.parts.now) c.in-None.is c.requires.due);
}
