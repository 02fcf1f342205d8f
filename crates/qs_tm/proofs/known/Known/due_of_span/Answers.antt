use Rattle.std.proofs.Common.{◌≡◌, ◌∙◌, ap, sym, subst}
use Rattle.std.specs.Prelude.{List, [], Option, None, fold, IfOk}
use Rattle.qs_base.specs.declared.identifiers.Tid.{Tid}
use Rattle.qs_tm.specs.Known.{AreInSpan}
use Rattle.qs_tm.specs.Manager.{put_tid}
use Rattle.qs_tm.specs.declared.manager.Which.TheVariants as whiches
use Rattle.qs_tm.proofs.KnownLemmas.{nothing_due}
use Rattle.qs_tm.proofs.known.Known.due_of_span.Goals as goal

pub returns-in-Some : goal.returns-in-Some
returns-in-Some c =
    subst (λ (all : List Tid). IfOk c.due_of.result (λ tids. tids ≡ all)) (ap (fold (put_tid whiches.Due) []) c.self.view_is) c.due_of.ensures

pub returns-in-None : goal.returns-in-None
returns-in-None c =
    let due : AreInSpan None c.self.inside.parts = subst (λ (s : Option (Tid × Tid)). AreInSpan s c.self.inside.parts) c.in-None.is c.self.invariant.due in
    c.new.ensures ∙ sym (nothing_due [] c.self.inside.parts due) ∙ ap (fold (put_tid whiches.Due) []) c.self.view_is
