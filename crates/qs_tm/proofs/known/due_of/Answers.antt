use Rattle.std.proofs.Common.{◌≡◌, ◌∙◌, sym, subst}
use Rattle.std.specs.Prelude.{List, [], Some, IfOk}
use Rattle.qs_base.specs.declared.identifiers.Tid.{Tid}
use Rattle.qs_base.proofs.Same.{same_tid-true}
use Rattle.qs_tm.specs.Known.{IsSpanned}
use Rattle.qs_tm.proofs.KnownLemmas.{due_between}
use Rattle.qs_tm.proofs.known.due_of.Goals as goal

pub due_alone-requires : goal.due_alone-requires
due_alone-requires c =
    subst (λ (last : Tid). IsSpanned (Some (c.args.span.0, last)) c.args.parts.now)
    (sym (same_tid-true c.args.span.0 c.args.span.1 (sym c.eq.ensures ∙ c.if-eq.true))) c.requires

pub returns-else-eq : goal.returns-else-eq
returns-else-eq c =
    subst (λ (all : List Tid). IfOk c.due_in.result (λ tids. tids ≡ all)) (due_between c.args.span [] c.args.parts.now c.requires.due) c.due_in.ensures
