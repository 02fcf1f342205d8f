use Rattle.std.proofs.Common.{◌≡◌, subst}
use Rattle.std.specs.Prelude.{List, OnOk}
use Rattle.std.specs.BTreeMap.{insert_entry}
use Rattle.qs_base.specs.Order.{tid_cmp}
use Rattle.qs_base.specs.declared.identifiers.Tid.{Tid}
use Rattle.qs_tm.specs.declared.participant.Participant.{Participant}
use Rattle.qs_tm.proofs.KnownLemmas.{spanned_after}
use Rattle.qs_tm.proofs.known.Known.put.Goals as goal

pub invariant_of-self : goal.invariant_of-self
invariant_of-self c =
    spanned_after c.touched.result c.args.tid c.args.part c.self.inside.parts c.put.new.self c.put.result
    c.put.ensures.ok c.put.ensures.err c.touched.ensures.within c.touched.ensures.spanned

pub returns-clause-ok : goal.returns-clause-ok
returns-clause-ok c =
    subst (λ (es : List (Tid × Participant)). OnOk c.put.result (c.put.new.self ≡ insert_entry tid_cmp es c.args.tid c.args.part)) c.self.view_is c.put.ensures.ok
