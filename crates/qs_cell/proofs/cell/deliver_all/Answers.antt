use Rattle.std.proofs.Common.{◌∙◌, ap, subst, sym, refl, [], ◌∷◌}
use Rattle.std.proofs.lemmas.List.Sums.{fold-append}
use Rattle.qs_cell.specs.Joined.{HaveSameRings}
use Rattle.qs_cell.specs.Visits.{deliver}
use Rattle.qs_cell.proofs.Rings.{rings_none, rings_on, rings_delivered}
use Rattle.qs_cell.proofs.cell.deliver_all.Goals as goal

pub loop-said-init : goal.loop-said-init
loop-said-init c = record { answers = refl; rings = rings_none c.args.ends.now.items }

pub loop-said-preserved : goal.loop-said-preserved
loop-said-preserved c = record {
  answers = c.in_ok-deliver_one.ensures.ok ∙ ap (λ ends. deliver ends c.in-Some.said) c.loop-said.invariant.answers
      ∙ sym (fold-append deliver c.args.ends.now.items c.loop-said.yielded (c.in-Some.said ∷ []));
  rings = rings_on c.args.ends.now.items c.loop-said.ends.items c.deliver_one.new.ends.items c.loop-said.invariant.rings
      (subst (HaveSameRings c.loop-said.ends.items) (sym c.in_ok-deliver_one.ensures.ok) (rings_delivered c.loop-said.ends.items c.in-Some.said));
}
