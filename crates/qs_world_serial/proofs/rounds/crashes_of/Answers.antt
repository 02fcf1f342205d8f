use Rattle.std.proofs.Common.{◌≡◌, ◌≤◌, ◌∙◌, ℕ, ap, arith, min, sym, take}
use Rattle.std.proofs.lemmas.List.Sums.{fold_more}
use Rattle.std.specs.List.{fold}
use Rattle.qs_world_sites.specs.Endings.{add_crashes}
use Rattle.qs_world_serial.proofs.rounds.crashes_of.Goals as goal

at_most : (a b r : ℕ) → r ≡ min a b → r ≤ b
at_most a b r is = omega (arith, is)

pub loop-site-preserved : goal.loop-site-preserved
loop-site-preserved g c = record {
  summed = c.add_crashes-crashes.ensures
      ∙ (ap (λ s. add_crashes {D = g.row.D.Denot} s c.site-item.result) c.loop-site.invariant.summed
      ∙ (ap (add_crashes {D = g.row.D.Denot} (fold (add_crashes {D = g.row.D.Denot}) 0 (take c.loop-site.site-index c.args.sites.now))) c.site-item.is
      ∙ sym (fold_more (add_crashes {D = g.row.D.Denot}) 0 c.args.sites.now c.loop-site.site-index c.site-item.result c.loop-site-test.true)));
  low = at_most _ 64 c.add_crashes-crashes.result c.add_crashes-crashes.ensures;
}
