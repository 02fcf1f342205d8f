use Rattle.std.specs.Prelude.{nat_lt}
use Rattle.qs_world_sites.specs.Carrying.{CarriesWhere, WasMet}
use Rattle.qs_world_sites.proofs.carrying.carry_links.Given as goal

abbrev pub invariant-loop-to : goal.invariant-loop-to
invariant-loop-to g l = record {
  met : CarriesWhere {D = g.row.D.Denot} (WasMet l.carried) (λ n m. nat_lt m l.to) l.initial.sites l.sites;
}
