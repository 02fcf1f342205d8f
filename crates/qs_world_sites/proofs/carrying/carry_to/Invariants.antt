use Rattle.std.specs.Prelude.{◌==◌, ◌&&◌, nat_lt}
use Rattle.qs_world_sites.specs.Carrying.{CarriesWhere, WasMet}
use Rattle.qs_world_sites.proofs.carrying.carry_to.Given as goal

abbrev pub invariant-loop-from : goal.invariant-loop-from
invariant-loop-from g l = record {
  met : CarriesWhere {D = g.row.D.Denot} (WasMet l.carried) (λ n m. nat_lt n l.from && (m == l.to)) l.initial.sites l.sites;
}
