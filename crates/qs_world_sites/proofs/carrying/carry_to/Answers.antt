use Rattle.std.proofs.Common.{◌+◌, arith, subst, sym}
use Rattle.std.specs.Prelude.{◌==◌, ◌&&◌, nat_lt, Ok}
use Rattle.std.specs.Result.{result_and}
use Rattle.qs_world_sites.proofs.Between.{met_first, met_second, where_less}
use Rattle.qs_world_sites.proofs.Further.{from_all, from_more, from_none}
use Rattle.qs_world_sites.proofs.Staying.{each_is, linked_each, links_cell}
use Rattle.qs_world_sites.specs.Carrying.{CarriesWhere, WasMet}
use Rattle.qs_world_sites.specs.Sites.{HasOtherLinks, StaysLinked}
use Rattle.qs_world_sites.proofs.carrying.carry_to.Goals as goal

pub loop-from-init : goal.loop-from-init
loop-from-init g c = record { met = from_none (WasMet (Ok tt)) c.args.to c.args.sites.now }

pub carry_between-requires-clause-linked : goal.carry_between-requires-clause-linked
carry_between-requires-clause-linked g c = linked_each c.args.sites.now c.loop-from.sites c.requires.linked
    (each_is HasOtherLinks StaysLinked (λ a b other. (links_cell a b other).stays) c.args.sites.now c.loop-from.sites c.loop-from.invariant.met.others)

pub loop-from-preserved : goal.loop-from-preserved
loop-from-preserved g c =
    let was = c.loop-from.carried in
    let here = c.carry_between.result in
    record {
      met = subst (λ came. CarriesWhere (WasMet came) (λ n m. nat_lt n (c.loop-from.from + 1) && (m == c.args.to)) c.args.sites.now c.carry_between.new.sites) (sym c.and-carried.ensures)
          (from_more (WasMet (result_and was here)) c.args.to c.loop-from.from c.args.sites.now c.loop-from.sites c.carry_between.new.sites
          (where_less (WasMet was) (WasMet (result_and was here)) (met_first was here) (λ n m. nat_lt n c.loop-from.from && (m == c.args.to)) c.args.sites.now c.loop-from.sites c.loop-from.invariant.met)
          (where_less (WasMet here) (WasMet (result_and was here)) (met_second was here) (λ n m. (n == c.loop-from.from) && (m == c.args.to)) c.loop-from.sites c.carry_between.new.sites c.carry_between.ensures));
    }

pub returns : goal.returns
returns g c = from_all (WasMet c.loop-from.carried) c.args.to c.loop-from.from c.args.sites.now c.loop-from.sites (let past = c.loop-from-test.false in omega arith) c.loop-from.invariant.met
