use Rattle.std.proofs.Common.{◌+◌, arith, subst, sym}
use Rattle.std.specs.Prelude.{◌==◌, nat_lt, Ok}
use Rattle.std.specs.Result.{result_and}
use Rattle.qs_world_sites.proofs.Between.{all_carried, all_fifo, met_first, met_second, where_less}
use Rattle.qs_world_sites.proofs.Further.{to_all, to_more, to_none}
use Rattle.qs_world_sites.proofs.Staying.{each_is, linked_each, links_cell}
use Rattle.qs_world_sites.specs.Carrying.{CarriesWhere, WasMet}
use Rattle.qs_world_sites.specs.Sites.{HasOtherLinks, HasSameCell, StaysLinked}
use Rattle.qs_world_sites.proofs.carrying.carry_links.Goals as goal

pub loop-to-init : goal.loop-to-init
loop-to-init g c = record { met = to_none (WasMet (Ok tt)) c.args.sites.now }

pub carry_to-requires-clause-linked : goal.carry_to-requires-clause-linked
carry_to-requires-clause-linked g c = linked_each c.args.sites.now c.loop-to.sites c.requires
    (each_is HasOtherLinks StaysLinked (λ a b other. (links_cell a b other).stays) c.args.sites.now c.loop-to.sites c.loop-to.invariant.met.others)

pub loop-to-preserved : goal.loop-to-preserved
loop-to-preserved g c =
    let was = c.loop-to.carried in
    let here = c.carry_to.result in
    record {
      met = subst (λ came. CarriesWhere (WasMet came) (λ n m. nat_lt m (c.loop-to.to + 1)) c.args.sites.now c.carry_to.new.sites) (sym c.and-carried.ensures)
          (to_more (WasMet (result_and was here)) c.loop-to.to c.args.sites.now c.loop-to.sites c.carry_to.new.sites
          (where_less (WasMet was) (WasMet (result_and was here)) (met_first was here) (λ n m. nat_lt m c.loop-to.to) c.args.sites.now c.loop-to.sites c.loop-to.invariant.met)
          (where_less (WasMet here) (WasMet (result_and was here)) (met_second was here) (λ n m. m == c.loop-to.to) c.loop-to.sites c.carry_to.new.sites c.carry_to.ensures));
    }

pub returns-clause-carries : goal.returns-clause-carries
returns-clause-carries g c = all_carried c.args.sites.now c.loop-to.sites c.loop-to.carried
    (to_all (WasMet c.loop-to.carried) c.loop-to.to c.args.sites.now c.loop-to.sites (let past = c.loop-to-test.false in omega arith) c.loop-to.invariant.met)

pub returns-clause-joined : goal.returns-clause-joined
returns-clause-joined g c = all_fifo c.args.sites.now c.loop-to.sites c.loop-to.carried
    (to_all (WasMet c.loop-to.carried) c.loop-to.to c.args.sites.now c.loop-to.sites (let past = c.loop-to-test.false in omega arith) c.loop-to.invariant.met)

pub returns-clause-cells : goal.returns-clause-cells
returns-clause-cells g c = each_is HasOtherLinks HasSameCell links_cell c.args.sites.now c.loop-to.sites c.loop-to.invariant.met.others

pub returns-clause-linked : goal.returns-clause-linked
returns-clause-linked g c = linked_each c.args.sites.now c.loop-to.sites c.requires
    (each_is HasOtherLinks StaysLinked (λ a b other. (links_cell a b other).stays) c.args.sites.now c.loop-to.sites c.loop-to.invariant.met.others)
