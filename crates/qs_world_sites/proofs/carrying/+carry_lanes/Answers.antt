use Rattle.std.proofs.Common.{◌≡◌, ◌∷◌, refl, rules, subst, sym}
use Rattle.qs_cell.proofs.Turning.{on_ok_map}
use Rattle.qs_world_sites.proofs.Staying.{cell_none, each_more, each_same, same_cell}
use Rattle.qs_world_sites.specs.Carrying.{HasSameLinks}
use Rattle.qs_world_sites.specs.Sites.{CarriesLanes, Each, HasSameCell}
use Rattle.qs_world_sites.proofs.carrying.+carry_lanes.Goals as goal

pub returns-in_err-carry-in-Some-clause-cells : goal.returns-in_err-carry-in-Some-clause-cells
returns-in_err-carry-in-Some-clause-cells g t c =
    let split : c.args.sites.now ≡ c.in-Some.site.now ∷ c.in-Some.sites.now = search rules in
    subst (λ l. Each HasSameCell l (c.carry.new.self ∷ c.in-Some.sites.now)) (sym split)
    (each_more HasSameCell c.in-Some.site.now c.carry.new.self c.in-Some.sites.now c.in-Some.sites.now
    (same_cell c.in-Some.site.now c.carry.new.self c.carry.ensures.node c.carry.ensures.links c.carry.ensures.start) (each_same HasSameCell cell_none c.in-Some.sites.now))

pub returns-in_ok-carry-in-Some-clause-carries : goal.returns-in_ok-carry-in-Some-clause-carries
returns-in_ok-carry-in-Some-clause-carries g t c =
    let split : c.args.sites.now ≡ c.in-Some.site.now ∷ c.in-Some.sites.now = search rules in
    on_ok_map c.carry_lanes.result c.carry_lanes.ensures.carries (λ rest.
    subst (λ l. Each CarriesLanes l (c.carry.new.self ∷ c.carry_lanes.new.sites)) (sym split)
    (each_more CarriesLanes c.in-Some.site.now c.carry.new.self c.in-Some.sites.now c.carry_lanes.new.sites c.in_ok-carry-in-Some.ensures.carries rest))

pub returns-in_ok-carry-in-Some-clause-cells : goal.returns-in_ok-carry-in-Some-clause-cells
returns-in_ok-carry-in-Some-clause-cells g t c =
    let split : c.args.sites.now ≡ c.in-Some.site.now ∷ c.in-Some.sites.now = search rules in
    subst (λ l. Each HasSameCell l (c.carry.new.self ∷ c.carry_lanes.new.sites)) (sym split)
    (each_more HasSameCell c.in-Some.site.now c.carry.new.self c.in-Some.sites.now c.carry_lanes.new.sites
    (same_cell c.in-Some.site.now c.carry.new.self c.carry.ensures.node c.carry.ensures.links c.carry.ensures.start) c.carry_lanes.ensures.cells)

pub returns-in_err-carry-in-Some-clause-links : goal.returns-in_err-carry-in-Some-clause-links
returns-in_err-carry-in-Some-clause-links g t c =
    let split : c.args.sites.now ≡ c.in-Some.site.now ∷ c.in-Some.sites.now = search rules in
    subst (λ l. Each HasSameLinks l (c.carry.new.self ∷ c.in-Some.sites.now)) (sym split)
    (each_more HasSameLinks c.in-Some.site.now c.carry.new.self c.in-Some.sites.now c.in-Some.sites.now c.carry.ensures.links (each_same HasSameLinks (λ a. refl) c.in-Some.sites.now))

pub returns-in_ok-carry-in-Some-clause-links : goal.returns-in_ok-carry-in-Some-clause-links
returns-in_ok-carry-in-Some-clause-links g t c =
    let split : c.args.sites.now ≡ c.in-Some.site.now ∷ c.in-Some.sites.now = search rules in
    subst (λ l. Each HasSameLinks l (c.carry.new.self ∷ c.carry_lanes.new.sites)) (sym split)
    (each_more HasSameLinks c.in-Some.site.now c.carry.new.self c.in-Some.sites.now c.carry_lanes.new.sites c.carry.ensures.links c.carry_lanes.ensures.links)
