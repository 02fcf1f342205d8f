use Rattle.std.proofs.Common.{◌≡◌, ◌∙◌, ap, inl, length, subst, ℕ, List}
use Rattle.qs_world_plans.specs.Order.{drawn_order}
use Rattle.qs_world_serial.proofs.Repeating.{drawn_long}
use Rattle.qs_world_sites.proofs.Staying.{cell_none, each_same, goes_none}
use Rattle.qs_world_sites.specs.Breaks.{BreaksRound, RefusesRound}
use Rattle.qs_world_sites.specs.Late.{IsLate, RisesBy}
use Rattle.qs_world_sites.specs.Sites.{Each, GoesOn, HasSameCell, count_of}
use Rattle.std.specs.Prelude.{OnOk}
use Rattle.rand_pcg.specs.Lcg.{Lcg}
use Rattle.qs_world_serial.proofs.rounds.next_round.Goals as goal

pub returns-in_err-draw-clause-refused : goal.returns-in_err-draw-clause-refused
returns-in_err-draw-clause-refused g c = λ is. inl (each_same HasSameCell cell_none c.args.sites.now.sites)

pub returns-in_err-draw-clause-stays : goal.returns-in_err-draw-clause-stays
returns-in_err-draw-clause-stays g c = each_same GoesOn goes_none c.args.sites.now.sites

pub returns-clause-broken : goal.returns-clause-broken
returns-clause-broken g c = λ node is.
    subst (λ order. BreaksRound g.D.Disk.told g.D.Disk.state g.D.Disk.fault_count g.D.Disk.byte_count order node c.args.sites.now c.round.new.self)
    (c.as_slice.ensures.value ∙ ap (λ (drawn : List ℕ × Lcg). drawn.0) c.in_ok-draw.ensures.order
    ∙ ap (λ (n : ℕ). (drawn_order n c.args.orders.now.rng).0) c.count.ensures)
    (c.round.ensures.broken node is)

pub returns-clause-refused : goal.returns-clause-refused
returns-clause-refused g c = λ is.
    subst (λ order. RefusesRound g.D.Disk.told g.D.Disk.state g.D.Disk.fault_count g.D.Disk.byte_count order c.args.sites.now c.round.new.self)
    (c.as_slice.ensures.value ∙ ap (λ (drawn : List ℕ × Lcg). drawn.0) c.in_ok-draw.ensures.order
    ∙ ap (λ (n : ℕ). (drawn_order n c.args.orders.now.rng).0) c.count.ensures)
    (c.round.ensures.refused is)

pub returns-clause-damaged : goal.returns-clause-damaged
returns-clause-damaged g c = λ told is.
    let long : length c.as_slice.result.now ≡ count_of c.args.sites.now =
    drawn_long (count_of c.args.sites.now) c.args.orders.now.rng c.as_slice.result.now
    (c.as_slice.ensures.value ∙ ap (λ (drawn : List ℕ × Lcg). drawn.0) c.in_ok-draw.ensures.order
    ∙ ap (λ (n : ℕ). (drawn_order n c.args.orders.now.rng).0) c.count.ensures) in
    subst (λ (k : ℕ). IsLate k c.args.sites.now.sites) long (c.round.ensures.damaged told is)

pub returns-clause-rises : goal.returns-clause-rises
returns-clause-rises g c =
    let long : length c.as_slice.result.now ≡ count_of c.args.sites.now =
    drawn_long (count_of c.args.sites.now) c.args.orders.now.rng c.as_slice.result.now
    (c.as_slice.ensures.value ∙ ap (λ (drawn : List ℕ × Lcg). drawn.0) c.in_ok-draw.ensures.order
    ∙ ap (λ (n : ℕ). (drawn_order n c.args.orders.now.rng).0) c.count.ensures) in
    subst (λ (k : ℕ). OnOk c.round.result (Each (RisesBy k) c.args.sites.now.sites c.round.new.self.sites)) long c.round.ensures.rises
