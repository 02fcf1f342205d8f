use Rattle.std.proofs.Common.{arith, false, refl, subst}
use Rattle.std.specs.Prelude.{IfOk, slice_get}
use Rattle.qs_world_rounds.specs.Breaks as one
use Rattle.qs_world_sites.proofs.Staying.{each_is}
use Rattle.qs_world_sites.proofs.Visiting.{at_turn, came_by, visit_by, visit_nobody}
use Rattle.qs_world_sites.specs.Breaks.{FailsAt, FailsHere, HasRisen, RefusedAt}
use Rattle.qs_world_sites.specs.Late.{IsLate}
use Rattle.qs_world_sites.specs.Rounds.{VisitAt, VisitOfTurn}
use Rattle.qs_world_sites.specs.Sites.{Each, GoesOn, SitesValue, StaysLinked}
use Rattle.qs_world_sites.proofs.sites.Sites.visit.Goals as goal

pub returns-then-place-len-clause-visits : goal.returns-then-place-len-clause-visits
returns-then-place-len-clause-visits g c =
    let before : SitesValue g.row.D.Denot = record { sites = c.self.inside.sites.items; turns = c.self.inside.turns.items } in
    let after : SitesValue g.row.D.Denot = record { sites = c.visit_turn.new.sites.items; turns = c.self.inside.turns.items } in
    subst (λ old. IfOk c.visit_turn.result (VisitAt g.D.Disk.told g.D.Disk.state g.D.Disk.fault_count g.D.Disk.byte_count c.args.place old after)) c.self.view_is
    (visit_by g.D.Disk.told g.D.Disk.state g.D.Disk.fault_count g.D.Disk.byte_count before after c.args.place c.index-turn.result.now (at_turn c.self.inside.turns.items c.args.place _ c.index-turn.result.now (omega arith) c.index-turn.ensures) refl c.visit_turn.result c.visit_turn.ensures.visits)

pub returns-then-place-len-clause-broken : goal.returns-then-place-len-clause-broken
returns-then-place-len-clause-broken g c =
    let before : SitesValue g.row.D.Denot = record { sites = c.self.inside.sites.items; turns = c.self.inside.turns.items } in
    let after : SitesValue g.row.D.Denot = record { sites = c.visit_turn.new.sites.items; turns = c.self.inside.turns.items } in
    λ node is. subst (λ old. FailsAt g.D.Disk.told g.D.Disk.state g.D.Disk.fault_count g.D.Disk.byte_count node c.args.place old after) c.self.view_is
    (came_by g.D.Disk.told g.D.Disk.state g.D.Disk.fault_count g.D.Disk.byte_count before after c.args.place c.index-turn.result.now (at_turn c.self.inside.turns.items c.args.place _ c.index-turn.result.now (omega arith) c.index-turn.ensures) refl (FailsHere g.D.Disk.told g.D.Disk.state g.D.Disk.fault_count g.D.Disk.byte_count node) (c.visit_turn.ensures.broken node is))

pub returns-then-place-len-clause-rose : goal.returns-then-place-len-clause-rose
returns-then-place-len-clause-rose g c =
    let before : SitesValue g.row.D.Denot = record { sites = c.self.inside.sites.items; turns = c.self.inside.turns.items } in
    let after : SitesValue g.row.D.Denot = record { sites = c.visit_turn.new.sites.items; turns = c.self.inside.turns.items } in
    λ node is. subst (λ (old : SitesValue g.row.D.Denot). HasRisen g.D.Disk.fault_count node old.sites after.sites) c.self.view_is (c.visit_turn.ensures.rose node is)

pub returns-then-place-len-clause-refused : goal.returns-then-place-len-clause-refused
returns-then-place-len-clause-refused g c =
    let before : SitesValue g.row.D.Denot = record { sites = c.self.inside.sites.items; turns = c.self.inside.turns.items } in
    let after : SitesValue g.row.D.Denot = record { sites = c.visit_turn.new.sites.items; turns = c.self.inside.turns.items } in
    λ is. subst (λ old. RefusedAt g.D.Disk.told g.D.Disk.state g.D.Disk.fault_count g.D.Disk.byte_count c.args.place old after) c.self.view_is
    (came_by g.D.Disk.told g.D.Disk.state g.D.Disk.fault_count g.D.Disk.byte_count before after c.args.place c.index-turn.result.now (at_turn c.self.inside.turns.items c.args.place _ c.index-turn.result.now (omega arith) c.index-turn.ensures) refl (one.RefusedAt g.D.Disk.told g.D.Disk.state g.D.Disk.fault_count g.D.Disk.byte_count) (c.visit_turn.ensures.refused is))

pub returns-then-place-len-clause-damaged : goal.returns-then-place-len-clause-damaged
returns-then-place-len-clause-damaged g c =
    let before : SitesValue g.row.D.Denot = record { sites = c.self.inside.sites.items; turns = c.self.inside.turns.items } in
    let after : SitesValue g.row.D.Denot = record { sites = c.visit_turn.new.sites.items; turns = c.self.inside.turns.items } in
    λ told is. subst (λ (old : SitesValue g.row.D.Denot). IsLate 0 old.sites) c.self.view_is (c.visit_turn.ensures.damaged told is)

pub returns-then-place-len-clause-stays : goal.returns-then-place-len-clause-stays
returns-then-place-len-clause-stays g c =
    let before : SitesValue g.row.D.Denot = record { sites = c.self.inside.sites.items; turns = c.self.inside.turns.items } in
    let after : SitesValue g.row.D.Denot = record { sites = c.visit_turn.new.sites.items; turns = c.self.inside.turns.items } in
    subst (λ (old : SitesValue g.row.D.Denot). Each GoesOn old.sites after.sites) c.self.view_is
    (each_is StaysLinked GoesOn (λ a b stays. stays.goes_on) before.sites after.sites c.visit_turn.ensures.stays)

pub returns-clause-visits : goal.returns-clause-visits
returns-clause-visits g c = (
  subst (λ (old : SitesValue g.row.D.Denot). VisitOfTurn g.D.Disk.told g.D.Disk.state g.D.Disk.fault_count g.D.Disk.byte_count (slice_get old.turns c.args.place) old.sites old.sites false) c.self.view_is
      (visit_nobody g.D.Disk.told g.D.Disk.state g.D.Disk.fault_count g.D.Disk.byte_count c.self.inside.turns.items c.args.place c.self.inside.sites.items (omega arith)),
  refl,
)
